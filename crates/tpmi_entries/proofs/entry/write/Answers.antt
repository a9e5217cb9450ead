-- `tpmi_entries::entry::write` meets its contract: a refusal stores nothing, and the word stored is the entry. Assumes nothing.
use mathlib.Core.Path.{◌≡◌, refl, sym, ap, ◌∙◌}
use mathlib.Core.List.{[]}
use native.Mathlib.Omega.{arith}
use Rattle.words.specs.Bytes.{stored}
use Rattle.words.specs.Told.{passes}
use Rattle.words.proofs.DoneLaws.{handed_on}
use Rattle.fields.proofs.Structures.{word_refused, word_wide, word_given}
use Rattle.tpmi_entries.specs.Entry.{widths, values, write_number}
use Rattle.tpmi_entries.proofs.EntryLaws.{write_short, write_wide, write_right, written_refused, written_accepted}
use Rattle.tpmi_entries.proofs.entry.write.Goals as goal

pub returns-then-part-lt8 : goal.returns-then-part-lt8
returns-then-part-lt8 c = let n : write_number c.args.part.now c.args.e ≡ 25 = write_short c.args.part.now c.args.e c.if-part-lt8.true in record { answer = ap passes (sym n); kept = sym (written_refused c.args.part.now c.args.e (λ z. omega arith)) }

pub returns-in_err-word : goal.returns-in_err-word
returns-in_err-word c = let wide = word_refused widths (values c.args.e) refl (omega arith) _ (sym c.in_err-word.ensures.answer) in let n : write_number c.args.part.now c.args.e ≡ 17 = write_wide c.args.part.now c.args.e c.if-part-lt8.false wide in record {
  answer = handed_on (λ x. []) c.from_residual.result c.from_residual.ensures.1 ∙ c.in_err-word.ensures.answer ∙ word_wide widths (values c.args.e) refl (omega arith) wide ∙ ap passes (sym n);
  kept = sym (written_refused c.args.part.now c.args.e (λ z. omega arith));
}

pub returns : goal.returns
returns c = let made = word_given widths (values c.args.e) refl (omega arith) _ (sym c.in_ok-word.ensures.answer) in let n : write_number c.args.part.now c.args.e ≡ 0 = write_right c.args.part.now c.args.e c.if-part-lt8.false made.0 in record { answer = ap passes (sym n); kept = c.store_u64.ensures.kept ∙ ap (stored c.args.part.now 0 8) (sym made.1) ∙ sym (written_accepted c.args.part.now c.args.e n) }
