-- `tpmi_structure::structure::write` meets its contract: a refusal stores nothing, and two words stored are the structure. Assumes nothing.
use mathlib.Core.Path.{◌≡◌, refl, sym, ap, ap₂, ◌∙◌}
use mathlib.Core.List.{List, []}
use native.Mathlib.Omega.{arith}
use Prim.Native.Nat.{ℕ}
use Rattle.words.specs.Bytes.{stored}
use Rattle.words.specs.Told.{passes}
use Rattle.words.proofs.DoneLaws.{handed_on}
use Rattle.fields.proofs.Structures.{word_refused, word_wide, word_given}
use Rattle.tpmi_structure.specs.Structure.{low_widths, high_widths, low_values, high_values, write_number}
use Rattle.tpmi_structure.proofs.StructureLaws.{fixed_right, wide_odd, wide_low, wide_high, fit_words, write_short, write_wrong, write_wide, write_right, written_refused, written_words}
use Rattle.tpmi_structure.proofs.structure.write.Goals as goal

pub returns-then-part-lt16 : goal.returns-then-part-lt16
returns-then-part-lt16 c =
    let n : write_number c.args.part.now c.args.v ≡ 25 = write_short c.args.part.now c.args.v c.if-part-lt16.true in
    record { answer = ap passes (sym n); kept = sym (written_refused c.args.part.now c.args.v (λ z. omega arith)) }

pub returns-then-fixed_wrong : goal.returns-then-fixed_wrong
returns-then-fixed_wrong c =
    let n : write_number c.args.part.now c.args.v ≡ 5 = write_wrong c.args.part.now c.args.v c.if-part-lt16.false (sym c.if-fixed_wrong.ensures.answer) in
    record { answer = ap passes (sym n); kept = sym (written_refused c.args.part.now c.args.v (λ z. omega arith)) }

pub returns-then-v-ne0 : goal.returns-then-v-ne0
returns-then-v-ne0 c =
    let n : write_number c.args.part.now c.args.v ≡ 17 = write_wide c.args.part.now c.args.v c.if-part-lt16.false (sym c.if-fixed_wrong.ensures.answer) (wide_odd c.args.v c.if-v-ne0.true) in
    record { answer = ap passes (sym n); kept = sym (written_refused c.args.part.now c.args.v (λ z. omega arith)) }

pub returns-in_err-low : goal.returns-in_err-low
returns-in_err-low c =
    let right = sym c.if-fixed_wrong.ensures.answer in
    let wide = word_refused low_widths (low_values c.args.v) refl (omega arith) _ (sym c.in_err-low.ensures.answer) in
    let n : write_number c.args.part.now c.args.v ≡ 17 = write_wide c.args.part.now c.args.v c.if-part-lt16.false right (wide_low c.args.v (fixed_right c.args.v right) wide) in
    record {
      answer = handed_on (λ x. []) c.from_residual.result c.from_residual.ensures.1 ∙ c.in_err-low.ensures.answer
          ∙ word_wide low_widths (low_values c.args.v) refl (omega arith) wide ∙ ap passes (sym n);
      kept = sym (written_refused c.args.part.now c.args.v (λ z. omega arith));
    }

pub returns-in_err-high : goal.returns-in_err-high
returns-in_err-high c =
    let right = sym c.if-fixed_wrong.ensures.answer in
    let wide = word_refused high_widths (high_values c.args.v) refl (omega arith) _ (sym c.in_err-high.ensures.answer) in
    let n : write_number c.args.part.now c.args.v ≡ 17 = write_wide c.args.part.now c.args.v c.if-part-lt16.false right (wide_high c.args.v (fixed_right c.args.v right) wide) in
    record {
      answer = handed_on (λ x. []) c.from_residual-in_err-high.result c.from_residual-in_err-high.ensures.1 ∙ c.in_err-high.ensures.answer
          ∙ word_wide high_widths (high_values c.args.v) refl (omega arith) wide ∙ ap passes (sym n);
      kept = sym (written_refused c.args.part.now c.args.v (λ z. omega arith));
    }

pub returns : goal.returns
returns c =
    let low = word_given low_widths (low_values c.args.v) refl (omega arith) _ (sym c.in_ok-low.ensures.answer) in
    let high = word_given high_widths (high_values c.args.v) refl (omega arith) _ (sym c.in_ok-high.ensures.answer) in
    let n : write_number c.args.part.now c.args.v ≡ 0 =
    write_right c.args.part.now c.args.v c.if-part-lt16.false (sym c.if-fixed_wrong.ensures.answer) (fit_words c.args.v c.if-v-ne0.false low.0 high.0) in
    record {
      answer = ap passes (sym n);
      kept = c.store_u64-2.ensures.kept
          ∙ ap₂ (λ (xs : List ℕ) (x : ℕ). stored xs 8 8 x) (c.store_u64.ensures.kept ∙ ap (stored c.args.part.now 0 8) (sym low.1)) (omega (arith, high.1))
          ∙ written_words c.args.part.now c.args.v n;
    }
