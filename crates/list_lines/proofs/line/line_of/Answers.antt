-- `list_lines::line::line_of` meets its contract: nothing for an empty entry, else its numbers. Assumes nothing.
use Prim.Native.Nat.{ℕ, ◌*◌}
use mathlib.Core.Path.{sym, ap, ◌∙◌}
use mathlib.Core.List.{[], ◌∷◌}
use native.Mathlib.Omega.{arith}
use Rattle.tpmi_banks.specs.declared.faults.Bank.{Bank}
use Rattle.tpmi_banks.proofs.FaultLaws.{bank_words}
use Rattle.tpmi_counts.specs.Valid.{valid_count_in}
use Rattle.list_lines.proofs.LineLaws.{line_none, line_there}
use Rattle.list_lines.proofs.line.line_of.Goals as goal

pub returns-then-empty : goal.returns-then-empty
returns-then-empty c = record { answer = sym (line_none c.args.entries.bar.now c.args.entries.table c.args.k c.bank_in-b.ensures.answer (sym c.if-empty.ensures.answer)) }

pub overflow_mul-result : goal.overflow_mul-result
overflow_mul-result c = omega (arith, bank_words c.args.entries.bar.now c.args.entries.table c.args.k, ap (λ (b : Bank). b.words) c.bank_in-b.ensures.answer)

pub returns : goal.returns
returns c = let count = c.valid_in.ensures.answer ∙ ap (λ (k : Bank). valid_count_in c.args.entries.bar.now k.start (k.words * 4) k.instances) (sym c.bank_in-b.ensures.answer) in record {
  answer = ap (λ (n : ℕ). c.bank_in-b.result.id ∷ c.bank_in-b.result.instances ∷ n ∷ c.bank_in-b.result.words * 4 ∷ c.bank_in-b.result.start ∷ []) count
      ∙ sym (line_there c.args.entries.bar.now c.args.entries.table c.args.k c.bank_in-b.ensures.answer (sym c.if-empty.ensures.answer));
}
