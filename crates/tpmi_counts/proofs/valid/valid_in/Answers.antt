-- `tpmi_counts::valid::valid_in` meets its contract: the bank of an entry leaves room. Assumes nothing.
use mathlib.Core.Path.{ap}
use native.Mathlib.Omega.{arith}
use Rattle.tpmi_banks.specs.declared.faults.Bank.{Bank}
use Rattle.tpmi_banks.proofs.FaultLaws.{bank_words, bank_instances}
use Rattle.tpmi_counts.proofs.valid.valid_in.Goals as goal

pub overflow_mul-b : goal.overflow_mul-b
overflow_mul-b c = omega (arith, bank_words c.args.entries.bar.now c.args.entries.table c.args.k, ap (λ (b : Bank). b.words) c.bank_in-b.ensures.answer)

pub count_valid-requires : goal.count_valid-requires
count_valid-requires c = (
  omega (arith, c.bank_in-b.ensures.near),
  omega (arith, bank_words c.args.entries.bar.now c.args.entries.table c.args.k, ap (λ (b : Bank). b.words) c.bank_in-b.ensures.answer),
  omega (arith, bank_instances c.args.entries.bar.now c.args.entries.table c.args.k, ap (λ (b : Bank). b.instances) c.bank_in-b.ensures.answer),
)
