-- `tpmi_banks::faults::bank_of` meets its contract: all sums stay far below 2 to the 64. Assumes nothing.
use mathlib.Core.Path.{refl}
use Rattle.tpmi_banks.specs.Faults.{bank_of}
use Rattle.tpmi_banks.proofs.faults.bank_of.Goals as goal

pub returns-clause-answer : goal.returns-clause-answer
unfolding bank_of
returns-clause-answer c = refl
