-- The invariant: no entry so far has a fault. Assumes nothing.
use mathlib.Core.Path.{◌≡◌}
use Rattle.words.specs.Below.{first_below}
use Rattle.tpmi_banks.specs.Faults.{fault_at}
use Rattle.tpmi_banks.proofs.faults.Entries.faults.Given as goal

abbrev pub invariant-loop-k : goal.invariant-loop-k
invariant-loop-k l = first_below (fault_at l.self.bar.now l.self.table l.count) l.k ≡ 0
