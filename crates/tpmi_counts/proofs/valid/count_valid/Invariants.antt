-- The invariant: the total is the count of the instances before `first`. The measure is the instances left. Assumes nothing.
use Prim.Native.Nat.{◌-◌, ◌≤◌}
use mathlib.Core.Path.{◌≡◌}
use Rattle.fields.specs.Masks.{how_many}
use Rattle.tpmi_counts.specs.Valid.{valid_in}
use Rattle.tpmi_counts.proofs.valid.count_valid.Given as goal

abbrev pub invariant-loop-first : goal.invariant-loop-first
invariant-loop-first l = record {
  within : l.first ≤ l.count;
  counted : l.total ≡ how_many (valid_in l.bar l.start l.size) l.first;
}

abbrev pub decreases-loop-first : goal.decreases-loop-first
decreases-loop-first l = l.count - l.first
