-- The invariant: the search from here on gives the answer. Assumes nothing.
use Prim.Native.Nat.{◌-◌}
use mathlib.Core.Path.{◌≡◌}
use Rattle.words.specs.Below.{least}
use Rattle.tpmi_features.specs.Instances.{bears, index_in}
use Rattle.tpmi_features.proofs.instances.feature_in.Given as goal

abbrev pub invariant-loop-k : goal.invariant-loop-k
invariant-loop-k l = least (bears l.entries.bar.now l.entries.table l.id) (l.count - l.k) l.k ≡ index_in l.entries.bar.now l.entries.table l.count l.id
