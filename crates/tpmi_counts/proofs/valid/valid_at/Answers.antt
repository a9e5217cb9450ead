-- `tpmi_counts::valid::valid_at` meets its contract. Assumes nothing.
use mathlib.Core.Path.{ap}
use mathlib.Core.Bool.{not}
use Prim.Native.Nat.{ℕ, ◌-◌, ◌^◌}
use lib.Dec.{eqb}
use Rattle.tpmi_features.specs.Instances.{invalid_at}
use Rattle.tpmi_counts.proofs.valid.valid_at.Goals as goal

pub returns : goal.returns
unfolding invalid_at
returns c = record { answer = ap (λ (x : ℕ). not (eqb x (2 ^ 64 - 1))) c.u64_at.ensures.answer }
