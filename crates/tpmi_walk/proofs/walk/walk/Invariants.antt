-- The invariant: the walk from here, with the headers left, gives the answer. Assumes nothing.
use Prim.Native.Nat.{◌<◌, ◌-◌}
use mathlib.Core.Path.{◌≡◌}
use Rattle.tpmi_walk.specs.Walk.{walk_from, walk_of}
use Rattle.tpmi_walk.proofs.walk.walk.Given as goal

abbrev pub invariant-headers : goal.invariant-headers
invariant-headers l = record {
  low : l.at < 4096;
  rest : walk_from l.config (960 - l.counter) l.at ≡ walk_of l.config;
}

-- the headers left; a loop that never counts has no such measure
abbrev pub decreases-headers : goal.decreases-headers
decreases-headers l = 960 - l.counter
