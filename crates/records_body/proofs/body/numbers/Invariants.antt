-- `records_body::body::numbers` meets its contract. The invariant: the numbers so far, and those of the widths from i on at place `at`, are all of
-- them. Assumes nothing.
use Prim.Native.Nat.{◌+◌, ◌*◌, ◌≤◌}
use mathlib.Core.Path.{◌≡◌}
use mathlib.Core.List.{◌++◌}
use lib.ListN.{length, take, drop}
use Rattle.records_body.specs.Body.{numbers_at}
use Rattle.records_body.proofs.body.numbers.Given as goal

abbrev pub invariant-loop-i : goal.invariant-loop-i
invariant-loop-i l = (l.at ≤ 1 + l.i * 8) × (length l.values ≡ 8) × (take l.i l.values ++ numbers_at (drop l.i l.fn.widths) l.bytes l.at ≡ numbers_at l.fn.widths l.bytes 1)
