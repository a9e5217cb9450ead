-- `records_body::body::put_numbers` meets its contract. The invariant: storing the numbers that are left at place `at` gives what storing all of
-- them gives. Assumes nothing.
use Prim.Native.Nat.{◌+◌, ◌*◌, ◌≤◌}
use mathlib.Core.Path.{◌≡◌}
use lib.ListN.{length}
use Rattle.std.specs.Iterator.Adapters.{zip_first, zip_second}
use Rattle.std.specs.Slice.Iter.{iter_rest}
use Rattle.records_body.specs.Body.{stored_numbers}
use Rattle.records_body.proofs.body.put_numbers.Given as goal

abbrev pub invariant-loop-width : goal.invariant-loop-width
invariant-loop-width l =
    (l.at + length (iter_rest (zip_first l.width-iterator)) * 8 ≤ 65)
    × (stored_numbers (iter_rest (zip_first l.width-iterator)) (iter_rest (zip_second l.width-iterator)) l.bytes l.at ≡ stored_numbers l.fn.widths l.fn.values l.initial.bytes 1)
