-- `words::bytes::number_at` meets its contract. The invariant: x is the number of the bytes from place at + i on. Assumes nothing.
use mathlib.Core.Path.{◌≡◌}
use Prim.Native.Nat.{◌+◌, ◌-◌}
use Rattle.words.specs.Bytes.{number_at}
use Rattle.words.proofs.bytes.number_at.Given as goal

abbrev pub invariant-loop-i : goal.invariant-loop-i
invariant-loop-i l = l.x ≡ number_at l.s (l.at + l.i) (l.n - l.i)
