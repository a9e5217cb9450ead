-- `capture::places::piece` meets its contract: the empty part where the bytes pass the end, else the bytes. Assumes nothing.
use Prim.Native.Nat.{ℕ, ◌+◌, ◌-◌}
use mathlib.Core.Path.{◌≡◌, sym, ap, ◌∙◌}
use native.Mathlib.Omega.{arith}
use lib.ListN.{take, drop}
use Rattle.capture.proofs.PartLaws.{piece_past, piece_there}
use Rattle.capture.proofs.places.piece.Goals as goal

pub returns-then-s-start : goal.returns-then-s-start
returns-then-s-start c = record { part = sym (piece_past c.args.s.now c.args.start c.args.size (omega arith)) }

pub returns-then-s-start-2 : goal.returns-then-s-start-2
returns-then-s-start-2 c = record { part = sym (piece_past c.args.s.now c.args.start c.args.size (omega arith)) }

pub returns : goal.returns
returns c = let long : c.args.start + c.args.size - c.args.start ≡ c.args.size = omega arith in record { part = ap (λ (n : ℕ). take n (drop c.args.start c.args.s.now)) long ∙ sym (piece_there c.args.s.now c.args.start c.args.size (omega arith)) }
