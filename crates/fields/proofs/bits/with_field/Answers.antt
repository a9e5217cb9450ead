-- `fields::bits::with_field` meets its contract: in 64 bits, what the field held can be taken away, and neither part is cut. Assumes nothing.
use mathlib.Core.Path.{◌≡◌}
use Prim.Native.Nat.{◌+◌, ◌-◌}
use native.Mathlib.Omega.{arith}
use borrow.Author.Tests.{le-leb}
use Rattle.fields.specs.Bits.{with_field}
use Rattle.fields.proofs.FieldLaws.{with_lt, taken_le, taken_added}
use Rattle.fields.proofs.bits.with_field.Goals as goal

sum : (c : goal.After-moved-2) → c.args.x - c.moved.result + c.moved-2.result ≡ with_field c.args.at c.args.width c.args.x c.args.v
sum c = taken_added c.args.at c.args.width c.args.x c.args.v (omega arith) c.ranges.x.fits c.field.ensures.answer c.moved.ensures.answer c.low.ensures.answer c.moved-2.ensures.answer

pub overflow_sub-result : goal.overflow_sub-result
overflow_sub-result c = taken_le c.args.at c.args.width c.args.x c.args.v (omega arith) c.ranges.x.fits c.field.ensures.answer c.moved.ensures.answer

pub overflow_add-result : goal.overflow_add-result
overflow_add-result c = record { fits = rw (sum c) (with_lt c.args.at c.args.width c.args.x c.args.v 64 (omega arith) c.ranges.x.fits) }

pub returns : goal.returns
returns c = record { answer = simp (le-leb (c.args.at + c.args.width) 64 (omega arith)) (sum c) }
