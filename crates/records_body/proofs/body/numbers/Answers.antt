-- `records_body::body::numbers` meets its contract: a turn is the next number of the definition. Assumes nothing.
use mathlib.Core.Path.{◌∙◌}
use native.Mathlib.Omega.{arith}
use lib.ListN.{get_or, length-set}
use Rattle.records_body.proofs.BodyLaws.{size_most, numbers_turn, numbers_end}
use Rattle.records_body.proofs.body.numbers.Goals as goal

pub loop-i-preserved : goal.loop-i-preserved
loop-i-preserved c = (
  omega (arith, c.size_of-at.ensures.answer, size_most (get_or c.args.widths c.loop-i.i 0)),
  simp length-set c.loop-i.invariant.1,
  numbers_turn c.args.widths c.loop-i.i c.args.bytes.now c.loop-i.values c.loop-i.at (omega arith) (omega arith) c.number_at.ensures.answer c.size_of-at.ensures.answer ∙ c.loop-i.invariant.2,
)

pub returns : goal.returns
returns c = record { answer = numbers_end c.args.widths c.loop-i.i c.args.bytes.now c.loop-i.values c.loop-i.at (omega arith) (omega arith) ∙ c.loop-i.invariant.2 }
