-- `replay_steps::steps::step` meets its contract: what is gathered does what the bytes do one by one, whole or not.
-- Assumes nothing.
use mathlib.Core.Path.{◌∙◌}
use mathlib.Core.Bool.{true, false}
use Rattle.replay_steps.specs.Steps.{reader_of}
use Rattle.replay_steps.proofs.StepLaws.{small, step_came}
use Rattle.replay_steps.proofs.steps.step.Goals as goal

-- a whole record has at most 32 bytes and ends within the limit
pub done-requires : goal.done-requires
done-requires c = small (reader_of c.args.s) c.args.piece.now _ c.gather-gathered.ensures.answer c.if-gathered.true

pub returns-then-gathered : goal.returns-then-gathered
returns-then-gathered c = record { answer = c.done.ensures.answer ∙ step_came (reader_of c.args.s) c.args.piece.now _ c.gather-gathered.ensures.answer true c.if-gathered.true }

pub returns-else-gathered : goal.returns-else-gathered
returns-else-gathered c = record { answer = c.standing.ensures.answer ∙ step_came (reader_of c.args.s) c.args.piece.now _ c.gather-gathered.ensures.answer false c.if-gathered.false }
