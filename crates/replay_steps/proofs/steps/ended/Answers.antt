-- `replay_steps::steps::ended` meets its contract: how it stands after the reading's own end.
-- Assumes nothing.
use mathlib.Core.Path.{◌∙◌}
use Rattle.replay_steps.specs.Steps.{reader_of}
use Rattle.replay_steps.proofs.StepLaws.{ended}
use Rattle.replay_steps.proofs.steps.ended.Goals as goal

pub returns : goal.returns
returns c = record { answer = c.standing.ensures.answer ∙ ended (reader_of c.args.s) _ c.ended-partial.ensures.answer }
