-- `replay_steps::steps::standing` meets its contract: stopped, or nothing yet.
-- Assumes nothing.
use Rattle.replay_steps.proofs.StepLaws.{stands_stopped, stands_yet}
use Rattle.replay_steps.proofs.steps.standing.Goals as goal

pub returns-then-is_stopped : goal.returns-then-is_stopped
returns-then-is_stopped c = record { answer = stands_stopped c.args.used c.args.state.channels c.args.state.partial _ c.is_stopped.ensures.answer c.if-is_stopped.true }

pub returns-else-is_stopped : goal.returns-else-is_stopped
returns-else-is_stopped c = record { answer = stands_yet c.args.used c.args.state.channels c.args.state.partial _ c.is_stopped.ensures.answer c.if-is_stopped.false }
