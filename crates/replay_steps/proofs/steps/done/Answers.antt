-- `replay_steps::steps::done` meets its contract: what the record says is made, and the next one begins behind it.
-- Assumes nothing.
use mathlib.Core.Path.{ap, ◌∙◌}
use Rattle.records.specs.Partial.{halted}
use Rattle.records.specs.Machine.{keeps}
use Rattle.replay_trace.specs.Trace.{call_on, nothing, says}
use Rattle.replay_steps.specs.Steps.{step_by}
use Rattle.replay_steps.proofs.StepLaws.{acted, replies}
use Rattle.records.specs.declared.partial.Partial.{Partial}
use Rattle.replay_steps.proofs.steps.done.Goals as goal

pub returns-in_default : goal.returns-in_default
returns-in_default c = record {
  answer = c.standing.ensures.answer
      ∙ ap (λ (q : Partial). step_by c.args.used (keeps c.args.state.channels (halted q))) c.begin.ensures.answer
      ∙ acted c.args.used c.args.state.channels c.args.state.partial nothing c.in_default.ensures.answer;
}

pub returns : goal.returns
returns c = let said = call_on c.in-Some.said.channel c.in-Some.said.call in record {
  answer = replies c.args.used c.args.state.channels c.args.state.partial said _ _ _ c.call_on-answer.ensures.answer c.call_on-answer.ensures.kept c.begin-2.ensures.answer
      ∙ acted c.args.used c.args.state.channels c.args.state.partial (says said) c.in-Some.ensures.answer;
}
