-- Two states, outcomes or results of a step that say the same are the same.
-- Assumes nothing.
use Rattle.std.specs.Prelude.{ℕ, Option, Result}
use mathlib.Core.Path.{◌≡◌, refl, ap}
use mathlib.Core.List.{List}
use Rattle.words.specs.declared.answers.Refusal.{Refusal}
use Rattle.words.proofs.AnswerLaws.{once}
use Rattle.energy_calls.specs.Calls.{told as told_answer}
use Rattle.energy_calls.proofs.Theorems as calls
use Rattle.records.specs.Machine.{Reader}
use Rattle.replay_steps.specs.Steps.{reader_of, Replied as Done, Step}
use Rattle.replay_steps.specs.Facts.{ReaderOnce, OutcomeOnce, ToldOnce}
use Rattle.energy_channel.specs.declared.channel.Channel.{Channel}
use Rattle.energy_calls.specs.declared.calls.Call.{Call}
use Rattle.replay_trace.specs.Trace.{call_on}
use Rattle.replay_steps.specs.declared.steps.Replay.{Replay}
use Rattle.replay_steps.specs.declared.steps.Reply.{Reply}
use Rattle.replay_steps.specs.declared.steps.Outcome.{Outcome}
use Rattle.replay_steps.specs.declared.steps.Outcome.TheVariants.{Nothing, Replied, Stopped}
use Rattle.replay_steps.specs.declared.steps.Stepped.{Stepped}

unread : Reader (List Channel) → Replay
unread h = record { channels = h.content; partial = h.partial }

pub reader_once : ReaderOnce
unfolding unread
reader_once = once reader_of unread (λ s. refl)

replied_same : {n m : ℕ} {a b : Call} {p q : Result (Option ℕ) Refusal} → n ≡ m → a ≡ b → p ≡ q
    → Replied (record { said = record { channel = n; call = a }; answer = p }) ≡ Replied (record { said = record { channel = m; call = b }; answer = q })
replied_same e f g = cc

abbrev reply_said : Reply → Done
reply_said x = record { said = call_on x.said.channel x.said.call; answer = told_answer x.answer }

pub outcome_once : OutcomeOnce
outcome_once Nothing Nothing e = refl
outcome_once Nothing (Replied y) e = cc
outcome_once Nothing (Stopped b) e = cc
outcome_once (Replied x) Nothing e = cc
outcome_once (Replied x) (Replied y) e =
    let r : reply_said x ≡ reply_said y = cc in
    replied_same (ap (λ (d : Done). d.said.channel) r) (ap (λ (d : Done). d.said.call) r) (calls.told_once x.answer y.answer (ap (λ (d : Done). d.answer) r))
outcome_once (Replied x) (Stopped b) e = cc
outcome_once (Stopped a) Nothing e = cc
outcome_once (Stopped a) (Replied y) e = cc
outcome_once (Stopped a) (Stopped b) e = cc

stepped_same : {s t : Replay} {n m : ℕ} {o p : Outcome} → s ≡ t → n ≡ m → o ≡ p
    → ◌≡◌ {A = Stepped} (record { state = s; used = n; outcome = o }) (record { state = t; used = m; outcome = p })
stepped_same e f g = cc

pub told_once : ToldOnce
told_once x y e =
    stepped_same
    (reader_once x.state y.state (ap (λ (s : Step). s.state) e))
    (ap (λ (s : Step). s.used) e)
    (outcome_once x.outcome y.outcome (ap (λ (s : Step). s.outcome) e))
