-- Replay of a disputed night (document 02, request 1): the machine of `records` with the table of the trace, whose whole records are calls on
-- the 64 channels.
--   most_bytes        the bytes that a trace may have
--   rule cs          how records are read: by the table of the trace, up to that many bytes, whatever the channels hold
--   Replied          a record's call and its answer
--   acts_on cs x      what a record that says x does: exactly that call, refusals kept as answers, and the replay goes on
--   acts cs r        what the whole record r does
--   fed, replayed    one byte more; a run of bytes
--   reader_of s       what a replay state says;   begins   the state at first
--   Told             what a step is told to have come to: nothing yet, a record's call and answer, or a stop at a place
--   told_of           what each case of the code's enum says
--   stand p          stopped at its place, or nothing yet
--   say_first, say d  the first reply; where there is none, how it stands
--   Step             how many bytes were used, the state, and what it came to;   told r   what the code's struct says
--   step_by n d       the step that used n bytes and did d
--   step_of h xs      the bytes of xs up to the end of the first record that is whole then
--   end_of h          the trace declared ended
-- Assumes nothing.
use Rattle.std.specs.Prelude.{ℕ, ◌-◌, ◌^◌, true, false, cond, List, [], ◌∷◌, length}
use Rattle.words.specs.Answers.{Answer}
use Rattle.energy_calls.specs.Calls as calls
use Rattle.energy_hall.specs.Hall.{Named, all_closed, answer_on, leaves_on}
use Rattle.records.specs.Partial.{Rule, rule_of, begun, is_stopped, ended_of, up_to}
use Rattle.records.specs.Machine.{Done, ran, Reader, reader, Acted, keeps, fed_by}
use Rattle.replay_trace.specs.Trace.{lengths, call_on, Says, nothing, says, says_of}
use Rattle.energy_channel.specs.declared.channel.Channel.{Channel}
use Rattle.records.specs.declared.partial.Partial.{Partial}
use Rattle.replay_steps.specs.declared.steps.Replay.{Replay}
use Rattle.replay_steps.specs.declared.steps.Outcome.{Outcome}
use Rattle.replay_steps.specs.declared.steps.Stepped.{Stepped}

abbrev pub most_bytes : ℕ
most_bytes = 2 ^ 53 - 1

abbrev pub rule : List Channel → Rule
rule cs = rule_of lengths most_bytes

-- ---- a whole record

pub record Replied : Type 0 where
  pub said : Named
  pub answer : Answer

-- (Every whole record says a call: `RecordTrips` of replay_trace.)
abbrev pub acts_on : List Channel → Says → Acted (List Channel) Replied
acts_on cs nothing = record { content = cs; answers = []; goes = false }
acts_on cs (says x) =
    record {
      content = leaves_on cs x.channel x.call;
      answers = record { said = x; answer = answer_on cs x.channel x.call } ∷ [];
      goes = true;
    }

unfoldable pub acts : List Channel → List ℕ → Acted (List Channel) Replied
acts cs r = acts_on cs (says_of r)

-- ---- bytes

abbrev pub fed : Reader (List Channel) → ℕ → Done (Reader (List Channel)) Replied
fed = fed_by rule acts

abbrev pub replayed : Reader (List Channel) → List ℕ → Done (Reader (List Channel)) Replied
replayed = ran fed

abbrev pub reader_of : Replay → Reader (List Channel)
reader_of s = reader s.channels s.partial

abbrev pub begins : Reader (List Channel)
begins = reader all_closed (begun 0)

-- ---- a step

pub data Told : Type 0 where
  nothing_yet : Told
  replied : Replied → Told
  stops : ℕ → Told

abbrev pub told_of : Outcome → Told
told_of Outcome.Nothing = nothing_yet
told_of (Outcome.Replied x) = replied (record { said = call_on x.said.channel x.said.call; answer = calls.told x.answer })
told_of (Outcome.Stopped place) = stops place

unfoldable pub stand : Partial → Told
stand p = cond (is_stopped (rule_of lengths most_bytes) p) (stops p.place) nothing_yet

abbrev pub say_first : List Replied → Partial → Told
say_first [] p = stand p
say_first (x ∷ xs) p = replied x

abbrev pub say : Done (Reader (List Channel)) Replied → Told
say d = say_first d.answers d.state.partial

pub record Step : Type 0 where
  pub state : Reader (List Channel)
  pub used : ℕ
  pub outcome : Told

abbrev pub told : Stepped → Step
told r = record { state = reader_of r.state; used = r.used; outcome = told_of r.outcome }

abbrev pub step_by : ℕ → Done (Reader (List Channel)) Replied → Step
step_by n d = record { state = d.state; used = n; outcome = say d }

unfoldable pub step_of : Reader (List Channel) → List ℕ → Step
step_of h xs =
    let ys = up_to (rule h.content) h.partial xs in
    step_by (length ys) (replayed h ys)

unfoldable pub end_of : Reader (List Channel) → Step
end_of h = step_by 0 (keeps h.content (ended_of (rule h.content) h.partial))
