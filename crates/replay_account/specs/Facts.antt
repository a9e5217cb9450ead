-- What is proved of a replay, for every trace and in any cuts. Each record or type is one theorem, to be read without its proof; proofs/ has a
-- proof of each, under the same name with underscores: Steps, Faithful, Calls, Splits, Traces, and the rest in Theorems.
--   replay_of ps   the replay of some pieces from the start;   Recorded ps es   the calls that it makes are those of the events es
-- Assumes nothing.
use Rattle.std.specs.Prelude.{ℕ, ◌+◌, ◌≤◌, ◌<◌, ◌≡◌, true, length, get_or, ltb}
use mathlib.Core.List.{List, [], ◌∷◌, ◌++◌, flatten}
use Rattle.words.specs.Answers.{gives, unless, first}
use Rattle.energy_channel.specs.Channel.{closed, is_open}
use Rattle.energy_calls.specs.Calls.{Carries}
use Rattle.energy_hall.specs.Hall.{Named, Each, all_closed, answer_on, answers_to, leaves_all, hall_total}
use Rattle.energy_account.specs.Account.{Event, calls, shut, account, Supposed, due, parts}
use Rattle.energy_account.specs.Facts.{history}
use Rattle.records.specs.Partial.{begun}
use Rattle.records.specs.Machine.{Done, in_pieces, Reader, reader}
use Rattle.records.specs.Facts.{Reads}
use Rattle.replay_trace.specs.Trace.{call_on}
use Rattle.replay_steps.specs.Steps.{most_bytes, rule, acts, fed, replayed, begins, Replied, nothing_yet, stand, end_of}
use Rattle.replay_account.specs.Replay.{calls_in, answers_in, Say, AllOld, records_of, AllSayable, Split, shows_at, ends_at, stepping}
use Rattle.energy_calls.specs.declared.calls.Call.TheVariants.{Close, Ask}
use Rattle.energy_channel.specs.declared.channel.Channel.{Channel}

-- The reading rule holds of the replay: cuts, steps, whole records, stops (records, specs/Facts).
abbrev pub Replays : Type 0
Replays = Reads rule acts

-- Steps in a row, as the code makes them, are the replay of the bytes: the same replies in the same order, and the same end.
abbrev pub StepsFact : Type 0
StepsFact = (h : Reader (List Channel)) (xs : List ℕ) (n : ℕ) → length xs ≤ n → stepping n h xs ≡ replayed h xs

-- Whatever the state and the bytes: the replies are those of their calls one by one, refusals among them, and the channels are as these calls
-- leave them.
pub record Faithful (h : Reader (List Channel)) (xs : List ℕ) : Type 0 where
  pub answers : answers_in (replayed h xs).answers ≡ answers_to h.content (calls_in (replayed h xs).answers)
  pub channels : (replayed h xs).state.content ≡ leaves_all h.content (calls_in (replayed h xs).answers)

-- The bytes of any records that say calls, in any cuts, from any channels and place: the replay makes these calls, answers what they answer
-- one by one and leaves what they leave; and it ends well, so many bytes on.
pub record CallsReplayed (cs : List Channel) (place many : ℕ) (xs : List Named) (d : Done (Reader (List Channel)) Replied) : Type 0 where
  pub made : calls_in d.answers ≡ xs
  pub answers : answers_in d.answers ≡ answers_to cs xs
  pub leaves : d.state ≡ reader (leaves_all cs xs) (begun (place + many))
  pub ends : end_of d.state ≡ record { state = d.state; used = 0; outcome = nothing_yet }

abbrev pub CallsFact : Type 0
CallsFact = (cs : List Channel) (place : ℕ) (xs : List Named) (rs ps : List (List ℕ)) → Say rs xs → flatten ps ≡ flatten rs
    → place + length (flatten rs) ≤ most_bytes → CallsReplayed cs place (length (flatten rs)) xs (in_pieces fed (reader cs (begun place)) ps)

-- Such are the records that a writer makes of calls that records say.
abbrev pub WrittenSay : Type 0
WrittenSay = (xs : List Named) → AllSayable xs → Say (records_of xs) xs

-- Records of the old kinds, 1 to 4, say calls that carry boot number 0, if they carry one: so `OneBoot` of energy_account holds of them.
abbrev pub OldRecords : Type 0
OldRecords = (rs : List (List ℕ)) (xs : List Named) → Say rs xs → AllOld rs → Each (Carries 0) xs

-- Any bytes are records in front and a rest from which none can be read,
abbrev pub SplitFact : Type 0
SplitFact = (place : ℕ) (xs : List ℕ) → Split place xs

-- and in one way only.
abbrev pub SplitOnce : Type 0
SplitOnce = (place : ℕ) (xs : List ℕ) → place ≤ most_bytes → (s t : Split place xs)
    → (s.front ≡ t.front) × (s.records ≡ t.records) × (s.rest ≡ t.rest)

-- The replay makes the calls of the records in front, answers what they answer and leaves what they leave, whatever the rest is. It stands
-- stopped as soon as the rest shows a kind of which no record can come, and when the end is declared it is stopped exactly if there is a rest, at
-- the place where the rest begins, with the channels as they were.
pub record TraceReplayed (cs : List Channel) (place : ℕ) {xs : List ℕ} (s : Split place xs) (d : Done (Reader (List Channel)) Replied) : Type 0 where
  pub made : calls_in d.answers ≡ s.front
  pub answers : answers_in d.answers ≡ answers_to cs s.front
  pub channels : d.state.content ≡ leaves_all cs s.front
  pub shows : stand d.state.partial ≡ shows_at (place + length (flatten s.records)) s.rest
  pub ends : (end_of d.state).outcome ≡ ends_at (place + length (flatten s.records)) s.rest
  pub kept : (end_of d.state).state.content ≡ leaves_all cs s.front

-- That of any bytes at all, in any cuts.
abbrev pub TraceFact : Type 0
TraceFact = (cs : List Channel) (place : ℕ) (ps : List (List ℕ)) → place ≤ most_bytes → (s : Split place (flatten ps))
    → TraceReplayed cs place s (in_pieces fed (reader cs (begun place)) ps)

-- ---- demand 3 of a replayed trace

-- The replay of some pieces, from all channels closed and place 0.
abbrev pub replay_of : List (List ℕ) → Done (Reader (List Channel)) Replied
replay_of ps = in_pieces fed begins ps

-- The events are the calls that the replay of these pieces makes, each with the whole count of its channel at that moment.
abbrev pub Recorded : List (List ℕ) → List Event → Type 0
Recorded ps es = calls_in (replay_of ps).answers ≡ calls es

-- Take any trace in any cuts, whole or stopped, and any channel k. Suppose of the whole counts what demand 3 supposes (energy_account). Then
-- asking for the total after the replay answers what demand 3 asks for,
abbrev pub ReplayDemand3 : Type 0
ReplayDemand3 = (k : ℕ) (es : List Event) (ps : List (List ℕ)) → Recorded ps es → Supposed shut (history k es)
    → answer_on (replay_of ps).state.content k Ask ≡ due k (account shut (history k es))

-- so does any record that closes the channel, whatever comes after it,
abbrev pub ReplayClosing : Type 0
ReplayClosing = (k : ℕ) (es : List Event) (later : List Named) (ps : List (List ℕ))
    → calls_in (replay_of ps).answers ≡ calls es ++ call_on k Close ∷ later → Supposed shut (history k es)
    → answers_in (replay_of ps).answers
    ≡ answers_to all_closed (calls es) ++ due k (account shut (history k es)) ∷ answers_to (leaves_all all_closed (calls es ++ call_on k Close ∷ [])) later

-- and the hall total is the sum of these sums over the open channels of one energy unit.
abbrev pub ReplayHall : Type 0
ReplayHall = (u : ℕ) (es : List Event) (ps : List (List ℕ)) → Recorded ps es → ((k : ℕ) → k < 64 → Supposed shut (history k es))
    → hall_total (replay_of ps).state.content u ≡
    unless (first ((ltb 31 u, 17) ∷ [])) (gives (parts 64 u (λ (k : ℕ). account shut (history k es)) ∷ []))

-- And what the line of an open channel says is what asking for its total answers.
abbrev pub OpenTotals : Type 0
OpenTotals = (cs : List Channel) (k : ℕ) → k < 64 → is_open (get_or cs k closed) ≡ true → answer_on cs k Ask ≡ gives ((get_or cs k closed).total ∷ [])
