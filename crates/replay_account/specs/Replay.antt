-- What a replay comes to (document 02, requests 1 and 4): the calls of its records, the bytes of calls, and steps in a row.
--   calls_in rs, answers_in rs   the calls of some replies, and their answers, in their order
--   Say rs xs                  each of the records rs says the call in its place among xs
--   AllOld rs                  each of the records rs is of a kind up to 4
--   records_of xs               the shortest records that say the calls xs;   trace_of xs   their bytes
--   AllSayable xs              some record says each of them
--   Rest place zs              from the bytes zs no record can be read at a place: there are none, or the kind is unknown, or the record would
--                              end past the largest trace, or it is not finished
--   Split place xs             the bytes xs, from a place on: records in front, which say the calls `front`, and a rest from which none can
--                              be read
--   shows_at place zs           how the replay stands where zs is left at a place, before the end is declared: stopped there if no record of its
--                              kind can come, else nothing yet
--   ends_at place zs            what the end comes to there: a stop, unless nothing is left
--   reply_in t                  the reply of a step, if there is one
--   stepping n h xs            n steps on the bytes xs, each on what those before it left of them
-- Assumes nothing.
use Rattle.std.specs.Prelude.{ℕ, zero, suc, ◌+◌, ◌≤◌, ◌<◌, ◌≡◌, ◌⊎◌, cond, ◌||◌, length, get_or, drop, ltb, eqb}
use mathlib.Core.List.{List, [], ◌∷◌, ◌++◌, flatten}
use Rattle.words.specs.Answers.{Answer}
use Rattle.energy_hall.specs.Hall.{Named}
use Rattle.records.specs.Partial.{length_of}
use Rattle.records.specs.Machine.{Done, and_then, Reader}
use Rattle.replay_trace.specs.Trace.{lengths, says, says_of, bytes_of}
use Rattle.replay_trace.specs.Facts.{Sayable}
use Rattle.replay_steps.specs.Steps.{most_bytes, Replied, Told, nothing_yet, replied, stops, step_of}
use Rattle.energy_channel.specs.declared.channel.Channel.{Channel}

abbrev pub calls_in : List Replied → List Named
calls_in [] = []
calls_in (r ∷ rs) = r.said ∷ calls_in rs

abbrev pub answers_in : List Replied → List Answer
answers_in [] = []
answers_in (r ∷ rs) = r.answer ∷ answers_in rs

-- ---- calls as bytes, and bytes as calls

abbrev pub Say : List (List ℕ) → List Named → Type 0
Say [] [] = Unit {0}
Say [] (x ∷ xs) = ⊥
Say (r ∷ rs) [] = ⊥
Say (r ∷ rs) (x ∷ xs) = (says_of r ≡ says x) × Say rs xs

abbrev pub AllOld : List (List ℕ) → Type 0
AllOld [] = Unit {0}
AllOld (r ∷ rs) = (get_or r 0 0 ≤ 4) × AllOld rs

abbrev pub records_of : List Named → List (List ℕ)
records_of [] = []
records_of (x ∷ xs) = bytes_of x ∷ records_of xs

abbrev pub trace_of : List Named → List ℕ
trace_of xs = flatten (records_of xs)

abbrev pub AllSayable : List Named → Type 0
AllSayable [] = Unit {0}
AllSayable (x ∷ xs) = Sayable x × AllSayable xs

abbrev pub Rest : ℕ → List ℕ → Type 0
Rest place [] = Unit {0}
Rest place (k ∷ zs) = (length_of lengths k ≡ 0) ⊎ ((most_bytes < place + length_of lengths k) ⊎ (length (k ∷ zs) < length_of lengths k))

pub record Split (place : ℕ) (xs : List ℕ) : Type 0 where
  pub front : List Named
  pub records : List (List ℕ)
  pub rest : List ℕ
  pub split : xs ≡ flatten records ++ rest
  pub say : Say records front
  pub fits : place ≤ most_bytes → place + length (flatten records) ≤ most_bytes
  pub none : Rest (place + length (flatten records)) rest

abbrev pub shows_at : ℕ → List ℕ → Told
shows_at place [] = nothing_yet
shows_at place (k ∷ zs) = cond (eqb (length_of lengths k) 0 || ltb most_bytes (place + length_of lengths k)) (stops place) nothing_yet

abbrev pub ends_at : ℕ → List ℕ → Told
ends_at place [] = nothing_yet
ends_at place (z ∷ zs) = stops place

-- ---- step after step

abbrev pub reply_in : Told → List Replied
reply_in nothing_yet = []
reply_in (replied r) = r ∷ []
reply_in (stops place) = []

unfoldable pub stepping : ℕ → Reader (List Channel) → List ℕ → Done (Reader (List Channel)) Replied
stepping zero h xs = record { state = h; answers = [] }
stepping (suc n) h xs =
    let s = step_of h xs in
    and_then (record { state = s.state; answers = reply_in s.outcome }) (stepping n s.state (drop s.used xs))
