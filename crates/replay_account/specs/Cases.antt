-- Worked cases of a replay (document 02, requests 1 and 4), at the bounds of what its rules say.
--   Came h xs t   a step on the bytes xs from the state h comes to t
--   Ends h t      the end declared at the state h comes to t
--   largest, too_large   as large a call as a record says, and one too large
--   CasesFact     what is proved of single records, steps and ends
--   NightReplayed, NightTraceFact, NightClosed   the worked night of energy_account, brought as a trace
-- Assumes nothing.
use Rattle.std.specs.Prelude.{ℕ, ◌+◌, ◌-◌, ◌^◌, ◌≡◌, true, false, replicate}
use mathlib.Core.List.{List, [], ◌∷◌, ◌++◌, flatten}
use Rattle.words.specs.Answers.{refused, gives}
use Rattle.energy_calls.specs.Calls.{reading_of, opening_of}
use Rattle.energy_channel.specs.Channel.{channel_of, closed}
use Rattle.energy_hall.specs.Hall.{all_closed, answer_on, hall_total}
use Rattle.energy_account.specs.Account.{calls}
use Rattle.energy_account.specs.Night.{night, answers, wattmeter}
use Rattle.records.specs.Partial.{begun}
use Rattle.records.specs.Machine.{Reader, reader}
use Rattle.replay_trace.specs.Trace.{call_on, says, says_of, bytes_of, unsaid}
use Rattle.replay_trace.specs.Facts.{Sayable}
use Rattle.replay_steps.specs.Steps.{Told, nothing_yet, replied, stops, begins, step_of, end_of}
use Rattle.replay_account.specs.Replay.{answers_in, trace_of}
use Rattle.replay_account.specs.Facts.{replay_of, Recorded}
use Rattle.energy_calls.specs.declared.calls.Call.{Call}
use Rattle.energy_calls.specs.declared.calls.Call.TheVariants.{Open, Read, Resume, Close, Ask}
use Rattle.energy_channel.specs.declared.channel.Channel.{Channel}

abbrev pub Came : Reader (List Channel) → List ℕ → Told → Type 0
Came h xs t = (step_of h xs).outcome ≡ t

abbrev pub Ends : Reader (List Channel) → Told → Type 0
Ends h t = (end_of h).outcome ≡ t

-- all channels closed, and nothing held at a place
abbrev from : ℕ → Reader (List Channel)
from place = reader all_closed (begun place)

-- all channels closed, and one byte held of a record that starts at place 7
abbrev holding_byte : ℕ → Reader (List Channel)
holding_byte b = reader all_closed (record { place = 7; held = 1; bytes = b ∷ replicate 31 0; stopped = false })

abbrev pub largest : Call
largest = Open (opening_of 255 (2 ^ 32 - 1) (2 ^ 64 - 1) (2 ^ 64 - 1) (2 ^ 32 - 1))

abbrev pub too_large : Call
too_large = Open (opening_of 256 1 0 0 0)

pub record CasesFact : Type 0 where
  -- an unknown kind stops as soon as it is seen, before the end is declared; kinds 0 and 8 are such
  pub unknown : Came begins (9 ∷ []) (stops 0)
  pub kind_8 : Came begins (8 ∷ []) (stops 0)
  pub kind_0 : Came (from 5) (0 ∷ []) (stops 5)
  -- a record that ends at 2^53 - 1 is done, and the state after it is good; one byte later it is stopped at its start
  pub at_the_limit : Came (from (2 ^ 53 - 3)) (4 ∷ 0 ∷ []) (replied (record { said = call_on 0 Close; answer = refused 22 }))
  pub last_place : Ends (from (2 ^ 53 - 1)) nothing_yet
  pub past_the_limit : Came (from (2 ^ 53 - 2)) (4 ∷ 0 ∷ []) (stops (2 ^ 53 - 2))
  pub by_its_kind : Came (from (2 ^ 53 - 2)) (4 ∷ []) (stops (2 ^ 53 - 2))
  pub later_place : Ends (from (2 ^ 53)) (stops (2 ^ 53))
  -- a channel that is not there is an answer, no stop
  pub no_channel : Came begins (4 ∷ 200 ∷ []) (replied (record { said = call_on 200 Close; answer = refused 12 }))
  -- a byte of a record is nothing yet, and stops when the end is declared
  pub one_byte : Came begins (1 ∷ []) nothing_yet
  pub one_byte_ends : Ends (step_of begins (1 ∷ [])).state (stops 0)
  pub empty : Ends begins nothing_yet
  -- a state that no replay leaves is stopped at its place, by the next piece or the end
  pub held_unknown : Came (holding_byte 9) (0 ∷ []) (stops 7)
  pub held_unknown_ends : Ends (holding_byte 9) (stops 7)
  pub held_known : Came (holding_byte 4) (0 ∷ []) (replied (record { said = call_on 0 Close; answer = refused 22 }))
  pub held_whole : Came (reader all_closed (record { place = 7; held = 2; bytes = 4 ∷ 0 ∷ replicate 30 0; stopped = false })) (0 ∷ []) (stops 7)
  pub held_late : Ends (reader all_closed (record { place = 2 ^ 53 - 2; held = 1; bytes = 4 ∷ replicate 31 0; stopped = false })) (stops (2 ^ 53 - 2))
  -- a channel's record that says open, out of its ranges, counts as closed
  pub out_of_range : Came (reader (channel_of true 14 0 5 6 0 7 ∷ replicate 63 closed) (begun 0)) (4 ∷ 0 ∷ []) (replied (record { said = call_on 0 Close; answer = refused 22 }))
  -- the bytes of each kind, lowest byte first
  pub opens : says_of (1 ∷ 3 ∷ 14 ∷ 232 ∷ 3 ∷ 0 ∷ 0 ∷ 136 ∷ 19 ∷ 0 ∷ 0 ∷ 0 ∷ 0 ∷ 0 ∷ 0 ∷ 240 ∷ 255 ∷ 255 ∷ 255 ∷ 0 ∷ 0 ∷ 0 ∷ 1 ∷ [])
      ≡ says (call_on 3 (Open (opening_of 14 1000 5000 (2 ^ 56 + 2 ^ 32 - 16) 0)))
  pub reads : says_of (2 ∷ 3 ∷ 112 ∷ 23 ∷ 0 ∷ 0 ∷ 0 ∷ 0 ∷ 0 ∷ 0 ∷ 16 ∷ 0 ∷ 0 ∷ 0 ∷ 0 ∷ 0 ∷ 0 ∷ 2 ∷ []) ≡ says (call_on 3 (Read (reading_of 6000 (2 ^ 57 + 16) 0)))
  pub resumes : says_of (3 ∷ 63 ∷ 144 ∷ 95 ∷ 1 ∷ 0 ∷ 0 ∷ 0 ∷ 0 ∷ 0 ∷ 5 ∷ 0 ∷ 0 ∷ 0 ∷ 0 ∷ 0 ∷ 0 ∷ 0 ∷ []) ≡ says (call_on 63 (Resume (reading_of 90000 5 0)))
  pub closes : says_of (4 ∷ 255 ∷ []) ≡ says (call_on 255 Close)
  -- and of the new ones, the boot number at their end
  pub opens_booted : says_of (5 ∷ 3 ∷ 14 ∷ 232 ∷ 3 ∷ 0 ∷ 0 ∷ 136 ∷ 19 ∷ 0 ∷ 0 ∷ 0 ∷ 0 ∷ 0 ∷ 0 ∷ 240 ∷ 255 ∷ 255 ∷ 255 ∷ 0 ∷ 0 ∷ 0 ∷ 1 ∷ 9 ∷ 0 ∷ 0 ∷ 128 ∷ [])
      ≡ says (call_on 3 (Open (opening_of 14 1000 5000 (2 ^ 56 + 2 ^ 32 - 16) (2 ^ 31 + 9))))
  pub reads_booted : says_of (6 ∷ 3 ∷ 112 ∷ 23 ∷ 0 ∷ 0 ∷ 0 ∷ 0 ∷ 0 ∷ 0 ∷ 16 ∷ 0 ∷ 0 ∷ 0 ∷ 0 ∷ 0 ∷ 0 ∷ 2 ∷ 9 ∷ 0 ∷ 0 ∷ 128 ∷ [])
      ≡ says (call_on 3 (Read (reading_of 6000 (2 ^ 57 + 16) (2 ^ 31 + 9))))
  pub resumes_booted : says_of (7 ∷ 63 ∷ 144 ∷ 95 ∷ 1 ∷ 0 ∷ 0 ∷ 0 ∷ 0 ∷ 0 ∷ 5 ∷ 0 ∷ 0 ∷ 0 ∷ 0 ∷ 0 ∷ 0 ∷ 0 ∷ 9 ∷ 0 ∷ 0 ∷ 128 ∷ [])
      ≡ says (call_on 63 (Resume (reading_of 90000 5 (2 ^ 31 + 9))))
  -- boot number 0 is said by both, and written in the shorter one
  pub reads_boot_0 : says_of (6 ∷ 3 ∷ 112 ∷ 23 ∷ 0 ∷ 0 ∷ 0 ∷ 0 ∷ 0 ∷ 0 ∷ 16 ∷ 0 ∷ 0 ∷ 0 ∷ 0 ∷ 0 ∷ 0 ∷ 2 ∷ 0 ∷ 0 ∷ 0 ∷ 0 ∷ [])
      ≡ says (call_on 3 (Read (reading_of 6000 (2 ^ 57 + 16) 0)))
  pub shortest : bytes_of (call_on 3 (Read (reading_of 6000 (2 ^ 57 + 16) 0))) ≡ 2 ∷ 3 ∷ 112 ∷ 23 ∷ 0 ∷ 0 ∷ 0 ∷ 0 ∷ 0 ∷ 0 ∷ 16 ∷ 0 ∷ 0 ∷ 0 ∷ 0 ∷ 0 ∷ 0 ∷ 2 ∷ []
  -- a record of an old kind means boot number 0: on a channel opened with boot number 9 it is refused
  pub old_kind : Came (reader (channel_of true 14 1000 5000 0 9 0 ∷ replicate 63 closed) (begun 0))
      (2 ∷ 0 ∷ 112 ∷ 23 ∷ 0 ∷ 0 ∷ 0 ∷ 0 ∷ 0 ∷ 0 ∷ 16 ∷ 0 ∷ 0 ∷ 0 ∷ 0 ∷ 0 ∷ 0 ∷ 0 ∷ [])
      (replied (record { said = call_on 0 (Read (reading_of 6000 16 0)); answer = refused 29 }))
  -- the bounds of what records say
  pub sayable : Sayable (call_on 255 largest)
  pub all_ones : bytes_of (call_on 255 largest) ≡ 5 ∷ replicate 26 255
  pub unit_too_large : unsaid (call_on 255 too_large) ≡ true
  pub channel_too_large : unsaid (call_on 256 Close) ≡ true

-- The night's calls as a trace, in any cuts: each call's answer, the wattmeter's sum, and the hall total.
pub record NightReplayed (ps : List (List ℕ)) : Type 0 where
  pub made : Recorded ps night
  pub answered : answers_in (replay_of ps).answers ≡ answers
  pub summed : answer_on (replay_of ps).state.content 3 Ask ≡ gives (wattmeter ∷ [])
  pub hall : hall_total (replay_of ps).state.content 14 ≡ gives ((wattmeter + 1000) ∷ [])

abbrev pub NightTraceFact : Type 0
NightTraceFact = (ps : List (List ℕ)) → flatten ps ≡ trace_of (calls night) → NightReplayed ps

-- The trace of examples/night.trace: the night's calls, and then channel 3 is closed. Its bill is the wattmeter's sum.
abbrev pub NightClosed : Type 0
NightClosed = (ps : List (List ℕ)) → flatten ps ≡ trace_of (calls night ++ call_on 3 Close ∷ [])
    → answers_in (replay_of ps).answers ≡ answers ++ gives (wattmeter ∷ []) ∷ []
