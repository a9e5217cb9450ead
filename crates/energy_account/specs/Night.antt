-- A worked night (demand 3's supposition met at its bounds): two turnovers, a rise of exactly 2^32 - 1, an equal count, readings
-- with a nonsense count refused for their tick (20) and for a gap (21), a resumption after it, a restart, a second channel, a channel that
-- is not there (12) and a closed one (22). At the restart (document 02, request 4) the counter goes to 0 under boot number 1: readings are
-- refused (29), one with an old tick too, until a resumption takes the new boot number. The second channel is opened under boot number 9,
-- and refuses a reading of boot number 0. The program `night` runs the same calls.
--   night      the events: each call, the channel it names, and the whole count of that channel, which the meter does not see
--   answers    what each call must answer
--   wattmeter  the sum of the rises into channel 3's readings as the wattmeter has it
--   NightFact  what is proved of it
-- Assumes nothing.
use Rattle.std.specs.Prelude.{ℕ, ◌+◌, ◌-◌, ◌^◌, ◌≡◌, List, [], ◌∷◌}
use Rattle.words.specs.Answers.{Answer, refused, gives}
use Rattle.energy_hall.specs.Hall.{all_closed, answer_on, answers_to, leaves_all, hall_total}
use Rattle.energy_account.specs.Account.{Event, calls, shut, Supposed}
use Rattle.energy_account.specs.Facts.{history}
use Rattle.energy_calls.specs.Calls.{reading_of, opening_of}
use Rattle.energy_calls.specs.declared.calls.Call.{Call}
use Rattle.energy_calls.specs.declared.calls.Call.TheVariants.{Open, Read, Resume, Close, Ask}

abbrev event : (channel : ℕ) → Call → (whole : ℕ) → Event
event k a w = record { named = record { channel = k; call = a }; whole = w }

abbrev opens : (channel unit gap tick status boot whole : ℕ) → Event
opens k u g t s b w = event k (Open (opening_of u g t s b)) w

abbrev reads : (channel tick status boot whole : ℕ) → Event
reads k t s b w = event k (Read (reading_of t s b)) w

abbrev resumes : (channel tick status boot whole : ℕ) → Event
resumes k t s b w = event k (Resume (reading_of t s b)) w

abbrev closes : (channel whole : ℕ) → Event
closes k w = event k Close w

abbrev pub night : List Event
night =
    opens 3 14 1000 5000 4294967280 0 (2 ^ 32 - 16) ∷
    reads 3 6000 16 0 (2 ^ 32 + 16) ∷
    reads 3 6001 16 0 (2 ^ 32 + 16) ∷
    reads 3 6500 15 0 (2 ^ 33 + 15) ∷
    reads 3 6500 99 0 0 ∷
    reads 3 7501 99 0 0 ∷
    resumes 3 90000 5 0 (2 ^ 40 + 5) ∷
    reads 3 90500 12 0 (2 ^ 40 + 12) ∷
    reads 3 91000 0 1 0 ∷
    reads 3 90500 0 1 0 ∷
    resumes 3 91000 0 1 0 ∷
    reads 3 91500 250 1 250 ∷
    opens 5 14 3600000 0 7 9 7 ∷
    reads 5 3600000 1007 0 1007 ∷
    reads 5 3600000 1007 9 1007 ∷
    reads 64 1 0 0 0 ∷
    closes 7 0 ∷ []

abbrev pub answers : List Answer
answers =
    gives [] ∷ gives [] ∷ gives [] ∷ gives [] ∷ refused 20 ∷ refused 21 ∷ gives [] ∷ gives [] ∷
    refused 29 ∷ refused 29 ∷ gives [] ∷ gives [] ∷
    gives [] ∷ refused 29 ∷ gives [] ∷ refused 12 ∷ refused 22 ∷ []

-- over the first turnover, over the second, after the resumption, and after the restart; the equal count adds nothing
abbrev pub wattmeter : ℕ
wattmeter = (2 ^ 32 + 16 - (2 ^ 32 - 16)) + (2 ^ 33 + 15 - (2 ^ 32 + 16)) + (2 ^ 40 + 12 - (2 ^ 40 + 5)) + (250 - 0)

pub record NightFact : Type 0 where
  pub answered : answers_to all_closed (calls night) ≡ answers
  pub supposed : (k : ℕ) → Supposed shut (history k night)
  pub summed : answer_on (leaves_all all_closed (calls night)) 3 Ask ≡ gives (wattmeter ∷ [])
  pub hall : hall_total (leaves_all all_closed (calls night)) 14 ≡ gives ((wattmeter + 1000) ∷ [])
