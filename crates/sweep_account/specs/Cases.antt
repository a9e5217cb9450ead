-- The worked night of energy_account (demand 3's supposition met at its bounds), its readings in sweeps: the same channel several times in
-- one sweep, readings refused among accepted ones, two sweeps that are refused whole, one without readings, and answers past the readings.
--   night_steps     the steps
--   NightSwept     what is proved of them
-- Assumes nothing.
use Rattle.std.specs.Prelude.{ℕ, ◌+◌, ◌≡◌, List, [], ◌∷◌, replicate}
use Rattle.words.specs.Answers.{gives}
use Rattle.energy_hall.specs.Hall.{all_closed, answer_on, hall_total}
use Rattle.energy_calls.specs.Calls.{reading_of, opening_of}
use Rattle.energy_account.specs.Night.{night, answers, wattmeter}
use Rattle.sweep_readings.specs.Swept.{words_of}
use Rattle.sweep_account.specs.Mix.{Step, calls, sweeps, leaves_steps, answers_of}
use Rattle.sweep_account.specs.Facts.{Recorded}
use Rattle.energy_calls.specs.declared.calls.Call.{Call}
use Rattle.energy_calls.specs.declared.calls.Call.TheVariants.{Open, Resume, Close, Ask}

abbrev on : (channel : ℕ) → Call → Step
on k a = calls (record { channel = k; call = a })

abbrev read : (channel tick status boot : ℕ) → List ℕ
read k t s b = words_of k (reading_of t s b)

abbrev pub night_steps : List Step
night_steps =
    on 3 (Open (opening_of 14 1000 5000 4294967280 0)) ∷
    sweeps (read 3 6000 16 0 ∷ read 3 6001 16 0 ∷ read 3 6500 15 0 ∷ read 3 6500 99 0 ∷ read 3 7501 99 0 ∷ []) (replicate 64 255) ∷
    sweeps (replicate 65 (read 3 6501 99 0)) (replicate 65 255) ∷
    on 3 (Resume (reading_of 90000 5 0)) ∷
    sweeps (read 3 90500 12 0 ∷ read 3 91000 0 1 ∷ read 3 90500 0 1 ∷ []) (255 ∷ 255 ∷ 255 ∷ []) ∷
    sweeps (read 3 90600 13 0 ∷ read 3 90700 14 0 ∷ []) (255 ∷ []) ∷
    on 3 (Resume (reading_of 91000 0 1)) ∷
    sweeps [] [] ∷
    sweeps (read 3 91500 250 1 ∷ []) (255 ∷ 255 ∷ []) ∷
    on 5 (Open (opening_of 14 3600000 0 7 9)) ∷
    sweeps (read 5 3600000 1007 0 ∷ read 5 3600000 1007 9 ∷ read 64 1 0 0 ∷ []) (replicate 4 255) ∷
    on 7 Close ∷ []

-- The night's calls and no others; each one's answer; the wattmeter's sum, and the hall total.
pub record NightSwept : Type 0 where
  pub made : Recorded night_steps night
  pub answered : answers_of all_closed night_steps ≡ answers
  pub summed : answer_on (leaves_steps all_closed night_steps) 3 Ask ≡ gives (wattmeter ∷ [])
  pub hall : hall_total (leaves_steps all_closed night_steps) 14 ≡ gives ((wattmeter + 1000) ∷ [])
