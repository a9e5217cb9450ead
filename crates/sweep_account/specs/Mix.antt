-- Calls and sweeps in any order on the channels of a hall (document 02, request 5). Each step is what the contract of that call says of it;
-- the calls that it makes are those of document 01.
--   Step                a call and the channel that it names; or a sweep, its readings and the answers as they stand before it
--   leaves_at cs s       the channels that a step leaves;   leaves_steps cs ss   those that steps in a row leave
--   calls_of s           the calls that a step makes: of a sweep its readings, none where it is refused whole;   calls_in ss   of steps in a row
--   answered n          the answer of a reading whose number is n: a reading that is accepted gives nothing
--   answers_at cs s      a step's answers: of a sweep those of its readings, as it wrote them, none where it is refused whole
--   answers_of cs ss     of steps in a row
-- Assumes nothing.
use Rattle.std.specs.Prelude.{ℕ, cond, List, [], ◌∷◌, ◌++◌, map, length, take, eqb}
use Rattle.words.specs.Answers.{Answer, gives, unless, first}
use Rattle.energy_hall.specs.Hall.{Named, answer_on, leaves_on}
use Rattle.sweep_readings.specs.Swept.{asked_in, tests, sweep_number, sweep_leaves, sweep_answers}
use Rattle.energy_channel.specs.declared.channel.Channel.{Channel}

pub data Step : Type 0 where
  calls : Named → Step
  sweeps : (readings : List (List ℕ)) (answers : List ℕ) → Step

abbrev pub leaves_at : List Channel → Step → List Channel
leaves_at cs (calls x) = leaves_on cs x.channel x.call
leaves_at cs (sweeps qs ns) = sweep_leaves cs qs ns

abbrev pub leaves_steps : List Channel → List Step → List Channel
leaves_steps cs [] = cs
leaves_steps cs (s ∷ ss) = leaves_steps (leaves_at cs s) ss

-- on 64 channels
abbrev pub calls_of : Step → List Named
calls_of (calls x) = x ∷ []
calls_of (sweeps qs ns) = cond (eqb (first (tests (length qs) 64 (length ns))) 0) (asked_in qs) []

abbrev pub calls_in : List Step → List Named
calls_in [] = []
calls_in (s ∷ ss) = calls_of s ++ calls_in ss

abbrev pub answered : ℕ → Answer
answered n = unless n (gives [])

abbrev pub answers_at : List Channel → Step → List Answer
answers_at cs (calls x) = answer_on cs x.channel x.call ∷ []
answers_at cs (sweeps qs ns) = cond (eqb (sweep_number cs qs ns) 0) (map answered (take (length qs) (sweep_answers cs qs ns))) []

abbrev pub answers_of : List Channel → List Step → List Answer
answers_of cs [] = []
answers_of cs (s ∷ ss) = answers_at cs s ++ answers_of (leaves_at cs s) ss
