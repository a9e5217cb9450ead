-- What is proved of calls and sweeps in any order. Each record or type is one theorem, to be read without its proof; proofs/Theorems has a
-- proof of each under the same name with underscores.
--   Recorded ss es   the calls that the steps make are those of the events es
-- Assumes nothing.
use Rattle.std.specs.Prelude.{ℕ, ◌<◌, ◌≡◌, true, List, [], ◌∷◌, length, get_or, ltb}
use Rattle.words.specs.Answers.{gives, unless, first}
use Rattle.energy_channel.specs.Facts.{Ranged}
use Rattle.energy_channel.specs.Channel.{closed}
use Rattle.energy_hall.specs.Hall.{all_closed, answer_on, answers_to, leaves_all, hall_total}
use Rattle.energy_account.specs.Account.{Event, calls, shut, account, Supposed, due, parts}
use Rattle.energy_account.specs.Facts.{history}
use Rattle.sweep_account.specs.Mix.{Step, leaves_steps, calls_in, answers_of}
use Rattle.energy_calls.specs.declared.calls.Call.TheVariants.{Close, Ask}
use Rattle.energy_channel.specs.declared.channel.Channel.{Channel}

-- Steps on 64 channels leave what their calls leave, done one by one, and answer what these answer: sweeps and single calls in any order,
-- readings refused and sweeps refused whole among them.
pub record MixFact (cs : List Channel) (ss : List Step) : Type 0 where
  pub leaves : leaves_steps cs ss ≡ leaves_all cs (calls_in ss)
  pub answers : answers_of cs ss ≡ answers_to cs (calls_in ss)

abbrev pub AnyMix : Type 0
AnyMix = (cs : List Channel) → length cs ≡ 64 → (ss : List Step) → MixFact cs ss

-- No steps from closed channels leave an open record out of its ranges.
abbrev pub MixRanged : Type 0
MixRanged = (ss : List Step) (k : ℕ) → (get_or (leaves_steps all_closed ss) k closed).live ≡ true → Ranged (get_or (leaves_steps all_closed ss) k closed)

-- ---- demand 3

-- The events are the calls that the steps make, each with the whole count of its channel at that moment.
abbrev pub Recorded : List Step → List Event → Type 0
Recorded ss es = calls_in ss ≡ calls es

-- Take any steps in a row, calls and sweeps, refused ones among them, all channels closed at first, and any channel k. Suppose of the whole
-- counts what demand 3 supposes (energy_account). Then asking for the total answers what demand 3 asks for,
abbrev pub MixDemand3 : Type 0
MixDemand3 = (k : ℕ) (es : List Event) (ss : List Step) → Recorded ss es → Supposed shut (history k es)
    → answer_on (leaves_steps all_closed ss) k Ask ≡ due k (account shut (history k es))

-- so does closing the channel,
abbrev pub MixClosing : Type 0
MixClosing = (k : ℕ) (es : List Event) (ss : List Step) → Recorded ss es → Supposed shut (history k es)
    → answer_on (leaves_steps all_closed ss) k Close ≡ due k (account shut (history k es))

-- and the hall total is the sum of these sums over the open channels of one energy unit.
abbrev pub MixHall : Type 0
MixHall = (u : ℕ) (es : List Event) (ss : List Step) → Recorded ss es → ((k : ℕ) → k < 64 → Supposed shut (history k es))
    → hall_total (leaves_steps all_closed ss) u ≡
    unless (first ((ltb 31 u, 17) ∷ [])) (gives (parts 64 u (λ (k : ℕ). account shut (history k es)) ∷ []))
