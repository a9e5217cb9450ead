-- What is proved of one channel. Each record or type is one theorem, to be read without its proof; proofs/ has a proof of each under the
-- same name with underscores: `ways` in Ways, the others in Theorems.
-- Assumes nothing.
use Rattle.std.specs.Prelude.{ℕ, ◌^◌, ◌-◌, ◌≤◌, ◌≡◌, ◌↔◌, true}
use Rattle.energy_calls.specs.Calls.{told}
use Rattle.energy_channel.specs.Channel.{is_open, refusal_of, answer_of, leaves}
use Rattle.energy_channel.specs.Ways.{Way}
use Rattle.energy_calls.specs.declared.calls.Call.{Call}
use Rattle.energy_channel.specs.declared.channel.Channel.{Channel}
use Rattle.energy_channel.specs.declared.channel.After.{After}

-- ---- one result

-- Two results that the contract of a call on a channel allows are equal.
abbrev pub OneAfter : Type 0
OneAfter = (c : Channel) (a : Call) (x y : After) → told x.answer ≡ answer_of c a → x.channel ≡ leaves c a
    → told y.answer ≡ answer_of c a → y.channel ≡ leaves c a → x ≡ y

-- ---- a call

pub record Ranged (c : Channel) : Type 0 where
  pub unit : c.unit ≤ 31
  pub gap_least : 1 ≤ c.gap
  pub gap_most : c.gap ≤ 3600000
  pub total : c.total ≤ 2 ^ 53 - 1

-- A record counts as open exactly where it says so and is within its ranges.
abbrev pub OpenExactly : Type 0
OpenExactly = (c : Channel) → (is_open c ≡ true) ↔ ((c.live ≡ true) × Ranged c)

-- The tests of one channel in plain words: a number comes exactly on its way in Ways.antt.
abbrev pub Ways : Type 0
Ways = (c : Channel) (a : Call) (n : ℕ) → (refusal_of c a ≡ n) ↔ Way c a n
