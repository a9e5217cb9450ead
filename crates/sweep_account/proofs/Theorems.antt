-- Each theorem of Facts.antt, under its name. Assumes nothing.
use Prim.Native.Nat.{ℕ}
use mathlib.Core.Path.{◌≡◌, refl, sym, ap, ap₂, ◌∙◌}
use mathlib.Core.Bool.{Bool, cond}
use mathlib.Core.List.{List, [], ◌∷◌, ◌++◌, map}
use native.Mathlib.Decide.{ℕ_discrete as decide}
use borrow.Author.Tests.{ne_eqb}
use lib.Dec.{eqb}
use lib.ListN.{length, take, length-replicate}
use Rattle.words.specs.Answers.{Answer, number_in, first}
use Rattle.words.proofs.AnswerLaws.{unless_number_in}
use Rattle.energy_channel.specs.Channel.{closed, values}
use Rattle.energy_hall.specs.Hall.{all_closed, refusal_on, answer_on, leaves_on, answers_to, leaves_all, hall_total}
use Rattle.energy_hall.proofs.Runs.{length_leaves}
use Rattle.energy_hall.proofs.Theorems.{in_turn, always_ranged}
use Rattle.energy_account.proofs.Demand3 as account
use Rattle.sweep_readings.specs.Swept.{channel_in, seen_in, asked_in, tests, sweep_number, numbers_of, sweep_leaves, sweep_answers}
use Rattle.sweep_readings.proofs.SweepLaws.{leaves_refused, leaves_accepted}
use Rattle.sweep_readings.proofs.Theorems.{swept_fact}
use Rattle.sweep_account.specs.Mix.{Step, calls, sweeps, leaves_at, leaves_steps, calls_of, calls_in, answered, answers_at}
use Rattle.sweep_account.specs.Facts.{AnyMix, MixRanged, MixDemand3, MixClosing, MixHall}
use Rattle.energy_calls.specs.declared.calls.Reading.{Reading}
use Rattle.energy_calls.specs.declared.calls.Call.TheVariants.{Read, Close, Ask}
use Rattle.energy_channel.specs.declared.channel.Channel.{Channel}

-- ---- a reading's answer and its number

-- what a reading answers is told by its number alone
answered_reading : (cs : List Channel) (n : ℕ) (q : Reading) → answered (number_in (answer_on cs n (Read q))) ≡ answer_on cs n (Read q)
unfolding answer_on values
answered_reading cs n q = ap answered (unless_number_in (refusal_on cs n (Read q)) [])

answered_readings : (cs : List Channel) (qs : List (List ℕ)) → map answered (numbers_of (answers_to cs (asked_in qs))) ≡ answers_to cs (asked_in qs)
answered_readings cs [] = refl
answered_readings cs (ws ∷ qs) =
    ap₂ (λ (x : Answer) (xs : List Answer). x ∷ xs)
    (answered_reading cs (channel_in ws) (seen_in ws))
    (answered_readings (leaves_on cs (channel_in ws) (Read (seen_in ws))) qs)

-- ---- one step on 64 channels

module _ (cs : List Channel) (l : length cs ≡ 64) where
  -- the calls that a sweep makes, by its own number
  module _ (qs : List (List ℕ)) (ns : List ℕ) where
    calls_by : calls_of (sweeps qs ns) ≡ cond (eqb (sweep_number cs qs ns) 0) (asked_in qs) []
    calls_by = ap (λ (m : ℕ). cond (eqb (first (tests (length qs) m (length ns))) 0) (asked_in qs) []) (sym l)

    made_all : sweep_number cs qs ns ≡ 0 → calls_of (sweeps qs ns) ≡ asked_in qs
    made_all e = calls_by ∙ ap (λ (m : ℕ). cond (eqb m 0) (asked_in qs) []) e

    made_none : (sweep_number cs qs ns ≡ 0 → ⊥) → calls_of (sweeps qs ns) ≡ []
    made_none h = calls_by ∙ rw (ne_eqb _ _ h)

  leaves_at_law : (s : Step) → leaves_at cs s ≡ leaves_all cs (calls_of s)
  leaves_at_law (calls x) = refl
  leaves_at_law (sweeps qs ns) = by (decide (sweep_number cs qs ns) 0)
    where
      by : Dec (sweep_number cs qs ns ≡ 0) → sweep_leaves cs qs ns ≡ leaves_all cs (calls_of (sweeps qs ns))
      by (yes e) = leaves_accepted cs qs ns e ∙ ap (leaves_all cs) (sym (made_all qs ns e))
      by (no h) = leaves_refused cs qs ns h ∙ ap (leaves_all cs) (sym (made_none qs ns h))

  answers_at_law : (s : Step) → answers_at cs s ≡ answers_to cs (calls_of s)
  answers_at_law (calls x) = refl
  answers_at_law (sweeps qs ns) = by (decide (sweep_number cs qs ns) 0)
    where
      by : Dec (sweep_number cs qs ns ≡ 0) → answers_at cs (sweeps qs ns) ≡ answers_to cs (calls_of (sweeps qs ns))
      by (yes e) =
          ap (λ (m : ℕ). cond (eqb m 0) (map answered (take (length qs) (sweep_answers cs qs ns))) []) e
          ∙ ap (map answered) ((swept_fact cs qs ns).answers e)
          ∙ answered_readings cs qs
          ∙ ap (answers_to cs) (sym (made_all qs ns e))
      by (no h) =
          ap (λ (b : Bool). cond b (map answered (take (length qs) (sweep_answers cs qs ns))) []) (ne_eqb _ _ h)
          ∙ ap (answers_to cs) (sym (made_none qs ns h))

  length_at : (s : Step) → length (leaves_at cs s) ≡ 64
  length_at (calls x) = length_leaves cs x.channel x.call ∙ l
  length_at (sweeps qs ns) = (swept_fact cs qs ns).as_many.0 ∙ l

-- ---- steps in a row

pub any_mix : AnyMix
any_mix cs l [] = record { leaves = refl; answers = refl }
any_mix cs l (s ∷ ss) =
    let t = any_mix (leaves_at cs s) (length_at cs l s) ss in
    let turn = in_turn cs (calls_of s) (calls_in ss) in
    record {
      leaves = t.leaves ∙ ap (λ (ds : List Channel). leaves_all ds (calls_in ss)) (leaves_at_law cs l s) ∙ sym turn.leave;
      answers = ap₂ (λ (xs ys : List Answer). xs ++ ys) (answers_at_law cs l s) (t.answers ∙ ap (λ (ds : List Channel). answers_to ds (calls_in ss)) (leaves_at_law cs l s)) ∙ sym turn.answer;
    }

-- from closed channels
left : (ss : List Step) → leaves_steps all_closed ss ≡ leaves_all all_closed (calls_in ss)
left ss = (any_mix all_closed (length-replicate 64 closed) ss).leaves

pub mix_ranged : MixRanged
mix_ranged ss k = rw (left ss) (always_ranged (calls_in ss) k)

-- ---- demand 3

pub mix_demand3 : MixDemand3
mix_demand3 k es ss r f = ap (λ (cs : List Channel). answer_on cs k Ask) (left ss ∙ ap (leaves_all all_closed) r) ∙ account.demand3 k es f

pub mix_closing : MixClosing
mix_closing k es ss r f = ap (λ (cs : List Channel). answer_on cs k Close) (left ss ∙ ap (leaves_all all_closed) r) ∙ account.closing_demand3 k es f

pub mix_hall : MixHall
mix_hall u es ss r f = ap (λ (cs : List Channel). hall_total cs u) (left ss ∙ ap (leaves_all all_closed) r) ∙ account.hall_demand3 u es f
