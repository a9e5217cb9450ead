-- The worked night: what it answers is computed, its supposition is met for every channel, and its total is then demand 3's.
-- Assumes nothing.
use Prim.Native.Nat.{ℕ}
use mathlib.Core.Path.{◌≡◌, refl, sym, ap, subst, ◌∙◌}
use mathlib.Core.Logic.{◌≢◌}
use mathlib.Core.List.{List, [], ◌∷◌}
use native.Mathlib.Omega.{arith}
use native.Mathlib.Decide.{ℕ_discrete as decide}
use borrow.Author.Tests.{ne_eqb}
use Rattle.fields.specs.Bits.{field}
use Rattle.words.specs.Answers.{Answer, first, gives}
use Rattle.energy_channel.specs.Channel.{in_range, is_open, tests, values, taken}
use Rattle.energy_hall.specs.Hall.{all_closed, tests_on, answer_on, leaves_on, answers_to}
use Rattle.energy_account.specs.Account.{calls, entries, account, shut, Supposed, due, parts}
use Rattle.energy_account.specs.Facts.{history}
use Rattle.energy_account.specs.Night.{night, answers, NightFact}
use Rattle.energy_account.proofs.Demand3.{demand3, hall_demand3}

night_answered : answers_to all_closed (calls night) ≡ answers
unfolding answer_on leaves_on tests_on tests values taken is_open in_range first field
night_answered = refl

-- ---- the supposition, channel by channel

supposed_3 : Supposed shut (entries 3 night answers)
unfolding field
supposed_3 =
    (refl, ((refl, λ e. (omega arith, omega arith)), ((refl, λ e. (omega arith, omega arith)), ((refl, λ e. (omega arith, omega arith)), (refl, ((refl, λ e. (omega arith, omega arith)), (refl, ((refl, λ e. (omega arith, omega arith)), tt))))))))

supposed_5 : Supposed shut (entries 5 night answers)
unfolding field
supposed_5 = (refl, ((refl, λ e. (omega arith, omega arith)), tt))

no_other : (k : ℕ) → k ≢ 3 → k ≢ 5 → entries k night answers ≡ []
no_other k a b = simp (ne_eqb 3 k (λ e. a (sym e)), ne_eqb 5 k (λ e. b (sym e)))

night_supposed : (k : ℕ) → Supposed shut (history k night)
night_supposed k = subst (λ (xs : List Answer). Supposed shut (entries k night xs)) (sym night_answered) (by (decide k 3) (decide k 5))
  where
    by : Dec (k ≡ 3) → Dec (k ≡ 5) → Supposed shut (entries k night answers)
    by (yes e) d = rw e supposed_3
    by (no a) (yes e) = rw e supposed_5
    by (no a) (no b) = rw (no_other k a b) tt

pub night_fact : NightFact
unfolding first
night_fact =
    record {
      answered = night_answered;
      supposed = night_supposed;
      summed = demand3 3 night (night_supposed 3) ∙ ap (λ (xs : List Answer). due 3 (account shut (entries 3 night xs))) night_answered;
      hall = hall_demand3 14 night (λ k h. night_supposed k) ∙
          ap (λ (xs : List Answer). gives (parts 64 14 (λ (k : ℕ). account shut (entries k night xs)) ∷ [])) night_answered;
    }
