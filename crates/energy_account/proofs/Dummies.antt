-- The wrong meters fall at the worked night, whose total is neither 0 nor the first rise. Assumes nothing.
use Prim.Native.Nat.{ℕ}
use mathlib.Core.Path.{◌≡◌, refl, sym, ap, ◌∙◌}
use mathlib.Core.List.{List, [], ◌∷◌}
use native.Mathlib.Omega.{arith}
use Rattle.fields.specs.Bits.{field}
use Rattle.words.specs.Answers.{Answer, refused, gives, number_in, value_in, first}
use Rattle.energy_channel.specs.Channel.{in_range, is_open, tests, values, taken}
use Rattle.energy_hall.specs.Hall.{tests_on, answer_on, leaves_on}
use Rattle.energy_account.specs.Account.{Event, calls, shut, Supposed}
use Rattle.energy_account.specs.Night.{night, wattmeter}
use Rattle.energy_account.specs.Facts.{history, Asked, ours, Demand3Of}
use Rattle.energy_account.specs.Dummies.{zeroed, first_rise, nothing, DummiesFall}
use Rattle.energy_account.proofs.Demand3.{demand3}
use Rattle.energy_account.proofs.Night.{night_fact}
use Rattle.energy_account.proofs.FirstRise.{refuses_as_ours}

as_ours : (ask : Asked) → Demand3Of ask → (k : ℕ) (es : List Event) → Supposed shut (history k es) → ask (calls es) k ≡ ours (calls es) k
as_ours ask d k es f = d k es f ∙ sym (demand3 k es f)

-- a meter that keeps demand 3 gives the wattmeter's sum at the end of the night
night_total : (ask : Asked) → Demand3Of ask → ask (calls night) 3 ≡ gives (wattmeter ∷ [])
night_total ask d = as_ours ask d 3 night (night_fact.supposed 3) ∙ night_fact.summed

night_first : first_rise (calls night) 3 ≡ gives (32 ∷ [])
unfolding answer_on leaves_on tests_on tests values taken is_open in_range first field
night_first = refl

pub same_value : {m n : ℕ} → gives (m ∷ []) ≡ gives (n ∷ []) → m ≡ n
same_value e = ap (λ (a : Answer). value_in a 0) e

same_number : (a : Answer) → number_in (nothing a) ≡ number_in a
same_number (refused n) = refl
same_number (gives vs) = refl

pub dummies_fall : DummiesFall
dummies_fall =
    record {
      zeroed_refuses = λ xs k. same_number (ours xs k);
      first_rise_refuses = refuses_as_ours;
      first_rise_night = night_first;
      as_ours = as_ours;
      zeroed_falls = λ d. let e = same_value (sym (ap nothing night_fact.summed) ∙ night_total zeroed d) in omega (arith, e);
      first_rise_falls = λ d. let e = same_value (sym night_first ∙ night_total first_rise d) in omega (arith, e);
    }
