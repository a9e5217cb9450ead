-- A restart is not a turnover: calls of one boot number are refused as document 01 alone says, and its meter falls at the worked night.
-- Assumes nothing.
use Prim.Native.Nat.{ℕ, ◌+◌, ◌-◌, ◌*◌, ◌^◌}
use mathlib.Core.Path.{◌≡◌, refl, sym, ap, subst, ◌∙◌}
use mathlib.Core.Bool.{Bool, true, false, false≢true}
use mathlib.Core.List.{List, [], ◌∷◌}
use native.Mathlib.Omega.{arith}
use borrow.Author.Tests.{eq-eqb}
use lib.ListN.{get_or}
use Rattle.fields.specs.Bits.{field}
use Rattle.words.specs.Answers.{Answer, first, gives}
use Rattle.energy_calls.specs.Calls.{Carries}
use Rattle.energy_channel.specs.Channel.{closed, in_range, is_open, tests, refusal_of, values, taken}
use Rattle.energy_channel.proofs.ChannelLaws.{open_holds}
use Rattle.energy_hall.specs.Hall.{all_closed, tests_on, answer_on, leaves_on, Named, Each, leaves_all}
use Rattle.energy_hall.proofs.Runs.{run_keeps_all}
use Rattle.energy_account.specs.Account.{calls, entries, shut, account, Supposed, due}
use Rattle.energy_account.specs.Night.{night, wattmeter}
use Rattle.energy_account.specs.Restart.{tests01, OneBoot, bare, bare_calls, answering01, document01, OwnDemand3, answers01, RestartFact}
use Rattle.energy_account.proofs.Demand3.{demand3}
use Rattle.energy_account.proofs.Dummies.{same_value}
use Rattle.energy_calls.specs.declared.calls.Reading.{Reading}
use Rattle.energy_calls.specs.declared.calls.Call.{Call}
use Rattle.energy_calls.specs.declared.calls.Call.TheVariants.{Open, Read, Resume, Close, Ask}
use Rattle.energy_channel.specs.declared.channel.Channel.{Channel}

-- ---- one boot number

-- a record that says it is open has the boot number b
abbrev Booted : ℕ → Channel → Type 0
Booted b c = c.live ≡ true → c.boot ≡ b

booted_taken : (b : ℕ) (c : Channel) (a : Call) → Carries b a → Booted b c → refusal_of c a ≡ 0 → Booted b (taken c a)
unfolding taken
booted_taken b c (Open o) s p e l = s
booted_taken b c (Read q) s p e l = s
booted_taken b c (Resume q) s p e l = s
booted_taken b c Close s p e l = absurd (false≢true l)
booted_taken b c Ask s p e l = p l

-- the new test does not hold, or 22 comes before it
judged : (c : Channel) (q : Reading) (o : Bool) → is_open c ≡ o → (o ≡ true → q.boot ≡ c.boot) → refusal_of c (Read q) ≡ first (tests01 c (Read q))
unfolding tests first
judged c q true p e = simp (p, eq-eqb _ _ (e refl))
judged c q false p e = simp p

pub one_boot : OneBoot
unfolding tests
one_boot b xs s k (Open o) e = refl
one_boot b xs s k (Read q) e =
    let c = get_or (leaves_all all_closed xs) k closed in
    let booted : Booted b c = run_keeps_all (Booted b) (Carries b) (booted_taken b) (λ l. absurd (false≢true l)) xs s k in
    judged c q (is_open c) refl (λ o. e ∙ sym (booted (open_holds c o).0))
one_boot b xs s k (Resume q) e = refl
one_boot b xs s k Close e = refl
one_boot b xs s k Ask e = refl

-- ---- document 01's meter

bare_carries : (xs : List Named) → Each (Carries 0) (bare_calls xs)
bare_carries [] = tt
bare_carries (x ∷ xs) = (by x.call, bare_carries xs)
  where
    by : (a : Call) → Carries 0 (bare a)
    by (Open o) = refl
    by (Read q) = refl
    by (Resume q) = refl
    by Close = tt
    by Ask = tt

night_answered : answering01 (calls night) ≡ answers01
unfolding answer_on leaves_on tests_on tests values taken is_open in_range first field
night_answered = refl

night_summed : document01 (calls night) 3 ≡ gives ((wattmeter + (262144 * 2 ^ 14 - 12)) ∷ [])
unfolding answer_on leaves_on tests_on tests values taken is_open in_range first field
night_summed = refl

-- of the reading under another boot number no rise is supposed
night_supposed : Supposed shut (entries 3 night answers01)
unfolding field
night_supposed =
    (refl, ((refl, λ e. (omega arith, omega arith)), ((refl, λ e. (omega arith, omega arith)), ((refl, λ e. (omega arith, omega arith)), (refl, ((refl, λ e. (omega arith, omega arith)), ((refl, λ e. absurd (omega (arith, e))), ((refl, λ e. (omega arith, omega arith)), tt))))))))

night_owed : due 3 (account shut (entries 3 night answers01)) ≡ gives (wattmeter ∷ [])
unfolding first
night_owed = refl

falls : OwnDemand3 answering01 document01 → ⊥
falls d =
    let e = d 3 night (subst (λ (xs : List Answer). Supposed shut (entries 3 night xs)) (sym night_answered) night_supposed) in
    let f = ap (λ (xs : List Answer). due 3 (account shut (entries 3 night xs))) night_answered in
    let g = same_value (sym night_summed ∙ e ∙ f ∙ night_owed) in
    omega (arith, g)

pub restart_fact : RestartFact
restart_fact =
    record {
      ours_keeps = demand3;
      bare_carries = bare_carries;
      answered = night_answered;
      supposed = night_supposed;
      owed = night_owed;
      summed = night_summed;
      falls = falls;
    }
