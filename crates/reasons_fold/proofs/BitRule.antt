-- The plain bit rule: which fine bits belong where (`BelongsFact`), which coarse bits are set (`BitRule`), and those of several cores
-- (`JoinRule`). Assumes nothing.
use Prim.Native.Nat.{ℕ, zero, suc, ◌≤◌, ◌<◌}
use mathlib.Core.Path.{◌≡◌, refl, sym, ◌∙◌, subst}
use mathlib.Core.Logic.{◌⊎◌, inl, inr, ⊎_elim, ◌↔◌}
use mathlib.Core.Bool.{Bool, true, false, cond, ◌&&◌, false≢true}
use mathlib.Core.List.{List}
use native.Mathlib.Omega.{arith}
use lib.Dec.{leb, eqb, lit<}
use lib.ListN.{length, get_or}
use borrow.Author.Tests.{leb-true, leb-false, eqb-true, le-leb, lt-leb}
use Rattle.words.specs.Below.{any_below}
use Rattle.words.proofs.BelowLaws.{any_some, any_found}
use Rattle.words.proofs.TestLaws.{and_holds, and_both, or_either, never_both}
use Rattle.fields.specs.Masks.{mask_of, is_set}
use Rattle.fields.proofs.MaskLaws.{mask_set_where, mask_clear_above, field_set}
use Rattle.reasons_fold.specs.Fold.{belongs, reached, fold_of, fine_at, joined_first, joined_of}
use Rattle.reasons_fold.specs.Facts.{Belongs, frequency, current, power, thermal, dfc, prochot, hot_vr, misc, Ungrouped, BelongsFact, BitRule, JoinRule}

-- ---- which fine bits belong where

known : (j : ℕ) {k n : ℕ} → Belongs j n → eqb k n ≡ true → Belongs j k
known j {k} {n} b e = subst (Belongs j) (sym (eqb-true k n e)) b

there : (j k : ℕ) → belongs j k ≡ true → Belongs j k
unfolding belongs
there zero k e = frequency (leb-true k 7 e)
there (suc zero) k e = known 1 current e
there (suc (suc zero)) k e = let b = and_both (leb 9 k) (leb k 21) e in power (leb-true 9 k b.0) (leb-true k 21 b.1)
there (suc (suc (suc zero))) k e = known 3 thermal e
there (suc (suc (suc (suc zero)))) k e = ⊎_elim (known 4 prochot) (known 4 hot_vr) (or_either (eqb k 25) (eqb k 26) e)
there (suc (suc (suc (suc (suc zero))))) k e = absurd (false≢true e)
there (suc (suc (suc (suc (suc (suc zero)))))) k e = absurd (false≢true e)
there (suc (suc (suc (suc (suc (suc (suc zero))))))) k e = known 7 misc e
there (suc (suc (suc (suc (suc (suc (suc (suc zero)))))))) k e = absurd (false≢true e)
there (suc (suc (suc (suc (suc (suc (suc (suc (suc zero))))))))) k e = known 9 dfc e
there (suc (suc (suc (suc (suc (suc (suc (suc (suc (suc j)))))))))) k e = absurd (false≢true e)

back : {j k : ℕ} → Belongs j k → belongs j k ≡ true
unfolding belongs
back (frequency {k} h) = le-leb k 7 h
back current = refl
back (power {k} l h) = and_holds (le-leb 9 k l) (le-leb k 21 h)
back thermal = refl
back dfc = refl
back prochot = refl
back hot_vr = refl
back misc = refl

-- the coarse bit of a fine one that has one
coarse_of : ℕ → ℕ
coarse_of k = cond (leb k 7) 0 (cond (leb k 8) 1 (cond (leb k 21) 2 (cond (leb k 23) 3 (cond (leb k 24) 9 (cond (leb k 26) 4 7)))))

coarse_is : {j k : ℕ} → Belongs j k → j ≡ coarse_of k
unfolding coarse_of
coarse_is (frequency {k} h) = simp (le-leb k 7 h)
coarse_is current = refl
coarse_is (power {k} l h) = simp (lt-leb k 7 (omega (arith, l)), lt-leb k 8 l, le-leb k 21 h)
coarse_is thermal = refl
coarse_is dfc = refl
coarse_is prochot = refl
coarse_is hot_vr = refl
coarse_is misc = refl

-- a number below the next one, or from it on
split : (k n : ℕ) {A : Type 0} → (k ≤ n → A) → (n < k → A) → A
split k n {A} low high = by (leb k n) refl
  where
    by : (b : Bool) → leb k n ≡ b → A
    by true e = low (leb-true k n e)
    by false e = high (leb-false k n e)

some_group : (k : ℕ) → Ungrouped k ⊎ ((j : ℕ) × Belongs j k)
some_group k =
    split k 7 (λ h. inr (0, frequency h)) (λ a.
    split k 8 (λ h. inr (1, subst (Belongs 1) (omega (arith, a, h)) current)) (λ b.
    split k 21 (λ h. inr (2, power b h)) (λ d.
    split k 22 (λ h. inl (inl (omega (arith, d, h)))) (λ e.
    split k 23 (λ h. inr (3, subst (Belongs 3) (omega (arith, e, h)) thermal)) (λ f.
    split k 24 (λ h. inr (9, subst (Belongs 9) (omega (arith, f, h)) dfc)) (λ g.
    split k 25 (λ h. inr (4, subst (Belongs 4) (omega (arith, g, h)) prochot)) (λ l.
    split k 26 (λ h. inr (4, subst (Belongs 4) (omega (arith, l, h)) hot_vr)) (λ m.
    split k 27 (λ h. inl (inr (inl (omega (arith, m, h))))) (λ n.
    split k 28 (λ h. inl (inr (inr (inl (omega (arith, n, h)))))) (λ o.
    split k 29 (λ h. inr (7, subst (Belongs 7) (omega (arith, o, h)) misc)) (λ p. inl (inr (inr (inr p))))))))))))))

-- what belongs somewhere is none of them
not_these : {j k : ℕ} → Belongs j k → (k ≡ 22 → ⊥) × (k ≡ 27 → ⊥) × (k ≡ 28 → ⊥) × (k < 30)
not_these (frequency h) = (λ e. omega (arith, h, e), λ e. omega (arith, h, e), λ e. omega (arith, h, e), omega (arith, h))
not_these (power l h) = (λ e. omega (arith, h, e), λ e. omega (arith, h, e), λ e. omega (arith, h, e), omega (arith, h))
not_these current = (λ e. omega (arith, e), λ e. omega (arith, e), λ e. omega (arith, e), lit< tt)
not_these thermal = (λ e. omega (arith, e), λ e. omega (arith, e), λ e. omega (arith, e), lit< tt)
not_these dfc = (λ e. omega (arith, e), λ e. omega (arith, e), λ e. omega (arith, e), lit< tt)
not_these prochot = (λ e. omega (arith, e), λ e. omega (arith, e), λ e. omega (arith, e), lit< tt)
not_these hot_vr = (λ e. omega (arith, e), λ e. omega (arith, e), λ e. omega (arith, e), lit< tt)
not_these misc = (λ e. omega (arith, e), λ e. omega (arith, e), λ e. omega (arith, e), lit< tt)

in_no_group : (j k : ℕ) → Ungrouped k → Belongs j k → ⊥
in_no_group j k (inl e) b = (not_these b).0 e
in_no_group j k (inr (inl e)) b = (not_these b).1 e
in_no_group j k (inr (inr (inl e))) b = (not_these b).2 e
in_no_group j k (inr (inr (inr h))) b = omega (arith, h, (not_these b).3)

pub belongs_fact : BelongsFact
belongs_fact =
    record {
      decides = λ j k. (there j k, back);
      once = λ i j k a b. coarse_is a ∙ sym (coarse_is b);
      nothing = λ k. (λ f. ⊎_elim (λ n. n) (λ g. absurd (f g.0 g.1)) (some_group k), λ n j. in_no_group j k n);
      some = some_group;
    }

-- ---- which coarse bits are set

coarse_low : {j k : ℕ} → Belongs j k → j < 10
coarse_low (frequency h) = lit< tt
coarse_low current = lit< tt
coarse_low (power l h) = lit< tt
coarse_low thermal = lit< tt
coarse_low dfc = lit< tt
coarse_low prochot = lit< tt
coarse_low hot_vr = lit< tt
coarse_low misc = lit< tt

-- a bit of a mask of ten is set exactly where its test passes and it is one of the ten
mask_iff : (p : ℕ → Bool) (j : ℕ) {A : Type 0} → ((p j ≡ true) ↔ A) → (A → j < 10) → (is_set (mask_of p 10) j ≡ true) ↔ A
mask_iff p j {A} w low = (
  λ e. split j 9 (λ h. w.0 (sym (mask_set_where p 10 j (omega (arith, h))) ∙ e)) (λ h. absurd (never_both e (mask_clear_above p 10 j h))),
  λ a. mask_set_where p 10 j (low a) ∙ w.1 a,
)

Fine : ℕ → ℕ → Type 0
Fine w j = (k : ℕ) × (k < 32) × (is_set w k ≡ true) × Belongs j k

reached_iff : (w j : ℕ) → (reached w j ≡ true) ↔ Fine w j
unfolding reached Fine
reached_iff w j = (
  λ e. let r = any_some (λ k. is_set w k && belongs j k) 32 e in let b = and_both (is_set w r.0) _ r.2 in (r.0, r.1, b.0, there j r.0 b.1),
  λ r. any_found (λ k. is_set w k && belongs j k) r.0 32 r.1 (and_holds r.2 (back r.3)),
)

pub bit_rule : (w j : ℕ) → BitRule w j
unfolding fold_of Fine
bit_rule w j = mask_iff (reached w) j (reached_iff w j) (λ r. coarse_low r.3)

-- ---- several cores

pub join_rule : (xs : List ℕ) (j : ℕ) → JoinRule xs j
unfolding joined_of joined_first Fine
join_rule xs j =
    mask_iff (λ j. any_below (λ i. reached (fine_at xs i) j) (length xs)) j (
      λ e.
          let r = any_some (λ i. reached (fine_at xs i) j) (length xs) e in
          let f = (reached_iff (fine_at xs r.0) j).0 r.2 in
          (r.0, r.1, f.0, f.1, sym (field_set 32 32 (get_or xs r.0 0) f.0 f.1) ∙ f.2, f.3),
      λ r. any_found (λ i. reached (fine_at xs i) j) r.0 (length xs) r.1
          ((reached_iff (fine_at xs r.0) j).1 (r.2, r.3, field_set 32 32 (get_or xs r.0 0) r.2 r.3 ∙ r.4, r.5)),
    ) (λ r. coarse_low r.5)
