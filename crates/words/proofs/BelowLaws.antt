-- Laws of `anyBelow`, `firstBelow` and `least`: a loop's turn, its end, and what each search means. Assumes nothing.
use Prim.Native.Nat.{ℕ, zero, suc, ◌+◌, ◌-◌, ◌<◌}
use mathlib.Core.Bool.{Bool, true, false, ◌||◌, or-true, or-false, or_assoc, false≢true}
use mathlib.Core.Logic.{◌⊎◌, ⊎_elim, ◌≢◌}
use mathlib.Core.Path.{◌≡◌, refl, sym, ap, ap₂, ◌∙◌}
use borrow.Author.Tests.{leb-true, leb-false}
use lib.Dec.{leb}
use native.Mathlib.Nat.{add-zero, add-suc, not-suc-le-zero, eq-or-lt_of_le, le_of_suc-le-suc}
use native.Mathlib.Numerals.{add-one}
use native.Mathlib.Omega.{arith}
use Rattle.words.specs.Answers.{or_else}
use Rattle.words.specs.Below.{any_below, first_below, least, or_on}
use Rattle.words.specs.Facts.{IsLeast}
use Rattle.words.proofs.TestLaws.{or_either, or_neither, never_both}
use Rattle.words.proofs.AnswerLaws.{else_stop, else_pass, else_zero}

-- below the next number: below this one, or this one
below_suc : {k n : ℕ} → k < suc n → (k ≡ n) ⊎ (k < n)
below_suc h = eq-or-lt_of_le (le_of_suc-le-suc h)

-- ---- some number passes

module _ (p : ℕ → Bool) where
  -- a turn of a loop whose number does not pass; and one that has found none
  pub any_skip : (k : ℕ) → p k ≡ false → any_below p (k + 1) ≡ any_below p k
  unfolding any_below
  any_skip k b = rw (add-one, b) (or-false (any_below p k))

  -- a turn of a loop that goes on whether it passes or not
  pub any_next : (k : ℕ) → any_below p (k + 1) ≡ (any_below p k || p k)
  unfolding any_below
  any_next k = rw add-one refl

  pub any_more : (k : ℕ) → any_below p k ≡ false → p k ≡ false → any_below p (k + 1) ≡ false
  any_more k a b = any_skip k b ∙ a

  pub any_none : any_below p 0 ≡ false
  unfolding any_below
  any_none = refl

  -- one that passes is found
  pub any_found : (j n : ℕ) → j < n → p j ≡ true → any_below p n ≡ true
  unfolding any_below
  any_found j zero h e = absurd (not-suc-le-zero h)
  any_found j (suc n) h e =
      ⊎_elim (λ q. ap (λ (b : Bool). any_below p n || b) (ap p (sym q) ∙ e) ∙ or-true (any_below p n)) (λ l. ap (λ (b : Bool). b || p n) (any_found j n l e)) (below_suc h)

  -- what is found passes
  pub any_some : (n : ℕ) → any_below p n ≡ true → (j : ℕ) × (j < n) × (p j ≡ true)
  unfolding any_below
  any_some zero e = absurd (false≢true e)
  any_some (suc n) e =
      ⊎_elim (λ a. let r = any_some n a in (r.0, omega (arith, r.1), r.2)) (λ b. (n, omega arith, b)) (or_either (any_below p n) (p n) e)

  -- none is found exactly where none passes
  pub any_all : (n : ℕ) → any_below p n ≡ false → (k : ℕ) → k < n → p k ≡ false
  unfolding any_below
  any_all zero e k l = absurd (not-suc-le-zero l)
  any_all (suc n) e k l =
      let z = or_neither (any_below p n) (p n) e in
      ⊎_elim (λ q. ap p q ∙ z.1) (λ m. any_all n z.0 k m) (below_suc l)

  pub all_any : (n : ℕ) → ((k : ℕ) → k < n → p k ≡ false) → any_below p n ≡ false
  unfolding any_below
  all_any zero f = refl
  all_any (suc n) f = rw (all_any n (λ k l. f k (omega arith))) (f n (omega arith))

-- those below m, and then n more
pub any_append : (p : ℕ → Bool) (m n : ℕ) → any_below p (m + n) ≡ (any_below p m || any_below (λ k. p (m + k)) n)
unfolding any_below
any_append p m zero = ap (any_below p) (add-zero m) ∙ sym (or-false (any_below p m))
any_append p m (suc n) =
    ap (any_below p) (add-suc m n) ∙ ap (λ (b : Bool). b || p (m + n)) (any_append p m n) ∙ or_assoc (any_below p m) (any_below (λ k. p (m + k)) n) (p (m + n))

-- ---- the first fault

module _ (f : ℕ → ℕ) where
  -- a turn of a loop that has met no fault
  pub fault_pass : (k : ℕ) → first_below f k ≡ 0 → f k ≡ 0 → first_below f (k + 1) ≡ 0
  unfolding first_below
  fault_pass k a b = rw add-one (else_pass (f k) a ∙ b)

  pub fault_none : first_below f 0 ≡ 0
  unfolding first_below
  fault_none = refl

  -- a fault after none decides, whatever comes later
  pub fault_stop : (k n : ℕ) → k < n → first_below f k ≡ 0 → f k ≢ 0 → first_below f n ≡ f k
  unfolding first_below
  fault_stop k zero l a h = absurd (not-suc-le-zero l)
  fault_stop k (suc n) l a h =
      ⊎_elim (λ q. ap (λ (m : ℕ). or_else (first_below f m) (f m)) (sym q) ∙ else_pass (f k) a)
      (λ m. ap (λ (x : ℕ). or_else x (f n)) (fault_stop k n m a h) ∙ else_stop (f k) (f n) h) (below_suc l)

  -- no fault is met exactly where no number below n has one
  pub fault_all : (n : ℕ) → first_below f n ≡ 0 → (k : ℕ) → k < n → f k ≡ 0
  unfolding first_below
  fault_all zero e k l = absurd (not-suc-le-zero l)
  fault_all (suc n) e k l =
      let z = else_zero (first_below f n) (f n) e in
      ⊎_elim (λ q. ap f q ∙ z.1) (λ m. fault_all n z.0 k m) (below_suc l)

  pub all_fault : (n : ℕ) → ((k : ℕ) → k < n → f k ≡ 0) → first_below f n ≡ 0
  unfolding first_below
  all_fault zero a = refl
  all_fault (suc n) a = else_pass (f n) (all_fault n (λ k l. a k (omega arith))) ∙ a n (omega arith)

  -- a fault that is met is that of some number, and none before it has one
  pub fault_some : (n m : ℕ) → m ≢ 0 → first_below f n ≡ m → (k : ℕ) × (k < n) × (f k ≡ m) × ((i : ℕ) → i < k → f i ≡ 0)
  unfolding first_below
  fault_some zero m h e = absurd (h (sym e))
  fault_some (suc n) m h e = by (first_below f n) refl (fault_some n m h)
    where
      by : (x : ℕ) → first_below f n ≡ x → (first_below f n ≡ m → (k : ℕ) × (k < n) × (f k ≡ m) × ((i : ℕ) → i < k → f i ≡ 0))
          → (k : ℕ) × (k < suc n) × (f k ≡ m) × ((i : ℕ) → i < k → f i ≡ 0)
      by zero z earlier = (n, omega arith, sym (else_pass (f n) z) ∙ e, fault_all n z)
      by (suc x) z earlier =
          let r = earlier (sym (else_stop (first_below f n) (f n) (λ q. omega arith)) ∙ e) in
          (r.0, omega (arith, r.1), r.2, r.3)

-- ---- the least number that passes

module _ (p : ℕ → Bool) where
  pub least_here : (n k : ℕ) → 0 < n → p k ≡ true → least p n k ≡ k
  unfolding least
  least_here zero k h e = absurd (not-suc-le-zero h)
  least_here (suc n) k h e = ap (λ (b : Bool). or_on b k (least p n)) e

  pub least_on : (n k : ℕ) → p k ≡ false → least p (suc n) k ≡ least p n (suc k)
  unfolding least
  least_on n k e = ap (λ (b : Bool). or_on b k (least p n)) e

  -- a turn of a loop over the numbers below n that has met none
  pub least_turn : (n k : ℕ) → k < n → p k ≡ false → least p (n - (k + 1)) (k + 1) ≡ least p (n - k) k
  least_turn n k h e =
      let s : n - k ≡ suc (n - (k + 1)) = omega arith in
      let t : k + 1 ≡ suc k = omega arith in
      rw (s, t) (sym (least_on (n - suc k) k e))

  pub least_none : (k : ℕ) → least p 0 k ≡ k
  unfolding least
  least_none k = refl

  least_by : (n k : ℕ) (b : Bool) → p k ≡ b → IsLeast p n (suc k) (least p n (suc k)) → IsLeast p (suc n) k (or_on b k (least p n))
  least_by n k true e r = record { starts = omega arith; ends = omega arith; fail = λ i a b. absurd (omega arith); passes = λ h. e }
  least_by n k false e r =
      record {
        starts = omega (arith, r.starts);
        ends = omega (arith, r.ends);
        fail = λ i a b. ⊎_elim (λ q. ap p (sym q) ∙ e) (λ l. r.fail i l b) (eq-or-lt_of_le a);
        passes = λ h. r.passes (omega arith);
      }

  pub is_least : (n k : ℕ) → IsLeast p n k (least p n k)
  unfolding least
  is_least zero k = record { starts = omega arith; ends = omega arith; fail = λ i a b. absurd (omega arith); passes = λ h. absurd (omega arith) }
  is_least (suc n) k = least_by n k (p k) refl (is_least n (suc k))

  -- and no other number is
  not_before : (n k i j : ℕ) → IsLeast p n k i → IsLeast p n k j → i < j → ⊥
  not_before n k i j a b l = never_both (a.passes (omega (arith, l, b.ends))) (b.fail i a.starts l)

  pub least_once : (n k i j : ℕ) → IsLeast p n k i → IsLeast p n k j → i ≡ j
  least_once n k i j a b = by (leb i j) refl
    where
      by : (t : Bool) → leb i j ≡ t → i ≡ j
      by true e = ⊎_elim (λ q. q) (λ l. absurd (not_before n k i j a b l)) (eq-or-lt_of_le (leb-true i j e))
      by false e = absurd (not_before n k j i b a (leb-false i j e))

-- ---- tests that agree on the numbers searched: the searches agree

pub any_same : (p q : ℕ → Bool) (n : ℕ) → ((k : ℕ) → k < n → p k ≡ q k) → any_below p n ≡ any_below q n
unfolding any_below
any_same p q zero f = refl
any_same p q (suc n) f = ap₂ (λ (a b : Bool). a || b) (any_same p q n (λ k l. f k (omega arith))) (f n (omega arith))

pub fault_same : (f g : ℕ → ℕ) (n : ℕ) → ((k : ℕ) → k < n → f k ≡ g k) → first_below f n ≡ first_below g n
unfolding first_below
fault_same f g zero e = refl
fault_same f g (suc n) e = ap₂ or_else (fault_same f g n (λ k l. e k (omega arith))) (e n (omega arith))

pub least_same : (p q : ℕ → Bool) (n : ℕ) → ((k : ℕ) → k < n → p k ≡ q k) → least p n 0 ≡ least q n 0
least_same p q n f =
    let l = is_least p n 0 in
    let m : IsLeast q n 0 (least p n 0) =
    record { starts = l.starts; ends = l.ends; fail = λ i a b. sym (f i (omega (arith, b, l.ends))) ∙ l.fail i a b; passes = λ h. sym (f _ (omega (arith, h))) ∙ l.passes h } in
    least_once q n 0 (least p n 0) (least q n 0) m (is_least q n 0)
