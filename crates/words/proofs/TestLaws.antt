-- Laws of tests: a chain of `||`, test by test, and what a test's answer tells. Assumes nothing.
use Prim.Native.Nat.{ℕ}
use mathlib.Core.Path.{◌≡◌, refl, sym, ap, ◌∙◌}
use mathlib.Core.Bool.{Bool, true, false, not, ◌&&◌, ◌||◌, false≢true}
use mathlib.Core.Logic.{◌⊎◌, inl, inr, ⊎_elim, ◌↔◌, ◌≢◌}
use borrow.Author.Tests.{eq-eqb, ne_eqb}
use lib.Dec.{eqb}

-- a number is what it must be, or is not
pub as_must : {a b : ℕ} → a ≡ b → not (eqb a b) ≡ false
as_must {a} {b} e = ap not (eq-eqb a b e)

pub not_as_must : {a b : ℕ} → a ≢ b → not (eqb a b) ≡ true
not_as_must {a} {b} h = ap not (ne_eqb a b h)

-- a chain of `||`: a test that fails is passed over, one that holds decides
pub or_skip : {a : Bool} (b : Bool) → a ≡ false → (a || b) ≡ b
or_skip b e = rw e

pub or_take : {a : Bool} (b : Bool) → a ≡ true → (a || b) ≡ true
or_take b e = rw e

pub or_second : (a : Bool) {b : Bool} → b ≡ true → (a || b) ≡ true
or_second true e = refl
or_second false e = e

pub or_neither : (a b : Bool) → (a || b) ≡ false → (a ≡ false) × (b ≡ false)
or_neither true b e = absurd (false≢true (sym e))
or_neither false b e = (refl, e)

pub or_either : (a b : Bool) → (a || b) ≡ true → (a ≡ true) ⊎ (b ≡ true)
or_either true b e = inl refl
or_either false b e = inr e

-- where each of two tests decides a statement, both together decide that either holds
pub or_exactly : {P Q : Type 0} (a b : Bool) → ((a ≡ true) ↔ P) → ((b ≡ true) ↔ Q) → ((a || b) ≡ true) ↔ (P ⊎ Q)
or_exactly a b i j = (λ e. ⊎_elim (λ t. inl (i.0 t)) (λ t. inr (j.0 t)) (or_either a b e), ⊎_elim (λ p. or_take b (i.1 p)) (λ q. or_second a (j.1 q)))

-- a chain of `&&`: a test that holds is passed over; it fails by its first part, or by its second
pub and_skip : {a : Bool} (b : Bool) → a ≡ true → (a && b) ≡ b
and_skip b e = rw e

pub and_first : {a : Bool} (b : Bool) → a ≡ false → (a && b) ≡ false
and_first b e = rw e

pub and_second : (a : Bool) {b : Bool} → b ≡ false → (a && b) ≡ false
and_second true e = e
and_second false e = refl

pub and_holds : {a b : Bool} → a ≡ true → b ≡ true → (a && b) ≡ true
and_holds p q = rw (p, q)

pub and_both : (a b : Bool) → (a && b) ≡ true → (a ≡ true) × (b ≡ true)
and_both true b e = (refl, e)
and_both false b e = absurd (false≢true e)

-- no test both holds and fails
pub never_both : {b : Bool} → b ≡ true → b ≡ false → ⊥
never_both p q = false≢true (sym q ∙ p)

-- a test that fails exactly where a statement holds, holds exactly where it does not
pub fails_exactly : {P : Type 0} (b : Bool) → ((b ≡ false) ↔ P) → (b ≡ true) ↔ (P → ⊥)
fails_exactly true e = (λ z p. never_both refl (e.1 p), λ h. refl)
fails_exactly false e = (λ z p. never_both z refl, λ h. absurd (h (e.0 refl)))

-- and one that holds exactly where a statement does, fails exactly where it does not
pub fails_else : {P : Type 0} (b : Bool) → ((b ≡ true) ↔ P) → (b ≡ false) ↔ (P → ⊥)
fails_else true i = (λ e p. never_both refl e, λ h. absurd (h (i.0 refl)))
fails_else false i = (λ e p. never_both (i.1 p) refl, λ h. refl)
