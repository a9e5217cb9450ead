-- The theorems of Facts.antt on codes, their order and how long they last, under their names. Assumes nothing.
use Prim.Native.Nat.{ℕ, ◌+◌, ◌*◌, ◌%◌, ◌^◌, ◌<◌, ◌≤◌}
use mathlib.Core.Path.{◌≡◌, refl, sym, ap₂, ◌∙◌}
use mathlib.Core.Bool.{Bool, true, false}
use mathlib.Core.Logic.{◌⊎◌, inl, inr, ⊎_elim, ◌↔◌}
use native.Mathlib.Nat.{eq-or-lt_of_le, mul-le-mul_right, mul-lt-mul_of_pos_right}
use native.Mathlib.Omega.{arith}
use borrow.Author.Tests.{leb-true, leb-false}
use lib.Dec.{leb}
use lib.Pow.{pow_pos, pow_mono, pow-add}
use Rattle.fields.specs.Bits.{field}
use Rattle.fields.proofs.FieldLaws.{field_mod}
use Rattle.rapl_windows.specs.Windows.{quarters_of, code_of}
use Rattle.rapl_windows.specs.Facts.{CodeFact, AnyCode, Before, Rising, LastsOnce}
use Rattle.rapl_windows.proofs.CodeLaws.{x_lt, y_lt, quarters_most, x_of, y_of, quarters_of_law}

-- ---- a code and its Y and X

pub code_fact : (y x : ℕ) → CodeFact y x
code_fact y x =
    record {
      seven = λ r. omega (arith, r.0, r.1);
      is_y = λ r. y_of y x r.0 r.1;
      is_x = λ r. x_of y x r.0 r.1;
      lasts = λ r. quarters_of_law y x r.0 r.1;
    }

whole_code : (code : ℕ) → code < 128 → code_of (field 0 5 code) (field 5 2 code) ≡ code
unfolding field
whole_code code h = omega arith

low_code : (code : ℕ) → quarters_of (code % 128) ≡ quarters_of code
unfolding quarters_of
low_code code = ap₂ (λ (a b : ℕ). (4 + a) * 2 ^ b) (field_mod 5 2 7 code (omega arith)) (field_mod 0 5 7 code (omega arith))

pub any_code : (code : ℕ) → AnyCode code
any_code code = record { ranged = (y_lt code, x_lt code); whole = whole_code code; low = low_code code; most = quarters_most code }

-- ---- the order

-- one of two numbers is less, or they are one
abbrev Compared : ℕ → ℕ → Type 0
Compared a b = (a < b) ⊎ ((a ≡ b) ⊎ (b < a))

compared : (a b : ℕ) → Compared a b
compared a b = by (leb a b) refl
  where
    by : (t : Bool) → leb a b ≡ t → Compared a b
    by true e = ⊎_elim (λ q. inr (inl q)) inl (eq-or-lt_of_le (leb-true a b e))
    by false e = inr (inr (leb-false a b e))

-- one of two codes stands before the other, or they are one
either : (y x y' x' : ℕ) → Before y x y' x' ⊎ (((y ≡ y') × (x ≡ x')) ⊎ Before y' x' y x)
either y x y' x' = by (compared y y') (compared x x')
  where
    by : Compared y y' → Compared x x' → Before y x y' x' ⊎ (((y ≡ y') × (x ≡ x')) ⊎ Before y' x' y x)
    by (inl l) t = inl (inl l)
    by (inr (inl e)) (inl l) = inl (inr (e, l))
    by (inr (inl e)) (inr (inl q)) = inr (inl (e, q))
    by (inr (inl e)) (inr (inr l)) = inr (inr (inr (sym e, l)))
    by (inr (inr l)) t = inr (inr (inl l))

-- from one Y to the next durations double, and X adds less than that
rises : (y x y' x' : ℕ) → x < 4 → Before y x y' x' → (4 + x) * 2 ^ y < (4 + x') * 2 ^ y'
rises y x y' x' h (inl l) =
    let less : (4 + x) * 2 ^ y < 8 * 2 ^ y = mul-lt-mul_of_pos_right (omega arith) (pow_pos y) in
    let twice : 2 ^ (1 + y) ≡ 2 * 2 ^ y = pow-add 2 1 y in
    let next : 1 + y ≤ y' = omega arith in
    let up : 2 ^ (1 + y) ≤ 2 ^ y' = pow_mono next in
    let more : 4 * 2 ^ y' ≤ (4 + x') * 2 ^ y' = mul-le-mul_right (2 ^ y') (omega arith) in
    omega arith
rises y x y' x' h (inr e) = rw e.0 (mul-lt-mul_of_pos_right (omega (arith, e.1)) (pow_pos y'))

same_lasts : (y x y' x' : ℕ) → (y ≡ y') × (x ≡ x') → (4 + x) * 2 ^ y ≡ (4 + x') * 2 ^ y'
same_lasts y x y' x' e = ap₂ (λ (a b : ℕ). (4 + a) * 2 ^ b) e.1 e.0

-- a code lasts at most as long as any that does not stand before it
pub not_before : (y x y' x' : ℕ) → x < 4 → (Before y' x' y x → ⊥) → (4 + x) * 2 ^ y ≤ (4 + x') * 2 ^ y'
not_before y x y' x' h n =
    ⊎_elim (λ b. omega (arith, rises y x y' x' h b)) (⊎_elim (λ e. omega (arith, same_lasts y x y' x' e)) (λ b. absurd (n b))) (either y x y' x')

-- a code that lasts less stands before
less_before : (y x y' x' : ℕ) → x' < 4 → (4 + x) * 2 ^ y < (4 + x') * 2 ^ y' → Before y x y' x'
less_before y x y' x' h l =
    ⊎_elim (λ b. b) (⊎_elim (λ e. absurd (omega (arith, l, same_lasts y x y' x' e))) (λ b. absurd (omega (arith, l, rises y' x' y x h b)))) (either y x y' x')

pub rising : (y x y' x' : ℕ) → Rising y x y' x'
rising y x y' x' r r' = rw (quarters_of_law y x r.0 r.1, quarters_of_law y' x' r'.0 r'.1) both
  where
    both : Before y x y' x' ↔ ((4 + x) * 2 ^ y < (4 + x') * 2 ^ y')
    both = (rises y x y' x' r.1, less_before y x y' x' r'.1)

pub lasts_once : (a b : ℕ) → LastsOnce a b
unfolding quarters_of
lasts_once a b h k e =
    ⊎_elim (λ l. absurd (omega (arith, e, rises ya xa yb xb (x_lt a) l)))
    (⊎_elim (λ q. sym (whole_code a h) ∙ ap₂ code_of q.0 q.1 ∙ whole_code b k) (λ l. absurd (omega (arith, e, rises yb xb ya xa (x_lt b) l))))
    (either ya xa yb xb)
  where
    ya : ℕ
    ya = field 0 5 a

    xa : ℕ
    xa = field 5 2 a

    yb : ℕ
    yb = field 0 5 b

    xb : ℕ
    xb = field 5 2 b
