-- A number as text: it reads back, its bytes are digits of the base, no zero stands in front, and it is no longer than it must be.
-- Assumes nothing.
use Prim.Native.Nat.{ℕ, zero, suc, ◌+◌, ◌-◌, ◌*◌, ◌/◌, ◌%◌, ◌^◌, ◌≤◌, ◌<◌}
use mathlib.Core.Path.{◌≡◌, refl, sym, ap, ap₂, subst, ◌∙◌}
use mathlib.Core.Bool.{Bool, true, false, cond}
use mathlib.Core.List.{[], ◌∷◌}
use borrow.Author.Tests.{lt-ltb, le-ltb, ltb-true, ltb-false, leb-true, leb-false}
use lib.Arith.{mod-mul}
use lib.Dec.{ltb, leb}
use lib.ListN.{length, get_or}
use native.Mathlib.Nat.{pow-succ', pow-le-pow_left, div-lt_iff_lt-mul, zero-div, zero-mod, mod-lt, mod-one, mod-eq_of_lt, not-suc-le-zero, add_assoc, mul_assoc, add-mul, zero-mul, zero-add, add-zero, pow-zero, mul-one}
use native.Mathlib.Omega.{arith}
use Rattle.words.specs.Facts.{IsLeast}
use Rattle.words.proofs.BelowLaws.{least_here, is_least}
use Rattle.text.specs.Numerals.{glyph_of, digit_of, digits, holds, places_of, numeral_of, read_on, read_as}
use Rattle.text.specs.Facts.{NumeralFacts}
use Rattle.text.proofs.NumeralLaws.{power_some, enough, numeral_length}

-- ---- a digit

-- a byte is read as the digit that it stands for
glyph_read : (d : ℕ) → d < 16 → digit_of (glyph_of d) ≡ d
glyph_read d h = by (ltb d 10) refl
  where
    by : (t : Bool) → ltb d 10 ≡ t → digit_of (glyph_of d) ≡ d
    by true e =
        ap digit_of (ap (λ (t : Bool). cond t (48 + d) (87 + d)) e)
        ∙ ap (λ (t : Bool). cond t (48 + d - 48) (48 + d - 87)) (lt-ltb (48 + d) 58 (omega (arith, ltb-true d 10 e)))
        ∙ omega arith
    by false e =
        ap digit_of (ap (λ (t : Bool). cond t (48 + d) (87 + d)) e)
        ∙ ap (λ (t : Bool). cond t (87 + d - 48) (87 + d - 87)) (le-ltb (87 + d) 58 (omega arith))
        ∙ omega arith

-- ---- reading

module _ (b : ℕ) (base : 1 < b) (most : b ≤ 16) where
  digit_small : (n : ℕ) → n % b < 16
  digit_small n = omega (arith, mod-lt n {m = b} (omega arith))

  -- the digits after a number a say a times b to the k, and the k lowest digits of n
  digits_read : (k n a : ℕ) → read_on b a (digits b k n) ≡ a * b ^ k + n % b ^ k
  unfolding digits
  digits_read zero n a = sym (ap₂ (λ (x y : ℕ). x + y) (ap (λ (x : ℕ). a * x) (pow-zero b) ∙ mul-one a) (ap (λ (x : ℕ). n % x) (pow-zero b) ∙ mod-one n) ∙ add-zero a)
  digits_read (suc k) n a =
      let d : ℕ = n / b ^ k % b in
      let p : ℕ = b ^ k in
      ap (λ (x : ℕ). read_on b (a * b + x) (digits b k n)) (glyph_read d (digit_small (n / b ^ k)))
      ∙ digits_read k n (a * b + d)
      ∙ ap (λ (x : ℕ). x + n % p) (add-mul (a * b) d p ∙ ap (λ (x : ℕ). x + d * p) (mul_assoc a b p))
      ∙ add_assoc (a * (b * p)) (d * p) (n % p)
      ∙ ap (λ (x : ℕ). a * (b * p) + x) (sym (mod-mul n {m = b} {c = p} (omega arith) (power_some b n base k)))
      ∙ ap (λ (x : ℕ). a * x + n % x) (sym (pow-succ' b k))

-- ---- how many, and which

-- each byte stands for a digit of the base
digits_at : (b : ℕ) → 1 < b → (k n i : ℕ) → i < k → (d : ℕ) × (d < b) × (get_or (digits b k n) i 0 ≡ glyph_of d)
unfolding digits
digits_at b base zero n i h = absurd (not-suc-le-zero h)
digits_at b base (suc k) n zero h = (n / b ^ k % b, mod-lt (n / b ^ k) {m = b} (omega arith), refl)
digits_at b base (suc k) n (suc i) h = digits_at b base k n i (omega arith)

module _ (b n : ℕ) (base : 1 < b) (most : b ≤ 16) (word : n < 2 ^ 64) where
  places_least : IsLeast (holds b n) 64 1 (places_of b n)
  unfolding places_of
  places_least = is_least (holds b n) 64 1

  too_few : (k : ℕ) → 1 ≤ k → k < places_of b n → b ^ k ≤ n
  too_few k h l = ltb-false n (b ^ k) (places_least.fail k h l)

  hold : n < b ^ places_of b n
  hold = by (leb (places_of b n) 64) refl
    where
      by : (t : Bool) → leb (places_of b n) 64 ≡ t → n < b ^ places_of b n
      by true e = ltb-true n (b ^ places_of b n) (places_least.passes (omega (arith, leb-true (places_of b n) 64 e)))
      by false e =
          let p : 2 ^ 64 ≤ b ^ 64 = pow-le-pow_left {n = 2} base 64 in
          let q : b ^ 64 ≤ n = too_few 64 (omega arith) (leb-false (places_of b n) 64 e) in
          absurd (omega arith)

  numeral_reads : read_as b (numeral_of b n) ≡ n
  numeral_reads = digits_read b base most (places_of b n) n 0 ∙ ap₂ (λ (x y : ℕ). x + y) (zero-mul (b ^ places_of b n)) (mod-eq_of_lt hold) ∙ zero-add n

  -- the digit in front is what is left of the number above all others; it is 0 only where one digit holds the number
  front : (k : ℕ) → places_of b n ≡ suc k → get_or (numeral_of b n) 0 0 ≡ glyph_of 0 → n ≡ 0
  unfolding digits
  front k e z =
      let h : n < b * b ^ k = subst (λ (m : ℕ). n < m) (ap (λ (m : ℕ). b ^ m) e ∙ pow-succ' b k) hold in
      let l : n / b ^ k < b = (div-lt_iff_lt-mul {y = b} (power_some b n base k)).1 h in
      let g : glyph_of (n / b ^ k % b) ≡ glyph_of 0 = sym (ap (λ (m : ℕ). get_or (digits b m n) 0 0) e) ∙ z in
      let d : n / b ^ k % b ≡ 0 = sym (glyph_read (n / b ^ k % b) (digit_small b base most (n / b ^ k))) ∙ ap digit_of g in
      let r : n < b ^ k = enough b n base k (sym (mod-eq_of_lt l) ∙ d) in
      by k e r
    where
      by : (k : ℕ) → places_of b n ≡ suc k → n < b ^ k → n ≡ 0
      by zero e r = omega (arith, subst (λ (m : ℕ). n < m) (pow-zero b) r)
      by (suc k) e r = absurd (omega (arith, too_few (suc k) (omega arith) (omega arith), r))

  -- the number 0 takes one digit
  zero_text : n ≡ 0 → numeral_of b n ≡ glyph_of 0 ∷ []
  unfolding digits places_of
  zero_text z =
      let one-enough : places_of b n ≡ 1 = least_here (holds b n) 64 1 (omega arith) (lt-ltb n (b ^ 1) (omega (arith, power_some b n base 1))) in
      ap (λ (k : ℕ). digits b k n) one-enough
      ∙ ap (λ (d : ℕ). glyph_of d ∷ []) (ap (λ (m : ℕ). m / b ^ 0 % b) z ∙ ap (λ (m : ℕ). m % b) (zero-div (b ^ 0)) ∙ zero-mod b)

  no_longer : (k : ℕ) → 1 ≤ k → n < b ^ k → places_of b n ≤ k
  no_longer k h l = by (leb (places_of b n) k) refl
    where
      by : (t : Bool) → leb (places_of b n) k ≡ t → places_of b n ≤ k
      by true e = leb-true (places_of b n) k e
      by false e = absurd (omega (arith, too_few k h (leb-false (places_of b n) k e)))

pub numeral_facts : NumeralFacts
numeral_facts b n base most word =
    let few : 1 ≤ places_of b n = (places_least b n base most word).starts in
    let long : length (numeral_of b n) ≡ places_of b n = numeral_length b n in
    record {
      reads = numeral_reads b n base most word;
      of_the_base = λ k l. digits_at b base (places_of b n) n k (omega arith);
      no_zero_in_front = front b n base most word (places_of b n - 1) (omega arith);
      zero_itself = zero_text b n base most word;
      as_many = long;
      some = omega arith;
      at_most = λ k h l. omega (arith, no_longer b n base most word k h l);
      once = λ m w e. sym (numeral_reads b m base most w) ∙ ap (read_as b) e ∙ numeral_reads b n base most word;
    }
