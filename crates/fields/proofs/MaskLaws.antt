-- Masks and counts: a mask's bits are the test's answers, and it has as many ones as numbers pass. Assumes nothing.
use Prim.Native.Nat.{ℕ, zero, suc, ◌+◌, ◌*◌, ◌^◌, ◌%◌, ◌<◌, ◌≤◌}
use mathlib.Core.Bool.{Bool, true, false, ◌||◌}
use mathlib.Core.Logic.{⊎_elim}
use mathlib.Core.Path.{◌≡◌, refl, sym, ap, ap₂, ◌∙◌, subst}
use native.Mathlib.Nat.{pow-suc, add-suc, add-zero, not-suc-le-zero, eq-or-lt_of_le, le_of_suc-le-suc, mod-eq_of_lt, lt_of_lt_of_le, pow-le-pow_right, div-eq_of_lt}
use native.Mathlib.Numerals.{add-one}
use native.Mathlib.Omega.{arith}
use lib.Dec.{lit<, eqb}
use lib.Pow.{shl_exact, high, low}
use lib.Bits.{bit_or, or_shifted_r, or_block, or_zero_l}
use lib.Count.{ones, ones_cat}
use Rattle.fields.specs.Bits.{field, bit}
use Rattle.fields.specs.Masks.{one, how_many, mask_of, onwards, is_set}
use Rattle.fields.proofs.FieldLaws.{field_lt, field_mod, same_bits, field_bit}

below_twice : (b : Bool) {t m : ℕ} → m < t → one b * t + m < t * 2
below_twice true h = omega arith
below_twice false h = omega arith

one_le : (b : Bool) → one b ≤ 1
one_le true = omega arith
one_le false = omega arith

ones_one : (b : Bool) → ones (one b) ≡ one b
unfolding ones
ones_one true = refl
ones_one false = refl

module _ (p : ℕ → Bool) where
  pub mask_lt : (n : ℕ) → mask_of p n < 2 ^ n
  unfolding mask_of
  mask_lt zero = lit< tt
  mask_lt (suc n) = subst (λ (x : ℕ). mask_of p (suc n) < x) (sym (pow-suc 2 n)) (below_twice (p n) (mask_lt n))

  -- the link: set bits of the mask, and the plain count
  pub ones_mask : (n : ℕ) → ones (mask_of p n) ≡ how_many p n
  unfolding mask_of how_many ones
  ones_mask zero = refl
  ones_mask (suc n) = ones_cat n (one (p n)) (mask_of p n) (mask_lt n) ∙ ap₂ (λ (x y : ℕ). x + y) (ones_one (p n)) (ones_mask n)

  -- bit k of the mask is the test's answer at k
  pub mask_bit : (n k : ℕ) → k < n → bit k (mask_of p n) ≡ one (p k)
  unfolding mask_of field
  mask_bit zero k h = absurd (not-suc-le-zero h)
  mask_bit (suc n) k h =
      ⊎_elim (λ q. subst (λ (j : ℕ). bit j (mask_of p (suc n)) ≡ one (p j)) (sym q) top) (λ l. sym (field_mod k 1 n _ (omega arith)) ∙ ap (bit k) (low (one (p n)) n (mask_lt n)) ∙ mask_bit n k l)
      (eq-or-lt_of_le (le_of_suc-le-suc h))
    where
      top : bit n (mask_of p (suc n)) ≡ one (p n)
      top = ap (λ (x : ℕ). x % 2) (high (one (p n)) n (mask_lt n)) ∙ mod-eq_of_lt (omega (arith, one_le (p n)))

  -- a turn of the loop that builds it: the mask with bit k set where k passes, the same number where it does not
  pub mask_set : (k : ℕ) → k < 64 → p k ≡ true → bit_or (mask_of p k) ((1 * 2 ^ k) % 2 ^ 64) ≡ mask_of p (k + 1)
  unfolding mask_of
  mask_set k h e =
      ap (λ (x : ℕ). bit_or (mask_of p k) x) (shl_exact 1 k 64 (lit< tt) (omega arith)) ∙ or_shifted_r 1 k (mask_of p k) (mask_lt k) ∙ rw (add-one, e)

  pub mask_skip : (k : ℕ) → p k ≡ false → mask_of p k ≡ mask_of p (k + 1)
  unfolding mask_of
  mask_skip k e = rw (add-one, e) (omega arith)

  pub many_le : (n : ℕ) → how_many p n ≤ n
  unfolding how_many
  many_le zero = omega arith
  many_le (suc n) = omega (arith, many_le n, one_le (p n))

-- the mask of two tests joined is the two masks joined
one_or : (a b : Bool) → bit_or (one a) (one b) ≡ one (a || b)
one_or true true = refl
one_or true false = refl
one_or false true = refl
one_or false false = refl

pub mask_or : (p q : ℕ → Bool) (n : ℕ) → bit_or (mask_of p n) (mask_of q n) ≡ mask_of (λ k. p k || q k) n
unfolding mask_of
mask_or p q zero = or_zero_l 0
mask_or p q (suc n) =
    or_block n (one (p n)) (one (q n)) (mask_of p n) (mask_of q n) (mask_lt p n) (mask_lt q n)
    ∙ ap₂ (λ (x y : ℕ). x * 2 ^ n + y) (one_or (p n) (q n)) (mask_or p q n)

-- two tests that agree below n have one mask
pub mask_same : (p q : ℕ → Bool) (n : ℕ) → ((k : ℕ) → k < n → p k ≡ q k) → mask_of p n ≡ mask_of q n
unfolding mask_of
mask_same p q zero h = refl
mask_same p q (suc n) h = ap₂ (λ (b : Bool) (m : ℕ). one b * 2 ^ n + m) (h n (omega arith)) (mask_same p q n (λ k l. h k (omega arith)))

-- two tests that agree below n pass as many numbers
pub many_same : (p q : ℕ → Bool) (n : ℕ) → ((k : ℕ) → k < n → p k ≡ q k) → how_many p n ≡ how_many q n
unfolding how_many
many_same p q zero h = refl
many_same p q (suc n) h = ap₂ (λ (b : Bool) (m : ℕ). one b + m) (h n (omega arith)) (many_same p q n (λ k l. h k (omega arith)))

-- the count up to m + n: those below m, and then n more
pub many_add : (p : ℕ → Bool) (m n : ℕ) → how_many p (m + n) ≡ how_many p m + how_many (onwards p m) n
unfolding how_many
many_add p m zero = rw (add-zero, add-zero)
many_add p m (suc n) = rw add-suc (omega (arith, many_add p m n))

-- the next word's ones come on top
pub count_more : (p : ℕ → Bool) (m n : ℕ) {total r : ℕ} → total ≡ how_many p m → r ≡ mask_of (onwards p m) n → total + ones r ≡ how_many p (m + n)
count_more p m n {total} {r} t e = ap₂ (λ (x y : ℕ). x + y) t (ap ones e ∙ ones_mask (onwards p m) n) ∙ sym (many_add p m n)

-- ---- the bits of a number as a test

-- a bit is what its own test says
bit_one : (b : ℕ) → b < 2 → one (eqb b 1) ≡ b
bit_one zero h = refl
bit_one (suc zero) h = refl
bit_one (suc (suc b)) h = absurd (omega arith)

one_back : (b : Bool) → eqb (one b) 1 ≡ b
one_back true = refl
one_back false = refl

pub mask_set_where : (p : ℕ → Bool) (n k : ℕ) → k < n → is_set (mask_of p n) k ≡ p k
mask_set_where p n k h = ap (λ (b : ℕ). eqb b 1) (mask_bit p n k h) ∙ one_back (p k)

pub mask_clear_above : (p : ℕ → Bool) (n k : ℕ) → n ≤ k → is_set (mask_of p n) k ≡ false
unfolding field
mask_clear_above p n k h = ap (λ (b : ℕ). eqb (b % 2) 1) (div-eq_of_lt (lt_of_lt_of_le (mask_lt p n) (pow-le-pow_right (lit< tt) h)))

-- a bit of a field, as a test
pub field_set : (p w x k : ℕ) → k < w → is_set (field p w x) k ≡ is_set x (p + k)
field_set p w x k h = ap (λ (b : ℕ). eqb b 1) (field_bit p w x k h)

pub mask_whole : (x n : ℕ) → x < 2 ^ n → mask_of (is_set x) n ≡ x
mask_whole x n h = same_bits n _ x (mask_lt (is_set x) n) h (λ k l. mask_bit (is_set x) n k l ∙ bit_one (bit k x) (field_lt k 1 x))

pub ones_many : (x n : ℕ) → x < 2 ^ n → ones x ≡ how_many (is_set x) n
ones_many x n h = ap ones (sym (mask_whole x n h)) ∙ ones_mask (is_set x) n
