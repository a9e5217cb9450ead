-- The number of n bytes at a place: its size, its bytes, its parts. Assumes nothing.
use Prim.Native.Nat.{ℕ, zero, suc, ◌+◌, ◌-◌, ◌*◌, ◌/◌, ◌%◌, ◌^◌, ◌≤◌, ◌<◌, min}
use mathlib.Core.Path.{◌≡◌, refl, sym, ap, ap₂, ◌∙◌}
use mathlib.Core.List.{List}
use lib.Pow.{shl_exact}
use lib.Arith.{digits_lt, digits_div, digits_mod}
use lib.ListN.{length, get_or, take, drop, get_or-eq_default}
use lib.Seq.{get_or-take, get_or-drop}
use native.Mathlib.Nat.{not-suc-le-zero, one-le-pow, pow-suc, pow-succ', zero-add, add-zero, suc-add, add-suc, add_assoc, add-mul, mul_assoc, mul-one, div-one, div-div-eq-div-mul, zero-lt-suc, lt_of_lt_of_le, pow-le-pow_right}
use native.Mathlib.Omega.{arith, min_cases}
use Rattle.words.specs.Bytes.{AllBytes, number_at}

pub number_lt : (xs : List ℕ) → AllBytes xs → (at n : ℕ) → number_at xs at n < 256 ^ n
unfolding number_at
number_lt xs b at zero = omega arith
number_lt xs b at (suc n) = rw pow-suc (digits_lt (number_lt xs b (suc at) n) (b at))

-- the same of a number that was read
pub read_lt : (xs : List ℕ) → AllBytes xs → (at n : ℕ) {v : ℕ} → v ≡ number_at xs at n → v < 256 ^ n
read_lt xs b at n e = rw e (number_lt xs b at n)

pub number_past : (xs : List ℕ) (at n : ℕ) → length xs ≤ at → number_at xs at n ≡ 0
unfolding number_at
number_past xs at zero h = refl
number_past xs at (suc n) h = omega (arith, number_past xs (suc at) n (omega arith), get_or-eq_default xs 0 h)

-- one byte is a number
pub number_one : (xs : List ℕ) (at : ℕ) → number_at xs at 1 ≡ get_or xs at 0
unfolding number_at
number_one xs at = zero-add _

-- one byte more, below
pub number_step : (xs : List ℕ) (at n i : ℕ) → 0 < i → i ≤ n → number_at xs (at + i) (n - i) * 256 + get_or xs (at + (i - 1)) 0 ≡ number_at xs (at + (i - 1)) (n - (i - 1))
unfolding number_at
number_step xs at n i h l =
    let e : n - (i - 1) ≡ suc (n - i) = omega arith in
    let e' : at + i ≡ suc (at + (i - 1)) = omega arith in
    rw (e, e')

-- before the last turn of a read of up to 8 bytes there is room for one more
pub number_room : (xs : List ℕ) → AllBytes xs → (at n i : ℕ) {x : ℕ} → x ≡ number_at xs at (n - i) → n ≤ 8 → 0 < i → x < 256 ^ 7
number_room xs b at n i r h l = let e : n - i ≤ 7 = omega arith in lt_of_lt_of_le (read_lt xs b at (n - i) r) (pow-le-pow_right (zero-lt-suc 255) e)

-- the same bytes give the same number
pub number_same : (xs ys : List ℕ) (at n : ℕ) → ((k : ℕ) → at ≤ k → k < at + n → get_or xs k 0 ≡ get_or ys k 0) → number_at xs at n ≡ number_at ys at n
unfolding number_at
number_same xs ys at zero e = refl
number_same xs ys at (suc n) e = ap₂ (λ (a b : ℕ). a * 256 + b) (number_same xs ys (suc at) n (λ k h l. e k (omega arith) (omega arith))) (e at (omega arith) (omega arith))

-- the number's bytes are the list's
pub number_byte : (xs : List ℕ) → AllBytes xs → (at n k : ℕ) → k < n → number_at xs at n / 256 ^ k % 256 ≡ get_or xs (at + k) 0
unfolding number_at
number_byte xs b at zero k h = absurd (not-suc-le-zero h)
number_byte xs b at (suc n) zero h = rw (div-one, add-zero) (digits_mod (number_at xs (suc at) n) (b at))
number_byte xs b at (suc n) (suc k) h =
    rw (pow-succ', ← div-div-eq-div-mul, digits_div (number_at xs (suc at) n) (b at), add-suc, ← suc-add) (number_byte xs b (suc at) n k (omega arith))

-- ---- in two parts

pub number_split : (xs : List ℕ) (at m n : ℕ) → number_at xs at (m + n) ≡ number_at xs (at + m) n * 256 ^ m + number_at xs at m
unfolding number_at
number_split xs at zero n = rw (zero-add, add-zero, mul-one, add-zero)
number_split xs at (suc m) n = rw (suc-add, number_split xs (suc at) m n, pow-suc, suc-add, add-suc, add-mul, add_assoc, mul_assoc)

-- two halves of four bytes, joined as a machine joins them: a half has 32 bits, so that none is lost
pub number_halves : (xs : List ℕ) (at : ℕ) {high low : ℕ} → high ≡ number_at xs (at + 4) 4 → low ≡ number_at xs at 4 → high < 2 ^ 32 → high * 2 ^ 32 % 2 ^ 64 + low ≡ number_at xs at 8
number_halves xs at {high} {low} h l b = ap (λ (x : ℕ). x + low) (shl_exact 32 32 64 b (omega arith)) ∙ ap₂ (λ (x y : ℕ). x * 2 ^ 32 + y) h l ∙ sym (number_split xs at 4 4)

-- a place past the end may be taken for the end: from either all is 0
pub number_from : (xs : List ℕ) (at n : ℕ) {from : ℕ} → from ≡ min at (length xs) → number_at xs from n ≡ number_at xs at n
number_from xs at n {from} e =
    min_cases at (length xs) _ (λ l f. ap (λ (k : ℕ). number_at xs k n) (e ∙ f)) (λ l f. number_past xs from n (omega arith) ∙ sym (number_past xs at n l))

-- ---- a part of a list

-- a number in a part is the number in the whole
pub number_part : (xs : List ℕ) (a len k n : ℕ) → k + n ≤ len → number_at (take len (drop a xs)) k n ≡ number_at xs (a + k) n
unfolding number_at
number_part xs a len k zero h = refl
number_part xs a len k (suc n) h =
    ap₂ (λ (x b : ℕ). x * 256 + b) (number_part xs a len (suc k) n (omega arith) ∙ ap (λ (j : ℕ). number_at xs j n) (add-suc a k)) (get_or-take len (drop a xs) k 0 (omega arith) ∙ get_or-drop a xs k 0)

-- ---- all ones

-- a number of n bytes is all ones exactly if each of its bytes is
pub number_ones : (xs : List ℕ) → AllBytes xs → (at n : ℕ) → number_at xs at n ≡ 256 ^ n - 1 → (k : ℕ) → k < n → get_or xs (at + k) 0 ≡ 255
unfolding number_at
number_ones xs b at zero e k h = absurd (not-suc-le-zero h)
number_ones xs b at (suc n) e k h = by k h (number_ones xs b (suc at) n rest.0)
  where
    rest : (number_at xs (suc at) n ≡ 256 ^ n - 1) × (get_or xs at 0 ≡ 255)
    rest = omega (arith, e, b at, pow-suc 256 n, one-le-pow n 256 (zero-lt-suc 255))

    by : (k : ℕ) → k < suc n → ((k : ℕ) → k < n → get_or xs (suc at + k) 0 ≡ 255) → get_or xs (at + k) 0 ≡ 255
    by zero h above = rw add-zero rest.1
    by (suc k) h above = rw (add-suc, ← suc-add) (above k (omega arith))

pub ones_number : (xs : List ℕ) (at n : ℕ) → ((k : ℕ) → k < n → get_or xs (at + k) 0 ≡ 255) → number_at xs at n ≡ 256 ^ n - 1
unfolding number_at
ones_number xs at zero f = refl
ones_number xs at (suc n) f =
    let this : get_or xs at 0 ≡ 255 = rw add-zero at (f 0 (omega arith)) in
    let above = ones_number xs (suc at) n (λ k h. rw suc-add (rw add-suc at (f (suc k) (omega arith)))) in
    omega (arith, this, above, pow-suc 256 n, one-le-pow n 256 (zero-lt-suc 255))
