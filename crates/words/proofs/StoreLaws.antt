-- A number stored at a place: what is stored, what is left, and reading it back. Assumes nothing.
use Prim.Native.Nat.{ℕ, zero, suc, ◌+◌, ◌-◌, ◌*◌, ◌/◌, ◌%◌, ◌^◌, ◌≤◌, ◌<◌}
use mathlib.Core.Path.{◌≡◌, refl, sym, ap, ap₂, ◌∙◌}
use mathlib.Core.Bool.{Bool, true, false, cond}
use mathlib.Core.List.{List, [], ◌∷◌}
use mathlib.Core.Logic.{◌⊎◌, inl, inr, ⊎_elim}
use borrow.Author.Tests.{le-leb, lt-leb}
use lib.Arith.{digits_div, digits_mod, mod-mul}
use lib.Dec.{leb}
use lib.ListN.{length, get_or, set, length-set}
use lib.Seq.{get_or-set_same, get_or-set_other, set-get_or, set-set, set_comm}
use native.Mathlib.Nat.{not-suc-le-zero, mod-lt, mod-one, pow-suc, pow-succ', zero-add, add-zero, suc-add, add-suc, add_assoc, div-one, div-div-eq-div-mul, zero-lt-suc, one-le-pow, sub-eq-zero_of_le}
use native.Mathlib.Omega.{arith}
use Rattle.words.specs.Bytes.{AllBytes, number_at, put, stored}
use Rattle.words.proofs.NumberLaws.{number_same}

pub set_bytes : (xs : List ℕ) → AllBytes xs → (i v : ℕ) → v < 256 → AllBytes (set xs i v)
set_bytes [] b i v h k = b k
set_bytes (x ∷ xs) b zero v h zero = h
set_bytes (x ∷ xs) b zero v h (suc k) = b (suc k)
set_bytes (x ∷ xs) b (suc i) v h zero = b zero
set_bytes (x ∷ xs) b (suc i) v h (suc k) = set_bytes xs (λ j. b (suc j)) i v h k

pub length_put : (xs : List ℕ) (at n v : ℕ) → length (put xs at n v) ≡ length xs
unfolding put
length_put xs at zero v = refl
length_put xs at (suc n) v = length_put (set xs at (v % 256)) (suc at) n (v / 256) ∙ simp length-set

-- a turn of a store, and its end
pub put_step : (xs : List ℕ) (at n i v : ℕ) → i < n → put (set xs (at + i) (v % 256)) (at + (i + 1)) (n - (i + 1)) (v / 256) ≡ put xs (at + i) (n - i) v
unfolding put
put_step xs at n i v h =
    let e : n - i ≡ suc (n - (i + 1)) = omega arith in
    let e' : at + (i + 1) ≡ suc (at + i) = omega arith in
    rw (e, e')

pub put_none : (xs : List ℕ) (at n i v : ℕ) → n ≤ i → put xs at (n - i) v ≡ xs
unfolding put
put_none xs at n i v h = rw sub-eq-zero_of_le

-- every byte that is not stored to is as it was
pub put_below : (xs : List ℕ) (at n v k : ℕ) → k < at → get_or (put xs at n v) k 0 ≡ get_or xs k 0
unfolding put
put_below xs at zero v k h = refl
put_below xs at (suc n) v k h = put_below (set xs at (v % 256)) (suc at) n (v / 256) k (omega arith) ∙ get_or-set_other xs at k _ 0 (λ e. omega arith)

pub put_above : (xs : List ℕ) (at n v k : ℕ) → at + n ≤ k → get_or (put xs at n v) k 0 ≡ get_or xs k 0
unfolding put
put_above xs at zero v k h = refl
put_above xs at (suc n) v k h = put_above (set xs at (v % 256)) (suc at) n (v / 256) k (omega arith) ∙ get_or-set_other xs at k _ 0 (λ e. omega arith)

-- written and read back
pub number_put : (xs : List ℕ) (at n v : ℕ) → at + n ≤ length xs → number_at (put xs at n v) at n ≡ v % 256 ^ n
unfolding number_at put
number_put xs at zero v h = sym (mod-one v)
number_put xs at (suc n) v h =
    let ys : List ℕ = set xs at (v % 256) in
    let rest : number_at (put ys (suc at) n (v / 256)) (suc at) n ≡ v / 256 % 256 ^ n = number_put ys (suc at) n (v / 256) (simp length-set (omega arith)) in
    let this : get_or (put ys (suc at) n (v / 256)) at 0 ≡ v % 256 = put_below ys (suc at) n (v / 256) at (omega arith) ∙ get_or-set_same xs at _ 0 (omega arith) in
    rw (rest, this, pow-suc) (sym (mod-mul v (one-le-pow n 256 (zero-lt-suc 255)) (zero-lt-suc 255)))

-- the bytes that are stored
pub put_byte : (xs : List ℕ) (at n v k : ℕ) → at + n ≤ length xs → k < n → get_or (put xs at n v) (at + k) 0 ≡ v / 256 ^ k % 256
unfolding put
put_byte xs at zero v k h l = absurd (not-suc-le-zero l)
put_byte xs at (suc n) v zero h l =
    rw (add-zero, div-one) (put_below (set xs at (v % 256)) (suc at) n (v / 256) at (omega arith) ∙ get_or-set_same xs at _ 0 (omega arith))
put_byte xs at (suc n) v (suc k) h l =
    rw (add-suc, ← suc-add, pow-succ', ← div-div-eq-div-mul) (put_byte (set xs at (v % 256)) (suc at) n (v / 256) k (simp length-set (omega arith)) (omega arith))

-- read and written back
pub put_number : (xs : List ℕ) → AllBytes xs → (at n : ℕ) → put xs at n (number_at xs at n) ≡ xs
unfolding number_at put
put_number xs b at zero = refl
put_number xs b at (suc n) = rw (digits_mod (number_at xs (suc at) n) (b at), digits_div (number_at xs (suc at) n) (b at), set-get_or) (put_number xs b (suc at) n)

-- a byte set below goes in before or after
pub set_put : (xs : List ℕ) (at n v i b : ℕ) → i < at → set (put xs at n v) i b ≡ put (set xs i b) at n v
unfolding put
set_put xs at zero v i b h = refl
set_put xs at (suc n) v i b h =
    set_put (set xs at (v % 256)) (suc at) n (v / 256) i b (omega arith) ∙ ap (λ (l : List ℕ). put l (suc at) n (v / 256)) (set_comm xs at i _ b (λ e. omega arith))

-- the last store wins
pub put_put : (xs : List ℕ) (at n u v : ℕ) → put (put xs at n u) at n v ≡ put xs at n v
unfolding put
put_put xs at zero u v = refl
put_put xs at (suc n) u v =
    rw (set_put (set xs at (u % 256)) (suc at) n (u / 256) at (v % 256) (omega arith), set-set) (put_put (set xs at (v % 256)) (suc at) n (u / 256) (v / 256))

-- ---- in two parts

pub put_split : (xs : List ℕ) (at m n v : ℕ) → put xs at (m + n) v ≡ put (put xs at m v) (at + m) n (v / 256 ^ m)
unfolding put
put_split xs at zero n v = rw (zero-add, add-zero, div-one)
put_split xs at (suc m) n v = rw (suc-add, put_split (set xs at (v % 256)) (suc at) m n (v / 256), add-suc, suc-add, pow-succ', div-div-eq-div-mul)

-- only the n low bytes of a number are stored
pub put_mod : (xs : List ℕ) (at n v : ℕ) → put xs at n (v % 256 ^ n) ≡ put xs at n v
unfolding put
put_mod xs at zero v = refl
put_mod xs at (suc n) v =
    let e : v % 256 ^ suc n ≡ v / 256 % 256 ^ n * 256 + v % 256 = ap (λ (k : ℕ). v % k) (pow-suc 256 n) ∙ mod-mul v (one-le-pow n 256 (zero-lt-suc 255)) (zero-lt-suc 255) in
    let low : v % 256 < 256 = mod-lt v (zero-lt-suc 255) in
    rw (e, digits_mod (v / 256 % 256 ^ n) low, digits_div (v / 256 % 256 ^ n) low) (put_mod (set xs at (v % 256)) (suc at) n (v / 256))

-- two numbers stored one after the other are one number stored
pub put_two : (xs : List ℕ) (at m n a b : ℕ) → a < 256 ^ m → put (put xs at m a) (at + m) n b ≡ put xs at (m + n) (b * 256 ^ m + a)
put_two xs at m n a b h =
    sym (put_split xs at m n (b * 256 ^ m + a)
    ∙ ap₂ (λ (l : List ℕ) (v : ℕ). put l (at + m) n v) (sym (put_mod xs at m _) ∙ ap (put xs at m) (digits_mod b h)) (digits_div b h))

pub put_bytes : (xs : List ℕ) → AllBytes xs → (at n v : ℕ) → AllBytes (put xs at n v)
unfolding put
put_bytes xs b at zero v = b
put_bytes xs b at (suc n) v = put_bytes (set xs at (v % 256)) (set_bytes xs b at (v % 256) (mod-lt v (zero-lt-suc 255))) (suc at) n (v / 256)

-- ---- the same of `stored`, whether it fits or not

module _ (xs : List ℕ) (at n v : ℕ) where
  -- what holds of the list with the bytes in it, and of the list as it was, holds of what is stored
  either : (P : List ℕ → Type 0) → P (put xs at n v) → P xs → P (stored xs at n v)
  either P a b = pick_either (leb (at + n) (length xs))
    where
      pick_either : (t : Bool) → P (cond t (put xs at n v) xs)
      pick_either true = a
      pick_either false = b

  pub stored_fits : at + n ≤ length xs → stored xs at n v ≡ put xs at n v
  stored_fits h = simp (le-leb (at + n) (length xs) h)

  pub stored_short : length xs < at + n → stored xs at n v ≡ xs
  stored_short h = simp (lt-leb (at + n) (length xs) h)

  pub length_stored : length (stored xs at n v) ≡ length xs
  length_stored = either (λ l. length l ≡ length xs) (length_put xs at n v) refl

  pub stored_other : (k : ℕ) → (k < at) ⊎ (at + n ≤ k) → get_or (stored xs at n v) k 0 ≡ get_or xs k 0
  stored_other k (inl h) = either (λ l. get_or l k 0 ≡ get_or xs k 0) (put_below xs at n v k h) refl
  stored_other k (inr h) = either (λ l. get_or l k 0 ≡ get_or xs k 0) (put_above xs at n v k h) refl

  pub number_stored : at + n ≤ length xs → number_at (stored xs at n v) at n ≡ v % 256 ^ n
  number_stored h = simp (le-leb (at + n) (length xs) h) (number_put xs at n v h)

  pub stored_byte : at + n ≤ length xs → (k : ℕ) → k < n → get_or (stored xs at n v) (at + k) 0 ≡ v / 256 ^ k % 256
  stored_byte h k l = ap (λ (ys : List ℕ). get_or ys (at + k) 0) (stored_fits h) ∙ put_byte xs at n v k h l

  pub number_stored_below : (q m : ℕ) → q + m ≤ at → number_at (stored xs at n v) q m ≡ number_at xs q m
  number_stored_below q m h = number_same _ _ q m (λ k a b. stored_other k (inl (omega arith)))

  pub number_stored_above : (q m : ℕ) → at + n ≤ q → number_at (stored xs at n v) q m ≡ number_at xs q m
  number_stored_above q m h = number_same _ _ q m (λ k a b. stored_other k (inr (omega arith)))

  -- a number of bytes that lie wholly before what is stored, or after it
  pub number_beside : (q m : ℕ) → (q + m ≤ at) ⊎ (at + n ≤ q) → number_at (stored xs at n v) q m ≡ number_at xs q m
  number_beside q m = ⊎_elim (number_stored_below q m) (number_stored_above q m)

pub stored_number : (xs : List ℕ) → AllBytes xs → (at n : ℕ) → stored xs at n (number_at xs at n) ≡ xs
stored_number xs b at n = either xs at n (number_at xs at n) (λ l. l ≡ xs) (put_number xs b at n) refl

pub stored_two : (xs : List ℕ) (at m n a b : ℕ) → a < 256 ^ m → at + (m + n) ≤ length xs
    → stored (stored xs at m a) (at + m) n b ≡ stored xs at (m + n) (b * 256 ^ m + a)
stored_two xs at m n a b h l =
    let whole : leb (at + m + n) (length (put xs at m a)) ≡ true = le-leb (at + m + n) (length (put xs at m a)) (rw (length_put, add_assoc) l) in
    simp (le-leb (at + m) (length xs) (omega arith), le-leb (at + (m + n)) (length xs) l, whole) (put_two xs at m n a b h)

-- the last store wins
pub stored_stored : (xs : List ℕ) (at n u v : ℕ) → stored (stored xs at n u) at n v ≡ stored xs at n v
stored_stored xs at n u v = by (leb (at + n) (length xs)) refl
  where
    by : (t : Bool) → leb (at + n) (length xs) ≡ t → stored (stored xs at n u) at n v ≡ stored xs at n v
    by true e = simp (e, length_put) (put_put xs at n u v)
    by false e = simp e
