-- Laws of a body's numbers: a width's size, and a turn and the end of the loops that read and store. Assumes nothing.
use Prim.Native.Nat.{ℕ, ◌+◌, ◌%◌, ◌^◌, ◌≤◌, ◌<◌}
use mathlib.Core.Path.{◌≡◌, refl, sym, ap, ◌∙◌}
use mathlib.Core.Bool.{Bool, true, false, cond}
use mathlib.Core.List.{List, [], ◌∷◌, ◌++◌, append-nil}
use mathlib.Core.Logic.{◌⊎◌, inl, inr}
use native.Mathlib.Numerals.{add-one}
use native.Mathlib.Omega.{arith}
use borrow.Author.Tests.{eqb-true}
use lib.Dec.{leb, eqb}
use lib.ListN.{length, get_or, set, take, drop, drop_of_length-le}
use lib.Seq.{drop-cons, take-suc-set, take_all, append_snoc}
use Rattle.words.specs.Bytes.{number_at, put, stored}
use Rattle.words.proofs.StoreLaws.{put_mod, length_stored}
use Rattle.records_body.specs.Body.{size, numbers_at, stored_numbers}

-- ---- widths

pub size_most : (w : ℕ) → size w ≤ 8
unfolding size
size_most w = go (eqb w 1) refl (eqb w 2) refl (eqb w 4) refl (eqb w 8) refl
  where
    go : (a : Bool) → eqb w 1 ≡ a → (b : Bool) → eqb w 2 ≡ b → (c : Bool) → eqb w 4 ≡ c → (d : Bool) → eqb w 8 ≡ d → size w ≤ 8
    go true e b f c g d h = simp e (omega (arith, eqb-true w 1 e))
    go false e true f c g d h = simp (e, f) (omega (arith, eqb-true w 2 f))
    go false e false f true g d h = simp (e, f, g) (omega (arith, eqb-true w 4 g))
    go false e false f false g true h = simp (e, f, g, h) (omega (arith, eqb-true w 8 h))
    go false e false f false g false h = simp (e, f, g, h) (omega arith)

-- ---- a number

pub number_none : (xs : List ℕ) (at : ℕ) → number_at xs at 0 ≡ 0
unfolding number_at
number_none xs at = refl

-- no byte is stored of no width, and of a number only its low bytes
pub stored_none : (xs : List ℕ) (at v : ℕ) → xs ≡ stored xs at 0 v
unfolding put
stored_none xs at v = go (leb (at + 0) (length xs))
  where
    go : (b : Bool) → xs ≡ cond b xs xs
    go true = refl
    go false = refl

pub stored_low : (xs : List ℕ) (at n v : ℕ) → stored xs at n (v % 256 ^ n) ≡ stored xs at n v
stored_low xs at n v = ap (λ (l : List ℕ). cond (leb (at + n) (length xs)) l xs) (put_mod xs at n v)

-- ---- a turn, and the end

module _ (ws : List ℕ) (i : ℕ) where
  -- v is the number at i as the code has it, and n its size
  pub numbers_turn : (xs vs : List ℕ) (at : ℕ) {v n : ℕ} → i < length ws → i < length vs → v ≡ number_at xs at (size (get_or ws i 0)) → n ≡ size (get_or ws i 0)
      → take (i + 1) (set vs i v) ++ numbers_at (drop (i + 1) ws) xs (at + n) ≡ take i vs ++ numbers_at (drop i ws) xs at
  unfolding numbers_at
  numbers_turn xs vs at k l e f = rw (e, f, add-one, take-suc-set vs i _ l, drop-cons ws i 0 k) (append_snoc (take i vs) _ _)

  pub numbers_end : (xs vs : List ℕ) (at : ℕ) → length ws ≤ i → length vs ≤ i → vs ≡ take i vs ++ numbers_at (drop i ws) xs at
  unfolding numbers_at
  numbers_end xs vs at k l = rw (drop_of_length-le ws k, take_all i vs l) (sym (append-nil vs))

-- ys is what the code has stored, and n how many bytes
pub stores_turn : (ws vs xs : List ℕ) (w v at : ℕ) {ys : List ℕ} {n : ℕ} → ys ≡ stored xs at (size w) v → n ≡ size w
    → stored_numbers ws vs ys (at + n) ≡ stored_numbers (w ∷ ws) (v ∷ vs) xs at
unfolding stored_numbers
stores_turn ws vs xs w v at e f = rw (e, f)

-- where no width or no number is left, nothing is stored
pub stores_end : (ws vs xs : List ℕ) (at : ℕ) → (ws ≡ []) ⊎ (vs ≡ []) → xs ≡ stored_numbers ws vs xs at
unfolding stored_numbers
stores_end [] vs xs at e = refl
stores_end (w ∷ ws) [] xs at e = refl
stores_end (w ∷ ws) (v ∷ vs) xs at (inl e) = cc
stores_end (w ∷ ws) (v ∷ vs) xs at (inr e) = cc

pub length_stores : (ws vs xs : List ℕ) (at : ℕ) → length (stored_numbers ws vs xs at) ≡ length xs
unfolding stored_numbers
length_stores [] vs xs at = refl
length_stores (w ∷ ws) [] xs at = refl
length_stores (w ∷ ws) (v ∷ vs) xs at = length_stores ws vs (stored xs at (size w) v) (at + size w) ∙ length_stored xs at (size w) v
