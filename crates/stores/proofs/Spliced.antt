-- A number's bytes in the place of as many: the number stored. Assumes nothing.
use Rattle.std.proofs.Common.{◌≡◌, ℕ, zero, suc, ◌+◌, ◌/◌, ◌%◌, ◌^◌, ◌≤◌, Bool, true, false, cond, leb, List, [], ◌∷◌, ◌++◌, length, set, take, drop, refl, ap, ◌∙◌, arith, append_assoc}
use Rattle.std.proofs.lemmas.List.{take-append-drop}
use native.Mathlib.Nat.{add-zero, add-suc, suc-add, pow-suc, div-one, div-div-eq-div-mul}
use lib.ListN.{length-set}
use lib.Seq.{take-suc-set, drop-set-lt}
use borrow.Author.Tests.{leb-true}
use Rattle.std.specs.Int.{byte_at, bytes_low_first}
use Rattle.words.specs.Bytes.{put, stored}

-- ---- a number's bytes, from its byte i up

byte_is : (i v : ℕ) → byte_at i v ≡ v / 256 ^ i % 256
byte_is zero v = rw div-one
byte_is (suc i) v = refl

length_low : (i n v : ℕ) → length (bytes_low_first i n v) ≡ n
length_low i zero v = refl
length_low i (suc n) v = ap suc (length_low (suc i) n v)

-- in the place of as many they are what the stores of `put` leave, byte after byte
spliced : (xs : List ℕ) (at i n v : ℕ) → at + n ≤ length xs → take at xs ++ bytes_low_first i n v ++ drop (at + n) xs ≡ put xs at n (v / 256 ^ i)
unfolding put
spliced xs at i zero v h = rw (add-zero, append_assoc) (take-append-drop at xs)
spliced xs at i (suc n) v h =
    let b : ℕ = v / 256 ^ i % 256 in
    let rest = rw (take-suc-set xs at b (omega arith), drop-set-lt (suc at + n) xs at b (omega arith), append_assoc (take at xs) (b ∷ []) (bytes_low_first (suc i) n v))
    at (spliced (set xs at b) (suc at) (suc i) n v (simp length-set (omega arith))) in
    rw (byte_is, add-suc, ← suc-add, div-div-eq-div-mul, ← pow-suc 256 i) rest

-- and all of them are the number stored, where they fit
pub stored_bytes : (xs : List ℕ) {bs : List ℕ} (at n v : ℕ) → bs ≡ bytes_low_first 0 n v
    → cond (leb (at + length bs) (length xs)) (take at xs ++ bs ++ drop (at + length bs) xs) xs ≡ stored xs at n v
stored_bytes xs {bs} at n v e = rw (e, length_low 0 n v) (by (leb (at + n) (length xs)) refl)
  where
    by : (t : Bool) → leb (at + n) (length xs) ≡ t → cond t (take at xs ++ bytes_low_first 0 n v ++ drop (at + n) xs) xs ≡ cond t (put xs at n v) xs
    by false h = refl
    by true h = spliced xs at 0 n v (leb-true _ _ h) ∙ ap (put xs at n) (div-one v)
