-- A store seen from a part of the list: the same store in the part where its bytes lie inside it, nothing where they lie outside. Assumes
-- nothing.
use Prim.Native.Nat.{ℕ, zero, suc, ◌+◌, ◌-◌, ◌/◌, ◌%◌, ◌≤◌}
use mathlib.Core.Path.{◌≡◌, refl, sym, ap, ◌∙◌}
use mathlib.Core.Bool.{Bool, true, false, cond}
use mathlib.Core.List.{List}
use mathlib.Core.Logic.{◌⊎◌, inl, inr}
use native.Mathlib.Nat.{add-suc}
use native.Mathlib.Omega.{arith}
use lib.Dec.{leb}
use lib.ListN.{length, set, take, drop, length-take, length-drop}
use lib.Seq.{take-set-le, take-set-lt, drop-set-lt, drop-set-add}
use Rattle.words.specs.Bytes.{put, stored}
use Rattle.words.proofs.StoreLaws.{stored_fits}

-- ---- bytes set one after the other

drop_put : (xs : List ℕ) (a o n v : ℕ) → drop a (put xs (a + o) n v) ≡ put (drop a xs) o n v
unfolding put
drop_put xs a o zero v = refl
drop_put xs a o (suc n) v =
    ap (λ (k : ℕ). drop a (put (set xs (a + o) (v % 256)) k n (v / 256))) (sym (add-suc a o))
    ∙ drop_put (set xs (a + o) (v % 256)) a (suc o) n (v / 256)
    ∙ ap (λ (l : List ℕ). put l (suc o) n (v / 256)) (drop-set-add a xs o (v % 256))

drop_put_past : (xs : List ℕ) (a at n v : ℕ) → at + n ≤ a → drop a (put xs at n v) ≡ drop a xs
unfolding put
drop_put_past xs a at zero v h = refl
drop_put_past xs a at (suc n) v h = drop_put_past (set xs at (v % 256)) a (suc at) n (v / 256) (omega arith) ∙ drop-set-lt a xs at (v % 256) (omega arith)

take_put : (xs : List ℕ) (len o n v : ℕ) → o + n ≤ len → take len (put xs o n v) ≡ put (take len xs) o n v
unfolding put
take_put xs len o zero v h = refl
take_put xs len o (suc n) v h =
    take_put (set xs o (v % 256)) len (suc o) n (v / 256) (omega arith)
    ∙ ap (λ (l : List ℕ). put l (suc o) n (v / 256)) (take-set-lt len xs o (v % 256) (omega arith))

take_put_past : (xs : List ℕ) (len o n v : ℕ) → len ≤ o → take len (put xs o n v) ≡ take len xs
unfolding put
take_put_past xs len o zero v h = refl
take_put_past xs len o (suc n) v h = take_put_past (set xs o (v % 256)) len (suc o) n (v / 256) (omega arith) ∙ take-set-le len xs o (v % 256) h

-- ---- the same of `stored`

module _ (xs : List ℕ) (a len : ℕ) where
  -- a part that shares no byte with what is stored
  pub part_beside : (at n v : ℕ) → (a + len ≤ at) ⊎ (at + n ≤ a) → take len (drop a (stored xs at n v)) ≡ take len (drop a xs)
  part_beside at n v o = by (leb (at + n) (length xs)) o
    where
      by : (t : Bool) → (a + len ≤ at) ⊎ (at + n ≤ a) → take len (drop a (cond t (put xs at n v) xs)) ≡ take len (drop a xs)
      by false o = refl
      by true (inr h) = ap (take len) (drop_put_past xs a at n v h)
      by true (inl h) =
          let e : a + (at - a) ≡ at = omega arith in
          ap (λ (k : ℕ). take len (drop a (put xs k n v))) (sym e) ∙ ap (take len) (drop_put xs a (at - a) n v) ∙ take_put_past (drop a xs) len (at - a) n v (omega arith)

  -- a part that holds all of it
  pub part_stored : (o n v : ℕ) → o + n ≤ len → a + len ≤ length xs → take len (drop a (stored xs (a + o) n v)) ≡ stored (take len (drop a xs)) o n v
  part_stored o n v h l =
      ap (λ (ys : List ℕ). take len (drop a ys)) (stored_fits xs (a + o) n v (omega arith))
      ∙ ap (take len) (drop_put xs a o n v)
      ∙ take_put (drop a xs) len o n v h
      ∙ sym (stored_fits (take len (drop a xs)) o n v (omega (arith, length-take len (drop a xs), length-drop a xs)))
