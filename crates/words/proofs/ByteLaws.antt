-- Parts of bytes, and bytes joined, are bytes.
-- Assumes nothing.
use Prim.Native.Nat.{ℕ, zero, suc, ◌+◌, ◌≤◌, ◌<◌}
use mathlib.Core.Path.{◌≡◌, refl, sym, subst}
use mathlib.Core.Bool.{Bool, true, false}
use mathlib.Core.List.{List, [], ◌∷◌, ◌++◌}
use native.Mathlib.Omega.{arith}
use lib.ListN.{length, get_or, take, drop, length-take, get_or-eq_default}
use lib.Seq.{get_or-take, get_or-drop}
use lib.Dec.{ltb}
use borrow.Author.Tests.{ltb-true, ltb-false}
use Rattle.words.specs.Bytes.{AllBytes}

pub bytes_drop : (n : ℕ) (xs : List ℕ) → AllBytes xs → AllBytes (drop n xs)
bytes_drop n xs b k = subst (λ (v : ℕ). v < 256) (sym (get_or-drop n xs k 0)) (b (n + k))

pub bytes_take : (n : ℕ) (xs : List ℕ) → AllBytes xs → AllBytes (take n xs)
bytes_take n xs b k = go (ltb k n) refl
  where
    go : (v : Bool) → ltb k n ≡ v → get_or (take n xs) k 0 < 256
    go true e = subst (λ (v : ℕ). v < 256) (sym (get_or-take n xs k 0 (ltb-true _ _ e))) (b k)
    go false e =
        let l : n ≤ k = ltb-false _ _ e in
        let past : length (take n xs) ≤ k = omega (arith, l, length-take n xs) in
        omega (arith, get_or-eq_default (take n xs) 0 past)

pub bytes_append : (xs ys : List ℕ) → AllBytes xs → AllBytes ys → AllBytes (xs ++ ys)
bytes_append [] ys a b k = b k
bytes_append (x ∷ xs) ys a b zero = a zero
bytes_append (x ∷ xs) ys a b (suc k) = bytes_append xs ys (λ j. a (suc j)) b k
