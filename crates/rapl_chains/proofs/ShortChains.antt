-- No chain is longer than 255 steps: on the way to the first root no number comes twice, and there are not 257 different numbers below 256.
-- Assumes nothing.
use Prim.Native.Nat.{ℕ, zero, suc, ◌+◌, ◌-◌, ◌<◌, ◌≤◌}
use mathlib.Core.Bool.{Bool, true, false}
use mathlib.Core.List.{List, map}
use mathlib.Core.Path.{◌≡◌, refl, sym, ap, ◌∙◌, subst}
use native.Mathlib.Nat.{zero-add}
use native.Mathlib.Omega.{arith}
use lib.Dec.{eqb, leb}
use lib.ListN.{length, get_or}
use borrow.Author.Tests.{eqb-true, ne_eqb, leb-true, leb-false}
use Rattle.std.specs.List.{IsDistinct, All, range_with_len}
use Rattle.std.proofs.lemmas.List.Elements.{All-contains, All-from_get_or}
use Rattle.std.proofs.lemmas.List.FromFn.{length-map-range_with_len, get_or-map-range_with_len}
use Rattle.std.proofs.lemmas.Map.Keys.{IsDistinct-from_apart}
use Rattle.std.proofs.lemmas.Map.Steps.{length-le_from_distinct_below}
use Rattle.std.proofs.lemmas.Map.Views.{Contains-from_any}
use Rattle.rapl_chains.specs.Chains.{parent_of}
use Rattle.rapl_chains.specs.Facts.{ancestor, Root, IsChain}
use Rattle.rapl_domains.proofs.DomainLaws.{inside}

-- the first m + 1 of f are not all below m and all different
pigeons : (m : ℕ) (f : ℕ → ℕ) → ((i : ℕ) → i ≤ m → f i < m) → ((i j : ℕ) → i < j → j ≤ m → f i ≡ f j → ⊥) → ⊥
pigeons m f low other =
    let xs : List ℕ = map f (range_with_len 0 (suc m)) in
    let long : length xs ≡ suc m = length-map-range_with_len f 0 (suc m) in
    let is : (i d : ℕ) → i < suc m → get_or xs i d ≡ f i = λ i d h. get_or-map-range_with_len f 0 (suc m) i i d h (zero-add i) in
    let different : IsDistinct eqb xs =
    IsDistinct-from_apart eqb xs (λ i j d h l. ne_eqb _ _ (λ e. other i j h (omega arith) (sym (is i d (omega arith)) ∙ e ∙ is j d (omega arith)))) in
    let low_all : All (λ x. x < m) xs = All-from_get_or (λ x. x < m) xs 0 (λ i l. rw (is i 0 (omega arith)) (low i (omega arith))) in
    absurd (omega (arith, length-le_from_distinct_below xs m different (λ q e. All-contains (λ x. x < m) xs q low_all (Contains-from_any eqb-true q xs e))))

module _ (s : List ℕ) where
  ancestor_add : (n i d : ℕ) → ancestor s n (i + d) ≡ ancestor s (ancestor s n i) d
  unfolding ancestor
  ancestor_add n zero d = let e : 0 + d ≡ d = omega arith in ap (ancestor s n) e
  ancestor_add n (suc i) d = let e : suc i + d ≡ suc (i + d) = omega arith in ap (ancestor s n) e ∙ ancestor_add (parent_of s n) i d

  -- an ancestor that comes again would bring the root forward
  fresh : (n k : ℕ) → IsChain s n k → (i j : ℕ) → i < j → j ≤ k → ancestor s n i ≡ ancestor s n j → ⊥
  fresh n k c i j h l e =
      let z : j + (k - j) ≡ k = omega arith in
      let q : ancestor s n (i + (k - j)) ≡ ancestor s n k = ancestor_add n i (k - j) ∙ ap (λ (x : ℕ). ancestor s x (k - j)) e ∙ sym (ancestor_add n j (k - j)) ∙ ap (ancestor s n) z in
      c.first (i + (k - j)) (omega arith) (subst (Root s) (sym q) c.root)

  pub chain_short : (n k : ℕ) → IsChain s n k → k ≤ 255
  chain_short n k c = by (leb k 255) refl
    where
      by : (t : Bool) → leb k 255 ≡ t → k ≤ 255
      by true e = leb-true k 255 e
      by false e =
          let h : 255 < k = leb-false k 255 e in
          absurd (pigeons 256 (ancestor s n) (λ i l. let b = (inside s (ancestor s n i) (c.sound i (omega arith))).0 in omega (arith, b)) (λ i j a l. fresh n k c i j a (omega arith)))
