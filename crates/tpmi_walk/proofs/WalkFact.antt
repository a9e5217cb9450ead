-- The walk ends exactly as the list of capabilities says: from the definition to the plain statement, and back. Assumes nothing.
use Prim.Native.Nat.{ℕ, zero, suc, ◌+◌, ◌-◌, ◌%◌, ◌≤◌, ◌<◌}
use mathlib.Core.Path.{◌≡◌, refl, sym, ap, ◌∙◌, subst}
use mathlib.Core.Bool.{Bool, true, false}
use mathlib.Core.List.{List, [], ◌∷◌}
use mathlib.Core.Logic.{◌⊎◌, inl, inr, ⊎_elim, ◌≢◌}
use native.Mathlib.Omega.{arith}
use borrow.Author.Tests.{ltb-true, ltb-false, eqb-true, eqb-false}
use lib.Dec.{ltb, eqb}
use Rattle.words.specs.Answers.{Answer, refused, gives}
use Rattle.words.specs.Bytes.{number_at}
use Rattle.words.proofs.TestLaws.{fails_exactly}
use Rattle.tpmi_structure.specs.Structure.{vsec_at, fixed_wrong}
use Rattle.tpmi_walk.specs.Walk.{Header, stops, goes, identifier_at, next_at, vsec_id_at, followed, taken_at, header_at, onward, walk_from, walk_of}
use Rattle.tpmi_structure.specs.Facts.{Fixed}
use Rattle.tpmi_walk.specs.Facts.{Begun, Passed, Followable, Reached, Tpmi, Ends, WalkFact}
use Rattle.tpmi_walk.specs.Facts.Reached.{here, on}
use Rattle.tpmi_walk.specs.Facts.Ends.{empty, ended, malformed, endless, cut, over, wrong, taken}
use Rattle.tpmi_structure.proofs.StructureLaws.{right_fixed}
use Rattle.tpmi_structure.proofs.Theorems.{structure_tests}
use Rattle.tpmi_walk.proofs.WalkLaws.{followed_end, followed_low, followed_odd, followed_on, taken_high, taken_wrong, taken_sound, header_cut, header_tpmi, header_other_id, header_other, walk_zeros, walk_ones, walk_begins, walk_out}

-- ---- one header, and one next offset

-- what a header is: one whose VSEC_ID lies past the end, a TPMI header, or one that the walk looks past
header_kinds : (s : List ℕ) (a : ℕ) → ((identifier_at s a ≡ 0x000B) × (4088 < a)) ⊎ (Tpmi s a ⊎ Passed s a)
header_kinds s a = by (eqb (identifier_at s a) 0x000B) (ltb 4088 a) (eqb (vsec_id_at s a) 0x42) refl refl refl
  where
    by : (i h v : Bool) → eqb (identifier_at s a) 0x000B ≡ i → ltb 4088 a ≡ h → eqb (vsec_id_at s a) 0x42 ≡ v
        → ((identifier_at s a ≡ 0x000B) × (4088 < a)) ⊎ (Tpmi s a ⊎ Passed s a)
    by false h v i≡ h≡ v≡ = inr (inr (inl (eqb-false _ _ i≡)))
    by true true v i≡ h≡ v≡ = inl (eqb-true _ _ i≡, ltb-true _ _ h≡)
    by true false true i≡ h≡ v≡ = inr (inl (eqb-true _ _ i≡, ltb-false _ _ h≡, eqb-true _ _ v≡))
    by true false false i≡ h≡ v≡ = inr (inr (inr (ltb-false _ _ h≡, eqb-false _ _ v≡)))

-- a next offset ends the list, can be followed, or is malformed
next_kinds : (n : ℕ) → (n ≡ 0) ⊎ (Followable n ⊎ ((n ≢ 0) × (Followable n → ⊥)))
next_kinds n = by (eqb n 0) (ltb n 0x100) (eqb (n % 4) 0) refl refl refl
  where
    by : (z l o : Bool) → eqb n 0 ≡ z → ltb n 0x100 ≡ l → eqb (n % 4) 0 ≡ o → (n ≡ 0) ⊎ (Followable n ⊎ ((n ≢ 0) × (Followable n → ⊥)))
    by true l o z≡ l≡ o≡ = inl (eqb-true _ _ z≡)
    by false true o z≡ l≡ o≡ = inr (inr (eqb-false _ _ z≡, λ q. omega (arith, ltb-true n 0x100 l≡, q.0)))
    by false false true z≡ l≡ o≡ = inr (inl (ltb-false _ _ l≡, eqb-true _ _ o≡))
    by false false false z≡ l≡ o≡ = inr (inr (eqb-false _ _ z≡, λ q. eqb-false _ _ o≡ q.1))

module _ (s : List ℕ) (a : ℕ) where
  header_passed : Passed s a → header_at s a ≡ followed (next_at s a)
  header_passed (inl i) = header_other s a i
  header_passed (inr q) = header_other_id s a q.0 q.1

  header_end : Passed s a → next_at s a ≡ 0 → header_at s a ≡ stops (refused 3)
  header_end p z = header_passed p ∙ followed_end _ z

  header_goes : Passed s a → Followable (next_at s a) → header_at s a ≡ goes (next_at s a)
  header_goes p q = header_passed p ∙ followed_on _ q.0 q.1

  header_malformed : Passed s a → next_at s a ≢ 0 → (Followable (next_at s a) → ⊥) → header_at s a ≡ stops (refused 4)
  header_malformed p h q = header_passed p ∙ by (ltb (next_at s a) 0x100) refl
    where
      by : (l : Bool) → ltb (next_at s a) 0x100 ≡ l → followed (next_at s a) ≡ stops (refused 4)
      by true e = followed_low _ h (ltb-true _ _ e)
      by false e = followed_odd _ h (λ o. q (ltb-false _ _ e, o))

  fixed_test : (fixed_wrong (vsec_at s a) ≡ true → (Fixed (vsec_at s a) → ⊥)) × ((Fixed (vsec_at s a) → ⊥) → fixed_wrong (vsec_at s a) ≡ true)
  fixed_test = fails_exactly (fixed_wrong (vsec_at s a)) (structure_tests (vsec_at s a)).fixed

-- ---- from the walk to the list

module _ (s : List ℕ) (begun : Begun s) where
  -- the walk stops here as the list ends here
  ends_tpmi : {n a : ℕ} → Reached s n a → n < 960 → Tpmi s a → Ends s (taken_at s a)
  ends_tpmi {n} {a} r l t = by (ltb 4080 a) (fixed_wrong (vsec_at s a)) refl refl
    where
      by : (h f : Bool) → ltb 4080 a ≡ h → fixed_wrong (vsec_at s a) ≡ f → Ends s (taken_at s a)
      by true f h≡ f≡ = let h = ltb-true _ _ h≡ in subst (Ends s) (sym (taken_high s a h)) (over begun r l t h)
      by false true h≡ f≡ = let h = ltb-false _ _ h≡ in subst (Ends s) (sym (taken_wrong s a h f≡)) (wrong begun r l t h ((fixed_test s a).0 f≡))
      by false false h≡ f≡ = let h = ltb-false _ _ h≡ in subst (Ends s) (sym (taken_sound s a h f≡)) (taken begun r l t h ((structure_tests (vsec_at s a)).fixed.0 f≡))

  turn : (left n a : ℕ) → Reached s n a → n < 960 → (Passed s a → Followable (next_at s a) → Ends s (walk_from s left (next_at s a)))
      → Ends s (onward (header_at s a) (walk_from s left))
  turn left n a r l rest = by (header_kinds s a)
    where
      says : {h : Header} → header_at s a ≡ h → Ends s (onward h (walk_from s left)) → Ends s (onward (header_at s a) (walk_from s left))
      says e x = subst (λ (h : Header). Ends s (onward h (walk_from s left))) (sym e) x

      past : Passed s a → (next_at s a ≡ 0) ⊎ (Followable (next_at s a) ⊎ ((next_at s a ≢ 0) × (Followable (next_at s a) → ⊥))) → Ends s (onward (header_at s a) (walk_from s left))
      past p (inl z) = says (header_end s a p z) (ended begun r l p z)
      past p (inr (inl q)) = says (header_goes s a p q) (rest p q)
      past p (inr (inr q)) = says (header_malformed s a p q.0 q.1) (malformed begun r l p q.0 q.1)

      by : ((identifier_at s a ≡ 0x000B) × (4088 < a)) ⊎ (Tpmi s a ⊎ Passed s a) → Ends s (onward (header_at s a) (walk_from s left))
      by (inl q) = says (header_cut s a q.0 q.1) (cut begun r l q.0 q.1)
      by (inr (inl t)) = says (header_tpmi s a t.0 t.1 t.2) (ends_tpmi r l t)
      by (inr (inr p)) = past p (next_kinds (next_at s a))

  ends_from : (left n a : ℕ) → Reached s n a → n + left ≡ 960 → Ends s (walk_from s left a)
  unfolding walk_from
  ends_from zero n a r e = let z : n ≡ 960 = omega arith in endless begun (subst (λ (k : ℕ). Reached s k a) z r)
  ends_from (suc left) n a r e = turn left n a r (omega arith) (λ p q. ends_from left (suc n) (next_at s a) (on r p q) (omega arith))

-- a list is empty, or begun
begun_or_empty : (s : List ℕ) → Begun s ⊎ ((number_at s 0x100 4 ≡ 0) ⊎ (number_at s 0x100 4 ≡ 0xFFFFFFFF))
begun_or_empty s = by (eqb (number_at s 0x100 4) 0) (eqb (number_at s 0x100 4) 0xFFFFFFFF) refl refl
  where
    by : (z o : Bool) → eqb (number_at s 0x100 4) 0 ≡ z → eqb (number_at s 0x100 4) 0xFFFFFFFF ≡ o
        → Begun s ⊎ ((number_at s 0x100 4 ≡ 0) ⊎ (number_at s 0x100 4 ≡ 0xFFFFFFFF))
    by true o z≡ o≡ = inr (inl (eqb-true _ _ z≡))
    by false true z≡ o≡ = inr (inr (eqb-true _ _ o≡))
    by false false z≡ o≡ = inl (eqb-false _ _ z≡, eqb-false _ _ o≡)

walk_ends : (s : List ℕ) → Ends s (walk_of s)
walk_ends s = by (begun_or_empty s)
  where
    by : Begun s ⊎ ((number_at s 0x100 4 ≡ 0) ⊎ (number_at s 0x100 4 ≡ 0xFFFFFFFF)) → Ends s (walk_of s)
    by (inl b) = subst (Ends s) (walk_begins s refl b.0 b.1) (ends_from s b 960 0 0x100 here refl)
    by (inr (inl z)) = subst (Ends s) (sym (walk_zeros s z)) (empty (λ b. b.0 z))
    by (inr (inr o)) = subst (Ends s) (sym (walk_ones s o)) (empty (λ b. b.1 o))

-- ---- and from the list to the walk

module _ (s : List ℕ) where
  -- the walk comes by every header that is reached, with that many fewer left
  comes_by : {n a : ℕ} → Reached s n a → n ≤ 960 → walk_from s 960 0x100 ≡ walk_from s (960 - n) a
  unfolding walk_from
  comes_by here l = refl
  comes_by (on {n} {a} r p q) l =
      let e : 960 - n ≡ suc (960 - suc n) = omega arith in
      comes_by r (omega arith) ∙ ap (λ (k : ℕ). walk_from s k a) e ∙ ap (λ (h : Header). onward h (walk_from s (960 - suc n))) (header_goes s a p q)

  -- and stops where one stops it
  stops_at : {n a : ℕ} {w : Answer} → Begun s → Reached s n a → n < 960 → header_at s a ≡ stops w → walk_of s ≡ w
  unfolding walk_from
  stops_at {n} {a} b r l h =
      let e : 960 - n ≡ suc (960 - suc n) = omega arith in
      sym (walk_begins s refl b.0 b.1) ∙ comes_by r (omega arith) ∙ ap (λ (k : ℕ). walk_from s k a) e ∙ ap (λ (h : Header). onward h (walk_from s (960 - suc n))) h

  ends_walk : (w : Answer) → Ends s w → walk_of s ≡ w
  ends_walk _ (empty h) = ⊎_elim (λ b. absurd (h b)) (λ q. ⊎_elim (walk_zeros s) (walk_ones s) q) (begun_or_empty s)
  ends_walk _ (ended b r l p z) = stops_at b r l (header_end s _ p z)
  ends_walk _ (malformed b r l p h q) = stops_at b r l (header_malformed s _ p h q)
  ends_walk _ (endless b r) = sym (walk_begins s refl b.0 b.1) ∙ comes_by r (omega arith) ∙ walk_out s _ _ (omega arith)
  ends_walk _ (cut b r l i h) = stops_at b r l (header_cut s _ i h)
  ends_walk _ (over b r l t h) = stops_at b r l (header_tpmi s _ t.0 t.1 t.2 ∙ ap stops (taken_high s _ h))
  ends_walk _ (wrong b r l t h f) = stops_at b r l (header_tpmi s _ t.0 t.1 t.2 ∙ ap stops (taken_wrong s _ h ((fixed_test s _).1 f)))
  ends_walk _ (taken b r l t h f) = stops_at b r l (header_tpmi s _ t.0 t.1 t.2 ∙ ap stops (taken_sound s _ h (right_fixed _ f)))

pub walk_fact : (s : List ℕ) (a : Answer) → WalkFact s a
walk_fact s a = (λ e. subst (Ends s) e (walk_ends s), ends_walk s a)

-- ---- what callers use

-- a refusal of the walk is 3, 4 or 5; a place that is taken has room for the structure
abbrev pub Kept : Answer → Type 0
Kept (refused n) = (3 ≤ n) × (n ≤ 5)
Kept (gives []) = ⊥
Kept (gives (x ∷ [])) = x ≤ 4080
Kept (gives (x ∷ y ∷ ys)) = ⊥

ends_kept : (s : List ℕ) (w : Answer) → Ends s w → Kept w
ends_kept s _ (empty h) = (omega arith, omega arith)
ends_kept s _ (ended b r l p z) = (omega arith, omega arith)
ends_kept s _ (malformed b r l p h q) = (omega arith, omega arith)
ends_kept s _ (endless b r) = (omega arith, omega arith)
ends_kept s _ (cut b r l i h) = (omega arith, omega arith)
ends_kept s _ (over b r l t h) = (omega arith, omega arith)
ends_kept s _ (wrong b r l t h f) = (omega arith, omega arith)
ends_kept s _ (taken b r l t h f) = h

pub walk_kept : (s : List ℕ) → Kept (walk_of s)
walk_kept s = ends_kept s (walk_of s) (walk_ends s)
