-- The theorems of Facts.antt on the places of registers. Assumes nothing.
use Prim.Native.Nat.{ℕ, ◌+◌, ◌*◌, ◌≤◌}
use mathlib.Core.Path.{◌≡◌, refl, sym, ap, ◌∙◌}
use mathlib.Core.Bool.{Bool, true, false, ◌&&◌, ◌||◌}
use mathlib.Core.List.{List, [], ◌∷◌}
use mathlib.Core.Logic.{inl, inr, ⊎_elim, ◌↔◌}
use native.Mathlib.Omega.{arith}
use borrow.Author.Tests.{lt-ltb, ltb-true, le-leb, leb-true}
use lib.Dec.{ltb, leb}
use lib.ListN.{length, get_or}
use Rattle.words.specs.Bytes.{number_at}
use Rattle.words.proofs.AnswerLaws.{unless_stops, first_none, first_zero}
use Rattle.words.proofs.TestLaws.{or_either, or_neither, or_take, or_second, or_skip, and_both, and_holds, and_first, and_skip, fails_else, fails_exactly}
use Rattle.words.proofs.Theorems.{exact_fact, unless_fact}
use Rattle.uncore_clusters.specs.Clusters.{start_in, place_of, unnamed, past, unread, place_number, place_in, content_in}
use Rattle.uncore_clusters.specs.Facts.{Unnamed, Inside, PlaceFact, StandsFact, SharedFact}
use Rattle.uncore_clusters.proofs.ClusterLaws.{place_own, place_cluster, room, not_past}

-- ---- the tests decide their plain statement

module _ (s : List ℕ) (die n r : ℕ) where
  named_exactly : (unnamed s die n r ≡ true) ↔ Unnamed s die n r
  unfolding unnamed
  named_exactly = (
    λ e. ⊎_elim (λ a. inl (ltb-true _ _ a)) (λ f. inr (⊎_elim (λ a. inl (ltb-true _ _ a)) (λ g. let h = and_both (leb 2 r) _ g in inr (leb-true _ _ h.0, leb-true _ _ h.1)) (or_either (ltb 255 die) _ f))) (or_either (ltb 5 r) _ e),
    ⊎_elim (λ a. or_take _ (lt-ltb _ _ a)) (λ f. or_second (ltb 5 r) (⊎_elim (λ a. or_take _ (lt-ltb _ _ a)) (λ g. or_second (ltb 255 die) (and_holds (le-leb _ _ g.0) (le-leb _ _ g.1))) f)),
  )

  -- the offset register is there where it is asked
  read_exactly : (unread s r ≡ false) ↔ (2 ≤ r → 16 ≤ length s)
  unfolding unread
  read_exactly = (λ e k. room s 8 (sym (and_skip _ (le-leb 2 r k)) ∙ e), λ h. by (leb 2 r) refl h)
    where
      by : (t : Bool) → leb 2 r ≡ t → (2 ≤ r → 16 ≤ length s) → (leb 2 r && past s 8) ≡ false
      by true e h = and_skip _ e ∙ not_past s 8 (h (leb-true _ _ e))
      by false e h = and_first _ e

  inside_exactly : ((unread s r || past s (place_of s n r)) ≡ false) ↔ Inside s n r
  inside_exactly = (
    λ e. let f = or_neither (unread s r) _ e in (read_exactly.0 f.0, room s _ f.1),
    λ h. or_skip _ (read_exactly.1 h.0) ∙ not_past s _ h.1,
  )

  -- the number of a lookup, exactly
  number_is : (place_number s die n r ≡ 0) ↔ ((Unnamed s die n r → ⊥) × Inside s n r)
  unfolding place_number
  number_is =
      let named = fails_else (unnamed s die n r) named_exactly in (
        λ e. let f = first_zero _ tt e in (named.0 f.0, inside_exactly.0 f.1.0),
        λ h. first_none _ (named.1 h.0, (inside_exactly.1 h.1, tt)),
      )

  given : {v : ℕ} (x : ℕ) {P : Type 0} → (P ↔ ((place_number s die n r ≡ 0) × (v ∷ [] ≡ x ∷ []))) → P ↔ ((Unnamed s die n r → ⊥) × Inside s n r × (v ≡ x))
  given x u = (
    λ e. let g = u.0 e in let m = number_is.0 g.0 in (m.0, m.1, ap (λ (l : List ℕ). get_or l 0 0) g.1),
    λ h. u.1 (number_is.1 (h.0, h.1), ap (λ (y : ℕ). y ∷ []) h.2),
  )

  pub place_fact : PlaceFact s die n r
  unfolding place_in content_in place_number
  place_fact =
      let t17 : Bool = unnamed s die n r in
      let t14 : Bool = unread s r || past s (place_of s n r) in
      let n17 = exact_fact [] t17 17 ((t14, 14) ∷ []) (λ z. omega arith) tt in
      let n14 = exact_fact ((t17, 17) ∷ []) t14 14 [] (λ z. omega arith) tt in
      let u = unless_fact (place_number s die n r) (place_of s n r ∷ []) in
      let w = unless_fact (place_number s die n r) (number_at s (place_of s n r) 8 ∷ []) in
      let named = fails_else t17 named_exactly in
      let outside = fails_exactly t14 inside_exactly in
      record {
        seventeen = (
          λ e. named_exactly.0 (n17.0 ((u.refuses 17).0 e).0).1,
          λ h. (u.refuses 17).1 (n17.1 (tt, named_exactly.1 h), λ z. omega arith),
        );
        fourteen = (
          λ e. let f = n14.0 ((u.refuses 14).0 e).0 in (named.0 f.0.0, outside.0 f.1),
          λ h. (u.refuses 14).1 (n14.1 ((named.1 h.0, tt), outside.1 h.1), λ z. omega arith),
        );
        place = λ at. given at (u.accepts (at ∷ []));
        content = λ x. given x (w.accepts (x ∷ []));
        same_refusal = λ m. (unless_stops (place_number s die n r) _ _, unless_stops (place_number s die n r) _ _);
      }

-- ---- where each stands

module _ (s : List ℕ) (n : ℕ) where
  after : (r k : ℕ) → 2 ≤ r → r * 8 ≡ 16 + k → place_of s n r ≡ start_in s n + k
  after r k h e = place_cluster s n r h ∙ (omega arith)

  pub stands_fact : StandsFact s n
  stands_fact =
      record {
        header = place_own s n 0 (omega arith);
        offsets = place_own s n 1 (omega arith);
        status = after 2 0 (omega arith) refl ∙ (omega arith);
        control = after 3 8 (omega arith) refl;
        advanced1 = after 4 16 (omega arith) refl;
        advanced2 = after 5 24 (omega arith) refl;
      }

-- ---- two registers

pub shared_fact : (s : List ℕ) (n r m q : ℕ) → SharedFact s n r m q
unfolding start_in
shared_fact s n r m q h k =
    let a = place_cluster s n r h in
    let b = place_cluster s m q k in (
      (
        λ e. omega (arith, a, b, e.1, e.2, e.3, e.4),
        λ e. (place_of s n r, omega arith, omega arith, omega (arith, a, b, e), omega (arith, a, b, e)),
      ),
      λ e. omega (arith, a, b, e.1, e.2, e.3, e.4),
    )
