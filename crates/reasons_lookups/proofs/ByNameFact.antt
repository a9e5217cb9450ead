-- The theorems of Facts.antt. Assumes nothing.
use Prim.Native.Nat.{ℕ, ◌+◌, ◌*◌, ◌≤◌, ◌<◌}
use mathlib.Core.Path.{◌≡◌, ap, ◌∙◌}
use mathlib.Core.List.{List, [], ◌∷◌}
use mathlib.Core.Logic.{◌↔◌, ◌≢◌}
use native.Mathlib.Omega.{arith}
use borrow.Author.Tests.{ltb-true, ltb-false, lt-ltb, le-ltb}
use lib.Dec.{ltb}
use lib.ListN.{get_or}
use Rattle.words.proofs.AnswerLaws.{earliest_stop, first_zero, first_none, two_pass, two_zero, two_from}
use Rattle.words.proofs.Theorems.{exact_fact, unless_fact}
use Rattle.words.specs.Bytes.{number_at}
use Rattle.capture.specs.Capture.{Capture}
use Rattle.tpmi_discovery.specs.Table.{bir_of, bar_of}
use Rattle.tpmi_features.specs.Instances.{size_for, start_for, instance_number}
use Rattle.tpmi_features.proofs.LookupFact.{instance_small}
use Rattle.reasons_lookups.specs.ByName.{missing, number_for, place_for, content_for}
use Rattle.reasons_lookups.specs.Facts.{ByNameFact, ByNameAnswers, ByNameRoads}
use Rattle.reasons_lookups.proofs.ByNameLaws.{place_named, content_named}

module _ (c : Capture) (i r : ℕ) where
  -- the instance's own numbers end at 13
  own : {k : ℕ} → 13 < k → instance_number c 12 i ≢ k
  own h e = omega (arith, instance_small c 12 i, e, h)

  absent : (number_for c i r ≡ 14) ↔ ((instance_number c 12 i ≡ 0) × (r ≤ 3) × (size_for c 12 < r * 8 + 8))
  unfolding number_for missing
  absent =
      let n14 = exact_fact ((ltb 3 r, 17) ∷ []) (ltb (size_for c 12) (r * 8 + 8)) 14 [] (λ z. omega arith) tt in (
        λ e. let q = two_from _ _ (own (omega arith)) e in let f = n14.0 q.1 in (q.0, ltb-false 3 r f.0.0, ltb-true _ _ f.1),
        λ h. two_pass _ h.0 ∙ n14.1 ((le-ltb 3 r h.1, tt), lt-ltb _ _ h.2),
      )

  there : (number_for c i r ≡ 0) ↔ ((instance_number c 12 i ≡ 0) × (r ≤ 3) × (r * 8 + 8 ≤ size_for c 12))
  unfolding number_for missing
  there = (
    λ e. let z = (two_zero _ _).0 e in let f = first_zero _ tt z.1 in (z.0, ltb-false 3 r f.0, ltb-false _ _ f.1.0),
    λ h. (two_zero _ _).1 (h.0, first_none _ (le-ltb 3 r h.1, (le-ltb _ _ h.2, tt))),
  )

  pub by_name_fact : ByNameFact c i r
  unfolding number_for missing
  by_name_fact =
      let n17 = exact_fact [] (ltb 3 r) 17 ((ltb (size_for c 12) (r * 8 + 8), 14) ∷ []) (λ z. omega arith) tt in
      record {
        handed_on = earliest_stop _ _;
        seventeen = (
          λ e. let q = two_from _ _ (own (omega arith)) e in (q.0, ltb-true 3 r (n17.0 q.1).1),
          λ h. two_pass _ h.0 ∙ n17.1 (tt, lt-ltb 3 r h.1),
        );
        fourteen = absent;
        found = there;
        short = λ z low high. (λ l. there.1 (z, omega arith, omega arith), λ e. absent.1 (z, omega arith, omega arith));
      }

  pub by_name_answers : ByNameAnswers c i r
  unfolding place_for content_for
  by_name_answers =
      let p = unless_fact (number_for c i r) (bir_of c ∷ (start_for c 12 i + r * 8) ∷ 8 ∷ 1 ∷ []) in
      let q = unless_fact (number_for c i r) (number_at (bar_of c) (start_for c 12 i + r * 8) 8 ∷ []) in
      record {
        no_place = p.refuses;
        no_content = q.refuses;
        place = p.accepts;
        content = λ x. (
          λ e. let g = (q.accepts (x ∷ [])).0 e in (g.0, ap (λ (l : List ℕ). get_or l 0 0) g.1),
          λ h. (q.accepts (x ∷ [])).1 (h.0, ap (λ (y : ℕ). y ∷ []) h.1),
        );
      }

  pub by_name_roads : ByNameRoads c i r
  by_name_roads = record { place = place_named c i r; content = content_named c i r }
