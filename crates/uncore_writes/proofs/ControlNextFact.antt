-- The theorem of Facts.antt on what a register holds next: the lookup's refusal, then the write's own (crate uncore_permits). Assumes nothing.
use Prim.Native.Nat.{ℕ, zero, suc, ◌^◌, ◌≤◌, ◌<◌}
use mathlib.Core.Path.{◌≡◌, refl, sym, ap, ◌∙◌}
use mathlib.Core.List.{List, [], ◌∷◌}
use mathlib.Core.Logic.{◌⊎◌, inl, inr, ⊎_elim, ◌↔◌, ◌≢◌}
use native.Mathlib.Omega.{arith}
use Rattle.words.specs.Answers.{refused, gives, unless}
use Rattle.words.proofs.AnswerLaws.{unless_number, earliest_stop, two_from}
use Rattle.uncore_clusters.specs.Clusters.{place_number, place_in}
use Rattle.uncore_clusters.specs.Facts.{Unnamed, Inside}
use Rattle.uncore_clusters.proofs.ClusterLaws.{number_low}
use Rattle.uncore_clusters.proofs.PlaceFact.{place_fact}
use Rattle.uncore_permits.specs.ControlFields.{width_of, word_of}
use Rattle.uncore_permits.specs.Facts.{Writable, WordFact}
use Rattle.uncore_permits.proofs.FieldsLaws.{word_low}
use Rattle.uncore_permits.proofs.WordFact.{word_fact}
use Rattle.uncore_writes.specs.ControlNext.{held_in, next_content, next_number, next_of}
use Rattle.uncore_writes.specs.Facts.{ControlNextFact}
use Rattle.uncore_writes.proofs.ControlNextLaws.{next_refused, by_word, given_by, stopped_by, permitted}

module _ (s : List ℕ) (die n r which value : ℕ) where
  handed : place_number s die n r ≢ 0 → next_of s die n r which value ≡ refused (place_number s die n r)
  unfolding next_of next_number
  handed h = ap (λ (k : ℕ). unless k (gives (next_content s n r which value ∷ []))) (earliest_stop (place_number s die n r) _ h) ∙ unless_number _ _ h

  place_handed : place_number s die n r ≢ 0 → place_in s die n r ≡ refused (place_number s die n r)
  unfolding place_in
  place_handed h = unless_number _ _ h

  -- what the register's word is told to hold next
  facts : WordFact r which (held_in s n r) value
  facts = word_fact r which (held_in s n r) value

  -- a number above those of the lookup comes from the write's own tests
  own : (k : ℕ) → 17 < k → {P : Type 0} → (word_of r which (held_in s n r) value ≡ refused k) ↔ P → (next_of s die n r which value ≡ refused k) ↔ ((place_number s die n r ≡ 0) × P)
  unfolding next_number
  own k h w = (
    λ e. let z = (two_from (place_number s die n r) _ (λ q. omega (arith, q, number_low s die n r)) (stopped_by s die n r which value e).0).0 in (z, w.0 (sym (by_word s die n r which value z) ∙ e)),
    λ a. by_word s die n r which value a.0 ∙ w.1 a.1,
  )

  -- the write's own tests have no 14
  word_never : word_of r which (held_in s n r) value ≡ refused 14 → ⊥
  word_never e = omega (arith, word_low r which (held_in s n r) value e)

  -- 17 is the lookup's, or where that passes the write's own
  wide : next_of s die n r which value ≡ refused 17 → Unnamed s die n r ⊎ ((place_number s die n r ≡ 0) × (Writable r which × (2 ^ width_of r which ≤ value)))
  wide e = by (place_number s die n r) refl
    where
      by : (k : ℕ) → place_number s die n r ≡ k → Unnamed s die n r ⊎ ((place_number s die n r ≡ 0) × (Writable r which × (2 ^ width_of r which ≤ value)))
      by zero z = inr (z, facts.wide.0 (sym (by_word s die n r which value z) ∙ e))
      by (suc k) z =
          let some : place_number s die n r ≢ 0 = λ q. omega (arith, q, z) in
          inl ((place_fact s die n r).seventeen.0 (place_handed some ∙ sym (handed some) ∙ e))

  -- 14 is the lookup's alone
  past : next_of s die n r which value ≡ refused 14 → (Unnamed s die n r → ⊥) × (Inside s n r → ⊥)
  past e = by (place_number s die n r) refl
    where
      by : (k : ℕ) → place_number s die n r ≡ k → (Unnamed s die n r → ⊥) × (Inside s n r → ⊥)
      by zero z = absurd (word_never (sym (by_word s die n r which value z) ∙ e))
      by (suc k) z =
          let some : place_number s die n r ≢ 0 = λ q. omega (arith, q, z) in
          (place_fact s die n r).fourteen.0 (place_handed some ∙ sym (handed some) ∙ e)

  pub control_next_fact : ControlNextFact s die n r which value
  unfolding next_content
  control_next_fact =
      record {
        handed_on = handed;
        unwritable = own 27 (omega arith) facts.unwritable;
        seventeen = (
          wide,
          ⊎_elim (λ u. next_refused s die n r which value ((place_fact s die n r).seventeen.1 u)) (λ a. by_word s die n r which value a.0 ∙ facts.wide.1 a.1),
        );
        fourteen = (
          past,
          λ h. next_refused s die n r which value ((place_fact s die n r).fourteen.1 h),
        );
        crossed = own 28 (omega arith) facts.crossed;
        content = λ y. (
          λ e. let z = (permitted s die n r which value (given_by s die n r which value e).0).0 in (z, (facts.content y).0 (sym (by_word s die n r which value z) ∙ e)),
          λ a. by_word s die n r which value a.0 ∙ (facts.content y).1 a.1,
        );
      }
