-- What a register of a cluster holds next: the ways of the code, and what the answer tells. Assumes nothing.
use Prim.Native.Nat.{ℕ, ◌+◌, ◌≤◌}
use mathlib.Core.Path.{◌≡◌, sym, ap, ◌∙◌}
use mathlib.Core.List.{List, [], ◌∷◌}
use mathlib.Core.Logic.{◌≢◌}
use lib.ListN.{length, get_or}
use Rattle.words.specs.Answers.{refused, gives, unless}
use Rattle.words.specs.Bytes.{number_at}
use Rattle.words.proofs.AnswerLaws.{unless_gives, unless_refused, two_pass, two_zero, stage_stops}
use Rattle.uncore_clusters.specs.Clusters.{place_of, place_number, place_in}
use Rattle.uncore_clusters.proofs.ClusterLaws.{placed, place_inside}
use Rattle.uncore_permits.specs.ControlFields.{next_word, word_of}
use Rattle.uncore_permits.proofs.FieldsLaws.{Passed, passed}
use Rattle.uncore_writes.specs.ControlNext.{held_in, next_content, next_number, next_of}

module _ (s : List ℕ) (die n r which value : ℕ) where
  pub next_refused : {m : ℕ} → place_in s die n r ≡ refused m → next_of s die n r which value ≡ refused m
  unfolding place_in next_of next_number
  next_refused e = stage_stops (place_number s die n r) _ _ _ e

  -- of a register that is there the write's own tests decide, on what it holds
  pub by_word : place_number s die n r ≡ 0 → next_of s die n r which value ≡ word_of r which (held_in s n r) value
  unfolding next_of next_number next_content word_of
  by_word z = ap (λ (k : ℕ). unless k (gives (next_word r which (held_in s n r) value ∷ []))) (two_pass _ z)

  pub word_last : {at x : ℕ} → place_in s die n r ≡ gives (at ∷ []) → x ≡ number_at s at 8 → word_of r which x value ≡ next_of s die n r which value
  unfolding held_in
  word_last e h =
      let p = placed s die n r e in
      ap (λ (y : ℕ). word_of r which y value) (h ∙ ap (λ (k : ℕ). number_at s k 8) (sym p.1)) ∙ sym (by_word p.0)

  -- ---- what the answer tells

  pub given_by : {y : ℕ} → next_of s die n r which value ≡ gives (y ∷ []) → (next_number s die n r which value ≡ 0) × (next_content s n r which value ≡ y)
  unfolding next_of
  given_by e = let u = unless_gives (next_number s die n r which value) e in (u.0, ap (λ (l : List ℕ). get_or l 0 0) u.1)

  pub stopped_by : {m : ℕ} → next_of s die n r which value ≡ refused m → (next_number s die n r which value ≡ m) × (m ≢ 0)
  unfolding next_of
  stopped_by e = unless_refused (next_number s die n r which value) _ e

  -- a permitted write: a register that is there, its tests passed, and its bytes inside the instance
  pub permitted : next_number s die n r which value ≡ 0 → (place_number s die n r ≡ 0) × Passed r which (held_in s n r) value
  unfolding next_number
  permitted z = let t = (two_zero (place_number s die n r) _).0 z in (t.0, passed _ _ _ _ t.1)

  pub next_inside : next_number s die n r which value ≡ 0 → place_of s n r + 8 ≤ length s
  next_inside z = place_inside s die n r (permitted z).0
