-- The count of valid instances over a capture: refused as its feature is, or the count. Assumes nothing.
use Prim.Native.Nat.{ℕ}
use mathlib.Core.Path.{◌≡◌}
use mathlib.Core.List.{[], ◌∷◌}
use Rattle.words.specs.Answers.{refused, gives}
use Rattle.words.proofs.AnswerLaws.{unless_stops, unless_passes}
use Rattle.capture.specs.Capture.{Capture}
use Rattle.tpmi_discovery.specs.Table.{bar_of}
use Rattle.tpmi_features.specs.Instances.{bank_for, size_for, feature_number, feature_of}
use Rattle.tpmi_counts.specs.Valid.{valid_count_in, valid_count_of}

module _ (c : Capture) where
  pub count_refused : (id : ℕ) {m : ℕ} → feature_of c id ≡ refused m → valid_count_of c id ≡ refused m
  unfolding feature_of valid_count_of
  count_refused id e = unless_stops (feature_number c id) _ _ e

  pub count_found : (id : ℕ) → feature_number c id ≡ 0 → valid_count_of c id ≡ gives (valid_count_in (bar_of c) (bank_for c id).start (size_for c id) (bank_for c id).instances ∷ [])
  unfolding valid_count_of
  count_found id z = unless_passes _ z
