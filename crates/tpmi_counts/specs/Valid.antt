-- Valid instances (document 01, "PFS and register places"): those whose first 8 bytes are not all ones.
--   valid_in s start size i   instance i, of instances of so many bytes each from a start, is valid
--   valid_count_in             how many of the first n are
--   valid_count_of c id             the valid instances of a feature, or the refusal of its lookup
-- Assumes nothing.
use Rattle.std.specs.Prelude.{ℕ, ◌+◌, ◌*◌, Bool, not, List, [], ◌∷◌}
use Rattle.words.specs.Answers.{Answer, gives, unless}
use Rattle.fields.specs.Masks.{how_many}
use Rattle.capture.specs.Capture.{Capture}
use Rattle.tpmi_discovery.specs.Table.{bar_of}
use Rattle.tpmi_features.specs.Instances.{bank_for, size_for, feature_number, invalid_at}

abbrev pub valid_in : List ℕ → ℕ → ℕ → ℕ → Bool
valid_in s start size i = not (invalid_at s (start + i * size))

unfoldable pub valid_count_in : List ℕ → ℕ → ℕ → ℕ → ℕ
valid_count_in s start size n = how_many (valid_in s start size) n

unfoldable pub valid_count_of : Capture → ℕ → Answer
valid_count_of c id =
    unless (feature_number c id)
    (gives (valid_count_in (bar_of c) (bank_for c id).start (size_for c id) (bank_for c id).instances ∷ []))
