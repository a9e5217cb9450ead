-- What a register of a cluster holds next, after a write of one field (document 02, request 2): after the lookup, 17 then 14, the write's own
-- 27, 17, 28 (crate uncore_permits).
--   held_in s n r          what the register holds
--   next_content s n ..    the register with the field's bits replaced
--   next_number, next_of    the lookup's refusal, then the write's own; or the next content
--   next_for c i ..        the same over a capture
-- Assumes nothing.
use Rattle.std.specs.Prelude.{ℕ, List, [], ◌∷◌}
use Rattle.words.specs.Answers.{Answer, gives, unless, earliest}
use Rattle.words.specs.Bytes.{number_at}
use Rattle.capture.specs.Capture.{Capture}
use Rattle.tpmi_features.specs.Instances.{instance_or}
use Rattle.uncore_clusters.specs.Clusters.{place_of, place_number}
use Rattle.uncore_permits.specs.ControlFields.{next_word, word_number}

unfoldable pub held_in : List ℕ → ℕ → ℕ → ℕ
held_in s n r = number_at s (place_of s n r) 8

unfoldable pub next_content : List ℕ → ℕ → ℕ → ℕ → ℕ → ℕ
next_content s n r which value = next_word r which (held_in s n r) value

unfoldable pub next_number : List ℕ → ℕ → ℕ → ℕ → ℕ → ℕ → ℕ
next_number s die n r which value = earliest (place_number s die n r ∷ word_number r which (held_in s n r) value ∷ [])

unfoldable pub next_of : List ℕ → ℕ → ℕ → ℕ → ℕ → ℕ → Answer
next_of s die n r which value = unless (next_number s die n r which value) (gives (next_content s n r which value ∷ []))

unfoldable pub next_for : Capture → ℕ → ℕ → ℕ → ℕ → ℕ → ℕ → Answer
next_for c i die n r which value = instance_or c 2 i (λ s. next_of s die n r which value)
