-- What is proved of the count of valid instances, for every capture. To be read without its proof, which is in proofs/CountFact.antt.
-- Assumes nothing.
use Rattle.std.specs.Prelude.{ℕ, ◌≤◌, ◌≡◌, Bool, [], ◌∷◌, ◌≢◌, eqb}
use Rattle.words.specs.Answers.{refused, gives}
use Rattle.fields.specs.Masks.{how_many}
use Rattle.capture.specs.Capture.{Capture}
use Rattle.tpmi_features.specs.Instances.{bank_for, feature_number, instance_number}
use Rattle.tpmi_counts.specs.Valid.{valid_count_of}

-- the lookup of instance i of the feature is accepted: its first 8 bytes are not all ones (LookupFact of tpmi_features)
abbrev pub found : Capture → ℕ → ℕ → Bool
found c id i = eqb (instance_number c id i) 0

-- A feature's refusal is handed on. Where the feature is there, the count is how many of its instances an instance lookup accepts; so it is
-- fixed by the captures' bytes, and never more than the instances.
pub record CountFact (c : Capture) (id : ℕ) : Type 0 where
  pub handed_on : feature_number c id ≢ 0 → valid_count_of c id ≡ refused (feature_number c id)
  pub counts : feature_number c id ≡ 0 → valid_count_of c id ≡ gives (how_many (found c id) (bank_for c id).instances ∷ [])
  pub most : how_many (found c id) (bank_for c id).instances ≤ (bank_for c id).instances
