-- What is proved of the registers of the limit reasons over every capture. Each record is to be read without its proof, which is in
-- proofs/ByNameFact.antt under the same name with underscores.
-- Assumes nothing.
use Rattle.std.specs.Prelude.{ℕ, ◌+◌, ◌*◌, ◌≤◌, ◌<◌, ◌≡◌, List, [], ◌∷◌, ◌↔◌, ◌≢◌}
use Rattle.words.specs.Answers.{refused, gives}
use Rattle.words.specs.Bytes.{number_at}
use Rattle.capture.specs.Capture.{Capture}
use Rattle.tpmi_discovery.specs.Table.{bir_of, bar_of}
use Rattle.tpmi_features.specs.Instances.{size_for, start_for, instance_number}
use Rattle.tpmi_registers.specs.Registers.{register_place_of, register_of}
use Rattle.reasons_lookups.specs.ByName.{number_for, place_for, content_for}

-- Each number exactly on its condition and none tested before it. An instance of 24 to 31 bytes has every register but the die level.
pub record ByNameFact (c : Capture) (i r : ℕ) : Type 0 where
  pub handed_on : instance_number c 12 i ≢ 0 → number_for c i r ≡ instance_number c 12 i
  pub seventeen : (number_for c i r ≡ 17) ↔ ((instance_number c 12 i ≡ 0) × (3 < r))
  pub fourteen : (number_for c i r ≡ 14) ↔ ((instance_number c 12 i ≡ 0) × (r ≤ 3) × (size_for c 12 < r * 8 + 8))
  pub found : (number_for c i r ≡ 0) ↔ ((instance_number c 12 i ≡ 0) × (r ≤ 3) × (r * 8 + 8 ≤ size_for c 12))
  pub short : instance_number c 12 i ≡ 0 → 24 ≤ size_for c 12 → size_for c 12 < 32 → (r < 3 → number_for c i r ≡ 0) × (r ≡ 3 → number_for c i r ≡ 14)

-- Where the number is not 0 both calls refuse with it, and only there; else a place is exactly these four numbers, and a content exactly
-- the number of the eight bytes there.
pub record ByNameAnswers (c : Capture) (i r : ℕ) : Type 0 where
  pub no_place : (m : ℕ) → (place_for c i r ≡ refused m) ↔ ((number_for c i r ≡ m) × (m ≢ 0))
  pub no_content : (m : ℕ) → (content_for c i r ≡ refused m) ↔ ((number_for c i r ≡ m) × (m ≢ 0))
  pub place : (vs : List ℕ) → (place_for c i r ≡ gives vs) ↔ ((number_for c i r ≡ 0) × (bir_of c ∷ (start_for c 12 i + r * 8) ∷ 8 ∷ 1 ∷ [] ≡ vs))
  pub content : (x : ℕ) → (content_for c i r ≡ gives (x ∷ [])) ↔ ((number_for c i r ≡ 0) × (number_at (bar_of c) (start_for c 12 i + r * 8) 8 ≡ x))

-- Two roads to one register: each of the four answers, refusals too, as the register of the instance at its offset does; so document 01's
-- formula of a register's place holds of it.
pub record ByNameRoads (c : Capture) (i r : ℕ) : Type 0 where
  pub place : r ≤ 3 → place_for c i r ≡ register_place_of c 12 i (r * 8)
  pub content : r ≤ 3 → content_for c i r ≡ register_of c 12 i (r * 8)
