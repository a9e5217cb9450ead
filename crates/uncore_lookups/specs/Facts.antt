-- What is proved of clusters over every capture. To be read without its proof, which is in proofs/FabricRoads.antt under the same name with
-- underscores.
-- Assumes nothing.
use Rattle.std.specs.Prelude.{ℕ, ◌≡◌, [], ◌∷◌, ◌≢◌}
use Rattle.words.specs.Answers.{refused, gives}
use Rattle.capture.specs.Capture.{Capture}
use Rattle.tpmi_features.specs.Instances.{instance_number, instance_part}
use Rattle.tpmi_registers.specs.Registers.{register_place_of, register_of}
use Rattle.uncore_clusters.specs.Clusters.{clusters_in, fabric_of, place_of, place_number, place_in, content_in}
use Rattle.uncore_lookups.specs.Fabric.{clusters_for, global_for, place_for, content_for}

-- The instance's own refusal is handed on; where there is none the calls say of its bytes what the crate below says.
pub record FabricFor (c : Capture) (i die n r : ℕ) : Type 0 where
  pub handed_on : instance_number c 2 i ≢ 0
      → (clusters_for c i ≡ refused (instance_number c 2 i))
      × (global_for c i die n ≡ refused (instance_number c 2 i))
      × (place_for c i die n r ≡ refused (instance_number c 2 i))
      × (content_for c i die n r ≡ refused (instance_number c 2 i))
  pub clusters : instance_number c 2 i ≡ 0 → clusters_for c i ≡ gives (clusters_in (instance_part c 2 i) ∷ [])
  pub global : instance_number c 2 i ≡ 0 → global_for c i die n ≡ fabric_of (instance_part c 2 i) die n
  pub content : instance_number c 2 i ≡ 0 → content_for c i die n r ≡ content_in (instance_part c 2 i) die n r
  pub refused_place : (m : ℕ) → instance_number c 2 i ≡ 0 → place_in (instance_part c 2 i) die n r ≡ refused m → place_for c i die n r ≡ refused m

-- Two roads to one register: where a cluster's register is found, it is the register of the instance at that offset, at the same place of
-- the BAR capture and with the same content; so document 01's formula of a register's place holds of it.
pub record FabricRoads (c : Capture) (i die n r : ℕ) : Type 0 where
  pub place : instance_number c 2 i ≡ 0 → place_number (instance_part c 2 i) die n r ≡ 0 → place_for c i die n r ≡ register_place_of c 2 i (place_of (instance_part c 2 i) n r)
  pub content : instance_number c 2 i ≡ 0 → place_number (instance_part c 2 i) die n r ≡ 0 → content_for c i die n r ≡ register_of c 2 i (place_of (instance_part c 2 i) n r)
