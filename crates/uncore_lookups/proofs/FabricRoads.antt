-- The theorems of Facts.antt: over a capture the calls say what is said of the instance's bytes, and lead to the registers of the instance.
-- Assumes nothing.
use Prim.Native.Nat.{ℕ, ◌+◌, ◌%◌, ◌≤◌}
use mathlib.Core.Path.{◌≡◌, sym, ap, ◌∙◌}
use mathlib.Core.List.{List, [], ◌∷◌}
use Rattle.words.specs.Answers.{gives}
use Rattle.words.specs.Bytes.{number_at}
use Rattle.words.proofs.AnswerLaws.{unless_number, unless_passes}
use Rattle.words.proofs.NumberLaws.{number_part}
use Rattle.capture.specs.Capture.{Capture}
use Rattle.tpmi_discovery.specs.Table.{bar_of}
use Rattle.tpmi_features.specs.Instances.{start_for, size_for, instance_number, instance_part}
use Rattle.tpmi_features.proofs.InstanceLaws.{part_found}
use Rattle.tpmi_features.proofs.InsideLaws.{in_size}
use Rattle.tpmi_registers.proofs.RegisterLaws.{outside_none, register_inside, content_found}
use Rattle.tpmi_registers.specs.Registers.{register_number, register_place_of, register_of}
use Rattle.tpmi_registers.proofs.RegisterPlaceFact.{register_place_fact}
use Rattle.uncore_clusters.specs.Clusters.{place_of, place_number, content_in}
use Rattle.uncore_clusters.proofs.ClusterLaws.{place_inside, place_eights}
use Rattle.uncore_lookups.specs.Fabric.{clusters_for, global_for, place_from, place_for, content_for}
use Rattle.uncore_lookups.specs.Facts.{FabricFor, FabricRoads}
use Rattle.uncore_lookups.proofs.FabricLaws.{from_stops}

pub fabric_for : (c : Capture) (i die n r : ℕ) → FabricFor c i die n r
unfolding clusters_for global_for place_for content_for
fabric_for c i die n r =
    record {
      handed_on = λ h. (unless_number _ _ h, unless_number _ _ h, unless_number _ _ h, unless_number _ _ h);
      clusters = λ z. unless_passes _ z;
      global = λ z. unless_passes _ z;
      content = λ z. unless_passes _ z;
      refused_place = λ m z e. unless_passes _ z ∙ from_stops c i die n r (instance_part c 2 i) e;
    }

module _ (c : Capture) (i die n r : ℕ) (z : instance_number c 2 i ≡ 0) (p : place_number (instance_part c 2 i) die n r ≡ 0) where
  abbrev at : ℕ
  at = place_of (instance_part c 2 i) n r

  inside : at + 8 ≤ size_for c 2
  inside = in_size c 2 i z (place_inside (instance_part c 2 i) die n r p)

  eights : at % 8 ≡ 0
  eights = place_eights (instance_part c 2 i) n r

  found : register_number c 2 i at ≡ 0
  found = (register_place_fact c 2 i at).found.1 (z, eights, inside)

  -- the content in the instance's bytes is that in the capture
  same : number_at (instance_part c 2 i) at 8 ≡ number_at (bar_of c) (start_for c 2 i + at) 8
  same =
      ap (λ (s : List ℕ). number_at s at 8) (sym (part_found c 2 i z))
      ∙ number_part (bar_of c) (start_for c 2 i) (size_for c 2) at 8 inside

  pub place_road : place_for c i die n r ≡ register_place_of c 2 i at
  unfolding place_for place_from
  place_road = unless_passes _ z ∙ unless_passes _ p ∙ sym (register_inside c 2 i at z (outside_none _ _ eights inside))

  pub content_road : content_for c i die n r ≡ register_of c 2 i at
  unfolding content_for content_in
  content_road = unless_passes _ z ∙ unless_passes _ p ∙ ap (λ (x : ℕ). gives (x ∷ [])) same ∙ sym (content_found c 2 i at found)

pub fabric_roads : (c : Capture) (i die n r : ℕ) → FabricRoads c i die n r
fabric_roads c i die n r = record { place = place_road c i die n r; content = content_road c i die n r }
