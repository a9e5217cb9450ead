-- The worked capture of feature 2, each fact computed, and the control write's own theorem. Assumes nothing.
use Prim.Native.Nat.{ℕ, ◌+◌}
use mathlib.Core.Path.{◌≡◌, refl, sym, ap, ◌∙◌}
use mathlib.Core.Bool.{true}
use mathlib.Core.Logic.{◌≢◌}
use mathlib.Core.List.{List, [], ◌∷◌}
use native.Mathlib.Omega.{arith}
use Rattle.words.specs.Answers.{gives, first, or_else, earliest}
use Rattle.words.specs.Below.{any_below, first_below, least}
use Rattle.words.specs.Bytes.{number_at}
use Rattle.fields.specs.Bits.{field, with_field}
use Rattle.fields.specs.Masks.{how_many}
use Rattle.tpmi_structure.specs.Structure.{vsec_of, vsec_at, fixed_wrong}
use Rattle.tpmi_walk.specs.Walk.{identifier_at, next_at, vsec_id_at, followed, taken_at, header_at, walk_from, empty_list, walk_of}
use Rattle.tpmi_entries.specs.Entry.{entry_of, entry_at}
use Rattle.tpmi_banks.specs.Faults.{bank_of, bank_in, empty_bank, repeats, meets, fault_at, faults_of}
use Rattle.capture.specs.Places.{named}
use Rattle.tpmi_discovery.specs.Table.{structure_of, bar_of, misshapen, before_walk, bir_number, table_number, location_number}
use Rattle.tpmi_discovery.specs.Discovery.{discovery_number}
use Rattle.tpmi_features.specs.Instances.{index_in, unlisted, bank_for, size_for, feature_number, invalid_at, unusable, instance_number, instance_part}
use Rattle.tpmi_store.specs.Store.{stored_at}
use Rattle.uncore_registers.specs.Header.{header_of}
use Rattle.uncore_controls.specs.Control.{control_of}
use Rattle.uncore_clusters.specs.Clusters.{ones_in, clusters_in, start_in, place_of, unnamed, past, unread, place_number}
use Rattle.uncore_lookups.specs.Fabric.{clusters_for}
use Rattle.uncore_permits.specs.ControlFields.{fields_of, lowest_of, width_of, next_word, ratio, above, word_number}
use Rattle.uncore_writes.specs.ControlNext.{held_in, next_content, next_number, next_of, next_for}
use Rattle.uncore_writes.specs.ControlWrite.{write_number, offset_for}
use Rattle.uncore_writes.proofs.ControlWriteFact.{control_write_fact}
use Rattle.stamp.specs.Uncore.{mesh, OfAControlWrite, ControlStoresOf, MeshBounds}
use Rattle.stamp.proofs.Worked.{all_bytes, bytes_all}

mesh_tested : all_bytes (bar_of mesh) ≡ true
unfolding first number_at field vsec_of vsec_at fixed_wrong identifier_at next_at vsec_id_at followed taken_at header_at walk_from empty_list walk_of structure_of named bar_of
mesh_tested = refl

mesh_clusters : clusters_for mesh 0 ≡ gives (2 ∷ [])
unfolding first or_else earliest any_below first_below least number_at field vsec_of vsec_at fixed_wrong identifier_at next_at vsec_id_at followed taken_at header_at walk_from empty_list walk_of entry_of entry_at bank_of bank_in empty_bank repeats meets fault_at faults_of structure_of named bar_of misshapen before_walk bir_number table_number location_number discovery_number index_in unlisted bank_for feature_number invalid_at unusable instance_number instance_part header_of ones_in how_many clusters_in clusters_for
mesh_clusters = refl

mesh_first : (write_number mesh 0 0 0 3 2 127 ≡ 0) × (offset_for mesh 0 0 3 ≡ 16)
unfolding first or_else earliest any_below first_below least number_at field vsec_of vsec_at fixed_wrong identifier_at next_at vsec_id_at followed taken_at header_at walk_from empty_list walk_of entry_of entry_at bank_of bank_in empty_bank repeats meets fault_at faults_of structure_of named bar_of misshapen before_walk bir_number table_number location_number discovery_number index_in unlisted bank_for feature_number invalid_at unusable instance_number instance_part header_of ones_in how_many clusters_in start_in place_of unnamed past unread place_number control_of fields_of lowest_of width_of next_word with_field ratio above word_number held_in next_content next_number next_of next_for write_number
mesh_first = (refl, refl)

mesh_last : (write_number mesh 0 255 1 5 3 0 ≡ 0) × (offset_for mesh 0 1 5 + 8 ≡ size_for mesh 2)
unfolding first or_else earliest any_below first_below least number_at field vsec_of vsec_at fixed_wrong identifier_at next_at vsec_id_at followed taken_at header_at walk_from empty_list walk_of entry_of entry_at bank_of bank_in empty_bank repeats meets fault_at faults_of structure_of named bar_of misshapen before_walk bir_number table_number location_number discovery_number index_in unlisted bank_for feature_number invalid_at unusable instance_number instance_part header_of ones_in how_many clusters_in start_in place_of unnamed past unread place_number control_of fields_of lowest_of width_of next_word with_field ratio above word_number held_in next_content next_number next_of next_for write_number
mesh_last = (refl, refl)

mesh_refused : (write_number mesh 0 256 1 5 3 0 ≡ 17) × (write_number mesh 0 0 1 3 2 1 ≡ 28)
unfolding first or_else earliest any_below first_below least number_at field vsec_of vsec_at fixed_wrong identifier_at next_at vsec_id_at followed taken_at header_at walk_from empty_list walk_of entry_of entry_at bank_of bank_in empty_bank repeats meets fault_at faults_of structure_of named bar_of misshapen before_walk bir_number table_number location_number discovery_number index_in unlisted bank_for feature_number invalid_at unusable instance_number instance_part header_of ones_in how_many clusters_in start_in place_of unnamed past unread place_number control_of fields_of lowest_of width_of next_word with_field ratio above word_number held_in next_content next_number next_of next_for write_number
mesh_refused = (refl, refl)

-- the minimum of the first cluster's control
mesh_zero : field (lowest_of 3 2) (width_of 3 2) (number_at (bar_of mesh) (stored_at mesh 2 0 (offset_for mesh 0 0 3)) 8) ≡ 0
unfolding first or_else earliest any_below first_below least number_at field vsec_of vsec_at fixed_wrong identifier_at next_at vsec_id_at followed taken_at header_at walk_from empty_list walk_of entry_of entry_at bank_of bank_in empty_bank repeats meets fault_at faults_of structure_of named bar_of misshapen before_walk bir_number table_number location_number discovery_number index_in unlisted bank_for feature_number invalid_at unusable instance_number instance_part header_of ones_in how_many clusters_in start_in place_of unnamed past unread place_number control_of fields_of lowest_of width_of next_word with_field ratio above word_number held_in next_content next_number next_of next_for write_number
mesh_zero = refl

no_field : (left : OfAControlWrite (List ℕ)) → ControlStoresOf left → left mesh 0 0 0 3 2 127 ≢ bar_of mesh
no_field left s e =
    let r = (s mesh 0 0 0 3 2 127 (bytes_all (bar_of mesh) mesh_tested) mesh_first.0).reads in
    let z : ◌≡◌ {A = ℕ} 0 127 =
    sym mesh_zero ∙ ap (λ (l : List ℕ). field (lowest_of 3 2) (width_of 3 2) (number_at l (stored_at mesh 2 0 (offset_for mesh 0 0 3)) 8)) (sym e) ∙ r in
    omega arith

pub mesh_bounds : MeshBounds
mesh_bounds =
    record {
      bytes = bytes_all (bar_of mesh) mesh_tested;
      clusters = mesh_clusters;
      first = mesh_first;
      last = mesh_last;
      refused = mesh_refused;
      ours_stores = control_write_fact;
      writes_no_field = no_field;
    }
