-- One field written by a store: it reads back, and nothing else changes. Assumes nothing.
use Prim.Native.Nat.{ℕ, ◌^◌, ◌<◌}
use mathlib.Core.Path.{◌≡◌, sym, ap, ◌∙◌}
use mathlib.Core.List.{List}
use native.Mathlib.Omega.{arith}
use Rattle.words.specs.Bytes.{AllBytes, number_at}
use Rattle.words.proofs.NumberLaws.{number_lt, number_part}
use Rattle.fields.specs.Bits.{field, bit, with_field}
use Rattle.fields.proofs.FieldLaws.{field_with_fit, with_lt}
use Rattle.fields.proofs.Theorems.{field_fact}
use Rattle.capture.specs.Capture.{Capture}
use Rattle.tpmi_discovery.specs.Table.{bar_of}
use Rattle.tpmi_features.specs.Instances.{start_for, size_for, instance_part}
use Rattle.tpmi_features.proofs.InstanceLaws.{part_found}
use Rattle.tpmi_store.specs.Store.{stored_at}
use Rattle.tpmi_store.specs.Facts.{Within, FieldStores}
use Rattle.tpmi_store.proofs.StoreLeaves.{store_leaves}

module _ (c : Capture) (id n offset : ℕ) (t : Within c id n offset) where
  -- what a register holds: the same number in the instance and in the capture
  pub held_same : number_at (instance_part c id n) offset 8 ≡ number_at (bar_of c) (stored_at c id n offset) 8
  held_same =
      ap (λ (s : List ℕ). number_at s offset 8) (sym (part_found c id n t.found))
      ∙ number_part (bar_of c) (start_for c id n) (size_for c id) offset 8 t.inside

  pub held_lt : AllBytes (bar_of c) → number_at (instance_part c id n) offset 8 < 2 ^ 64
  held_lt b = omega (arith, held_same, number_lt (bar_of c) b (stored_at c id n offset) 8)

pub field_stores : (c : Capture) (id n offset p w v : ℕ) → FieldStores c id n offset p w v
field_stores c id n offset p w v t b fits narrow =
    let x : ℕ = number_at (instance_part c id n) offset 8 in
    let s = store_leaves c id n offset (with_field p w x v) t in
    let holds = s.content (with_lt p w x v 64 fits (held_lt c id n offset t b)) in
    record {
      reads = ap (field p w) holds ∙ field_with_fit p w x v narrow;
      bits = λ k o. ap (bit k) holds ∙ (field_fact p w x v).others k o ∙ ap (bit k) (held_same c id n offset t);
      bytes = s.bytes;
      size = s.size;
      inside = s.inside;
      whole = s.whole;
    }
