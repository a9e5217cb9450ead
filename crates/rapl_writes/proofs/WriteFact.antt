-- The theorems of Facts.antt on the write. Assumes nothing.
use Prim.Native.Nat.{ℕ, ◌+◌, ◌^◌, ◌<◌}
use mathlib.Core.Path.{◌≡◌, sym, subst}
use mathlib.Core.List.{List}
use Rattle.words.specs.Bytes.{AllBytes}
use Rattle.words.proofs.AnswerLaws.{two_stages, two_value, two_refusal}
use Rattle.fields.proofs.FieldLaws.{with_lt}
use Rattle.capture.specs.Capture.{Capture}
use Rattle.tpmi_discovery.specs.Table.{bar_of}
use Rattle.tpmi_features.specs.Instances.{instance_number, instance_part}
use Rattle.tpmi_features.proofs.InsideLaws.{in_size}
use Rattle.tpmi_store.specs.Facts.{Within, FieldStoredIn, StoreLeaves, AsBefore}
use Rattle.tpmi_store.proofs.FieldStores.{held_lt, field_stores}
use Rattle.tpmi_store.proofs.Stores.{stores}
use Rattle.rapl_registers.specs.Contents.{register_place, register_at}
use Rattle.rapl_permits.specs.Permits.{lowest_of, width_of}
use Rattle.rapl_permits.proofs.PermitLaws.{fits}
use Rattle.rapl_writes.specs.Next.{next_content, next_number, next_of, next_for}
use Rattle.rapl_writes.specs.Write.{write_number}
use Rattle.rapl_writes.specs.Facts.{CapturesFact, Stored, WriteFact}
use Rattle.rapl_writes.proofs.NextLaws.{permitted, next_inside}
use Rattle.rapl_writes.proofs.WriteLaws.{left_kept, left_stored}

module _ (c : Capture) (i n limit which value : ℕ) where
  -- the bytes of the instance, and what is asked of them
  abbrev part : List ℕ
  part = instance_part c 0 i

  abbrev next : ℕ
  next = next_content part n limit which value

  -- ---- a permitted write is the one store

  module _ (z : write_number c i n limit which value ≡ 0) where
    stages : (instance_number c 0 i ≡ 0) × (next_number part n limit which value ≡ 0)
    unfolding write_number next_for next_of
    stages = two_stages (instance_number c 0 i) (next_number part n limit which value) next z

    pub next_passes : next_number part n limit which value ≡ 0
    next_passes = stages.1

    -- the register lies inside the instance
    pub in_instance : Within c 0 i (register_place n (limit + 1))
    in_instance =
        record { found = stages.0; inside = in_size c 0 i stages.0 (next_inside part n limit which value stages.1) }

    pub stored_so : StoreLeaves c 0 i (register_place n (limit + 1)) next × AsBefore c 0 i (register_place n (limit + 1)) next
    stored_so = stores c 0 i (register_place n (limit + 1)) next in_instance

  pub captures_fact : CapturesFact c i n limit which value
  unfolding write_number next_for next_of
  captures_fact =
      record {
        refused_kept = left_kept c i n limit which value;
        permitted_stored = left_stored c i n limit which value;
        within = in_instance;
        same_answer = two_value (instance_number c 0 i) (next_number part n limit which value) next;
        same_number = two_refusal (instance_number c 0 i) (next_number part n limit which value) next;
      }

  -- ---- what it stores

  module _ (b : AllBytes (bar_of c)) (z : write_number c i n limit which value ≡ 0) where
    pub next_lt : next < 2 ^ 64
    unfolding next_content register_at
    next_lt = with_lt (lowest_of which) (width_of which) _ value 64 (fits which) (held_lt c 0 i (register_place n (limit + 1)) (in_instance z) b)

    pub write_stores : Stored c i n limit which value
    unfolding next_content register_at
    write_stores =
        let p = (permitted part n limit which value (next_passes z)).1 in
        let f =
        subst (λ (d : Capture). FieldStoredIn (bar_of d) c 0 i (register_place n (limit + 1)) (lowest_of which) (width_of which) value) (sym (left_stored c i n limit which value z)) (field_stores c 0 i (register_place n (limit + 1)) (lowest_of which) (width_of which) value (in_instance z) b (fits which) p.narrow) in
        record { reads = f.reads; bits = f.bits; bytes = f.bytes; size = f.size; inside = f.inside; whole = f.whole }

pub write_fact : (c : Capture) (i n limit which value : ℕ) → WriteFact c i n limit which value
write_fact = write_stores
