-- The theorems of Facts.antt on the write, and on the pair of ratios. Assumes nothing.
use Prim.Native.Nat.{ℕ, ◌+◌, ◌^◌, ◌≤◌, ◌<◌}
use mathlib.Core.Path.{◌≡◌, refl, sym, ap, ◌∙◌, subst}
use mathlib.Core.Bool.{Bool, true, false}
use mathlib.Core.List.{List, [], ◌∷◌}
use mathlib.Core.Logic.{◌⊎◌, inl, inr}
use native.Mathlib.Omega.{arith}
use borrow.Author.Tests.{eqb-true, eqb-false}
use lib.Dec.{eqb}
use Rattle.words.specs.Answers.{gives}
use Rattle.words.specs.Bytes.{AllBytes, number_at, stored}
use Rattle.words.proofs.AnswerLaws.{two_stages, two_value, two_refusal, unless_number, unless_passes}
use Rattle.words.proofs.StoreLaws.{number_beside}
use Rattle.capture.specs.Capture.{Capture}
use Rattle.tpmi_discovery.specs.Table.{bar_of}
use Rattle.tpmi_features.specs.Instances.{instance_number, instance_part}
use Rattle.tpmi_features.proofs.InsideLaws.{in_size}
use Rattle.tpmi_store.specs.Facts.{Within, FieldStoredIn, StoreLeaves, AsBefore}
use Rattle.tpmi_store.proofs.FieldStores.{held_same, held_lt, field_stores}
use Rattle.tpmi_store.proofs.Stores.{stores}
use Rattle.uncore_clusters.proofs.ClusterLaws.{place_cluster}
use Rattle.uncore_permits.specs.ControlFields.{lowest_of, width_of, next_word, word_of}
use Rattle.uncore_permits.specs.Facts.{ARatio, Ordered, WrittenFact}
use Rattle.uncore_permits.proofs.FieldsLaws.{fits, writable_late}
use Rattle.uncore_permits.proofs.WordFact.{written}
use Rattle.uncore_writes.specs.ControlNext.{held_in, next_content, next_number, next_of, next_for}
use Rattle.uncore_writes.specs.ControlWrite.{write_number, offset_for, written_place, bar_left}
use Rattle.uncore_writes.specs.Facts.{ControlCaptures, ControlWriteFact, OrderFact}
use Rattle.uncore_writes.proofs.ControlNextLaws.{by_word, permitted, next_inside}
use Rattle.uncore_writes.proofs.ControlWriteLaws.{left_kept, left_stored}

module _ (c : Capture) (i die n r which value : ℕ) where
  -- the bytes of the instance, and what is asked of them
  abbrev part : List ℕ
  part = instance_part c 2 i

  abbrev next : ℕ
  next = next_content part n r which value

  -- ---- a permitted write is the one store

  module _ (z : write_number c i die n r which value ≡ 0) where
    stages : (instance_number c 2 i ≡ 0) × (next_number part die n r which value ≡ 0)
    unfolding write_number next_for next_of
    stages = two_stages (instance_number c 2 i) (next_number part die n r which value) next z

    pub next_passes : next_number part die n r which value ≡ 0
    next_passes = stages.1

    pub in_instance : Within c 2 i (offset_for c i n r)
    in_instance =
        record { found = stages.0; inside = in_size c 2 i stages.0 (next_inside part die n r which value stages.1) }

    -- a register that can be written stands past the header
    pub past_header : 8 ≤ offset_for c i n r
    past_header =
        let late = writable_late r which (permitted part die n r which value stages.1).1.writable in
        omega (arith, late, place_cluster part n r (omega (arith, late)))

    pub stored_so : StoreLeaves c 2 i (offset_for c i n r) next × AsBefore c 2 i (offset_for c i n r) next
    stored_so = stores c 2 i (offset_for c i n r) next in_instance

    -- what is stored is what the word is told to hold
    word_is : word_of r which (held_in part n r) value ≡ gives (next ∷ [])
    unfolding next_of
    word_is = let p = permitted part die n r which value next_passes in sym (by_word part die n r which value p.0) ∙ unless_passes _ next_passes

    pub holds_next : WrittenFact r which (held_in part n r) value next
    holds_next = written r which (held_in part n r) value next word_is

    left_bar : bar_left c i die n r which value ≡ stored (bar_of c) (written_place c i n r) 8 next
    left_bar = ap bar_of (left_stored c i die n r which value z) ∙ stored_so.0.bar

    module _ (b : AllBytes (bar_of c)) where
      pub next_lt : next < 2 ^ 64
      unfolding held_in
      next_lt = holds_next.stays (held_lt c 2 i (offset_for c i n r) in_instance b)

      -- what the register then holds
      holds : number_at (bar_left c i die n r which value) (written_place c i n r) 8 ≡ next
      holds = ap (λ (d : Capture). number_at (bar_of d) (written_place c i n r) 8) (left_stored c i die n r which value z) ∙ stored_so.0.content next_lt

      pub in_order : ARatio r which → Ordered (number_at (bar_left c i die n r which value) (written_place c i n r) 8)
      in_order a = subst Ordered (sym holds) (holds_next.ordered a)

      -- a pair in order, in the written register or beside it
      still : (q : ℕ) → ((q ≡ written_place c i n r) × (r ≡ 3)) ⊎ ((q + 8 ≤ written_place c i n r) ⊎ (written_place c i n r + 8 ≤ q))
          → Ordered (number_at (bar_of c) q 8) → Ordered (number_at (bar_left c i die n r which value) q 8)
      unfolding held_in
      still q (inl h) o =
          let here : Ordered (number_at (bar_of c) (written_place c i n r) 8) = subst (λ (k : ℕ). Ordered (number_at (bar_of c) k 8)) h.0 o in
          let was = subst Ordered (sym (held_same c 2 i (offset_for c i n r) in_instance)) here in
          subst (λ (k : ℕ). Ordered (number_at (bar_left c i die n r which value) k 8)) (sym h.0) (subst Ordered (sym holds) (holds_next.kept h.1 was))
      still q (inr h) o =
          subst Ordered (sym (ap (λ (l : List ℕ). number_at l q 8) left_bar ∙ number_beside (bar_of c) (written_place c i n r) 8 next q 8 h)) o

  pub control_captures : ControlCaptures c i die n r which value
  unfolding write_number next_for next_of
  control_captures =
      record {
        handed_on = λ h. unless_number (instance_number c 2 i) _ h;
        shown = λ z. unless_passes _ z;
        refused_kept = left_kept c i die n r which value;
        permitted_stored = left_stored c i die n r which value;
        within = λ z. (in_instance z, past_header z);
        same_answer = two_value (instance_number c 2 i) (next_number part die n r which value) next;
        same_number = two_refusal (instance_number c 2 i) (next_number part die n r which value) next;
      }

  pub control_write_fact : ControlWriteFact c i die n r which value
  unfolding next_content next_word held_in
  control_write_fact b z =
      let p = (permitted part die n r which value (next_passes z)).1 in
      subst (λ (d : Capture). FieldStoredIn (bar_of d) c 2 i (offset_for c i n r) (lowest_of r which) (width_of r which) value) (sym (left_stored c i die n r which value z))
      (field_stores c 2 i (offset_for c i n r) (lowest_of r which) (width_of r which) value (in_instance z) b (fits r which) p.narrow)

  pub order_fact : OrderFact c i die n r which value
  order_fact = record { ordered = λ b z. in_order z b; kept = λ b q h o. by (eqb (write_number c i die n r which value) 0) refl b q h o }
    where
      by : (t : Bool) → eqb (write_number c i die n r which value) 0 ≡ t → AllBytes (bar_of c) → (q : ℕ)
          → ((q ≡ written_place c i n r) × (r ≡ 3)) ⊎ ((q + 8 ≤ written_place c i n r) ⊎ (written_place c i n r + 8 ≤ q))
          → Ordered (number_at (bar_of c) q 8) → Ordered (number_at (bar_left c i die n r which value) q 8)
      by true e b q h o = still (eqb-true _ _ e) b q h o
      by false e b q h o = subst (λ (d : Capture). Ordered (number_at (bar_of d) q 8)) (sym (left_kept c i die n r which value (eqb-false _ _ e))) o
