-- What the write leaves, way by way. Assumes nothing.
use Prim.Native.Nat.{ℕ}
use mathlib.Core.Path.{◌≡◌, sym, ap, ◌∙◌}
use mathlib.Core.List.{List, [], ◌∷◌}
use mathlib.Core.Logic.{◌≢◌}
use borrow.Author.Tests.{eq-eqb, ne_eqb}
use Rattle.words.specs.Answers.{refused, gives, number_in}
use Rattle.words.specs.Told.{passes}
use Rattle.words.proofs.AnswerLaws.{unless_number, unless_passes}
use Rattle.capture.specs.Capture.{Capture}
use Rattle.capture.specs.Told.{numbers}
use Rattle.capture.specs.declared.places.Place.{Place}
use Rattle.tpmi_features.specs.Instances.{instance_of, instance_part}
use Rattle.tpmi_features.proofs.InstanceLaws.{instance_at}
use Rattle.tpmi_features.proofs.InsideLaws.{in_size}
use Rattle.tpmi_store.specs.Store.{low_with, high_with, after_store}
use Rattle.tpmi_store.proofs.StoreLaws.{placed_store}
use Rattle.uncore_clusters.specs.Clusters.{place_in}
use Rattle.uncore_clusters.proofs.ClusterLaws.{placed}
use Rattle.uncore_writes.specs.ControlNext.{next_content, next_of, next_for}
use Rattle.uncore_writes.specs.ControlWrite.{write_number, offset_for, left}
use Rattle.uncore_writes.proofs.ControlNextLaws.{given_by, stopped_by, next_inside}

module _ (c : Capture) (i die n r which value : ℕ) where
  pub left_kept : write_number c i die n r which value ≢ 0 → left c i die n r which value ≡ c
  unfolding left
  left_kept h = rw (ne_eqb (write_number c i die n r which value) 0 h)

  pub left_stored : write_number c i die n r which value ≡ 0
      → left c i die n r which value ≡ after_store c 2 i (offset_for c i n r) (next_content (instance_part c 2 i) n r which value)
  unfolding left
  left_stored z = rw (eq-eqb (write_number c i die n r which value) 0 z)

  -- ---- a refused write

  pub refused_write : {m : ℕ} → next_for c i die n r which value ≡ refused m → m ≢ 0
      → (refused m ≡ passes (write_number c i die n r which value)) × ((c.low ≡ (left c i die n r which value).low) × (c.high ≡ (left c i die n r which value).high))
  unfolding write_number
  refused_write e h =
      let q = ap number_in e in
      let k = sym (left_kept (λ z. h (sym q ∙ z))) in
      (sym (unless_number _ (gives []) h) ∙ ap passes (sym q), (ap (λ (d : Capture). d.low) k, ap (λ (d : Capture). d.high) k))

  -- ---- an instance that is found, at p

  module _ {p : Place} (found : instance_of c 2 i ≡ gives (numbers p)) where
    asked : next_for c i die n r which value ≡ next_of (instance_part c 2 i) die n r which value
    unfolding next_for
    asked = unless_passes (next_of (instance_part c 2 i) die n r which value) (instance_at c 2 i found).zero

    pub refused_inside : {m : ℕ} → next_of (instance_part c 2 i) die n r which value ≡ refused m
        → (refused m ≡ passes (write_number c i die n r which value)) × ((c.low ≡ (left c i die n r which value).low) × (c.high ≡ (left c i die n r which value).high))
    refused_inside e = refused_write (asked ∙ e) (stopped_by (instance_part c 2 i) die n r which value e).1

    -- a permitted write: the register stands at `at` of the instance, and x is its next content
    pub permitted_write : {at x : ℕ} → place_in (instance_part c 2 i) die n r ≡ gives (at ∷ []) → next_of (instance_part c 2 i) die n r which value ≡ gives (x ∷ [])
        → {ls hs : List ℕ} → ls ≡ low_with p at x c.lo c.low → hs ≡ high_with p at x c.lo c.hi c.high
        → (gives [] ≡ passes (write_number c i die n r which value)) × ((ls ≡ (left c i die n r which value).low) × (hs ≡ (left c i die n r which value).high))
    unfolding write_number
    permitted_write {at} {x} stands e l h =
        let accepted : write_number c i die n r which value ≡ 0 = ap number_in (asked ∙ e) in
        let g = given_by (instance_part c 2 i) die n r which value e in
        let o = sym (placed (instance_part c 2 i) die n r stands).1 in
        let s = placed_store c 2 i (offset_for c i n r) x p found (in_size c 2 i (instance_at c 2 i found).zero (next_inside (instance_part c 2 i) die n r which value g.0)) in
        let k = ap (after_store c 2 i (offset_for c i n r)) (sym g.1) ∙ sym (left_stored accepted) in (
          ap passes (sym accepted),
          (
            l ∙ ap (λ (a : ℕ). low_with p a x c.lo c.low) o ∙ s.0 ∙ ap (λ (d : Capture). d.low) k,
            h ∙ ap (λ (a : ℕ). high_with p a x c.lo c.hi c.high) o ∙ s.1 ∙ ap (λ (d : Capture). d.high) k,
          ),
        )
