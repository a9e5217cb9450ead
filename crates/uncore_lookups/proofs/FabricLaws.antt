-- Clusters over a capture: a register's place in the instance's bytes as a place in the BAR capture. Assumes nothing.
use Prim.Native.Nat.{ℕ, ◌+◌, ◌^◌, ◌≤◌, ◌<◌}
use mathlib.Core.Path.{◌≡◌, sym, ap, ap₂, ◌∙◌}
use mathlib.Core.List.{List, [], ◌∷◌}
use native.Mathlib.Omega.{arith}
use lib.ListN.{length}
use Rattle.words.specs.Answers.{refused, gives}
use Rattle.words.proofs.AnswerLaws.{unless_stops, unless_passes}
use Rattle.capture.specs.Capture.{Capture}
use Rattle.capture.specs.Places.{part_of}
use Rattle.capture.specs.declared.places.Place.{Place}
use Rattle.tpmi_discovery.specs.Table.{bir_of}
use Rattle.tpmi_features.specs.Instances.{start_for, instance_part}
use Rattle.tpmi_features.proofs.InstanceLaws.{InstancePlace, bank_for_bounded}
use Rattle.tpmi_features.proofs.InsideLaws.{part_at, start_small, in_size}
use Rattle.uncore_clusters.specs.Clusters.{place_number, place_in}
use Rattle.uncore_clusters.proofs.ClusterLaws.{placed, place_inside}
use Rattle.uncore_lookups.specs.Fabric.{place_from}

module _ (c : Capture) (i die n r : ℕ) (s : List ℕ) where
  pub from_stops : {m : ℕ} → place_in s die n r ≡ refused m → place_from c i die n r s ≡ refused m
  unfolding place_in place_from
  from_stops e = unless_stops (place_number s die n r) _ _ e

  pub from_there : {at : ℕ} → place_in s die n r ≡ gives (at ∷ []) → place_from c i die n r s ≡ gives (bir_of c ∷ (start_for c 2 i + at) ∷ 8 ∷ 1 ∷ [])
  unfolding place_from
  from_there e =
      let p = placed s die n r e in
      unless_passes _ p.0 ∙ ap (λ (x : ℕ). gives (bir_of c ∷ (start_for c 2 i + x) ∷ 8 ∷ 1 ∷ [])) p.1

  -- where the instance stands at p and s are its bytes
  module _ {p : Place} (q : InstancePlace c 2 i p) (same : s ≡ part_of p c.lo c.low c.hi c.high) {at : ℕ} (e : place_in s die n r ≡ gives (at ∷ [])) where
    pub from_instance : gives (p.bir ∷ (p.start + at) ∷ 8 ∷ 1 ∷ []) ≡ place_from c i die n r s
    from_instance = ap₂ (λ (b a : ℕ). gives (b ∷ (a + at) ∷ 8 ∷ 1 ∷ [])) q.bir q.start ∙ sym (from_there e)

    -- the sum leaves room
    pub start_room : p.start + at < 2 ^ 64
    start_room =
        let t = placed s die n r e in
        let inside : at + 8 ≤ length (instance_part c 2 i) = omega (arith, t.1, place_inside s die n r t.0, ap length (same ∙ part_at c 2 i q)) in
        omega (arith, q.start, start_small c 2 i q.zero, (bank_for_bounded c 2).words, in_size c 2 i q.zero inside)
