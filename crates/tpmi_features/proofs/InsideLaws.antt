-- A feature that is found: its entry, its bank, and each of its instances, valid or not, all inside the BAR capture; and an instance that
-- is found. Assumes nothing.
use Prim.Native.Nat.{ℕ, zero, suc, ◌+◌, ◌*◌, ◌^◌, ◌≤◌, ◌<◌}
use mathlib.Core.Path.{◌≡◌, refl, ap, ap₂, ◌∙◌}
use mathlib.Core.Bool.{true, not}
use mathlib.Core.List.{List}
use mathlib.Core.Logic.{◌≢◌}
use native.Mathlib.Nat.{mul-le-mul, mul_assoc, add-mul, one-mul}
use native.Mathlib.Omega.{arith}
use borrow.Author.Tests.{leb-false, eqb-true, not-true}
use lib.Dec.{eqb}
use lib.ListN.{length, drop, length-take}
use Rattle.words.proofs.TestLaws.{and_both}
use Rattle.words.proofs.AnswerLaws.{first_zero, earliest_zero}
use Rattle.words.proofs.BelowLaws.{is_least}
use Rattle.tpmi_banks.specs.Faults.{bank_in, empty_bank}
use Rattle.tpmi_banks.specs.Facts.{Filled, Clean}
use Rattle.tpmi_banks.proofs.FaultFact.{filled_exactly, table_faults}
use Rattle.capture.specs.Capture.{Capture}
use Rattle.tpmi_discovery.specs.Table.{bar_of, table_of, entries_of}
use Rattle.tpmi_discovery.specs.Discovery.{discovery_number}
use Rattle.tpmi_features.specs.Instances.{bears, index_in, unlisted, bank_for, size_for, feature_number, start_for, unusable, instance_number, instance_part}
use Rattle.capture.specs.Places.{piece, part_of}
use Rattle.capture.specs.declared.places.Place.{Place}
use Rattle.tpmi_features.proofs.InstanceLaws.{bank_for_bounded, InstancePlace, part_found}
use Rattle.tpmi_discovery.proofs.TableLaws.{bar_named}
use Rattle.tpmi_discovery.proofs.DiscoveryLaws.{no_fault}
use Rattle.capture.proofs.PartLaws.{piece_there}

-- ---- a feature

module _ (c : Capture) (id : ℕ) (z : feature_number c id ≡ 0) where
  pub discovered : discovery_number c ≡ 0
  unfolding feature_number
  discovered = (earliest_zero _ _ z).0

  pub index_there : index_in (bar_of c) (table_of c) (entries_of c) id < entries_of c
  unfolding feature_number unlisted
  index_there = let m = (earliest_zero _ _ (earliest_zero _ _ z).1).0 in leb-false _ _ (first_zero _ tt m).0

  -- the entry found is the feature
  held_there : bears (bar_of c) (table_of c) id (index_in (bar_of c) (table_of c) (entries_of c) id) ≡ true
  unfolding index_in
  held_there = (is_least (bears (bar_of c) (table_of c) id) (entries_of c) 0).passes (omega (arith, index_there))

  -- the entry's own bank is the feature's
  pub entry_filled : Filled (bank_in (bar_of c) (table_of c) (index_in (bar_of c) (table_of c) (entries_of c) id))
  entry_filled = (filled_exactly _).0 (not-true _ (and_both _ _ held_there).0)

  pub bank_filled : Filled (bank_for c id)
  unfolding bank_for
  bank_filled = entry_filled

  pub bank_id : (bank_for c id).id ≡ id
  unfolding bank_for
  bank_id = let b = bank_in (bar_of c) (table_of c) (index_in (bar_of c) (table_of c) (entries_of c) id) in eqb-true _ _ (and_both (not (empty_bank b)) (eqb b.id id) held_there).1

  bank_clean : Clean (bar_of c) (table_of c) (entries_of c) (index_in (bar_of c) (table_of c) (entries_of c) id)
  bank_clean = (table_faults (bar_of c) (table_of c) (entries_of c)).none.0 (no_fault c discovered) _ index_there entry_filled

  pub bank_inside : (bank_for c id).end ≤ length (bar_of c)
  unfolding bank_for
  bank_inside = bank_clean.inside

  -- EntrySize is neither 0 nor 1
  pub size_eight : 8 ≤ size_for c id
  unfolding bank_for
  size_eight = by (bank_for c id).words bank_filled.1 bank_clean.size
    where
      by : (w : ℕ) → w ≢ 0 → w ≢ 1 → 8 ≤ w * 4
      by zero h k = absurd (h refl)
      by (suc zero) h k = absurd (k refl)
      by (suc (suc w)) h k = omega arith

-- ---- an instance that is there, valid or not

abbrev pub There : Capture → ℕ → ℕ → Type 0
There c id n = (feature_number c id ≡ 0) × (n < (bank_for c id).instances)

module _ (c : Capture) (id n : ℕ) (t : There c id n) where
  -- it ends inside its bank
  pub there_in_bank : start_for c id n + size_for c id ≤ (bank_for c id).end
  there_in_bank =
      let w : ℕ = (bank_for c id).words * 4 in
      let all : (n + 1) * w ≤ (bank_for c id).instances * w = mul-le-mul {n₁ = n + 1} {m₁ = w} {n₂ = (bank_for c id).instances} {m₂ = w} (omega (arith, t.1)) (omega arith) in
      let next : (n + 1) * w ≡ n * w + w = add-mul n 1 w ∙ ap (λ (k : ℕ). n * w + k) (one-mul w) in
      let flat : (bank_for c id).instances * (bank_for c id).words * 4 ≡ (bank_for c id).instances * w = mul_assoc _ _ _ in
      omega (arith, all, next, flat, (bank_for_bounded c id).end)

  pub there_inside : start_for c id n + size_for c id ≤ length (bar_of c)
  there_inside = omega (arith, there_in_bank, bank_inside c id t.0)

  -- it starts far below 2 to the 64
  pub there_small : start_for c id n < 2 ^ 35
  there_small =
      let b = bank_for_bounded c id in
      let few : n * size_for c id ≤ 255 * 262140 = mul-le-mul {n₁ = n} {m₁ = size_for c id} {n₂ = 255} {m₂ = 262140} (omega (arith, t.1, b.instances)) (omega (arith, b.words)) in
      omega (arith, few, b.start)

-- ---- an instance that is found

module _ (c : Capture) (id n : ℕ) (z : instance_number c id n ≡ 0) where
  pub feature_found : feature_number c id ≡ 0
  unfolding instance_number
  feature_found = (earliest_zero _ _ z).0

  stage_sound : unusable (bar_of c) (bank_for c id).start (size_for c id) (bank_for c id).instances n ≡ 0
  unfolding instance_number
  stage_sound = (earliest_zero _ _ (earliest_zero _ _ z).1).0

  pub instance_there : There c id n
  unfolding unusable
  instance_there = (feature_found, leb-false _ _ (first_zero _ tt stage_sound).0)

  pub instance_in_bank : start_for c id n + size_for c id ≤ (bank_for c id).end
  instance_in_bank = there_in_bank c id n instance_there

  pub instance_inside : start_for c id n + size_for c id ≤ length (bar_of c)
  instance_inside = there_inside c id n instance_there

  pub start_small : start_for c id n < 2 ^ 35
  start_small = there_small c id n instance_there

-- the bytes at the place that is found are the instance's
pub part_at : (c : Capture) (id n : ℕ) {p : Place} → InstancePlace c id n p → part_of p c.lo c.low c.hi c.high ≡ instance_part c id n
part_at c id n {p} q =
    ap₂ (λ (s : List ℕ) (a : ℕ). piece s a p.size) (bar_named c q.bir) q.start
    ∙ ap (piece (bar_of c) (start_for c id n)) q.size
    ∙ piece_there (bar_of c) (start_for c id n) (size_for c id) (instance_inside c id n q.zero)
    ∙ part_found c id n q.zero

-- bytes inside an instance's part lie inside its size
pub in_size : (c : Capture) (id n : ℕ) {at : ℕ} → instance_number c id n ≡ 0 → at ≤ length (instance_part c id n) → at ≤ size_for c id
in_size c id n z h = omega (arith, h, ap length (part_found c id n z), length-take (size_for c id) (drop (start_for c id n) (bar_of c)))
