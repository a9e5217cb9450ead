-- A capture whose BAR captures have changed, but not in the table's bytes nor in length: discovery and every lookup answer as before, as far
-- as the bytes that each looks at are the same. Assumes nothing.
use Prim.Native.Nat.{ℕ, ◌+◌, ◌-◌, ◌*◌, ◌^◌, ◌≤◌, ◌<◌}
use mathlib.Core.Path.{◌≡◌, refl, sym, ap, ap₂, ◌∙◌}
use mathlib.Core.Bool.{Bool, true, false, not, ◌&&◌}
use mathlib.Core.List.{List, [], ◌∷◌}
use mathlib.Core.Logic.{◌⊎◌, inl, inr}
use native.Mathlib.Omega.{arith}
use borrow.Author.Tests.{leb-true, leb-false}
use lib.Dec.{ltb, leb, eqb}
use lib.ListN.{length, take, drop}
use Rattle.words.specs.Answers.{number_in, first, earliest}
use Rattle.words.specs.Bytes.{number_at}
use Rattle.words.proofs.BelowLaws.{least_same}
use Rattle.tpmi_walk.specs.Walk.{walk_of}
use Rattle.tpmi_banks.specs.Faults.{bank_in, empty_bank}
use Rattle.tpmi_banks.specs.Facts.{Shared}
use Rattle.tpmi_banks.specs.declared.faults.Bank.{Bank}
use Rattle.tpmi_banks.proofs.FaultFact.{table_faults}
use Rattle.tpmi_banks.proofs.SameTable.{bank_same, faults_same}
use Rattle.capture.specs.Capture.{Capture, captured}
use Rattle.tpmi_discovery.specs.Table.{structure_of, bir_of, bar_of, table_of, entries_of, before_walk, bir_number, table_number, location_number}
use Rattle.tpmi_discovery.specs.Discovery.{discovery_number}
use Rattle.tpmi_features.specs.Instances.{bears, index_in, unlisted, bank_for, size_for, feature_number, start_for, invalid_at, unusable, instance_number, instance_part}
use Rattle.tpmi_features.proofs.InstanceLaws.{part_found}
use Rattle.tpmi_discovery.proofs.DiscoveryLaws.{no_fault}
use Rattle.tpmi_features.proofs.InsideLaws.{discovered, index_there, entry_filled}

-- the capture with other BAR captures
abbrev pub changed : Capture → List ℕ → List ℕ → Capture
changed c low high = captured c.config c.lo low c.hi high

module _ (c : Capture) (low high : List ℕ) (long : length (bar_of (changed c low high)) ≡ length (bar_of c))
    (bytes : (k : ℕ) → k < entries_of c → number_at (bar_of (changed c low high)) (table_of c + k * 8) 8 ≡ number_at (bar_of c) (table_of c + k * 8) 8) where
  abbrev d : Capture
  d = changed c low high

  pub located_same : location_number d ≡ location_number c
  unfolding location_number structure_of table_number
  located_same =
      ap (λ (l : ℕ). earliest (before_walk c.config c.lo c.hi ∷ number_in (walk_of c.config) ∷ bir_number (bir_of c) c.lo c.hi ∷ first ((not (eqb (entries_of c) 0) && ltb l (table_of c + entries_of c * 8), 7) ∷ []) ∷ []))
      long

  pub number_same : discovery_number d ≡ discovery_number c
  unfolding discovery_number structure_of
  number_same = ap₂ (λ (l f : ℕ). earliest (l ∷ f ∷ [])) located_same (faults_same (bar_of d) (bar_of c) (table_of c) (entries_of c) bytes long)

  bank_is : (k : ℕ) → k < entries_of c → bank_in (bar_of d) (table_of c) k ≡ bank_in (bar_of c) (table_of c) k
  bank_is = bank_same (bar_of d) (bar_of c) (table_of c) (entries_of c) bytes

  module _ (id : ℕ) where
    index_same : index_in (bar_of d) (table_of c) (entries_of c) id ≡ index_in (bar_of c) (table_of c) (entries_of c) id
    unfolding index_in
    index_same =
        least_same (bears (bar_of d) (table_of c) id) (bears (bar_of c) (table_of c) id) (entries_of c)
        (λ k l. ap (λ (b : Bank). not (empty_bank b) && eqb b.id id) (bank_is k l))

    pub feature_same : feature_number d id ≡ feature_number c id
    unfolding feature_number unlisted structure_of
    feature_same = ap₂ (λ (n i : ℕ). earliest (n ∷ first ((leb (entries_of c) i, 12) ∷ []) ∷ [])) number_same index_same

    pub bank_for_same : feature_number c id ≡ 0 → bank_for d id ≡ bank_for c id
    unfolding bank_for structure_of
    bank_for_same z = ap (bank_in (bar_of d) (table_of c)) index_same ∙ bank_is _ (index_there c id z)

    -- an instance whose first eight bytes are the same
    pub instance_same : (n : ℕ) → feature_number c id ≡ 0 → number_at (bar_of d) (start_for c id n) 8 ≡ number_at (bar_of c) (start_for c id n) 8 → instance_number d id n ≡ instance_number c id n
    unfolding instance_number unusable invalid_at
    instance_same n z e =
        ap₂ (λ (m : ℕ) (b : Bank). earliest (m ∷ first ((leb b.instances n, 12) ∷ (invalid_at (bar_of d) (b.start + n * (b.words * 4)), 13) ∷ []) ∷ [])) feature_same (bank_for_same z)
        ∙ ap (λ (x : ℕ). earliest (feature_number c id ∷ first ((leb (bank_for c id).instances n, 12) ∷ (eqb x (2 ^ 64 - 1), 13) ∷ []) ∷ [])) e

    -- its bytes, where it is found: those at the same place
    pub part_same : (n : ℕ) → feature_number c id ≡ 0 → instance_number d id n ≡ 0 → instance_part d id n ≡ take (size_for c id) (drop (start_for c id n) (bar_of d))
    part_same n z e =
        sym (part_found d id n e) ∙ ap (λ (b : Bank). take (b.words * 4) (drop (b.start + n * (b.words * 4)) (bar_of d))) (bank_for_same z)

-- ---- bytes of a bank and the entries of the table

module _ (c : Capture) (id : ℕ) (z : feature_number c id ≡ 0) where
  unshared : Shared (table_of c) (table_of c + entries_of c * 8) (bank_for c id).start (bank_for c id).end → ⊥
  unfolding bank_for
  unshared s =
      ((table_faults (bar_of c) (table_of c) (entries_of c)).none.0 (no_fault c (discovered c id z)) _ (index_there c id z) (entry_filled c id z)).apart (inl s)

  -- eight bytes of the bank lie wholly after an entry, or before it
  pub entry_apart : (at : ℕ) → (bank_for c id).start ≤ at → at + 8 ≤ (bank_for c id).end → (k : ℕ) → k < entries_of c
      → (table_of c + k * 8 + 8 ≤ at) ⊎ (at + 8 ≤ table_of c + k * 8)
  entry_apart at from' to k l = by (leb (table_of c + k * 8 + 8) at) (leb (at + 8) (table_of c + k * 8)) (leb at (table_of c + k * 8)) refl refl refl
    where
      by : (p q r : Bool) → leb (table_of c + k * 8 + 8) at ≡ p → leb (at + 8) (table_of c + k * 8) ≡ q → leb at (table_of c + k * 8) ≡ r
          → (table_of c + k * 8 + 8 ≤ at) ⊎ (at + 8 ≤ table_of c + k * 8)
      by true q r e f g = inl (leb-true _ _ e)
      by false true r e f g = inr (leb-true _ _ f)
      by false false true e f g =
          absurd (unshared (record { byte = table_of c + k * 8; after_a = omega arith; before_b = omega arith; after_c = omega (arith, leb-true at (table_of c + k * 8) g); before_d = omega (arith, leb-false (at + 8) (table_of c + k * 8) f) }))
      by false false false e f g =
          absurd (unshared (record { byte = at; after_a = omega (arith, leb-false at (table_of c + k * 8) g); before_b = omega (arith, leb-false (table_of c + k * 8 + 8) at e); after_c = from'; before_d = omega arith }))
