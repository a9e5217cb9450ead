-- Two instances that are not the same share no byte, valid or not. Assumes nothing.
use Prim.Native.Nat.{ℕ, ◌+◌, ◌*◌, ◌≤◌, ◌<◌}
use mathlib.Core.Path.{◌≡◌, refl, sym, ap, ◌∙◌, subst}
use mathlib.Core.Bool.{Bool, true, false}
use mathlib.Core.Logic.{inr, ⊎_elim, ◌≢◌}
use native.Mathlib.Nat.{mul-le-mul, add-mul, one-mul, eq-or-lt_of_le}
use native.Mathlib.Omega.{arith}
use borrow.Author.Tests.{leb-true, leb-false, eqb-true, eqb-false}
use lib.Dec.{leb, eqb}
use Rattle.capture.specs.Capture.{Capture}
use Rattle.tpmi_banks.specs.Faults.{bank_in}
use Rattle.tpmi_banks.specs.Facts.{Shared}
use Rattle.tpmi_banks.proofs.FaultFact.{table_faults}
use Rattle.tpmi_discovery.specs.Table.{bar_of, table_of, entries_of}
use Rattle.tpmi_discovery.proofs.DiscoveryLaws.{no_fault}
use Rattle.tpmi_features.specs.Instances.{index_in, bank_for, size_for, feature_number, start_for}
use Rattle.tpmi_features.specs.Facts.{ApartFact}
use Rattle.tpmi_features.proofs.InsideLaws.{discovered, index_there, entry_filled, bank_id, There, there_in_bank, instance_there}

-- instances of one bank: the later starts where the earlier has ended, or after
after : (start size n m : ℕ) → n < m → start + n * size + size ≤ start + m * size
after start size n m l =
    let all : (n + 1) * size ≤ m * size = mul-le-mul {n₁ = n + 1} {m₁ = size} {n₂ = m} {m₂ = size} (omega arith) (omega arith) in
    let next : (n + 1) * size ≡ n * size + size = add-mul n 1 size ∙ ap (λ (k : ℕ). n * size + k) (one-mul size) in
    omega (arith, all, next)

same_feature : (c : Capture) (id n m : ℕ) → n ≢ m → Shared (start_for c id n) (start_for c id n + size_for c id) (start_for c id m) (start_for c id m + size_for c id) → ⊥
same_feature c id n m h s = by (leb n m) refl
  where
    by : (t : Bool) → leb n m ≡ t → ⊥
    by true e = ⊎_elim (λ q. h q) (λ l. omega (arith, after (bank_for c id).start (size_for c id) n m l, s.before_b, s.after_c)) (eq-or-lt_of_le (leb-true n m e))
    by false e = omega (arith, after (bank_for c id).start (size_for c id) m n (leb-false n m e), s.before_d, s.after_a)

other_feature : (c : Capture) (id id' n n' : ℕ) → There c id n → There c id' n'
    → index_in (bar_of c) (table_of c) (entries_of c) id < index_in (bar_of c) (table_of c) (entries_of c) id'
    → Shared (start_for c id n) (start_for c id n + size_for c id) (start_for c id' n') (start_for c id' n' + size_for c id') → ⊥
unfolding bank_for
other_feature c id id' n n' t t' l s =
    ((table_faults (bar_of c) (table_of c) (entries_of c)).none.0 (no_fault c (discovered c id t.0)) _ (index_there c id' t'.0) (entry_filled c id' t'.0)).apart
    (inr (
      _,
      l,
      entry_filled c id t.0,
      record {
        byte = s.byte;
        after_a = omega (arith, s.after_a);
        before_b = omega (arith, s.before_b, there_in_bank c id n t);
        after_c = omega (arith, s.after_c);
        before_d = omega (arith, s.before_d, there_in_bank c id' n' t');
      },
    ))

turned : {a b p q : ℕ} → Shared a b p q → Shared p q a b
turned s = record { byte = s.byte; after_a = s.after_c; before_b = s.before_d; after_c = s.after_a; before_d = s.before_b }

-- two features stand in two entries
other_index : (c : Capture) (id id' : ℕ) → feature_number c id ≡ 0 → feature_number c id' ≡ 0 → id ≢ id'
    → index_in (bar_of c) (table_of c) (entries_of c) id ≢ index_in (bar_of c) (table_of c) (entries_of c) id'
unfolding bank_for
other_index c id id' z z' h e = h (sym (bank_id c id z) ∙ ap (λ (k : ℕ). (bank_in (bar_of c) (table_of c) k).id) e ∙ bank_id c id' z')

pub places_apart : (c : Capture) (id n id' n' : ℕ) → There c id n → There c id' n' → ((id ≡ id') × (n ≡ n') → ⊥)
    → Shared (start_for c id n) (start_for c id n + size_for c id) (start_for c id' n') (start_for c id' n' + size_for c id') → ⊥
places_apart c id n id' n' t t' h s = by (eqb id id') refl (leb (index_in (bar_of c) (table_of c) (entries_of c) id) (index_in (bar_of c) (table_of c) (entries_of c) id')) refl
  where
    by : (u : Bool) → eqb id id' ≡ u → (v : Bool) → leb (index_in (bar_of c) (table_of c) (entries_of c) id) (index_in (bar_of c) (table_of c) (entries_of c) id') ≡ v → ⊥
    by true p v q =
        let e : id' ≡ id = sym (eqb-true id id' p) in
        same_feature c id n n' (λ k. h (sym e, k)) (subst (λ (x : ℕ). Shared (start_for c id n) (start_for c id n + size_for c id) (start_for c x n') (start_for c x n' + size_for c x)) e s)
    by false p true q = ⊎_elim (λ k. other_index c id id' t.0 t'.0 (eqb-false _ _ p) k) (λ l. other_feature c id id' n n' t t' l s) (eq-or-lt_of_le (leb-true _ _ q))
    by false p false q = other_feature c id' id n' n t' t (leb-false _ _ q) (turned s)

pub apart_fact : (c : Capture) (id n id' n' : ℕ) → ApartFact c id n id' n'
apart_fact c id n id' n' z z' = places_apart c id n id' n' (instance_there c id n z) (instance_there c id' n' z')
