-- Features and instances, stage by stage: where each stage refuses, and the values where all pass. Assumes nothing.
use Prim.Native.Nat.{ℕ, ◌+◌, ◌*◌, ◌-◌, ◌^◌, ◌≤◌, ◌<◌}
use mathlib.Core.Path.{◌≡◌, sym, ap, ap₂, subst, ◌∙◌}
use mathlib.Core.Bool.{true}
use mathlib.Core.List.{List, [], ◌∷◌}
use mathlib.Core.Logic.{◌≢◌}
use native.Mathlib.Nat.{sub-zero, sub_self}
use native.Mathlib.Omega.{arith}
use borrow.Author.Tests.{lt-leb, le-leb, eq-eqb, ne_eqb}
use lib.ListN.{take, drop}
use Rattle.words.specs.Answers.{refused, gives, unless}
use Rattle.words.specs.Below.{least}
use Rattle.words.specs.Bytes.{number_at}
use Rattle.words.proofs.AnswerLaws.{first_skip, first_take, first_end, stage_passes, stage_last, unless_refused}
use Rattle.words.proofs.BelowLaws.{least_here, least_none}
use Rattle.tpmi_banks.specs.Faults.{bank_in}
use Rattle.tpmi_banks.specs.declared.faults.Bank.{Bank}
use Rattle.tpmi_banks.proofs.FaultLaws.{Bounded, bank_bounded}
use Rattle.capture.specs.Capture.{Capture}
use Rattle.tpmi_discovery.specs.Table.{bir_of, bar_of, table_of, entries_of}
use Rattle.tpmi_discovery.specs.Discovery.{discovery_number}
use Rattle.capture.specs.Places.{named}
use Rattle.tpmi_features.specs.Instances.{bears, index_in, unlisted, feature_in, bank_for, size_for, feature_number, feature_of, start_for, invalid_at, unusable, instance_in, Roomy, instance_number, instance_of, instance_part}
use Rattle.capture.specs.Told.{numbers}
use Rattle.capture.specs.declared.places.Place.{Place}
use Rattle.capture.proofs.PartLaws.{Placed, placed_is}
use Rattle.tpmi_discovery.specs.declared.table.Table.{Table}
use Rattle.tpmi_discovery.proofs.TableLaws.{Tabled, bar_named, table_bound}

-- ---- a feature in its table

module _ (s : List ℕ) (b t n id : ℕ) where
  bank_values : Bank → List ℕ
  bank_values k = b ∷ k.start ∷ k.words * 4 ∷ k.instances ∷ []

  -- the search before its first turn; one that meets the feature; and one that is over
  pub search_begins : least (bears s t id) (n - 0) 0 ≡ index_in s t n id
  unfolding index_in
  search_begins = rw sub-zero

  pub feature_there : {k : ℕ} {bank : Bank} → k < n → least (bears s t id) (n - k) k ≡ index_in s t n id → bank ≡ bank_in s t k → bears s t id k ≡ true
      → gives (b ∷ bank.start ∷ bank.words * 4 ∷ bank.instances ∷ []) ≡ feature_in s b t n id
  unfolding feature_in unlisted bank_values
  feature_there {k} {bank} l e is held =
      let here : k ≡ index_in s t n id = sym (least_here (bears s t id) (n - k) k (omega arith) held) ∙ e in
      sym (ap (λ (x : ℕ). unless x (gives (bank_values (bank_in s t (index_in s t n id))))) (first_skip _ _ (lt-leb _ _ (subst (λ (x : ℕ). x < n) here l)) ∙ first_end)
      ∙ ap (λ (x : Bank). gives (bank_values x)) (ap (bank_in s t) (sym here) ∙ sym is))

  pub feature_missing : {k : ℕ} → k ≡ n → least (bears s t id) (n - k) k ≡ index_in s t n id → refused 12 ≡ feature_in s b t n id
  unfolding feature_in unlisted bank_values
  feature_missing {k} all e =
      let none : n ≡ index_in s t n id = sym (least_none (bears s t id) n) ∙ (rw (all, sub_self) at e) in
      sym (ap (λ (x : ℕ). unless x (gives (bank_values (bank_in s t (index_in s t n id))))) (first_take _ _ (le-leb _ _ (omega (arith, none)))))

-- ---- an instance of its bank

module _ (s : List ℕ) (p : Place) (n : ℕ) where
  instance_values : List ℕ
  instance_values = p.bir ∷ (p.start + n * p.size) ∷ p.size ∷ 1 ∷ []

  pub instance_none : p.count ≤ n → instance_in s p n ≡ refused 12
  unfolding instance_in unusable instance_values
  instance_none h = ap (λ (k : ℕ). unless k (gives instance_values)) (first_take _ _ (le-leb _ _ h))

  module _ (there : n < p.count) where
    pub instance_ones : number_at s (p.start + n * p.size) 8 ≡ 2 ^ 64 - 1 → instance_in s p n ≡ refused 13
    unfolding instance_in unusable invalid_at instance_values
    instance_ones e = ap (λ (k : ℕ). unless k (gives instance_values)) (first_skip _ _ (lt-leb _ _ there) ∙ first_take _ _ (eq-eqb _ _ e))

    pub instance_valid : number_at s (p.start + n * p.size) 8 ≢ 2 ^ 64 - 1 → instance_in s p n ≡ gives (p.bir ∷ (p.start + n * p.size) ∷ p.size ∷ 1 ∷ [])
    unfolding instance_in unusable invalid_at instance_values
    instance_valid h = ap (λ (k : ℕ). unless k (gives instance_values)) (first_skip _ _ (lt-leb _ _ there) ∙ first_skip _ _ (ne_eqb _ _ h) ∙ first_end)

-- ---- over a capture: each lookup is the one before it, and one stage more

-- the place of a feature's bank and of an instance
abbrev pub BankPlace : Capture → ℕ → Place → Type 0
BankPlace c id p = Placed (feature_number c id) (bir_of c) (bank_for c id).start (size_for c id) (bank_for c id).instances p

abbrev pub InstancePlace : Capture → ℕ → ℕ → Place → Type 0
InstancePlace c id n p = Placed (instance_number c id n) (bir_of c) (start_for c id n) (size_for c id) 1 p

module _ (c : Capture) where
  pub feature_last : (id : ℕ) → discovery_number c ≡ 0 → feature_of c id ≡ feature_in (bar_of c) (bir_of c) (table_of c) (entries_of c) id
  unfolding feature_of feature_number feature_in bank_for
  feature_last id z = stage_passes _ _ z (stage_last _ _)

  pub bank_for_bounded : (id : ℕ) → Bounded (bank_for c id)
  unfolding bank_for
  bank_for_bounded id = bank_bounded (bar_of c) (table_of c) _ (table_bound c)

  pub instance_last : (id n : ℕ) → feature_number c id ≡ 0
      → instance_of c id n ≡ instance_in (bar_of c) (record { bir = bir_of c; start = (bank_for c id).start; size = size_for c id; count = (bank_for c id).instances }) n
  unfolding instance_of instance_number instance_in
  instance_last id n z = stage_passes _ _ z (stage_last _ _)

  -- ---- from the place of one lookup to the next

  pub bank_place : (id : ℕ) {p : Place} → feature_of c id ≡ gives (numbers p) → BankPlace c id p
  unfolding feature_of
  bank_place id e = placed_is (feature_number c id) e

  pub instance_at : (id n : ℕ) {p : Place} → instance_of c id n ≡ gives (numbers p) → InstancePlace c id n p
  unfolding instance_of
  instance_at id n e = placed_is (instance_number c id n) e

  -- a bank's numbers leave room
  pub bank_roomy : (id : ℕ) {p : Place} → BankPlace c id p → Roomy p
  bank_roomy id q =
      let b = bank_for_bounded id in
      record { start = omega (arith, q.start, b.start); size = omega (arith, q.size, b.words); count = omega (arith, q.count, b.instances) }

  pub feature_from : (id : ℕ) {s : List ℕ} {t : Table} → Tabled c (discovery_number c) t → s ≡ named t.bir c.lo c.low c.hi c.high
      → feature_in s t.bir t.start t.entries id ≡ feature_of c id
  feature_from id {s} {t} q e =
      let bar : s ≡ bar_of c = e ∙ bar_named c q.bir in
      let bir = q.bir in
      let start = q.start in
      let entries = q.entries in
      let same : feature_in s t.bir t.start t.entries id ≡ feature_in (bar_of c) (bir_of c) (table_of c) (entries_of c) id = cc in
      same ∙ sym (feature_last id q.zero)

  pub instance_from : (id n : ℕ) {s : List ℕ} {p : Place} → BankPlace c id p
      → s ≡ named p.bir c.lo c.low c.hi c.high → instance_in s p n ≡ instance_of c id n
  instance_from id n {s} {p} q e =
      ap (λ (l : List ℕ). instance_in l p n) (e ∙ bar_named c q.bir)
      ∙ ap₂ (λ (b a : ℕ). instance_in (bar_of c) (record { bir = b; start = a; size = p.size; count = p.count }) n) q.bir q.start
      ∙ ap₂ (λ (z k : ℕ). instance_in (bar_of c) (record { bir = bir_of c; start = (bank_for c id).start; size = z; count = k }) n) q.size q.count
      ∙ sym (instance_last id n q.zero)

  -- ---- the part

  pub part_refused : (id n : ℕ) {m : ℕ} → instance_of c id n ≡ refused m → instance_part c id n ≡ []
  unfolding instance_of instance_part
  part_refused id n e = let u = unless_refused (instance_number c id n) _ e in rw (ne_eqb (instance_number c id n) 0 (λ z. u.1 (sym u.0 ∙ z)))

  pub part_found : (id n : ℕ) → instance_number c id n ≡ 0 → take (size_for c id) (drop (start_for c id n) (bar_of c)) ≡ instance_part c id n
  unfolding instance_part
  part_found id n z = rw (eq-eqb (instance_number c id n) 0 z)
