-- Every lookup that does not read the stored bytes answers as before: these lie in one instance, which shares no byte with the table nor with
-- another instance. Assumes nothing.
use Prim.Native.Nat.{ℕ, ◌+◌, ◌-◌, ◌*◌, ◌%◌, ◌^◌, ◌≤◌, ◌<◌}
use mathlib.Core.Path.{◌≡◌, refl, sym, ap, ap₂, ◌∙◌, subst}
use mathlib.Core.Bool.{Bool, true, false, not}
use mathlib.Core.List.{List, [], ◌∷◌}
use mathlib.Core.Logic.{◌⊎◌, inl, inr, ⊎_elim, ◌≢◌}
use native.Mathlib.Omega.{arith}
use borrow.Author.Tests.{le-leb, leb-true, leb-false, eqb-true, eqb-false}
use lib.Dec.{leb, eqb}
use lib.ListN.{length, take, drop}
use Rattle.words.specs.Answers.{Answer, gives, unless, first, earliest}
use Rattle.words.specs.Bytes.{number_at, stored}
use Rattle.words.proofs.AnswerLaws.{unless_where, unless_passes, first_take, first_zero, earliest_stop, two_pass, two_zero}
use Rattle.words.proofs.StoreLaws.{number_stored_below, number_stored_above}
use Rattle.words.proofs.PartStores.{part_beside, part_stored}
use Rattle.fields.proofs.MaskLaws.{many_same}
use Rattle.capture.specs.Capture.{Capture}
use Rattle.tpmi_entries.specs.Entry.{entry_of, entry_at, values}
use Rattle.tpmi_banks.specs.Facts.{Shared}
use Rattle.tpmi_banks.specs.declared.faults.Bank.{Bank}
use Rattle.tpmi_discovery.specs.Table.{structure_of, bir_of, bar_of, table_of, entries_of, location_of}
use Rattle.tpmi_discovery.specs.Discovery.{discovery_number, discovery_of}
use Rattle.tpmi_features.specs.Instances.{bank_for, size_for, feature_number, feature_of, start_for, invalid_at, unusable, instance_number, instance_of, instance_part, instance_or}
use Rattle.tpmi_features.specs.Entries.{entry_number, entry_for}
use Rattle.tpmi_features.proofs.InstanceLaws.{part_found}
use Rattle.tpmi_features.proofs.InsideLaws.{There, feature_found, instance_there, instance_in_bank, instance_inside, size_eight}
use Rattle.tpmi_features.proofs.LookupFact.{place_fact}
use Rattle.tpmi_features.proofs.Apart.{places_apart}
use Rattle.tpmi_features.proofs.Changed.{located_same, number_same, feature_same, bank_for_same, instance_same, part_same, entry_apart}
use Rattle.tpmi_registers.proofs.RegisterPlaceFact.{register_place_fact}
use Rattle.tpmi_registers.specs.Registers.{outside, register_number, register_place_of, register_of}
use Rattle.tpmi_counts.specs.Valid.{valid_in, valid_count_in, valid_count_of}
use Rattle.tpmi_store.specs.Store.{stored_at, after_store}
use Rattle.tpmi_store.specs.Facts.{Within, Other, Untouched, Beside, AsBefore}
use Rattle.tpmi_store.proofs.StoreLeaves.{bar_after, length_after, store_leaves}

-- two stretches of bytes that share none lie one after the other
in_order : (a m q l : ℕ) → 1 ≤ m → 1 ≤ l → (Shared a (a + m) q (q + l) → ⊥) → (q + l ≤ a) ⊎ (a + m ≤ q)
in_order a m q l some some' h = by (leb (q + l) a) (leb (a + m) q) (leb a q) refl refl refl
  where
    by : (t u v : Bool) → leb (q + l) a ≡ t → leb (a + m) q ≡ u → leb a q ≡ v → (q + l ≤ a) ⊎ (a + m ≤ q)
    by true u v e f g = inl (leb-true _ _ e)
    by false true v e f g = inr (leb-true _ _ f)
    by false false true e f g =
        absurd (h (record { byte = q; after_a = leb-true a q g; before_b = leb-false (a + m) q f; after_c = omega arith; before_d = omega (arith, some') }))
    by false false false e f g =
        absurd (h (record { byte = a; after_a = omega arith; before_b = omega (arith, some); after_c = omega (arith, leb-false a q g); before_d = leb-false (q + l) a e }))

module _ (c : Capture) (id n offset x : ℕ) (w : Within c id n offset) where
  abbrev at : ℕ
  at = stored_at c id n offset

  abbrev d : Capture
  d = after_store c id n offset x

  here : feature_number c id ≡ 0
  here = feature_found c id n w.found

  there : There c id n
  there = instance_there c id n w.found

  long : length (bar_of d) ≡ length (bar_of c)
  long = length_after c id n offset x w

  -- bytes that lie wholly before the stored ones, or after them, are as they were
  beside : (q m : ℕ) → (q + m ≤ at) ⊎ (at + 8 ≤ q) → number_at (bar_of d) q m ≡ number_at (bar_of c) q m
  beside q m (inl h) = ap (λ (s : List ℕ). number_at s q m) (bar_after c id n offset x w) ∙ number_stored_below (bar_of c) at 8 x q m h
  beside q m (inr h) = ap (λ (s : List ℕ). number_at s q m) (bar_after c id n offset x w) ∙ number_stored_above (bar_of c) at 8 x q m h

  -- ---- the table

  in_bank : ((bank_for c id).start ≤ at) × (at + 8 ≤ (bank_for c id).end)
  in_bank = (omega arith, omega (arith, w.inside, instance_in_bank c id n w.found))

  table : (k : ℕ) → k < entries_of c → number_at (bar_of d) (table_of c + k * 8) 8 ≡ number_at (bar_of c) (table_of c + k * 8) 8
  table k l = beside (table_of c + k * 8) 8 (entry_apart c id here at in_bank.0 in_bank.1 k l)

  located : location_of d ≡ location_of c
  unfolding location_of structure_of
  located = ap (λ (k : ℕ). unless k (gives (bir_of c ∷ table_of c ∷ entries_of c ∷ []))) (located_same c _ _ long table)

  discovered_same : discovery_of d ≡ discovery_of c
  unfolding discovery_of structure_of
  discovered_same = ap (λ (k : ℕ). unless k (gives (bir_of c ∷ table_of c ∷ entries_of c ∷ []))) (number_same c _ _ long table)

  entry_same : (k : ℕ) → entry_for d k ≡ entry_for c k
  unfolding entry_for entry_number entry_at structure_of
  entry_same k =
      ap (λ (m : ℕ). unless (earliest (m ∷ first ((leb (entries_of c) k, 12) ∷ []) ∷ [])) (gives (values (entry_at (bar_of d) (table_of c + k * 8))))) (number_same c _ _ long table)
      ∙ unless_where (entry_number c k) (λ z. ap (λ (e : ℕ). gives (values (entry_of e))) (table k (low k z)))
    where
      low : (k : ℕ) → entry_number c k ≡ 0 → k < entries_of c
      low k z = leb-false _ _ (first_zero _ tt ((two_zero (discovery_number c) _).0 z).1).0

  -- ---- features and instances

  bank : (id' : ℕ) → feature_number c id' ≡ 0 → bank_for d id' ≡ bank_for c id'
  bank id' z = bank_for_same c _ _ long table id' z

  feature : (id' : ℕ) → feature_number d id' ≡ feature_number c id'
  feature id' = feature_same c _ _ long table id'

  feature_as_before : (id' : ℕ) → feature_of d id' ≡ feature_of c id'
  unfolding feature_of structure_of
  feature_as_before id' =
      ap (λ (k : ℕ). unless k (gives (bir_of c ∷ (bank_for d id').start ∷ size_for d id' ∷ (bank_for d id').instances ∷ []))) (feature id')
      ∙ unless_where (feature_number c id') (λ z. ap (λ (b : Bank). gives (bir_of c ∷ b.start ∷ b.words * 4 ∷ b.instances ∷ [])) (bank id' z))

  -- another instance lies wholly before the one that is stored into, or after it
  other_apart : (id' n' : ℕ) → There c id' n' → Other id n id' n'
      → (start_for c id' n' + size_for c id' ≤ start_for c id n) ⊎ (start_for c id n + size_for c id ≤ start_for c id' n')
  other_apart id' n' t o =
      in_order (start_for c id n) (size_for c id) (start_for c id' n') (size_for c id') (omega (arith, size_eight c id here)) (omega (arith, size_eight c id' t.0))
      (places_apart c id n id' n' there t o)

  -- so do 8 bytes at the offset o of another instance
  other_place : (id' n' o : ℕ) → There c id' n' → o + 8 ≤ size_for c id' → Other id n id' n' → (start_for c id' n' + o + 8 ≤ at) ⊎ (at + 8 ≤ start_for c id' n' + o)
  other_place id' n' o t h e = by (other_apart id' n' t e)
    where
      by : (start_for c id' n' + size_for c id' ≤ start_for c id n) ⊎ (start_for c id n + size_for c id ≤ start_for c id' n') → (start_for c id' n' + o + 8 ≤ at) ⊎ (at + 8 ≤ start_for c id' n' + o)
      by (inl l) = inl (omega arith)
      by (inr l) = inr (omega (arith, w.inside))

  -- and of any, if they are not among the stored ones
  place_apart : (id' n' o : ℕ) → There c id' n' → o + 8 ≤ size_for c id' → Beside id n offset id' n' o → (start_for c id' n' + o + 8 ≤ at) ⊎ (at + 8 ≤ start_for c id' n' + o)
  place_apart id' n' o t h (inl e) = other_place id' n' o t h e
  place_apart id' n' o t h (inr e) = by (eqb id id') (eqb n n') refl refl e
    where
      by : (p q : Bool) → eqb id id' ≡ p → eqb n n' ≡ q → (o + 8 ≤ offset) ⊎ (offset + 8 ≤ o) → (start_for c id' n' + o + 8 ≤ at) ⊎ (at + 8 ≤ start_for c id' n' + o)
      by true true f g (inl l) = inl (omega (arith, ap₂ (start_for c) (eqb-true id id' f) (eqb-true n n' g)))
      by true true f g (inr l) = inr (omega (arith, ap₂ (start_for c) (eqb-true id id' f) (eqb-true n n' g)))
      by true false f g l = other_place id' n' o t h (λ s. eqb-false n n' g s.1)
      by false q f g l = other_place id' n' o t h (λ s. eqb-false id id' f s.0)

  -- and its first 8, which say whether it is valid
  first_same : (id' n' : ℕ) → There c id' n' → Untouched id n offset id' n' → number_at (bar_of d) (start_for c id' n') 8 ≡ number_at (bar_of c) (start_for c id' n') 8
  first_same id' n' t u = beside (start_for c id' n') 8 (by (place_apart id' n' 0 t (size_eight c id' t.0) (so u)))
    where
      so : Untouched id n offset id' n' → Beside id n offset id' n' 0
      so (inl h) = inr (inl h)
      so (inr o) = inl o

      by : (start_for c id' n' + 0 + 8 ≤ at) ⊎ (at + 8 ≤ start_for c id' n' + 0) → (start_for c id' n' + 8 ≤ at) ⊎ (at + 8 ≤ start_for c id' n')
      by (inl h) = inl (omega arith)
      by (inr h) = inr (omega arith)

  module _ (id' n' : ℕ) where
    none_found : feature_number c id' ≢ 0 → instance_number d id' n' ≡ instance_number c id' n'
    unfolding instance_number
    none_found h = earliest_stop _ _ (λ z. h (sym (feature id') ∙ z)) ∙ feature id' ∙ sym (earliest_stop _ _ h)

    past_found : feature_number c id' ≡ 0 → (bank_for c id').instances ≤ n' → instance_number d id' n' ≡ instance_number c id' n'
    unfolding instance_number unusable
    past_found z l =
        two_pass _ (feature id' ∙ z) ∙ first_take _ _ (le-leb _ _ (subst (λ (b : Bank). b.instances ≤ n') (sym (bank id' z)) l))
        ∙ sym (two_pass _ z ∙ first_take _ _ (le-leb _ _ l))

    found : Untouched id n offset id' n' → instance_number d id' n' ≡ instance_number c id' n'
    found u = by (eqb (feature_number c id') 0) (leb (bank_for c id').instances n') refl refl
      where
        by : (p q : Bool) → eqb (feature_number c id') 0 ≡ p → leb (bank_for c id').instances n' ≡ q → instance_number d id' n' ≡ instance_number c id' n'
        by false q e f = none_found (eqb-false _ _ e)
        by true true e f = past_found (eqb-true _ _ e) (leb-true _ _ f)
        by true false e f =
            let z = eqb-true (feature_number c id') 0 e in
            instance_same c _ _ long table id' n' z (first_same id' n' (z, leb-false _ _ f) u)

    instance_as_before : Untouched id n offset id' n' → instance_of d id' n' ≡ instance_of c id' n'
    unfolding instance_of structure_of
    instance_as_before u =
        ap (λ (k : ℕ). unless k (gives (bir_of c ∷ start_for d id' n' ∷ size_for d id' ∷ 1 ∷ []))) (found u)
        ∙ unless_where (instance_number c id' n')
        (λ z. ap (λ (b : Bank). gives (bir_of c ∷ (b.start + n' * (b.words * 4)) ∷ b.words * 4 ∷ 1 ∷ [])) (bank id' (feature_found c id' n' z)))

    -- ---- the bytes of another instance

    part_as_before : Other id n id' n' → instance_part d id' n' ≡ instance_part c id' n'
    part_as_before o = by (eqb (instance_number c id' n') 0) refl
      where
        by : (t : Bool) → eqb (instance_number c id' n') 0 ≡ t → instance_part d id' n' ≡ instance_part c id' n'
        by true e =
            let z = eqb-true (instance_number c id' n') 0 e in
            let t : There c id' n' = instance_there c id' n' z in
            part_same c _ _ long table id' n' t.0 (found (inr o) ∙ z)
            ∙ ap (λ (s : List ℕ). take (size_for c id') (drop (start_for c id' n') s)) (bar_after c id n offset x w)
            ∙ part_beside (bar_of c) (start_for c id' n') (size_for c id') at 8 x (within (other_apart id' n' t o))
            ∙ part_found c id' n' z
          where
            within : (start_for c id' n' + size_for c id' ≤ start_for c id n) ⊎ (start_for c id n + size_for c id ≤ start_for c id' n')
                → (start_for c id' n' + size_for c id' ≤ at) ⊎ (at + 8 ≤ start_for c id' n')
            within (inl h) = inl (omega arith)
            within (inr h) = inr (omega (arith, w.inside))
        by false e =
            let h = eqb-false (instance_number c id' n') 0 e in
            (place_fact d id' n').none (λ z. h (sym (found (inr o)) ∙ z)) ∙ sym ((place_fact c id' n').none h)

    -- what is asked of an instance's bytes
    asked_as_before : (a : List ℕ → Answer) → Untouched id n offset id' n' → ((id ≡ id') × (n ≡ n') → a (instance_part d id n) ≡ a (instance_part c id n))
        → instance_or d id' n' a ≡ instance_or c id' n' a
    asked_as_before a u e = by (eqb id id') (eqb n n') refl refl
      where
        by : (p q : Bool) → eqb id id' ≡ p → eqb n n' ≡ q → instance_or d id' n' a ≡ instance_or c id' n' a
        by true true f g =
            let i = eqb-true id id' f in
            let j = eqb-true n n' g in
            ap₂ unless (found u) (subst (λ (k : ℕ). a (instance_part d k n') ≡ a (instance_part c k n')) i (subst (λ (m : ℕ). a (instance_part d id m) ≡ a (instance_part c id m)) j (e (i, j))))
        by true false f g = ap₂ unless (found u) (ap a (part_as_before (λ s. eqb-false n n' g s.1)))
        by false q f g = ap₂ unless (found u) (ap a (part_as_before (λ s. eqb-false id id' f s.0)))

    -- ---- registers

    module _ (o : ℕ) (u : Untouched id n offset id' n') where
      register_number_law : register_number d id' n' o ≡ register_number c id' n' o
      unfolding register_number
      register_number_law = by (eqb (instance_number c id' n') 0) refl
        where
          by : (t : Bool) → eqb (instance_number c id' n') 0 ≡ t
              → earliest (instance_number d id' n' ∷ outside (size_for d id') o ∷ []) ≡ earliest (instance_number c id' n' ∷ outside (size_for c id') o ∷ [])
          by true e =
              ap₂ (λ (m : ℕ) (b : Bank). earliest (m ∷ outside (b.words * 4) o ∷ [])) (found u) (bank id' (feature_found c id' n' (eqb-true (instance_number c id' n') 0 e)))
          by false e =
              let h = eqb-false (instance_number c id' n') 0 e in
              earliest_stop _ _ (λ z. h (sym (found u) ∙ z)) ∙ found u ∙ sym (earliest_stop _ _ h)

      register_place_as_before : register_place_of d id' n' o ≡ register_place_of c id' n' o
      unfolding register_place_of structure_of
      register_place_as_before =
          ap (λ (k : ℕ). unless k (gives (bir_of c ∷ (start_for d id' n' + o) ∷ 8 ∷ 1 ∷ []))) register_number_law
          ∙ unless_where (register_number c id' n' o)
          (λ z.
          let r = (register_place_fact c id' n' o).found.0 z in
          ap (λ (b : Bank). gives (bir_of c ∷ (b.start + n' * (b.words * 4) + o) ∷ 8 ∷ 1 ∷ [])) (bank id' (feature_found c id' n' r.0)))

      register_as_before : Beside id n offset id' n' o → register_of d id' n' o ≡ register_of c id' n' o
      unfolding register_of
      register_as_before s =
          ap (λ (k : ℕ). unless k (gives (number_at (bar_of d) (start_for d id' n' + o) 8 ∷ []))) register_number_law
          ∙ unless_where (register_number c id' n' o)
          (λ z.
          let r = (register_place_fact c id' n' o).found.0 z in
          let f = feature_found c id' n' r.0 in
          ap (λ (b : Bank). gives (number_at (bar_of d) (b.start + n' * (b.words * 4) + o) 8 ∷ [])) (bank id' f)
          ∙ ap (λ (y : ℕ). gives (y ∷ [])) (beside (start_for c id' n' + o) 8 (place_apart id' n' o (instance_there c id' n' r.0) r.2 s)))

  -- ---- valid counts

  valid_same : (id' : ℕ) → (8 ≤ offset) ⊎ (id ≢ id') → feature_number c id' ≡ 0 → (k : ℕ) → k < (bank_for c id').instances
      → valid_in (bar_of d) (bank_for c id').start (size_for c id') k ≡ valid_in (bar_of c) (bank_for c id').start (size_for c id') k
  unfolding invalid_at
  valid_same id' h z k l = ap (λ (y : ℕ). not (eqb y (2 ^ 64 - 1))) (first_same id' k (z, l) (⊎_elim inl (λ o. inr (λ s. o s.0)) h))

  count_as_before : (id' : ℕ) → (8 ≤ offset) ⊎ (id ≢ id') → valid_count_of d id' ≡ valid_count_of c id'
  unfolding valid_count_of valid_count_in
  count_as_before id' h =
      ap (λ (k : ℕ). unless k (gives (valid_count_in (bar_of d) (bank_for d id').start (size_for d id') (bank_for d id').instances ∷ []))) (feature id')
      ∙ unless_where (feature_number c id')
      (λ z.
      ap (λ (b : Bank). gives (valid_count_in (bar_of d) b.start (b.words * 4) b.instances ∷ [])) (bank id' z)
      ∙ ap (λ (y : ℕ). gives (y ∷ [])) (many_same _ _ (bank_for c id').instances (valid_same id' h z)))

  -- ---- the instance that was stored into

  own_part : 8 ≤ offset → instance_part d id n ≡ stored (instance_part c id n) offset 8 x
  own_part h =
      part_same c _ _ long table id n here (found id n (inl h) ∙ w.found)
      ∙ ap (λ (s : List ℕ). take (size_for c id) (drop (start_for c id n) s)) (bar_after c id n offset x w)
      ∙ part_stored (bar_of c) (start_for c id n) (size_for c id) offset 8 x w.inside (instance_inside c id n w.found)
      ∙ ap (λ (s : List ℕ). stored s offset 8 x) (part_found c id n w.found)

  read_back : 8 ≤ offset → offset % 8 ≡ 0 → x < 2 ^ 64 → register_of d id n offset ≡ gives (x ∷ [])
  unfolding register_of
  read_back h e l =
      unless_passes _ (register_number_law id n offset (inl h) ∙ (register_place_fact c id n offset).found.1 (w.found, e, w.inside))
      ∙ ap (λ (b : Bank). gives (number_at (bar_of d) (b.start + n * (b.words * 4) + offset) 8 ∷ [])) (bank id here)
      ∙ ap (λ (y : ℕ). gives (y ∷ [])) ((store_leaves c id n offset x w).content l)

  pub as_before : AsBefore c id n offset x
  as_before =
      record {
        location = located;
        discovery = discovered_same;
        entry = entry_same;
        feature = feature_as_before;
        instance_number_law = found;
        instance = instance_as_before;
        part = part_as_before;
        register_place = register_place_as_before;
        register = register_as_before;
        asked = asked_as_before;
        count = count_as_before;
        own_part = own_part;
        read_back = read_back;
      }
