-- The lookups over a capture decide their plain statements; accepted instances lie inside and are not empty. Assumes nothing.
use Prim.Native.Nat.{ℕ, ◌≤◌, ◌<◌}
use mathlib.Core.Path.{◌≡◌, refl, sym, ap, ◌∙◌, subst}
use mathlib.Core.Bool.{Bool, true, false, not}
use mathlib.Core.List.{List, [], ◌∷◌}
use mathlib.Core.Logic.{⊎_elim, ◌↔◌, ◌≢◌}
use native.Mathlib.Nat.{eq-or-lt_of_le}
use native.Mathlib.Omega.{arith}
use borrow.Author.Tests.{lt-leb, le-leb, leb-true, leb-false, eqb-true, eq-eqb, ne_eqb, not-true}
use lib.Dec.{leb, eqb}
use lib.ListN.{length, take, drop, length-take, length-drop}
use Rattle.words.specs.Below.{least}
use Rattle.words.specs.Bytes.{AllBytes}
use Rattle.words.proofs.TestLaws.{and_both, and_holds, fails_exactly, fails_else, never_both}
use Rattle.words.proofs.AnswerLaws.{earliest_stop, earliest_upto, earliest_end, first_upto, first_zero, first_none, two_pass, two_zero, two_from}
use Rattle.words.proofs.BelowLaws.{is_least}
use Rattle.words.proofs.NumberLaws.{number_ones, ones_number}
use Rattle.words.proofs.Theorems.{exact_fact}
use Rattle.tpmi_banks.specs.Faults.{bank_in, empty_bank}
use Rattle.tpmi_banks.specs.Facts.{Filled}
use Rattle.tpmi_banks.proofs.FaultFact.{filled_exactly, table_faults}
use Rattle.capture.specs.Capture.{Capture}
use Rattle.tpmi_discovery.specs.Table.{bar_of, table_of, entries_of}
use Rattle.tpmi_features.specs.Instances.{bears, index_in, unlisted, bank_for, size_for, feature_number, start_for, invalid_at, unusable, instance_number, instance_part}
use Rattle.tpmi_features.specs.Facts.{Has, Ones, LookupFact, PlaceFact}
use Rattle.tpmi_features.proofs.InstanceLaws.{part_found}
use Rattle.tpmi_discovery.proofs.DiscoveryLaws.{no_fault}
use Rattle.tpmi_features.proofs.InsideLaws.{discovered, index_there, entry_filled, bank_id, size_eight, feature_found, instance_inside}
use Rattle.tpmi_discovery.proofs.DiscoveryFact.{discovery_small}

-- ---- a feature

-- an entry is the feature exactly if it is not empty and has the identifier
held_exactly : (s : List ℕ) (t id k : ℕ) → (bears s t id k ≡ true) ↔ (Filled (bank_in s t k) × ((bank_in s t k).id ≡ id))
held_exactly s t id k = (
  λ e. let h = and_both (not (empty_bank (bank_in s t k))) (eqb (bank_in s t k).id id) e in ((filled_exactly _).0 (not-true _ h.0), eqb-true _ _ h.1),
  λ h. and_holds (ap not ((filled_exactly _).1 h.0)) (eq-eqb _ _ h.1),
)

module _ (c : Capture) (id : ℕ) where
  -- the search finds an entry exactly if some entry is the feature
  index_exactly : (index_in (bar_of c) (table_of c) (entries_of c) id < entries_of c) ↔ Has c id
  unfolding index_in
  index_exactly =
      let p : ℕ → Bool = bears (bar_of c) (table_of c) id in
      let l = is_least p (entries_of c) 0 in (
        λ h. let q = (held_exactly (bar_of c) (table_of c) id _).0 (l.passes (omega (arith, h))) in (least p (entries_of c) 0, h, q.0, q.1),
        λ r. found r.0 r.1 ((held_exactly (bar_of c) (table_of c) id r.0).1 (r.2, r.3)),
      )
    where
      found : (k : ℕ) → k < entries_of c → bears (bar_of c) (table_of c) id k ≡ true → least (bears (bar_of c) (table_of c) id) (entries_of c) 0 < entries_of c
      found k h e = by (leb (entries_of c) (least (bears (bar_of c) (table_of c) id) (entries_of c) 0)) refl
        where
          by : (t : Bool) → leb (entries_of c) (least (bears (bar_of c) (table_of c) id) (entries_of c) 0) ≡ t → least (bears (bar_of c) (table_of c) id) (entries_of c) 0 < entries_of c
          by true g = absurd (never_both e ((is_least (bears (bar_of c) (table_of c) id) (entries_of c) 0).fail k (omega arith) (omega (arith, leb-true (entries_of c) (least (bears (bar_of c) (table_of c) id) (entries_of c) 0) g))))
          by false g = leb-false _ _ g

  missing_zero : (unlisted (bar_of c) (table_of c) (entries_of c) id ≡ 0) ↔ Has c id
  unfolding unlisted
  missing_zero = (
    λ e. index_exactly.0 (leb-false _ _ (first_zero _ tt e).0),
    λ h. first_none _ (lt-leb _ _ (index_exactly.1 h), tt),
  )

  missing_twelve : (unlisted (bar_of c) (table_of c) (entries_of c) id ≡ 12) ↔ (Has c id → ⊥)
  unfolding unlisted
  missing_twelve =
      let n12 = exact_fact [] (leb (entries_of c) (index_in (bar_of c) (table_of c) (entries_of c) id)) 12 [] (λ z. omega arith) tt in
      let f = fails_exactly (leb (entries_of c) (index_in (bar_of c) (table_of c) (entries_of c) id)) (λ e. index_exactly.0 (leb-false _ _ e), λ h. lt-leb _ _ (index_exactly.1 h)) in
      (λ e. f.0 (n12.0 e).1, λ h. n12.1 (tt, f.1 h))

-- ---- an instance

-- the eight bytes are all ones exactly if each is
invalid_exactly : (c : Capture) (at : ℕ) → AllBytes (bar_of c) → (invalid_at (bar_of c) at ≡ true) ↔ Ones c at
unfolding invalid_at
invalid_exactly c at b = (λ e. number_ones (bar_of c) b at 8 (eqb-true _ _ e), λ h. eq-eqb _ _ (ones_number (bar_of c) at 8 h))

feature_small : (c : Capture) (id : ℕ) → feature_number c id ≤ 12
unfolding feature_number unlisted
feature_small c id = earliest_upto 12 _ _ (omega (arith, discovery_small c)) (earliest_upto 12 _ _ (first_upto 12 _ tt) (omega (arith, earliest_end)))

pub instance_small : (c : Capture) (id n : ℕ) → instance_number c id n ≤ 13
unfolding instance_number unusable
instance_small c id n = earliest_upto 13 _ _ (omega (arith, feature_small c id)) (earliest_upto 13 _ _ (first_upto 13 _ tt) (omega (arith, earliest_end)))

pub lookup_fact : (c : Capture) (id n : ℕ) → LookupFact c id n
unfolding feature_number instance_number unusable
lookup_fact c id n =
    let many : ℕ = (bank_for c id).instances in
    let bad : Bool = invalid_at (bar_of c) (start_for c id n) in
    let n12 = exact_fact [] (leb many n) 12 ((bad, 13) ∷ []) (λ z. omega arith) tt in
    let n13 = exact_fact ((leb many n, 12) ∷ []) bad 13 [] (λ z. omega arith) tt in
    record {
      feature_handed_on = earliest_stop _ _;
      feature_missing = λ z. (λ e. (missing_twelve c id).0 (sym (two_pass _ z) ∙ e), λ h. two_pass _ z ∙ (missing_twelve c id).1 h);
      feature_found = (λ e. let z = (two_zero _ _).0 e in (z.0, (missing_zero c id).0 z.1), λ h. (two_zero _ _).1 (h.0, (missing_zero c id).1 h.1));
      instance_handed_on = earliest_stop _ _;
      instance_missing = λ z. (λ e. leb-true _ _ (n12.0 (sym (two_pass _ z) ∙ e)).1, λ h. two_pass _ z ∙ n12.1 (tt, le-leb _ _ h));
      instance_ones = λ b. (
        λ e. let q = two_from (feature_number c id) _ (λ z. omega (arith, feature_small c id, z)) e in let r = n13.0 q.1 in (q.0, leb-false _ _ r.0.0, (invalid_exactly c _ b).0 r.1),
        λ h. two_pass _ h.0 ∙ n13.1 ((lt-leb _ _ h.1, tt), (invalid_exactly c _ b).1 h.2),
      );
      instance_found = λ b. (
        λ e. let z = (two_zero _ _).0 e in let f = first_zero _ tt z.1 in (z.0, leb-false _ _ f.0, (fails_else bad (invalid_exactly c _ b)).0 f.1.0),
        λ h. (two_zero _ _).1 (h.0, first_none _ (lt-leb _ _ h.1, ((fails_else bad (invalid_exactly c _ b)).1 h.2, tt))),
      );
    }

-- ---- places

module _ (c : Capture) (id : ℕ) (z : feature_number c id ≡ 0) where
  -- no two entries that are not empty have one identifier
  only_one : (j k : ℕ) → j < k → k < entries_of c → Filled (bank_in (bar_of c) (table_of c) j) → Filled (bank_in (bar_of c) (table_of c) k)
      → (bank_in (bar_of c) (table_of c) j).id ≡ (bank_in (bar_of c) (table_of c) k).id → ⊥
  only_one j k l b f g e =
      ((table_faults (bar_of c) (table_of c) (entries_of c)).none.0 (no_fault c (discovered c id z)) k b g).unlike (j, l, f, e)

  same_entry : (j k : ℕ) → j < entries_of c → k < entries_of c → Filled (bank_in (bar_of c) (table_of c) j) → Filled (bank_in (bar_of c) (table_of c) k)
      → (bank_in (bar_of c) (table_of c) j).id ≡ (bank_in (bar_of c) (table_of c) k).id → j ≡ k
  same_entry j k a b f g e = by (leb j k) refl
    where
      by : (t : Bool) → leb j k ≡ t → j ≡ k
      by true h = ⊎_elim (λ q. q) (λ l. absurd (only_one j k l b f g e)) (eq-or-lt_of_le (leb-true j k h))
      by false h = absurd (only_one k j (leb-false j k h) a g f (sym e))

  -- the bank of the entry with the identifier is the feature's
  only_bank : (k : ℕ) → k < entries_of c → Filled (bank_in (bar_of c) (table_of c) k) → (bank_in (bar_of c) (table_of c) k).id ≡ id → bank_in (bar_of c) (table_of c) k ≡ bank_for c id
  unfolding bank_for
  only_bank k l f e = ap (bank_in (bar_of c) (table_of c)) (same_entry k _ l (index_there c id z) f (entry_filled c id z) (e ∙ sym (bank_id c id z)))

empty_part : (c : Capture) (id n : ℕ) → instance_number c id n ≢ 0 → instance_part c id n ≡ []
unfolding instance_part
empty_part c id n h = rw (ne_eqb (instance_number c id n) 0 h)

pub place_fact : (c : Capture) (id n : ℕ) → PlaceFact c id n
place_fact c id n =
    record {
      only = only_bank c id;
      part = λ z. sym (part_found c id n z);
      inside = instance_inside c id n;
      some = λ z. subst (λ (xs : List ℕ). 1 ≤ length xs) (part_found c id n z) (long z);
      none = empty_part c id n;
    }
  where
    long : instance_number c id n ≡ 0 → 1 ≤ length (take (size_for c id) (drop (start_for c id n) (bar_of c)))
    long z = omega (arith, length-take (size_for c id) (drop (start_for c id n) (bar_of c)), length-drop (start_for c id n) (bar_of c), instance_inside c id n z, size_eight c id (feature_found c id n z))
