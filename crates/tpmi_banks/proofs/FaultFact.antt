-- The faults of a table decide their plain statements: entry by entry, and over the whole table. Assumes nothing.
use Prim.Native.Nat.{ℕ, zero, suc, ◌+◌, ◌*◌, ◌≤◌, ◌<◌}
use mathlib.Core.Path.{◌≡◌, refl, sym, ap, ◌∙◌}
use mathlib.Core.Bool.{Bool, true, false, cond, not, ◌&&◌, ◌||◌}
use mathlib.Core.List.{List, [], ◌∷◌}
use mathlib.Core.Logic.{inl, inr, ⊎_elim, ◌↔◌, ◌≢◌}
use native.Mathlib.Nat.{one-le-mul}
use native.Mathlib.Omega.{arith}
use borrow.Author.Tests.{lt-ltb, le-ltb, ltb-true, ltb-false, eq-eqb, ne_eqb, eqb-true, eqb-false, leb-true, leb-false, not-true}
use lib.Dec.{ltb, leb, eqb}
use lib.ListN.{length}
use Rattle.words.specs.Answers.{first}
use Rattle.words.specs.Below.{any_below}
use Rattle.words.proofs.AnswerLaws.{first_zero, first_none, first_upto}
use Rattle.words.proofs.TestLaws.{or_skip, or_take, or_neither, or_either, or_second, and_both, never_both, fails_else}
use Rattle.words.proofs.Theorems.{exact_fact, any_fact, fault_fact}
use Rattle.tpmi_banks.specs.Faults.{bank_in, bank_of, empty_bank, overlap, repeats, meets, repeats_at, meets_at, tests, fault_at, faults_of}
use Rattle.tpmi_banks.specs.Facts.{Filled, Shared, Repeats, Overlaps, Clean, EntryFaults, TableFaults}
use Rattle.tpmi_banks.specs.declared.faults.Bank.{Bank}
use Rattle.tpmi_banks.proofs.FaultLaws.{fault_empty, entry_tests}

-- ---- each test, and what it decides

pub filled_exactly : (b : Bank) → (empty_bank b ≡ false) ↔ Filled b
unfolding empty_bank
filled_exactly b =
    (λ e. let o = or_neither _ _ e in (eqb-false _ _ o.0, eqb-false _ _ o.1), λ f. or_skip _ (ne_eqb _ _ f.0) ∙ ne_eqb _ _ f.1)

-- two stretches that are not empty share a byte where each starts before the other ends
shared_exactly : (a b c d : ℕ) → a < b → c < d → (overlap a b c d ≡ true) ↔ Shared a b c d
shared_exactly a b c d f g = (λ e. there (and_both (ltb a d) (ltb c b) e), found)
  where
    found : Shared a b c d → overlap a b c d ≡ true
    found h =
        let p = lt-ltb a d (omega (arith, h.after_a, h.before_d)) in
        let q = lt-ltb c b (omega (arith, h.after_c, h.before_b)) in
        simp (p, q)

    later : a < d → c < b → (t : Bool) → leb a c ≡ t → Shared a b c d
    later p q true l = record { byte = c; after_a = leb-true a c l; before_b = q; after_c = omega arith; before_d = g }
    later p q false l = record { byte = a; after_a = omega arith; before_b = f; after_c = omega (arith, leb-false a c l); before_d = p }

    there : (ltb a d ≡ true) × (ltb c b ≡ true) → Shared a b c d
    there t = later (ltb-true a d t.0) (ltb-true c b t.1) (leb a c) refl

-- the bank of an entry that is not empty has bytes
bank_long : (s : List ℕ) (t k : ℕ) → Filled (bank_in s t k) → (bank_in s t k).start < (bank_in s t k).end
unfolding bank_in bank_of
bank_long s t k f = omega (arith, one-le-mul (positive _ f.0) (positive _ f.1))
  where
    positive : (n : ℕ) → n ≢ 0 → 1 ≤ n
    positive zero h = absurd (h refl)
    positive (suc n) h = omega arith

-- a test of two parts, the first that a bank is not empty
both_exactly : (a : Bank) (x : Bool) {P : Type 0} → (Filled a → (x ≡ true) ↔ P) → ((not (empty_bank a) && x) ≡ true) ↔ (Filled a × P)
both_exactly a x i = (
  λ e. let h = and_both _ _ e in let f = (filled_exactly a).0 (not-true _ h.0) in (f, (i f).0 h.1),
  λ h. ap (λ (t : Bool). not t && x) ((filled_exactly a).1 h.0) ∙ (i h.0).1 h.1,
)

module _ (s : List ℕ) (t n k : ℕ) (below : k < n) where
  -- some earlier entry repeats the identifier
  repeats_exactly : (any_below (repeats_at s t (bank_in s t k)) k ≡ true) ↔ Repeats s t k
  unfolding repeats
  repeats_exactly =
      let some = (any_fact (repeats_at s t (bank_in s t k)) k).some in
      let here : (j : ℕ) → (repeats_at s t (bank_in s t k) j ≡ true) ↔ (Filled (bank_in s t j) × ((bank_in s t j).id ≡ (bank_in s t k).id)) =
      λ j. both_exactly (bank_in s t j) _ (λ f. (eqb-true _ _, eq-eqb _ _)) in (
        λ e. let r = some.0 e in let h = (here r.0).0 r.2 in (r.0, r.1, h.0, h.1),
        λ r. some.1 (r.0, r.1, (here r.0).1 (r.2, r.3)),
      )

  module _ (filled : Filled (bank_in s t k)) where
    -- the bank lies over the table or over an earlier bank
    overlaps_exactly : ((overlap t (t + n * 8) (bank_in s t k).start (bank_in s t k).end || any_below (meets_at s t (bank_in s t k)) k) ≡ true) ↔ Overlaps s t n k
    unfolding meets
    overlaps_exactly =
        let long = bank_long s t k filled in
        let table = shared_exactly t (t + n * 8) (bank_in s t k).start (bank_in s t k).end (omega arith) long in
        let some = (any_fact (meets_at s t (bank_in s t k)) k).some in
        let here : (j : ℕ) → (meets_at s t (bank_in s t k) j ≡ true) ↔ (Filled (bank_in s t j) × Shared (bank_in s t j).start (bank_in s t j).end (bank_in s t k).start (bank_in s t k).end) =
        λ j. both_exactly (bank_in s t j) _ (λ f. shared_exactly _ _ _ _ (bank_long s t j f) long) in (
          λ e. ⊎_elim (λ h. inl (table.0 h)) (λ h. let r = some.0 h in let q = (here r.0).0 r.2 in inr (r.0, r.1, q.0, q.1)) (or_either _ _ e),
          λ o. ⊎_elim (λ h. or_take _ (table.1 h)) (λ r. or_second (overlap t (t + n * 8) (bank_in s t k).start (bank_in s t k).end) (some.1 (r.0, r.1, (here r.0).1 (r.2, r.3)))) o,
        )

-- ---- the fault of one entry

-- an entry with a fault is not empty
fault_filled : (s : List ℕ) (t n k : ℕ) → fault_at s t n k ≢ 0 → Filled (bank_in s t k)
fault_filled s t n k h = by (empty_bank (bank_in s t k)) refl
  where
    by : (e : Bool) → empty_bank (bank_in s t k) ≡ e → Filled (bank_in s t k)
    by true e = absurd (h (fault_empty s t n k refl e))
    by false e = (filled_exactly _).0 e

pub entry_faults : (s : List ℕ) (t n k : ℕ) → k < n → EntryFaults s t n k
entry_faults s t n k below =
    let b : Bank = bank_in s t k in
    let small : Bool = eqb b.words 1 in
    let past : Bool = ltb (length s) b.end in
    let twice : Bool = any_below (repeats_at s t b) k in
    let over : Bool = overlap t (t + n * 8) b.start b.end || any_below (meets_at s t b) k in
    let n8 = exact_fact [] small 8 ((past, 9) ∷ (twice, 10) ∷ (over, 11) ∷ []) (λ z. omega arith) tt in
    let n9 = exact_fact ((small, 8) ∷ []) past 9 ((twice, 10) ∷ (over, 11) ∷ []) (λ z. omega arith) tt in
    let n10 = exact_fact ((small, 8) ∷ (past, 9) ∷ []) twice 10 ((over, 11) ∷ []) (λ z. omega arith) tt in
    let n11 = exact_fact ((small, 8) ∷ (past, 9) ∷ (twice, 10) ∷ []) over 11 [] (λ z. omega arith) tt in
    let tested : Filled b → fault_at s t n k ≡ first (tests s t n k b) = λ f. entry_tests s t n k refl ((filled_exactly b).1 f) in
    let filled : (m : ℕ) → m ≢ 0 → fault_at s t n k ≡ m → Filled b = λ m h e. fault_filled s t n k (λ z. h (sym e ∙ z)) in
    let rep = repeats_exactly s t n k below in
    let unlike : (twice ≡ false) ↔ (Repeats s t k → ⊥) = fails_else twice rep in
    record {
      none = (λ e f. let z = first_zero _ tt (sym (tested f) ∙ e) in clean f z.0 z.1.0 z.1.1.0 z.1.1.1.0, λ h. sound h (empty_bank b) refl);
      eight = (λ e. let f = filled 8 (λ z. omega arith) e in (f, eqb-true _ _ (n8.0 (sym (tested f) ∙ e)).1), λ h. tested h.0 ∙ n8.1 (tt, eq-eqb _ _ h.1));
      nine = (
        λ e. let f = filled 9 (λ z. omega arith) e in let r = n9.0 (sym (tested f) ∙ e) in (f, eqb-false _ _ r.0.0, ltb-true _ _ r.1),
        λ h. tested h.0 ∙ n9.1 ((ne_eqb _ _ h.1, tt), lt-ltb _ _ h.2),
      );
      ten = (
        λ e. let f = filled 10 (λ z. omega arith) e in let r = n10.0 (sym (tested f) ∙ e) in (f, eqb-false _ _ r.0.0, ltb-false _ _ r.0.1.0, rep.0 r.1),
        λ h. tested h.0 ∙ n10.1 ((ne_eqb _ _ h.1, (le-ltb _ _ h.2, tt)), rep.1 h.3),
      );
      eleven = (
        λ e. let f = filled 11 (λ z. omega arith) e in let r = n11.0 (sym (tested f) ∙ e) in
            (f, eqb-false _ _ r.0.0, ltb-false _ _ r.0.1.0, unlike.0 r.0.1.1.0, (overlaps_exactly s t n k below f).0 r.1),
        λ h. tested h.0 ∙ n11.1 ((ne_eqb _ _ h.1, (le-ltb _ _ h.2, (unlike.1 h.3, tt))), (overlaps_exactly s t n k below h.0).1 h.4),
      );
    }
  where
    clean : Filled (bank_in s t k) → eqb (bank_in s t k).words 1 ≡ false → ltb (length s) (bank_in s t k).end ≡ false → any_below (repeats_at s t (bank_in s t k)) k ≡ false
        → (overlap t (t + n * 8) (bank_in s t k).start (bank_in s t k).end || any_below (meets_at s t (bank_in s t k)) k) ≡ false → Clean s t n k
    clean f a c d e =
        record {
          size = eqb-false _ _ a;
          inside = ltb-false _ _ c;
          unlike = λ r. never_both ((repeats_exactly s t n k below).1 r) d;
          apart = λ o. never_both ((overlaps_exactly s t n k below f).1 o) e;
        }

    sound : (Filled (bank_in s t k) → Clean s t n k) → (e : Bool) → empty_bank (bank_in s t k) ≡ e → fault_at s t n k ≡ 0
    sound h true e = fault_empty s t n k refl e
    sound h false e =
        let f = (filled_exactly (bank_in s t k)).0 e in
        let c = h f in
        entry_tests s t n k refl e
        ∙ first_none _ (ne_eqb _ _ c.size, (le-ltb _ _ c.inside, ((fails_else _ (repeats_exactly s t n k below)).1 c.unlike, ((fails_else _ (overlaps_exactly s t n k below f)).1 c.apart, tt))))

-- ---- the table

pub table_faults : (s : List ℕ) (t n : ℕ) → TableFaults s t n
unfolding faults_of
table_faults s t n =
    let all = fault_fact (fault_at s t n) n in
    record {
      none = (λ e k l. (entry_faults s t n k l).none.0 (all.none.0 e k l), λ h. all.none.1 (λ k l. (entry_faults s t n k l).none.1 (h k l)));
      some = all.some;
    }

-- ---- no fault is above 11

fault_small : (s : List ℕ) (t n k : ℕ) → fault_at s t n k ≤ 11
unfolding fault_at
fault_small s t n k = by (empty_bank (bank_in s t k))
  where
    by : (e : Bool) → cond e 0 (first (tests s t n k (bank_in s t k))) ≤ 11
    by true = omega arith
    by false = first_upto 11 (tests s t n k (bank_in s t k)) tt

pub faults_small : (s : List ℕ) (t n : ℕ) → faults_of s t n ≤ 11
faults_small s t n = by (eqb (faults_of s t n) 0) refl
  where
    by : (e : Bool) → eqb (faults_of s t n) 0 ≡ e → faults_of s t n ≤ 11
    by true e = omega (arith, eqb-true (faults_of s t n) 0 e)
    by false e = let r = ((table_faults s t n).some _ (eqb-false _ _ e)).0 refl in omega (arith, r.2, fault_small s t n r.0)
