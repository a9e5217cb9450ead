-- The tests of a write decide their plain statement. Assumes nothing.
use Prim.Native.Nat.{ℕ, ◌+◌, ◌^◌}
use mathlib.Core.Path.{◌≡◌, refl, ap, sym, ◌∙◌}
use mathlib.Core.Bool.{Bool, true, false, not, ◌&&◌, ◌||◌}
use mathlib.Core.List.{[], ◌∷◌}
use mathlib.Core.Logic.{inl, inr, ⊎_elim, ◌↔◌}
use native.Mathlib.Omega.{arith}
use borrow.Author.Tests.{le-ltb, ltb-false, le-leb, lt-leb, leb-true, leb-false, eq-eqb, ne_eqb, eqb-true, eqb-false, not-true, not-false}
use lib.Dec.{ltb, leb, eqb}
use Rattle.fields.specs.Bits.{field}
use Rattle.words.proofs.AnswerLaws.{first_zero, first_none}
use Rattle.words.proofs.TestLaws.{or_neither, or_either, or_skip, or_second, or_take, and_skip, and_first, and_second, and_both, and_holds, fails_exactly, fails_else}
use Rattle.words.proofs.Theorems.{exact_fact}
use Rattle.rapl_registers.specs.Contents.{present}
use Rattle.rapl_registers.specs.Facts.{Present}
use Rattle.rapl_registers.proofs.ContentFact.{present_exactly}
use Rattle.rapl_permits.specs.Permits.{width_of, a_limit, unwritable, refusal_of}
use Rattle.rapl_permits.specs.Facts.{ALimit, Writable, Open, PermitFact}
use Rattle.rapl_domains.specs.declared.domains.Header.{Header}

limit_exactly : (limit : ℕ) → (a_limit limit ≡ true) ↔ ALimit limit
unfolding a_limit
limit_exactly limit = (
  λ e. ⊎_elim (λ a. inl (eqb-true _ _ a)) (λ b. inr (eqb-true _ _ b)) (or_either (eqb limit 1) _ e),
  ⊎_elim (λ a. or_take _ (eq-eqb _ _ a)) (λ b. or_second (eqb limit 1) (eq-eqb _ _ b)),
)

window_exactly : (kind limit which : ℕ) → ((eqb which 1 && (eqb limit 2 && eqb kind 2)) ≡ true) ↔ ((which ≡ 1) × (limit ≡ 2) × (kind ≡ 2))
window_exactly kind limit which = (
  λ e. let f = and_both (eqb which 1) _ e in let g = and_both (eqb limit 2) _ f.1 in (eqb-true _ _ f.0, eqb-true _ _ g.0, eqb-true _ _ g.1),
  λ h. and_holds (eq-eqb _ _ h.0) (and_holds (eq-eqb _ _ h.1) (eq-eqb _ _ h.2)),
)

writable_exactly : (kind limit which : ℕ) → (unwritable kind limit which ≡ false) ↔ Writable kind limit which
unfolding unwritable
writable_exactly kind limit which =
    let w = fails_else (eqb which 1 && (eqb limit 2 && eqb kind 2)) (window_exactly kind limit which) in (
      λ e. let f = or_neither (ltb 3 which) _ e in (ltb-false _ _ f.0, w.0 f.1),
      λ h. or_skip _ (le-ltb _ _ h.0) ∙ w.1 h.1,
    )

-- 26 is passed by a number that is no limit's, and by a register that is present
there_exactly : (flags limit : ℕ) → ((a_limit limit && not (present flags (limit + 1))) ≡ false) ↔ (ALimit limit → Present flags (limit + 1))
there_exactly flags limit = (
  λ e l. (present_exactly flags (limit + 1)).0 (not-false _ (sym (and_skip _ ((limit_exactly limit).1 l)) ∙ e)),
  λ h. by (a_limit limit) refl h,
)
  where
    by : (t : Bool) → a_limit limit ≡ t → (ALimit limit → Present flags (limit + 1)) → (a_limit limit && not (present flags (limit + 1))) ≡ false
    by true e h = and_second (a_limit limit) (ap not ((present_exactly flags (limit + 1)).1 (h ((limit_exactly limit).0 e))))
    by false e h = and_first _ e

-- 27 is passed by a field that can be written
open_exactly : (kind limit which : ℕ) → ((not (a_limit limit) || unwritable kind limit which) ≡ false) ↔ (ALimit limit × Writable kind limit which)
open_exactly kind limit which = (
  λ e. let f = or_neither (not (a_limit limit)) _ e in ((limit_exactly limit).0 (not-false _ f.0), (writable_exactly kind limit which).0 f.1),
  λ h. or_skip _ (ap not ((limit_exactly limit).1 h.0)) ∙ (writable_exactly kind limit which).1 h.1,
)

-- ---- all tests

module _ (h : Header) (limit which value x : ℕ) where
  -- the tests in Bools of a field that stands open
  opened : (a_limit limit && not (present h.flags (limit + 1))) ≡ false → (not (a_limit limit) || unwritable h.kind limit which) ≡ false → Open h limit which
  opened a b =
      let o = (open_exactly h.kind limit which).0 b in
      record { a_limit_law = o.0; present = (there_exactly h.flags limit).0 a o.0; writable = o.1 }

  shut26 : Open h limit which → (a_limit limit && not (present h.flags (limit + 1))) ≡ false
  shut26 o = (there_exactly h.flags limit).1 (λ l. o.present)

  shut27 : Open h limit which → (not (a_limit limit) || unwritable h.kind limit which) ≡ false
  shut27 o = (open_exactly h.kind limit which).1 (o.a_limit_law, o.writable)

  pub permit_fact : PermitFact h limit which value x
  unfolding refusal_of
  permit_fact =
      let t26 : Bool = a_limit limit && not (present h.flags (limit + 1)) in
      let t27 : Bool = not (a_limit limit) || unwritable h.kind limit which in
      let t17 : Bool = leb (2 ^ width_of which) value in
      let t18 : Bool = eqb (field 63 1 x) 1 in
      let n26 = exact_fact [] t26 26 ((t27, 27) ∷ (t17, 17) ∷ (t18, 18) ∷ []) (λ z. omega arith) tt in
      let n27 = exact_fact ((t26, 26) ∷ []) t27 27 ((t17, 17) ∷ (t18, 18) ∷ []) (λ z. omega arith) tt in
      let n17 = exact_fact ((t26, 26) ∷ (t27, 27) ∷ []) t17 17 ((t18, 18) ∷ []) (λ z. omega arith) tt in
      let n18 = exact_fact ((t26, 26) ∷ (t27, 27) ∷ (t17, 17) ∷ []) t18 18 [] (λ z. omega arith) tt in
      let gone = fails_else (present h.flags (limit + 1)) (present_exactly h.flags (limit + 1)) in
      let f27 = fails_exactly t27 (open_exactly h.kind limit which) in
      record {
        absent = (
          λ e. let b = and_both (a_limit limit) _ (n26.0 e).1 in ((limit_exactly limit).0 b.0, gone.0 (not-true _ b.1)),
          λ a. n26.1 (tt, and_holds ((limit_exactly limit).1 a.0) (ap not (gone.1 a.1))),
        );
        unwritable = (
          λ e. let f = n27.0 e in ((there_exactly h.flags limit).0 f.0.0, f27.0 f.1),
          λ a. n27.1 (((there_exactly h.flags limit).1 a.0, tt), f27.1 a.1),
        );
        wide = (
          λ e. let f = n17.0 e in (opened f.0.0 f.0.1.0, leb-true _ _ f.1),
          λ a. n17.1 ((shut26 a.0, (shut27 a.0, tt)), le-leb _ _ a.1),
        );
        locked = (
          λ e. let f = n18.0 e in (opened f.0.0 f.0.1.0, leb-false _ _ f.0.1.1.0, eqb-true _ _ f.1),
          λ a. n18.1 ((shut26 a.0, (shut27 a.0, (lt-leb _ _ a.1, tt))), eq-eqb _ _ a.2),
        );
        permitted = (
          λ e. let f = first_zero _ tt e in (opened f.0 f.1.0, leb-false _ _ f.1.1.0, eqb-false _ _ f.1.1.1.0),
          λ a. first_none _ (shut26 a.0, (shut27 a.0, (lt-leb _ _ a.1, (ne_eqb _ _ a.2, tt)))),
        );
      }
