-- The theorems of Facts.antt: the tests of a write decide their plain statement, and what a content that is given holds. Assumes nothing.
use Prim.Native.Nat.{ℕ, zero, suc, ◌^◌, ◌<◌}
use mathlib.Core.Path.{◌≡◌, refl, sym, ap, ◌∙◌, subst}
use mathlib.Core.Bool.{Bool, true, false, ◌&&◌}
use mathlib.Core.List.{List, [], ◌∷◌}
use mathlib.Core.Logic.{inl, inr, ⊎_elim, ◌↔◌}
use native.Mathlib.Nat.{not-suc-le-zero}
use native.Mathlib.Omega.{arith}
use borrow.Author.Tests.{le-ltb, ltb-false, le-leb, leb-true, lt-leb, leb-false, eq-eqb, ne_eqb, eqb-true, eqb-false}
use lib.Dec.{leb, eqb}
use lib.ListN.{length, get_or}
use Rattle.words.proofs.AnswerLaws.{first_zero, first_none}
use Rattle.words.proofs.TestLaws.{or_either, or_take, or_second, and_both, and_holds, and_first, and_second, and_skip, fails_else, fails_exactly}
use Rattle.words.proofs.Theorems.{exact_fact, unless_fact}
use Rattle.fields.proofs.FieldLaws.{field_with_fit, field_with_below, field_with_above, with_lt}
use Rattle.fields.proofs.Theorems.{field_fact}
use Rattle.uncore_controls.specs.Control.{control_of}
use Rattle.uncore_controls.specs.Advanced1.{advanced1_of}
use Rattle.uncore_controls.specs.Advanced2.{advanced2_of}
use Rattle.uncore_permits.specs.ControlFields.{fields_of, lowest_of, width_of, next_word, ratio, above, word_number, word_of}
use Rattle.uncore_permits.specs.Facts.{Writable, ARatio, Ordered, WordFact, ReadAlone, WrittenFact, Written, NamedFields}
use Rattle.uncore_permits.proofs.FieldsLaws.{no_fields, some_bits, has_field, fits}

-- ---- the tests

writable_exactly : (r which : ℕ) → (eqb (width_of r which) 0 ≡ false) ↔ Writable r which
writable_exactly r which = (λ e. has_field r which (eqb-false _ _ e), λ h. ne_eqb _ _ (some_bits r which h))

ratio_exactly : (r which : ℕ) → (ratio r which ≡ true) ↔ ARatio r which
unfolding ratio
ratio_exactly r which = (
  λ e. let f = and_both (eqb r 3) _ e in (eqb-true _ _ f.0, ⊎_elim (λ a. inl (eqb-true _ _ a)) (λ b. inr (eqb-true _ _ b)) (or_either (eqb which 1) _ f.1)),
  λ h. and_holds (eq-eqb _ _ h.0) (⊎_elim (λ a. or_take _ (eq-eqb _ _ a)) (λ b. or_second (eqb which 1) (eq-eqb _ _ b)) h.1),
)

ordered_exactly : (y : ℕ) → (above y ≡ false) ↔ Ordered y
unfolding above
ordered_exactly y = (ltb-false _ _, le-ltb _ _)

above_exactly : (y : ℕ) → (above y ≡ true) ↔ (Ordered y → ⊥)
above_exactly y = fails_exactly (above y) (ordered_exactly y)

-- 28 is passed by a field that is no ratio, and by a pair in order
passes_exactly : (r which y : ℕ) → ((ratio r which && above y) ≡ false) ↔ (ARatio r which → Ordered y)
passes_exactly r which y = (λ e a. (ordered_exactly y).0 (sym (and_skip _ ((ratio_exactly r which).1 a)) ∙ e), λ h. by (ratio r which) refl h)
  where
    by : (t : Bool) → ratio r which ≡ t → (ARatio r which → Ordered y) → (ratio r which && above y) ≡ false
    by true e h = and_second (ratio r which) ((ordered_exactly y).1 (h ((ratio_exactly r which).0 e)))
    by false e h = and_first _ e

module _ (r which x value : ℕ) where
  pub word_fact : WordFact r which x value
  unfolding word_of word_number
  word_fact =
      let t27 : Bool = eqb (width_of r which) 0 in
      let t17 : Bool = leb (2 ^ width_of r which) value in
      let t28 : Bool = ratio r which && above (next_word r which x value) in
      let n27 = exact_fact [] t27 27 ((t17, 17) ∷ (t28, 28) ∷ []) (λ z. omega arith) tt in
      let n17 = exact_fact ((t27, 27) ∷ []) t17 17 ((t28, 28) ∷ []) (λ z. omega arith) tt in
      let n28 = exact_fact ((t27, 27) ∷ (t17, 17) ∷ []) t28 28 [] (λ z. omega arith) tt in
      let u = unless_fact (word_number r which x value) (next_word r which x value ∷ []) in
      let w = writable_exactly r which in
      let shut = fails_exactly t27 w in
      let p = passes_exactly r which (next_word r which x value) in
      record {
        unwritable = (
          λ e. shut.0 (n27.0 ((u.refuses 27).0 e).0).1,
          λ h. (u.refuses 27).1 (n27.1 (tt, shut.1 h), λ z. omega arith),
        );
        wide = (
          λ e. let f = n17.0 ((u.refuses 17).0 e).0 in (w.0 f.0.0, leb-true _ _ f.1),
          λ h. (u.refuses 17).1 (n17.1 ((w.1 h.0, tt), le-leb _ _ h.1), λ z. omega arith),
        );
        crossed = (
          λ e. let f = n28.0 ((u.refuses 28).0 e).0 in
              let b = and_both (ratio r which) _ f.1 in
              (w.0 f.0.0, leb-false _ _ f.0.1.0, (ratio_exactly r which).0 b.0, (above_exactly _).0 b.1),
          λ h. (u.refuses 28).1 (n28.1 ((w.1 h.0, (lt-leb _ _ h.1, tt)), and_holds ((ratio_exactly r which).1 h.2) ((above_exactly _).1 h.3)), λ z. omega arith),
        );
        content = λ y. (
          λ e. let g = (u.accepts (y ∷ [])).0 e in
              let f = first_zero _ tt g.0 in
              (w.0 f.0, leb-false _ _ f.1.0, p.0 f.1.1.0, ap (λ (l : List ℕ). get_or l 0 0) g.1),
          λ h. (u.accepts (y ∷ [])).1 (first_none _ (w.1 h.0, (lt-leb _ _ h.1, (p.1 h.2, tt))), ap (λ (z : ℕ). z ∷ []) h.3),
        );
      }

pub read_alone : (r which : ℕ) → ReadAlone r which
read_alone r which a b c h = not-suc-le-zero (subst (λ (fs : List (ℕ × ℕ)). which < length fs) (no_fields r a b c) h)

-- ---- what is written

-- a field of control that is no ratio has no bit in common with the two
beside : (which x value : ℕ) → Writable 3 which → (ARatio 3 which → ⊥) → ((control_of (next_word 3 which x value)).maximum ≡ (control_of x).maximum) × ((control_of (next_word 3 which x value)).minimum ≡ (control_of x).minimum)
unfolding fields_of lowest_of width_of next_word control_of
beside zero x v h n = (field_with_above 0 2 x v 8 7 (omega arith), field_with_above 0 2 x v 15 7 (omega arith))
beside (suc zero) x v h n = absurd (n (refl, inl refl))
beside (suc (suc zero)) x v h n = absurd (n (refl, inr refl))
beside (suc (suc (suc zero))) x v h n = (field_with_below 22 7 x v 8 7 (omega arith), field_with_below 22 7 x v 15 7 (omega arith))
beside (suc (suc (suc (suc zero)))) x v h n = (field_with_below 32 7 x v 8 7 (omega arith), field_with_below 32 7 x v 15 7 (omega arith))
beside (suc (suc (suc (suc (suc k))))) x v h n = absurd (omega (arith, h))

-- a pair in order stays so, whatever field of control is written
order_kept : (which x value : ℕ) → Writable 3 which → (ARatio 3 which → Ordered (next_word 3 which x value)) → Ordered x → Ordered (next_word 3 which x value)
order_kept which x value w p o = by (ratio 3 which) refl
  where
    by : (t : Bool) → ratio 3 which ≡ t → Ordered (next_word 3 which x value)
    by true e = p ((ratio_exactly 3 which).0 e)
    by false e = let b = beside which x value w ((fails_else (ratio 3 which) (ratio_exactly 3 which)).0 e) in omega (arith, b.0, b.1, o)

pub written : (r which x value : ℕ) → Written r which x value
unfolding next_word
written r which x value y e =
    let f = ((word_fact r which x value).content y).0 e in
    subst (WrittenFact r which x value) f.3
    (record {
      reads = field_with_fit (lowest_of r which) (width_of r which) x value f.1;
      bits = (field_fact (lowest_of r which) (width_of r which) x value).others;
      stays = with_lt (lowest_of r which) (width_of r which) x value 64 (fits r which);
      ordered = f.2;
      kept = λ q. by r q f;
    })
  where
    by : (r' : ℕ) → r' ≡ 3 → Writable r' which × (value < 2 ^ width_of r' which) × (ARatio r' which → Ordered (next_word r' which x value)) × (next_word r' which x value ≡ y) → Ordered x → Ordered (next_word r' which x value)
    by r' q g = subst (λ (k : ℕ). Writable k which × (value < 2 ^ width_of k which) × (ARatio k which → Ordered (next_word k which x value)) × (next_word k which x value ≡ y) → Ordered x → Ordered (next_word k which x value)) (sym q) (λ t. order_kept which x value t.0 t.2) g

pub named_fields : (x : ℕ) → NamedFields x
unfolding fields_of lowest_of width_of control_of advanced1_of advanced2_of
named_fields x = record { mode = refl; maximum = refl; minimum = refl; floor = refl; threshold = refl; slope1 = refl; base1 = refl; slope2 = refl; base2 = refl; utilization = refl; bandwidth = refl }
