-- The theorems of Facts.antt on window codes and answers, under their names. Assumes nothing.
use Prim.Native.Nat.{ℕ, ◌+◌, ◌*◌, ◌/◌, ◌%◌, ◌^◌, ◌<◌, ◌≤◌}
use mathlib.Core.Path.{◌≡◌, refl, sym, ap, ◌∙◌, subst}
use mathlib.Core.Bool.{Bool, true, false}
use mathlib.Core.List.{[], ◌∷◌}
use mathlib.Core.Logic.{◌⊎◌, inl, inr, ⊎_elim}
use native.Mathlib.Nat.{eq-or-lt_of_le, lt_of_not-le}
use native.Mathlib.Omega.{arith}
use borrow.Author.Tests.{ltb-false, ltb-true, eqb-true, eqb-false, leb-true, leb-false, le-leb, lt-leb}
use lib.Dec.{ltb, leb, eqb}
use Rattle.words.specs.Answers.{refused, gives}
use Rattle.fields.specs.Bits.{field}
use Rattle.words.specs.Facts.{IsLeast}
use Rattle.words.proofs.AnswerLaws.{first_zero}
use Rattle.words.proofs.BelowLaws.{is_least, least_once}
use Rattle.fields.proofs.FieldLaws.{field_lt}
use Rattle.words.proofs.TestLaws.{never_both}
use Rattle.words.proofs.Theorems.{exact_fact, unless_fact}
use Rattle.rapl_windows.specs.Windows.{quarters_of, code_at, asked, long_enough, first_long, window_number, window_of}
use Rattle.rapl_units.specs.Units.{units_of}
use Rattle.rapl_windows.specs.Facts.{Ranged, Before, Enough, IsFirst, IsShortest, NoneLong, WindowFact, TimeRead}
use Rattle.rapl_windows.proofs.CodeLaws.{quarters_of_law, quarters_is, code_at_law, answer_17, answer_19, answer_code}
use Rattle.rapl_windows.proofs.Order.{code_fact, any_code, not_before, lasts_once}

-- ---- the window code

module _ (ms unit : ℕ) where
  place : IsLeast (long_enough ms unit) 128 0 (first_long ms unit)
  unfolding first_long
  place = is_least (long_enough ms unit) 128 0

  -- the test at the place 4 Y + X of the order decides the plain statement
  module _ (y x : ℕ) (r : Ranged y x) where
    long_is : long_enough ms unit (y * 4 + x) ≡ leb (asked ms unit) ((4 + x) * 2 ^ y * 1000)
    unfolding long_enough
    long_is = ap (λ (q : ℕ). leb (asked ms unit) (q * 1000)) (ap quarters_of (code_at_law y x r.1) ∙ quarters_of_law y x r.0 r.1)

    long_yes : long_enough ms unit (y * 4 + x) ≡ true → Enough ms unit ((4 + x) * 2 ^ y)
    long_yes e = leb-true _ _ (sym long_is ∙ e)

    long_no : long_enough ms unit (y * 4 + x) ≡ false → Enough ms unit ((4 + x) * 2 ^ y) → ⊥
    long_no e g = never_both (long_is ∙ le-leb _ _ g) e

    -- a place that the search passes over is not long enough
    passed : y * 4 + x < first_long ms unit → Enough ms unit ((4 + x) * 2 ^ y) → ⊥
    passed h = long_no (place.fail (y * 4 + x) (omega arith) h)

  -- the place where the search ends is the first
  at_place : (k : ℕ) → first_long ms unit ≡ k → k < 128 → IsFirst ms unit (code_at k)
  at_place k e h =
      let same : k / 4 * 4 + k % 4 ≡ k = omega arith in
      let r : Ranged (k / 4) (k % 4) = (omega arith, omega arith) in
      record {
        y = k / 4;
        x = k % 4;
        ranged = r;
        is = refl;
        long = long_yes (k / 4) (k % 4) r (ap (long_enough ms unit) (same ∙ sym e) ∙ place.passes (omega arith));
        others = λ y x s b. passed y x s (⊎_elim (λ l. omega (arith, l, s.1)) (λ q. omega (arith, q.0, q.1)) b);
      }

  -- and the search ends at the first
  first_place : (code : ℕ) (f : IsFirst ms unit code) → first_long ms unit ≡ f.y * 4 + f.x
  first_place code f = least_once (long_enough ms unit) 128 0 (first_long ms unit) (f.y * 4 + f.x) place at
    where
      before : (i : ℕ) → i < f.y * 4 + f.x → Before (i / 4) (i % 4) f.y f.x
      before i h = ⊎_elim (λ q. inr (q, omega arith)) inl (eq-or-lt_of_le (omega (arith, f.ranged.1)))

      fails : (i : ℕ) → i < f.y * 4 + f.x → long_enough ms unit i ≡ false
      fails i h =
          let same : i ≡ i / 4 * 4 + i % 4 = omega arith in
          let r : Ranged (i / 4) (i % 4) = (omega (arith, f.ranged.0, f.ranged.1), omega arith) in
          ap (long_enough ms unit) same ∙ long_is (i / 4) (i % 4) r ∙ lt-leb _ _ (lt_of_not-le (f.others (i / 4) (i % 4) r (before i h)))

      at : IsLeast (long_enough ms unit) 128 0 (f.y * 4 + f.x)
      at =
          record {
            starts = omega arith;
            ends = omega (arith, f.ranged.0, f.ranged.1);
            fail = λ i a. fails i;
            passes = λ h. long_is f.y f.x f.ranged ∙ le-leb _ _ f.long;
          }

  -- some code is long enough: the search ends at it or before
  some_place : (y x : ℕ) → Ranged y x → Enough ms unit ((4 + x) * 2 ^ y) → first_long ms unit < 128
  some_place y x r g = ⊎_elim (λ e. absurd (passed y x r (omega (arith, e, r.0, r.1)) g)) (λ h. h) (eq-or-lt_of_le place.ends)

  none_place : NoneLong ms unit → first_long ms unit ≡ 128
  none_place n = ⊎_elim (λ e. e) (λ h. let f = at_place (first_long ms unit) refl h in absurd (n f.y f.x f.ranged f.long)) (eq-or-lt_of_le place.ends)

  -- the first code long enough is the shortest
  first_shortest : (code : ℕ) → IsFirst ms unit code → IsShortest ms unit code
  first_shortest code f =
      let fact = code_fact f.y f.x in
      let lasts : quarters_of code ≡ (4 + f.x) * 2 ^ f.y = ap quarters_of f.is ∙ fact.lasts f.ranged in
      record {
        seven = rw f.is (fact.seven f.ranged);
        long = rw lasts f.long;
        others = λ c g.
            let n : (Before (field 0 5 c) (field 5 2 c) f.y f.x → ⊥) = λ b. f.others (field 0 5 c) (field 5 2 c) (any_code c).ranged b (rw (quarters_is c) at g) in
            rw (lasts, quarters_is c) (not_before f.y f.x (field 0 5 c) (field 5 2 c) f.ranged.1 n);
      }

  -- and the shortest is the first: of two shortest codes each lasts at most as long as the other
  shortest_first : (code : ℕ) → IsShortest ms unit code → IsFirst ms unit code
  shortest_first code s =
      let long : first_long ms unit < 128 = some_place (field 0 5 code) (field 5 2 code) (any_code code).ranged (rw (quarters_is code) at s.long) in
      let f = at_place (first_long ms unit) refl long in
      let t = first_shortest (code_at (first_long ms unit)) f in
      let same = lasts_once _ code t.seven s.seven (omega (arith, t.others code s.long, s.others _ t.long)) in
      subst (IsFirst ms unit) same f

  -- the answer's number, and what it says
  accepted : window_number ms unit ≡ 0 → (unit ≤ 15) × (first_long ms unit < 128)
  unfolding window_number
  accepted e =
      let n = first_zero _ tt e in
      (ltb-false _ _ n.0, ⊎_elim (λ q. absurd (eqb-false (first_long ms unit) 128 n.1.0 q)) (λ h. h) (eq-or-lt_of_le place.ends))

  given_first : (code : ℕ) → window_of ms unit ≡ gives (code ∷ []) → (unit ≤ 15) × IsFirst ms unit code
  unfolding window_of
  given_first code e =
      let k : ℕ = first_long ms unit in
      let u = ((unless_fact (window_number ms unit) (code_at k ∷ [])).accepts (code ∷ [])).0 e in
      let n = accepted u.0 in
      let q : code_at k ≡ code = cc in
      (n.0, subst (IsFirst ms unit) q (at_place k refl n.1))

  first_given : (code : ℕ) → unit ≤ 15 → IsFirst ms unit code → window_of ms unit ≡ gives (code ∷ [])
  first_given code h f =
      answer_code ms unit f.y f.x h f.ranged.0 f.ranged.1 (first_place code f) ∙ ap (λ (c : ℕ). gives (c ∷ [])) (sym f.is)

  refused_19 : window_of ms unit ≡ refused 19 → (unit ≤ 15) × (first_long ms unit ≡ 128)
  unfolding window_of window_number
  refused_19 e =
      let n = (exact_fact ((ltb 15 unit, 17) ∷ []) (eqb (first_long ms unit) 128) 19 [] (λ z. omega arith) tt).0 (((unless_fact (window_number ms unit) _).refuses 19).0 e).0 in
      (ltb-false _ _ n.0.0, eqb-true _ _ n.1)

  refused_17 : window_of ms unit ≡ refused 17 → 15 < unit
  unfolding window_of window_number
  refused_17 e =
      ltb-true _ _ ((exact_fact [] (ltb 15 unit) 17 ((eqb (first_long ms unit) 128, 19) ∷ []) (λ z. omega arith) tt).0 (((unless_fact (window_number ms unit) _).refuses 17).0 e).0).1

  pub window_fact : WindowFact ms unit
  window_fact =
      record {
        seventeen = (refused_17, answer_17 ms unit);
        nineteen = (
          λ e. let n = refused_19 e in (n.0, λ y x r. passed y x r (omega (arith, n.1, r.0, r.1))),
          λ h. answer_19 ms unit h.0 (none_place h.1),
        );
        is_first = λ code. (given_first code, λ h. first_given code h.0 h.1);
        is_shortest = λ code. (λ e. let g = given_first code e in (g.0, first_shortest code g.1), λ s. first_given code s.0 (shortest_first code s.1));
        complete = by (leb unit 15) refl;
      }
    where
      by : (t : Bool) → leb unit 15 ≡ t → (window_of ms unit ≡ refused 17) ⊎ ((window_of ms unit ≡ refused 19) ⊎ ((code : ℕ) × (window_of ms unit ≡ gives (code ∷ []))))
      by true e =
          let h = leb-true unit 15 e in
          let k : ℕ = first_long ms unit in
          ⊎_elim (λ q. inr (inl (answer_19 ms unit h q))) (λ l. inr (inr (code_at k, first_given (code_at k) h (at_place k refl l)))) (eq-or-lt_of_le place.ends)
      by false e = inl (answer_17 ms unit (leb-false unit 15 e))

-- ---- a time unit that was read

pub time_read : (x : ℕ) → TimeRead x
unfolding units_of
time_read x ms e = omega (arith, refused_17 ms (units_of x).time e, field_lt 12 4 x)
