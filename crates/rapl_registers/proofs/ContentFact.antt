-- The theorem of Facts.antt on the registers of a domain. Assumes nothing.
use Prim.Native.Nat.{ℕ, ◌≤◌, ◌<◌}
use mathlib.Core.Path.{◌≡◌, ap, ◌∙◌}
use mathlib.Core.Bool.{true, false, not}
use mathlib.Core.List.{List, [], ◌∷◌}
use mathlib.Core.Logic.{inl, inr, ⊎_elim, ◌↔◌}
use native.Mathlib.Omega.{arith}
use borrow.Author.Tests.{ltb-true, ltb-false, leb-true, le-leb, eq-eqb, eqb-true, not-true, not-false}
use lib.Dec.{ltb, leb, eqb}
use Rattle.words.specs.Answers.{refused, gives, unless}
use Rattle.fields.specs.Bits.{field}
use Rattle.words.proofs.AnswerLaws.{unless_number, first_zero, earliest_stop, two_pass, two_zero, two_from}
use Rattle.words.proofs.TestLaws.{or_either, or_second, and_both, and_holds, fails_else}
use Rattle.words.proofs.Theorems.{exact_fact, unless_fact}
use Rattle.rapl_domains.specs.Domains.{header_in, domain_number}
use Rattle.rapl_registers.specs.Contents.{present, register_at, absent, content_number, content_of}
use Rattle.rapl_registers.specs.Facts.{Present, RegisterFact}
use Rattle.rapl_domains.proofs.DomainLaws.{number_low}
use Rattle.rapl_registers.proofs.ContentLaws.{present_0, present_1, present_9, absent_17, absent_26, absent_none}

pub present_exactly : (flags r : ℕ) → (present flags r ≡ true) ↔ Present flags r
unfolding present
present_exactly flags r = (
  λ e.
      ⊎_elim (λ a. inl (eqb-true _ _ a))
      (λ f. ⊎_elim (λ a. inr (inl (eqb-true _ _ a))) (λ g. ⊎_elim (λ a. inr (inr (inl (eqb-true _ _ a)))) (λ a. let b = and_both (leb r 15) (eqb (field r 1 flags) 1) a in inr (inr (inr (leb-true _ _ b.0, eqb-true _ _ b.1)))) (or_either (eqb r 9) _ g)) (or_either (eqb r 1) _ f))
      (or_either (eqb r 0) _ e),
  ⊎_elim (present_0 flags r) (⊎_elim (present_1 flags r) (⊎_elim (present_9 flags r) (λ b. or_second (eqb r 0) (or_second (eqb r 1) (or_second (eqb r 9) (and_holds (le-leb _ _ b.0) (eq-eqb _ _ b.1))))))),
)

absent_exactly : (flags r : ℕ) → (present flags r ≡ false) ↔ (Present flags r → ⊥)
absent_exactly flags r = fails_else (present flags r) (present_exactly flags r)

-- the register's own tests: 17, 26, none
seventeen_exactly : (flags r : ℕ) → (absent flags r ≡ 17) ↔ (15 < r)
unfolding absent
seventeen_exactly flags r =
    let n17 = exact_fact [] (ltb 15 r) 17 ((not (present flags r), 26) ∷ []) (λ z. omega arith) tt in
    (λ e. ltb-true _ _ (n17.0 e).1, absent_17 flags r)

twenty_six_exactly : (flags r : ℕ) → (absent flags r ≡ 26) ↔ ((r ≤ 15) × (Present flags r → ⊥))
unfolding absent
twenty_six_exactly flags r =
    let n26 = exact_fact ((ltb 15 r, 17) ∷ []) (not (present flags r)) 26 [] (λ z. omega arith) tt in
    (λ e. let f = n26.0 e in (ltb-false _ _ f.0.0, (absent_exactly flags r).0 (not-true _ f.1)), λ h. absent_26 flags r h.0 ((absent_exactly flags r).1 h.1))

none_exactly : (flags r : ℕ) → (absent flags r ≡ 0) ↔ ((r ≤ 15) × Present flags r)
unfolding absent
none_exactly flags r = (
  λ e. let f = first_zero _ tt e in (ltb-false _ _ f.0, (present_exactly flags r).0 (not-false _ f.1.0)),
  λ h. absent_none flags r h.0 ((present_exactly flags r).1 h.1),
)

module _ (s : List ℕ) (n r : ℕ) where
  -- a number above those of the lookup comes from the register's own tests
  own : (k : ℕ) → 16 < k → (content_of s n r ≡ refused k) ↔ ((domain_number s n ≡ 0) × (absent (header_in s n).flags r ≡ k))
  unfolding content_of content_number
  own k h = (
    λ e. two_from (domain_number s n) _ (λ z. omega (arith, z, number_low s n)) (((unless_fact (content_number s n r) (register_at s n r ∷ [])).refuses k).0 e).0,
    λ a. ((unless_fact (content_number s n r) (register_at s n r ∷ [])).refuses k).1 (two_pass _ a.0 ∙ a.1, λ z. omega arith),
  )

  pub register_fact : RegisterFact s n r
  unfolding content_of content_number
  register_fact =
      let given = (unless_fact (content_number s n r) (register_at s n r ∷ [])).accepts in
      let f : ℕ = (header_in s n).flags in
      record {
        handed_on = λ h. ap (λ (k : ℕ). unless k (gives (register_at s n r ∷ []))) (earliest_stop (domain_number s n) _ h) ∙ unless_number _ _ h;
        seventeen = (λ e. let a = (own 17 (omega arith)).0 e in (a.0, (seventeen_exactly f r).0 a.1), λ h. (own 17 (omega arith)).1 (h.0, (seventeen_exactly f r).1 h.1));
        absent = (
          λ e. let a = (own 26 (omega arith)).0 e in let b = (twenty_six_exactly f r).0 a.1 in (a.0, b.0, b.1),
          λ h. (own 26 (omega arith)).1 (h.0, (twenty_six_exactly f r).1 (h.1, h.2)),
        );
        content = λ x. (
          λ e.
              let g = (given (x ∷ [])).0 e in
              let z = (two_zero _ _).0 g.0 in
              let b = (none_exactly f r).0 z.1 in
              let same = g.1 in
              (z.0, b.0, b.1, cc),
          λ h. (given (x ∷ [])).1 ((two_zero _ _).1 (h.0, (none_exactly f r).1 (h.1, h.2)), ap (λ (y : ℕ). y ∷ []) h.3),
        );
      }
