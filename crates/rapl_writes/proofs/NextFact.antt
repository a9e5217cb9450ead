-- The theorem of Facts.antt on what the register holds next: the domain's refusal, then the write's own (crate rapl_permits). Assumes nothing.
use Prim.Native.Nat.{ℕ, ◌+◌, ◌<◌}
use mathlib.Core.Path.{◌≡◌, ap, ◌∙◌}
use mathlib.Core.List.{List, [], ◌∷◌}
use mathlib.Core.Logic.{◌↔◌, ◌≢◌}
use native.Mathlib.Omega.{arith}
use Rattle.words.specs.Answers.{refused, gives, unless}
use Rattle.words.proofs.AnswerLaws.{unless_number, earliest_stop, two_pass, two_zero, two_from}
use Rattle.words.proofs.Theorems.{unless_fact}
use Rattle.rapl_domains.specs.Domains.{header_in, domain_number}
use Rattle.rapl_registers.specs.Contents.{register_at}
use Rattle.rapl_domains.proofs.DomainLaws.{number_low}
use Rattle.rapl_permits.specs.Permits.{refusal_of}
use Rattle.rapl_writes.specs.Next.{next_content, next_number, next_of}
use Rattle.rapl_writes.specs.Facts.{NextFact}
use Rattle.rapl_permits.proofs.PermitFact.{permit_fact}

module _ (s : List ℕ) (n limit which value : ℕ) where
  abbrev refusal : ℕ
  refusal = refusal_of (header_in s n) limit which value (register_at s n (limit + 1))

  -- a number above those of the lookup comes from the write's own tests
  own : (k : ℕ) → 16 < k → (next_of s n limit which value ≡ refused k) ↔ ((domain_number s n ≡ 0) × (refusal ≡ k))
  unfolding next_of next_number
  own k h = (
    λ e. two_from (domain_number s n) _ (λ z. omega (arith, z, number_low s n)) (((unless_fact (next_number s n limit which value) (next_content s n limit which value ∷ [])).refuses k).0 e).0,
    λ a. ((unless_fact (next_number s n limit which value) (next_content s n limit which value ∷ [])).refuses k).1 (two_pass _ a.0 ∙ a.1, λ z. omega arith),
  )

  handed : domain_number s n ≢ 0 → next_of s n limit which value ≡ refused (domain_number s n)
  unfolding next_of next_number
  handed h = ap (λ (k : ℕ). unless k (gives (next_content s n limit which value ∷ []))) (earliest_stop (domain_number s n) _ h) ∙ unless_number _ _ h

  -- a content is given exactly where no test holds, and it is the next content
  given : (y : ℕ) → (next_of s n limit which value ≡ gives (y ∷ [])) ↔ ((domain_number s n ≡ 0) × (refusal ≡ 0) × (next_content s n limit which value ≡ y))
  unfolding next_of next_number
  given y =
      let u = (unless_fact (next_number s n limit which value) (next_content s n limit which value ∷ [])).accepts (y ∷ []) in (
        λ e. let g = u.0 e in let z = (two_zero (domain_number s n) _).0 g.0 in let same = g.1 in (z.0, z.1, cc),
        λ h. u.1 ((two_zero (domain_number s n) _).1 (h.0, h.1), ap (λ (z : ℕ). z ∷ []) h.2),
      )

  pub next_fact : NextFact s n limit which value
  next_fact =
      let p = permit_fact (header_in s n) limit which value (register_at s n (limit + 1)) in
      record {
        handed_on = handed;
        absent = by 26 (omega arith) p.absent;
        unwritable = by 27 (omega arith) p.unwritable;
        wide = by 17 (omega arith) p.wide;
        locked = by 18 (omega arith) p.locked;
        content = λ y. (λ e. let g = (given y).0 e in (g.0, p.permitted.0 g.1, g.2), λ h. (given y).1 (h.0, p.permitted.1 h.1, h.2));
      }
    where
      by : (k : ℕ) → 16 < k → {P : Type 0} → (refusal ≡ k) ↔ P → (next_of s n limit which value ≡ refused k) ↔ ((domain_number s n ≡ 0) × P)
      by k l q = (λ e. let a = (own k l).0 e in (a.0, q.0 a.1), λ h. (own k l).1 (h.0, q.1 h.1))
