-- What a limit's register holds next: the ways of the code, and what the answer tells. Assumes nothing.
use Prim.Native.Nat.{ℕ, ◌+◌, ◌≤◌, ◌<◌}
use mathlib.Core.Path.{◌≡◌, refl, sym, ap, ap₂, ◌∙◌}
use mathlib.Core.List.{List, [], ◌∷◌}
use mathlib.Core.Logic.{◌≢◌}
use native.Mathlib.Omega.{arith}
use lib.ListN.{length}
use Rattle.words.specs.Answers.{refused, gives, unless}
use Rattle.fields.specs.Bits.{with_field}
use Rattle.words.proofs.AnswerLaws.{unless_number, unless_gives, unless_refused, two_pass, two_zero, stage_stops}
use Rattle.rapl_domains.specs.Domains.{header_in, values, domain_number, domain_of}
use Rattle.rapl_registers.specs.Contents.{register_place, register_at}
use Rattle.rapl_domains.specs.declared.domains.Header.{Header}
use Rattle.rapl_domains.proofs.DomainLaws.{known}
use Rattle.rapl_registers.proofs.ContentLaws.{register_inside}
use Rattle.rapl_permits.specs.Permits.{lowest_of, width_of, refusal_of}
use Rattle.rapl_writes.specs.Next.{next_content, next_number, next_of}
use Rattle.rapl_permits.proofs.PermitLaws.{Passed, passed, limit_small, no_limit, refusal_other}

module _ (s : List ℕ) (n limit which value : ℕ) where
  pub next_refused : {m : ℕ} → domain_of s n ≡ refused m → next_of s n limit which value ≡ refused m
  unfolding domain_of next_of next_number
  next_refused e = stage_stops (domain_number s n) _ _ _ e

  by_number : {m : ℕ} → next_number s n limit which value ≡ m → next_of s n limit which value ≡ unless m (gives (next_content s n limit which value ∷ []))
  unfolding next_of
  by_number e = ap (λ (k : ℕ). unless k (gives (next_content s n limit which value ∷ []))) e

  -- of a sound domain the write's own tests decide
  module _ {h : Header} (d : domain_of s n ≡ gives (values h)) {x : ℕ} (e : x ≡ register_at s n (limit + 1)) where
    own : next_number s n limit which value ≡ refusal_of h limit which value x
    unfolding next_number
    own =
        let k = known s n d in
        two_pass _ k.0 ∙ ap₂ (λ (g : Header) (y : ℕ). refusal_of g limit which value y) k.1 (sym e)

    pub next_stops : {m : ℕ} → m ≡ refusal_of h limit which value x → m ≢ 0 → next_of s n limit which value ≡ refused m
    next_stops {m} q z = by_number (own ∙ sym q) ∙ unless_number m _ z

    pub next_given : {y : ℕ} → refusal_of h limit which value x ≡ 0 → y ≡ with_field (lowest_of which) (width_of which) x value → next_of s n limit which value ≡ gives (y ∷ [])
    unfolding next_content
    next_given {y} z w =
        by_number (own ∙ z)
        ∙ ap (λ (k : ℕ). gives (k ∷ [])) (ap (λ (k : ℕ). with_field (lowest_of which) (width_of which) k value) (sym e) ∙ sym w)

  -- no such limit
  pub next_no_limit : {h : Header} → domain_of s n ≡ gives (values h) → 2 < limit → next_of s n limit which value ≡ refused 27
  next_no_limit {h} d l = next_stops d refl (sym (refusal_other h limit which value _ (no_limit limit l))) (λ z. omega arith)

  -- ---- what the answer tells

  pub given_by : {y : ℕ} → next_of s n limit which value ≡ gives (y ∷ []) → (next_number s n limit which value ≡ 0) × (next_content s n limit which value ≡ y)
  unfolding next_of
  given_by {y} e =
      let u = unless_gives (next_number s n limit which value) e in
      let same = u.1 in
      let q : next_content s n limit which value ≡ y = cc in
      (u.0, q)

  pub stopped_by : {m : ℕ} → next_of s n limit which value ≡ refused m → (next_number s n limit which value ≡ m) × (m ≢ 0)
  unfolding next_of
  stopped_by e = unless_refused (next_number s n limit which value) _ e

  -- a permitted write: a sound domain, its tests passed, and the register inside the instance
  pub permitted : next_number s n limit which value ≡ 0 → (domain_number s n ≡ 0) × Passed (header_in s n) limit which value (register_at s n (limit + 1))
  unfolding next_number
  permitted z = let t = (two_zero (domain_number s n) _).0 z in (t.0, passed _ _ _ _ _ t.1)

  pub next_inside : next_number s n limit which value ≡ 0 → register_place n (limit + 1) + 8 ≤ length s
  next_inside z =
      let p = permitted z in
      register_inside s n (limit + 1) p.0 (omega (arith, limit_small limit p.1.a_limit_law))
