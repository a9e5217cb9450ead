-- The lookup of a domain, stage by stage, and what its answer tells. Assumes nothing.
use Prim.Native.Nat.{ℕ, ◌+◌, ◌≤◌}
use mathlib.Core.Path.{◌≡◌, sym, ap, ◌∙◌}
use mathlib.Core.Bool.{false, cond}
use mathlib.Core.List.{List}
use mathlib.Core.Logic.{◌≢◌}
use native.Mathlib.Omega.{arith}
use borrow.Author.Tests.{le-ltb, ltb-false}
use lib.Dec.{ltb}
use lib.ListN.{length, get_or}
use Rattle.words.specs.Answers.{refused, gives, unless}
use Rattle.words.proofs.AnswerLaws.{unless_gives, unless_refused, first_skip, first_take, first_zero, first_upto, staged_refused, staged_gives, staged_last}
use Rattle.words.proofs.TestLaws.{as_must, or_skip, or_neither}
use Rattle.rapl_domains.specs.Domains.{values, block_at, header_in, missing, unused, wrong, unsound, domain_number, domain_of}
use Rattle.rapl_domains.specs.declared.domains.Header.{Header}

-- a header is known by its numbers
pub values_once : (g h : Header) → values g ≡ values h → g ≡ h
values_once g h e =
    ap (λ (l : List ℕ). record { version = get_or l 0 0; kind = get_or l 1 0; size = get_or l 2 0; parent = get_or l 3 0; flags = get_or l 4 0; reserved48 = get_or l 5 0 }) e

-- ---- version and SIZE

module _ (h : Header) where
  pub none_wrong : h.version ≡ 1 → h.size ≡ 1 → wrong h ≡ false
  unfolding wrong
  none_wrong v e = or_skip _ (as_must v) ∙ as_must e

module _ (s : List ℕ) (n : ℕ) where
  -- ---- the block

  pub block_there : n ≤ 255 → block_at n + 128 ≤ length s → missing s n ≡ false
  unfolding missing
  block_there h l = or_skip _ (le-ltb _ _ h) ∙ le-ltb _ _ l

  pub there : missing s n ≡ false → (n ≤ 255) × (block_at n + 128 ≤ length s)
  unfolding missing
  there e = let f = or_neither (ltb 255 n) _ e in (ltb-false _ _ f.0, ltb-false _ _ f.1)

  -- ---- the stages of the lookup

  by_number : {m : ℕ} → domain_number s n ≡ m → domain_of s n ≡ unless m (gives (values (header_in s n)))
  unfolding domain_of
  by_number e = ap (λ (k : ℕ). unless k (gives (values (header_in s n)))) e

  pub block_stops : {m : ℕ} → cond (missing s n) (refused 12) (gives (values (header_in s n))) ≡ refused m → domain_of s n ≡ refused m
  unfolding domain_number
  block_stops e = let f = staged_refused (missing s n) 12 _ e in by_number (first_take _ _ f.0) ∙ ap refused f.1

  module _ (h : Header) (b : cond (missing s n) (refused 12) (gives (values (header_in s n))) ≡ gives (values h)) where
    whole : missing s n ≡ false
    whole = (staged_gives (missing s n) 12 _ b).0

    same : header_in s n ≡ h
    same = values_once (header_in s n) h (staged_gives (missing s n) 12 _ b).1

    pub used_stops : {m : ℕ} → cond (unused h) (refused 15) (gives (values h)) ≡ refused m → domain_of s n ≡ refused m
    unfolding domain_number
    used_stops e =
        let f = staged_refused (unused h) 15 _ e in
        by_number (first_skip _ _ whole ∙ first_take _ _ (ap unused same ∙ f.0)) ∙ ap refused f.1

    pub sound_last : (t : Header) → cond (unused h) (refused 15) (gives (values h)) ≡ gives (values t) → cond (wrong t) (refused 16) (gives (values t)) ≡ domain_of s n
    unfolding domain_of domain_number unsound
    sound_last t u =
        let f = staged_gives (unused h) 15 _ u in
        let is : t ≡ header_in s n = sym (same ∙ values_once h t f.1) in
        ap (λ (g : Header). cond (wrong g) (refused 16) (gives (values g))) is
        ∙ sym (staged_last (wrong (header_in s n)) 16 (values (header_in s n)) (λ z. omega arith))
        ∙ ap (λ (k : ℕ). unless k (gives (values (header_in s n)))) (sym (first_skip _ _ whole ∙ first_skip _ _ (ap unused same ∙ f.0)))

  -- ---- what the answer tells

  pub known : {h : Header} → domain_of s n ≡ gives (values h) → (domain_number s n ≡ 0) × (header_in s n ≡ h)
  unfolding domain_of
  known {h} e = let u = unless_gives (domain_number s n) e in (u.0, values_once (header_in s n) h u.1)

  pub refused_by : {m : ℕ} → domain_of s n ≡ refused m → (domain_number s n ≡ m) × (m ≢ 0)
  unfolding domain_of
  refused_by e = unless_refused (domain_number s n) _ e

  -- the lookup gives no number above 16
  pub number_low : domain_number s n ≤ 16
  unfolding domain_number
  number_low = first_upto 16 _ tt

  -- a sound domain lies wholly inside
  pub inside : domain_number s n ≡ 0 → (n ≤ 255) × (block_at n + 128 ≤ length s)
  unfolding domain_number
  inside e = there (first_zero _ tt e).0

-- what the proof of `domain_in` goes by
pub ruleset domain_ways = (block_stops, used_stops, sound_last)
