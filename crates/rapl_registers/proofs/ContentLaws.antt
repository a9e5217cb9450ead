-- The registers of a domain: which are present, and the ways of a register's read. Assumes nothing.
use Prim.Native.Nat.{ℕ, ◌+◌, ◌≤◌, ◌<◌}
use mathlib.Core.Path.{◌≡◌, ap, ap₂, ◌∙◌}
use mathlib.Core.Bool.{true, false, not}
use mathlib.Core.List.{List, [], ◌∷◌}
use native.Mathlib.Omega.{arith}
use borrow.Author.Tests.{lt-ltb, le-ltb, ltb-false, eq-eqb}
use lib.Dec.{eqb}
use lib.ListN.{length}
use Rattle.words.specs.Answers.{refused, gives, unless, earliest}
use Rattle.words.proofs.AnswerLaws.{unless_where, first_skip, first_take, first_end, first_zero, earliest_zero, stage_stops, stage_passes, stage_last}
use Rattle.words.proofs.TestLaws.{or_take, or_second}
use Rattle.rapl_domains.specs.Domains.{header_in, values, domain_number, domain_of}
use Rattle.rapl_registers.specs.Contents.{present, register_place, register_at, absent, content_number, content_of}
use Rattle.rapl_domains.specs.declared.domains.Header.{Header}
use Rattle.rapl_domains.specs.Facts.{SameHeaders}
use Rattle.rapl_domains.proofs.DomainLaws.{known, inside}
use Rattle.rapl_domains.proofs.SameHeaders.{hangs_on_headers}

-- ---- present

module _ (flags r : ℕ) where
  pub present_0 : r ≡ 0 → present flags r ≡ true
  unfolding present
  present_0 e = or_take _ (eq-eqb _ _ e)

  pub present_1 : r ≡ 1 → present flags r ≡ true
  unfolding present
  present_1 e = or_second (eqb r 0) (or_take _ (eq-eqb _ _ e))

  pub present_9 : r ≡ 9 → present flags r ≡ true
  unfolding present
  present_9 e = or_second (eqb r 0) (or_second (eqb r 1) (or_take _ (eq-eqb _ _ e)))

  -- ---- 17, then 26

  pub absent_17 : 15 < r → absent flags r ≡ 17
  unfolding absent
  absent_17 h = first_take _ _ (lt-ltb _ _ h)

  pub absent_26 : r ≤ 15 → present flags r ≡ false → absent flags r ≡ 26
  unfolding absent
  absent_26 h e = first_skip _ _ (le-ltb _ _ h) ∙ first_take _ _ (ap not e)

  pub absent_none : r ≤ 15 → present flags r ≡ true → absent flags r ≡ 0
  unfolding absent
  absent_none h e = first_skip _ _ (le-ltb _ _ h) ∙ first_skip _ _ (ap not e) ∙ first_end

-- ---- the read

module _ (s : List ℕ) (n r : ℕ) where
  pub content_refused : {m : ℕ} → domain_of s n ≡ refused m → content_of s n r ≡ refused m
  unfolding domain_of content_of content_number
  content_refused e = stage_stops (domain_number s n) _ _ _ e

  -- of a sound domain the register's own tests decide
  pub content_by : {m : ℕ} → domain_number s n ≡ 0 → absent (header_in s n).flags r ≡ m → content_of s n r ≡ unless m (gives (register_at s n r ∷ []))
  unfolding content_of content_number
  content_by z e = stage_passes _ _ z (stage_last _ _) ∙ ap (λ (k : ℕ). unless k (gives (register_at s n r ∷ []))) e

  -- the ways of the code, once the domain is known
  module _ {h : Header} (d : domain_of s n ≡ gives (values h)) where
    content_known : {m : ℕ} → absent h.flags r ≡ m → content_of s n r ≡ unless m (gives (register_at s n r ∷ []))
    content_known e = let k = known s n d in content_by k.0 (ap (λ (g : Header). absent g.flags r) k.1 ∙ e)

    pub content_17 : 15 < r → content_of s n r ≡ refused 17
    content_17 l = content_known (absent_17 h.flags r l)

    pub content_26 : r ≤ 15 → present h.flags r ≡ false → content_of s n r ≡ refused 26
    content_26 l e = content_known (absent_26 h.flags r l e)

    pub content_given : r ≤ 15 → present h.flags r ≡ true → content_of s n r ≡ gives (register_at s n r ∷ [])
    content_given l e = content_known (absent_none h.flags r l e)

    pub domain_low : n ≤ 255
    domain_low = (inside s n (known s n d).0).0

  -- a register of a sound domain lies inside the instance
  pub register_inside : domain_number s n ≡ 0 → r ≤ 15 → register_place n r + 8 ≤ length s
  register_inside z h = omega (arith, (inside s n z).1)

-- what the proof of `register_in` goes by
pub ruleset content_ways = (content_refused, content_17, content_26, content_given, domain_low)

-- ---- two instances of one length with the same headers

module _ (s t : List ℕ) (same : SameHeaders s t) (n r : ℕ) where
  number_same : content_number s n r ≡ content_number t n r
  unfolding content_number
  number_same = ap₂ (λ (d : ℕ) (h : Header). earliest (d ∷ absent h.flags r ∷ [])) (hangs_on_headers s t same n).0 (same.1 n)

  -- a register past the sixteen is refused
  register_low : content_number t n r ≡ 0 → r ≤ 15
  unfolding content_number absent
  register_low z = ltb-false _ _ (first_zero _ tt (earliest_zero _ _ (earliest_zero _ _ z).1).0).0

  -- a register is read the same where it has the same content
  pub content_same : (r ≤ 15 → register_at s n r ≡ register_at t n r) → content_of s n r ≡ content_of t n r
  unfolding content_of
  content_same e =
      ap (λ (k : ℕ). unless k (gives (register_at s n r ∷ []))) number_same
      ∙ unless_where (content_number t n r) (λ z. ap (λ (x : ℕ). gives (x ∷ [])) (e (register_low z)))
