-- A chain's turn and its ends. Assumes nothing.
use Prim.Native.Nat.{ℕ, zero, suc, ◌-◌, ◌<◌}
use mathlib.Core.Path.{◌≡◌, refl, sym, ap, ap₂, ◌∙◌}
use mathlib.Core.Bool.{Bool}
use mathlib.Core.List.{List, [], ◌∷◌}
use mathlib.Core.Logic.{◌≢◌}
use native.Mathlib.Nat.{not-suc-le-zero}
use native.Mathlib.Omega.{arith}
use borrow.Author.Tests.{eq-eqb, ne_eqb}
use lib.Dec.{eqb}
use Rattle.words.specs.Answers.{Answer, refused, gives, unless}
use Rattle.words.proofs.AnswerLaws.{unless_stops, unless_passes}
use Rattle.rapl_domains.specs.Domains.{values, domain_number, domain_of}
use Rattle.rapl_chains.specs.Chains.{parent_of, Step, broken, root, up, step_of, step_at, onward, none_left, climb_from, chain_of}
use Rattle.rapl_domains.specs.declared.domains.Header.{Header}
use Rattle.rapl_domains.specs.Facts.{SameHeaders}
use Rattle.rapl_domains.proofs.DomainLaws.{known, refused_by}
use Rattle.rapl_domains.proofs.SameHeaders.{hangs_on_headers}

step_broken : (m : ℕ) (itself : Bool) (p : ℕ) → m ≢ 0 → step_of m itself p ≡ broken
step_broken zero itself p h = absurd (h refl)
step_broken (suc m) itself p h = refl

-- where a chain goes on with so many steps left
abbrev pub next : List ℕ → ℕ → ℕ → Answer
next s zero = none_left
next s (suc left) = climb_from s left

module _ (s : List ℕ) (n : ℕ) where
  pub climb_turn : (left : ℕ) {t : Step} → step_at s n ≡ t → climb_from s left n ≡ onward t (255 - left) (next s left)
  unfolding climb_from
  climb_turn zero e = ap (λ (t : Step). onward t 255 none_left) e
  climb_turn (suc left) e = ap (λ (t : Step). onward t (255 - suc left) (climb_from s left)) e

  -- ---- what stands at n

  pub at_broken : domain_number s n ≢ 0 → step_at s n ≡ broken
  unfolding step_at
  at_broken h = step_broken (domain_number s n) _ _ h

  pub at_root : domain_number s n ≡ 0 → parent_of s n ≡ n → step_at s n ≡ root
  unfolding step_at
  at_root z e = ap₂ (λ (m : ℕ) (t : Bool). step_of m t (parent_of s n)) z (eq-eqb _ _ e)

  pub at_up : domain_number s n ≡ 0 → parent_of s n ≢ n → step_at s n ≡ up (parent_of s n)
  unfolding step_at
  at_up z e = ap₂ (λ (m : ℕ) (t : Bool). step_of m t (parent_of s n)) z (ne_eqb _ _ e)

  -- ---- the ways of the code

  pub climb_broken : {m : ℕ} (left : ℕ) → domain_of s n ≡ refused m → climb_from s left n ≡ refused 24
  climb_broken left e = let r = refused_by s n e in climb_turn left (at_broken (λ z. r.1 (sym r.0 ∙ z)))

  module _ (h : Header) (e : domain_of s n ≡ gives (values h)) where
    parent_is : parent_of s n ≡ h.parent
    parent_is = ap (λ (g : Header). g.parent) (known s n e).1

    pub climb_root : (left : ℕ) → h.parent ≡ n → climb_from s left n ≡ gives ((255 - left) ∷ [])
    climb_root left q = climb_turn left (at_root (known s n e).0 (parent_is ∙ q))

    goes : h.parent ≢ n → step_at s n ≡ up h.parent
    goes q = at_up (known s n e).0 (λ z. q (sym parent_is ∙ z)) ∙ ap up parent_is

    pub climb_last : (left : ℕ) → h.parent ≢ n → left ≡ 0 → climb_from s left n ≡ refused 24
    climb_last left q z = climb_turn left (goes q) ∙ ap (λ (k : ℕ). next s k h.parent) z

    pub climb_up : (left : ℕ) → h.parent ≢ n → 0 < left → climb_from s left n ≡ climb_from s (left - 1) h.parent
    climb_up zero q l = absurd (not-suc-le-zero l)
    climb_up (suc left) q l = let z : left ≡ suc left - 1 = omega arith in climb_turn (suc left) (goes q) ∙ ap (λ (k : ℕ). climb_from s k h.parent) z

    pub chain_begins : chain_of s n ≡ climb_from s 255 n
    unfolding chain_of
    chain_begins = unless_passes _ (known s n e).0

  pub chain_refused : {m : ℕ} → domain_of s n ≡ refused m → chain_of s n ≡ refused m
  unfolding domain_of chain_of
  chain_refused e = unless_stops (domain_number s n) _ _ e

-- what the proofs of `climb` and `chain_in` go by
pub ruleset climb_ways = (climb_broken, climb_root, climb_last, climb_up)

pub ruleset chain_ways = (chain_begins, chain_refused)

-- ---- two instances of one length with the same headers

module _ (s t : List ℕ) (same : SameHeaders s t) where
  step_same : (n : ℕ) → step_at s n ≡ step_at t n
  unfolding step_at
  step_same n = ap₂ (λ (d : ℕ) (h : Header). step_of d (eqb h.parent n) h.parent) (hangs_on_headers s t same n).0 (same.1 n)

  -- a step that is the same, and the same way on from each place
  on_same : {a b : Step} (gone : ℕ) (f g : ℕ → Answer) → a ≡ b → ((p : ℕ) → f p ≡ g p) → onward a gone f ≡ onward b gone g
  on_same {a} {b} gone f g e h = ap (λ (x : Step). onward x gone f) e ∙ by b
    where
      by : (x : Step) → onward x gone f ≡ onward x gone g
      by broken = refl
      by root = refl
      by (up p) = h p

  climb_same : (left n : ℕ) → climb_from s left n ≡ climb_from t left n
  unfolding climb_from
  climb_same zero n = on_same 255 none_left none_left (step_same n) (λ p. refl)
  climb_same (suc left) n = on_same (255 - suc left) (climb_from s left) (climb_from t left) (step_same n) (climb_same left)

  pub chain_same : (n : ℕ) → chain_of s n ≡ chain_of t n
  unfolding chain_of
  chain_same n = ap₂ unless (hangs_on_headers s t same n).0 (climb_same 255 n)
