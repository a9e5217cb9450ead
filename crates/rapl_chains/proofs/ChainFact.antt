-- The theorem of Facts.antt on parent chains, under its name. Assumes nothing.
use Prim.Native.Nat.{ℕ, zero, suc, ◌+◌, ◌-◌, ◌<◌, ◌≤◌}
use mathlib.Core.Bool.{Bool, true, false}
use mathlib.Core.Logic.{◌⊎◌, inl, inr, ⊎_elim}
use mathlib.Core.List.{List, [], ◌∷◌}
use mathlib.Core.Path.{◌≡◌, refl, sym, ap, ◌∙◌, subst}
use native.Mathlib.Nat.{not-suc-le-zero}
use native.Mathlib.Omega.{arith}
use borrow.Author.Tests.{eqb-true, eqb-false, leb-true, leb-false}
use lib.Dec.{eqb, leb}
use Rattle.words.specs.Answers.{Answer, refused, gives, unless}
use Rattle.words.proofs.AnswerLaws.{unless_number, unless_passes}
use Rattle.rapl_domains.specs.Domains.{domain_number}
use Rattle.rapl_chains.specs.Chains.{parent_of, climb_from, chain_of}
use Rattle.rapl_chains.specs.Facts.{ancestor, Root, IsChain, ChainFact}
use Rattle.rapl_domains.specs.Facts.{Sound}
use Rattle.rapl_domains.proofs.DomainLaws.{number_low}
use Rattle.rapl_chains.proofs.ShortChains.{chain_short}
use Rattle.rapl_chains.proofs.ChainLaws.{climb_turn, at_broken, at_root, at_up}

-- what stands at n: no sound domain, a root, or a domain with another parent
data Kind (s : List ℕ) (n : ℕ) : Type 0 where
  unsound : (Sound s n → ⊥) → Kind s n
  top : Sound s n → Root s n → Kind s n
  under : Sound s n → (Root s n → ⊥) → Kind s n

kind : (s : List ℕ) (n : ℕ) → Kind s n
kind s n = by (domain_number s n) (eqb (parent_of s n) n) refl refl
  where
    by : (m : ℕ) (t : Bool) → domain_number s n ≡ m → eqb (parent_of s n) n ≡ t → Kind s n
    by zero true d e = top d (eqb-true _ _ e)
    by zero false d e = under d (eqb-false _ _ e)
    by (suc m) t d e = unsound (λ z. let y : suc m ≡ 0 = sym d ∙ z in omega arith)

module _ (s : List ℕ) where
  -- a root is a chain of no steps
  chain_root : (n : ℕ) → Sound s n → Root s n → IsChain s n 0
  unfolding ancestor
  chain_root n d r = record { sound = λ j h. let z : 0 ≡ j = omega arith in subst (λ (i : ℕ). Sound s (ancestor s n i)) z d; root = r; first = λ j h q. not-suc-le-zero h }

  -- a chain of one step more, and of one less
  sound_up : (n k : ℕ) → Sound s n → IsChain s (parent_of s n) k → (j : ℕ) → j ≤ suc k → Sound s (ancestor s n j)
  unfolding ancestor
  sound_up n k d c zero h = d
  sound_up n k d c (suc j) h = c.sound j (omega arith)

  first_up : (n k : ℕ) → (Root s n → ⊥) → IsChain s (parent_of s n) k → (j : ℕ) → j < suc k → Root s (ancestor s n j) → ⊥
  unfolding ancestor
  first_up n k r c zero h = r
  first_up n k r c (suc j) h = c.first j (omega arith)

  chain_up : (n k : ℕ) → Sound s n → (Root s n → ⊥) → IsChain s (parent_of s n) k → IsChain s n (suc k)
  unfolding ancestor
  chain_up n k d r c = record { sound = sound_up n k d c; root = c.root; first = first_up n k r c }

  chain_down : (n k : ℕ) → IsChain s n (suc k) → IsChain s (parent_of s n) k
  unfolding ancestor
  chain_down n k c = record { sound = λ j h. c.sound (suc j) (omega arith); root = c.root; first = λ j h. c.first (suc j) (omega arith) }

  chain_sound : (n k : ℕ) → IsChain s n k → Sound s n
  unfolding ancestor
  chain_sound n k c = c.sound 0 (omega arith)

  chain_zero : (n : ℕ) → IsChain s n 0 → Root s n
  unfolding ancestor
  chain_zero n c = c.root

  -- a chain has one length
  once : (n j k : ℕ) → IsChain s n j → IsChain s n k → j ≡ k
  once n j k a b = by (leb j k) (leb k j) refl refl
    where
      by : (t u : Bool) → leb j k ≡ t → leb k j ≡ u → j ≡ k
      by true true p q = omega (arith, leb-true j k p, leb-true k j q)
      by true false p q = absurd (b.first j (leb-false k j q) a.root)
      by false u p q = absurd (a.first k (leb-false j k p) b.root)

  -- with so many steps left: a length, or none
  abbrev Climbs : ℕ → ℕ → Type 0
  Climbs left n = ((k : ℕ) × (k ≤ left) × (climb_from s left n ≡ gives ((255 - left + k) ∷ [])) × IsChain s n k)
      ⊎ ((climb_from s left n ≡ refused 24) × ((k : ℕ) → k ≤ left → IsChain s n k → ⊥))

  -- a domain that is no root has no chain of no steps
  none_shorter : (n left : ℕ) → (Root s n → ⊥) → ((k : ℕ) → suc k ≤ left → IsChain s (parent_of s n) k → ⊥) → (k : ℕ) → k ≤ left → IsChain s n k → ⊥
  none_shorter n left r f zero h c = r (chain_zero n c)
  none_shorter n left r f (suc k) h c = f k h (chain_down n k c)

  at_top : (left n : ℕ) → Sound s n → Root s n → Climbs left n
  at_top left n d r =
      let z : 255 - left ≡ 255 - left + 0 = omega arith in
      inl (0, omega arith, climb_turn s n left (at_root s n d r) ∙ ap (λ (k : ℕ). gives (k ∷ [])) z, chain_root n d r)

  at_unsound : (left n : ℕ) → (Sound s n → ⊥) → Climbs left n
  at_unsound left n d = inr (climb_turn s n left (at_broken s n d), λ k h c. d (chain_sound n k c))

  climbs : (left n : ℕ) → left ≤ 255 → Climbs left n
  climbs zero n l = by (kind s n)
    where
      by : Kind s n → Climbs 0 n
      by (unsound d) = at_unsound 0 n d
      by (top d r) = at_top 0 n d r
      by (under d r) = inr (climb_turn s n 0 (at_up s n d r), none_shorter n 0 r (λ k h c. not-suc-le-zero h))
  climbs (suc left) n l = by (kind s n) (climbs left (parent_of s n) (omega arith))
    where
      by : Kind s n → Climbs left (parent_of s n) → Climbs (suc left) n
      by (unsound d) i = at_unsound (suc left) n d
      by (top d r) i = at_top (suc left) n d r
      by (under d r) (inl w) =
          let z : 255 - left + w.0 ≡ 255 - suc left + suc w.0 = omega arith in
          inl (suc w.0, omega (arith, w.1), climb_turn s n (suc left) (at_up s n d r) ∙ w.2 ∙ ap (λ (k : ℕ). gives (k ∷ [])) z, chain_up n w.0 d r w.3)
      by (under d r) (inr w) = inr (climb_turn s n (suc left) (at_up s n d r) ∙ w.0, none_shorter n (suc left) r (λ k h c. w.1 k (omega arith) c))

  module _ (n : ℕ) where
    whole : Sound s n → chain_of s n ≡ climb_from s 255 n
    unfolding chain_of
    whole d = unless_passes _ d

    -- an answer that is no refusal of the lookup comes from a sound domain
    from_sound : {a : Answer} → chain_of s n ≡ a → ((m : ℕ) → m ≤ 16 → a ≡ refused m → ⊥) → Sound s n
    unfolding chain_of
    from_sound {a} e f = by (domain_number s n) refl
      where
        by : (m : ℕ) → domain_number s n ≡ m → Sound s n
        by zero d = d
        by (suc m) d = absurd (f (suc m) (omega (arith, number_low s n)) (sym e ∙ ap (λ (k : ℕ). unless k (climb_from s 255 n)) d))

    not_gives : (k m : ℕ) → gives (k ∷ []) ≡ refused m → ⊥
    not_gives k m q = let z : ◌≡◌ {A = ℕ} 0 1 = cc in omega arith

    not_24 : (m : ℕ) → m ≤ 16 → refused 24 ≡ refused m → ⊥
    not_24 m h q = let z : 24 ≡ m = cc in omega arith

    same_length : (j k : ℕ) → gives ((0 + j) ∷ []) ≡ gives (k ∷ []) → j ≡ k
    same_length j k q = let z : 0 + j ≡ k = cc in omega arith

    -- the climb with all its steps left
    all : Climbs 255 n
    all = climbs 255 n (omega arith)

    steps_chain : (k : ℕ) → chain_of s n ≡ gives (k ∷ []) → IsChain s n k
    steps_chain k e =
        let d = from_sound e (λ m h q. not_gives k m q) in
        ⊎_elim (λ w. subst (IsChain s n) (same_length w.0 k (sym w.2 ∙ sym (whole d) ∙ e)) w.3) (λ w. absurd (not_gives k 24 (sym e ∙ whole d ∙ w.0))) all

    chain_steps : (k : ℕ) → IsChain s n k → chain_of s n ≡ gives (k ∷ [])
    chain_steps k c =
        ⊎_elim
        (λ w. let z : 0 + w.0 ≡ k = omega (arith, once n w.0 k w.3 c) in whole (chain_sound n k c) ∙ w.2 ∙ ap (λ (i : ℕ). gives (i ∷ [])) z)
        (λ w. absurd (w.1 k (chain_short s n k c) c))
        all

    broken_none : chain_of s n ≡ refused 24 → Sound s n × ((k : ℕ) → IsChain s n k → ⊥)
    broken_none e = (from_sound e not_24, λ k c. not_gives k 24 (sym (chain_steps k c) ∙ e))

    pub chain_fact : ChainFact s n
    unfolding chain_of
    chain_fact =
        record {
          own = λ h. unless_number _ _ h;
          steps = λ k. (steps_chain k, chain_steps k);
          broken = (broken_none, λ h. ⊎_elim (λ w. absurd (h.1 w.0 w.3)) (λ w. whole h.0 ∙ w.0) all);
          most = chain_short s n;
          complete = λ d. ⊎_elim (λ w. inr (w.0, chain_steps w.0 w.3)) (λ w. inl (whole d ∙ w.0)) all;
        }
