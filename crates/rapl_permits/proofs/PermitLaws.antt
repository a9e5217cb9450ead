-- The fields of a limit, and what refuses a write of one, test by test. Assumes nothing.
use Prim.Native.Nat.{ℕ, zero, suc, ◌+◌, ◌^◌, ◌≤◌, ◌<◌}
use mathlib.Core.Path.{◌≡◌, sym, ap, ap₂, ◌∙◌}
use mathlib.Core.Bool.{true, false, not}
use mathlib.Core.List.{[], ◌∷◌}
use mathlib.Core.Logic.{⊎_elim, ◌≢◌}
use native.Mathlib.Omega.{arith}
use borrow.Author.Tests.{le-leb, lt-leb, leb-false, eq-eqb, ne_eqb, eqb-true, eqb-false, not-false}
use lib.Dec.{lit≤, leb, eqb}
use lib.ListN.{get_or-eq_default}
use Rattle.words.specs.Answers.{first}
use Rattle.fields.specs.Bits.{field, with_field, field_stored}
use Rattle.words.proofs.AnswerLaws.{first_skip, first_take, first_end, first_zero}
use Rattle.words.proofs.TestLaws.{or_skip, or_take, or_second, or_neither, or_either, and_skip, and_first, and_second, and_holds}
use Rattle.rapl_registers.specs.Contents.{present}
use Rattle.rapl_domains.specs.declared.domains.Header.{Header}
use Rattle.rapl_permits.specs.Permits.{lowest_of, width_of, span_of, a_limit, unwritable, refusal_of}

-- ---- the fields

-- past the four there is none
pub span_past : (which : ℕ) → 4 ≤ which → span_of which ≡ record { at = 0; width = 0; room = 1 }
unfolding lowest_of width_of
span_past which h =
    ap₂ (λ (p w : ℕ). record { at = p; width = w; room = 2 ^ w }) (get_or-eq_default (0 ∷ 18 ∷ 62 ∷ 63 ∷ []) 0 h) (get_or-eq_default (18 ∷ 7 ∷ 1 ∷ 1 ∷ []) 0 h)

-- every field lies in 64 bits
pub fits : (which : ℕ) → lowest_of which + width_of which ≤ 64
unfolding lowest_of width_of
fits zero = lit≤ tt
fits (suc zero) = lit≤ tt
fits (suc (suc zero)) = lit≤ tt
fits (suc (suc (suc zero))) = lit≤ tt
fits (suc (suc (suc (suc k)))) = lit≤ tt

-- so what the code stores is the field replaced
pub stored_whole : (which x v : ℕ) → field_stored 64 (lowest_of which) (width_of which) x v ≡ with_field (lowest_of which) (width_of which) x v
stored_whole which x v = rw (le-leb (lowest_of which + width_of which) 64 (fits which))

-- a limit's number is small
pub limit_small : (limit : ℕ) → a_limit limit ≡ true → limit ≤ 2
unfolding a_limit
limit_small limit e = ⊎_elim (λ a. omega (arith, eqb-true limit 1 a)) (λ b. omega (arith, eqb-true limit 2 b)) (or_either (eqb limit 1) (eqb limit 2) e)

pub no_limit : (limit : ℕ) → 2 < limit → a_limit limit ≡ false
unfolding a_limit
no_limit limit h = or_skip _ (ne_eqb limit 1 (λ e. omega arith)) ∙ ne_eqb limit 2 (λ e. omega arith)

-- ---- the tests of a write

-- what an accepted write has passed
pub record Passed (h : Header) (limit which value x : ℕ) : Type 0 where
  pub a_limit_law : a_limit limit ≡ true
  pub there : present h.flags (limit + 1) ≡ true
  pub writable : unwritable h.kind limit which ≡ false
  pub narrow : value < 2 ^ width_of which
  pub unlocked : field 63 1 x ≢ 1

module _ (h : Header) (limit which value x : ℕ) where
  pub refusal_other : a_limit limit ≡ false → refusal_of h limit which value x ≡ 27
  unfolding refusal_of
  refusal_other e = first_skip _ _ (and_first _ e) ∙ first_take _ _ (or_take _ (ap not e))

  module _ (l : a_limit limit ≡ true) where
    pub refusal_absent : present h.flags (limit + 1) ≡ false → refusal_of h limit which value x ≡ 26
    unfolding refusal_of
    refusal_absent e = first_take _ _ (and_holds l (ap not e))

    module _ (p : present h.flags (limit + 1) ≡ true) where
      pub refusal_unwritable : unwritable h.kind limit which ≡ true → refusal_of h limit which value x ≡ 27
      unfolding refusal_of
      refusal_unwritable e = first_skip _ _ (and_second (a_limit limit) (ap not p)) ∙ first_take _ _ (or_second (not (a_limit limit)) e)

      module _ (w : unwritable h.kind limit which ≡ false) where
        -- 17 and 18 are left
        left : refusal_of h limit which value x ≡ first ((leb (2 ^ width_of which) value, 17) ∷ (eqb (field 63 1 x) 1, 18) ∷ [])
        unfolding refusal_of
        left = first_skip _ _ (and_second (a_limit limit) (ap not p)) ∙ first_skip _ _ (or_skip _ (ap not l) ∙ w)

        pub refusal_wide : 2 ^ width_of which ≤ value → refusal_of h limit which value x ≡ 17
        refusal_wide g = left ∙ first_take _ _ (le-leb _ _ g)

        pub refusal_locked : value < 2 ^ width_of which → field 63 1 x ≡ 1 → refusal_of h limit which value x ≡ 18
        refusal_locked g e = left ∙ first_skip _ _ (lt-leb _ _ g) ∙ first_take _ _ (eq-eqb _ _ e)

        pub refusal_none : value < 2 ^ width_of which → field 63 1 x ≢ 1 → refusal_of h limit which value x ≡ 0
        refusal_none g e = left ∙ first_skip _ _ (lt-leb _ _ g) ∙ first_skip _ _ (ne_eqb _ _ e) ∙ first_end

  pub passed : refusal_of h limit which value x ≡ 0 → Passed h limit which value x
  unfolding refusal_of
  passed e =
      let f = first_zero _ tt e in
      let g = or_neither (not (a_limit limit)) _ f.1.0 in
      let l = not-false _ g.0 in
      record {
        a_limit_law = l;
        there = not-false _ (sym (and_skip _ l) ∙ f.0);
        writable = g.1;
        narrow = leb-false _ _ f.1.1.0;
        unlocked = eqb-false _ _ f.1.1.1.0;
      }

-- what the proofs of `span_of` and `refusal` go by
pub ruleset span_ways = (span_past)

pub ruleset refusal_ways = (limit_small, refusal_other, refusal_absent, refusal_unwritable, refusal_wide, refusal_locked, refusal_none)
