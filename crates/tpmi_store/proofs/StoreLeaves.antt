-- What a store into an instance leaves: the content in the BAR capture that tBIR names, all else as it was. Assumes nothing.
use Prim.Native.Nat.{ℕ, ◌+◌, ◌≤◌}
use mathlib.Core.Path.{◌≡◌, refl, sym, ap, ◌∙◌}
use mathlib.Core.Bool.{Bool, true, false, not, ◌&&◌}
use mathlib.Core.List.{List}
use mathlib.Core.Logic.{◌⊎◌, inl, inr, ◌≢◌}
use native.Mathlib.Nat.{mod-eq_of_lt}
use native.Mathlib.Omega.{arith}
use borrow.Author.Tests.{eqb-true}
use lib.Dec.{eqb}
use lib.ListN.{length, get_or}
use Rattle.words.specs.Bytes.{number_at, stored}
use Rattle.words.proofs.AnswerLaws.{first_zero, earliest_zero}
use Rattle.words.proofs.TestLaws.{never_both}
use Rattle.words.proofs.StoreLaws.{number_stored, stored_other, length_stored}
use Rattle.capture.specs.Capture.{Capture}
use Rattle.capture.specs.Places.{named}
use Rattle.tpmi_discovery.specs.Table.{structure_of, bir_of, bar_of, bir_number, location_number}
use Rattle.tpmi_discovery.specs.Discovery.{discovery_number}
use Rattle.tpmi_discovery.proofs.DiscoveryLaws.{was_located}
use Rattle.tpmi_features.proofs.InsideLaws.{discovered, feature_found, instance_inside}
use Rattle.tpmi_store.specs.Store.{in_low, in_high, stored_at, after_store}
use Rattle.tpmi_store.specs.Facts.{Within, StoreLeaves}
use Rattle.tpmi_store.proofs.StoreLaws.{in_first, in_second}

-- ---- which capture tBIR names

-- of an accepted capture it is one of the two
either_named : (c : Capture) → discovery_number c ≡ 0 → (eqb (bir_of c) c.lo ≡ true) ⊎ (eqb (bir_of c) c.hi ≡ true)
unfolding location_number bir_number
either_named c z = by (eqb (bir_of c) c.lo) (eqb (bir_of c) c.hi) (first_zero _ tt (earliest_zero _ _ (earliest_zero _ _ (earliest_zero _ _ (was_located c z)).1).1).0).0
  where
    by : (t u : Bool) → (not t && not u) ≡ false → (t ≡ true) ⊎ (u ≡ true)
    by true u e = inl refl
    by false true e = inr refl
    by false false e = inl (absurd_true e)
      where
        absurd_true : true ≡ false → false ≡ true
        absurd_true f = cc

module _ (c : Capture) (id n offset x : ℕ) (w : Within c id n offset) where
  abbrev at : ℕ
  at = stored_at c id n offset

  abbrev d : Capture
  d = after_store c id n offset x

  one_named : (eqb (bir_of c) c.lo ≡ true) ⊎ (eqb (bir_of c) c.hi ≡ true)
  one_named = either_named c (discovered c id (feature_found c id n w.found))

  in_low_law : bir_of c ≡ c.lo → (d.low ≡ stored c.low at 8 x) × (d.high ≡ c.high)
  in_low_law e = let s = in_first (bir_of c) at x c.lo c.low c.hi c.high e in (sym s.0, sym s.1)

  in_high_law : bir_of c ≢ c.lo → (d.low ≡ c.low) × (d.high ≡ stored c.high at 8 x)
  in_high_law h = by one_named
    where
      by : (eqb (bir_of c) c.lo ≡ true) ⊎ (eqb (bir_of c) c.hi ≡ true) → (d.low ≡ c.low) × (d.high ≡ stored c.high at 8 x)
      by (inl e) = absurd (h (eqb-true _ _ e))
      by (inr e) = let s = in_second (bir_of c) at x c.lo c.low c.hi c.high h (eqb-true _ _ e) in (sym s.0, sym s.1)

  pub bar_after : bar_of d ≡ stored (bar_of c) at 8 x
  unfolding bar_of named in_low in_high structure_of
  bar_after = by (eqb (bir_of c) c.lo) one_named refl
    where
      by : (t : Bool) → (eqb (bir_of c) c.lo ≡ true) ⊎ (eqb (bir_of c) c.hi ≡ true) → eqb (bir_of c) c.lo ≡ t → bar_of d ≡ stored (bar_of c) at 8 x
      by true o f = rw f
      by false (inl e) f = absurd (never_both e f)
      by false (inr e) f = rw (f, e)

  pub place_inside : at + 8 ≤ length (bar_of c)
  place_inside = omega (arith, w.inside, instance_inside c id n w.found)

  pub length_after : length (bar_of d) ≡ length (bar_of c)
  length_after = ap length bar_after ∙ length_stored (bar_of c) at 8 x

  pub store_leaves : StoreLeaves c id n offset x
  store_leaves =
      record {
        in_low_law = in_low_law;
        in_high_law = in_high_law;
        bar = bar_after;
        content = λ l. ap (λ (s : List ℕ). number_at s at 8) bar_after ∙ number_stored (bar_of c) at 8 x place_inside ∙ mod-eq_of_lt l;
        bytes = λ k o. ap (λ (s : List ℕ). get_or s k 0) bar_after ∙ stored_other (bar_of c) at 8 x k o;
        size = length_after;
        inside = omega (arith, w.inside);
        whole = instance_inside c id n w.found;
      }
