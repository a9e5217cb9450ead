-- What the two BAR captures hold after a store, by the one that the number names; and that the store at an instance's place is the store
-- into the instance. Assumes nothing.
use Prim.Native.Nat.{ℕ, ◌+◌, ◌≤◌}
use mathlib.Core.Path.{◌≡◌, sym, ap₂, ◌∙◌}
use mathlib.Core.List.{List}
use mathlib.Core.Logic.{◌≢◌}
use native.Mathlib.Omega.{arith}
use borrow.Author.Tests.{le-leb, eq-eqb, ne_eqb}
use Rattle.words.specs.Bytes.{stored}
use Rattle.capture.specs.Capture.{Capture}
use Rattle.capture.specs.declared.places.Place.{Place}
use Rattle.tpmi_features.proofs.InstanceLaws.{instance_at}
use Rattle.tpmi_store.specs.Store.{in_low, in_high, low_with, high_with}
use Rattle.tpmi_store.specs.Facts.{PlacedStore}

-- ---- by the number

module _ (b at x lo : ℕ) (low : List ℕ) (hi : ℕ) (high : List ℕ) where
  pub in_first : b ≡ lo → (stored low at 8 x ≡ in_low b at x lo low) × (high ≡ in_high b at x lo hi high)
  unfolding in_low in_high
  in_first e = let t = eq-eqb b lo e in (rw t, rw t)

  module _ (h : b ≢ lo) where
    pub in_second : b ≡ hi → (low ≡ in_low b at x lo low) × (stored high at 8 x ≡ in_high b at x lo hi high)
    unfolding in_low in_high
    in_second e = let t = ne_eqb b lo h in (rw t, rw (t, eq-eqb b hi e))

-- ---- by the place

module _ (p : Place) (offset x lo : ℕ) (low : List ℕ) (hi : ℕ) (high : List ℕ) where
  module _ (h : offset + 8 ≤ p.size) where
    in_piece : (in_low p.bir (p.start + offset) x lo low ≡ low_with p offset x lo low) × (in_high p.bir (p.start + offset) x lo hi high ≡ high_with p offset x lo hi high)
    unfolding low_with high_with
    in_piece = let t = le-leb _ _ h in (rw t, rw t)

-- ---- the place that an instance's lookup gives

pub placed_store : (c : Capture) (id n offset x : ℕ) (p : Place) → PlacedStore c id n offset x p
placed_store c id n offset x p e h =
    let q = instance_at c id n e in
    let k = in_piece p offset x c.lo c.low c.hi c.high (omega (arith, h, q.size)) in (
      sym k.0 ∙ ap₂ (λ (b a : ℕ). in_low b (a + offset) x c.lo c.low) q.bir q.start,
      sym k.1 ∙ ap₂ (λ (b a : ℕ). in_high b (a + offset) x c.lo c.hi c.high) q.bir q.start,
    )
