-- Which BAR capture is meant and a piece of a list, way by way, and a place that a lookup gives. Assumes nothing.
use Prim.Native.Nat.{ℕ, ◌+◌, ◌≤◌, ◌<◌}
use mathlib.Core.Path.{◌≡◌}
use mathlib.Core.List.{List, [], ◌∷◌}
use borrow.Author.Tests.{lt-leb, le-leb, eq-eqb, ne_eqb}
use lib.ListN.{length, take, drop}
use Rattle.words.specs.Answers.{gives, unless}
use Rattle.capture.specs.Places.{named, piece}
use Rattle.capture.specs.Told.{numbers}
use Rattle.capture.specs.declared.places.Place.{Place}
use Rattle.words.proofs.AnswerLaws.{unless_gives}

-- ---- the BAR capture with a number

module _ (b lo : ℕ) (low : List ℕ) (hi : ℕ) (high : List ℕ) where
  pub named_low : b ≡ lo → named b lo low hi high ≡ low
  unfolding named
  named_low e = rw (eq-eqb _ _ e)

  pub named_high : (b ≡ lo → ⊥) → b ≡ hi → named b lo low hi high ≡ high
  unfolding named
  named_high n e = rw (ne_eqb _ _ n, eq-eqb _ _ e)

  pub named_none : (b ≡ lo → ⊥) → (b ≡ hi → ⊥) → named b lo low hi high ≡ []
  unfolding named
  named_none n m = rw (ne_eqb _ _ n, ne_eqb _ _ m)

-- ---- a piece of a list

module _ (s : List ℕ) (at n : ℕ) where
  pub piece_past : length s < at + n → piece s at n ≡ []
  unfolding piece
  piece_past h = rw (lt-leb _ _ h)

  pub piece_there : at + n ≤ length s → piece s at n ≡ take n (drop at s)
  unfolding piece
  piece_there h = rw (le-leb _ _ h)

-- a place that a lookup with these values gives
pub record Placed (number b a z k : ℕ) (p : Place) : Type 0 where
  pub zero : number ≡ 0
  pub bir : p.bir ≡ b
  pub start : p.start ≡ a
  pub size : p.size ≡ z
  pub count : p.count ≡ k

pub placed_is : (number : ℕ) {b a z k : ℕ} {p : Place} → unless number (gives (b ∷ a ∷ z ∷ k ∷ [])) ≡ gives (numbers p) → Placed number b a z k p
placed_is number e = let u = unless_gives number e in let v = u.1 in record { zero = u.0; bir = cc; start = cc; size = cc; count = cc }
