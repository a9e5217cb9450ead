-- Worked cases: 0, a number of three digits, the longest of 64 bits, and 001's default units in hexadecimal; words that fit a page and words
-- that do not. Assumes nothing.
use mathlib.Core.Path.{◌≡◌, refl}
use mathlib.Core.List.{[], ◌∷◌}
use Prim.Native.Nat.{◌-◌, ◌^◌}
use lib.ListN.{length, replicate}
use Rattle.words.specs.Below.{least}
use Rattle.text.specs.Page.{over, after}
use Rattle.text.specs.Numerals.{digits, places_of, numeral_of}

nothing : numeral_of 10 0 ≡ 48 ∷ []
unfolding least places_of digits
nothing = refl

three : numeral_of 10 384 ≡ 51 ∷ 56 ∷ 52 ∷ []
unfolding least places_of digits
three = refl

longest : length (numeral_of 10 (2 ^ 64 - 1)) ≡ 20
unfolding least places_of digits
longest = refl

-- a383
units : numeral_of 16 0xA383 ≡ 97 ∷ 51 ∷ 56 ∷ 51 ∷ []
unfolding least places_of digits
units = refl

written : over (replicate 4 0) 1 (7 ∷ 8 ∷ []) ≡ 0 ∷ 7 ∷ 8 ∷ 0 ∷ []
unfolding over
written = refl

too_long : (over (replicate 4 0) 3 (7 ∷ 8 ∷ []) ≡ replicate 4 0) × (after (replicate 4 0) 3 (7 ∷ 8 ∷ []) ≡ 3)
unfolding over after
too_long = (refl, refl)
