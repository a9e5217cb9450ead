-- Worked examples of the definitions, good and refused ones side by side; each is computed. Assumes nothing.
use Prim.Native.Nat.{ℕ}
use mathlib.Core.Path.{◌≡◌, refl}
use mathlib.Core.Bool.{Bool, true, false}
use mathlib.Core.List.{List, [], ◌∷◌}
use lib.Dec.{T, eqb}
use Rattle.words.specs.Bytes.{number_at, put, stored}
use Rattle.words.specs.Answers.{refused, gives, unless, number_in, value_in, first, or_else, earliest}
use Rattle.words.specs.Below.{any_below, least}
use Rattle.words.specs.Facts.{numbered}

-- eight bytes, as a PFS entry has them (document 01, "Bench cases")
abbrev pub sample : List ℕ
sample = 0x00 ∷ 0x01 ∷ 0x60 ∷ 0x00 ∷ 0x04 ∷ 0x00 ∷ 0x01 ∷ 0x00 ∷ []

number_inside : number_at sample 2 2 ≡ 0x60
unfolding number_at
number_inside = refl

-- two of the four bytes lie past the end
number_over_the_end : number_at sample 6 4 ≡ 1
unfolding number_at
number_over_the_end = refl

-- a register of eight bytes, its high half 0x00010004
register_whole : number_at sample 0 8 ≡ 0x0001000400600100
unfolding number_at
register_whole = refl

-- of the high half two bytes are there
register_over_the_end : number_at sample 2 8 ≡ 0x0000000100040060
unfolding number_at
register_over_the_end = refl

-- of the high half none is there
register_low_half_alone : number_at sample 4 8 ≡ 0x00010004
unfolding number_at
register_low_half_alone = refl

-- no byte is there, nor at the last place that a machine word names
register_at_the_end : number_at sample 8 8 ≡ 0
unfolding number_at
register_at_the_end = refl

register_at_the_last_place : number_at sample 0xFFFFFFFFFFFFFFFF 8 ≡ 0
unfolding number_at
register_at_the_last_place = refl

stored_inside : stored sample 2 2 0x1234 ≡ 0x00 ∷ 0x01 ∷ 0x34 ∷ 0x12 ∷ 0x04 ∷ 0x00 ∷ 0x01 ∷ 0x00 ∷ []
unfolding put
stored_inside = refl

-- one byte too many: nothing is stored
stored_over_the_end : stored sample 6 3 0x1234 ≡ sample
unfolding put
stored_over_the_end = refl

-- a chain of tests: the first that holds decides, and none of its numbers is 0
abbrev tests : Bool → Bool → List (Bool × ℕ)
tests a b = (a, 25) ∷ (b, 17) ∷ []

tests_numbered : (a b : Bool) → T (numbered (tests a b))
tests_numbered a b = tt

first_of_two : first (tests true true) ≡ 25
unfolding first
first_of_two = refl

second_of_two : first (tests false true) ≡ 17
unfolding first
second_of_two = refl

stages : earliest (0 ∷ 12 ∷ 13 ∷ []) ≡ 12
unfolding earliest or_else
stages = refl

answer_given : value_in (unless 0 (gives (7 ∷ 9 ∷ []))) 1 ≡ 9
answer_given = refl

answer_refused : number_in (unless 12 (gives (7 ∷ 9 ∷ []))) ≡ 12
answer_refused = refl

number_given : number_in (gives (7 ∷ [])) ≡ 0
number_given = refl

value_past_the_last : value_in (gives (7 ∷ [])) 1 ≡ 0
value_past_the_last = refl

value_refused : value_in (refused 12) 0 ≡ 0
value_refused = refl

-- searches among the numbers below 6
unfoldable pub fives : ℕ → Bool
fives k = eqb k 5

below_six : any_below fives 6 ≡ true
unfolding any_below fives
below_six = refl

least_five : least fives 6 0 ≡ 5
unfolding least fives
least_five = refl

-- no number below 5 passes
least_of_none : least fives 5 0 ≡ 5
unfolding least fives
least_of_none = refl
