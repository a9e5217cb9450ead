-- Worked examples, each computed. Assumes nothing.
use Prim.Native.Nat.{ℕ, ◌^◌}
use mathlib.Core.Path.{◌≡◌, refl}
use mathlib.Core.List.{[], ◌∷◌}
use Rattle.words.specs.Below.{any_below}
use Rattle.fields.specs.Bits.{field}
use Rattle.fields.specs.Masks.{mask_of}
use Rattle.reasons_fold.specs.Fold.{belongs, reached, fold_of, joined_first, joined_of}

-- the word in which fine bit k alone is set
abbrev alone : ℕ → ℕ
alone k = fold_of (2 ^ k)

-- the first and the last fine bit of each group: FREQUENCY 1, CURRENT 2, POWER 4, THERMAL 8, DFC 512, PLATFORM 16, MISC 128
each_group : alone 0 ∷ alone 7 ∷ alone 8 ∷ alone 9 ∷ alone 21 ∷ alone 23 ∷ alone 24 ∷ alone 25 ∷ alone 26 ∷ alone 29 ∷ []
    ≡ 1 ∷ 1 ∷ 2 ∷ 4 ∷ 4 ∷ 8 ∷ 512 ∷ 16 ∷ 16 ∷ 128 ∷ []
unfolding fold_of reached belongs mask_of field any_below
each_group = refl

-- those that fold to nothing, and a bit above the 32
to_nothing : alone 22 ∷ alone 27 ∷ alone 28 ∷ alone 30 ∷ alone 31 ∷ alone 32 ∷ fold_of 0 ∷ [] ≡ 0 ∷ 0 ∷ 0 ∷ 0 ∷ 0 ∷ 0 ∷ 0 ∷ []
unfolding fold_of reached belongs mask_of field any_below
to_nothing = refl

-- all 32 set: every reason but MCP, RAS and QOS
all_set : fold_of 0xFFFFFFFF ≡ 0x29F
unfolding fold_of reached belongs mask_of field any_below
all_set = refl

-- three cores: CURRENT of one and THERMAL of another; the third has coarse bits alone, which are not mixed in; of no core nothing
three_cores : joined_of (2 ^ 40 ∷ 2 ^ 55 ∷ 0x3FF ∷ []) ∷ joined_of [] ∷ [] ≡ 10 ∷ 0 ∷ []
unfolding joined_of joined_first reached belongs mask_of field any_below
three_cores = refl
