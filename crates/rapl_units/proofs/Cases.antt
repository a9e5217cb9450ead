-- Worked examples of units; each is computed. Assumes nothing.
use mathlib.Core.Path.{◌≡◌, refl}
use mathlib.Core.List.{[], ◌∷◌}
use Rattle.words.specs.Answers.{refused, gives, first}
use Rattle.fields.specs.Bits.{field, with_field}
use Rattle.fields.specs.Tables.{with_fields, wider, misfit, written_word}
use Rattle.rapl_units.specs.Units.{units_of, values, written_of}

-- document 001's default content: 1/8 W, 1/16,384 J, 1/1,024 s; the same with every reserved bit set, and written back
units_read : values (units_of 0xA383) ∷ values (units_of 0xFFFFFFFFFFFFABB3) ∷ [] ≡ (3 ∷ 0 ∷ 14 ∷ 0 ∷ 10 ∷ 0 ∷ []) ∷ (3 ∷ 3 ∷ 14 ∷ 1 ∷ 10 ∷ 0xFFFFFFFFFFFF ∷ []) ∷ []
unfolding units_of field
units_read = refl

units_back : written_of (units_of 0xFFFFFFFFFFFFABB3) ≡ gives (0xFFFFFFFFFFFFABB3 ∷ [])
unfolding written_word first misfit wider with_fields with_field units_of field
units_back = refl

-- a time unit of 16 does not fit its four bits
units_wide : written_of (record { power = 3; reserved4 = 0; energy = 14; reserved11 = 0; time = 16; reserved16 = 0 }) ≡ refused 17
unfolding written_word first misfit wider
units_wide = refl
