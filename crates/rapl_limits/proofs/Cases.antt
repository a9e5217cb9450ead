-- Worked examples, good and refused ones side by side; each is computed. Assumes nothing.
use mathlib.Core.Path.{◌≡◌, refl}
use mathlib.Core.List.{[], ◌∷◌}
use Rattle.words.specs.Answers.{refused, gives, first}
use Rattle.fields.specs.Bits.{field, with_field}
use Rattle.fields.specs.Tables.{with_fields, wider, misfit, written_word}
use Rattle.rapl_limits.specs.Limit.{limit_of, values, written_of}

-- document 01's register: power 1,000, window code 0x6E, enabled, not locked; and all ones; each read and written back
limits_read : values (limit_of 0x4000000001B803E8) ∷ values (limit_of 0xFFFFFFFFFFFFFFFF) ∷ [] ≡ (1000 ∷ 0x6E ∷ 0 ∷ 1 ∷ 0 ∷ []) ∷ (0x3FFFF ∷ 0x7F ∷ 0x1FFFFFFFFF ∷ 1 ∷ 1 ∷ []) ∷ []
unfolding limit_of field
limits_read = refl

limit_back : written_of (limit_of 0x4000000001B803E8) ≡ gives (0x4000000001B803E8 ∷ [])
unfolding written_word first misfit wider with_fields with_field limit_of field
limit_back = refl

ones_back : written_of (limit_of 0xFFFFFFFFFFFFFFFF) ≡ gives (0xFFFFFFFFFFFFFFFF ∷ [])
unfolding written_word first misfit wider with_fields with_field limit_of field
ones_back = refl

-- a power of 262,144 does not fit its 18 bits, one of 262,143 does
power_wide : written_of (record { power = 262144; window = 0; reserved25 = 0; enable = 0; lock = 0 }) ≡ refused 17
unfolding written_word first misfit wider
power_wide = refl

power_fits : written_of (record { power = 262143; window = 0; reserved25 = 0; enable = 0; lock = 0 }) ≡ gives (262143 ∷ [])
unfolding written_word first misfit wider with_fields with_field
power_fits = refl
