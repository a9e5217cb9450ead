-- Worked examples, good and refused ones side by side; each is computed. Assumes nothing.
use mathlib.Core.Path.{◌≡◌, refl}
use mathlib.Core.List.{[], ◌∷◌}
use Rattle.words.specs.Answers.{refused, gives, first}
use Rattle.fields.specs.Bits.{field, with_field}
use Rattle.fields.specs.Tables.{with_fields, wider, misfit, written_word}
use Rattle.uncore_registers.specs.Header as header
use Rattle.uncore_registers.specs.Header.{header_of}
use Rattle.uncore_registers.specs.Offsets as offsets
use Rattle.uncore_registers.specs.Offsets.{offsets_of}
use Rattle.uncore_registers.specs.Status as status
use Rattle.uncore_registers.specs.Status.{status_of}

-- document 002's defaults: version 1 and one cluster, whose registers start 2 eights of bytes on; and all ones
defaults_read : header.values (header_of 0x101) ∷ offsets.values (offsets_of 0x02) ∷ [] ≡ (1 ∷ 1 ∷ 0 ∷ 0 ∷ 0 ∷ 0 ∷ 0 ∷ []) ∷ (2 ∷ 0 ∷ 0 ∷ 0 ∷ 0 ∷ 0 ∷ 0 ∷ 0 ∷ []) ∷ []
unfolding header_of offsets_of field
defaults_read = refl

-- every field of its own width
ones_read : header.values (header_of 0xFFFFFFFFFFFFFFFF) ∷ status.values (status_of 0xFFFFFFFFFFFFFFFF) ∷ []
    ≡ (0xFF ∷ 0xFF ∷ 0xFFFF ∷ 1 ∷ 1 ∷ 3 ∷ 0xFFFFFFF ∷ []) ∷ (0x7F ∷ 0xFFFF ∷ 1 ∷ 1 ∷ 1 ∷ 1 ∷ 0x1F ∷ 0xFFFFFFFF ∷ []) ∷ []
unfolding header_of status_of field
ones_read = refl

-- ratio 24, 0.75 V, agents of core and cache, throttled 7 times; read, and written back
status_read : status.values (status_of 0x00000007018C0018) ≡ 24 ∷ 0x1800 ∷ 1 ∷ 1 ∷ 0 ∷ 0 ∷ 0 ∷ 7 ∷ []
unfolding status_of field
status_read = refl

status_back : status.written_of (status_of 0x00000007018C0018) ≡ gives (0x00000007018C0018 ∷ [])
unfolding written_word first misfit wider with_fields with_field status_of field
status_back = refl

-- a byte of the offset register above 255 does not fit, 255 does
offset_wide : offsets.written_of (record { offset0 = 2; offset1 = 256; offset2 = 0; offset3 = 0; offset4 = 0; offset5 = 0; offset6 = 0; offset7 = 0 }) ≡ refused 17
unfolding written_word first misfit wider
offset_wide = refl

offset_fits : offsets.written_of (record { offset0 = 2; offset1 = 255; offset2 = 0; offset3 = 0; offset4 = 0; offset5 = 0; offset6 = 0; offset7 = 6 }) ≡ gives (0x060000000000FF02 ∷ [])
unfolding written_word first misfit wider with_fields with_field
offset_fits = refl
