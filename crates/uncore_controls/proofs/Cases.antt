-- Worked examples, good and refused ones side by side; each is computed. Assumes nothing.
use mathlib.Core.Path.{◌≡◌, refl}
use mathlib.Core.List.{[], ◌∷◌}
use Rattle.words.specs.Answers.{refused, gives, first}
use Rattle.fields.specs.Bits.{field, with_field}
use Rattle.fields.specs.Tables.{with_fields, wider, misfit, written_word}
use Rattle.uncore_controls.specs.Control as control
use Rattle.uncore_controls.specs.Control.{control_of}
use Rattle.uncore_controls.specs.Advanced1 as advanced1
use Rattle.uncore_controls.specs.Advanced1.{advanced1_of}
use Rattle.uncore_controls.specs.Advanced2 as advanced2
use Rattle.uncore_controls.specs.Advanced2.{advanced2_of}

-- document 002's defaults: throttle mode 1, maximum 0x7F, both thresholds 0xFF, all else 0
defaults_read : control.values (control_of 0x7F01) ∷ advanced1.values (advanced1_of 0) ∷ advanced2.values (advanced2_of 0xFFFF0000) ∷ []
    ≡ (1 ∷ 0 ∷ 0x7F ∷ 0 ∷ 0 ∷ 0 ∷ 0 ∷ 0 ∷ []) ∷ (0 ∷ 0 ∷ 0 ∷ []) ∷ (0 ∷ 0 ∷ 0xFF ∷ 0xFF ∷ 0 ∷ []) ∷ []
unfolding control_of advanced1_of advanced2_of field
defaults_read = refl

-- every field of its own width
ones_read : control.values (control_of 0xFFFFFFFFFFFFFFFF) ∷ advanced1.values (advanced1_of 0xFFFFFFFFFFFFFFFF) ∷ advanced2.values (advanced2_of 0xFFFFFFFFFFFFFFFF) ∷ []
    ≡ (3 ∷ 0x3F ∷ 0x7F ∷ 0x7F ∷ 0x7F ∷ 7 ∷ 0x7F ∷ 0x1FFFFFF ∷ []) ∷ (0xFF ∷ 0xFF ∷ 0xFFFFFFFFFFFF ∷ []) ∷ (0xFF ∷ 0xFF ∷ 0xFF ∷ 0xFF ∷ 0xFFFFFFFF ∷ []) ∷ []
unfolding control_of advanced1_of advanced2_of field
ones_read = refl

-- maximum 30, minimum 8, floor 12, threshold 10; read, and written back
control_read : control.values (control_of 0x0000000A03041E01) ≡ 1 ∷ 0 ∷ 30 ∷ 8 ∷ 12 ∷ 0 ∷ 10 ∷ 0 ∷ []
unfolding control_of field
control_read = refl

control_back : control.written_of (control_of 0x0000000A03041E01) ≡ gives (0x0000000A03041E01 ∷ [])
unfolding written_word first misfit wider with_fields with_field control_of field
control_back = refl

-- as a value a pair in disorder is written as it is: 28 is no rule of a whole register
disorder_written : control.written_of (record { mode = 0; reserved2 = 0; maximum = 10; minimum = 50; floor = 0; reserved29 = 0; threshold = 0; reserved39 = 0 }) ≡ gives (0x190A00 ∷ [])
unfolding written_word first misfit wider with_fields with_field
disorder_written = refl

-- a ratio of 128 does not fit its 7 bits
ratio_wide : control.written_of (record { mode = 0; reserved2 = 0; maximum = 128; minimum = 0; floor = 0; reserved29 = 0; threshold = 0; reserved39 = 0 }) ≡ refused 17
unfolding written_word first misfit wider
ratio_wide = refl
