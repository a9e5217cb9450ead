-- Worked writes of one field, good and refused ones side by side; each is computed. Assumes nothing.
use mathlib.Core.Path.{◌≡◌, refl}
use mathlib.Core.List.{[], ◌∷◌}
use Rattle.words.specs.Answers.{refused, gives, first}
use Rattle.fields.specs.Bits.{field, with_field}
use Rattle.uncore_controls.specs.Control.{control_of}
use Rattle.uncore_permits.specs.ControlFields.{fields_of, lowest_of, width_of, next_word, ratio, above, word_number, word_of}

-- 002's default control, 0x7F01: minimum 127 is equal to the maximum and taken, 128 does not fit; then a maximum of 126 would fall below
-- it, and a number that does not fit is 17 before 28
ratios : word_of 3 2 0x7F01 127 ∷ word_of 3 2 0x7F01 128 ∷ word_of 3 1 0x3FFF01 126 ∷ word_of 3 1 0x3FFF01 127 ∷ word_of 3 1 0x3FFF01 128 ∷ []
    ≡ gives (0x3FFF01 ∷ []) ∷ refused 17 ∷ refused 28 ∷ gives (0x3FFF01 ∷ []) ∷ refused 17 ∷ []
unfolding word_of word_number first fields_of lowest_of width_of next_word with_field ratio above control_of field
ratios = refl

-- a pair stored in disorder, minimum 50 and maximum 10: a minimum of 20 is still above, one of 10 is not; a maximum of 50 mends it; the
-- throttle mode is no ratio, and is stored
disorder : word_of 3 2 0x190A00 20 ∷ word_of 3 2 0x190A00 10 ∷ word_of 3 1 0x190A00 50 ∷ word_of 3 0 0x190A00 1 ∷ [] ≡ refused 28 ∷ gives (0x50A00 ∷ []) ∷ gives (0x193200 ∷ []) ∷ gives (0x190A01 ∷ []) ∷ []
unfolding word_of word_number first fields_of lowest_of width_of next_word with_field ratio above control_of field
disorder = refl

-- header, offsets and status are read alone; control has no field 5, the first advanced control no field 2, the second no field 4
unwritable : word_of 0 0 0 0 ∷ word_of 1 0 0 0 ∷ word_of 2 0 0 0 ∷ word_of 3 5 0 0 ∷ word_of 4 2 0 0 ∷ word_of 5 4 0 0 ∷ word_of 6 0 0 0 ∷ [] ≡ refused 27 ∷ refused 27 ∷ refused 27 ∷ refused 27 ∷ refused 27 ∷ refused 27 ∷ refused 27 ∷ []
unfolding word_of word_number first fields_of lowest_of width_of
unwritable = refl

-- of a register of all ones the field alone changes: reserved bits are kept
ones_kept : word_of 3 0 0xFFFFFFFFFFFFFFFF 0 ∷ word_of 3 4 0xFFFFFFFFFFFFFFFF 0 ∷ word_of 4 1 0xFFFFFFFFFFFFFFFF 0 ∷ word_of 5 3 0xFFFFFFFFFFFFFFFF 0 ∷ []
    ≡ gives (0xFFFFFFFFFFFFFFFC ∷ []) ∷ gives (0xFFFFFF80FFFFFFFF ∷ []) ∷ gives (0xFFFFFFFFFFFF00FF ∷ []) ∷ gives (0xFFFFFFFF00FFFFFF ∷ []) ∷ []
unfolding word_of word_number first fields_of lowest_of width_of next_word with_field ratio above control_of field
ones_kept = refl
