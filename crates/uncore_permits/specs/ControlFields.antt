-- The fields that can be written (document 02, request 2; document 002, "CONTROL"), by register and number: of control, register 3,
-- 0 UFS_THROTTLE_MODE, 1 MAX_RATIO, 2 MIN_RATIO, 3 EFFICIENCY_LATENCY_CTRL_RATIO, 4 EFFICIENCY_LATENCY_CTRL_THRESHOLD; of the advanced
-- controls, registers 4 and 5, 0 SLOPE, 1 BASE and of the second 2 UTILIZATION_THRESHOLD, 3 HBM_BW_THRESHOLD. Reserved fields have no
-- number; header, offsets and status, which 002 marks RO, have no field that can be written.
--   rows, fields_of r      by register the lowest bit and the bits of each field that can be written
--   lowest_of, width_of     of one of them; no bits where there is none;   extent_of   both
--   next_word r which x v  the register's content x with v in the field
--   ratio r which         the field is one of the two ratios
--   above y               of a control register's content the minimum is above the maximum
--   tests, word_number     27, 17, 28 in this order; 28 is tested for a ratio alone, on the pair that the write would leave
--   word_of r which x v    that refusal, or the next content
-- Assumes nothing.
use Rattle.std.specs.Prelude.{ℕ, ◌^◌, Bool, ◌&&◌, ◌||◌, List, [], ◌∷◌, ltb, leb, eqb, get_or}
use Rattle.words.specs.Answers.{Answer, gives, unless, first}
use Rattle.fields.specs.Bits.{with_field}
use Rattle.uncore_controls.specs.Control.{control_of}
use Rattle.uncore_permits.specs.declared.control_fields.Extent.{Extent}

-- ---- the fields

-- read alone
abbrev pub header_fields : List (ℕ × ℕ)
header_fields = []

abbrev pub offsets_fields : List (ℕ × ℕ)
offsets_fields = []

abbrev pub status_fields : List (ℕ × ℕ)
status_fields = []

-- written
abbrev pub control_fields : List (ℕ × ℕ)
control_fields = (0, 2) ∷ (8, 7) ∷ (15, 7) ∷ (22, 7) ∷ (32, 7) ∷ []

abbrev pub advanced1_fields : List (ℕ × ℕ)
advanced1_fields = (0, 8) ∷ (8, 8) ∷ []

abbrev pub advanced2_fields : List (ℕ × ℕ)
advanced2_fields = (0, 8) ∷ (8, 8) ∷ (16, 8) ∷ (24, 8) ∷ []

abbrev pub rows : List (List (ℕ × ℕ))
rows = header_fields ∷ offsets_fields ∷ status_fields ∷ control_fields ∷ advanced1_fields ∷ advanced2_fields ∷ []

unfoldable pub fields_of : ℕ → List (ℕ × ℕ)
fields_of r = get_or rows r []

unfoldable pub lowest_of : ℕ → ℕ → ℕ
lowest_of r which = (get_or (fields_of r) which (0, 0)).0

unfoldable pub width_of : ℕ → ℕ → ℕ
width_of r which = (get_or (fields_of r) which (0, 0)).1

abbrev pub extent_of : ℕ → ℕ → Extent
extent_of r which = record { at = lowest_of r which; width = width_of r which }

-- ---- a write of one field

unfoldable pub next_word : ℕ → ℕ → ℕ → ℕ → ℕ
next_word r which x value = with_field (lowest_of r which) (width_of r which) x value

unfoldable pub ratio : ℕ → ℕ → Bool
ratio r which = eqb r 3 && (eqb which 1 || eqb which 2)

unfoldable pub above : ℕ → Bool
above y = ltb (control_of y).maximum (control_of y).minimum

abbrev pub tests : ℕ → ℕ → ℕ → ℕ → List (Bool × ℕ)
tests r which x value =
    (eqb (width_of r which) 0, 27)
    ∷ (leb (2 ^ width_of r which) value, 17)
    ∷ (ratio r which && above (next_word r which x value), 28)
    ∷ []

unfoldable pub word_number : ℕ → ℕ → ℕ → ℕ → ℕ
word_number r which x value = first (tests r which x value)

unfoldable pub word_of : ℕ → ℕ → ℕ → ℕ → Answer
word_of r which x value = unless (word_number r which x value) (gives (next_word r which x value ∷ []))
