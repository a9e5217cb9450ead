-- Time window codes (document 01, "RAPL domains", last paragraph; document 001, TIME_WINDOW: 2^Y × (1 + X / 4) time units). Where 001
-- leaves open which code stands for a time, document 01 takes the first one long enough, and refuses where there is none.
--   quarters_of code        how long a code lasts, in quarters of a time unit; X is its bits 6:5, Y its bits 4:0, and no other bit counts
--   code_of y x             the code of Y and X
--   code_at k               the k-th code of the order, Y rising and X rising inside it: 4 codes for each Y, 128 in all
--   asked ms unit          ms milliseconds, in thousandths of a quarter of a time unit; a second has 2^unit time units
--   long_enough ms unit k   the k-th code lasts at least ms milliseconds
--   first_long ms unit        the first such k, 128 where there is none
--   window_number ms unit   17, then 19, 0 where there is a code
--   window_of ms unit       the answer: the refusal, or the code
-- Assumes nothing.
use Rattle.std.specs.Prelude.{ℕ, ◌+◌, ◌*◌, ◌/◌, ◌%◌, ◌^◌, Bool, [], ◌∷◌, ltb, leb, eqb}
use Rattle.words.specs.Answers.{Answer, gives, first, unless}
use Rattle.words.specs.Below.{least}
use Rattle.fields.specs.Bits.{field}

unfoldable pub quarters_of : ℕ → ℕ
quarters_of code = (4 + field 5 2 code) * 2 ^ field 0 5 code

abbrev pub code_of : ℕ → ℕ → ℕ
code_of y x = x * 32 + y

abbrev pub code_at : ℕ → ℕ
code_at k = code_of (k / 4) (k % 4)

abbrev pub asked : ℕ → ℕ → ℕ
asked ms unit = ms * 4 * 2 ^ unit

unfoldable pub long_enough : ℕ → ℕ → ℕ → Bool
long_enough ms unit k = leb (asked ms unit) (quarters_of (code_at k) * 1000)

unfoldable pub first_long : ℕ → ℕ → ℕ
first_long ms unit = least (long_enough ms unit) 128 0

unfoldable pub window_number : ℕ → ℕ → ℕ
window_number ms unit = first ((ltb 15 unit, 17) ∷ (eqb (first_long ms unit) 128, 19) ∷ [])

unfoldable pub window_of : ℕ → ℕ → Answer
window_of ms unit = unless (window_number ms unit) (gives (code_at (first_long ms unit) ∷ []))
