-- Worked examples, good and refused ones side by side; each is computed. Assumes nothing.
use Prim.Native.Nat.{◌<◌}
use mathlib.Core.Path.{◌≡◌, refl}
use mathlib.Core.List.{List, [], ◌∷◌}
use native.Mathlib.Omega.{arith}
use Rattle.words.specs.Answers.{Answer, refused, gives, first}
use Rattle.words.specs.Below.{least}
use Rattle.fields.specs.Bits.{field}
use Rattle.rapl_windows.specs.Windows.{quarters_of, long_enough, first_long, window_number, window_of}

-- at T = 10 a time unit is 1/1,024 s: 0 ms, 1 ms, 1,000 ms and 28,000 ms; at T = 15 the longest window and one millisecond more; T 16
abbrev asked_for : List Answer
asked_for = window_of 0 10 ∷ window_of 1 10 ∷ window_of 1000 10 ∷ window_of 28000 10 ∷ window_of 114688000 15 ∷ window_of 114688001 15 ∷ window_of 0 16 ∷ []

window_cases : asked_for ≡ gives (0x00 ∷ []) ∷ gives (0x20 ∷ []) ∷ gives (0x0A ∷ []) ∷ gives (0x6E ∷ []) ∷ gives (0x7F ∷ []) ∷ refused 19 ∷ refused 17 ∷ []
unfolding window_of window_number first_long least long_enough quarters_of field first
window_cases = refl

-- codes compared as numbers go wrong: 0x20 lasts 5 quarters, 0x01 lasts 8
durations : quarters_of 0x20 ∷ quarters_of 0x01 ∷ [] ≡ 5 ∷ 8 ∷ []
unfolding quarters_of field
durations = refl

not_as_numbers : quarters_of 0x20 < quarters_of 0x01
unfolding quarters_of field
not_as_numbers = omega arith
