-- The layout of the input of `list` (document 01, "Bench cases"): the configuration, then twice a BAR number (1 byte), a length (4 bytes, at
-- most 65,536) and the capture. Bytes after the second capture are ignored.
--   first_of, second_of     the two lengths;   middle_of, end_of   where the first capture and the second end
--   readable s            neither length is above 65,536, and the input is no shorter than it says
--   layout_of s            the two BAR numbers and the two ends; nothing where the input is unreadable
--   config_in, low_in, high_in   the three parts; empty where it is unreadable
-- Assumes nothing.
use Rattle.std.specs.Prelude.{ℕ, ◌+◌, Bool, cond, ◌&&◌, List, [], ◌∷◌, leb, length, take, drop}
use Rattle.words.specs.Bytes.{number_at}

unfoldable pub first_of : List ℕ → ℕ
first_of s = number_at s 4097 4

abbrev pub middle_of : List ℕ → ℕ
middle_of s = 4101 + first_of s

unfoldable pub second_of : List ℕ → ℕ
second_of s = number_at s (middle_of s + 1) 4

abbrev pub end_of : List ℕ → ℕ
end_of s = middle_of s + 5 + second_of s

unfoldable pub readable : List ℕ → Bool
readable s = leb (first_of s) 65536 && (leb (second_of s) 65536 && leb (end_of s) (length s))

unfoldable pub layout_of : List ℕ → List ℕ
layout_of s = cond (readable s) (number_at s 4096 1 ∷ middle_of s ∷ number_at s (middle_of s) 1 ∷ end_of s ∷ []) []

unfoldable pub config_in : List ℕ → List ℕ
config_in s = cond (readable s) (take 4096 s) []

unfoldable pub low_in : List ℕ → List ℕ
low_in s = cond (readable s) (take (first_of s) (drop 4101 s)) []

unfoldable pub high_in : List ℕ → List ℕ
high_in s = cond (readable s) (take (second_of s) (drop (middle_of s + 5) s)) []
