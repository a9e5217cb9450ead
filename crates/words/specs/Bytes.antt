-- Numbers in a list of bytes, lowest byte first (document 01: all numbers are little-endian).
-- What lies past the end reads 0; what does not fit is not stored.
--   AllBytes xs        every element of xs is a byte
--   number_at xs at n   the number of the n bytes from place `at`
--   put xs at n v      xs with the n low bytes of v from place `at` on, byte by byte
--   stored xs at n v   the same where they fit; xs itself where they do not
-- Assumes nothing.
use Rattle.std.specs.Prelude.{ℕ, zero, suc, ◌+◌, ◌*◌, ◌/◌, ◌%◌, ◌<◌, cond, List, length, get_or, set, leb}

abbrev pub AllBytes : List ℕ → Type 0
AllBytes xs = (k : ℕ) → get_or xs k 0 < 256

unfoldable pub number_at : List ℕ → ℕ → ℕ → ℕ
number_at xs at zero = 0
number_at xs at (suc n) = number_at xs (suc at) n * 256 + get_or xs at 0

unfoldable pub put : List ℕ → ℕ → ℕ → ℕ → List ℕ
put xs at zero v = xs
put xs at (suc n) v = put (set xs at (v % 256)) (suc at) n (v / 256)

abbrev pub stored : List ℕ → ℕ → ℕ → ℕ → List ℕ
stored xs at n v = cond (leb (at + n) (length xs)) (put xs at n v) xs
