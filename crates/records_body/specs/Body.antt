-- A record's body as numbers (document 02, requests 1 and 10: the body's length hangs on the kind, and each of its numbers has its bytes),
-- by a table of widths in bytes, lowest byte first.
--   size w                      the bytes of a number of width w: 1, 2, 4 or 8; another width has none
--   extent ws                   the bytes of a body
--   numbers_at ws xs at          the numbers of the body that stands in xs from place `at` on
--   stored_numbers ws vs xs at   xs with the numbers vs stored there, one after the other
--   bytes_for n v                the n low bytes of v;   body_of ws vs   the bytes of a body that says the numbers vs
-- Assumes nothing.
use Rattle.std.specs.Prelude.{ℕ, zero, suc, ◌+◌, ◌/◌, ◌%◌, cond, ◌||◌, List, [], ◌∷◌, ◌++◌, eqb}
use Rattle.words.specs.Bytes.{number_at, stored}

unfoldable pub size : ℕ → ℕ
size w = cond (eqb w 1 || (eqb w 2 || (eqb w 4 || eqb w 8))) w 0

unfoldable pub extent : List ℕ → ℕ
extent [] = 0
extent (w ∷ ws) = size w + extent ws

unfoldable pub numbers_at : List ℕ → List ℕ → ℕ → List ℕ
numbers_at [] xs at = []
numbers_at (w ∷ ws) xs at = number_at xs at (size w) ∷ numbers_at ws xs (at + size w)

unfoldable pub stored_numbers : List ℕ → List ℕ → List ℕ → ℕ → List ℕ
stored_numbers [] vs xs at = xs
stored_numbers (w ∷ ws) [] xs at = xs
stored_numbers (w ∷ ws) (v ∷ vs) xs at = stored_numbers ws vs (stored xs at (size w) v) (at + size w)

unfoldable pub bytes_for : ℕ → ℕ → List ℕ
bytes_for zero v = []
bytes_for (suc n) v = v % 256 ∷ bytes_for n (v / 256)

unfoldable pub body_of : List ℕ → List ℕ → List ℕ
body_of [] vs = []
body_of (w ∷ ws) [] = []
body_of (w ∷ ws) (v ∷ vs) = bytes_for (size w) v ++ body_of ws vs
