-- Numbers as text (document 01, "Bench cases": a listing's numbers are decimal), in ASCII, for any base up to 16.
--   glyph_of d        the byte that stands for the digit d: 0 to 9, then a to f
--   digit_of g        the digit that a byte stands for
--   digits b k n     the k lowest digits of n in base b, the highest first
--   holds b n k      k digits hold n
--   places_of b n     how many digits n takes: the first number k of 1 and more with n below b to the k
--   numeral_of b n    n as text: that many digits, so with no zero in front
--   read_on b a gs    the number a with the digits gs after it;   read_as b gs   the number that a text says
-- Assumes nothing.
use Rattle.std.specs.Prelude.{ℕ, zero, suc, ◌+◌, ◌-◌, ◌*◌, ◌/◌, ◌%◌, ◌^◌, Bool, cond, List, [], ◌∷◌, ltb}
use Rattle.words.specs.Below.{least}

abbrev pub glyph_of : ℕ → ℕ
glyph_of d = cond (ltb d 10) (48 + d) (87 + d)

abbrev pub digit_of : ℕ → ℕ
digit_of g = cond (ltb g 58) (g - 48) (g - 87)

unfoldable pub digits : ℕ → ℕ → ℕ → List ℕ
digits b zero n = []
digits b (suc k) n = glyph_of (n / b ^ k % b) ∷ digits b k n

-- k digits hold n
abbrev pub holds : ℕ → ℕ → ℕ → Bool
holds b n k = ltb n (b ^ k)

-- a number of 64 bits takes at most 64 digits
unfoldable pub places_of : ℕ → ℕ → ℕ
places_of b n = least (holds b n) 64 1

abbrev pub numeral_of : ℕ → ℕ → List ℕ
numeral_of b n = digits b (places_of b n) n

abbrev pub read_on : ℕ → ℕ → List ℕ → ℕ
read_on b a [] = a
read_on b a (g ∷ gs) = read_on b (a * b + digit_of g) gs

abbrev pub read_as : ℕ → List ℕ → ℕ
read_as b gs = read_on b 0 gs
