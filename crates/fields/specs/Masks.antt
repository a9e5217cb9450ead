-- How many numbers pass a test, and the mask that has a bit for each of them; the bits of a mask as a test.
--   one b             1 for true, 0 for false
--   how_many p n       how many of the numbers below n pass the test p
--   mask_of p n        the number whose bit k is 1 exactly where k, below n, passes
--   onwards p m       the test p from m on
--   is_set x k         bit k of x is 1
-- Assumes nothing.
use Rattle.std.specs.Prelude.{ℕ, zero, suc, ◌+◌, ◌*◌, ◌^◌, Bool, true, false, eqb}
use Rattle.fields.specs.Bits.{bit}

abbrev pub one : Bool → ℕ
one true = 1
one false = 0

unfoldable pub how_many : (ℕ → Bool) → ℕ → ℕ
how_many p zero = 0
how_many p (suc n) = one (p n) + how_many p n

unfoldable pub mask_of : (ℕ → Bool) → ℕ → ℕ
mask_of p zero = 0
mask_of p (suc n) = one (p n) * 2 ^ n + mask_of p n

abbrev pub onwards : (ℕ → Bool) → ℕ → ℕ → Bool
onwards p m k = p (m + k)

abbrev pub is_set : ℕ → ℕ → Bool
is_set x k = eqb (bit k x) 1
