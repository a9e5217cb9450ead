-- A field of a number: w bits from place p on, the lowest bit of the number at place 0.
-- What lies above the number reads 0; what does not fit is not stored: of a number wider than the field its low w bits are.
--   field p w x             what the field holds
--   bit k x                 the bit at place k, a field one bit wide
--   with_field p w x v       x with v in the field and every other bit as it was
--   field_stored n p w x v   the same where the field lies inside n bits; x itself where it does not
-- Assumes nothing.
use Rattle.std.specs.Prelude.{ℕ, ◌+◌, ◌*◌, ◌/◌, ◌%◌, ◌^◌, cond, leb}

unfoldable pub field : ℕ → ℕ → ℕ → ℕ
field p w x = x / 2 ^ p % 2 ^ w

abbrev pub bit : ℕ → ℕ → ℕ
bit k x = field k 1 x

-- what stands above the field, the field, what stands below it
unfoldable pub with_field : ℕ → ℕ → ℕ → ℕ → ℕ
with_field p w x v = (x / 2 ^ (p + w) * 2 ^ w + v % 2 ^ w) * 2 ^ p + x % 2 ^ p

abbrev pub field_stored : ℕ → ℕ → ℕ → ℕ → ℕ → ℕ
field_stored n p w x v = cond (leb (p + w) n) (with_field p w x v) x
