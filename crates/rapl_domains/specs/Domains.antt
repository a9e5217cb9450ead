-- Domains in the bytes s of an instance (document 01, "RAPL domains"; document 001, "RAPL Domain Header"). Domain n, 0 to 255, is 128 bytes
-- at 128 × n, wholly inside. Document 01 is stricter than 001: a domain of another version, or of more blocks than one, is refused.
--   widths            the header's fields from bit 0 up, the reserved one too
--   header_of x        the header that register 0 says;   values h   its numbers in the order of the table
--   block_at n         where domain n starts;             header_in s n   the header there
--   missing s n       no block n lies inside (12)
--   unused h          its type is 0 (15)
--   wrong h           its version or its SIZE is not 1;  unsound s n   the header of domain n is so (16)
--   tests s n         the three, in the order of the table
--   domain_number s n  the first of them that holds, 0 where domain n is a sound domain
--   domain_of s n      that refusal, or the header's numbers
-- What finds a block (missing, block_at) and what makes a domain sound (unsound) stand here alone; callers use laws about them.
-- Assumes nothing.
use Rattle.std.specs.Prelude.{ℕ, ◌+◌, ◌*◌, Bool, not, ◌||◌, List, [], ◌∷◌, ltb, eqb, length}
use Rattle.words.specs.Answers.{Answer, gives, unless, first}
use Rattle.words.specs.Bytes.{number_at}
use Rattle.fields.specs.Bits.{field}
use Rattle.rapl_domains.specs.declared.domains.Header.{Header}

-- version, type, SIZE, parent, FLAGS, reserved 63:48
abbrev pub widths : List ℕ
widths = 8 ∷ 8 ∷ 8 ∷ 8 ∷ 16 ∷ 16 ∷ []

unfoldable pub header_of : ℕ → Header
header_of x =
    record {
      version = field 0 8 x;
      kind = field 8 8 x;
      size = field 16 8 x;
      parent = field 24 8 x;
      flags = field 32 16 x;
      reserved48 = field 48 16 x;
    }

abbrev pub values : Header → List ℕ
values h = h.version ∷ h.kind ∷ h.size ∷ h.parent ∷ h.flags ∷ h.reserved48 ∷ []

abbrev pub block_at : ℕ → ℕ
block_at n = n * 128

unfoldable pub header_in : List ℕ → ℕ → Header
header_in s n = header_of (number_at s (block_at n) 8)

unfoldable pub missing : List ℕ → ℕ → Bool
missing s n = ltb 255 n || ltb (length s) (block_at n + 128)

unfoldable pub unused : Header → Bool
unused h = eqb h.kind 0

unfoldable pub wrong : Header → Bool
wrong h = not (eqb h.version 1) || not (eqb h.size 1)

unfoldable pub unsound : List ℕ → ℕ → Bool
unsound s n = wrong (header_in s n)

abbrev pub tests : List ℕ → ℕ → List (Bool × ℕ)
tests s n = (missing s n, 12) ∷ (unused (header_in s n), 15) ∷ (unsound s n, 16) ∷ []

unfoldable pub domain_number : List ℕ → ℕ → ℕ
domain_number s n = first (tests s n)

unfoldable pub domain_of : List ℕ → ℕ → Answer
domain_of s n = unless (domain_number s n) (gives (values (header_in s n)))
