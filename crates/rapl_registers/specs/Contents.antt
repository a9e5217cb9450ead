-- The registers of a domain (document 01, "RAPL domains"; document 001): register r is the 8 bytes at 8 × r of the domain. Registers 0, 1
-- and 9 are always present, the others where their bit of FLAGS, which has sixteen, is 1.
--   present flags r     register r is present
--   register_place n r   where register r of domain n stands in an instance
--   register_at s n r    its 64 bits
--   content_number s n r the domain's number, then 17, then 26
--   content_of s n r     that refusal, or the 64 bits
-- Assumes nothing.
use Rattle.std.specs.Prelude.{ℕ, ◌+◌, ◌*◌, Bool, not, ◌&&◌, ◌||◌, List, [], ◌∷◌, ltb, leb, eqb}
use Rattle.words.specs.Answers.{Answer, gives, unless, first, earliest}
use Rattle.words.specs.Bytes.{number_at}
use Rattle.fields.specs.Bits.{field}
use Rattle.rapl_domains.specs.Domains.{block_at, header_in, domain_number}

unfoldable pub present : ℕ → ℕ → Bool
present flags r = eqb r 0 || (eqb r 1 || (eqb r 9 || (leb r 15 && eqb (field r 1 flags) 1)))

abbrev pub register_place : ℕ → ℕ → ℕ
register_place n r = block_at n + r * 8

unfoldable pub register_at : List ℕ → ℕ → ℕ → ℕ
register_at s n r = number_at s (register_place n r) 8

-- a register of a domain with these FLAGS
unfoldable pub absent : ℕ → ℕ → ℕ
absent flags r = first ((ltb 15 r, 17) ∷ (not (present flags r), 26) ∷ [])

unfoldable pub content_number : List ℕ → ℕ → ℕ → ℕ
content_number s n r = earliest (domain_number s n ∷ absent (header_in s n).flags r ∷ [])

unfoldable pub content_of : List ℕ → ℕ → ℕ → Answer
content_of s n r = unless (content_number s n r) (gives (register_at s n r ∷ []))
