-- Fabric clusters in the bytes s of an instance of feature 2 (document 02, request 2; document 002, "Register Indexing", "Global Fabric ID
-- Computation in Software", "UFS_FABRIC_CLUSTER_OFFSET"). A register is named by a number: 0 the header and 1 the cluster offsets, which are
-- the instance's own; 2 status, 3 control, 4 and 5 the advanced controls, which are a cluster's. Document 002 prints byte 0 of the offset
-- register alone; byte n is local cluster n's, in eights of bytes.
--   ones_in x            how many bits of a mask are 1
--   clusters_in s        the number of fabric clusters: the ones of the header's mask
--   fabric_of s die n    17, or the global fabric number of local cluster n: die × clusters + n
--   start_in s n         where the registers of local cluster n start
--   place_of s n r       where register r of local cluster n stands in the instance
--   unnamed s die n r   there is no such register, die or cluster (17)
--   unread s r          the register is a cluster's, and the offset register ends past the instance
--   past s at           the 8 bytes at a place end past the instance
--   tests s die n r     17, then 14;  place_number  the first that holds
--   place_in, content_in  that refusal, or the place; the 8 bytes there
-- Two clusters may share registers, and a cluster may lie over header and offsets: no rule forbids it.
-- Assumes nothing.
use Rattle.std.specs.Prelude.{ℕ, ◌+◌, ◌*◌, ◌-◌, Bool, cond, ◌&&◌, ◌||◌, List, [], ◌∷◌, ltb, leb, length}
use Rattle.words.specs.Answers.{Answer, gives, unless, first}
use Rattle.words.specs.Bytes.{number_at}
use Rattle.fields.specs.Bits.{field}
use Rattle.fields.specs.Masks.{how_many, is_set}
use Rattle.uncore_registers.specs.Header.{header_of}

-- ---- clusters

unfoldable pub ones_in : ℕ → ℕ
ones_in x = how_many (is_set x) 64

unfoldable pub clusters_in : List ℕ → ℕ
clusters_in s = ones_in (header_of (number_at s 0 8)).mask

unfoldable pub fabric_number : List ℕ → ℕ → ℕ → ℕ
fabric_number s die n = first ((ltb 255 die || leb (clusters_in s) n, 17) ∷ [])

unfoldable pub fabric_of : List ℕ → ℕ → ℕ → Answer
fabric_of s die n = unless (fabric_number s die n) (gives ((die * clusters_in s + n) ∷ []))

-- ---- registers

-- byte n of the offset register
unfoldable pub start_in : List ℕ → ℕ → ℕ
start_in s n = field (n * 8) 8 (number_at s 8 8) * 8

unfoldable pub place_of : List ℕ → ℕ → ℕ → ℕ
place_of s n r = cond (ltb r 2) (r * 8) (start_in s n + (r - 2) * 8)

unfoldable pub unnamed : List ℕ → ℕ → ℕ → ℕ → Bool
unnamed s die n r = ltb 5 r || (ltb 255 die || (leb 2 r && leb (clusters_in s) n))

unfoldable pub past : List ℕ → ℕ → Bool
past s at = ltb (length s) (at + 8)

unfoldable pub unread : List ℕ → ℕ → Bool
unread s r = leb 2 r && past s 8

abbrev pub tests : List ℕ → ℕ → ℕ → ℕ → List (Bool × ℕ)
tests s die n r = (unnamed s die n r, 17) ∷ (unread s r || past s (place_of s n r), 14) ∷ []

unfoldable pub place_number : List ℕ → ℕ → ℕ → ℕ → ℕ
place_number s die n r = first (tests s die n r)

unfoldable pub place_in : List ℕ → ℕ → ℕ → ℕ → Answer
place_in s die n r = unless (place_number s die n r) (gives (place_of s n r ∷ []))

unfoldable pub content_in : List ℕ → ℕ → ℕ → ℕ → Answer
content_in s die n r = unless (place_number s die n r) (gives (number_at s (place_of s n r) 8 ∷ []))
