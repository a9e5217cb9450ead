-- Worked writes, good and refused ones side by side; each is computed. Assumes nothing.
use Prim.Native.Nat.{ℕ}
use mathlib.Core.Path.{◌≡◌, refl}
use mathlib.Core.List.{List, [], ◌∷◌, ◌++◌}
use lib.ListN.{replicate}
use Rattle.words.specs.Answers.{Answer, refused, gives, first, or_else, earliest}
use Rattle.words.specs.Bytes.{number_at, put, stored}
use Rattle.fields.specs.Bits.{field, with_field}
use Rattle.rapl_domains.specs.Domains.{header_of, header_in, missing, unused, wrong, unsound, domain_number}
use Rattle.rapl_registers.specs.Contents.{present, register_place, register_at}
use Rattle.rapl_permits.specs.Permits.{lowest_of, width_of, a_limit, unwritable, refusal_of}
use Rattle.rapl_writes.specs.Next.{next_content, next_number, next_of}

-- one domain with these FLAGS: version 1, a package, SIZE 1, its own parent; limits of all zeros, register 9 all ones
abbrev board : ℕ → List ℕ
board flags = 1 ∷ 2 ∷ 1 ∷ 0 ∷ flags ∷ replicate 67 0 ++ replicate 8 255 ++ replicate 48 0

-- the instance once field `which` of limit 1 was written
abbrev after_write : List ℕ → ℕ → ℕ → List ℕ
after_write s which value = stored s (register_place 0 2) 8 (next_content s 0 1 which value)

-- document 01's case: PWR_LIM 1,000, TIME_WINDOW 0x6E, enable
three_writes : register_at (after_write (after_write (after_write (board 4) 0 1000) 1 0x6E) 2 1) 0 2 ≡ 0x4000000001B803E8
unfolding register_at next_content lowest_of width_of with_field field put number_at
three_writes = refl

-- limit 1 where register 2 is present alone: 262,143 is stored, 262,144 is not; limit 2 is absent; limit 3, and a field 4, there is not;
-- a locked register refuses every field, LOCK too
abbrev asked : List Answer
asked =
    next_of (board 4) 0 1 0 262143
    ∷ next_of (board 4) 0 1 0 262144
    ∷ next_of (board 4) 0 2 1 0
    ∷ next_of (board 4) 0 3 0 1
    ∷ next_of (board 4) 0 1 4 0
    ∷ next_of (after_write (board 4) 3 1) 0 1 0 1
    ∷ next_of (after_write (board 4) 3 1) 0 1 3 0
    ∷ []

asked_cases : asked ≡ gives (262143 ∷ []) ∷ refused 17 ∷ refused 26 ∷ refused 27 ∷ refused 27 ∷ refused 18 ∷ refused 18 ∷ []
unfolding next_of next_number earliest or_else domain_number first missing unused unsound wrong header_in header_of register_at present refusal_of a_limit unwritable next_content lowest_of width_of with_field field put number_at
asked_cases = refl

-- TIME_WINDOW of limit 2 in a package is 27, whatever the number and LOCK; its power can be written, and LOCK 0 changes nothing
abbrev of_a_package : List Answer
of_a_package = next_of (board 12) 0 2 1 999 ∷ next_of (board 12) 0 2 0 5 ∷ next_of (board 12) 0 2 3 0 ∷ next_of (board 12) 1 1 0 0 ∷ []

package_cases : of_a_package ≡ refused 27 ∷ gives (5 ∷ []) ∷ gives (0 ∷ []) ∷ refused 12 ∷ []
unfolding next_of next_number earliest or_else domain_number first missing unused unsound wrong header_in header_of register_at present refusal_of a_limit unwritable next_content lowest_of width_of with_field field put number_at
package_cases = refl
