-- The walk of extended configuration space (document 01, "Walk and VSEC"; PCI Express, and 000 for VSEC_ID 0x42). Document 01 is
-- stricter than both: a next offset must be a multiple of 4, and a list has at most 960 headers, as many as there are places.
--   identifier_at, next_at, vsec_id_at   bits 15:0 and 31:20 of the header at a place, and the 16 bits after it
--   followed n     where a next offset leads: 0 ends the list (3); 1 to 0xFF or no multiple of 4 is malformed (4)
--   taken_at s at   a TPMI header: 5 above 4,080 or where a fixed field is wrong; else it is taken
--   header_at s at  what one header says: the walk stops with an answer, or goes on at a place
--   walk_from       the walk from a place, with so many headers left
--   walk_of s       the walk of a configuration space: the place that is taken, or 3, 4, 5
-- Assumes nothing.
use Rattle.std.specs.Prelude.{ℕ, zero, suc, ◌+◌, ◌%◌, ◌<◌, Bool, true, false, cond, not, ◌&&◌, ◌||◌, List, [], ◌∷◌, ltb, eqb}
use Rattle.words.specs.Answers.{Answer, refused, gives, unless, first}
use Rattle.words.specs.Bytes.{number_at}
use Rattle.fields.specs.Bits.{field}
use Rattle.tpmi_structure.specs.Structure.{vsec_at, fixed_wrong}

unfoldable pub identifier_at : List ℕ → ℕ → ℕ
identifier_at s at = field 0 16 (number_at s at 4)

unfoldable pub next_at : List ℕ → ℕ → ℕ
next_at s at = field 20 12 (number_at s at 4)

unfoldable pub vsec_id_at : List ℕ → ℕ → ℕ
vsec_id_at s at = number_at s (at + 4) 2

-- stops a: the walk is over with a. goes n: the next header is at n
pub data Header : Type 0 where
  stops : Answer → Header
  goes : ℕ → Header

unfoldable pub followed : ℕ → Header
followed n =
    cond (eqb n 0) (stops (refused 3))
    (cond (ltb n 0x100 || not (eqb (n % 4) 0)) (stops (refused 4))
    (goes n))

unfoldable pub taken_at : List ℕ → ℕ → Answer
taken_at s at = unless (first ((ltb 4080 at, 5) ∷ (fixed_wrong (vsec_at s at), 5) ∷ [])) (gives (at ∷ []))

-- identifier 0x000B at 4,092 is 5, since its VSEC_ID lies past the end; with VSEC_ID 0x42 it is the TPMI header
unfoldable pub header_at : List ℕ → ℕ → Header
header_at s at =
    cond (eqb (identifier_at s at) 0x000B && ltb 4088 at) (stops (refused 5))
    (cond (eqb (identifier_at s at) 0x000B && eqb (vsec_id_at s at) 0x42) (stops (taken_at s at))
    (followed (next_at s at)))

-- the rest of the walk is handed over as a function, so that it is run only where the walk goes on
abbrev pub onward : Header → (ℕ → Answer) → Answer
onward (stops a) go = a
onward (goes n) go = go n

-- a 961st header is malformed (4)
unfoldable pub walk_from : List ℕ → ℕ → ℕ → Answer
walk_from s zero at = refused 4
walk_from s (suc left) at = onward (header_at s at) (walk_from s left)

-- where the walk goes on, it does so below a bound
abbrev pub Onward : Header → ℕ → Type 0
Onward (stops a) b = Unit {0}
Onward (goes n) b = n < b

-- a first word of all zeros or all ones is an empty list
unfoldable pub empty_list : List ℕ → Bool
empty_list s = eqb (number_at s 0x100 4) 0 || eqb (number_at s 0x100 4) 0xFFFFFFFF

abbrev pub unless_empty : Bool → (ℕ → Answer) → Answer
unless_empty true go = refused 3
unless_empty false go = go 0x100

unfoldable pub walk_of : List ℕ → Answer
walk_of s = unless_empty (empty_list s) (walk_from s 960)
