-- Parts of a BAR capture (document 01, "PFS and register places"): which of the two captures a number names, and the bytes of one piece
-- of it at a place.
--   named b lo low hi high   the BAR capture with the number b, empty where it is neither of the two
--   piece, part_of            the bytes of one piece at a place, none where they pass the end
--   bar_in c b, part_in c p   the same two of a whole capture
-- Assumes nothing.
use Rattle.std.specs.Prelude.{ℕ, ◌+◌, cond, List, [], leb, eqb, length, take, drop}
use Rattle.capture.specs.Capture.{Capture}
use Rattle.capture.specs.declared.places.Place.{Place}

unfoldable pub named : ℕ → ℕ → List ℕ → ℕ → List ℕ → List ℕ
named b lo low hi high = cond (eqb b lo) low (cond (eqb b hi) high [])

-- n bytes from a place on; none where they pass the end
unfoldable pub piece : List ℕ → ℕ → ℕ → List ℕ
piece s at n = cond (leb (at + n) (length s)) (take n (drop at s)) []

abbrev pub part_of : Place → ℕ → List ℕ → ℕ → List ℕ → List ℕ
part_of p lo low hi high = piece (named p.bir lo low hi high) p.start p.size

abbrev pub bar_in : Capture → ℕ → List ℕ
bar_in c b = named b c.lo c.low c.hi c.high

abbrev pub part_in : Capture → Place → List ℕ
part_in c p = part_of p c.lo c.low c.hi c.high
