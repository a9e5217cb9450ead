-- A content of 8 bytes stored in one of two BAR captures (document 01, "PFS and register places": the registers stand in the BAR capture
-- that tBIR names). What does not fit is not stored.
--   in_low, in_high           what the first and the second BAR capture hold once x is stored at a place of the one with the number b
--   low_with, high_with       the same of 8 bytes at an offset of one piece of the place p, where they do not pass its end
--   stored_at c id n offset  where 8 bytes at an offset of instance n of a feature stand
--   after_store c id n offset x   the capture once x is stored there
-- Assumes nothing.
use Rattle.std.specs.Prelude.{ℕ, ◌+◌, cond, List, leb, eqb}
use Rattle.words.specs.Bytes.{stored}
use Rattle.capture.specs.Capture.{Capture, captured}
use Rattle.capture.specs.declared.places.Place.{Place}
use Rattle.tpmi_discovery.specs.Table.{bir_of}
use Rattle.tpmi_features.specs.Instances.{start_for}

unfoldable pub in_low : ℕ → ℕ → ℕ → ℕ → List ℕ → List ℕ
in_low b at x lo low = cond (eqb b lo) (stored low at 8 x) low

-- a number that both bear names the first
unfoldable pub in_high : ℕ → ℕ → ℕ → ℕ → ℕ → List ℕ → List ℕ
in_high b at x lo hi high = cond (eqb b lo) high (cond (eqb b hi) (stored high at 8 x) high)

unfoldable pub low_with : Place → ℕ → ℕ → ℕ → List ℕ → List ℕ
low_with p offset x lo low = cond (leb (offset + 8) p.size) (in_low p.bir (p.start + offset) x lo low) low

unfoldable pub high_with : Place → ℕ → ℕ → ℕ → ℕ → List ℕ → List ℕ
high_with p offset x lo hi high = cond (leb (offset + 8) p.size) (in_high p.bir (p.start + offset) x lo hi high) high

abbrev pub stored_at : Capture → ℕ → ℕ → ℕ → ℕ
stored_at c id n offset = start_for c id n + offset

abbrev pub after_store : Capture → ℕ → ℕ → ℕ → ℕ → Capture
after_store c id n offset x =
    captured c.config c.lo (in_low (bir_of c) (stored_at c id n offset) x c.lo c.low) c.hi
    (in_high (bir_of c) (stored_at c id n offset) x c.lo c.hi c.high)
