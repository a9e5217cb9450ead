-- The table of PFS entries located (document 01, "Refusal table", 1 to 7; document 000, "Discovery and Access"). The BAR capture that tBIR
-- does not name is never looked at, and no entry of the table is.
--   structure_of c    the VSEC structure at the place that the walk takes
--   bir_of, table_of, entries_of   its tBIR, its table offset, its NumEntries
--   bar_of c          the BAR capture that tBIR names
--   before_walk       1, then 2;   bir_number   6;   table_number   7
--   location_number c the stages in their order: 1 and 2, what the walk says (3 to 5), 6, 7
--   location_of c     that refusal, or the table: BAR number, place, number of entries
-- Assumes nothing.
use Rattle.std.specs.Prelude.{ℕ, ◌+◌, ◌*◌, Bool, not, ◌&&◌, ◌||◌, List, [], ◌∷◌, ltb, eqb, length}
use Rattle.words.specs.Answers.{Answer, gives, unless, number_in, value_in, first, earliest}
use Rattle.words.specs.Bytes.{number_at}
use Rattle.capture.specs.Capture.{Capture}
use Rattle.capture.specs.Places.{named}
use Rattle.tpmi_structure.specs.Structure.{vsec_at}
use Rattle.tpmi_structure.specs.declared.structure.Vsec.{Vsec}
use Rattle.tpmi_walk.specs.Walk.{walk_of}

unfoldable pub structure_of : Capture → Vsec
structure_of c = vsec_at c.config (value_in (walk_of c.config) 0)

abbrev pub bir_of : Capture → ℕ
bir_of c = (structure_of c).bir

abbrev pub table_of : Capture → ℕ
table_of c = (structure_of c).offset

abbrev pub entries_of : Capture → ℕ
entries_of c = (structure_of c).entries

unfoldable pub bar_of : Capture → List ℕ
bar_of c = named (bir_of c) c.lo c.low c.hi c.high

-- the configuration space is not 4,096 bytes, a BAR number is above 5, or the two are equal
unfoldable pub misshapen : ℕ → ℕ → ℕ → Bool
misshapen len lo hi = not (eqb len 4096) || (ltb 5 lo || (ltb 5 hi || eqb lo hi))

unfoldable pub before_walk : List ℕ → ℕ → ℕ → ℕ
before_walk config lo hi =
    first
    ((misshapen (length config) lo hi, 1)
    ∷ (not (eqb (number_at config 0 2) 0x8086), 2)
    ∷ [])

-- tBIR is neither number
unfoldable pub bir_number : ℕ → ℕ → ℕ → ℕ
bir_number b lo hi = first ((not (eqb b lo) && not (eqb b hi), 6) ∷ [])

-- a table of 1 or more entries ends past its BAR capture
unfoldable pub table_number : List ℕ → ℕ → ℕ → ℕ
table_number s t n = first ((not (eqb n 0) && ltb (length s) (t + n * 8), 7) ∷ [])

-- what a table of n entries at t answers, in the BAR capture s with the number b
unfoldable pub table_in : List ℕ → ℕ → ℕ → ℕ → Answer
table_in s b t n = unless (table_number s t n) (gives (b ∷ t ∷ n ∷ []))

-- what a structure answers
unfoldable pub named_by : Vsec → ℕ → List ℕ → ℕ → List ℕ → Answer
named_by v lo low hi high =
    unless
    (earliest
    (bir_number v.bir lo hi
    ∷ table_number (named v.bir lo low hi high) v.offset v.entries
    ∷ []))
    (gives (v.bir ∷ v.offset ∷ v.entries ∷ []))

unfoldable pub location_number : Capture → ℕ
location_number c =
    earliest
    (before_walk c.config c.lo c.hi
    ∷ number_in (walk_of c.config)
    ∷ bir_number (bir_of c) c.lo c.hi
    ∷ table_number (bar_of c) (table_of c) (entries_of c)
    ∷ [])

unfoldable pub location_of : Capture → Answer
location_of c = unless (location_number c) (gives (bir_of c ∷ table_of c ∷ entries_of c ∷ []))
