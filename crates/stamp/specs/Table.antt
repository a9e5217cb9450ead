-- Document 01's bench cases that are marked P, in one table over the definitions of the crates: what is asked, and what is due.
--   Row            what a definition says of a case, and what document 01 says
--   table          the rows: structures, banks, windows, energy, limits
--   same a b       the two answers are one: the same number refused, or the same values in the same order
--   all_same rs     in every row they are
--   AllDue rs      in every row what is asked equals what is due
--   SameFact       two answers are one by the test exactly if they are equal
--   RowsFact       so the test over rows holds exactly if every row is an equation
--   TableFact      the test holds of the whole table
-- Assumes nothing.
use Rattle.std.specs.Prelude.{ℕ, ◌-◌, ◌≡◌, Bool, true, false, ◌&&◌, ◌↔◌, List, [], ◌∷◌, ◌++◌, eqb, replicate}
use Rattle.words.specs.Answers.{Answer, refused, gives}
use Rattle.tpmi_structure.specs.Structure.{read_of}
use Rattle.capture.specs.Capture.{Capture, captured}
use Rattle.tpmi_discovery.specs.Discovery.{discovery_of}
use Rattle.tpmi_features.specs.Instances.{feature_of}
use Rattle.rapl_windows.specs.Windows.{window_of}
use Rattle.rapl_lookups.specs.Lookups.{content_for}
use Rattle.rapl_writes.specs.Next.{next_for}
use Rattle.rapl_writes.specs.Write.{left}
use Rattle.energy_hall.specs.Hall.{Named, all_closed, answer_on, leaves_all}
use Rattle.energy_calls.specs.Calls.{reading_of, opening_of}
use Rattle.energy_calls.specs.declared.calls.Call.{Call}
use Rattle.energy_calls.specs.declared.calls.Call.TheVariants.{Open, Read, Ask}

pub record Row : Type 0 where
  pub asked : Answer
  pub due : Answer

abbrev row : Answer → Answer → Row
row a d = record { asked = a; due = d }

-- ---- the bytes that the cases name

abbrev pub vsec : List ℕ
vsec = 0x0B ∷ 0x00 ∷ 0x01 ∷ 0x00 ∷ 0x42 ∷ 0x00 ∷ 0x01 ∷ 0x01 ∷ 0x00 ∷ 0x00 ∷ 0x02 ∷ 0x02 ∷ 0x01 ∷ 0x08 ∷ 0x00 ∷ 0x00 ∷ []

-- the PFS entry with its CapOffset
abbrev pub rapl : ℕ → List ℕ
rapl offset = 0x00 ∷ 0x01 ∷ 0x60 ∷ 0x00 ∷ offset ∷ 0x00 ∷ 0x01 ∷ 0x00 ∷ []

-- 4,096 bytes: the vendor word 0x8086, and the structure at 0x100
abbrev pub config : List ℕ
config = 0x86 ∷ 0x80 ∷ replicate 254 0 ++ vsec ++ replicate 3824 0

-- the table at 2,048 with that entry and an empty one, and the bytes from 2,064 on
abbrev pub bar : ℕ → List ℕ → List ℕ
bar offset rest = replicate 2048 0 ++ rapl offset ++ replicate 8 0 ++ rest

-- the capture with that BAR 1, and an empty BAR 0
abbrev pub capture : ℕ → List ℕ → Capture
capture offset rest = captured config 0 [] 1 (bar offset rest)

-- so many bytes of zeros in the whole BAR
abbrev pub blank : ℕ → ℕ → Capture
blank offset n = capture offset (replicate (n - 2064) 0)

-- ---- energy and limits

-- the calls of the energy cases: channel 0 opened at a count, and one reading, in time
abbrev pub opening : ℕ → Named
opening count = record { channel = 0; call = Open (opening_of 14 1000 5000 count 0) }

abbrev pub reading : ℕ → Call
reading count = Read (reading_of 6000 count 0)

-- what the reading answers, and what the total is then
abbrev pub read : ℕ → ℕ → Answer
read from to = answer_on (leaves_all all_closed (opening from ∷ [])) 0 (reading to)

abbrev pub added : ℕ → ℕ → Answer
added from to = answer_on (leaves_all all_closed (opening from ∷ record { channel = 0; call = reading to } ∷ [])) 0 Ask

-- domain 0 at 6,144: version 1, a package, SIZE 1, its own parent, FLAGS with limit 1's bit; a limit of all zeros, register 9 all ones
abbrev pub domain : List ℕ
domain = 1 ∷ 2 ∷ 1 ∷ 0 ∷ 4 ∷ replicate 67 0 ++ replicate 8 0xFF ++ replicate 304 0

abbrev pub board : Capture
board = capture 4 (replicate 4080 0 ++ domain)

-- the capture once a field of limit 1 was written: 0 is PWR_LIM, 1 TIME_WINDOW, 2 PWR_LIM_EN
abbrev pub after_write : Capture → ℕ → ℕ → Capture
after_write c which value = left c 0 0 1 which value

-- ---- the cases

abbrev pub table : List Row
table =
    -- the structure of 16 bytes: its eleven numbers, the offset in bytes
    row (read_of vsec) (gives (0x0B ∷ 1 ∷ 0 ∷ 0x42 ∷ 1 ∷ 0x10 ∷ 0 ∷ 2 ∷ 2 ∷ 1 ∷ 2048 ∷ []))
    -- RAPL's bank: BAR number, start, bytes of an instance, instances
    ∷ row (feature_of (blank 4 6528) 0) (gives (1 ∷ 6144 ∷ 384 ∷ 1 ∷ []))
    -- a BAR capture that ends where the bank does is accepted: BAR number, place, entries
    ∷ row (discovery_of (blank 4 6528)) (gives (1 ∷ 2048 ∷ 2 ∷ []))
    -- one byte less is not
    ∷ row (discovery_of (blank 4 6527)) (refused 9)
    -- a bank over the table
    ∷ row (discovery_of (blank 0 6528)) (refused 11)
    -- time unit 10: no time at all
    ∷ row (window_of 0 10) (gives (0x00 ∷ []))
    -- a millisecond is longer than a time unit
    ∷ row (window_of 1 10) (gives (0x20 ∷ []))
    -- a second is 1,024 time units, exactly
    ∷ row (window_of 1000 10) (gives (0x0A ∷ []))
    -- 28 seconds, by X and Y
    ∷ row (window_of 28000 10) (gives (0x6E ∷ []))
    -- time unit 15: the longest window
    ∷ row (window_of 114688000 15) (gives (0x7F ∷ []))
    -- a millisecond more has no code
    ∷ row (window_of 114688001 15) (refused 19)
    -- a turnover is read
    ∷ row (read 0xFFFFFFF0 0x10) (gives [])
    -- and its rise is 32
    ∷ row (added 0xFFFFFFF0 0x10) (gives (32 ∷ []))
    -- the same count again is read
    ∷ row (read 0x10 0x10) (gives [])
    -- and has no rise
    ∷ row (added 0x10 0x10) (gives (0 ∷ []))
    -- power, window and the enable bit written one after the other, then the register read
    ∷ row (content_for (after_write (after_write (after_write board 0 1000) 1 0x6E) 2 1) 0 0 2) (gives (0x4000000001B803E8 ∷ []))
    -- the widest power is stored
    ∷ row (content_for (after_write board 0 262143) 0 0 2) (gives (262143 ∷ []))
    -- the next is too wide
    ∷ row (next_for board 0 0 1 0 262144) (refused 17)
    ∷ []

-- ---- one test over it

abbrev pub same_numbers : List ℕ → List ℕ → Bool
same_numbers [] [] = true
same_numbers [] (y ∷ ys) = false
same_numbers (x ∷ xs) [] = false
same_numbers (x ∷ xs) (y ∷ ys) = eqb x y && same_numbers xs ys

abbrev pub same : Answer → Answer → Bool
same (refused m) (refused n) = eqb m n
same (refused m) (gives ys) = false
same (gives xs) (refused n) = false
same (gives xs) (gives ys) = same_numbers xs ys

abbrev pub all_same : List Row → Bool
all_same [] = true
all_same (r ∷ rs) = same r.asked r.due && all_same rs

-- ---- the theorems

abbrev pub SameFact : Answer → Answer → Type 0
SameFact a b = (same a b ≡ true) ↔ (a ≡ b)

abbrev pub AllDue : List Row → Type 0
AllDue [] = Unit {0}
AllDue (r ∷ rs) = (r.asked ≡ r.due) × AllDue rs

abbrev pub RowsFact : List Row → Type 0
RowsFact rs = (all_same rs ≡ true) ↔ AllDue rs

abbrev pub TableFact : Type 0
TableFact = all_same table ≡ true
