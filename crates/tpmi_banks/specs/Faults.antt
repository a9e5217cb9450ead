-- A table of PFS entries at place t of a BAR capture s: the bank of each entry, and the faults 8 to 11 (document 01, "Refusal table" and
-- "PFS and register places"; 000 for the formulas). Document 01 is stricter than 000, which tests no end and no overlap.
--   bank_of t e          what an entry says of its bank: EntrySize counts 32-bit words, CapOffset KiB from the table
--   bank_in s t k        the bank of entry k
--   empty_bank b         NumEntries or EntrySize is 0: nothing is tested, and it is no earlier entry for 10 and 11
--   overlap a b c d     the stretches from a up to b and from c up to d share a byte
--   repeats, meets      an earlier bank, not empty, has the same identifier; shares a byte
--   fault_at s t n k     the fault of entry k of n: its smallest number of 8 to 11, 0 where it has none
--   faults_of s t n      the first faulty entry in table order decides
-- Assumes nothing.
use Rattle.std.specs.Prelude.{ℕ, ◌+◌, ◌*◌, ◌<◌, Bool, cond, not, ◌&&◌, ◌||◌, List, [], ◌∷◌, ltb, eqb, length}
use Rattle.words.specs.Answers.{first}
use Rattle.words.specs.Below.{any_below, first_below}
use Rattle.tpmi_entries.specs.Entry.{entry_at}
use Rattle.tpmi_entries.specs.declared.entry.Entry.{Entry}
use Rattle.tpmi_banks.specs.declared.faults.Bank.{Bank}

-- an entry whose numbers fit their fields, as every one does that is read from bytes
pub record Small (e : Entry) : Type 0 where
  pub instances : e.instances < 256
  pub words : e.words < 65536
  pub offset : e.offset < 65536

unfoldable pub bank_of : ℕ → Entry → Bank
bank_of t e =
    record {
      id = e.id;
      instances = e.instances;
      words = e.words;
      start = t + e.offset * 1024;
      end = t + e.offset * 1024 + e.instances * e.words * 4;
    }

unfoldable pub bank_in : List ℕ → ℕ → ℕ → Bank
bank_in s t k = bank_of t (entry_at s (t + k * 8))

unfoldable pub empty_bank : Bank → Bool
empty_bank b = eqb b.instances 0 || eqb b.words 0

abbrev pub overlap : ℕ → ℕ → ℕ → ℕ → Bool
overlap a b c d = ltb a d && ltb c b

-- the earlier bank a against b
unfoldable pub repeats : Bank → Bank → Bool
repeats a b = not (empty_bank a) && eqb a.id b.id

unfoldable pub meets : Bank → Bank → Bool
meets a b = not (empty_bank a) && overlap a.start a.end b.start b.end

-- the bank of entry j of the table against b
abbrev pub repeats_at : List ℕ → ℕ → Bank → ℕ → Bool
repeats_at s t b j = repeats (bank_in s t j) b

abbrev pub meets_at : List ℕ → ℕ → Bank → ℕ → Bool
meets_at s t b j = meets (bank_in s t j) b

-- the tests of an entry that is not empty, in their order; the table is all of its n entries of 8 bytes
abbrev pub tests : List ℕ → ℕ → ℕ → ℕ → Bank → List (Bool × ℕ)
tests s t n k b =
    (eqb b.words 1, 8)
    ∷ (ltb (length s) b.end, 9)
    ∷ (any_below (repeats_at s t b) k, 10)
    ∷ (overlap t (t + n * 8) b.start b.end || any_below (meets_at s t b) k, 11)
    ∷ []

unfoldable pub fault_at : List ℕ → ℕ → ℕ → ℕ → ℕ
fault_at s t n k = cond (empty_bank (bank_in s t k)) 0 (first (tests s t n k (bank_in s t k)))

unfoldable pub faults_of : List ℕ → ℕ → ℕ → ℕ
faults_of s t n = first_below (fault_at s t n) n
