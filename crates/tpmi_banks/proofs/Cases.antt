-- Worked examples: document 01's table at 2,048, whose first entry is RAPL and whose second is empty; good and refused ones side by side,
-- each computed. Assumes nothing.
use Prim.Native.Nat.{ℕ}
use mathlib.Core.Path.{◌≡◌, refl}
use mathlib.Core.List.{List, [], ◌∷◌, ◌++◌}
use lib.ListN.{replicate}
use Rattle.words.specs.Answers.{first, or_else}
use Rattle.words.specs.Below.{any_below, first_below}
use Rattle.words.specs.Bytes.{number_at}
use Rattle.fields.specs.Bits.{field}
use Rattle.tpmi_entries.specs.Entry.{entry_of, entry_at}
use Rattle.tpmi_banks.specs.Faults.{bank_of, bank_in, empty_bank, repeats, meets, fault_at, faults_of}
use Rattle.tpmi_entries.proofs.Cases.{rapl}

-- a BAR capture with the two entries at 2,048, and so many bytes after them
abbrev bar : List ℕ → List ℕ → ℕ → List ℕ
bar a b n = replicate 2048 0 ++ a ++ b ++ replicate n 0

-- its bank: 384 bytes at 6,144
rapl_bank : bank_in (bar rapl [] 0) 2048 0 ≡ record { id = 0; instances = 1; words = 0x60; start = 6144; end = 6528 }
unfolding bank_in bank_of entry_at entry_of number_at field
rapl_bank = refl

-- the bank fits a BAR capture of 6,528 bytes, and not one of 6,527
fits : faults_of (bar rapl (replicate 8 0) 4464) 2048 2 ≡ 0
unfolding faults_of first_below or_else fault_at first any_below repeats meets empty_bank bank_in bank_of entry_at entry_of number_at field
fits = refl

one_byte_short : faults_of (bar rapl (replicate 8 0) 4463) 2048 2 ≡ 9
unfolding faults_of first_below or_else fault_at first any_below repeats meets empty_bank bank_in bank_of entry_at entry_of number_at field
one_byte_short = refl

-- CapOffset 0: the bank lies over the table
over_the_table : faults_of (bar (0x00 ∷ 0x01 ∷ 0x60 ∷ 0x00 ∷ 0x00 ∷ 0x00 ∷ 0x01 ∷ 0x00 ∷ []) (replicate 8 0) 4464) 2048 2 ≡ 11
unfolding faults_of first_below or_else fault_at first any_below repeats meets empty_bank bank_in bank_of entry_at entry_of number_at field
over_the_table = refl

-- the same entry twice: the second repeats the identifier, and 10 comes before 11
twice : faults_of (bar rapl rapl 4464) 2048 2 ≡ 10
unfolding faults_of first_below or_else fault_at first any_below repeats meets empty_bank bank_in bank_of entry_at entry_of number_at field
twice = refl
