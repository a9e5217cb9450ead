-- What is proved of the faults of a table, for every list of bytes. Each is to be read without its proof; proofs/FaultFact.antt has a proof
-- of each, under the same name with underscores.
-- Assumes nothing.
use Rattle.std.specs.Prelude.{ℕ, ◌+◌, ◌*◌, ◌≤◌, ◌<◌, ◌≡◌, ◌⊎◌, ◌↔◌, ◌≢◌, List, length}
use Rattle.tpmi_banks.specs.Faults.{bank_in, fault_at, faults_of}
use Rattle.tpmi_banks.specs.declared.faults.Bank.{Bank}

-- NumEntries and EntrySize are not 0: the entry is a feature
abbrev pub Filled : Bank → Type 0
Filled b = (b.instances ≢ 0) × (b.words ≢ 0)

-- a byte that lies in both stretches, from a up to b and from c up to d
pub record Shared (a b c d : ℕ) : Type 0 where
  pub byte : ℕ
  pub after_a : a ≤ byte
  pub before_b : byte < b
  pub after_c : c ≤ byte
  pub before_d : byte < d

-- some entry before k, not empty, has the identifier of entry k
abbrev pub Repeats : List ℕ → ℕ → ℕ → Type 0
Repeats s t k = (j : ℕ) × (j < k) × Filled (bank_in s t j) × ((bank_in s t j).id ≡ (bank_in s t k).id)

-- entry k's bank shares a byte with the table of n entries, or with the bank of some entry before k that is not empty
abbrev pub Overlaps : List ℕ → ℕ → ℕ → ℕ → Type 0
Overlaps s t n k =
    Shared t (t + n * 8) (bank_in s t k).start (bank_in s t k).end
    ⊎ ((j : ℕ) × (j < k) × Filled (bank_in s t j) × Shared (bank_in s t j).start (bank_in s t j).end (bank_in s t k).start (bank_in s t k).end)

-- entry k keeps every rule
pub record Clean (s : List ℕ) (t n k : ℕ) : Type 0 where
  pub size : (bank_in s t k).words ≢ 1
  pub inside : (bank_in s t k).end ≤ length s
  pub unlike : Repeats s t k → ⊥
  pub apart : Overlaps s t n k → ⊥

-- The fault of entry k of n, each number exactly on its condition and none tested before it; an empty entry has none.
pub record EntryFaults (s : List ℕ) (t n k : ℕ) : Type 0 where
  pub none : (fault_at s t n k ≡ 0) ↔ (Filled (bank_in s t k) → Clean s t n k)
  pub eight : (fault_at s t n k ≡ 8) ↔ (Filled (bank_in s t k) × ((bank_in s t k).words ≡ 1))
  pub nine : (fault_at s t n k ≡ 9) ↔ (Filled (bank_in s t k) × ((bank_in s t k).words ≢ 1) × (length s < (bank_in s t k).end))
  pub ten : (fault_at s t n k ≡ 10) ↔ (Filled (bank_in s t k) × ((bank_in s t k).words ≢ 1) × ((bank_in s t k).end ≤ length s) × Repeats s t k)
  pub eleven : (fault_at s t n k ≡ 11)
      ↔ (Filled (bank_in s t k) × ((bank_in s t k).words ≢ 1) × ((bank_in s t k).end ≤ length s) × (Repeats s t k → ⊥) × Overlaps s t n k)

-- The first faulty entry in table order decides; none is faulty exactly if every entry that is not empty keeps every rule.
pub record TableFaults (s : List ℕ) (t n : ℕ) : Type 0 where
  pub none : (faults_of s t n ≡ 0) ↔ ((k : ℕ) → k < n → Filled (bank_in s t k) → Clean s t n k)
  pub some : (m : ℕ) → m ≢ 0 → (faults_of s t n ≡ m) ↔ ((k : ℕ) × (k < n) × (fault_at s t n k ≡ m) × ((i : ℕ) → i < k → fault_at s t n i ≡ 0))
