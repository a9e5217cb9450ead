-- What is proved of the fold, for every number and every list. Each is to be read without its proof, which stands in proofs/BitRule.antt and
-- proofs/Entries.antt under the same name with underscores.
-- Assumes nothing.
use Rattle.std.specs.Prelude.{ℕ, ◌+◌, ◌*◌, ◌^◌, ◌≤◌, ◌<◌, ◌≡◌, ◌⊎◌, ◌↔◌, true, List, length, get_or}
use Rattle.std.specs.Int.Bits.{bit_or}
use Rattle.fields.specs.Bits.{field}
use Rattle.fields.specs.Masks.{is_set}
use Rattle.reasons_fold.specs.Fold.{belongs, fold_of, table, joined_of}

-- ---- which fine bits belong to which coarse bit

-- document 02's list, group by group: the coarse bit, by document 004's numbers, and the fine bit
pub data Belongs : ℕ → ℕ → Type 0 where
  frequency : {k : ℕ} → k ≤ 7 → Belongs 0 k
  current : Belongs 1 8
  power : {k : ℕ} → 9 ≤ k → k ≤ 21 → Belongs 2 k
  thermal : Belongs 3 23
  dfc : Belongs 9 24
  prochot : Belongs 4 25
  hot_vr : Belongs 4 26
  misc : Belongs 7 29

-- 22, 27, 28 and all from 30 on
abbrev pub Ungrouped : ℕ → Type 0
Ungrouped k = (k ≡ 22) ⊎ ((k ≡ 27) ⊎ ((k ≡ 28) ⊎ (30 ≤ k)))

-- The test decides it. No fine bit belongs to two coarse ones; these belong to none, every other to one.
pub record BelongsFact : Type 0 where
  pub decides : (j k : ℕ) → (belongs j k ≡ true) ↔ Belongs j k
  pub once : (i j k : ℕ) → Belongs i k → Belongs j k → i ≡ j
  pub nothing : (k : ℕ) → ((j : ℕ) → Belongs j k → ⊥) ↔ Ungrouped k
  pub some : (k : ℕ) → Ungrouped k ⊎ ((j : ℕ) × Belongs j k)

-- ---- the fold

-- Coarse bit j is set exactly if some fine bit that belongs to it is: for every number and every j, those past the last group too.
abbrev pub BitRule : ℕ → ℕ → Type 0
BitRule w j = (is_set (fold_of w) j ≡ true) ↔ ((k : ℕ) × (k < 32) × (is_set w k ≡ true) × Belongs j k)

-- By table: it has 1,024 entries; entry 256 q + b is what a word folds to whose byte q is b and whose other bytes are 0; and the entries of a
-- number's four bytes, joined, are its fold, for every number.
pub record TableFact : Type 0 where
  pub size : length table ≡ 1024
  pub entry : (q b : ℕ) → q < 4 → b < 256 → get_or table (q * 256 + b) 0 ≡ fold_of (b * 256 ^ q)
  pub fold : (w : ℕ)
      → bit_or (bit_or (bit_or (get_or table (field 0 8 w) 0) (get_or table (256 + field 8 8 w) 0)) (get_or table (512 + field 16 8 w) 0)) (get_or table (768 + field 24 8 w) 0)
      ≡ fold_of w

-- A coarse bit of several cores is set exactly if some core's mailbox data has, among bits 63:32, one set that belongs to it.
abbrev pub JoinRule : List ℕ → ℕ → Type 0
JoinRule xs j = (is_set (joined_of xs) j ≡ true) ↔ ((i : ℕ) × (i < length xs) × (k : ℕ) × (k < 32) × (is_set (get_or xs i 0) (32 + k) ≡ true) × Belongs j k)
