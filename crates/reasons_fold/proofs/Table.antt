-- The lemma that carries the one check of the whole table to each of its entries. Assumes nothing.
use Prim.Native.Nat.{ℕ, zero, suc, ◌+◌, ◌*◌, ◌/◌, ◌%◌, ◌<◌}
use mathlib.Core.Path.{◌≡◌, refl, sym, ap, ◌∙◌}
use native.Mathlib.Nat.{add-zero, add-suc, suc-add, zero-add, not-suc-le-zero, le_of_suc-le-suc}
use lib.ListN.{length, get_or}
use Rattle.fields.proofs.MaskLaws.{mask_lt}
use Rattle.reasons_fold.specs.Fold.{reached_from, entry_of, entries_from, table}

entries_length : (i n : ℕ) → length (entries_from i n) ≡ n
unfolding entries_from
entries_length i zero = refl
entries_length i (suc n) = ap suc (entries_length (suc i) n)

entries_at : (i n k : ℕ) → k < n → get_or (entries_from i n) k 0 ≡ entry_of (i + k)
unfolding entries_from
entries_at i zero k h = absurd (not-suc-le-zero h)
entries_at i (suc n) zero h = ap entry_of (sym (add-zero i))
entries_at i (suc n) (suc k) h = entries_at (suc i) n k (le_of_suc-le-suc h) ∙ ap entry_of (suc-add i k ∙ sym (add-suc i k))

pub table_length : length table ≡ 1024
unfolding table
table_length = entries_length 0 1024

pub entry_is : (k : ℕ) → k < 1024 → get_or table k 0 ≡ entry_of k
unfolding table
entry_is k h = entries_at 0 1024 k h ∙ ap entry_of (zero-add k)

-- an entry is a mask of ten bits
pub entry_low : (i : ℕ) → entry_of i < 1024
unfolding entry_of
entry_low i = mask_lt (reached_from (i / 256 * 8) (i % 256)) 10

-- what the proof of `entry` goes by
pub ruleset entry_ways = (table_length, entry_is)
