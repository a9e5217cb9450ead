-- The line of an entry (document 01, "Bench cases"): of each entry that is not empty, in table order, its identifier, its instances, how many
-- are valid, the bytes of one, and where the bank starts.
--   numbers          the five numbers of a line, in its order;   told   what each case says: these, or nothing
--   line_of bar t k   what the line of entry k of the table at t says, nothing for an empty entry
-- Assumes nothing.
use Rattle.std.specs.Prelude.{ℕ, ◌*◌, cond, List, [], ◌∷◌, Option, Some, None}
use Rattle.words.specs.Facts.{Once}
use Rattle.tpmi_banks.specs.Faults.{bank_in, empty_bank}
use Rattle.tpmi_counts.specs.Valid.{valid_count_in}
use Rattle.list_lines.specs.declared.line.Feature.{Feature}

abbrev pub numbers : Feature → List ℕ
numbers f = f.id ∷ f.instances ∷ f.valid ∷ f.size ∷ f.start ∷ []

abbrev pub told : Option Feature → List ℕ
told (Some f) = numbers f
told None = []

unfoldable pub line_of : List ℕ → ℕ → ℕ → List ℕ
line_of s t k =
    cond (empty_bank (bank_in s t k)) []
    ((bank_in s t k).id
    ∷ (bank_in s t k).instances
    ∷ valid_count_in s (bank_in s t k).start ((bank_in s t k).words * 4) (bank_in s t k).instances
    ∷ (bank_in s t k).words * 4
    ∷ (bank_in s t k).start
    ∷ [])

-- Two answers that say the same are the same.
abbrev pub ToldOnce : Type 0
ToldOnce = Once told
