-- What discovery says in document 01's words.
-- Assumes nothing.
use Rattle.std.specs.Prelude.{ℕ, List, [], ◌∷◌, Result}
use Rattle.words.specs.Answers.{Answer}
use Rattle.words.specs.Facts.{Once}
use Rattle.words.specs.Told.{told_by}
use Rattle.words.specs.declared.answers.Refusal.{Refusal}
use Rattle.tpmi_discovery.specs.declared.table.Table.{Table}

-- BAR number, place, entries
abbrev pub numbers : Table → List ℕ
numbers t = t.bir ∷ t.start ∷ t.entries ∷ []

abbrev pub told : Result Table Refusal → Answer
told = told_by numbers

-- Two answers that say the same are the same.
abbrev pub ToldOnce : Type 0
ToldOnce = Once told
