-- What the walk says in document 01's words.
-- Assumes nothing.
use Rattle.std.specs.Prelude.{ℕ, [], ◌∷◌, Result}
use Rattle.words.specs.Answers.{Answer}
use Rattle.words.specs.Facts.{Once}
use Rattle.words.specs.Told.{told_by}
use Rattle.words.specs.declared.answers.Refusal.{Refusal}

-- where the header that is taken stands
abbrev pub told : Result ℕ Refusal → Answer
told = told_by (λ at. at ∷ [])

-- Two answers that say the same are the same.
abbrev pub ToldOnce : Type 0
ToldOnce = Once told
