-- What a lookup of a place says in document 01's words.
-- Assumes nothing.
use Rattle.std.specs.Prelude.{ℕ, List, [], ◌∷◌, Result}
use Rattle.words.specs.Answers.{Answer}
use Rattle.words.specs.Facts.{Once}
use Rattle.words.specs.Told.{told_by}
use Rattle.words.specs.declared.answers.Refusal.{Refusal}
use Rattle.capture.specs.declared.places.Place.{Place}

-- BAR number, start, bytes of a piece, pieces
abbrev pub numbers : Place → List ℕ
numbers p = p.bir ∷ p.start ∷ p.size ∷ p.count ∷ []

abbrev pub told : Result Place Refusal → Answer
told = told_by numbers

-- Two answers that say the same are the same.
abbrev pub ToldOnce : Type 0
ToldOnce = Once told
