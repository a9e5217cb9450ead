-- What each case of the layout says.
-- Assumes nothing.
use Rattle.std.specs.Prelude.{ℕ, List, [], ◌∷◌, Option, Some, None}
use Rattle.words.specs.Facts.{Once}
use Rattle.list_input.specs.declared.layout.Layout.{Layout}

abbrev pub told : Option Layout → List ℕ
told (Some l) = l.lo ∷ l.low_end ∷ l.hi ∷ l.high_end ∷ []
told None = []

-- Two answers that say the same are the same.
abbrev pub ToldOnce : Type 0
ToldOnce = Once told
