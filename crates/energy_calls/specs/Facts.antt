-- What is proved of what a call answers. The type is a theorem, to be read without its proof; proofs/Theorems has the proof, under the same
-- name with underscores.
-- Assumes nothing.
use Rattle.words.specs.Facts.{Once}
use Rattle.energy_calls.specs.Calls.{told}

-- What two answers of the code tell is the same only where they are.
abbrev pub ToldOnce : Type 0
ToldOnce = Once told
