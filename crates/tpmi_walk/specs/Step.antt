-- What one step of the walk says: it is over with an answer, or goes on at a place.
-- Assumes nothing.
use Rattle.std.specs.Prelude.{ℕ, [], ◌∷◌, Result, Ok, Err}
use Rattle.std.specs.declared.ops.ControlFlow.{ControlFlow}
use Rattle.std.specs.declared.ops.ControlFlow.TheVariants.{Break, Continue}
use Rattle.words.specs.Answers.{refused, gives}
use Rattle.words.specs.declared.answers.Refusal.{Refusal}
use Rattle.tpmi_walk.specs.Walk.{Header, stops, goes}

abbrev pub told : Result (ControlFlow ℕ ℕ) Refusal → Header
told (Ok (Break at)) = stops (gives (at ∷ []))
told (Ok (Continue n)) = goes n
told (Err r) = stops (refused r.0)
