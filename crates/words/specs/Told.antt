-- What a call's `Result` says in document 01's words: the refusal's number, or the values that are given.
--   refused_in r    the refusal's number, 0 where there is none
--   told_by f r     the refusal, or the numbers that f lists of what came
--   told            the same where one number comes
--   done            the same where a call gives nothing but that it was done
--   passes n        the refusal n, or nothing but that it was done where n is 0
-- Assumes nothing.
use Rattle.std.specs.Prelude.{ℕ, ⊤, List, [], ◌∷◌, Result, Ok, Err}
use Rattle.words.specs.Answers.{Answer, refused, gives, unless}
use Rattle.words.specs.Facts.{Once}
use Rattle.words.specs.declared.answers.Refusal.{Refusal}

abbrev pub refused_in : {A : Type 0} → Result A Refusal → ℕ
refused_in (Ok a) = 0
refused_in (Err r) = r.0

abbrev pub told_by : {A : Type 0} → (A → List ℕ) → Result A Refusal → Answer
told_by values (Ok a) = gives (values a)
told_by values (Err r) = refused r.0

abbrev pub told : Result ℕ Refusal → Answer
told = told_by (λ x. x ∷ [])

abbrev pub done : Result ⊤ Refusal → Answer
done = told_by (λ x. [])

abbrev pub passes : ℕ → Answer
passes n = unless n (gives [])

-- Two answers that say the same are the same.
abbrev pub ToldOnce : Type 0
ToldOnce = Once told

abbrev pub DoneOnce : Type 0
DoneOnce = Once done
