-- What is proved of a step's result alone. Each type is one theorem, to be read without its proof; proofs/Told.antt has the proofs, under the
-- same names with underscores. What the steps of a replay come to is told in replay_account.
-- Assumes nothing.
use Rattle.words.specs.Facts.{Once}
use Rattle.replay_steps.specs.Steps.{reader_of, told_of, told}

-- Two states that say the same are the same, and so are two outcomes and two results of a step.
abbrev pub ReaderOnce : Type 0
ReaderOnce = Once reader_of

abbrev pub OutcomeOnce : Type 0
OutcomeOnce = Once told_of

abbrev pub ToldOnce : Type 0
ToldOnce = Once told
