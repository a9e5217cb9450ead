-- What a domain's lookup says in document 01's words.
-- Assumes nothing.
use Rattle.std.specs.Prelude.{Result}
use Rattle.words.specs.Answers.{Answer}
use Rattle.words.specs.Facts.{Once}
use Rattle.words.specs.Told.{told_by}
use Rattle.words.specs.declared.answers.Refusal.{Refusal}
use Rattle.rapl_domains.specs.Domains.{values}
use Rattle.rapl_domains.specs.declared.domains.Header.{Header}

-- version, type, SIZE, parent, FLAGS, reserved
abbrev pub told : Result Header Refusal → Answer
told = told_by values

-- Two answers that say the same are the same.
abbrev pub ToldOnce : Type 0
ToldOnce = Once told
