-- What a read of the structure says in document 01's words.
-- Assumes nothing.
use Rattle.std.specs.Prelude.{Result}
use Rattle.words.specs.Answers.{Answer}
use Rattle.words.specs.Facts.{Once}
use Rattle.words.specs.Told.{told_by}
use Rattle.words.specs.declared.answers.Refusal.{Refusal}
use Rattle.tpmi_structure.specs.Structure.{numbers}
use Rattle.tpmi_structure.specs.declared.structure.Vsec.{Vsec}

abbrev pub told : Result Vsec Refusal → Answer
told = told_by numbers

-- Two answers that say the same are the same.
abbrev pub ToldOnce : Type 0
ToldOnce = Once told
