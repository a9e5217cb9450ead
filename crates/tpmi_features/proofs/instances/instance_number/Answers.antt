-- `tpmi_features::instances::instance_number` meets its contract: the number of the lookup's answer. Assumes nothing.
use mathlib.Core.Path.{sym, ap, ◌∙◌}
use Rattle.words.specs.Answers.{number_in}
use Rattle.words.proofs.AnswerLaws.{unless_number_in}
use Rattle.words.proofs.Told.{number_told}
use Rattle.capture.specs.Told.{numbers}
use Rattle.tpmi_features.specs.Instances.{instance_of, instance_number}
use Rattle.tpmi_features.proofs.instances.instance_number.Goals as goal

pub returns : goal.returns
unfolding instance_of
returns c = record { answer = c.number_of.ensures.answer ∙ sym (number_told numbers c.instance_place.result) ∙ ap number_in c.instance_place.ensures.answer ∙ unless_number_in (instance_number _ _ _) _ }
