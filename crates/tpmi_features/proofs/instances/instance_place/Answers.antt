-- `tpmi_features::instances::instance_place` meets its contract: the feature's refusal, or the instance of its bank. Assumes nothing.
use mathlib.Core.Path.{sym, ◌∙◌}
use Rattle.words.proofs.AnswerLaws.{stage_stops}
use Rattle.words.proofs.DoneLaws.{handed_on}
use Rattle.capture.specs.Capture.{capture_of}
use Rattle.capture.specs.Told.{numbers}
use Rattle.tpmi_features.specs.Instances.{feature_of, feature_number, instance_of, instance_number}
use Rattle.tpmi_features.proofs.InstanceLaws.{bank_place, bank_roomy, instance_from}
use Rattle.tpmi_features.proofs.instances.instance_place.Goals as goal

pub returns-in_err-bank : goal.returns-in_err-bank
unfolding instance_of instance_number feature_of
returns-in_err-bank c = record {
  answer = handed_on numbers c.from_residual.result c.from_residual.ensures.1
      ∙ sym (stage_stops (feature_number _ _) _ _ _ (sym c.in_err-bank.ensures.answer));
}

pub instance_in-requires : goal.instance_in-requires
instance_in-requires c = bank_roomy (capture_of c.args.capture) c.args.id (bank_place (capture_of c.args.capture) _ (sym c.in_ok-bank.ensures.answer))

pub returns : goal.returns
returns c = record {
  answer = c.instance_in.ensures.answer
      ∙ instance_from (capture_of c.args.capture) c.args.id c.args.n (bank_place (capture_of c.args.capture) _ (sym c.in_ok-bank.ensures.answer)) c.bar.ensures.part;
}
