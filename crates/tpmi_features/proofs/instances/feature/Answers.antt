-- `tpmi_features::instances::feature` meets its contract: discovery's refusal, or the feature of the table found. Assumes nothing.
use mathlib.Core.Path.{sym, ◌∙◌}
use Rattle.words.proofs.AnswerLaws.{stage_stops}
use Rattle.words.proofs.DoneLaws.{handed_on}
use Rattle.capture.specs.Capture.{capture_of}
use Rattle.capture.specs.Told.{numbers}
use Rattle.tpmi_discovery.specs.Discovery.{discovery_of, discovery_number}
use Rattle.tpmi_discovery.proofs.DiscoveryLaws.{table_place}
use Rattle.tpmi_features.specs.Instances.{feature_of, feature_number}
use Rattle.tpmi_features.proofs.InstanceLaws.{feature_from}
use Rattle.tpmi_features.proofs.instances.feature.Goals as goal

pub returns-in_err-t : goal.returns-in_err-t
unfolding feature_of feature_number discovery_of
returns-in_err-t c = record {
  answer = handed_on numbers c.from_residual.result c.from_residual.ensures.1
      ∙ sym (stage_stops (discovery_number _) _ _ _ (sym c.in_err-t.ensures.answer));
}

pub returns : goal.returns
returns c = record {
  answer = c.feature_in.ensures.answer
      ∙ feature_from (capture_of c.args.capture) c.args.id (table_place (capture_of c.args.capture) (sym c.in_ok-t.ensures.answer)) c.bar.ensures.part;
}
