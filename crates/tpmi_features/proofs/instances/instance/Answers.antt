-- `tpmi_features::instances::instance` meets its contract: the empty part, or the part at the place that is found. Assumes nothing.
use mathlib.Core.Path.{sym, ◌∙◌}
use Rattle.capture.specs.Capture.{capture_of}
use Rattle.tpmi_features.proofs.InstanceLaws.{instance_at, part_refused}
use Rattle.tpmi_features.proofs.InsideLaws.{part_at}
use Rattle.tpmi_features.proofs.instances.instance.Goals as goal

pub returns-in-Ok : goal.returns-in-Ok
returns-in-Ok c = record { part = c.part.ensures.part ∙ part_at (capture_of c.args.capture) _ _ (instance_at (capture_of c.args.capture) _ _ (sym c.in-Ok.ensures.answer)) }

pub returns-in-Err : goal.returns-in-Err
returns-in-Err c = record { part = sym (part_refused (capture_of c.args.capture) _ _ (sym c.in-Err.ensures.answer)) }
