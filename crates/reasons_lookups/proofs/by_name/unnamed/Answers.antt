-- `reasons_lookups::by_name::unnamed` meets its contract: the instance's refusal, else 17. Assumes nothing.
use mathlib.Core.Path.{sym, ◌∙◌}
use native.Mathlib.Omega.{arith}
use Rattle.words.proofs.AnswerLaws.{unless_refused, earliest_stop, two_pass}
use Rattle.capture.specs.Capture.{capture_of}
use Rattle.tpmi_features.specs.Instances.{instance_number, instance_of}
use Rattle.tpmi_features.proofs.InstanceLaws.{instance_at}
use Rattle.reasons_lookups.proofs.by_name.unnamed.Goals as goal

pub returns-in-Ok : goal.returns-in-Ok
returns-in-Ok c = record { answer = sym (two_pass 17 (instance_at (capture_of c.args.capture) 12 _ (sym c.in-Ok.ensures.answer)).zero) }

pub returns-in-Err : goal.returns-in-Err
unfolding instance_of
returns-in-Err c =
    let u = unless_refused (instance_number (capture_of c.args.capture) 12 c.args.i) _ (sym c.in-Err.ensures.answer) in
    record { answer = omega (arith, u.0) ∙ sym (earliest_stop _ _ (λ z. u.1 (sym u.0 ∙ z))) }
