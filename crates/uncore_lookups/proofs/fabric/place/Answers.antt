-- `uncore_lookups::fabric::place` meets its contract: the instance's refusal, the register's, or its place in the BAR capture. Assumes
-- nothing.
use mathlib.Core.Path.{sym, ◌∙◌}
use native.Mathlib.Omega.{arith}
use Rattle.words.proofs.DoneLaws as done
use Rattle.capture.specs.Capture.{capture_of}
use Rattle.capture.specs.Told.{numbers}
use Rattle.tpmi_features.proofs.InstanceLaws.{instance_at}
use Rattle.tpmi_features.proofs.OrLaws.{handed_on, said_of}
use Rattle.uncore_lookups.specs.Fabric.{place_from, place_for}
use Rattle.uncore_lookups.proofs.FabricLaws.{from_stops, from_instance, start_room}
use Rattle.uncore_lookups.proofs.fabric.place.Goals as goal

pub returns-in_err-p : goal.returns-in_err-p
unfolding place_for
returns-in_err-p c =
    let a = capture_of c.args.capture in
    record {
      answer = done.handed_on numbers c.from_residual.result c.from_residual.ensures.1
          ∙ handed_on a 2 _ (place_from a c.args.i c.args.die c.args.n c.args.r) c.in_err-p.ensures.answer;
    }

pub returns-in_err-at : goal.returns-in_err-at
unfolding place_for
returns-in_err-at c =
    let a = capture_of c.args.capture in
    record {
      answer = done.handed_on numbers c.from_residual-in_err-at.result c.from_residual-in_err-at.ensures.1
          ∙ said_of a 2 _ (place_from a c.args.i c.args.die c.args.n c.args.r) c.in_ok-p.ensures.answer c.part.ensures.part (sym (from_stops _ _ _ _ _ _ (sym c.in_err-at.ensures.answer)));
    }

pub overflow_add-result : goal.overflow_add-result
overflow_add-result c =
    let a = capture_of c.args.capture in
    omega (arith, start_room a _ _ _ _ _ (instance_at a 2 _ (sym c.in_ok-p.ensures.answer)) c.part.ensures.part (sym c.in_ok-at.ensures.answer))

pub returns : goal.returns
unfolding place_for
returns c =
    let a = capture_of c.args.capture in
    record {
      answer = said_of a 2 _ (place_from a c.args.i c.args.die c.args.n c.args.r) c.in_ok-p.ensures.answer c.part.ensures.part
          (from_instance a _ _ _ _ _ (instance_at a 2 _ (sym c.in_ok-p.ensures.answer)) c.part.ensures.part (sym c.in_ok-at.ensures.answer));
    }
