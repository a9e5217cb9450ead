-- `tpmi_discovery::discovery::discover` meets its contract: the location's refusal, the first fault, or the table. Assumes nothing.
use mathlib.Core.Path.{sym, ap, ◌∙◌}
use native.Mathlib.Omega.{arith}
use Rattle.words.specs.Answers.{refused}
use Rattle.words.proofs.DoneLaws.{was_done, was_refused, not_done, handed_on}
use Rattle.capture.specs.Capture.{capture_of}
use Rattle.tpmi_discovery.specs.Told.{numbers}
use Rattle.tpmi_discovery.proofs.DiscoveryLaws.{refuses_location, same_faults, refuses_faults, accepts}
use Rattle.tpmi_discovery.proofs.discovery.discover.Goals as goal

pub returns-in_err-t : goal.returns-in_err-t
returns-in_err-t c = record {
  answer = handed_on numbers c.from_residual.result c.from_residual.ensures.1
      ∙ sym (refuses_location (capture_of c.args.capture) (sym c.in_err-t.ensures.answer));
}

pub returns-in_err-faults : goal.returns-in_err-faults
returns-in_err-faults c =
    let there = sym c.in_ok-t.ensures.answer in
    record {
      answer = handed_on numbers c.from_residual-in_err-faults.result c.from_residual-in_err-faults.ensures.1
          ∙ ap refused (sym (was_refused _ c.in_err-faults.ensures.answer) ∙ same_faults (capture_of c.args.capture) there c.bar.ensures.part (omega arith))
          ∙ sym (refuses_faults (capture_of c.args.capture) there (λ z. not_done _ c.in_err-faults.ensures.answer (same_faults (capture_of c.args.capture) there c.bar.ensures.part (omega arith) ∙ z)));
    }

pub returns : goal.returns
returns c =
    let there = sym c.in_ok-t.ensures.answer in
    record { answer = sym (accepts (capture_of c.args.capture) there (sym (same_faults (capture_of c.args.capture) there c.bar.ensures.part (omega arith)) ∙ was_done _ c.in_ok-faults.ensures.answer)) }
