-- `tpmi_discovery::table::locate` meets its contract: each stage refuses, or hands on to the next. Assumes nothing.
use mathlib.Core.Path.{sym, ap, ◌∙◌, subst}
use Rattle.words.specs.Answers.{refused}
use Rattle.words.proofs.DoneLaws.{was_done, was_refused, not_done, handed_on}
use Rattle.tpmi_structure.specs.Facts.{Narrow}
use Rattle.tpmi_structure.specs.declared.structure.Vsec.{Vsec}
use Rattle.tpmi_structure.proofs.Theorems.{narrow_at}
use Rattle.capture.specs.Capture.{capture_of}
use Rattle.tpmi_discovery.specs.Table.{named_by}
use Rattle.tpmi_discovery.specs.Told.{numbers}
use Rattle.tpmi_discovery.proofs.TableLaws.{refuses_early, refuses_walk, passes_walk}
use Rattle.tpmi_discovery.proofs.table.locate.Goals as goal

pub returns-in_err-before_walk : goal.returns-in_err-before_walk
returns-in_err-before_walk c = record {
  answer = handed_on numbers c.from_residual.result c.from_residual.ensures.1 ∙ ap refused (sym (was_refused _ c.in_err-before_walk.ensures.answer))
      ∙ sym (refuses_early (capture_of c.args.capture) (not_done _ c.in_err-before_walk.ensures.answer));
}

pub returns-in_err-at : goal.returns-in_err-at
returns-in_err-at c = record {
  answer = handed_on numbers c.from_residual-in_err-at.result c.from_residual-in_err-at.ensures.1
      ∙ sym (refuses_walk (capture_of c.args.capture) (was_done _ c.in_ok-before_walk.ensures.answer) (sym c.in_err-at.ensures.answer));
}

pub named_by-requires : goal.named_by-requires
named_by-requires c = subst Narrow (sym c.vsec_at.ensures.answer) (narrow_at _ _)

pub returns : goal.returns
returns c = record {
  answer = c.named_by.ensures.answer
      ∙ ap (λ (v : Vsec). named_by v c.args.capture.lo c.args.capture.low.now c.args.capture.hi c.args.capture.high.now) c.vsec_at.ensures.answer
      ∙ sym (passes_walk (capture_of c.args.capture) (was_done _ c.in_ok-before_walk.ensures.answer) (sym c.in_ok-at.ensures.answer));
}
