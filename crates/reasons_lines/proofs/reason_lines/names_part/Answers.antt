-- `reasons_lines::reason_lines::names_part` meets its contract. Assumes nothing.
use mathlib.Core.Path.{refl}
use native.Mathlib.Omega.{arith}
use Rattle.reasons_lines.specs.ReasonLines.{names_below}
use Rattle.reasons_lines.proofs.NameLaws.{names_there, names_clear}
use Rattle.reasons_lines.proofs.reason_lines.names_part.Goals as goal
use Rattle.reasons_lines.proofs.reason_lines.names_part.Goals.{then-field-eq1, else-field-eq1}

pub loop-k-init : goal.loop-k-init
unfolding names_below
loop-k-init c = (record { bytes = refl; place = refl; same = refl }, record { each = refl })

pub loop-k-preserved : goal.loop-k-preserved
loop-k-preserved c = (
  elim c.if-field-eq1.branch [
    | then-field-eq1 w ↦ names_there c.args.coarse c.loop-k.k c.field.ensures.answer c.loop-k.invariant.0 w.if-field-eq1.true c.loop-k.invariant.1 (omega arith) w.page-is w.put.ensures.wrote
    | else-field-eq1 w ↦ names_clear c.args.coarse c.loop-k.k c.field.ensures.answer c.loop-k.invariant.0 w.if-field-eq1.false w.page-is
  ],
  c.loop-k.invariant.1,
)
