-- `list_output::output::lines` meets its contract. Assumes nothing.
use native.Mathlib.Omega.{arith}
use Rattle.list_output.proofs.OutputLaws.{shown_none, shown_next}
use Rattle.list_output.proofs.output.lines.Goals as goal

pub loop-k-init : goal.loop-k-init
loop-k-init c = shown_none c.args.page.now c.args.bar.now c.args.table c.requires.place

pub loop-k-preserved : goal.loop-k-preserved
loop-k-preserved c = shown_next c.args.page.now c.args.bar.now c.args.table c.requires.place c.ranges.table.fits c.requires.room c.loop-k.k (omega arith) c.loop-k.invariant c.entry.ensures.wrote
