-- `list_input::layout::config_in` meets its contract: the empty part, or the part that the layout says, which is there. Assumes nothing.
use native.Mathlib.Omega.{arith}
use Rattle.list_input.proofs.LayoutLaws.{not_laid, laid_out, config_there, config_none}
use Rattle.list_input.proofs.layout.config_in.Goals as goal

pub slice_bounds-result-end : goal.slice_bounds-result-end
slice_bounds-result-end c = omega (arith, (laid_out c.args.input.now c.in-Some.ensures.answer).whole)

pub returns-in-Some : goal.returns-in-Some
returns-in-Some c = record { part = config_there c.args.input.now (laid_out c.args.input.now c.in-Some.ensures.answer).reads }

pub returns-in-None : goal.returns-in-None
returns-in-None c = record { part = config_none c.args.input.now (not_laid c.args.input.now c.in-None.ensures.answer) }
