-- `list_input::layout::low_in` meets its contract: the empty part, or the part that the layout says, which is there. Assumes nothing.
use Prim.Native.Nat.{ℕ}
use mathlib.Core.Path.{ap, ◌∙◌}
use native.Mathlib.Omega.{arith}
use lib.ListN.{take, drop}
use Rattle.list_input.proofs.LayoutLaws.{not_laid, laid_out, low_there, low_none}
use Rattle.list_input.proofs.layout.low_in.Goals as goal

pub slice_bounds-result-count : goal.slice_bounds-result-count
slice_bounds-result-count c = omega (arith, (laid_out c.args.input.now c.in-Some.ensures.answer).middle)

pub slice_bounds-result-start : goal.slice_bounds-result-start
slice_bounds-result-start c = omega (arith, (laid_out c.args.input.now c.in-Some.ensures.answer).middle)

pub slice_bounds-result-end : goal.slice_bounds-result-end
slice_bounds-result-end c =
    let l = laid_out c.args.input.now c.in-Some.ensures.answer in omega (arith, l.middle, l.whole)

pub returns-in-Some : goal.returns-in-Some
returns-in-Some c =
    let l = laid_out c.args.input.now c.in-Some.ensures.answer in
    record { part = ap (λ (n : ℕ). take n (drop 4101 c.args.input.now)) (omega (arith, l.middle)) ∙ low_there c.args.input.now l.reads }

pub returns-in-None : goal.returns-in-None
returns-in-None c = record { part = low_none c.args.input.now (not_laid c.args.input.now c.in-None.ensures.answer) }
