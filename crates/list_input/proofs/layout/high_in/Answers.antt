-- `list_input::layout::high_in` meets its contract: the empty part, or the part that the layout says, which is there. Assumes nothing.
use Prim.Native.Nat.{ℕ, ◌+◌, ◌-◌}
use mathlib.Core.Path.{◌≡◌, ap₂, ◌∙◌}
use native.Mathlib.Omega.{arith}
use lib.ListN.{take, drop}
use Rattle.list_input.specs.Layout.{second_of}
use Rattle.list_input.proofs.LayoutLaws.{not_laid, laid_out, high_there, high_none}
use Rattle.list_input.proofs.layout.high_in.Goals as goal

pub overflow_add-result : goal.overflow_add-result
overflow_add-result c =
    let l = laid_out c.args.input.now c.in-Some.ensures.answer in omega (arith, l.middle, l.first_small)

pub slice_bounds-result-count : goal.slice_bounds-result-count
slice_bounds-result-count c =
    let l = laid_out c.args.input.now c.in-Some.ensures.answer in omega (arith, l.middle, l.end)

pub slice_bounds-result-start : goal.slice_bounds-result-start
slice_bounds-result-start c =
    let l = laid_out c.args.input.now c.in-Some.ensures.answer in omega (arith, l.middle, l.end)

pub slice_bounds-result-end : goal.slice_bounds-result-end
slice_bounds-result-end c = let l = laid_out c.args.input.now c.in-Some.ensures.answer in omega (arith, l.end, l.whole)

pub returns-in-Some : goal.returns-in-Some
returns-in-Some c =
    let l = laid_out c.args.input.now c.in-Some.ensures.answer in
    let long : c.in-Some.l.high_end - (c.in-Some.l.low_end + 5) ≡ second_of c.args.input.now = omega (arith, l.middle, l.end) in
    record { part = ap₂ (λ (n a : ℕ). take n (drop (a + 5) c.args.input.now)) long l.middle ∙ high_there c.args.input.now l.reads }

pub returns-in-None : goal.returns-in-None
returns-in-None c = record { part = high_none c.args.input.now (not_laid c.args.input.now c.in-None.ensures.answer) }
