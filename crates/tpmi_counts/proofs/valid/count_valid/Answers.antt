-- `tpmi_counts::valid::count_valid` meets its contract: each word's ones come on top. Assumes nothing.
use Prim.Native.Nat.{◌+◌}
use mathlib.Core.Path.{refl, ap, ◌∙◌}
use native.Mathlib.Omega.{arith}
use Rattle.fields.specs.Masks.{how_many}
use Rattle.fields.proofs.MaskLaws.{many_le, count_more}
use Rattle.tpmi_counts.specs.Valid.{valid_in, valid_count_in}
use Rattle.tpmi_counts.proofs.valid.count_valid.Goals as goal

pub loop-first-init : goal.loop-first-init
unfolding how_many
loop-first-init c = record { within = omega arith; counted = refl }

pub overflow_add-total : goal.overflow_add-total
overflow_add-total c =
    let next = count_more _ c.loop-first.first c.min-many.result c.loop-first.invariant.counted c.mask.ensures.answer in
    omega (arith, c.min-many.ensures, c.from-total.ensures, next, c.requires.2, many_le (valid_in c.args.bar.now c.args.start c.args.size) (c.loop-first.first + c.min-many.result))

pub loop-first-preserved : goal.loop-first-preserved
loop-first-preserved c = record {
  within = omega (arith, c.min-many.ensures);
  counted = ap (λ n. c.loop-first.total + n) c.from-total.ensures ∙ count_more _ c.loop-first.first c.min-many.result c.loop-first.invariant.counted c.mask.ensures.answer;
}

pub returns : goal.returns
unfolding valid_count_in
returns c = record { answer = c.loop-first.invariant.counted ∙ ap (how_many _) (omega arith) }
