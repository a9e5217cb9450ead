-- `fields::tables::word_of` meets its contract. Assumes nothing.
use mathlib.Core.Path.{◌≡◌, sym, ap, ◌∙◌}
use native.Mathlib.Omega.{arith}
use Rattle.std.proofs.Common.{rules}
use lib.ListN.{length}
use Rattle.std.specs.Iterator.Adapters.{zip_first, zip_second}
use Rattle.std.specs.Slice.Iter.{iter_rest}
use Rattle.std.proofs.lemmas.Iterator.{empty_from_Zip}
use Rattle.std.proofs.lemmas.Slice.Zip.{Zip-more}
use Rattle.fields.proofs.WordLaws.{misfit_long, held_fits, held_wide, rest_all, rest_none, rest_past, rest_wide, rest_next}
use Rattle.fields.proofs.Structures.{word_misfit}
use Rattle.fields.proofs.tables.word_of.Goals as goal
use Rattle.fields.proofs.tables.word_of.Goals.{then-at-width-via-then-at-width, then-at-width-via-else-at-width+then-field-value}

pub returns-then-widths-values : goal.returns-then-widths-values
returns-then-widths-values c = record { answer = sym (word_misfit _ _ (misfit_long _ _ c.if-widths-values.true)) }

pub loop-width-init : goal.loop-width-init
loop-width-init c =
    let first : iter_rest (zip_first c.into_iter-width-iterator.result) ≡ c.args.widths.now = search rules in
    let second : iter_rest (zip_second c.into_iter-width-iterator.result) ≡ c.args.values.now = search rules in
    record { inside = omega arith; pairs = rw (first, second) c.if-widths-values.false; rest = rw (first, second) (rest_all _ _ c.if-widths-values.false) }

pub loop-width-preserved : goal.loop-width-preserved
loop-width-preserved c =
    let next = Zip-more c.loop-width.width-iterator c.next.new.self c.next.result (c.in-Some.field-0-0, c.in-Some.field-0-1) c.in-Some.is c.next.ensures.steps in
    record {
      inside = omega arith;
      pairs = omega (arith, ap length next.0, ap length next.1);
      rest = rest_next c.loop-width.at c.loop-width.word next (omega arith) (held_fits _ _ c.field.ensures.answer c.if-field-value.false) c.with_field-word.ensures.answer ∙ c.loop-width.invariant.rest;
    }

pub returns-then-at-width : goal.returns-then-at-width
returns-then-at-width c =
    let next = Zip-more c.loop-width.width-iterator c.next.new.self c.next.result (c.in-Some.field-0-0, c.in-Some.field-0-1) c.in-Some.is c.next.ensures.steps in
    record {
      answer = elim c.then-at-width.branch [
        | then-at-width-via-then-at-width w ↦ sym (rest_past c.loop-width.at c.loop-width.word next c.loop-width.invariant.inside w.if-at-width.true) ∙ c.loop-width.invariant.rest
        | then-at-width-via-else-at-width+then-field-value w ↦ sym (rest_wide c.loop-width.at c.loop-width.word next (held_wide _ _ w.field.ensures.answer w.if-field-value.true)) ∙ c.loop-width.invariant.rest
      ];
    }

pub returns : goal.returns
returns c =
    let end = empty_from_Zip c.loop-width.width-iterator c.next.new.self c.next.result c.in-None.is c.next.ensures.steps c.loop-width.invariant.pairs in
    record { answer = sym (rest_none c.loop-width.at c.loop-width.word _ end.0 c.loop-width.invariant.inside) ∙ c.loop-width.invariant.rest }
