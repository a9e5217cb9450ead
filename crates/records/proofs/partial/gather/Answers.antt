-- `records::partial::gather` meets its contract: no byte, a first byte that can't come, or all that the record still wants at once. Assumes nothing.
use Rattle.std.proofs.Common.{ap, sym, ◌∙◌, arith, false, rules, length}
use borrow.Author.Tests.{eq-eqb, ne_eqb}
use Rattle.records.specs.declared.partial.Partial.{Partial}
use Rattle.records.specs.Partial.{rule_of, length_of, cannot}
use Rattle.records.proofs.PartialLaws.{length_most, can_come, gathered_none, gathered_halts, gathered_by}
use Rattle.records.proofs.partial.gather.Goals as goal

pub returns-in_default : goal.returns-in_default
returns-in_default c = record { answer = gathered_none _ _ _ (sym c.in_default.ensures.value) }

pub returns-then-cannot : goal.returns-then-cannot
returns-then-cannot c = let u = rule_of c.args.rule.table.now c.args.rule.limit in record {
  answer = ap (λ (q : Partial). record { partial = q; used = length c.args.piece.now; whole = false }) c.halt.ensures.answer
      ∙ gathered_halts u c.args.p c.args.piece.now c.in-Some.first.now (sym c.in-Some.ensures.value)
      (ap (cannot u c.args.p) (sym c.kind-kind.ensures.answer) ∙ sym c.cannot.ensures.answer ∙ c.if-cannot.true);
}

pub overflow_sub-n : goal.overflow_sub-n
overflow_sub-n c = omega (arith, (can_come _ _ _ (sym c.cannot.ensures.answer ∙ c.if-cannot.false)).1, c.length_of-n.ensures.answer)

pub slice_bounds-bytes-end : goal.slice_bounds-bytes-end
slice_bounds-bytes-end c =
    let m = length_most c.args.rule.table.now c.kind-kind.result in
    let n = c.length_of-n.ensures.answer in
    let x = (can_come _ _ _ (sym c.cannot.ensures.answer ∙ c.if-cannot.false)).1 in
    search rules

pub returns-then-held-n : goal.returns-then-held-n
returns-then-held-n c = let u = rule_of c.args.rule.table.now c.args.rule.limit in record {
  answer = gathered_by u c.args.p c.args.piece.now (sym c.in-Some.ensures.value)
      (ap (cannot u c.args.p) (sym c.kind-kind.ensures.answer) ∙ sym c.cannot.ensures.answer ∙ c.if-cannot.false)
      (c.length_of-n.ensures.answer ∙ ap (length_of c.args.rule.table.now) c.kind-kind.ensures.answer)
      (search rules)
      (search rules)
      c.copy_from_slice.ensures.after
      (omega arith)
      (sym (ne_eqb _ _ (λ e. omega (arith, e, c.if-held-n.true))));
}

pub returns : goal.returns
returns c = let u = rule_of c.args.rule.table.now c.args.rule.limit in record {
  answer = gathered_by u c.args.p c.args.piece.now (sym c.in-Some.ensures.value)
      (ap (cannot u c.args.p) (sym c.kind-kind.ensures.answer) ∙ sym c.cannot.ensures.answer ∙ c.if-cannot.false)
      (c.length_of-n.ensures.answer ∙ ap (length_of c.args.rule.table.now) c.kind-kind.ensures.answer)
      (search rules)
      (search rules)
      c.copy_from_slice.ensures.after
      (omega arith)
      (sym (eq-eqb _ _ (omega (arith, c.if-held-n.false, (can_come _ _ _ (sym c.cannot.ensures.answer ∙ c.if-cannot.false)).1, c.min-used.ensures, c.length_of-n.ensures.answer))));
}
