-- `rapl_writes::next::next_in` meets its contract: the domain's refusal, the write's, or the register with the field replaced. Assumes nothing.
use mathlib.Core.Path.{sym, ap, ◌∙◌}
use mathlib.Core.List.{[], ◌∷◌}
use native.Mathlib.Omega.{arith}
use Rattle.words.proofs.DoneLaws.{was_done, was_refused, not_done, handed_on}
use Rattle.fields.specs.Bits.{field_stored}
use Rattle.rapl_registers.specs.Contents.{register_at}
use Rattle.rapl_domains.proofs.DomainLaws.{known, inside}
use Rattle.rapl_permits.specs.declared.permits.Span.{Span}
use Rattle.rapl_permits.proofs.PermitLaws.{stored_whole}
use Rattle.rapl_writes.proofs.NextLaws.{next_refused, next_no_limit, next_stops, next_given}
use Rattle.rapl_writes.proofs.next.next_in.Goals as goal

pub returns-in_err-h : goal.returns-in_err-h
returns-in_err-h c = record {
  answer = handed_on (λ x. x ∷ []) c.from_residual.result c.from_residual.ensures.1 ∙ sym (next_refused _ _ _ _ _ (sym c.in_err-h.ensures.answer));
}

pub returns-then-limit-gt2 : goal.returns-then-limit-gt2
returns-then-limit-gt2 c = record { answer = sym (next_no_limit _ _ _ _ _ (sym c.in_ok-h.ensures.answer) c.if-limit-gt2.true) }

pub overflow_mul-at : goal.overflow_mul-at
overflow_mul-at c = omega (arith, (inside _ _ (known _ _ (sym c.in_ok-h.ensures.answer)).0).0)

pub overflow_add-at-2 : goal.overflow_add-at-2
overflow_add-at-2 c = omega (arith, (inside _ _ (known _ _ (sym c.in_ok-h.ensures.answer)).0).0)

pub returns-in_err-refusal : goal.returns-in_err-refusal
unfolding register_at
returns-in_err-refusal c =
    let number = was_refused _ c.in_err-refusal.ensures.answer in
    record {
      answer = handed_on (λ x. x ∷ []) c.from_residual-in_err-refusal.result c.from_residual-in_err-refusal.ensures.1
          ∙ sym (next_stops _ _ _ _ _ (sym c.in_ok-h.ensures.answer) c.u64_at-x.ensures.answer (sym number) (λ z. not_done _ c.in_err-refusal.ensures.answer (number ∙ z)));
    }

pub returns : goal.returns
unfolding register_at
returns c = record {
  answer = sym (next_given _ _ _ _ _ (sym c.in_ok-h.ensures.answer) c.u64_at-x.ensures.answer (was_done _ c.in_ok-refusal.ensures.answer)
      (c.with_field.ensures.answer ∙ ap (λ (f : Span). field_stored 64 f.at f.width c.u64_at-x.result c.args.value) c.span_of-f.ensures.answer ∙ stored_whole _ _ _));
}
