-- `replay_trace::trace::call_of` meets its contract: the length of its kind, and then what its numbers say. Assumes nothing.
use Prim.Native.Nat.{ℕ}
use mathlib.Core.Path.{sym, ap, subst, ◌∙◌}
use mathlib.Core.List.{List}
use native.Mathlib.Omega.{arith}
use Rattle.records_body.specs.Body.{numbers_at}
use Rattle.records_body.specs.Facts.{Fit}
use Rattle.records_body.proofs.BodyTrips.{numbers_fit}
use Rattle.replay_trace.specs.Trace.{row_of, told, meant}
use Rattle.replay_trace.proofs.TraceLaws.{length_by, says_empty, says_none, says_whole}
use Rattle.replay_trace.proofs.trace.call_of.Goals as goal

pub returns-in_err-kind : goal.returns-in_err-kind
returns-in_err-kind c = record { answer = ap told c.from_residual.ensures ∙ says_empty c.args.bytes.now (sym c.in_err-kind.ensures.value) }

pub returns-then-length_of-bytes : goal.returns-then-length_of-bytes
returns-then-length_of-bytes c = record { answer = says_none c.args.bytes.now (sym c.in_ok-kind.ensures.value) (length_by _ _ c.length_of.ensures.answer) (λ e. omega (arith, e, c.if-length_of-bytes.true)) }

pub meant-requires : goal.meant-requires
meant-requires c = subst (λ (vs : List ℕ). Fit (row_of c.in_ok-kind.field-0.now) vs) (sym c.numbers.ensures.answer)
    (subst (λ (ks : List ℕ). Fit ks (numbers_at c.widths_of.result c.args.bytes.now 1)) c.widths_of.ensures.answer (numbers_fit c.widths_of.result c.args.bytes.now 1 (λ k. (c.type_inv.bytes k).fits)))

pub returns : goal.returns
returns c = record {
  answer = c.meant.ensures.answer
      ∙ ap (meant c.in_ok-kind.field-0.now) (c.numbers.ensures.answer ∙ ap (λ (ws : List ℕ). numbers_at ws c.args.bytes.now 1) c.widths_of.ensures.answer)
      ∙ says_whole c.args.bytes.now (sym c.in_ok-kind.ensures.value) (length_by _ _ c.length_of.ensures.answer) (omega (arith, c.if-length_of-bytes.false));
}
