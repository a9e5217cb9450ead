-- `tpmi_walk::walk::walk` meets its contract: each header leads on, or its answer is the walk's. Assumes nothing.
use Prim.Native.Nat.{ℕ, ◌+◌, ◌-◌}
use Rattle.std.specs.Prelude.{Ok}
use Rattle.std.specs.declared.ops.ControlFlow.{ControlFlow}
use mathlib.Core.List.{[], ◌∷◌}
use mathlib.Core.Path.{refl, sym, subst, ap, ◌∙◌}
use native.Mathlib.Omega.{arith}
use Rattle.words.proofs.DoneLaws.{handed_on}
use Rattle.tpmi_walk.specs.Walk.{Header, Onward}
use Rattle.tpmi_walk.specs.Step.{told}
use Rattle.tpmi_walk.proofs.WalkLaws.{walk_zeros, walk_ones, walk_begins, walk_onward, walk_out}
use Rattle.tpmi_walk.proofs.walk.walk.Goals as goal
use Rattle.tpmi_walk.proofs.walk.walk.Goals.{then-word-eq0-via-then-word-eq0, then-word-eq0-via-else-word-eq0+then-word}

pub returns-then-word-eq0 : goal.returns-then-word-eq0
returns-then-word-eq0 c = record {
  answer = sym (elim c.then-word-eq0.branch [
    | then-word-eq0-via-then-word-eq0 w ↦ walk_zeros _ (sym c.u32_at-word.ensures.answer ∙ w.if-word-eq0.true)
    | then-word-eq0-via-else-word-eq0+then-word w ↦ walk_ones _ (sym c.u32_at-word.ensures.answer ∙ w.if-word.true)
  ]);
}

pub headers-init : goal.headers-init
headers-init c = record {
  low = omega arith;
  rest = walk_begins _ refl (λ e. c.if-word-eq0.false (c.u32_at-word.ensures.answer ∙ e)) (λ e. c.if-word.false (c.u32_at-word.ensures.answer ∙ e));
}

pub returns-in_err-found : goal.returns-in_err-found
returns-in_err-found c = record {
  answer = handed_on (λ at. at ∷ []) c.from_residual.result c.from_residual.ensures.1
      ∙ walk_onward _ (960 - c.headers.counter) (960 - (c.headers.counter + 1)) _ c.headers.invariant.rest (omega arith) (sym c.in_err-found.ensures.answer);
}

pub returns-in-Break : goal.returns-in-Break
returns-in-Break c =
    let e = sym c.in_ok-found.ensures.answer ∙ ap (λ (m : ControlFlow ℕ ℕ). told (Ok m)) c.in-Break.is in
    record { answer = walk_onward _ (960 - c.headers.counter) (960 - (c.headers.counter + 1)) _ c.headers.invariant.rest (omega arith) e }

pub headers-preserved : goal.headers-preserved
headers-preserved c =
    let e = ap (λ (m : ControlFlow ℕ ℕ). told (Ok m)) c.in-Continue.is in
    record {
      low = subst (λ (h : Header). Onward h 4096) e c.in_ok-found.ensures.within;
      rest = walk_onward _ (960 - c.headers.counter) (960 - (c.headers.counter + 1)) _ c.headers.invariant.rest (omega arith) (sym c.in_ok-found.ensures.answer ∙ e);
    }

pub returns : goal.returns
returns c = record { answer = sym (walk_out _ (960 - c.headers.counter) _ (omega arith)) ∙ c.headers.invariant.rest }
