-- `tpmi_registers::registers::register_place` meets its contract: the instance's refusal, 14, or the place. Assumes nothing.
use Prim.Native.Nat.{ℕ, ◌+◌}
use mathlib.Core.Path.{sym, ap, ap₂, ◌∙◌}
use mathlib.Core.List.{[], ◌∷◌}
use native.Mathlib.Omega.{arith}
use Rattle.words.specs.Answers.{refused, gives}
use Rattle.words.proofs.AnswerLaws.{stage_stops}
use Rattle.words.proofs.DoneLaws.{was_done, was_refused, not_done, handed_on}
use Rattle.capture.specs.Capture.{capture_of}
use Rattle.capture.specs.Told.{numbers}
use Rattle.tpmi_features.specs.Instances.{instance_of, instance_number}
use Rattle.tpmi_registers.specs.Registers.{outside, register_place_of, register_number}
use Rattle.tpmi_features.proofs.InstanceLaws.{instance_at, bank_for_bounded}
use Rattle.tpmi_features.proofs.InsideLaws.{start_small}
use Rattle.tpmi_registers.proofs.RegisterLaws.{register_refused, register_inside, outside_room}
use Rattle.tpmi_registers.proofs.registers.register_place.Goals as goal

pub returns-in_err-p : goal.returns-in_err-p
unfolding register_place_of register_number instance_of
returns-in_err-p c = record {
  answer = handed_on numbers c.from_residual.result c.from_residual.ensures.1
      ∙ sym (stage_stops (instance_number _ _ _) _ _ _ (sym c.in_err-p.ensures.answer));
}

pub returns-in_err-inside : goal.returns-in_err-inside
returns-in_err-inside c =
    let q = instance_at (capture_of c.args.capture) c.args.id c.args.n (sym c.in_ok-p.ensures.answer) in
    let size = ap (λ (z : ℕ). outside z c.args.offset) q.size in
    record {
      answer = handed_on numbers c.from_residual-in_err-inside.result c.from_residual-in_err-inside.ensures.1
          ∙ ap refused (sym (was_refused _ c.in_err-inside.ensures.answer) ∙ size)
          ∙ sym (register_refused (capture_of c.args.capture) c.args.id c.args.n c.args.offset q.zero (λ z. not_done _ c.in_err-inside.ensures.answer (size ∙ z)));
    }

pub overflow_add-result : goal.overflow_add-result
overflow_add-result c =
    let q = instance_at (capture_of c.args.capture) c.args.id c.args.n (sym c.in_ok-p.ensures.answer) in
    omega (
      arith,
      q.start,
      q.size,
      start_small (capture_of c.args.capture) _ _ q.zero,
      (bank_for_bounded (capture_of c.args.capture) c.args.id).words,
      (outside_room _ _ (was_done _ c.in_ok-inside.ensures.answer)).1,
    )

pub returns : goal.returns
returns c =
    let q = instance_at (capture_of c.args.capture) c.args.id c.args.n (sym c.in_ok-p.ensures.answer) in
    let size = ap (λ (z : ℕ). outside z c.args.offset) q.size in
    record {
      answer = ap₂ (λ (b s : ℕ). gives (b ∷ (s + c.args.offset) ∷ 8 ∷ 1 ∷ [])) q.bir q.start
          ∙ sym (register_inside (capture_of c.args.capture) c.args.id c.args.n c.args.offset q.zero (sym size ∙ was_done _ c.in_ok-inside.ensures.answer));
    }
