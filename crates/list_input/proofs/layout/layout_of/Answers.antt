-- `list_input::layout::layout_of` meets its contract: at each return the tests on the way decide whether the input is readable.
-- Assumes nothing.
use Prim.Native.Nat.{ℕ, ◌+◌}
use mathlib.Core.Path.{sym, ap₂, ◌∙◌}
use mathlib.Core.List.{[], ◌∷◌}
use native.Mathlib.Omega.{arith}
use Rattle.words.specs.Bytes.{number_at}
use Rattle.list_input.proofs.LayoutLaws.{first_read, second_read, first_long, second_long, input_short, input_whole, layout_none, layout_there}
use Rattle.list_input.proofs.layout.layout_of.Goals as goal

pub returns-then-first-gt65536 : goal.returns-then-first-gt65536
returns-then-first-gt65536 c = record { answer = sym (layout_none c.args.input.now (first_long c.args.input.now (omega (arith, first_read c.args.input.now c.u32_at-first.ensures.answer, c.if-first-gt65536.true)))) }

pub returns-then-second-gt65536 : goal.returns-then-second-gt65536
returns-then-second-gt65536 c = record { answer = sym (layout_none c.args.input.now (second_long c.args.input.now (omega (arith, second_read c.args.input.now c.u32_at-first.ensures.answer c.u32_at-second.ensures.answer, c.if-second-gt65536.true)))) }

pub returns-then-input-end : goal.returns-then-input-end
returns-then-input-end c = record { answer = sym (layout_none c.args.input.now (input_short c.args.input.now (omega (arith, first_read c.args.input.now c.u32_at-first.ensures.answer, second_read c.args.input.now c.u32_at-first.ensures.answer c.u32_at-second.ensures.answer, c.if-input-end.true)))) }

pub returns : goal.returns
returns c = let e = first_read c.args.input.now c.u32_at-first.ensures.answer in let g = second_read c.args.input.now c.u32_at-first.ensures.answer c.u32_at-second.ensures.answer in let whole = input_whole c.args.input.now (omega (arith, e, c.if-first-gt65536.false)) (omega (arith, g, c.if-second-gt65536.false)) (omega (arith, e, g, c.if-input-end.false)) in record {
  answer = ap₂ (λ (x y : ℕ). x ∷ (4101 + c.u32_at-first.result) ∷ y ∷ (4101 + c.u32_at-first.result + 5 + c.u32_at-second.result) ∷ []) c.u8_at.ensures.answer c.u8_at-2.ensures.answer
      ∙ ap₂ (λ (x y : ℕ). number_at c.args.input.now 4096 1 ∷ (4101 + x) ∷ number_at c.args.input.now (4101 + x) 1 ∷ (4101 + x + 5 + y) ∷ []) e g
      ∙ sym (layout_there c.args.input.now whole);
}
