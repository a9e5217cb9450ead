-- `words::bytes::number_at` meets its contract. Assumes nothing.
use mathlib.Core.Path.{sym, ap₂, ◌∙◌}
use Prim.Native.Nat.{ℕ, ◌+◌, ◌*◌}
use native.Mathlib.Nat.{sub_self}
use native.Mathlib.Omega.{arith}
use Rattle.words.specs.Bytes.{number_at}
use Rattle.words.proofs.NumberLaws.{number_one, number_past, number_room, number_step}
use Rattle.words.proofs.bytes.number_at.Goals as goal

pub returns-then-s-at : goal.returns-then-s-at
returns-then-s-at c = record { answer = sym (number_past c.args.s.now c.args.at c.args.n c.if-s-at.true) }

pub loop-i-init : goal.loop-i-init
unfolding number_at
loop-i-init c = rw sub_self

pub overflow_mul-x : goal.overflow_mul-x
overflow_mul-x c = omega (arith, number_room c.args.s.now (λ k. (c.type_inv.s k).fits) (c.args.at + c.loop-i.i) c.args.n c.loop-i.i c.loop-i.invariant c.requires c.loop-i-test.true)

pub overflow_add-x : goal.overflow_add-x
overflow_add-x c = omega (arith, number_room c.args.s.now (λ k. (c.type_inv.s k).fits) (c.args.at + c.loop-i.i) c.args.n c.loop-i.i c.loop-i.invariant c.requires c.loop-i-test.true)

pub loop-i-preserved : goal.loop-i-preserved
loop-i-preserved c = ap₂ (λ (x b : ℕ). x * 256 + b) c.loop-i.invariant (c.from.ensures ∙ c.u8_at.ensures.answer ∙ number_one _ _) ∙ number_step c.args.s.now c.args.at c.args.n c.loop-i.i (omega arith) (omega arith)
