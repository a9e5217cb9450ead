-- `words::bytes::u16_at` meets its contract: 2 bytes fit. Assumes nothing.
use native.Mathlib.Omega.{arith}
use Rattle.words.proofs.NumberLaws.{read_lt}
use Rattle.words.proofs.bytes.u16_at.Goals as goal

pub overflow_cast-result : goal.overflow_cast-result
overflow_cast-result c = omega (arith, read_lt c.args.s.now (λ k. (c.type_inv.s k).fits) _ _ c.number_at.ensures.answer)
