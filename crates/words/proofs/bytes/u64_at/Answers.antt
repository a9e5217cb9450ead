-- `words::bytes::u64_at` meets its contract: the two halves, by the split law. No bit is lost, since a half has 32. Assumes nothing.
use Prim.Native.Nat.{◌+◌, min}
use mathlib.Core.Path.{◌≡◌, ◌∙◌}
use native.Mathlib.Omega.{arith}
use Rattle.std.proofs.Common.{rules}
use lib.ListN.{length}
use Rattle.words.specs.Bytes.{number_at}
use Rattle.words.proofs.NumberLaws.{number_from, number_halves}
use Rattle.words.proofs.bytes.u64_at.Goals as goal

pub returns : goal.returns
returns c =
    let there : c.min-from.result ≡ min c.args.at (length c.args.s.now) = search rules in
    let low_read : c.from-low.result ≡ number_at c.args.s.now c.min-from.result 4 = c.from-low.ensures ∙ c.u32_at.ensures.answer in
    let high_read : c.from-high.result ≡ number_at c.args.s.now (c.min-from.result + 4) 4 = c.from-high.ensures ∙ c.u32_at-2.ensures.answer in
    record { answer = number_halves c.args.s.now c.min-from.result high_read low_read (omega arith) ∙ number_from c.args.s.now c.args.at 8 there }
