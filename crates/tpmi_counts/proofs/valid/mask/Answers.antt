-- `tpmi_counts::valid::mask` meets its contract: a bit more, or none. Assumes nothing.
use Prim.Native.Nat.{ℕ, ◌*◌, ◌^◌, ◌%◌}
use mathlib.Core.Path.{refl, sym, ap, ◌∙◌}
use native.Mathlib.Omega.{arith}
use lib.Bits.{bit_or}
use Rattle.fields.specs.Masks.{mask_of}
use Rattle.fields.proofs.MaskLaws.{mask_set, mask_skip}
use Rattle.tpmi_counts.proofs.valid.mask.Goals as goal
use Rattle.tpmi_counts.proofs.valid.mask.Goals.{then-valid_at, else-valid_at}

pub loop-k-init : goal.loop-k-init
unfolding mask_of
loop-k-init c = refl

pub loop-k-preserved : goal.loop-k-preserved
loop-k-preserved c = elim c.if-valid_at.branch [
  | then-valid_at w ↦ w.bits-is ∙ ap (λ (x : ℕ). bit_or x ((1 * 2 ^ c.loop-k.k) % 2 ^ 64)) c.loop-k.invariant ∙ mask_set _ c.loop-k.k (omega arith) (sym c.valid_at.ensures.answer ∙ w.if-valid_at.true)
  | else-valid_at w ↦ w.bits-is ∙ c.loop-k.invariant ∙ mask_skip _ c.loop-k.k (sym c.valid_at.ensures.answer ∙ w.if-valid_at.false)
]
