-- The invariant: the bits so far are the mask of the instances so far. Assumes nothing.
use mathlib.Core.Path.{◌≡◌}
use Rattle.fields.specs.Masks.{mask_of, onwards}
use Rattle.tpmi_counts.specs.Valid.{valid_in}
use Rattle.tpmi_counts.proofs.valid.mask.Given as goal

abbrev pub invariant-loop-k : goal.invariant-loop-k
invariant-loop-k l = l.bits ≡ mask_of (onwards (valid_in l.bar l.start l.size) l.first) l.k
