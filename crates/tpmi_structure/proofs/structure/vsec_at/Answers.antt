-- `tpmi_structure::structure::vsec_at` meets its contract: sixteen bytes are two words, all zeros past the end. Assumes nothing.
use mathlib.Core.Path.{sym, ap₂, ◌∙◌}
use Rattle.tpmi_structure.specs.Structure.{vsec_of}
use Rattle.tpmi_structure.proofs.StructureLaws.{vsec_at_words, vsec_at_past}
use Prim.Native.Nat.{ℕ, ◌+◌, ◌*◌, ◌^◌}
use Rattle.tpmi_structure.proofs.structure.vsec_at.Goals as goal

pub returns-then-s-at : goal.returns-then-s-at
returns-then-s-at c = record { answer = c.of_words.ensures.answer ∙ sym (vsec_at_past c.args.s.now c.args.at c.if-s-at.true) }

pub returns : goal.returns
returns c = record {
  answer = c.of_words-2.ensures.answer ∙ ap₂ (λ (x y : ℕ). vsec_of (y * 2 ^ 64 + x)) c.u64_at.ensures.answer c.u64_at-2.ensures.answer
      ∙ sym (vsec_at_words c.args.s.now c.args.at);
}
