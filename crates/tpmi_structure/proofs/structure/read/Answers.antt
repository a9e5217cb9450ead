-- `tpmi_structure::structure::read` meets its contract: at each return the tests on the way decide the answer. Assumes nothing.
use mathlib.Core.Path.{sym, ap, ◌∙◌}
use Rattle.tpmi_structure.specs.Structure.{fixed_wrong, numbers}
use Rattle.words.specs.Answers.{gives}
use Rattle.tpmi_structure.proofs.StructureLaws.{read_short, read_wrong, read_right}
use Rattle.tpmi_structure.specs.declared.structure.Vsec.{Vsec}
use Rattle.tpmi_structure.proofs.structure.read.Goals as goal

pub returns-then-part-lt16 : goal.returns-then-part-lt16
returns-then-part-lt16 c = record { answer = sym (read_short c.args.part.now c.if-part-lt16.true) }

pub returns-then-fixed_wrong : goal.returns-then-fixed_wrong
returns-then-fixed_wrong c = record { answer = sym (read_wrong c.args.part.now c.if-part-lt16.false (ap fixed_wrong (sym c.vsec_at-v.ensures.answer) ∙ sym c.fixed_wrong.ensures.answer ∙ c.if-fixed_wrong.true)) }

pub returns : goal.returns
returns c = record {
  answer = ap (λ (v : Vsec). gives (numbers v)) c.vsec_at-v.ensures.answer
      ∙ sym (read_right c.args.part.now c.if-part-lt16.false (ap fixed_wrong (sym c.vsec_at-v.ensures.answer) ∙ sym c.fixed_wrong.ensures.answer ∙ c.if-fixed_wrong.false));
}
