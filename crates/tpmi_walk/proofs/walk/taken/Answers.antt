-- `tpmi_walk::walk::taken` meets its contract: at each return the tests on the way decide. Assumes nothing.
use mathlib.Core.Path.{sym, ap, ◌∙◌}
use Rattle.tpmi_structure.specs.Structure.{fixed_wrong}
use Rattle.tpmi_walk.proofs.WalkLaws.{taken_high, taken_wrong, taken_sound}
use Rattle.tpmi_walk.proofs.walk.taken.Goals as goal
use Rattle.tpmi_walk.proofs.walk.taken.Goals.{then-at-gt4080-via-then-at-gt4080, then-at-gt4080-via-else-at-gt4080+then-fixed_wrong}

pub returns-then-at-gt4080 : goal.returns-then-at-gt4080
returns-then-at-gt4080 c = record {
  answer = sym (elim c.then-at-gt4080.branch [
    | then-at-gt4080-via-then-at-gt4080 w ↦ taken_high c.args.config.now c.args.at w.if-at-gt4080.true
    | then-at-gt4080-via-else-at-gt4080+then-fixed_wrong w ↦ taken_wrong c.args.config.now c.args.at w.if-at-gt4080.false (ap fixed_wrong (sym w.vsec_at.ensures.answer) ∙ sym w.fixed_wrong.ensures.answer ∙ w.if-fixed_wrong.true)
  ]);
}

pub returns : goal.returns
returns c = record { answer = sym (taken_sound c.args.config.now c.args.at c.if-at-gt4080.false (ap fixed_wrong (sym c.vsec_at.ensures.answer) ∙ sym c.fixed_wrong.ensures.answer ∙ c.if-fixed_wrong.false)) }
