-- `tpmi_walk::walk::header` meets its contract: the word's fields are the header's, and the tests on the way decide. Assumes nothing.
use mathlib.Core.Path.{sym, ap, ◌∙◌}
use native.Mathlib.Omega.{arith}
use Rattle.fields.proofs.FieldLaws.{field_lt}
use Rattle.words.proofs.DoneLaws.{the_err}
use Rattle.tpmi_walk.specs.Walk.{stops, followed, vsec_id_at}
use Rattle.tpmi_walk.specs.Step.{told}
use Rattle.tpmi_walk.proofs.WalkLaws.{identifier_read, next_read, header_cut, header_tpmi, header_other_id, header_other}
use Rattle.tpmi_walk.proofs.walk.header.Goals as goal
use Rattle.tpmi_walk.proofs.walk.header.Goals.{then-field-eq11+else-at-gt4088+else-u16_at-eq66, else-field-eq11}

pub returns-then-at-gt4088-clause-answer : goal.returns-then-at-gt4088-clause-answer
returns-then-at-gt4088-clause-answer c =
    let e = identifier_read c.args.config.now c.args.at c.u32_at.ensures.answer c.from-word.ensures c.field.ensures.answer in
    sym (header_cut c.args.config.now c.args.at (sym e ∙ c.if-field-eq11.true) c.if-at-gt4088.true)

pub returns-in_err-taken-clause-answer : goal.returns-in_err-taken-clause-answer
unfolding vsec_id_at
returns-in_err-taken-clause-answer c =
    let e = identifier_read c.args.config.now c.args.at c.u32_at.ensures.answer c.from-word.ensures c.field.ensures.answer in
    ap told (the_err c.from_residual.result c.from_residual.ensures.1) ∙ ap stops c.in_err-taken.ensures.answer
    ∙ sym (header_tpmi c.args.config.now c.args.at (sym e ∙ c.if-field-eq11.true) c.if-at-gt4088.false (sym c.u16_at.ensures.answer ∙ c.if-u16_at-eq66.true))

pub returns-in_err-taken-clause-within : goal.returns-in_err-taken-clause-within
returns-in_err-taken-clause-within c = rw (the_err c.from_residual.result c.from_residual.ensures.1) tt

pub returns-then-u16_at-eq66-clause-answer : goal.returns-then-u16_at-eq66-clause-answer
unfolding vsec_id_at
returns-then-u16_at-eq66-clause-answer c =
    let e = identifier_read c.args.config.now c.args.at c.u32_at.ensures.answer c.from-word.ensures c.field.ensures.answer in
    ap stops c.in_ok-taken.ensures.answer
    ∙ sym (header_tpmi c.args.config.now c.args.at (sym e ∙ c.if-field-eq11.true) c.if-at-gt4088.false (sym c.u16_at.ensures.answer ∙ c.if-u16_at-eq66.true))

pub follow-requires : goal.follow-requires
follow-requires c = omega (arith, c.field-2.ensures.answer, field_lt 20 12 c.from-word.result)

pub returns-clause-answer : goal.returns-clause-answer
unfolding vsec_id_at
returns-clause-answer c =
    let e = identifier_read c.args.config.now c.args.at c.u32_at.ensures.answer c.from-word.ensures c.field.ensures.answer in
    c.follow.ensures.answer ∙ ap followed (next_read c.args.config.now c.args.at c.u32_at.ensures.answer c.from-word.ensures c.field-2.ensures.answer)
    ∙ sym (elim c.if-field-eq11.branch [
      | then-field-eq11+else-at-gt4088+else-u16_at-eq66 w ↦ header_other_id c.args.config.now c.args.at w.if-at-gt4088.false (λ z. w.if-u16_at-eq66.false (w.u16_at.ensures.answer ∙ z))
      | else-field-eq11 w ↦ header_other c.args.config.now c.args.at (λ z. w.if-field-eq11.false (e ∙ z))
    ])
