-- `tpmi_structure::structure::of_words` meets its contract: each field of the 128 bits lies in one of the two words. Assumes nothing.
use native.Mathlib.Omega.{arith}
use Rattle.fields.proofs.FieldLaws.{field_lt}
use Rattle.tpmi_structure.proofs.StructureLaws.{of_two_words}
use Rattle.tpmi_structure.proofs.structure.of_words.Goals as goal

pub overflow_mul-result : goal.overflow_mul-result
overflow_mul-result c = omega (arith, field_lt 35 29 c.args.high)

pub returns : goal.returns
returns c = record {
  answer = rw (
    of_two_words c.args.low c.args.high c.ranges.low.fits,
    c.field-11.ensures.answer,
    c.field-10.ensures.answer,
    c.field-9.ensures.answer,
    c.field-8.ensures.answer,
    c.field-7.ensures.answer,
    c.field-6.ensures.answer,
    c.field-5.ensures.answer,
    c.field-4.ensures.answer,
    c.field-3.ensures.answer,
    c.field-2.ensures.answer,
    c.field.ensures.answer,
  );
}
