-- `tpmi_entries::entry::of_word` meets its contract: field by field. Assumes nothing.
use Rattle.tpmi_entries.specs.Entry.{entry_of}
use Rattle.tpmi_entries.proofs.entry.of_word.Goals as goal

pub returns : goal.returns
unfolding entry_of
returns c = record {
  answer = rw (
    c.field-6.ensures.answer,
    c.field-5.ensures.answer,
    c.field-4.ensures.answer,
    c.field-3.ensures.answer,
    c.field-2.ensures.answer,
    c.field.ensures.answer,
  );
}
