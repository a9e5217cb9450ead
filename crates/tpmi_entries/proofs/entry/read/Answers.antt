-- `tpmi_entries::entry::read` meets its contract: the one test decides. Assumes nothing.
use mathlib.Core.Path.{sym, ap, ◌∙◌}
use Rattle.words.specs.Answers.{gives}
use Rattle.tpmi_entries.specs.Entry.{values}
use Rattle.tpmi_entries.specs.declared.entry.Entry.{Entry}
use Rattle.tpmi_entries.proofs.EntryLaws.{read_short, read_right}
use Rattle.tpmi_entries.proofs.entry.read.Goals as goal

pub returns-then-part-lt8 : goal.returns-then-part-lt8
returns-then-part-lt8 c = record { answer = sym (read_short c.args.part.now c.if-part-lt8.true) }

pub returns-else-part-lt8 : goal.returns-else-part-lt8
returns-else-part-lt8 c = record { answer = ap (λ (e : Entry). gives (values e)) c.entry_at.ensures.answer ∙ sym (read_right c.args.part.now c.if-part-lt8.false) }
