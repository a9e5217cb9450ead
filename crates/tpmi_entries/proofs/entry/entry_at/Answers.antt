-- `tpmi_entries::entry::entry_at` meets its contract: eight bytes are one word. Assumes nothing.
use Rattle.tpmi_entries.specs.Entry.{entry_at}
use Rattle.tpmi_entries.proofs.entry.entry_at.Goals as goal

pub returns : goal.returns
unfolding entry_at
returns c = record { answer = cc }
