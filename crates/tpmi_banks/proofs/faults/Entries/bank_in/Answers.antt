-- `tpmi_banks::faults::Entries::bank_in` meets its contract: an entry that is read has small numbers. Assumes nothing.
use mathlib.Core.Path.{sym, subst}
use Rattle.tpmi_banks.specs.Faults.{Small, bank_in}
use Rattle.tpmi_banks.proofs.FaultLaws.{entry_small}
use Rattle.tpmi_banks.proofs.faults.Entries.bank_in.Goals as goal

pub bank_of-requires : goal.bank_of-requires
bank_of-requires c = subst Small (sym c.entry_at.ensures.answer) (entry_small _ _)

pub returns-clause-answer : goal.returns-clause-answer
unfolding bank_in
returns-clause-answer c = rw (c.bank_of.ensures.answer, c.entry_at.ensures.answer, c.from.ensures)
