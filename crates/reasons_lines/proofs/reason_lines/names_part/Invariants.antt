-- `reasons_lines::reason_lines::names_part` meets its contract. The invariant: the names of the bits below k stand on the page. Assumes nothing.
use Rattle.text.specs.Page.{Wrote}
use Rattle.reasons_lines.specs.ReasonLines.{names_below}
use Rattle.reasons_lines.proofs.NameLaws.{Named}
use Rattle.reasons_lines.proofs.reason_lines.names_part.Given as goal

abbrev pub invariant-loop-k : goal.invariant-loop-k
invariant-loop-k l = Wrote l.fn.page l.page (names_below l.coarse l.k) × Named l.name-items
