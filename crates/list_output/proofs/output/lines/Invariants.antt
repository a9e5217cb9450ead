-- `list_output::output::lines` meets its contract. The invariant: the lines of the entries below k stand on the page. Assumes nothing.
use Rattle.list_output.proofs.OutputLaws.{Shown}
use Rattle.list_output.proofs.output.lines.Given as goal

abbrev pub invariant-loop-k : goal.invariant-loop-k
invariant-loop-k l = Shown l.fn.page l.fn.bar l.table l.k l.page
