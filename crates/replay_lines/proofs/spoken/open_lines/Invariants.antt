-- `replay_lines::spoken::open_lines` meets its contract. The invariant: the lines of the channels below n stand on the page. Assumes nothing.
use Rattle.replay_lines.proofs.SpokenLaws.{Shown}
use Rattle.replay_lines.proofs.spoken.open_lines.Given as goal

abbrev pub invariant-loop-n : goal.invariant-loop-n
invariant-loop-n l = Shown l.initial.lines l.fn.channels l.n l.lines
