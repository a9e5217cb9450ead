-- `heard` ends, since a step uses at least one byte of what is left of the piece, and leaves the replay of the piece: what is left of it, replayed
-- from the state so far, comes to the same. Assumes nothing.
use Rattle.std.proofs.Common.{◌≡◌, length}
use Rattle.replay_steps.specs.Steps.{reader_of, replayed}
use Rattle.replay.proofs.heard.Given as goal

abbrev pub invariant-loop-rest : goal.invariant-loop-rest
invariant-loop-rest g l = (replayed (reader_of l.state) l.rest).state ≡ (replayed (reader_of l.fn.s) l.fn.piece).state

abbrev pub decreases-loop-rest : goal.decreases-loop-rest
decreases-loop-rest g l = length l.rest
