-- `played` ends: each exchange takes 40 bytes at least. Assumes nothing.
use Rattle.std.proofs.Common.{length}
use Rattle.reasons.proofs.played.Given as goal

abbrev pub decreases-loop-over : goal.decreases-loop-over
decreases-loop-over g l = length l.rest
