-- `all_tested` is safe and leaves no more bytes than there are. Assumes nothing.
use Rattle.std.proofs.Common.{◌≤◌, length}
use Rattle.reasons.proofs.all_tested.Given as goal

abbrev pub invariant-loop-n : goal.invariant-loop-n
invariant-loop-n g l = length l.rest ≤ length l.fn.bytes
