-- The steps that are left bound how often `climb` calls itself. Assumes nothing.
use Rattle.rapl_chains.proofs.chains.+climb.Given as goal

abbrev pub decreases-climb : goal.decreases-climb
decreases-climb l = l.left
