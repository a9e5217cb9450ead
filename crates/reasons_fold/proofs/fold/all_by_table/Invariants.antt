-- The loop of `reasons_fold::fold::all_by_table`: the mask so far is that of the cores so far. Assumes nothing.
use mathlib.Core.Path.{◌≡◌}
use Rattle.reasons_fold.specs.Fold.{joined_first}
use Rattle.reasons_fold.proofs.fold.all_by_table.Given as goal

abbrev pub invariant-loop-word : goal.invariant-loop-word
invariant-loop-word l = l.coarse ≡ joined_first l.polled l.word-index
