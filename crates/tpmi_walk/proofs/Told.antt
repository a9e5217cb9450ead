-- Two answers of the walk that say the same are the same. Assumes nothing.
use mathlib.Core.Path.{refl}
use mathlib.Core.List.{[], ◌∷◌}
use lib.ListN.{get_or}
use Rattle.words.proofs.Told.{once_by}
use Rattle.tpmi_walk.specs.Told.{ToldOnce}

pub told_once : ToldOnce
told_once = once_by (λ at. at ∷ []) (λ l. get_or l 0 0) (λ at. refl)
