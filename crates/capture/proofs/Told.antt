-- Two answers that say the same are the same. Assumes nothing.
use mathlib.Core.Path.{refl}
use lib.ListN.{get_or}
use Rattle.words.proofs.Told.{once_by}
use Rattle.capture.specs.Told.{numbers, ToldOnce}

pub told_once : ToldOnce
told_once = once_by numbers (λ l. record { bir = get_or l 0 0; start = get_or l 1 0; size = get_or l 2 0; count = get_or l 3 0 }) (λ p. refl)
