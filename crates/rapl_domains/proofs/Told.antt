-- Two answers of a domain's lookup that say the same are the same. Assumes nothing.
use mathlib.Core.Path.{refl}
use lib.ListN.{get_or}
use Rattle.words.proofs.Told.{once_by}
use Rattle.rapl_domains.specs.Domains.{values}
use Rattle.rapl_domains.specs.Told.{ToldOnce}

pub told_once : ToldOnce
told_once =
    once_by values
    (λ l. record { version = get_or l 0 0; kind = get_or l 1 0; size = get_or l 2 0; parent = get_or l 3 0; flags = get_or l 4 0; reserved48 = get_or l 5 0 })
    (λ h. refl)
