-- The theorems of Facts.antt, under their names. Assumes nothing.
use mathlib.Core.Path.{refl}
use native.Mathlib.Omega.{arith}
use Rattle.fields.proofs.Structures.{word_trips}
use Rattle.rapl_limits.specs.Limit.{widths, limit_of, values}
use Rattle.rapl_limits.specs.Facts.{LimitFact}
use Rattle.rapl_limits.specs.declared.limit.Limit.{Limit}
use Rattle.rapl_limits.proofs.LimitLaws.{values_of, values_once}

pub limit_fact : (l : Limit) → LimitFact l
limit_fact = word_trips widths values limit_of values_of values_once (λ l. refl) (omega arith)
