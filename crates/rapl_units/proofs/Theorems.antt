-- The theorem of Facts.antt, under its name. Assumes nothing.
use mathlib.Core.Path.{refl}
use native.Mathlib.Omega.{arith}
use Rattle.fields.proofs.Structures.{word_trips}
use Rattle.rapl_units.specs.Units.{widths, units_of, values}
use Rattle.rapl_units.specs.Facts.{UnitsFact}
use Rattle.rapl_units.specs.declared.units.Units.{Units}
use Rattle.rapl_units.proofs.UnitLaws.{values_of, values_once}

pub units_fact : (u : Units) → UnitsFact u
units_fact = word_trips widths values units_of values_of values_once (λ u. refl) (omega arith)
