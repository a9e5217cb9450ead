-- The theorems of Facts.antt, under their names. Assumes nothing.
use mathlib.Core.Path.{refl}
use native.Mathlib.Omega.{arith}
use Rattle.fields.proofs.Structures.{word_trips}
use Rattle.uncore_controls.specs.Facts.{ControlTrips, Advanced1Trips, Advanced2Trips}
use Rattle.uncore_controls.specs.Control as control
use Rattle.uncore_controls.specs.declared.control.Control.{Control}
use Rattle.uncore_controls.proofs.ControlLaws as of-control
use Rattle.uncore_controls.specs.Advanced1 as advanced1
use Rattle.uncore_controls.specs.declared.advanced1.Advanced1.{Advanced1}
use Rattle.uncore_controls.proofs.Advanced1Laws as of-advanced1
use Rattle.uncore_controls.specs.Advanced2 as advanced2
use Rattle.uncore_controls.specs.declared.advanced2.Advanced2.{Advanced2}
use Rattle.uncore_controls.proofs.Advanced2Laws as of-advanced2

pub control_trips : (v : Control) → ControlTrips v
control_trips = word_trips control.widths control.values control.control_of of-control.values_of of-control.values_once (λ v. refl) (omega arith)

pub advanced1_trips : (v : Advanced1) → Advanced1Trips v
advanced1_trips = word_trips advanced1.widths advanced1.values advanced1.advanced1_of of-advanced1.values_of of-advanced1.values_once (λ v. refl) (omega arith)

pub advanced2_trips : (v : Advanced2) → Advanced2Trips v
advanced2_trips = word_trips advanced2.widths advanced2.values advanced2.advanced2_of of-advanced2.values_of of-advanced2.values_once (λ v. refl) (omega arith)
