-- The theorems of Facts.antt, under their names. Assumes nothing.
use mathlib.Core.Path.{refl}
use native.Mathlib.Omega.{arith}
use Rattle.fields.proofs.Structures.{word_trips}
use Rattle.uncore_registers.specs.Facts.{HeaderTrips, OffsetsTrips, StatusTrips}
use Rattle.uncore_registers.specs.Header as header
use Rattle.uncore_registers.specs.declared.header.Header.{Header}
use Rattle.uncore_registers.proofs.HeaderLaws as of-header
use Rattle.uncore_registers.specs.Offsets as offsets
use Rattle.uncore_registers.specs.declared.offsets.Offsets.{Offsets}
use Rattle.uncore_registers.proofs.OffsetsLaws as of-offsets
use Rattle.uncore_registers.specs.Status as status
use Rattle.uncore_registers.specs.declared.status.Status.{Status}
use Rattle.uncore_registers.proofs.StatusLaws as of-status

pub header_trips : (v : Header) → HeaderTrips v
header_trips = word_trips header.widths header.values header.header_of of-header.values_of of-header.values_once (λ v. refl) (omega arith)

pub offsets_trips : (v : Offsets) → OffsetsTrips v
offsets_trips = word_trips offsets.widths offsets.values offsets.offsets_of of-offsets.values_of of-offsets.values_once (λ v. refl) (omega arith)

pub status_trips : (v : Status) → StatusTrips v
status_trips = word_trips status.widths status.values status.status_of of-status.values_of of-status.values_once (λ v. refl) (omega arith)
