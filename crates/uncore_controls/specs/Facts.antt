-- What is proved of the registers that can be written as values, for every number. To be read without its proof, which is in
-- proofs/Theorems.antt under the same name with underscores.
-- Assumes nothing.
use Rattle.fields.specs.Facts.{WordTrips}
use Rattle.uncore_controls.specs.Control as control
use Rattle.uncore_controls.specs.declared.control.Control.{Control}
use Rattle.uncore_controls.specs.Advanced1 as advanced1
use Rattle.uncore_controls.specs.declared.advanced1.Advanced1.{Advanced1}
use Rattle.uncore_controls.specs.Advanced2 as advanced2
use Rattle.uncore_controls.specs.declared.advanced2.Advanced2.{Advanced2}

-- Writing a value (`written_of`): 17 exactly if a number does not fit; a content is given exactly if it has 64 bits and says this value; one
-- of the two always comes. So a register read and written back is the same 64 bits, reserved ones too, and a value written and read back is
-- the same.
abbrev pub ControlTrips : Control → Type 0
ControlTrips v = WordTrips control.widths control.values control.control_of v

abbrev pub Advanced1Trips : Advanced1 → Type 0
Advanced1Trips v = WordTrips advanced1.widths advanced1.values advanced1.advanced1_of v

abbrev pub Advanced2Trips : Advanced2 → Type 0
Advanced2Trips v = WordTrips advanced2.widths advanced2.values advanced2.advanced2_of v
