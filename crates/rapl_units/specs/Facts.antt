-- What is proved of units, for every number. To be read without its proof, which is in proofs/Theorems.antt under the same name with underscores.
-- Assumes nothing.
use Rattle.fields.specs.Facts.{WordTrips}
use Rattle.rapl_units.specs.Units.{widths, units_of, values}
use Rattle.rapl_units.specs.declared.units.Units.{Units}

-- Writing (`written_of u`): 17 exactly if a number does not fit; a content is given exactly if it has 64 bits and says these units; one of
-- the two always comes. So a register read and written back is the same 64 bits, reserved ones too, and units written and read back are
-- the same.
abbrev pub UnitsFact : Units → Type 0
UnitsFact u = WordTrips widths values units_of u
