-- What is proved of a limit's register as a value, for every number. To be read without its proof, which is in proofs/Theorems.antt.
-- Assumes nothing.
use Rattle.fields.specs.Facts.{WordTrips}
use Rattle.rapl_limits.specs.Limit.{widths, limit_of, values}
use Rattle.rapl_limits.specs.declared.limit.Limit.{Limit}

-- Writing (`written_of l`): 17 exactly if a number does not fit; a content is given exactly if it has 64 bits and says this limit; one of
-- the two always comes. So a register read and written back is the same 64 bits, reserved ones too, and a limit written and read back is
-- the same.
abbrev pub LimitFact : Limit → Type 0
LimitFact l = WordTrips widths values limit_of l
