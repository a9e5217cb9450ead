-- The table of fields of the die level, register 3 of an instance of feature 0xC: its numbers are the register's fields, and say the value.
-- Assumes nothing.
use Prim.Native.Nat.{ℕ}
use mathlib.Core.Path.{◌≡◌, refl, ap}
use mathlib.Core.List.{List}
use lib.ListN.{get_or}
use Rattle.fields.specs.Tables.{fields}
use Rattle.reasons_registers.specs.DieLevel.{widths, die_level_of, values}
use Rattle.reasons_registers.specs.declared.die_level.DieLevel.{DieLevel}

-- the numbers of what a register says are its fields
pub values_of : (x : ℕ) → values (die_level_of x) ≡ fields 0 widths x
unfolding die_level_of fields
values_of x = refl

pub values_once : (a b : DieLevel) → values a ≡ values b → a ≡ b
values_once a b e = ap (λ (v : List ℕ). record { coarse = get_or v 0 0; reserved32 = get_or v 1 0 }) e
