-- The units' table of fields: their numbers are the register's fields, and say the units. Assumes nothing.
use Prim.Native.Nat.{ℕ}
use mathlib.Core.Path.{◌≡◌, refl, ap}
use mathlib.Core.List.{List}
use lib.ListN.{get_or}
use Rattle.fields.specs.Tables.{fields}
use Rattle.rapl_units.specs.Units.{widths, units_of, values}
use Rattle.rapl_units.specs.declared.units.Units.{Units}

-- the numbers of what a register says are its fields
pub values_of : (x : ℕ) → values (units_of x) ≡ fields 0 widths x
unfolding units_of fields
values_of x = refl

pub values_once : (u v : Units) → values u ≡ values v → u ≡ v
values_once u v e = ap (λ (l : List ℕ). record { power = get_or l 0 0; reserved4 = get_or l 1 0; energy = get_or l 2 0; reserved11 = get_or l 3 0; time = get_or l 4 0; reserved16 = get_or l 5 0 }) e
