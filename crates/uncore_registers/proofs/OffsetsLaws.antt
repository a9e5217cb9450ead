-- The table of fields of the cluster offsets, register 1 of an instance of feature 2: its numbers are the register's fields, and say the
-- value. Assumes nothing.
use Prim.Native.Nat.{ℕ}
use mathlib.Core.Path.{◌≡◌, refl, ap}
use mathlib.Core.List.{List}
use lib.ListN.{get_or}
use Rattle.fields.specs.Tables.{fields}
use Rattle.uncore_registers.specs.Offsets.{widths, offsets_of, values}
use Rattle.uncore_registers.specs.declared.offsets.Offsets.{Offsets}

-- the numbers of what a register says are its fields
pub values_of : (x : ℕ) → values (offsets_of x) ≡ fields 0 widths x
unfolding offsets_of fields
values_of x = refl

pub values_once : (a b : Offsets) → values a ≡ values b → a ≡ b
values_once a b e = ap (λ (v : List ℕ). record { offset0 = get_or v 0 0; offset1 = get_or v 1 0; offset2 = get_or v 2 0; offset3 = get_or v 3 0; offset4 = get_or v 4 0; offset5 = get_or v 5 0; offset6 = get_or v 6 0; offset7 = get_or v 7 0 }) e
