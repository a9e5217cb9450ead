-- The table of fields of the control of a cluster, register 3: its numbers are the register's fields, and say the value. Assumes nothing.
use Prim.Native.Nat.{ℕ}
use mathlib.Core.Path.{◌≡◌, refl, ap}
use mathlib.Core.List.{List}
use lib.ListN.{get_or}
use Rattle.fields.specs.Tables.{fields}
use Rattle.uncore_controls.specs.Control.{widths, control_of, values}
use Rattle.uncore_controls.specs.declared.control.Control.{Control}

-- the numbers of what a register says are its fields
pub values_of : (x : ℕ) → values (control_of x) ≡ fields 0 widths x
unfolding control_of fields
values_of x = refl

pub values_once : (a b : Control) → values a ≡ values b → a ≡ b
values_once a b e = ap (λ (v : List ℕ). record { mode = get_or v 0 0; reserved2 = get_or v 1 0; maximum = get_or v 2 0; minimum = get_or v 3 0; floor = get_or v 4 0; reserved29 = get_or v 5 0; threshold = get_or v 6 0; reserved39 = get_or v 7 0 }) e
