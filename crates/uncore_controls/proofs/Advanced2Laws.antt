-- The table of fields of the second advanced control of a cluster, register 5: its numbers are the register's fields, and say the value.
-- Assumes nothing.
use Prim.Native.Nat.{ℕ}
use mathlib.Core.Path.{◌≡◌, refl, ap}
use mathlib.Core.List.{List}
use lib.ListN.{get_or}
use Rattle.fields.specs.Tables.{fields}
use Rattle.uncore_controls.specs.Advanced2.{widths, advanced2_of, values}
use Rattle.uncore_controls.specs.declared.advanced2.Advanced2.{Advanced2}

-- the numbers of what a register says are its fields
pub values_of : (x : ℕ) → values (advanced2_of x) ≡ fields 0 widths x
unfolding advanced2_of fields
values_of x = refl

pub values_once : (a b : Advanced2) → values a ≡ values b → a ≡ b
values_once a b e = ap (λ (v : List ℕ). record { slope = get_or v 0 0; base = get_or v 1 0; utilization = get_or v 2 0; bandwidth = get_or v 3 0; reserved32 = get_or v 4 0 }) e
