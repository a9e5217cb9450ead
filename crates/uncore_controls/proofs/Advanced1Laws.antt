-- The table of fields of the first advanced control of a cluster, register 4: its numbers are the register's fields, and say the value.
-- Assumes nothing.
use Prim.Native.Nat.{ℕ}
use mathlib.Core.Path.{◌≡◌, refl, ap}
use mathlib.Core.List.{List}
use lib.ListN.{get_or}
use Rattle.fields.specs.Tables.{fields}
use Rattle.uncore_controls.specs.Advanced1.{widths, advanced1_of, values}
use Rattle.uncore_controls.specs.declared.advanced1.Advanced1.{Advanced1}

-- the numbers of what a register says are its fields
pub values_of : (x : ℕ) → values (advanced1_of x) ≡ fields 0 widths x
unfolding advanced1_of fields
values_of x = refl

pub values_once : (a b : Advanced1) → values a ≡ values b → a ≡ b
values_once a b e = ap (λ (v : List ℕ). record { slope = get_or v 0 0; base = get_or v 1 0; reserved16 = get_or v 2 0 }) e
