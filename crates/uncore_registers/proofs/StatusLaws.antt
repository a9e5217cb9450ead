-- The table of fields of the status of a cluster, register 2: its numbers are the register's fields, and say the value. Assumes nothing.
use Prim.Native.Nat.{ℕ}
use mathlib.Core.Path.{◌≡◌, refl, ap}
use mathlib.Core.List.{List}
use lib.ListN.{get_or}
use Rattle.fields.specs.Tables.{fields}
use Rattle.uncore_registers.specs.Status.{widths, status_of, values}
use Rattle.uncore_registers.specs.declared.status.Status.{Status}

-- the numbers of what a register says are its fields
pub values_of : (x : ℕ) → values (status_of x) ≡ fields 0 widths x
unfolding status_of fields
values_of x = refl

pub values_once : (a b : Status) → values a ≡ values b → a ≡ b
values_once a b e = ap (λ (v : List ℕ). record { ratio = get_or v 0 0; voltage = get_or v 1 0; core = get_or v 2 0; cache = get_or v 3 0; memory = get_or v 4 0; io = get_or v 5 0; reserved27 = get_or v 6 0; throttled = get_or v 7 0 }) e
