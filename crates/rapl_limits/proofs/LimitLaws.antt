-- The limit's table of fields: its numbers are the register's fields, and say the limit. Assumes nothing.
use Prim.Native.Nat.{ℕ}
use mathlib.Core.Path.{◌≡◌, refl, ap}
use mathlib.Core.List.{List}
use lib.ListN.{get_or}
use Rattle.fields.specs.Tables.{fields}
use Rattle.rapl_limits.specs.Limit.{widths, limit_of, values}
use Rattle.rapl_limits.specs.declared.limit.Limit.{Limit}

-- the numbers of what a register says are its fields
pub values_of : (x : ℕ) → values (limit_of x) ≡ fields 0 widths x
unfolding limit_of fields
values_of x = refl

pub values_once : (l m : Limit) → values l ≡ values m → l ≡ m
values_once l m e = ap (λ (v : List ℕ). record { power = get_or v 0 0; window = get_or v 1 0; reserved25 = get_or v 2 0; enable = get_or v 3 0; lock = get_or v 4 0 }) e
