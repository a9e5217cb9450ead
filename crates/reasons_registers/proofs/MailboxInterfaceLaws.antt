-- The table of fields of the mailbox's interface, register 1 of an instance of feature 0xC: its numbers are the register's fields, and say
-- the value. Assumes nothing.
use Prim.Native.Nat.{ℕ}
use mathlib.Core.Path.{◌≡◌, refl, ap}
use mathlib.Core.List.{List}
use lib.ListN.{get_or}
use Rattle.fields.specs.Tables.{fields}
use Rattle.reasons_registers.specs.MailboxInterface.{widths, interface_of, values}
use Rattle.reasons_registers.specs.declared.mailbox_interface.Interface.{Interface}

-- the numbers of what a register says are its fields
pub values_of : (x : ℕ) → values (interface_of x) ≡ fields 0 widths x
unfolding interface_of fields
values_of x = refl

pub values_once : (a b : Interface) → values a ≡ values b → a ≡ b
values_once a b e = ap (λ (v : List ℕ). record { command = get_or v 0 0; domain = get_or v 1 0; id = get_or v 2 0; reserved20 = get_or v 3 0; busy = get_or v 4 0 }) e
