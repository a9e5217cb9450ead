-- Worked exchanges, at the bounds of what the rules say; each is computed. Assumes nothing.
use Prim.Native.Nat.{ℕ, ◌-◌, ◌^◌}
use mathlib.Core.Path.{◌≡◌, refl}
use mathlib.Core.List.{List, [], ◌∷◌}
use Rattle.fields.specs.Bits.{field, with_field}
use Rattle.fields.specs.Tables.{with_fields}
use Rattle.reasons_registers.specs.MailboxInterface.{interface_of}
use Rattle.reasons_mailbox.specs.declared.mailbox.Mailbox.{Mailbox}
use Rattle.reasons_mailbox.specs.declared.mailbox.Mailbox.TheVariants.{Starting, Ending, Over}
use Rattle.reasons_mailbox.specs.Mailbox.{exchange_of, counting, outside, no, begins, begun_of, is_busy, stored_word, Said, waits, stores, ended, refused, nothing, last_test, waits_on, starts_of, ends_of, step_of}
use Rattle.reasons_mailbox.specs.Exchanges.{Seen}

-- what is said at each test, and the state that is left
hear : Mailbox → List Seen → List Said
hear m [] = []
hear m (v ∷ vs) = (step_of m v.interface v.reasons).said ∷ hear (step_of m v.interface v.reasons).state vs

-- a test that is busy, and an idle one beside which the data d was read
abbrev busy : Seen
busy = record { interface = 2 ^ 63; reasons = 0 }

abbrev idle : ℕ → Seen
idle d = record { interface = 0; reasons = d }

-- a read of core module 5, and a write of 9 to module 0 of the uncore, of n tests
abbrev reading : ℕ → Mailbox
reading n = Starting (exchange_of 0 0 5 0 n)

abbrev writing : ℕ → Mailbox
writing n = Starting (exchange_of 1 1 0 9 n)

-- the words that start them where the interface read 0
abbrev asked : Said
asked = stores ((1, 0x8000000000005000) ∷ [])

-- answered at once; and a write, whose data go first
at_once : hear (reading 1) (idle 7 ∷ idle 8 ∷ idle 9 ∷ []) ≡ asked ∷ ended (8 ∷ []) ∷ nothing ∷ []
unfolding hear step_of outside starts_of ends_of is_busy interface_of stored_word with_fields with_field field
at_once = refl

written : hear (writing 1) (idle 7 ∷ idle 8 ∷ []) ≡ stores ((2, 9) ∷ (1, 0x8000000000000101) ∷ []) ∷ ended [] ∷ []
unfolding hear step_of outside starts_of ends_of is_busy interface_of stored_word with_fields with_field field
written = refl

-- 30 at the n-th busy test in a row, of the first wait and of the second; after it nothing, idle or not
first_is_thirty : hear (reading 1) (busy ∷ idle 7 ∷ busy ∷ []) ≡ refused 30 ∷ nothing ∷ nothing ∷ []
unfolding hear step_of outside starts_of ends_of is_busy interface_of stored_word with_fields with_field field waits_on last_test
first_is_thirty = refl

second_is_thirty : hear (reading 2) (busy ∷ busy ∷ idle 7 ∷ []) ≡ waits ∷ refused 30 ∷ nothing ∷ []
unfolding hear step_of outside starts_of ends_of is_busy interface_of stored_word with_fields with_field field waits_on last_test
second_is_thirty = refl

counts_anew : hear (reading 2) (busy ∷ idle 7 ∷ busy ∷ busy ∷ idle 8 ∷ []) ≡ waits ∷ asked ∷ waits ∷ refused 30 ∷ nothing ∷ []
unfolding hear step_of outside starts_of ends_of is_busy interface_of stored_word with_fields with_field field waits_on last_test
counts_anew = refl

-- as many tests as there can be, 2 n
longest : hear (reading 3) (busy ∷ busy ∷ idle 7 ∷ busy ∷ busy ∷ idle 8 ∷ []) ≡ waits ∷ waits ∷ asked ∷ waits ∷ waits ∷ ended (8 ∷ []) ∷ []
unfolding hear step_of outside starts_of ends_of is_busy interface_of stored_word with_fields with_field field waits_on last_test
longest = refl

-- all bits but RUN_BUSY set: 62:20 stay, and what is asked stands below
reserved_stay : stored_word (exchange_of 0 15 255 0 1) (2 ^ 63 - 1) ≡ 0xFFFFFFFFFFFFFF00
unfolding stored_word interface_of with_fields with_field field
reserved_stay = refl

-- each number at its bound, and one past it
starts : begun_of (exchange_of 1 15 255 0 1000) ∷ begun_of (exchange_of 2 0 0 0 1) ∷ begun_of (exchange_of 0 16 0 0 1) ∷ begun_of (exchange_of 0 0 256 0 1)
    ∷ begun_of (exchange_of 0 0 0 0 0) ∷ begun_of (exchange_of 0 0 0 0 1001) ∷ []
    ≡ begins (Starting (exchange_of 1 15 255 0 1000)) ∷ no 17 ∷ no 17 ∷ no 17 ∷ no 17 ∷ no 17 ∷ []
unfolding begun_of outside
starts = refl

-- states that no exchange leaves: more busy tests counted than named, as many as a word has; a domain of 16, in either phase
odd : hear (Starting (counting (exchange_of 0 0 5 0 3) (2 ^ 64 - 1))) (busy ∷ idle 7 ∷ [])
    ≡ refused 30 ∷ nothing ∷ []
unfolding hear step_of outside starts_of ends_of is_busy interface_of stored_word with_fields with_field field waits_on last_test
odd = refl

odd_ended : hear (Starting (exchange_of 0 16 5 0 3)) (idle 7 ∷ []) ∷ hear (Ending (exchange_of 0 16 5 0 3)) (idle 7 ∷ []) ∷ hear Over (idle 7 ∷ []) ∷ []
    ≡ (nothing ∷ []) ∷ (nothing ∷ []) ∷ (nothing ∷ []) ∷ []
unfolding hear step_of outside
odd_ended = refl
