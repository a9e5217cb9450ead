-- Worked lines, each computed from the numbers to the bytes of the text. Assumes nothing.
use Prim.Native.Nat.{ℕ, ◌-◌, ◌^◌}
use mathlib.Core.Path.{◌≡◌, refl}
use mathlib.Core.List.{[]}
use lib.ListN.{length}
use Rattle.words.specs.Below.{least}
use Rattle.fields.specs.Bits.{field}
use Rattle.text.specs.Page.{joined}
use Rattle.text.specs.Numerals.{digits, places_of}
use Rattle.text.proofs.Spelled.{codes}
use Rattle.reasons_mailbox.specs.declared.mailbox.Reply.TheVariants.{Waits, Store, StoreBoth, Read, Written, Refused, Nothing}
use Rattle.reasons_lines.specs.ReasonLines.{names_below, reasons_runs, exchange_runs, test_runs}

greatest : ℕ
greatest = 2 ^ 64 - 1

-- ---- reasons: all that have a name, none, some, bits without a name alone and beside others, and the longest line there is

every_name : joined (reasons_runs (codes "coarse") 0x3FF) ≡ codes "coarse FREQUENCY CURRENT POWER THERMAL PLATFORM MCP RAS MISC QOS DFC\n"
unfolding codes names_below field
every_name = refl

no_name : joined (reasons_runs (codes "folded") 0) ≡ codes "folded none\n"
unfolding codes names_below field
no_name = refl

two_names : joined (reasons_runs (codes "all") 0b1100) ≡ codes "all POWER THERMAL\n"
unfolding codes names_below field
two_names = refl

first_and_last : joined (reasons_runs [] 0b1000000001) ≡ codes " FREQUENCY DFC\n"
unfolding codes names_below field
first_and_last = refl

bit_10 : joined (reasons_runs (codes "coarse") 0x400) ≡ codes "coarse RESERVED\n"
unfolding codes names_below field
bit_10 = refl

bit_63 : joined (reasons_runs (codes "coarse") 0x8000000000000002) ≡ codes "coarse CURRENT RESERVED\n"
unfolding codes names_below field
bit_63 = refl

longest_reasons : length (joined (reasons_runs (codes "sixteen letters!") greatest)) ≡ 88
unfolding codes names_below field greatest
longest_reasons = refl

-- ---- exchanges: taken, refused, and the longest line there is

taken : joined (exchange_runs 0 0 5 0 3 0) ≡ codes "command 0 domain 0 id 5 data 0x0 tests 3: taken\n"
unfolding least places_of digits codes
taken = refl

refused : joined (exchange_runs 1 2 256 0xFFFFFFFFFFFFFFFF 1001 17) ≡ codes "command 1 domain 2 id 256 data 0xffffffffffffffff tests 1001: refused 17\n"
unfolding least places_of digits codes
refused = refl

longest_exchange : length (joined (exchange_runs greatest greatest greatest greatest greatest 255)) ≡ 145
unfolding least places_of digits greatest
longest_exchange = refl

-- ---- tests: each case of a reply, and the longest line there is

waits : joined (test_runs 1 0x8000000000000000 0 Waits) ≡ codes "test 1 interface 0x8000000000000000 data 0x0: waits\n"
unfolding least places_of digits codes
waits = refl

store : joined (test_runs 2 0 0xA (Store 0x8000000000005000)) ≡ codes "test 2 interface 0x0 data 0xa: store interface 0x8000000000005000\n"
unfolding least places_of digits codes
store = refl

store_both : joined (test_runs 1 0 0 (StoreBoth 0x400 0x8000000000005001)) ≡ codes "test 1 interface 0x0 data 0x0: store data 0x400, interface 0x8000000000005001\n"
unfolding least places_of digits codes
store_both = refl

read : joined (test_runs 4 0x5000 0x20004 (Read 0x20004)) ≡ codes "test 4 interface 0x5000 data 0x20004: read 0x20004\n"
unfolding least places_of digits codes
read = refl

written : joined (test_runs 2 0x5001 0 Written) ≡ codes "test 2 interface 0x5001 data 0x0: written\n"
unfolding least places_of digits codes
written = refl

given_up : joined (test_runs 3 0x8000000000005000 0 (Refused 30)) ≡ codes "test 3 interface 0x8000000000005000 data 0x0: refused 30\n"
unfolding least places_of digits codes
given_up = refl

nothing : joined (test_runs 5 0 0 Nothing) ≡ codes "test 5 interface 0x0 data 0x0: nothing\n"
unfolding least places_of digits codes
nothing = refl

longest_test : length (joined (test_runs greatest greatest greatest (StoreBoth greatest greatest))) ≡ 140
unfolding least places_of digits greatest
longest_test = refl
