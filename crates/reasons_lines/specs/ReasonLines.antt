-- What the program `reasons` says (document 02, request 6; document 004, the table of coarse reasons), as bytes: words, decimal numbers and
-- hexadecimal register values, each line ended by a line feed.
--   names                 the names of the coarse reasons, bit 0's first, each behind a blank
--   name_runs k b          the name of coarse bit k where b is true, nothing where it is false
--   names_below x k        the names of those of the first k bits that are set in x, from bit 0 up
--   end_text x             the line's end, before it `RESERVED` where a bit from 10 up is set
--   reasons_runs ws x      the line of the coarse reasons x behind the label ws: their names, `none` where no bit is set
--   asked_runs c d i       an exchange's command, domain and identifier
--   exchange_runs ..       the line of an exchange as it was started, and the number that it was answered with
--   hex_runs ws x          words, a number in hexadecimal, and the line's end
--   both_runs d w          what a write's start stores, the data d and then the interface's word w
--   reply_runs r           what a test's reply says, to the line's end
--   test_runs n x d r      the line of test n of an exchange, which saw x in the interface and d in the data and was replied r
-- Assumes nothing.
use Rattle.std.specs.Prelude.{ℕ, zero, suc, Bool, cond, List, [], ◌∷◌, ◌++◌, eqb, get_or}
use Rattle.fields.specs.Bits.{field}
use Rattle.fields.specs.Masks.{is_set}
use Rattle.text.specs.Numerals.{numeral_of}
use Rattle.text.specs.Words.{line_feed}
use Rattle.report.specs.Endings.{refusal_runs, outcome_runs}
use Rattle.reasons_mailbox.specs.declared.mailbox.Reply.{Reply}
use Rattle.reasons_mailbox.specs.declared.mailbox.Reply.TheVariants.{Waits, Store, StoreBoth, Read, Written, Refused, Nothing}

-- ---- the words, in ASCII

-- ` FREQUENCY`
abbrev pub frequency_word : List ℕ
frequency_word = 32 ∷ 70 ∷ 82 ∷ 69 ∷ 81 ∷ 85 ∷ 69 ∷ 78 ∷ 67 ∷ 89 ∷ []

-- ` CURRENT`
abbrev pub current_word : List ℕ
current_word = 32 ∷ 67 ∷ 85 ∷ 82 ∷ 82 ∷ 69 ∷ 78 ∷ 84 ∷ []

-- ` POWER`
abbrev pub power_word : List ℕ
power_word = 32 ∷ 80 ∷ 79 ∷ 87 ∷ 69 ∷ 82 ∷ []

-- ` THERMAL`
abbrev pub thermal_word : List ℕ
thermal_word = 32 ∷ 84 ∷ 72 ∷ 69 ∷ 82 ∷ 77 ∷ 65 ∷ 76 ∷ []

-- ` PLATFORM`
abbrev pub platform_word : List ℕ
platform_word = 32 ∷ 80 ∷ 76 ∷ 65 ∷ 84 ∷ 70 ∷ 79 ∷ 82 ∷ 77 ∷ []

-- ` MCP`
abbrev pub mcp_word : List ℕ
mcp_word = 32 ∷ 77 ∷ 67 ∷ 80 ∷ []

-- ` RAS`
abbrev pub ras_word : List ℕ
ras_word = 32 ∷ 82 ∷ 65 ∷ 83 ∷ []

-- ` MISC`
abbrev pub misc_word : List ℕ
misc_word = 32 ∷ 77 ∷ 73 ∷ 83 ∷ 67 ∷ []

-- ` QOS`
abbrev pub qos_word : List ℕ
qos_word = 32 ∷ 81 ∷ 79 ∷ 83 ∷ []

-- ` DFC`
abbrev pub dfc_word : List ℕ
dfc_word = 32 ∷ 68 ∷ 70 ∷ 67 ∷ []

-- ` RESERVED` and a line feed
abbrev pub reserved_text : List ℕ
reserved_text = 32 ∷ 82 ∷ 69 ∷ 83 ∷ 69 ∷ 82 ∷ 86 ∷ 69 ∷ 68 ∷ 10 ∷ []

-- ` none` and a line feed
abbrev pub none_text : List ℕ
none_text = 32 ∷ 110 ∷ 111 ∷ 110 ∷ 101 ∷ 10 ∷ []

-- `command `
abbrev pub command_word : List ℕ
command_word = 99 ∷ 111 ∷ 109 ∷ 109 ∷ 97 ∷ 110 ∷ 100 ∷ 32 ∷ []

-- ` domain `
abbrev pub domain_word : List ℕ
domain_word = 32 ∷ 100 ∷ 111 ∷ 109 ∷ 97 ∷ 105 ∷ 110 ∷ 32 ∷ []

-- ` id `
abbrev pub id_word : List ℕ
id_word = 32 ∷ 105 ∷ 100 ∷ 32 ∷ []

-- ` data 0x`
abbrev pub data_word : List ℕ
data_word = 32 ∷ 100 ∷ 97 ∷ 116 ∷ 97 ∷ 32 ∷ 48 ∷ 120 ∷ []

-- ` tests `
abbrev pub tests_word : List ℕ
tests_word = 32 ∷ 116 ∷ 101 ∷ 115 ∷ 116 ∷ 115 ∷ 32 ∷ []

-- `test `
abbrev pub test_word : List ℕ
test_word = 116 ∷ 101 ∷ 115 ∷ 116 ∷ 32 ∷ []

-- ` interface 0x`
abbrev pub interface_word : List ℕ
interface_word = 32 ∷ 105 ∷ 110 ∷ 116 ∷ 101 ∷ 114 ∷ 102 ∷ 97 ∷ 99 ∷ 101 ∷ 32 ∷ 48 ∷ 120 ∷ []

-- `: waits` and a line feed
abbrev pub waits_text : List ℕ
waits_text = 58 ∷ 32 ∷ 119 ∷ 97 ∷ 105 ∷ 116 ∷ 115 ∷ 10 ∷ []

-- `: store interface 0x`
abbrev pub store_word : List ℕ
store_word = 58 ∷ 32 ∷ 115 ∷ 116 ∷ 111 ∷ 114 ∷ 101 ∷ 32 ∷ 105 ∷ 110 ∷ 116 ∷ 101 ∷ 114 ∷ 102 ∷ 97 ∷ 99 ∷ 101 ∷ 32 ∷ 48 ∷ 120 ∷ []

-- `: store data 0x`
abbrev pub store_data_word : List ℕ
store_data_word = 58 ∷ 32 ∷ 115 ∷ 116 ∷ 111 ∷ 114 ∷ 101 ∷ 32 ∷ 100 ∷ 97 ∷ 116 ∷ 97 ∷ 32 ∷ 48 ∷ 120 ∷ []

-- `, interface 0x`
abbrev pub then_word : List ℕ
then_word = 44 ∷ 32 ∷ 105 ∷ 110 ∷ 116 ∷ 101 ∷ 114 ∷ 102 ∷ 97 ∷ 99 ∷ 101 ∷ 32 ∷ 48 ∷ 120 ∷ []

-- `: read 0x`
abbrev pub read_word : List ℕ
read_word = 58 ∷ 32 ∷ 114 ∷ 101 ∷ 97 ∷ 100 ∷ 32 ∷ 48 ∷ 120 ∷ []

-- `: written` and a line feed
abbrev pub written_text : List ℕ
written_text = 58 ∷ 32 ∷ 119 ∷ 114 ∷ 105 ∷ 116 ∷ 116 ∷ 101 ∷ 110 ∷ 10 ∷ []

-- `: nothing` and a line feed
abbrev pub nothing_text : List ℕ
nothing_text = 58 ∷ 32 ∷ 110 ∷ 111 ∷ 116 ∷ 104 ∷ 105 ∷ 110 ∷ 103 ∷ 10 ∷ []

-- ---- limit reasons by name

abbrev pub names : List (List ℕ)
names =
    frequency_word ∷ current_word ∷ power_word ∷ thermal_word ∷ platform_word
    ∷ mcp_word ∷ ras_word ∷ misc_word ∷ qos_word ∷ dfc_word ∷ []

abbrev pub name_runs : ℕ → Bool → List (List ℕ)
name_runs k b = cond b (get_or names k [] ∷ []) []

unfoldable pub names_below : ℕ → ℕ → List (List ℕ)
names_below x zero = []
names_below x (suc k) = names_below x k ++ name_runs k (is_set x k)

-- a register's bits 63:10 have no name of their own
abbrev pub end_text : ℕ → List ℕ
end_text x = cond (eqb (field 10 54 x) 0) line_feed reserved_text

abbrev pub reasons_runs : List ℕ → ℕ → List (List ℕ)
reasons_runs ws x = ws ∷ cond (eqb x 0) (none_text ∷ []) (names_below x 10 ++ end_text x ∷ [])

-- ---- the line of an exchange

abbrev pub asked_runs : ℕ → ℕ → ℕ → List (List ℕ)
asked_runs c d i = command_word ∷ numeral_of 10 c ∷ domain_word ∷ numeral_of 10 d ∷ id_word ∷ numeral_of 10 i ∷ []

abbrev pub exchange_runs : (command domain id reasons tests number : ℕ) → List (List ℕ)
exchange_runs c d i r k n = asked_runs c d i ++ data_word ∷ numeral_of 16 r ∷ tests_word ∷ numeral_of 10 k ∷ outcome_runs n

-- ---- the line of a test

abbrev pub hex_runs : List ℕ → ℕ → List (List ℕ)
hex_runs ws x = ws ∷ numeral_of 16 x ∷ line_feed ∷ []

abbrev pub both_runs : ℕ → ℕ → List (List ℕ)
both_runs d w = store_data_word ∷ numeral_of 16 d ∷ hex_runs then_word w

abbrev pub reply_runs : Reply → List (List ℕ)
reply_runs Waits = waits_text ∷ []
reply_runs (Store w) = hex_runs store_word w
reply_runs (StoreBoth d w) = both_runs d w
reply_runs (Read d) = hex_runs read_word d
reply_runs Written = written_text ∷ []
reply_runs (Refused n) = refusal_runs n
reply_runs Nothing = nothing_text ∷ []

abbrev pub test_runs : ℕ → ℕ → ℕ → Reply → List (List ℕ)
test_runs n x d r = test_word ∷ numeral_of 10 n ∷ interface_word ∷ numeral_of 16 x ∷ data_word ∷ numeral_of 16 d ∷ reply_runs r
