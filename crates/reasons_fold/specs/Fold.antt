-- Fine limit reasons folded to coarse ones (document 02, request 6, which reads the merged cells of document 004's table). Fine bit k of a word
-- is bit k, coarse bit j of a mask is bit j.
--   frequency k, ..       fine bit k belongs to that reason;   none k   it does not
--   groups                the coarse bits of document 004 from bit 0 up, by the fine bits that belong to each
--   belongs j k           fine bit k belongs to coarse bit j
--   reached w j           some of the 32 fine bits of w is set and belongs to coarse bit j
--   fold_of w              the coarse mask that they fold to; bits from 32 up are not looked at
--   reached_from p b j     the same of a byte b that stands from fine bit p on
--   entry_of i             entry i = 256 q + b of the table: what byte q of the fine bits folds to where it is b
--   entries_from i n       the n entries from entry i on;   table   all 1,024
--   fine_at xs i           the fine bits, 63:32, of polled core i's mailbox data
--   joined_first xs n      what the first n cores' fine bits fold to, joined;   joined_of xs   all cores'
-- Assumes nothing.
use Rattle.std.specs.Prelude.{ℕ, zero, suc, ◌+◌, ◌*◌, ◌/◌, ◌%◌, Bool, false, ◌&&◌, ◌||◌, List, [], ◌∷◌, leb, eqb, length, get_or}
use Rattle.words.specs.Below.{any_below}
use Rattle.fields.specs.Bits.{field}
use Rattle.fields.specs.Masks.{mask_of, is_set}

-- ---- the groups

abbrev pub frequency : ℕ → Bool
frequency k = leb k 7

abbrev pub current : ℕ → Bool
current k = eqb k 8

abbrev pub power : ℕ → Bool
power k = leb 9 k && leb k 21

abbrev pub thermal : ℕ → Bool
thermal k = eqb k 23

abbrev pub platform : ℕ → Bool
platform k = eqb k 25 || eqb k 26

abbrev pub misc : ℕ → Bool
misc k = eqb k 29

abbrev pub dfc : ℕ → Bool
dfc k = eqb k 24

abbrev pub none : ℕ → Bool
none k = false

-- bits 0 FREQUENCY, 1 CURRENT, 2 POWER, 3 THERMAL, 4 PLATFORM, 5 MCP, 6 RAS, 7 MISC, 8 QOS, 9 DFC; no fine bit belongs to MCP, RAS or QOS
abbrev pub groups : List (ℕ → Bool)
groups = frequency ∷ current ∷ power ∷ thermal ∷ platform ∷ none ∷ none ∷ misc ∷ none ∷ dfc ∷ []

unfoldable pub belongs : ℕ → ℕ → Bool
belongs j k = get_or groups j none k

-- ---- the fold

unfoldable pub reached : ℕ → ℕ → Bool
reached w j = any_below (λ k. is_set w k && belongs j k) 32

unfoldable pub fold_of : ℕ → ℕ
fold_of w = mask_of (reached w) 10

-- ---- by table

unfoldable pub reached_from : ℕ → ℕ → ℕ → Bool
reached_from p b j = any_below (λ k. is_set b k && belongs j (p + k)) 8

unfoldable pub entry_of : ℕ → ℕ
entry_of i = mask_of (reached_from (i / 256 * 8) (i % 256)) 10

unfoldable pub entries_from : ℕ → ℕ → List ℕ
entries_from i zero = []
entries_from i (suc n) = entry_of i ∷ entries_from (suc i) n

unfoldable pub table : List ℕ
table = entries_from 0 1024

-- ---- several cores

abbrev pub fine_at : List ℕ → ℕ → ℕ
fine_at xs i = field 32 32 (get_or xs i 0)

unfoldable pub joined_first : List ℕ → ℕ → ℕ
joined_first xs n = mask_of (λ j. any_below (λ i. reached (fine_at xs i) j) n) 10

unfoldable pub joined_of : List ℕ → ℕ
joined_of xs = joined_first xs (length xs)
