-- What a replay of a trace says (document 02, request 1), as bytes: words and decimal numbers with one blank between, each line ended by a line feed.
--   number_runs ws n       words, a number, and the line's end
--   call_word a            the word of the call a;   call_runs a n   that word, and the channel n that the call names
--   answer_runs x          what came of a call: `accepted`, `total` and the total, or `refused` and the number
--   record_runs p n a x    the line of the record at byte p of the trace, which is the call a on channel n and answered x
--   stop_runs p            the line of a stop at the record at byte p
--   open_runs n c          the line of channel n, whose record is c;   channel_runs n c   that line, nothing where it is not open
--   open_below cs k        the lines of the first k channels of cs, in rising order;   open_text cs   those of all 64
--   longest               the bytes of 64 lines as long as a line can be
--   open_number xs         25 where the page xs is shorter than that, so that every such text fits
--   open_of xs cs          that refusal, or how many bytes were written
--   open_left xs cs        what the page holds then: the text at its start; as it was where it is refused
-- Assumes nothing.
use Rattle.std.specs.Prelude.{ℕ, zero, suc, ◌*◌, cond, List, [], ◌∷◌, ◌++◌, ltb, eqb, length, get_or}
use Rattle.words.specs.Answers.{Answer, refused, gives, unless, first}
use Rattle.text.specs.Page.{over, joined}
use Rattle.text.specs.Numerals.{numeral_of}
use Rattle.text.specs.Words.{line_feed, refused_word}
use Rattle.energy_calls.specs.declared.calls.Call.{Call}
use Rattle.energy_calls.specs.declared.calls.Call.TheVariants.{Open, Read, Resume, Close, Ask}
use Rattle.energy_channel.specs.Channel.{closed, is_open}
use Rattle.energy_channel.specs.declared.channel.Channel.{Channel}

-- ---- the words, in ASCII

-- ` open `
abbrev pub open_word : List ℕ
open_word = 32 ∷ 111 ∷ 112 ∷ 101 ∷ 110 ∷ 32 ∷ []

-- ` read `
abbrev pub read_word : List ℕ
read_word = 32 ∷ 114 ∷ 101 ∷ 97 ∷ 100 ∷ 32 ∷ []

-- ` resume `
abbrev pub resume_word : List ℕ
resume_word = 32 ∷ 114 ∷ 101 ∷ 115 ∷ 117 ∷ 109 ∷ 101 ∷ 32 ∷ []

-- ` close `
abbrev pub close_word : List ℕ
close_word = 32 ∷ 99 ∷ 108 ∷ 111 ∷ 115 ∷ 101 ∷ 32 ∷ []

-- ` ask `
abbrev pub ask_word : List ℕ
ask_word = 32 ∷ 97 ∷ 115 ∷ 107 ∷ 32 ∷ []

-- ` accepted` and a line feed
abbrev pub accepted_text : List ℕ
accepted_text = 32 ∷ 97 ∷ 99 ∷ 99 ∷ 101 ∷ 112 ∷ 116 ∷ 101 ∷ 100 ∷ 10 ∷ []

-- ` total `
abbrev pub total_word : List ℕ
total_word = 32 ∷ 116 ∷ 111 ∷ 116 ∷ 97 ∷ 108 ∷ 32 ∷ []

-- `stopped `
abbrev pub stopped_word : List ℕ
stopped_word = 115 ∷ 116 ∷ 111 ∷ 112 ∷ 112 ∷ 101 ∷ 100 ∷ 32 ∷ []

-- `channel `
abbrev pub channel_word : List ℕ
channel_word = 99 ∷ 104 ∷ 97 ∷ 110 ∷ 110 ∷ 101 ∷ 108 ∷ 32 ∷ []

-- ` unit `
abbrev pub unit_word : List ℕ
unit_word = 32 ∷ 117 ∷ 110 ∷ 105 ∷ 116 ∷ 32 ∷ []

-- ---- the lines of records

abbrev pub number_runs : List ℕ → ℕ → List (List ℕ)
number_runs ws n = ws ∷ numeral_of 10 n ∷ line_feed ∷ []

abbrev pub call_word : Call → List ℕ
call_word (Open o) = open_word
call_word (Read q) = read_word
call_word (Resume q) = resume_word
call_word Close = close_word
call_word Ask = ask_word

abbrev pub call_runs : Call → ℕ → List (List ℕ)
call_runs a n = call_word a ∷ numeral_of 10 n ∷ []

-- closing and asking give the total, the others nothing
abbrev pub answer_runs : Answer → List (List ℕ)
answer_runs (refused n) = number_runs refused_word n
answer_runs (gives []) = accepted_text ∷ []
answer_runs (gives (t ∷ ts)) = number_runs total_word t

abbrev pub record_runs : ℕ → ℕ → Call → Answer → List (List ℕ)
record_runs p n a x = numeral_of 10 p ∷ call_runs a n ++ answer_runs x

abbrev pub stop_runs : ℕ → List (List ℕ)
stop_runs p = number_runs stopped_word p

-- ---- the lines of open channels

abbrev pub open_runs : ℕ → Channel → List (List ℕ)
open_runs n c = channel_word ∷ numeral_of 10 n ∷ unit_word ∷ numeral_of 10 c.unit ∷ number_runs total_word c.total

unfoldable pub channel_runs : ℕ → Channel → List (List ℕ)
channel_runs n c = cond (is_open c) (open_runs n c) []

unfoldable pub open_below : List Channel → ℕ → List ℕ
open_below cs zero = []
open_below cs (suc k) = open_below cs k ++ joined (channel_runs k (get_or cs k closed))

abbrev pub open_text : List Channel → List ℕ
open_text cs = open_below cs 64

-- ---- on a lent page

-- a line has at most 42 bytes: its words and line feed 22, the numbers 2, 2 and 16
abbrev pub longest : ℕ
longest = 64 * 42

abbrev pub open_number : List ℕ → ℕ
open_number xs = first ((ltb (length xs) longest, 25) ∷ [])

unfoldable pub open_of : List ℕ → List Channel → Answer
open_of xs cs = unless (open_number xs) (gives (length (open_text cs) ∷ []))

unfoldable pub open_left : List ℕ → List Channel → List ℕ
open_left xs cs = cond (eqb (open_number xs) 0) (over xs 0 (open_text cs)) xs
