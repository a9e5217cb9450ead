-- The whole listing as bytes (document 01, "Bench cases"): `unreadable`, `refused` and the number, or a line for each entry that is not empty,
-- in table order. Numbers are decimal, each line ends in a line feed, and a capture with no feature writes nothing.
--   line_runs, line_text   the line that says five numbers, as its words and numbers in their order, and as text; nothing where there are none
--   lines_below s t n     the lines of the first n entries of the table at t, in table order, each once
--   refused_runs, refused_text   the line of a refusal;   unreadable_text   the line of an unreadable input
--   said_text s a         what is written where the listing of the input s says a
--   text_of s             all that is written for the input s
--   longest              the bytes of 255 lines as long as a line can be
--   list_number xs        25 where the page xs is shorter than that, so that every listing fits
--   list_of xs s          that refusal, or how many bytes were written
--   page_left xs s        what the page holds then: the text at its start; as it was where it is refused
-- Assumes nothing.
use Rattle.std.specs.Prelude.{ℕ, zero, suc, ◌*◌, cond, List, [], ◌∷◌, ◌++◌, ltb, eqb, length, get_or}
use Rattle.words.specs.Answers.{Answer, refused, gives, unless, first}
use Rattle.text.specs.Page.{over, joined}
use Rattle.text.specs.Numerals.{numeral_of}
use Rattle.text.specs.Words.{line_feed, at_word}
use Rattle.list_lines.specs.Listing.{Said, unreadable, answers, listing_of, bar_in}
use Rattle.list_lines.specs.Line.{line_of}

-- ---- the words, in ASCII

-- `feature `
abbrev pub feature_word : List ℕ
feature_word = 102 ∷ 101 ∷ 97 ∷ 116 ∷ 117 ∷ 114 ∷ 101 ∷ 32 ∷ []

-- ` instances `
abbrev pub instances_word : List ℕ
instances_word = 32 ∷ 105 ∷ 110 ∷ 115 ∷ 116 ∷ 97 ∷ 110 ∷ 99 ∷ 101 ∷ 115 ∷ 32 ∷ []

-- ` valid `
abbrev pub valid_word : List ℕ
valid_word = 32 ∷ 118 ∷ 97 ∷ 108 ∷ 105 ∷ 100 ∷ 32 ∷ []

-- ` size `
abbrev pub size_word : List ℕ
size_word = 32 ∷ 115 ∷ 105 ∷ 122 ∷ 101 ∷ 32 ∷ []

-- `refused `
abbrev pub refused_word : List ℕ
refused_word = 114 ∷ 101 ∷ 102 ∷ 117 ∷ 115 ∷ 101 ∷ 100 ∷ 32 ∷ []

-- `unreadable` and a line feed
abbrev pub unreadable_text : List ℕ
unreadable_text = 117 ∷ 110 ∷ 114 ∷ 101 ∷ 97 ∷ 100 ∷ 97 ∷ 98 ∷ 108 ∷ 101 ∷ 10 ∷ []

-- ---- the lines

unfoldable pub line_runs : List ℕ → List (List ℕ)
line_runs [] = []
line_runs (id ∷ vs) =
    feature_word ∷ numeral_of 10 id ∷
    instances_word ∷ numeral_of 10 (get_or vs 0 0) ∷
    valid_word ∷ numeral_of 10 (get_or vs 1 0) ∷
    size_word ∷ numeral_of 10 (get_or vs 2 0) ∷
    at_word ∷ numeral_of 10 (get_or vs 3 0) ∷
    line_feed ∷ []

abbrev pub line_text : List ℕ → List ℕ
line_text vs = joined (line_runs vs)

unfoldable pub lines_below : List ℕ → ℕ → ℕ → List ℕ
lines_below s t zero = []
lines_below s t (suc k) = lines_below s t k ++ line_text (line_of s t k)

abbrev pub refused_runs : ℕ → List (List ℕ)
refused_runs n = refused_word ∷ numeral_of 10 n ∷ line_feed ∷ []

abbrev pub refused_text : ℕ → List ℕ
refused_text n = joined (refused_runs n)

-- an accepted table is told as BAR number, place, number of entries
abbrev pub said_text : List ℕ → Said → List ℕ
said_text s unreadable = unreadable_text
said_text s (answers (refused n)) = refused_text n
said_text s (answers (gives vs)) = lines_below (bar_in s (get_or vs 0 0)) (get_or vs 1 0) (get_or vs 2 0)

unfoldable pub text_of : List ℕ → List ℕ
text_of s = said_text s (listing_of s)

-- ---- on a lent page

-- a line has at most 62 bytes: its words and line feed 37, the numbers 3, 3, 3, 6 and 10
abbrev pub longest : ℕ
longest = 255 * 62

abbrev pub list_number : List ℕ → ℕ
list_number xs = first ((ltb (length xs) longest, 25) ∷ [])

unfoldable pub list_of : List ℕ → List ℕ → Answer
list_of xs s = unless (list_number xs) (gives (length (text_of s) ∷ []))

unfoldable pub page_left : List ℕ → List ℕ → List ℕ
page_left xs s = cond (eqb (list_number xs) 0) (over xs 0 (text_of s)) xs
