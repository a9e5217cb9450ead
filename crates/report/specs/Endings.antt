-- What an answer says at the end of a line (document 01's refusal numbers, values and places), as runs of words and numbers in their order.
--   refusal_runs n        `: refused ` and the number
--   outcome_runs n        `: taken` for 0, else the refusal
--   value_runs a          `: ` and an answer's one value in decimal, or the refusal
--   content_runs a        `: 0x` and the value in hexadecimal, or the refusal
--   place_runs a          BAR number, start, pieces and bytes of a piece, or the refusal
-- Assumes nothing.
use Rattle.std.specs.Prelude.{ℕ, cond, List, [], ◌∷◌, eqb, get_or}
use Rattle.words.specs.Answers.{Answer, refused, gives}
use Rattle.text.specs.Numerals.{numeral_of}
use Rattle.text.specs.Words.{line_feed, at_word}

-- ---- the words, in ASCII

-- `: refused `
abbrev pub colon_refused : List ℕ
colon_refused = 58 ∷ 32 ∷ 114 ∷ 101 ∷ 102 ∷ 117 ∷ 115 ∷ 101 ∷ 100 ∷ 32 ∷ []

-- `: taken` and a line feed
abbrev pub taken_text : List ℕ
taken_text = 58 ∷ 32 ∷ 116 ∷ 97 ∷ 107 ∷ 101 ∷ 110 ∷ 10 ∷ []

-- `: `
abbrev pub colon_word : List ℕ
colon_word = 58 ∷ 32 ∷ []

-- `: 0x`
abbrev pub hex_word : List ℕ
hex_word = 58 ∷ 32 ∷ 48 ∷ 120 ∷ []

-- `: BAR `
abbrev pub bar_word : List ℕ
bar_word = 58 ∷ 32 ∷ 66 ∷ 65 ∷ 82 ∷ 32 ∷ []

-- `, `
abbrev pub comma_word : List ℕ
comma_word = 44 ∷ 32 ∷ []

-- ` of `
abbrev pub of_word : List ℕ
of_word = 32 ∷ 111 ∷ 102 ∷ 32 ∷ []

-- ` bytes` and a line feed
abbrev pub bytes_text : List ℕ
bytes_text = 32 ∷ 98 ∷ 121 ∷ 116 ∷ 101 ∷ 115 ∷ 10 ∷ []

-- ---- the answers

abbrev pub refusal_runs : ℕ → List (List ℕ)
refusal_runs n = colon_refused ∷ numeral_of 10 n ∷ line_feed ∷ []

abbrev pub outcome_runs : ℕ → List (List ℕ)
outcome_runs n = cond (eqb n 0) (taken_text ∷ []) (refusal_runs n)

abbrev pub value_runs : Answer → List (List ℕ)
value_runs (refused n) = refusal_runs n
value_runs (gives vs) = colon_word ∷ numeral_of 10 (get_or vs 0 0) ∷ line_feed ∷ []

abbrev pub content_runs : Answer → List (List ℕ)
content_runs (refused n) = refusal_runs n
content_runs (gives vs) = hex_word ∷ numeral_of 16 (get_or vs 0 0) ∷ line_feed ∷ []

-- a place is told as BAR number, start, bytes of a piece, pieces
abbrev pub place_runs : Answer → List (List ℕ)
place_runs (refused n) = refusal_runs n
place_runs (gives vs) =
    bar_word ∷ numeral_of 10 (get_or vs 0 0) ∷
    at_word ∷ numeral_of 10 (get_or vs 1 0) ∷
    comma_word ∷ numeral_of 10 (get_or vs 3 0) ∷
    of_word ∷ numeral_of 10 (get_or vs 2 0) ∷
    bytes_text ∷ []
