-- What is proved of words on a page and of numbers as text. Each record is one theorem, to be read without its proof; proofs/PageLaws.antt,
-- proofs/LinesLaws.antt and proofs/NumeralFact.antt have the proofs, under the same names with underscores.
-- Assumes nothing.
use Rattle.std.specs.Prelude.{ℕ, ◌+◌, ◌^◌, ◌≤◌, ◌<◌, ◌≡◌, ◌⊎◌, List, [], ◌∷◌, length, get_or, take}
use Rattle.text.specs.Page.{over, after, over_all, after_all, joined}
use Rattle.text.specs.Numerals.{glyph_of, places_of, numeral_of, read_as}

-- Where words fit they stand there, every other byte is as it was, and the place moves past them; where they do not, all is as it was.
-- A page is as long as before.
pub record PutFact (xs : List ℕ) (at : ℕ) (ys : List ℕ) : Type 0 where
  pub words : at + length ys ≤ length xs → (k : ℕ) → k < length ys → get_or (over xs at ys) (at + k) 0 ≡ get_or ys k 0
  pub others : (k : ℕ) → (k < at) ⊎ (at + length ys ≤ k) → get_or (over xs at ys) k 0 ≡ get_or xs k 0
  pub size : length (over xs at ys) ≡ length xs
  pub place : at + length ys ≤ length xs → after xs at ys ≡ at + length ys
  pub short : length xs < at + length ys → (over xs at ys ≡ xs) × (after xs at ys ≡ at)

-- Runs of words, each put where the one before it ended, are one text, where it fits.
pub record RunsFact (xs : List ℕ) (at : ℕ) (yss : List (List ℕ)) : Type 0 where
  pub words : at + length (joined yss) ≤ length xs → over_all xs at yss ≡ over xs at (joined yss)
  pub place : at + length (joined yss) ≤ length xs → after_all xs at yss ≡ at + length (joined yss)

-- A line of at most w bytes, put at the start of a page of w bytes or more: the place after it is its length, and what stands before that
-- place is the line, whole.
pub record LineFits (w : ℕ) (yss : List (List ℕ)) : Type 0 where
  pub fits : length (joined yss) ≤ w
  pub place : (xs : List ℕ) → w ≤ length xs → after_all xs 0 yss ≡ length (joined yss)
  pub shows : (xs : List ℕ) → w ≤ length xs → take (after_all xs 0 yss) (over_all xs 0 yss) ≡ joined yss

-- A number as text: it reads back as the number; every byte stands for a digit of the base; a zero stands in front of nothing but 0
-- itself; it has as many digits as the number takes, at least one, and at most k where the number is below b to the k. So two numbers
-- with one text are one.
pub record NumeralFact (b n : ℕ) : Type 0 where
  pub reads : read_as b (numeral_of b n) ≡ n
  pub of_the_base : (k : ℕ) → k < length (numeral_of b n) → (d : ℕ) × (d < b) × (get_or (numeral_of b n) k 0 ≡ glyph_of d)
  pub no_zero_in_front : get_or (numeral_of b n) 0 0 ≡ glyph_of 0 → n ≡ 0
  pub zero_itself : n ≡ 0 → numeral_of b n ≡ glyph_of 0 ∷ []
  pub as_many : length (numeral_of b n) ≡ places_of b n
  pub some : 1 ≤ length (numeral_of b n)
  pub at_most : (k : ℕ) → 1 ≤ k → n < b ^ k → length (numeral_of b n) ≤ k
  pub once : (m : ℕ) → m < 2 ^ 64 → numeral_of b m ≡ numeral_of b n → m ≡ n

-- That of every number of 64 bits, in every base from 2 to 16.
abbrev pub NumeralFacts : Type 0
NumeralFacts = (b n : ℕ) → 1 < b → b ≤ 16 → n < 2 ^ 64 → NumeralFact b n
