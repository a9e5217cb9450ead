-- What is proved of a body, for any table of widths. `BodyFact` is one theorem, to be read without its proof; proofs/Theorems.antt has the
-- proof, `body_fact`.
--   Fit ws vs   as many numbers as widths, and no number has more bytes than its width
-- Assumes nothing.
use Rattle.std.specs.Prelude.{ℕ, ◌+◌, ◌^◌, ◌≤◌, ◌<◌, ◌≡◌, List, [], ◌∷◌, ◌++◌, length, take, drop}
use Rattle.words.specs.Bytes.{AllBytes}
use Rattle.records_body.specs.Body.{size, extent, numbers_at, stored_numbers, body_of}

abbrev pub Fit : List ℕ → List ℕ → Type 0
Fit [] [] = Unit
Fit [] (v ∷ vs) = ⊥
Fit (w ∷ ws) [] = ⊥
Fit (w ∷ ws) (v ∷ vs) = (v < 256 ^ size w) × Fit ws vs

pub record BodyFact (ws vs xs : List ℕ) (at : ℕ) : Type 0 where
  -- Numbers stored are read back,
  pub read : Fit ws vs → at + extent ws ≤ length xs → numbers_at ws (stored_numbers ws vs xs at) at ≡ vs
  -- and numbers read and stored change nothing.
  pub same : AllBytes xs → stored_numbers ws (numbers_at ws xs at) xs at ≡ xs
  -- The length stays; what is stored is the body's bytes in their place, where they fit, and all else is as it was.
  pub as_long : length (stored_numbers ws vs xs at) ≡ length xs
  pub whole : length vs ≡ length ws → at + extent ws ≤ length xs → stored_numbers ws vs xs at ≡ take at xs ++ body_of ws vs ++ drop (at + extent ws) xs
  -- The body's bytes are bytes, and as many as the table says.
  pub many : length vs ≡ length ws → length (body_of ws vs) ≡ extent ws
  pub bytes : AllBytes (body_of ws vs)
  -- A body says the numbers that it was made of, wherever it stands,
  pub says : Fit ws vs → (ys : List ℕ) → numbers_at ws (xs ++ body_of ws vs ++ ys) (length xs) ≡ vs
  -- and the body of what bytes say is these bytes; the numbers that they say fit.
  pub back : AllBytes xs → at + extent ws ≤ length xs → body_of ws (numbers_at ws xs at) ≡ take (extent ws) (drop at xs)
  pub fits : AllBytes xs → Fit ws (numbers_at ws xs at)
