-- A number as a table of fields that follow one another from place p up; ws are their widths, the lowest field first, reserved
-- fields among them. Every structure and register of the documents is such a table.
--   fields p ws x          what each field holds
--   with_fields p ws x vs   x with the value of vs in each field
--   total ws               the bits that the table takes
--   Fit ws vs              a value for each field, each below 2 to its width
--   wider ws vs            some value does not fit its field
--   misfit ws vs           they make no word: not a value for each field, one that does not fit its field, or more than 64 bits
--   written_unless          what a part holds once a structure of n bytes was written to it: as it was where the number is not 0
--   written_word ws vs      what writing the values to a register of 64 bits answers: 17 where they do not fit it, else the content
-- Assumes nothing.
use Rattle.std.specs.Prelude.{ℕ, ◌+◌, ◌^◌, ◌<◌, Bool, false, cond, not, ◌||◌, List, [], ◌∷◌, ltb, leb, eqb, length}
use Rattle.words.specs.Answers.{Answer, gives, first, unless}
use Rattle.words.specs.Bytes.{stored}
use Rattle.fields.specs.Bits.{field, with_field}

unfoldable pub fields : ℕ → List ℕ → ℕ → List ℕ
fields p [] x = []
fields p (w ∷ ws) x = field p w x ∷ fields (p + w) ws x

unfoldable pub with_fields : ℕ → List ℕ → ℕ → List ℕ → ℕ
with_fields p [] x vs = x
with_fields p (w ∷ ws) x [] = x
with_fields p (w ∷ ws) x (v ∷ vs) = with_fields (p + w) ws (with_field p w x v) vs

abbrev pub total : List ℕ → ℕ
total [] = 0
total (w ∷ ws) = w + total ws

abbrev pub Fit : List ℕ → List ℕ → Type 0
Fit [] [] = Unit
Fit [] (v ∷ vs) = ⊥
Fit (w ∷ ws) [] = ⊥
Fit (w ∷ ws) (v ∷ vs) = (v < 2 ^ w) × Fit ws vs

unfoldable pub wider : List ℕ → List ℕ → Bool
wider [] vs = false
wider (w ∷ ws) [] = false
wider (w ∷ ws) (v ∷ vs) = leb (2 ^ w) v || wider ws vs

unfoldable pub misfit : List ℕ → List ℕ → Bool
misfit ws vs = not (eqb (length ws) (length vs)) || (ltb 64 (total ws) || wider ws vs)

abbrev pub written_unless : ℕ → ℕ → List ℕ → List ℕ → List ℕ → List ℕ
written_unless number n ws vs s = cond (eqb number 0) (stored s 0 n (with_fields 0 ws 0 vs)) s

-- 17 is document 01's "a number outside its range"
unfoldable pub written_word : List ℕ → List ℕ → Answer
written_word ws vs = unless (first ((misfit ws vs, 17) ∷ [])) (gives (with_fields 0 ws 0 vs ∷ []))
