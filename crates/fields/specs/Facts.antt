-- What is proved of fields, of tables of widths and of masks, for every number and every list. Each record is one theorem, to be read without
-- its proof; proofs/Theorems.antt has a proof of each, under the same name with underscores (ValueTrips, WordTrips: proofs/Structures.antt).
-- Assumes nothing.
use Rattle.std.specs.Prelude.{ℕ, ◌+◌, ◌*◌, ◌%◌, ◌^◌, ◌≤◌, ◌<◌, ◌≡◌, ◌⊎◌, ◌↔◌, ◌≢◌, Bool, false, List, [], ◌∷◌, ◌++◌, length, get_or}
use Rattle.std.specs.Int.Count.{ones}
use Rattle.words.specs.Bytes.{AllBytes, number_at, stored}
use Rattle.fields.specs.Bits.{field, with_field, bit}
use Rattle.fields.specs.Tables.{fields, with_fields, total, Fit, wider, misfit, written_word}
use Rattle.words.specs.Answers.{refused, gives}
use Rattle.fields.specs.Masks.{one, how_many, mask_of, is_set}

-- ---- fields of a number

-- The field fact, at every place and width: what is read after a write is what was written, bit by bit too; every other bit is as
-- it was; writing what was read changes nothing; the last write wins; a number of n bits stays one.
pub record FieldFact (p w x v : ℕ) : Type 0 where
  pub read : field p w (with_field p w x v) ≡ v % 2 ^ w
  pub bits : (k : ℕ) → k < w → bit (p + k) (with_field p w x v) ≡ bit k v
  pub others : (k : ℕ) → (k < p) ⊎ (p + w ≤ k) → bit k (with_field p w x v) ≡ bit k x
  pub same : with_field p w x (field p w x) ≡ x
  pub last : (u : ℕ) → with_field p w (with_field p w x u) v ≡ with_field p w x v
  pub stays : (n : ℕ) → p + w ≤ n → x < 2 ^ n → with_field p w x v < 2 ^ n

-- Any field q u beside the written one: a field is below 2 to its width; inside, below and above what was written.
pub record BesideFact (p w x v q u : ℕ) : Type 0 where
  pub narrow : field q u x < 2 ^ u
  pub inside : q + u ≤ w → field (p + q) u (with_field p w x v) ≡ field q u v
  pub below : q + u ≤ p → field q u (with_field p w x v) ≡ field q u x
  pub above : p + w ≤ q → field q u (with_field p w x v) ≡ field q u x

-- Two numbers of n bits with the same bits are equal.
abbrev pub SameBitsFact : ℕ → ℕ → ℕ → Type 0
SameBitsFact n x y = x < 2 ^ n → y < 2 ^ n → ((k : ℕ) → k < n → bit k x ≡ bit k y) → x ≡ y

-- ---- structures: tables of widths

-- A structure of n bytes whose widths take all of their bits, whatever number y of n bytes the fields are written into:
-- read and written back it is the same bytes; written and read back it is the same values, bytes outside as they were; what was
-- read at one place and is written at another is the same bytes there.
pub record RoundTrips (ws : List ℕ) (n : ℕ) (xs : List ℕ) (at y : ℕ) : Type 0 where
  pub back : AllBytes xs → stored xs at n (with_fields 0 ws y (fields 0 ws (number_at xs at n))) ≡ xs
  pub kept : (vs : List ℕ) → Fit ws vs → at + n ≤ length xs → fields 0 ws (number_at (stored xs at n (with_fields 0 ws y vs)) at n) ≡ vs
  pub outside : (vs : List ℕ) (k : ℕ) → (k < at) ⊎ (at + n ≤ k) → get_or (stored xs at n (with_fields 0 ws y vs)) k 0 ≡ get_or xs k 0
  pub carried : AllBytes xs → (zs : List ℕ) (to : ℕ) → to + n ≤ length zs
      → (k : ℕ) → k < n → get_or (stored zs to n (with_fields 0 ws y (fields 0 ws (number_at xs at n)))) (to + k) 0 ≡ get_or xs (at + k) 0

-- The test of widths decides `Fit`, for as many values as fields.
abbrev pub WiderFact : List ℕ → List ℕ → Type 0
WiderFact ws vs = length ws ≡ length vs → (wider ws vs ≡ false) ↔ Fit ws vs

-- Values make a word exactly where there is one for each field, each fits, and the table takes no more than 64 bits.
abbrev pub MisfitFact : List ℕ → List ℕ → Type 0
MisfitFact ws vs = (misfit ws vs ≡ false) ↔ (Fit ws vs × (total ws ≤ 64))

-- The same of a structure as a value of the code: `read` makes the value of a part's first n bytes, `number` says what writing a value
-- answers, and `written` what the part then holds. What is read and written back, here or to another part, is the same bits; what is
-- written and read back is the same value; bytes past the structure stay, and a refused write changes nothing.
pub record ValueTrips {S : Type 0} (n : ℕ) (read : List ℕ → S) (number : List ℕ → S → ℕ) (written : List ℕ → S → List ℕ) (s : List ℕ) : Type 0 where
  pub back : AllBytes s → written s (read s) ≡ s
  pub carried : AllBytes s → (z : List ℕ) → number z (read s) ≡ 0 → (k : ℕ) → k < n → get_or (written z (read s)) k 0 ≡ get_or s k 0
  pub kept : (v : S) → number s v ≡ 0 → read (written s v) ≡ v
  pub past : (v : S) (k : ℕ) → n ≤ k → get_or (written s v) k 0 ≡ get_or s k 0
  pub refused_kept : (v : S) → number s v ≢ 0 → written s v ≡ s

-- A register as a value of the code, its table ws, of at most 64 bits: `values` are a value's numbers in the order of the table, `read`
-- makes the value that a content holds. Writing: 17 exactly if a number does not fit its field; a content is given exactly if it has no
-- more bits than the table and reads as this value; one of the two always comes. So a register read and written back is the same bits,
-- reserved ones too, and a value written and read back is the same.
pub record WordTrips {S : Type 0} (ws : List ℕ) (values : S → List ℕ) (read : ℕ → S) (v : S) : Type 0 where
  pub seventeen : (written_word ws (values v) ≡ refused 17) ↔ (Fit ws (values v) → ⊥)
  pub content : (x : ℕ) → (written_word ws (values v) ≡ gives (x ∷ [])) ↔ ((x < 2 ^ total ws) × (read x ≡ v))
  pub complete : (written_word ws (values v) ≡ refused 17) ⊎ ((x : ℕ) × (written_word ws (values v) ≡ gives (x ∷ [])))

-- Two words side by side, x of the widths ws below and y of the widths us above: their fields are those of the one and then those
-- of the other, read and written.
pub record SideBySide (ws us : List ℕ) (x y : ℕ) : Type 0 where
  pub read : fields 0 (ws ++ us) (y * 2 ^ total ws + x) ≡ fields 0 ws x ++ fields 0 us y
  pub written : (vs ts : List ℕ) → Fit ws vs
      → with_fields 0 (ws ++ us) (y * 2 ^ total ws + x) (vs ++ ts) ≡ with_fields 0 us y ts * 2 ^ total ws + with_fields 0 ws x vs

-- ---- masks

-- The mask of a test has bit k exactly where k passes and no other, and as many ones as numbers pass.
pub record MaskFact (p : ℕ → Bool) (n : ℕ) : Type 0 where
  pub bits : (k : ℕ) → k < n → bit k (mask_of p n) ≡ one (p k)
  pub below : mask_of p n < 2 ^ n
  pub count : ones (mask_of p n) ≡ how_many p n

-- A number of n bits is the mask of its own bits; so the ones that a machine counts in it are as many as its bits that are 1.
pub record OnesFact (x n : ℕ) : Type 0 where
  pub whole : x < 2 ^ n → mask_of (is_set x) n ≡ x
  pub count : x < 2 ^ n → ones x ≡ how_many (is_set x) n
