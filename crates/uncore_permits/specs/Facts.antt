-- What is proved of the write of one field of a register, for every number and content. Each is to be read without its proof, which stands in
-- proofs/WordFact.antt under the same name with underscores.
-- Assumes nothing.
use Rattle.std.specs.Prelude.{ℕ, ◌+◌, ◌^◌, ◌≤◌, ◌<◌, ◌≡◌, [], ◌∷◌, ◌⊎◌, ◌↔◌, ◌≢◌, length}
use Rattle.words.specs.Answers.{refused, gives}
use Rattle.fields.specs.Bits.{field, bit}
use Rattle.uncore_controls.specs.Control.{control_of}
use Rattle.uncore_controls.specs.Advanced1.{advanced1_of}
use Rattle.uncore_controls.specs.Advanced2.{advanced2_of}
use Rattle.uncore_permits.specs.ControlFields.{fields_of, lowest_of, width_of, next_word, word_of}

-- the register has a field of that number that can be written
abbrev pub Writable : ℕ → ℕ → Type 0
Writable r which = which < length (fields_of r)

-- MAX_RATIO or MIN_RATIO of control
abbrev pub ARatio : ℕ → ℕ → Type 0
ARatio r which = (r ≡ 3) × ((which ≡ 1) ⊎ (which ≡ 2))

-- of a control register's content the minimum is at most the maximum
abbrev pub Ordered : ℕ → Type 0
Ordered y = (control_of y).minimum ≤ (control_of y).maximum

-- Complete and first wins, in the order 27, 17, 28: each number exactly on its condition and none tested before it, and the next content
-- exactly where none is.
pub record WordFact (r which x value : ℕ) : Type 0 where
  pub unwritable : (word_of r which x value ≡ refused 27) ↔ (Writable r which → ⊥)
  pub wide : (word_of r which x value ≡ refused 17) ↔ (Writable r which × (2 ^ width_of r which ≤ value))
  pub crossed : (word_of r which x value ≡ refused 28) ↔ (Writable r which × (value < 2 ^ width_of r which) × ARatio r which × (Ordered (next_word r which x value) → ⊥))
  pub content : (y : ℕ) → (word_of r which x value ≡ gives (y ∷ []))
      ↔ (Writable r which × (value < 2 ^ width_of r which) × (ARatio r which → Ordered (next_word r which x value)) × (next_word r which x value ≡ y))

-- No field of any other register than the three can be written: header, offsets and status are read alone.
abbrev pub ReadAlone : ℕ → ℕ → Type 0
ReadAlone r which = r ≢ 3 → r ≢ 4 → r ≢ 5 → Writable r which → ⊥

-- What a content that is given holds: the field its number, every other bit as it was, no more than 64 bits; after a write of a ratio the pair
-- is in order; and a write of any field of control leaves a pair in order that was.
pub record WrittenFact (r which x value y : ℕ) : Type 0 where
  pub reads : field (lowest_of r which) (width_of r which) y ≡ value
  pub bits : (k : ℕ) → (k < lowest_of r which) ⊎ (lowest_of r which + width_of r which ≤ k) → bit k y ≡ bit k x
  pub stays : x < 2 ^ 64 → y < 2 ^ 64
  pub ordered : ARatio r which → Ordered y
  pub kept : r ≡ 3 → Ordered x → Ordered y

abbrev pub Written : ℕ → ℕ → ℕ → ℕ → Type 0
Written r which x value = (y : ℕ) → word_of r which x value ≡ gives (y ∷ []) → WrittenFact r which x value y

-- The fields by number are those of the registers as values, by name.
pub record NamedFields (x : ℕ) : Type 0 where
  pub mode : field (lowest_of 3 0) (width_of 3 0) x ≡ (control_of x).mode
  pub maximum : field (lowest_of 3 1) (width_of 3 1) x ≡ (control_of x).maximum
  pub minimum : field (lowest_of 3 2) (width_of 3 2) x ≡ (control_of x).minimum
  pub floor : field (lowest_of 3 3) (width_of 3 3) x ≡ (control_of x).floor
  pub threshold : field (lowest_of 3 4) (width_of 3 4) x ≡ (control_of x).threshold
  pub slope1 : field (lowest_of 4 0) (width_of 4 0) x ≡ (advanced1_of x).slope
  pub base1 : field (lowest_of 4 1) (width_of 4 1) x ≡ (advanced1_of x).base
  pub slope2 : field (lowest_of 5 0) (width_of 5 0) x ≡ (advanced2_of x).slope
  pub base2 : field (lowest_of 5 1) (width_of 5 1) x ≡ (advanced2_of x).base
  pub utilization : field (lowest_of 5 2) (width_of 5 2) x ≡ (advanced2_of x).utilization
  pub bandwidth : field (lowest_of 5 3) (width_of 5 3) x ≡ (advanced2_of x).bandwidth
