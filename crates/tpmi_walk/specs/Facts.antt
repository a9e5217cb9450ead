-- What is proved of the walk, for every configuration space. To be read without its proof, which is in proofs/WalkFact.antt.
-- Assumes nothing.
use Rattle.std.specs.Prelude.{ℕ, suc, ◌%◌, ◌≤◌, ◌<◌, ◌≡◌, ◌⊎◌, ◌↔◌, ◌≢◌, List, [], ◌∷◌}
use Rattle.words.specs.Answers.{Answer, refused, gives}
use Rattle.words.specs.Bytes.{number_at}
use Rattle.tpmi_structure.specs.Structure.{vsec_at}
use Rattle.tpmi_walk.specs.Walk.{identifier_at, next_at, vsec_id_at, walk_of}
use Rattle.tpmi_structure.specs.Facts.{Fixed}

-- the first word is neither all zeros nor all ones
abbrev pub Begun : List ℕ → Type 0
Begun s = (number_at s 0x100 4 ≢ 0) × (number_at s 0x100 4 ≢ 0xFFFFFFFF)

-- a header that the walk looks past: no vendor-specific one, or one whose VSEC_ID is there and is not 0x42
abbrev pub Passed : List ℕ → ℕ → Type 0
Passed s a = (identifier_at s a ≢ 0x000B) ⊎ ((a ≤ 4088) × (vsec_id_at s a ≢ 0x42))

-- a next offset that can be followed
abbrev pub Followable : ℕ → Type 0
Followable n = (0x100 ≤ n) × (n % 4 ≡ 0)

-- the header at place a is the n-th after the first: the walk looks past each one before it, and follows its next offset
pub data Reached (s : List ℕ) : ℕ → ℕ → Type 0 where
  here : Reached s 0 0x100
  on : {n a : ℕ} → Reached s n a → Passed s a → Followable (next_at s a) → Reached s (suc n) (next_at s a)

-- a TPMI header
abbrev pub Tpmi : List ℕ → ℕ → Type 0
Tpmi s a = (identifier_at s a ≡ 0x000B) × (a ≤ 4088) × (vsec_id_at s a ≡ 0x42)

-- how a walk can end, and with which answer
pub data Ends (s : List ℕ) : Answer → Type 0 where
  -- the list is empty
  empty : (Begun s → ⊥) → Ends s (refused 3)
  -- the list ends at a header with next offset 0
  ended : {n a : ℕ} → Begun s → Reached s n a → n < 960 → Passed s a → next_at s a ≡ 0 → Ends s (refused 3)
  -- a next offset can't be followed
  malformed : {n a : ℕ} → Begun s → Reached s n a → n < 960 → Passed s a → next_at s a ≢ 0 → (Followable (next_at s a) → ⊥) → Ends s (refused 4)
  -- a 961st header
  endless : {a : ℕ} → Begun s → Reached s 960 a → Ends s (refused 4)
  -- a vendor-specific header whose VSEC_ID lies past the end
  cut : {n a : ℕ} → Begun s → Reached s n a → n < 960 → identifier_at s a ≡ 0x000B → 4088 < a → Ends s (refused 5)
  -- a TPMI header whose structure runs past the end
  over : {n a : ℕ} → Begun s → Reached s n a → n < 960 → Tpmi s a → 4080 < a → Ends s (refused 5)
  -- one with a wrong fixed field
  wrong : {n a : ℕ} → Begun s → Reached s n a → n < 960 → Tpmi s a → a ≤ 4080 → (Fixed (vsec_at s a) → ⊥) → Ends s (refused 5)
  -- the first TPMI header, sound
  taken : {n a : ℕ} → Begun s → Reached s n a → n < 960 → Tpmi s a → a ≤ 4080 → Fixed (vsec_at s a) → Ends s (gives (a ∷ []))

-- The walk's answer is a exactly if the list ends so.
abbrev pub WalkFact : List ℕ → Answer → Type 0
WalkFact s a = (walk_of s ≡ a) ↔ Ends s a
