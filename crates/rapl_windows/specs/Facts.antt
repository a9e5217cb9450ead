-- What is proved of window codes, for every number. Each is to be read without its proof; proofs/Order.antt (the order of codes)
-- and proofs/Theorems.antt (all others) have a proof of each, under the same name with underscores.
-- Assumes nothing.
use Rattle.std.specs.Prelude.{ℕ, ◌+◌, ◌*◌, ◌%◌, ◌^◌, ◌≤◌, ◌<◌, ◌≡◌, ◌⊎◌, ◌↔◌, ◌≢◌, [], ◌∷◌}
use Rattle.words.specs.Answers.{refused, gives}
use Rattle.fields.specs.Bits.{field}
use Rattle.rapl_windows.specs.Windows.{quarters_of, code_of, window_of}
use Rattle.rapl_units.specs.Units.{units_of}

-- ---- codes and how long they last

-- Y and X of a code
abbrev pub Ranged : ℕ → ℕ → Type 0
Ranged y x = (y < 32) × (x < 4)

-- The code of Y and X: seven bits, in which Y and X stand where document 01 has them, and its duration in document 01's words.
pub record CodeFact (y x : ℕ) : Type 0 where
  pub seven : Ranged y x → code_of y x < 128
  pub is_y : Ranged y x → field 0 5 (code_of y x) ≡ y
  pub is_x : Ranged y x → field 5 2 (code_of y x) ≡ x
  pub lasts : Ranged y x → quarters_of (code_of y x) ≡ (4 + x) * 2 ^ y

-- Any number as a code: it has a Y and an X, one below 128 is the code of these, bits above the seven do not count, and it lasts at most
-- 7 × 2^31 quarters.
pub record AnyCode (code : ℕ) : Type 0 where
  pub ranged : Ranged (field 0 5 code) (field 5 2 code)
  pub whole : code < 128 → code_of (field 0 5 code) (field 5 2 code) ≡ code
  pub low : quarters_of (code % 128) ≡ quarters_of code
  pub most : quarters_of code ≤ 7 * 2 ^ 31

-- Y and X stand before Y' and X' in the order: Y rising and X rising inside it
abbrev pub Before : ℕ → ℕ → ℕ → ℕ → Type 0
Before y x y' x' = (y < y') ⊎ ((y ≡ y') × (x < x'))

-- A code stands before another exactly if it lasts less: along the order durations strictly rise. (Along the codes as numbers they do
-- not: 0x20 lasts less than 0x01.)
abbrev pub Rising : ℕ → ℕ → ℕ → ℕ → Type 0
Rising y x y' x' = Ranged y x → Ranged y' x' → Before y x y' x' ↔ (quarters_of (code_of y x) < quarters_of (code_of y' x'))

-- Two codes that last equally long are one.
abbrev pub LastsOnce : ℕ → ℕ → Type 0
LastsOnce a b = a < 128 → b < 128 → quarters_of a ≡ quarters_of b → a ≡ b

-- ---- the window code of ms milliseconds at the time unit `unit`

-- q quarters of a time unit are at least ms milliseconds: q / (4 × 2^unit) s are at least ms / 1,000 s
abbrev pub Enough : ℕ → ℕ → ℕ → Type 0
Enough ms unit q = ms * 4 * 2 ^ unit ≤ q * 1000

-- a code is that of a Y and X, it is long enough, and none before it in the order is
pub record IsFirst (ms unit code : ℕ) : Type 0 where
  pub y : ℕ
  pub x : ℕ
  pub ranged : Ranged y x
  pub is : code ≡ code_of y x
  pub long : Enough ms unit ((4 + x) * 2 ^ y)
  pub others : (y' x' : ℕ) → Ranged y' x' → Before y' x' y x → Enough ms unit ((4 + x') * 2 ^ y') → ⊥

-- a code is long enough, and none that is long enough lasts less
pub record IsShortest (ms unit code : ℕ) : Type 0 where
  pub seven : code < 128
  pub long : Enough ms unit (quarters_of code)
  pub others : (other : ℕ) → Enough ms unit (quarters_of other) → quarters_of code ≤ quarters_of other

-- no code is long enough
abbrev pub NoneLong : ℕ → ℕ → Type 0
NoneLong ms unit = (y x : ℕ) → Ranged y x → Enough ms unit ((4 + x) * 2 ^ y) → ⊥

-- Each refusal exactly on its condition and none tested before it; the code given is the first one long enough, and that is the
-- shortest one long enough; one of the three always comes.
pub record WindowFact (ms unit : ℕ) : Type 0 where
  pub seventeen : (window_of ms unit ≡ refused 17) ↔ (15 < unit)
  pub nineteen : (window_of ms unit ≡ refused 19) ↔ ((unit ≤ 15) × NoneLong ms unit)
  pub is_first : (code : ℕ) → (window_of ms unit ≡ gives (code ∷ [])) ↔ ((unit ≤ 15) × IsFirst ms unit code)
  pub is_shortest : (code : ℕ) → (window_of ms unit ≡ gives (code ∷ [])) ↔ ((unit ≤ 15) × IsShortest ms unit code)
  pub complete : (window_of ms unit ≡ refused 17) ⊎ ((window_of ms unit ≡ refused 19) ⊎ ((code : ℕ) × (window_of ms unit ≡ gives (code ∷ []))))

-- A time unit that was read is in its range.
abbrev pub TimeRead : ℕ → Type 0
TimeRead x = (ms : ℕ) → window_of ms (units_of x).time ≢ refused 17
