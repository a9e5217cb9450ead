-- Codes and their order; the search for the first one long enough: its turns, its two ends, and the answers. Assumes nothing.
use Prim.Native.Nat.{ℕ, ◌+◌, ◌-◌, ◌*◌, ◌%◌, ◌^◌, ◌<◌, ◌≤◌}
use mathlib.Core.Path.{◌≡◌, refl, sym, ap, ap₂, ◌∙◌}
use mathlib.Core.List.{[], ◌∷◌}
use native.Mathlib.Nat.{mul-le-mul}
use native.Mathlib.Omega.{arith}
use borrow.Author.Tests.{lt-ltb, le-ltb, le-leb, lt-leb, eq-eqb, ne_eqb}
use lib.Dec.{leb}
use lib.Pow.{pow_mono, shl_exact}
use Rattle.words.specs.Answers.{refused, gives, unless}
use Rattle.words.specs.Below.{least}
use Rattle.fields.specs.Bits.{field}
use Rattle.fields.proofs.FieldLaws.{field_lt}
use Rattle.words.proofs.AnswerLaws.{first_skip, first_take, first_end}
use Rattle.words.proofs.BelowLaws.{least_here, least_turn, least_none}
use Rattle.rapl_windows.specs.Windows.{quarters_of, code_of, code_at, asked, long_enough, first_long, window_number, window_of}

-- ---- a code and its Y and X

pub x_lt : (code : ℕ) → field 5 2 code < 4
x_lt = field_lt 5 2

pub y_lt : (code : ℕ) → field 0 5 code < 32
y_lt = field_lt 0 5

pub quarters_is : (code : ℕ) → quarters_of code ≡ (4 + field 5 2 code) * 2 ^ field 0 5 code
unfolding quarters_of
quarters_is code = refl

-- whatever its bits, a code lasts at most 7 × 2^31 quarters
pub quarters_most : (code : ℕ) → quarters_of code ≤ 7 * 2 ^ 31
unfolding quarters_of
quarters_most code =
    let x : 4 + field 5 2 code ≤ 7 = omega (arith, x_lt code) in
    let y : field 0 5 code ≤ 31 = omega (arith, y_lt code) in
    mul-le-mul x (pow_mono y)

-- what is read as a field of two or of five bits, wherever it stands, is below 4 or 32; so 4 + X moved up by Y loses no bit
pub x_small : (p code : ℕ) {x : ℕ} → x ≡ field p 2 code → x < 4
x_small p code e = rw e (field_lt p 2 code)

pub y_small : (p code : ℕ) {y : ℕ} → y ≡ field p 5 code → y < 32
y_small p code e = rw e (field_lt p 5 code)

pub shifted : (x y : ℕ) → x < 4 → y < 32 → (4 + x) * 2 ^ y % 2 ^ 64 ≡ (4 + x) * 2 ^ y
shifted x y h l = shl_exact 3 y 64 (omega arith) (omega arith)

-- what the proof of `quarters` goes by
pub ruleset quarters_ways = (x_small, y_small, shifted)

module _ (y x : ℕ) (h : y < 32) (l : x < 4) where
  pub y_of : field 0 5 (code_of y x) ≡ y
  unfolding field
  y_of = omega arith

  pub x_of : field 5 2 (code_of y x) ≡ x
  unfolding field
  x_of = omega arith

  pub quarters_of_law : quarters_of (code_of y x) ≡ (4 + x) * 2 ^ y
  unfolding quarters_of
  quarters_of_law = ap₂ (λ (a b : ℕ). (4 + a) * 2 ^ b) x_of y_of

-- the code of Y and X is the one at place 4 Y + X of the order
pub code_at_law : (y x : ℕ) → x < 4 → code_at (y * 4 + x) ≡ code_of y x
code_at_law y x l = omega arith

-- ---- the search, from the k-th code on

module _ (ms unit : ℕ) where
  -- what is found from the k-th code on is what is found
  abbrev pub Onward : ℕ → Type 0
  Onward k = least (long_enough ms unit) (128 - k) k ≡ first_long ms unit

  pub begin : Onward (0 * 4)
  unfolding first_long
  begin = refl

  pub over : (y : ℕ) → y ≡ 32 → Onward (y * 4) → first_long ms unit ≡ 128
  over y e i = sym i ∙ ap (λ (k : ℕ). least (long_enough ms unit) (128 - k * 4) (k * 4)) e ∙ least_none (long_enough ms unit) 128

  module _ (y x : ℕ) (h : y < 32) (l : x < 4) (i : Onward (y * 4 + x)) where
    long_at : long_enough ms unit (y * 4 + x) ≡ leb (asked ms unit) (quarters_of (code_of y x) * 1000)
    unfolding long_enough
    long_at = ap (λ (c : ℕ). leb (asked ms unit) (quarters_of c * 1000)) (code_at_law y x l)

    pub too_short : quarters_of (code_of y x) * 1000 < asked ms unit → Onward (y * 4 + (x + 1))
    too_short s =
        let e : y * 4 + (x + 1) ≡ y * 4 + x + 1 = omega arith in
        rw e (least_turn (long_enough ms unit) 128 (y * 4 + x) (omega arith) (long_at ∙ lt-leb _ _ s) ∙ i)

    pub found : asked ms unit ≤ quarters_of (code_of y x) * 1000 → first_long ms unit ≡ y * 4 + x
    found g = sym i ∙ least_here (long_enough ms unit) (128 - (y * 4 + x)) (y * 4 + x) (omega arith) (long_at ∙ le-leb _ _ g)

  -- ---- the answers

  number_17 : 15 < unit → window_number ms unit ≡ 17
  unfolding window_number
  number_17 h = first_take _ _ (lt-ltb _ _ h)

  number_19 : unit ≤ 15 → first_long ms unit ≡ 128 → window_number ms unit ≡ 19
  unfolding window_number
  number_19 h e = first_skip _ _ (le-ltb _ _ h) ∙ first_take _ _ (eq-eqb _ _ e)

  number_0 : unit ≤ 15 → first_long ms unit < 128 → window_number ms unit ≡ 0
  unfolding window_number
  number_0 h l = first_skip _ _ (le-ltb _ _ h) ∙ first_skip _ _ (ne_eqb (first_long ms unit) 128 (λ q. omega arith)) ∙ first_end

  by_number : (n : ℕ) → window_number ms unit ≡ n → window_of ms unit ≡ unless n (gives (code_at (first_long ms unit) ∷ []))
  unfolding window_of
  by_number n e = ap (λ (m : ℕ). unless m (gives (code_at (first_long ms unit) ∷ []))) e

  pub answer_17 : 15 < unit → window_of ms unit ≡ refused 17
  answer_17 h = by_number 17 (number_17 h)

  pub answer_19 : unit ≤ 15 → first_long ms unit ≡ 128 → window_of ms unit ≡ refused 19
  answer_19 h e = by_number 19 (number_19 h e)

  pub answer_code : (y x : ℕ) → unit ≤ 15 → y < 32 → x < 4 → first_long ms unit ≡ y * 4 + x → window_of ms unit ≡ gives (code_of y x ∷ [])
  answer_code y x h k l e = by_number 0 (number_0 h (omega arith)) ∙ ap (λ (c : ℕ). gives (c ∷ [])) (ap code_at e ∙ code_at_law y x l)

  -- the code's way out, from the code at 4 Y + X
  pub answer_found : (y x : ℕ) → unit ≤ 15 → y < 32 → x < 4 → Onward (y * 4 + x) → asked ms unit ≤ quarters_of (code_of y x) * 1000
      → window_of ms unit ≡ gives (code_of y x ∷ [])
  answer_found y x h k l i g = answer_code y x h k l (found y x k l i g)

  pub answer_none : (y : ℕ) → unit ≤ 15 → y ≡ 32 → Onward (y * 4) → window_of ms unit ≡ refused 19
  answer_none y h e i = answer_19 h (over y e i)

-- a duration that was computed is small, whatever its code
pub quarters_small : (code : ℕ) {q : ℕ} → q ≡ quarters_of code → q ≤ 7 * 2 ^ 31
quarters_small code e = rw e (quarters_most code)

-- what the proof of `window_code` goes by
pub ruleset code_ways = (begin, quarters_small, too_short, answer_17, answer_found, answer_none)
