-- What is proved of the lines: which names a line of reasons has, how long each line can be, and that a page so long shows it whole
-- (`LineFits` of the crate text). Each is to be read without its proof; proofs/NameLaws.antt has those of the first two, proofs/LineFits.antt
-- the others, under the same names with underscores.
-- Assumes nothing.
use Rattle.std.specs.Prelude.{ℕ, ◌+◌, ◌^◌, ◌≤◌, ◌<◌, ◌≡◌, true, false, List, [], ◌∷◌, ◌++◌, ◌↔◌, length, get_or}
use Rattle.fields.specs.Masks.{is_set}
use Rattle.text.specs.Facts.{LineFits}
use Rattle.reasons_mailbox.specs.declared.mailbox.Reply.{Reply}
use Rattle.reasons_mailbox.specs.declared.mailbox.Reply.TheVariants.{Waits, Store, StoreBoth, Read, Written, Refused, Nothing}
use Rattle.reasons_lines.specs.ReasonLines.{reserved_text, names, names_below, end_text, reasons_runs, exchange_runs, test_runs}

-- The names go by bit, from bit 0 up and each once: a bit that is set adds its name, every other nothing.
pub record NamesFact (x k : ℕ) : Type 0 where
  pub starts : names_below x 0 ≡ []
  pub there : is_set x k ≡ true → names_below x (k + 1) ≡ names_below x k ++ get_or names k [] ∷ []
  pub clear : is_set x k ≡ false → names_below x (k + 1) ≡ names_below x k

-- Behind them stands `RESERVED` exactly where one of the 64 bits is set that has no name: none is left out unsaid.
abbrev pub ReservedFact : ℕ → Type 0
ReservedFact x = (end_text x ≡ reserved_text) ↔ ((k : ℕ) × (10 ≤ k) × (k < 64) × (is_set x k ≡ true))

-- A line of reasons has at most 88 bytes behind a label of at most 16: the ten names 62, ` RESERVED` and the line feed 10.
abbrev pub ReasonsLineFact : Type 0
ReasonsLineFact = (ws : List ℕ) (x : ℕ) → length ws ≤ 16 → LineFits 88 (reasons_runs ws x)

-- The line of an exchange has at most 145: its words and line feed 46, four decimal numbers 20 each, the data 16, the refusal 3.
abbrev pub ExchangeLineFact : Type 0
ExchangeLineFact =
    (c d i r k n : ℕ) → c < 2 ^ 64 → d < 2 ^ 64 → i < 2 ^ 64 → r < 2 ^ 64 → k < 2 ^ 64 → n < 2 ^ 8
    → LineFits 145 (exchange_runs c d i r k n)

-- A reply as the code has it: words of 64 bits, a refusal's number of 8.
abbrev pub Sized : Reply → Type 0
Sized Waits = Unit {0}
Sized (Store w) = w < 2 ^ 64
Sized (StoreBoth d w) = (d < 2 ^ 64) × (w < 2 ^ 64)
Sized (Read d) = d < 2 ^ 64
Sized Written = Unit {0}
Sized (Refused n) = n < 2 ^ 8
Sized Nothing = Unit {0}

-- The line of a test has at most 140: its words and line feed 56, the test's number 20, and 16 for each of the two values that were read
-- and of the two that a write's start stores.
abbrev pub TestLineFact : Type 0
TestLineFact = (n x d : ℕ) (r : Reply) → n < 2 ^ 64 → x < 2 ^ 64 → d < 2 ^ 64 → Sized r → LineFits 140 (test_runs n x d r)
