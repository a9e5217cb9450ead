-- The words of every lookup: what it answers, and which of its tests decides (document 01, "Refusal table").
--   Answer        a refusal's number, or the values
--   unless n a    a where the number n is 0, else the refusal n
--   number_in a    an answer's number, 0 where it gives values
--   value_in a k   an answer's k-th value, 0 where it has none
--   first ts      the number beside the first test that holds, 0 where none does
--   or_else a b    a, or b where a is 0
--   earliest ns   the first number that is not 0: stages in their order, each 0 where it passes
-- Assumes nothing.
use Rattle.std.specs.Prelude.{ℕ, zero, suc, Bool, cond, List, [], ◌∷◌, get_or}

pub data Answer : Type 0 where
  refused : ℕ → Answer
  gives : List ℕ → Answer

abbrev pub unless : ℕ → Answer → Answer
unless zero a = a
unless (suc n) a = refused (suc n)

abbrev pub number_in : Answer → ℕ
number_in (refused n) = n
number_in (gives xs) = 0

abbrev pub value_in : Answer → ℕ → ℕ
value_in (refused n) k = 0
value_in (gives xs) k = get_or xs k 0

unfoldable pub first : List (Bool × ℕ) → ℕ
first [] = 0
first (t ∷ ts) = cond t.0 t.1 (first ts)

unfoldable pub or_else : ℕ → ℕ → ℕ
or_else zero b = b
or_else (suc a) b = suc a

unfoldable pub earliest : List ℕ → ℕ
earliest [] = 0
earliest (n ∷ ns) = or_else n (earliest ns)
