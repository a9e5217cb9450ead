-- Searches over the numbers below n: entries of a table, domains of an instance, codes of a window.
--   any_below p n     some number below n passes the test p
--   first_below f n   the first fault f k that is not 0, over k from 0 up to n; 0 where there is none
--   least p n k      of the n numbers from k on the first that passes; k + n where none does
-- Assumes nothing.
use Rattle.std.specs.Prelude.{ℕ, zero, suc, Bool, true, false, ◌||◌}
use Rattle.words.specs.Answers.{or_else}

unfoldable pub any_below : (ℕ → Bool) → ℕ → Bool
any_below p zero = false
any_below p (suc n) = any_below p n || p n

unfoldable pub first_below : (ℕ → ℕ) → ℕ → ℕ
first_below f zero = 0
first_below f (suc n) = or_else (first_below f n) (f n)

-- k itself, or what the search from the next number on gives: handed over as a function, so that it is not run where k passes
abbrev pub or_on : Bool → ℕ → (ℕ → ℕ) → ℕ
or_on true k go = k
or_on false k go = go (suc k)

unfoldable pub least : (ℕ → Bool) → ℕ → ℕ → ℕ
least p zero k = k
least p (suc n) k = or_on (p k) k (least p n)
