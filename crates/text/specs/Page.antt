-- Words put on a page, a lent list of bytes, from a place on. What does not fit is not written.
--   fits xs at ys    ys end inside the page xs
--   over xs at ys    the page with ys from place `at` on; the page itself where they do not fit
--   after xs at ys   the place after them; `at` itself where they do not fit
--   over_all, after_all    the same of runs of words, each where the one before it ended
--   joined yss           the runs as one
--   Wrote p q yss        the runs yss were put on the page p, which is q then: what it lends, the place, and that it lends the same
-- Assumes nothing.
use Rattle.std.specs.Prelude.{ℕ, ◌+◌, ◌≡◌, Bool, cond, List, [], ◌∷◌, ◌++◌, leb, length, take, drop}
use Rattle.text.specs.declared.page.Page.{Page}

abbrev pub fits : List ℕ → ℕ → List ℕ → Bool
fits xs at ys = leb (at + length ys) (length xs)

unfoldable pub over : List ℕ → ℕ → List ℕ → List ℕ
over xs at ys = cond (fits xs at ys) (take at xs ++ ys ++ drop (at + length ys) xs) xs

unfoldable pub after : List ℕ → ℕ → List ℕ → ℕ
after xs at ys = cond (fits xs at ys) (at + length ys) at

abbrev pub over_all : List ℕ → ℕ → List (List ℕ) → List ℕ
over_all xs at [] = xs
over_all xs at (ys ∷ yss) = over_all (over xs at ys) (after xs at ys) yss

abbrev pub after_all : List ℕ → ℕ → List (List ℕ) → ℕ
after_all xs at [] = at
after_all xs at (ys ∷ yss) = after_all (over xs at ys) (after xs at ys) yss

abbrev pub joined : List (List ℕ) → List ℕ
joined [] = []
joined (ys ∷ yss) = ys ++ joined yss

pub record Wrote (p q : Page) (yss : List (List ℕ)) : Type 0 where
  pub bytes : q.bytes.now ≡ over_all p.bytes.now p.at yss
  pub place : q.at ≡ after_all p.bytes.now p.at yss
  pub same : q.bytes.ghost_name ≡ p.bytes.ghost_name
