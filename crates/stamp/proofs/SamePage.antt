-- Two pages that one call left of one page, with the same runs put on it, hold the same bytes and stand at the same place. Assumes nothing.
use Prim.Native.Nat.{ℕ}
use mathlib.Core.Path.{◌≡◌, sym, ap₂, ◌∙◌}
use mathlib.Core.List.{List}
use Rattle.text.specs.Page.{Wrote}
use Rattle.text.specs.declared.page.Page.{Page}
use Rattle.stamp.specs.Unique.{held_by}

pub same_page : {p q r : Page} {runs : List (List ℕ)} → Wrote p q runs → Wrote p r runs → held_by q ≡ held_by r
same_page a b = ap₂ (λ (xs : List ℕ) (k : ℕ). (xs, k)) (a.bytes ∙ sym b.bytes) (a.place ∙ sym b.place)
