-- `text::page::Page::numeral` meets its contract. The invariant: the digits from place i on stand on the page, what is left is the number above
-- them, and the page lends what it lent. Assumes nothing.
use mathlib.Core.Path.{◌≡◌}
use Prim.Native.Nat.{◌-◌, ◌/◌, ◌^◌, ◌≤◌}
use Rattle.text.proofs.NumeralLaws.{digits_from}
use Rattle.text.proofs.page.Page.numeral.Given as goal

abbrev pub invariant-loop-i : goal.invariant-loop-i
invariant-loop-i l =
    (l.fn.self.at ≤ l.i)
    × (l.rest ≡ l.n / l.base ^ (l.end - l.i))
    × (l.self.bytes.now ≡ digits_from l.fn.self.bytes.now l.end l.base l.n l.i)
    × (l.self.bytes.ghost_name ≡ l.fn.self.bytes.ghost_name)
