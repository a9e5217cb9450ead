-- `text::numerals::places` meets its contract, by what std tells of a logarithm. Assumes nothing.
use mathlib.Core.Path.{ap, ◌∙◌}
use Prim.Native.Nat.{ℕ, ◌+◌}
use Rattle.text.proofs.NumeralLaws.{places_told}
use Rattle.text.proofs.numerals.places.Goals as goal

pub returns : goal.returns
returns c =
    let told = c.checked_ilog.ensures in
    record { answer = ap (λ (k : ℕ). 1 + k) c.unwrap_or.ensures ∙ places_told c.args.base c.args.n c.requires c.checked_ilog.result told.variant told.power_le told.next_power_gt told.bound }
