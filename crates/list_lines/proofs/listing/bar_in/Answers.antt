-- `list_lines::listing::bar_in` meets its contract: the empty part, or the BAR capture with the number. Assumes nothing.
use mathlib.Core.Path.{ap, ◌∙◌}
use Rattle.capture.specs.Capture.{Capture}
use Rattle.capture.specs.Places.{bar_in}
use Rattle.list_lines.proofs.LineLaws.{bar_none, bar_there}
use Rattle.list_lines.proofs.listing.bar_in.Goals as goal

pub returns-in-Some : goal.returns-in-Some
returns-in-Some c = let h = c.in-Some.ensures.answer in record {
  part = c.bar.ensures.part ∙ ap (λ (k : Capture). bar_in k c.args.bir) h.1 ∙ bar_there c.args.input.now c.args.bir h.0;
}

pub returns-in-None : goal.returns-in-None
returns-in-None c = record { part = bar_none c.args.input.now c.args.bir c.in-None.ensures.answer }
