-- `reasons_lines::reason_lines::reasons_line` meets its contract: the label, and then `none`, or the names and the line's end. Assumes
-- nothing.
use mathlib.Core.Path.{sym, subst}
use mathlib.Core.Bool.{Bool, cond}
use mathlib.Core.List.{[], ◌∷◌, ◌++◌}
use borrow.Author.Tests.{ne_eqb}
use Rattle.text.specs.Page.{Wrote}
use Rattle.text.proofs.PageLaws.{wrote_on}
use Rattle.reasons_lines.specs.ReasonLines.{none_text, names_below, end_text}
use Rattle.reasons_lines.proofs.reason_lines.reasons_line.Goals as goal

pub returns : goal.returns
returns c =
    let label = c.args.label.now ∷ [] in
    let named = names_below c.args.coarse 10 in
    let ended = end_text c.args.coarse ∷ [] in
    let w = wrote_on (label ++ named) ended (wrote_on label named c.put.ensures.wrote c.names_part.ensures.wrote) c.end_part.ensures.wrote in
    record {
      wrote =
          subst (λ (z : Bool). Wrote c.args.page.now c.end_part.new.page (label ++ cond z (none_text ∷ []) (named ++ ended)))
          (sym (ne_eqb c.args.coarse 0 c.if-coarse-eq0.false)) w;
    }
