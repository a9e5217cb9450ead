-- `list_output::output::said` meets its contract: the table's lines, `unreadable`, or the line of the refusal. Assumes nothing.
use Prim.Native.Nat.{ℕ, ◌≤◌}
use mathlib.Core.Path.{◌≡◌, sym, ap, subst, ◌∙◌}
use mathlib.Core.List.{List, [], ◌∷◌}
use native.Mathlib.Omega.{arith}
use lib.ListN.{length}
use Rattle.std.specs.Prelude.{Err}
use Rattle.text.specs.Page.{joined, Wrote}
use Rattle.text.proofs.PageLaws.{wrote_joined}
use Rattle.list_lines.specs.Listing.{Said, told}
use Rattle.list_lines.specs.declared.listing.Unlisted.{Unlisted}
use Rattle.list_output.specs.Output.{refused_runs, lines_below, longest}
use Rattle.list_output.proofs.OutputLaws.{said_length, said_wrote}
use Rattle.list_output.proofs.ListingFact.{text_fits}
use Rattle.list_output.proofs.output.said.Goals as goal

-- the answer, where it is known why there is no listing
unlisted : {u v : Unlisted} {a : Said} → u ≡ v → told (Err u) ≡ a → told (Err v) ≡ a
unlisted e f = ap (λ (w : Unlisted). told (Err w)) (sym e) ∙ f

pub returns-in-Ok : goal.returns-in-Ok
returns-in-Ok c = record {
  wrote = said_wrote c.args.input.now c.in-Ok.ensures.answer
      (subst (λ (s : List ℕ). Wrote c.args.page.now c.lines.new.page (lines_below s c.in-Ok.t.start c.in-Ok.t.entries ∷ [])) c.bar_in.ensures.part c.lines.ensures.wrote);
}

pub returns-in-Err-Unreadable : goal.returns-in-Err-Unreadable
returns-in-Err-Unreadable c = record { wrote = said_wrote c.args.input.now (unlisted c.in-Err-Unreadable.field-0-is c.in-Err-Unreadable.ensures.answer) c.put.ensures.wrote }

pub returns-in-Err-Refused : goal.returns-in-Err-Refused
returns-in-Err-Refused c =
    let e = unlisted c.in-Err-Refused.field-0-is c.in-Err-Refused.ensures.answer in
    let most : length (joined (refused_runs c.in-Err-Refused.r.0)) ≤ longest = omega (arith, said_length c.args.input.now e, text_fits c.args.input.now) in
    record {
      wrote = said_wrote c.args.input.now e
          (wrote_joined (refused_runs c.in-Err-Refused.r.0) (omega (arith, c.requires.place, c.requires.room, most)) c.refusal.ensures.wrote);
    }
