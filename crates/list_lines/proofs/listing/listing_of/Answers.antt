-- `list_lines::listing::listing_of` meets its contract: unreadable, or what discovery says of the capture. Assumes nothing.
use Rattle.std.specs.Prelude.{Err}
use mathlib.Core.Path.{◌≡◌, sym, ap, ◌∙◌}
use Rattle.words.proofs.DoneLaws.{the_err}
use Rattle.tpmi_discovery.specs.Discovery.{discovery_of}
use Rattle.list_lines.specs.Listing.{told, answers}
use Rattle.list_lines.specs.declared.listing.Unlisted.{Unlisted}
use Rattle.list_lines.specs.declared.listing.Unlisted.TheVariants.{Unreadable}
use Rattle.list_lines.proofs.LineLaws.{says_unreadable, says_answer, not_held, held}
use Rattle.list_lines.proofs.listing.listing_of.Goals as goal

pub returns-in_err-capture : goal.returns-in_err-capture
returns-in_err-capture c =
    let none = c.in_err-capture.ensures.ok_part in
    let value = rw none at c.in_err-capture.ensures.value in
    let is : c.in_err-capture.field-0.0 ≡ Unreadable = cc in
    record {
      answer = ap told (the_err c.from_residual.result c.from_residual.ensures.1) ∙ ap (λ (u : Unlisted). told (Err u)) is
          ∙ sym (says_unreadable c.args.input.now (not_held c.args.input.now c.capture_in.ensures.answer none));
    }

pub returns-in_err-discover : goal.returns-in_err-discover
returns-in_err-discover c = let h = held c.args.input.now c.capture_in.ensures.answer c.in_ok-capture.ensures.ok_part in record {
  answer = ap told (the_err c.from_residual-in_err-discover.result c.from_residual-in_err-discover.ensures.1)
      ∙ ap answers (c.in_err-discover.ensures.answer ∙ ap discovery_of h.1) ∙ sym (says_answer c.args.input.now h.0);
}

pub returns : goal.returns
returns c = let h = held c.args.input.now c.capture_in.ensures.answer c.in_ok-capture.ensures.ok_part in record {
  answer = ap answers (c.in_ok-discover.ensures.answer ∙ ap discovery_of h.1) ∙ sym (says_answer c.args.input.now h.0);
}
