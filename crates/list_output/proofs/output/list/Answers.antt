-- `list_output::output::list` meets its contract: 25, or what the listing of the input says. Assumes nothing.
use mathlib.Core.Path.{refl}
use native.Mathlib.Omega.{arith}
use Rattle.std.proofs.Common.{rules}
use Rattle.text.proofs.PageLaws.{wrote_first}
use Rattle.list_output.specs.Output.{text_of}
use Rattle.list_output.proofs.OutputLaws.{list_short, list_fits}
use Rattle.list_output.proofs.ListingFact.{text_fits}
use Rattle.list_output.proofs.output.list.Goals as goal

pub returns-then-page-lt-LONGEST-clause-answer : goal.returns-then-page-lt-LONGEST-clause-answer
returns-then-page-lt-LONGEST-clause-answer c = (list_short c.args.page.now c.args.input.now c.if-page-lt-LONGEST.true).0

pub returns-then-page-lt-LONGEST-clause-kept : goal.returns-then-page-lt-LONGEST-clause-kept
returns-then-page-lt-LONGEST-clause-kept c = (list_short c.args.page.now c.args.input.now c.if-page-lt-LONGEST.true).1

pub returns-clause-answer : goal.returns-clause-answer
returns-clause-answer c = (list_fits c.args.page.now c.args.input.now c.if-page-lt-LONGEST.false (wrote_first (text_of c.args.input.now) refl (omega (arith, text_fits c.args.input.now)) c.said.ensures.wrote)).0

pub returns-clause-kept : goal.returns-clause-kept
returns-clause-kept c =
    let w = c.said.ensures.wrote in
    let e = (list_fits c.args.page.now c.args.input.now c.if-page-lt-LONGEST.false (wrote_first (text_of c.args.input.now) refl (omega (arith, text_fits c.args.input.now)) w)).1 in
    let s = w.same in
    search (rules, e, s)
