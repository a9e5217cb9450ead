-- `replay_lines::spoken::open_lines` meets its contract. Assumes nothing.
use mathlib.Core.Path.{refl}
use native.Mathlib.Omega.{arith}
use Rattle.std.proofs.Common.{rules}
use Rattle.replay_lines.proofs.SpokenLaws.{shown_none, shown_next, lines_short, lines_fit}
use Rattle.replay_lines.proofs.spoken.open_lines.Goals as goal

pub returns-then-page-lt-LONGEST-clause-answer : goal.returns-then-page-lt-LONGEST-clause-answer
returns-then-page-lt-LONGEST-clause-answer c = (lines_short c.args.page.now c.args.channels c.if-page-lt-LONGEST.true).0

pub returns-then-page-lt-LONGEST-clause-kept : goal.returns-then-page-lt-LONGEST-clause-kept
returns-then-page-lt-LONGEST-clause-kept c = (lines_short c.args.page.now c.args.channels c.if-page-lt-LONGEST.true).1

pub loop-n-init : goal.loop-n-init
loop-n-init c = shown_none _ c.args.channels refl

pub loop-n-preserved : goal.loop-n-preserved
loop-n-preserved c = shown_next _ c.args.channels refl c.if-page-lt-LONGEST.false c.loop-n.n (omega arith) c.loop-n.invariant c.channel_line.ensures.wrote

pub returns-clause-answer : goal.returns-clause-answer
returns-clause-answer c = (lines_fit _ c.args.channels refl c.if-page-lt-LONGEST.false (omega arith) c.loop-n.invariant).0

pub returns-clause-kept : goal.returns-clause-kept
returns-clause-kept c =
    let e = (lines_fit _ c.args.channels refl c.if-page-lt-LONGEST.false (omega arith) c.loop-n.invariant).1 in
    let s = c.loop-n.invariant.wrote.same in
    search (rules, e, s)
