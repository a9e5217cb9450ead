-- `tpmi_walk::walk::follow` meets its contract: at each return the tests on the way decide where it leads. Assumes nothing.
use mathlib.Core.Path.{sym}
use Rattle.tpmi_walk.proofs.WalkLaws.{followed_end, followed_low, followed_odd, followed_on}
use Rattle.tpmi_walk.proofs.walk.follow.Goals as goal
use Rattle.tpmi_walk.proofs.walk.follow.Goals.{then-next-lt256-via-then-next-lt256, then-next-lt256-via-else-next-lt256+then-next-ne0}

pub returns-then-next-eq0 : goal.returns-then-next-eq0
returns-then-next-eq0 c = record { answer = sym (followed_end _ c.if-next-eq0.true); within = tt }

pub returns-then-next-lt256 : goal.returns-then-next-lt256
returns-then-next-lt256 c = record {
  answer = sym (elim c.then-next-lt256.branch [
    | then-next-lt256-via-then-next-lt256 w ↦ followed_low _ c.if-next-eq0.false w.if-next-lt256.true
    | then-next-lt256-via-else-next-lt256+then-next-ne0 w ↦ followed_odd _ c.if-next-eq0.false w.if-next-ne0.true
  ]);
  within = tt;
}

pub returns : goal.returns
returns c = record { answer = sym (followed_on _ c.if-next-lt256.false c.if-next-ne0.false); within = c.requires }
