-- `capture::places::Capture::bar` meets its contract. Assumes nothing.
use mathlib.Core.Path.{sym}
use Rattle.capture.proofs.PartLaws.{named_low, named_high, named_none}
use Rattle.capture.proofs.places.Capture.bar.Goals as goal

pub returns-then-bir-self : goal.returns-then-bir-self
returns-then-bir-self c = record { part = sym (named_low _ _ _ _ _ c.if-bir-self.true) }

pub returns-then-bir-self-2 : goal.returns-then-bir-self-2
returns-then-bir-self-2 c = record { part = sym (named_high _ _ _ _ _ c.if-bir-self.false c.if-bir-self-2.true) }

pub returns : goal.returns
returns c = record { part = sym (named_none c.args.bir c.args.self.lo c.args.self.low.now c.args.self.hi c.args.self.high.now c.if-bir-self.false c.if-bir-self-2.false) }
