-- `tpmi_registers::registers::inside` meets its contract: at each return the tests on the way decide. Assumes nothing.
use mathlib.Core.Path.{sym, ap}
use native.Mathlib.Omega.{arith}
use Rattle.words.specs.Told.{passes}
use Rattle.tpmi_registers.proofs.RegisterLaws.{outside_odd, outside_past, outside_none}
use Rattle.tpmi_registers.proofs.registers.inside.Goals as goal
use Rattle.tpmi_registers.proofs.registers.inside.Goals.{then-offset-ne0-via-then-offset-ne0, then-offset-ne0-via-else-offset-ne0+then-size-lt8, then-offset-ne0-via-else-offset-ne0+else-size-lt8+then-size-offset}

pub returns-then-offset-ne0 : goal.returns-then-offset-ne0
returns-then-offset-ne0 c = record {
  answer = ap passes (sym (elim c.then-offset-ne0.branch [
    | then-offset-ne0-via-then-offset-ne0 w ↦ outside_odd c.args.size c.args.offset w.if-offset-ne0.true
    | then-offset-ne0-via-else-offset-ne0+then-size-lt8 w ↦ outside_past c.args.size c.args.offset (omega (arith, w.if-size-lt8.true))
    | then-offset-ne0-via-else-offset-ne0+else-size-lt8+then-size-offset w ↦ outside_past c.args.size c.args.offset (omega (arith, w.if-size-lt8.false, w.if-size-offset.true))
  ]));
}

pub returns : goal.returns
returns c = record { answer = ap passes (sym (outside_none c.args.size c.args.offset c.if-offset-ne0.false (omega arith))) }
