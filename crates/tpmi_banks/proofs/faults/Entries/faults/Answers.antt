-- `tpmi_banks::faults::Entries::faults` meets its contract: the first entry with a fault decides. Assumes nothing.
use mathlib.Core.Path.{◌≡◌, sym, ap, ◌∙◌}
use Rattle.std.specs.Prelude.{Err}
use native.Mathlib.Omega.{arith}
use Rattle.words.specs.Below.{first_below}
use Rattle.words.specs.Told.{done, passes}
use Rattle.words.proofs.BelowLaws.{fault_none, fault_pass, fault_stop}
use Rattle.words.proofs.DoneLaws.{was_done, not_done}
use Rattle.tpmi_banks.specs.Faults.{fault_at, faults_of}
use Rattle.tpmi_banks.proofs.faults.Entries.faults.Goals as goal

pub loop-k-init : goal.loop-k-init
loop-k-init c = fault_none (fault_at c.args.self.bar.now c.args.self.table c.args.count)

pub returns-in-Err : goal.returns-in-Err
unfolding faults_of
returns-in-Err c =
    let found : done (Err c.in-Err.refusal) ≡ passes (fault_at c.args.self.bar.now c.args.self.table c.args.count c.loop-k.k) = sym (ap done c.in-Err.is) ∙ c.fault.ensures.answer in
    record { answer = found ∙ ap passes (sym (fault_stop (fault_at c.args.self.bar.now c.args.self.table c.args.count) c.loop-k.k c.args.count (omega (arith, c.loop-k-test.true)) c.loop-k.invariant (not_done _ found))) }

pub loop-k-preserved : goal.loop-k-preserved
loop-k-preserved c = fault_pass (fault_at c.args.self.bar.now c.args.self.table c.args.count) c.loop-k.k c.loop-k.invariant (was_done _ (sym (ap done c.in_default.is) ∙ c.fault.ensures.answer))

pub returns : goal.returns
unfolding faults_of
returns c = let all : c.loop-k.k ≡ c.args.count = omega arith in record { answer = ap passes (sym (sym (ap (first_below (fault_at c.args.self.bar.now c.args.self.table c.args.count)) all) ∙ c.loop-k.invariant)) }
