-- `tpmi_features::instances::instance_in` meets its contract: at each return the tests on the way decide. Assumes nothing.
use mathlib.Core.Path.{sym, ◌∙◌}
use Rattle.tpmi_features.proofs.InstanceLaws.{instance_none, instance_ones, instance_valid}
use Rattle.tpmi_features.proofs.instances.instance_in.Goals as goal

pub returns-then-bank-n : goal.returns-then-bank-n
returns-then-bank-n c = record { answer = sym (instance_none c.args.bar.now c.args.bank c.args.n c.if-bank-n.true) }

pub returns-then-u64_at : goal.returns-then-u64_at
returns-then-u64_at c = record { answer = sym (instance_ones c.args.bar.now c.args.bank c.args.n c.if-bank-n.false (sym c.u64_at.ensures.answer ∙ c.if-u64_at.true)) }

pub returns : goal.returns
returns c = record { answer = sym (instance_valid c.args.bar.now c.args.bank c.args.n c.if-bank-n.false (λ z. c.if-u64_at.false (c.u64_at.ensures.answer ∙ z))) }
