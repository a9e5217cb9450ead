-- `tpmi_features::instances::feature_in` meets its contract: the bank of the first entry that is the feature, or 12. Assumes nothing.
use mathlib.Core.Path.{sym, ap, ◌∙◌}
use mathlib.Core.Bool.{not, ◌&&◌}
use native.Mathlib.Omega.{arith}
use lib.Dec.{eqb}
use Rattle.words.proofs.BelowLaws.{least_turn}
use Rattle.tpmi_banks.specs.Faults.{empty_bank}
use Rattle.tpmi_banks.specs.declared.faults.Bank.{Bank}
use Rattle.tpmi_banks.proofs.FaultLaws.{bank_words}
use Rattle.tpmi_features.specs.Instances.{bears}
use Rattle.tpmi_features.proofs.InstanceLaws.{search_begins, feature_there, feature_missing}
use Rattle.tpmi_features.proofs.instances.feature_in.Goals as goal

pub loop-k-init : goal.loop-k-init
loop-k-init c = search_begins c.args.entries.bar.now c.args.bir c.args.entries.table c.args.count c.args.id

pub overflow_mul-result : goal.overflow_mul-result
overflow_mul-result c = omega (arith, bank_words c.args.entries.bar.now c.args.entries.table c.loop-k.k, ap (λ (k : Bank). k.words) c.bank_in-b.ensures.answer)

pub returns-then-held : goal.returns-then-held
returns-then-held c = record {
  answer = feature_there c.args.entries.bar.now c.args.bir c.args.entries.table c.args.count c.args.id c.loop-k-test.true c.loop-k.invariant c.bank_in-b.ensures.answer
      (ap (λ (b : Bank). not (empty_bank b) && eqb b.id c.args.id) (sym c.bank_in-b.ensures.answer) ∙ sym c.if-held.ensures.answer);
}

pub loop-k-preserved : goal.loop-k-preserved
loop-k-preserved c = least_turn (bears c.args.entries.bar.now c.args.entries.table c.args.id) c.args.count c.loop-k.k c.loop-k-test.true
    (ap (λ (b : Bank). not (empty_bank b) && eqb b.id c.args.id) (sym c.bank_in-b.ensures.answer) ∙ sym c.if-held.ensures.answer)
    ∙ c.loop-k.invariant

pub returns : goal.returns
returns c = record { answer = feature_missing c.args.entries.bar.now c.args.bir c.args.entries.table c.args.count c.args.id {k = c.loop-k.k} (omega arith) c.loop-k.invariant }
