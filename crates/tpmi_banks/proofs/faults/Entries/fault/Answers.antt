-- `tpmi_banks::faults::Entries::fault` meets its contract: at each return the tests on the way decide. Assumes nothing.
use Prim.Native.Nat.{ℕ, ◌+◌, ◌*◌}
use mathlib.Core.Path.{sym, ap, ◌∙◌}
use mathlib.Core.Bool.{or-false, ◌||◌}
use native.Mathlib.Omega.{arith}
use Rattle.words.specs.Told.{passes}
use Rattle.words.proofs.BelowLaws.{any_none, any_more}
use Rattle.tpmi_banks.specs.Faults.{repeats, meets, overlap, repeats_at, meets_at}
use Rattle.tpmi_banks.specs.declared.faults.Bank.{Bank}
use Rattle.tpmi_banks.proofs.FaultLaws.{met_more, fault_empty, fault_eight, fault_nine, fault_ten, fault_eleven, fault_clean}
use Rattle.tpmi_banks.proofs.faults.Entries.fault.Goals as goal

pub returns-then-empty : goal.returns-then-empty
returns-then-empty c = record { answer = ap passes (sym (fault_empty c.args.self.bar.now c.args.self.table c.args.count c.args.k c.bank_in-b.ensures.answer (sym c.if-empty.ensures.answer))) }

pub returns-then-b-eq1 : goal.returns-then-b-eq1
returns-then-b-eq1 c = record { answer = ap passes (sym (fault_eight c.args.self.bar.now c.args.self.table c.args.count c.args.k c.bank_in-b.ensures.answer (sym c.if-empty.ensures.answer) c.if-b-eq1.true)) }

pub returns-then-self-b : goal.returns-then-self-b
returns-then-self-b c = record { answer = ap passes (sym (fault_nine c.args.self.bar.now c.args.self.table c.args.count c.args.k c.bank_in-b.ensures.answer (sym c.if-empty.ensures.answer) c.if-b-eq1.false c.if-self-b.true)) }

pub loop-j-init : goal.loop-j-init
loop-j-init c = record {
  unlike = any_none (repeats_at c.args.self.bar.now c.args.self.table c.bank_in-b.result);
  met = c.shared-met.ensures.answer ∙ ap (λ (n : ℕ). overlap c.args.self.table (c.args.self.table + n * 8) c.bank_in-b.result.start c.bank_in-b.result.end) c.from.ensures
      ∙ sym (ap (λ x. overlap c.args.self.table (c.args.self.table + c.args.count * 8) c.bank_in-b.result.start c.bank_in-b.result.end || x) (any_none (meets_at c.args.self.bar.now c.args.self.table c.bank_in-b.result)) ∙ or-false _);
}

pub returns-then-repeats : goal.returns-then-repeats
returns-then-repeats c = record {
  answer = ap passes (sym (fault_ten c.args.self.bar.now c.args.self.table c.args.count c.args.k c.bank_in-b.ensures.answer (sym c.if-empty.ensures.answer) c.if-b-eq1.false c.if-self-b.false c.loop-j.j c.loop-j-test.true
      (ap (λ (a : Bank). repeats a c.bank_in-b.result) (sym c.bank_in-earlier.ensures.answer) ∙ sym c.if-repeats.ensures.answer)));
}

pub loop-j-preserved : goal.loop-j-preserved
loop-j-preserved c = record {
  unlike = any_more (repeats_at c.args.self.bar.now c.args.self.table c.bank_in-b.result) c.loop-j.j c.loop-j.invariant.unlike
      (ap (λ (a : Bank). repeats a c.bank_in-b.result) (sym c.bank_in-earlier.ensures.answer) ∙ sym c.if-repeats.ensures.answer);
  met = met_more _ (meets_at c.args.self.bar.now c.args.self.table c.bank_in-b.result) c.loop-j.j c.loop-j.invariant.met
      (c.meets-met.ensures.answer ∙ ap (λ (a : Bank). meets a c.bank_in-b.result) c.bank_in-earlier.ensures.answer);
}

pub returns-then-met : goal.returns-then-met
returns-then-met c = record {
  answer = ap passes (sym (fault_eleven c.args.self.bar.now c.args.self.table c.args.count c.args.k c.bank_in-b.ensures.answer (sym c.if-empty.ensures.answer) c.if-b-eq1.false c.if-self-b.false {j = c.loop-j.j} (omega arith) c.loop-j.invariant.unlike c.loop-j.invariant.met c.if-met.true));
}

pub returns-else-met : goal.returns-else-met
returns-else-met c = record {
  answer = ap passes (sym (fault_clean c.args.self.bar.now c.args.self.table c.args.count c.args.k c.bank_in-b.ensures.answer (sym c.if-empty.ensures.answer) c.if-b-eq1.false c.if-self-b.false {j = c.loop-j.j} (omega arith) c.loop-j.invariant.unlike c.loop-j.invariant.met c.if-met.false));
}
