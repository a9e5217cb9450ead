-- `tpmi_discovery::table::named_by` meets its contract: 6, or the table in the BAR capture that tBIR names. Assumes nothing.
use Prim.Native.Nat.{ℕ}
use mathlib.Core.Path.{sym, ap, ◌∙◌}
use mathlib.Core.List.{List}
use mathlib.Core.Logic.{inl, inr}
use Rattle.tpmi_discovery.specs.Table.{table_in}
use Rattle.tpmi_discovery.proofs.TableLaws.{bir_neither, bir_either}
use Rattle.tpmi_discovery.proofs.table.named_by.Goals as goal
use Rattle.tpmi_discovery.proofs.table.named_by.Goals.{else-bir-capture-via-then-bir-capture+else-bir-capture-2, else-bir-capture-via-else-bir-capture}

pub returns-then-bir-capture-2 : goal.returns-then-bir-capture-2
returns-then-bir-capture-2 c = record { answer = sym (bir_neither c.args.v c.args.capture.lo c.args.capture.low.now c.args.capture.hi c.args.capture.high.now c.if-bir-capture.true c.if-bir-capture-2.true) }

pub returns : goal.returns
returns c = record {
  answer = c.table_in.ensures.answer ∙ ap (λ (s : List ℕ). table_in s c.args.v.bir c.args.v.offset c.args.v.entries) c.bar.ensures.part
      ∙ sym (bir_either c.args.v c.args.capture.lo c.args.capture.low.now c.args.capture.hi c.args.capture.high.now (elim c.else-bir-capture.branch [
        | else-bir-capture-via-then-bir-capture+else-bir-capture-2 w ↦ inr w.if-bir-capture-2.false
        | else-bir-capture-via-else-bir-capture w ↦ inl w.if-bir-capture.false
      ]));
}
