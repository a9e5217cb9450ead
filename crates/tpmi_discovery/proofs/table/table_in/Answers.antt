-- `tpmi_discovery::table::table_in` meets its contract: at each return the tests on the way decide. Assumes nothing.
use mathlib.Core.Path.{sym}
use mathlib.Core.Logic.{inl, inr}
use native.Mathlib.Omega.{arith}
use Rattle.tpmi_discovery.proofs.TableLaws.{table_past, table_fits}
use Rattle.tpmi_discovery.proofs.table.table_in.Goals as goal
use Rattle.tpmi_discovery.proofs.table.table_in.Goals.{else-entries-ne0-via-then-entries-ne0+else-bar-start, else-entries-ne0-via-else-entries-ne0}

pub returns-then-bar-start : goal.returns-then-bar-start
returns-then-bar-start c = record { answer = sym (table_past c.args.bar.now c.args.bir c.args.start c.args.entries c.if-entries-ne0.true (omega (arith, c.from.ensures, c.if-bar-start.true))) }

pub returns : goal.returns
returns c = record {
  answer = sym (table_fits c.args.bar.now c.args.bir c.args.start c.args.entries (elim c.else-entries-ne0.branch [
    | else-entries-ne0-via-then-entries-ne0+else-bar-start w ↦ inr (omega (arith, w.from.ensures, w.if-bar-start.false))
    | else-entries-ne0-via-else-entries-ne0 w ↦ inl w.if-entries-ne0.false
  ]));
}
