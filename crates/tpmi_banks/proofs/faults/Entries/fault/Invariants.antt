-- The invariant: no earlier entry so far has the identifier, and `met` says whether the bank shares a byte with the table or with an earlier
-- bank so far. Assumes nothing.
use Prim.Native.Nat.{◌+◌, ◌*◌}
use mathlib.Core.Path.{◌≡◌}
use mathlib.Core.Bool.{false, ◌||◌}
use Rattle.words.specs.Below.{any_below}
use Rattle.tpmi_banks.specs.Faults.{overlap, repeats_at, meets_at}
use Rattle.tpmi_banks.proofs.faults.Entries.fault.Given as goal

abbrev pub invariant-loop-j : goal.invariant-loop-j
invariant-loop-j l = record {
  unlike : any_below (repeats_at l.self.bar.now l.self.table l.b) l.j ≡ false;
  met : l.met ≡ (overlap l.self.table (l.self.table + l.count * 8) l.b.start l.b.end || any_below (meets_at l.self.bar.now l.self.table l.b) l.j);
}
