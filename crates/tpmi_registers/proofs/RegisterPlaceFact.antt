-- A register's lookup decides its plain statement. Assumes nothing.
use Prim.Native.Nat.{ℕ, ◌+◌, ◌%◌, ◌≤◌}
use mathlib.Core.Path.{◌≡◌, ◌∙◌}
use mathlib.Core.Bool.{false, not, ◌||◌}
use mathlib.Core.List.{[]}
use mathlib.Core.Logic.{◌↔◌}
use native.Mathlib.Omega.{arith}
use borrow.Author.Tests.{le-ltb}
use lib.Dec.{ltb, eqb}
use Rattle.words.proofs.TestLaws.{as_must, or_skip, fails_exactly}
use Rattle.words.proofs.AnswerLaws.{earliest_stop, first_skip, first_end, two_pass, two_zero, two_from}
use Rattle.words.proofs.Theorems.{exact_fact}
use Rattle.capture.specs.Capture.{Capture}
use Rattle.tpmi_features.specs.Instances.{size_for, instance_number}
use Rattle.tpmi_registers.specs.Registers.{outside, register_number}
use Rattle.tpmi_registers.proofs.RegisterLaws.{outside_room, outside_none}
use Rattle.tpmi_registers.specs.Facts.{RegisterPlaceFact}
use Rattle.tpmi_features.proofs.LookupFact.{instance_small}

outside_exactly : (size offset : ℕ) → ((not (eqb (offset % 8) 0) || ltb size (offset + 8)) ≡ false) ↔ ((offset % 8 ≡ 0) × (offset + 8 ≤ size))
unfolding outside
outside_exactly size offset = (λ e. outside_room size offset (first_skip _ _ e ∙ first_end), λ h. or_skip _ (as_must h.0) ∙ le-ltb _ _ h.1)

pub register_place_fact : (c : Capture) (id n offset : ℕ) → RegisterPlaceFact c id n offset
unfolding register_number outside
register_place_fact c id n offset =
    let off = outside_exactly (size_for c id) offset in
    let n14 = exact_fact [] (not (eqb (offset % 8) 0) || ltb (size_for c id) (offset + 8)) 14 [] (λ z. omega arith) tt in
    record {
      handed_on = earliest_stop _ _;
      outside = (
        λ e. let q = two_from (instance_number c id n) _ (λ z. omega (arith, instance_small c id n, z)) e in (q.0, (fails_exactly _ off).0 (n14.0 q.1).1),
        λ h. two_pass _ h.0 ∙ n14.1 (tt, (fails_exactly _ off).1 h.1),
      );
      found = (
        λ e. let z = (two_zero _ _).0 e in let r = outside_room _ _ z.1 in (z.0, r.0, r.1),
        λ h. (two_zero _ _).1 (h.0, outside_none _ _ h.1 h.2),
      );
    }
