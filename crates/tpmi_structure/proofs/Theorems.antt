-- Each theorem of Facts.antt, under its name; and that two answers that say the same are the same. Assumes nothing.
use Prim.Native.Nat.{ℕ, ◌*◌, ◌/◌, ◌%◌, ◌≤◌}
use mathlib.Core.Path.{◌≡◌, refl, sym, ap, ◌∙◌}
use mathlib.Core.Bool.{Bool, false}
use mathlib.Core.List.{List, [], ◌∷◌}
use native.Mathlib.Omega.{arith}
use borrow.Author.Tests.{lt-ltb, le-ltb, ltb-true, ltb-false}
use lib.Dec.{ltb}
use lib.ListN.{length, get_or}
use Rattle.fields.specs.Tables.{Fit}
use Rattle.words.proofs.TestLaws.{fails_exactly}
use Rattle.words.proofs.AnswerLaws.{first_none, first_zero}
use Rattle.fields.proofs.FieldLaws.{field_lt}
use Rattle.fields.proofs.TableLaws.{fit_append}
use Rattle.fields.proofs.Structures.{value_trips}
use Rattle.words.proofs.Theorems.{exact_fact}
use Rattle.words.proofs.Told.{once_by}
use Rattle.tpmi_structure.specs.Structure.{vsec_of, vsec_at, numbers, values, widths, low_widths, high_widths, low_values, high_values, fixed_wrong, too_wide, read_number, write_number, written}
use Rattle.tpmi_structure.specs.Told.{ToldOnce}
use Rattle.tpmi_structure.specs.Facts.{Narrow, StructureTests, StructureAnswers, StructureTrips, structure_in}
use Rattle.tpmi_structure.specs.declared.structure.Vsec.{Vsec}
use Rattle.tpmi_structure.proofs.StructureLaws.{fixed_right, right_fixed, narrow_right, right_narrow, low_fits, high_fits, values_of, write_right, accepted}

-- ---- the structure

pub structure_tests : (v : Vsec) → StructureTests v
structure_tests v = record { fixed = (fixed_right v, right_fixed v); narrow = (narrow_right v, right_narrow v) }

pub structure_answers : (s : List ℕ) (v : Vsec) → StructureAnswers s v
unfolding read_number write_number
structure_answers s v =
    let w : Vsec = vsec_at s 0 in
    let short : Bool = ltb (length s) 16 in
    let r25 = exact_fact [] short 25 ((fixed_wrong w, 5) ∷ []) (λ z. omega arith) tt in
    let r5 = exact_fact ((short, 25) ∷ []) (fixed_wrong w) 5 [] (λ z. omega arith) tt in
    let w25 = exact_fact [] short 25 ((fixed_wrong v, 5) ∷ (too_wide v, 17) ∷ []) (λ z. omega arith) tt in
    let w5 = exact_fact ((short, 25) ∷ []) (fixed_wrong v) 5 ((too_wide v, 17) ∷ []) (λ z. omega arith) tt in
    let w17 = exact_fact ((short, 25) ∷ (fixed_wrong v, 5) ∷ []) (too_wide v) 17 [] (λ z. omega arith) tt in
    let fixed-w = (structure_tests w).fixed in
    let fixed-v = (structure_tests v).fixed in
    let narrow-v = (structure_tests v).narrow in
    let room : short ≡ false → 16 ≤ length s = ltb-false (length s) 16 in
    let enough : 16 ≤ length s → short ≡ false = le-ltb (length s) 16 in
    record {
      read_short = (λ e. ltb-true _ _ (r25.0 e).1, λ h. r25.1 (tt, lt-ltb _ _ h));
      read_wrong = (λ e. let d = r5.0 e in (room d.0.0, (fails_exactly _ fixed-w).0 d.1), λ h. r5.1 ((enough h.0, tt), (fails_exactly _ fixed-w).1 h.1));
      read_right = (λ e. let f = first_zero _ tt e in (room f.0, fixed-w.0 f.1.0), λ h. first_none _ (enough h.0, (fixed-w.1 h.1, tt)));
      write_short = (λ e. ltb-true _ _ (w25.0 e).1, λ h. w25.1 (tt, lt-ltb _ _ h));
      write_wrong = (λ e. let d = w5.0 e in (room d.0.0, (fails_exactly _ fixed-v).0 d.1), λ h. w5.1 ((enough h.0, tt), (fails_exactly _ fixed-v).1 h.1));
      write_wide = (
        λ e. let d = w17.0 e in (room d.0.0, fixed-v.0 d.0.1.0, (fails_exactly _ narrow-v).0 d.1),
        λ h. w17.1 ((enough h.0, (fixed-v.1 h.1, tt)), (fails_exactly _ narrow-v).1 h.2),
      );
      write_right = (accepted s v, λ h. write_right s v h.0 (right_fixed v h.1) (right_narrow v h.2));
    }

-- what is read is narrow, whatever the bytes
pub narrow_of : (x : ℕ) → Narrow (vsec_of x)
unfolding vsec_of
narrow_of x =
    record {
      next = omega (arith, field_lt 20 12 x);
      reserved = omega (arith, field_lt 64 16 x);
      entries = omega (arith, field_lt 80 8 x);
      bir = omega (arith, field_lt 96 3 x);
      offset = omega (arith, field_lt 99 29 x);
      multiple = omega arith;
    }

pub narrow_at : (s : List ℕ) (at : ℕ) → Narrow (vsec_at s at)
unfolding vsec_at
narrow_at s at = narrow_of _

-- a value from its numbers in the order of the table
rebuilt : List ℕ → Vsec
rebuilt l =
    record {
      identifier = get_or l 0 0;
      version = get_or l 1 0;
      next = get_or l 2 0;
      id = get_or l 3 0;
      revision = get_or l 4 0;
      size = get_or l 5 0;
      reserved = get_or l 6 0;
      entries = get_or l 7 0;
      words = get_or l 8 0;
      bir = get_or l 9 0;
      offset = get_or l 10 0 * 8;
    }

values_once : (v w : Vsec) → v.offset % 8 ≡ 0 → w.offset % 8 ≡ 0 → values v ≡ values w → v ≡ w
unfolding rebuilt
values_once v w a b e = sym (back v a) ∙ ap rebuilt e ∙ back w b
  where
    back : (v : Vsec) → v.offset % 8 ≡ 0 → rebuilt (values v) ≡ v
    back v h =
        let whole : v.offset / 8 * 8 ≡ v.offset = omega arith in
        ap (λ (k : ℕ).
        record {
          identifier = v.identifier;
          version = v.version;
          next = v.next;
          id = v.id;
          revision = v.revision;
          size = v.size;
          reserved = v.reserved;
          entries = v.entries;
          words = v.words;
          bir = v.bir;
          offset = k;
        }) whole

pub structure_trips : (s : List ℕ) → StructureTrips s
unfolding vsec_at written
structure_trips s =
    record {
      accepted = λ e z h. let f = (structure_answers s (structure_in s)).read_right.0 e in write_right z (structure_in s) h (right_fixed _ f.1) (right_narrow _ (narrow_of _));
      trips = value_trips widths 16 refl values vsec_of write_number values_of fits (λ z v h x. values_once (vsec_of x) v (narrow_of x).multiple (accepted z v h).2.multiple) s;
    }
  where
    fits : (z : List ℕ) (v : Vsec) → write_number z v ≡ 0 → (16 ≤ length z) × Fit widths (values v)
    fits z v h =
        let a = accepted z v h in
        (a.0, fit_append low_widths high_widths (low_values v) (high_values v) (low_fits v a.1 a.2) (high_fits v a.1 a.2))

-- ---- two answers that say the same are the same

from : List ℕ → Vsec
from l =
    record {
      identifier = get_or l 0 0;
      version = get_or l 1 0;
      next = get_or l 2 0;
      id = get_or l 3 0;
      revision = get_or l 4 0;
      size = get_or l 5 0;
      reserved = get_or l 6 0;
      entries = get_or l 7 0;
      words = get_or l 8 0;
      bir = get_or l 9 0;
      offset = get_or l 10 0;
    }

pub told_once : ToldOnce
unfolding from
told_once = once_by numbers from (λ v. refl)
