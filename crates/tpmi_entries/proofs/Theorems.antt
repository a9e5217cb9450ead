-- The theorems of Facts.antt on one entry, under their names; and that two answers that say the same are the same. Assumes nothing.
use Prim.Native.Nat.{ℕ, ◌≤◌, ◌<◌}
use mathlib.Core.Path.{◌≡◌, refl, sym, ap, subst, ◌∙◌}
use mathlib.Core.Bool.{Bool}
use mathlib.Core.List.{List, [], ◌∷◌}
use native.Mathlib.Omega.{arith}
use native.Mathlib.Decide.{dec_le}
use borrow.Author.Tests.{lt-ltb, le-ltb, ltb-true, ltb-false}
use lib.Dec.{ltb}
use lib.ListN.{length, get_or}
use Rattle.words.specs.Answers.{refused, gives}
use Rattle.fields.specs.Tables.{Fit, wider}
use Rattle.fields.proofs.TableLaws.{fields_fit, fit_narrow}
use Rattle.words.proofs.Told.{once_by}
use Rattle.fields.proofs.Structures.{value_trips}
use Rattle.words.proofs.TestLaws.{fails_exactly}
use Rattle.words.proofs.Theorems.{exact_fact}
use Rattle.fields.proofs.Theorems.{wider_fact}
use Rattle.tpmi_entries.specs.Entry.{widths, entry_of, entry_at, values, read_of, write_number, written}
use Rattle.tpmi_entries.specs.Told.{ToldOnce}
use Rattle.tpmi_entries.specs.Facts.{EntryReads, EntryAnswers, EntryTrips, entry_in}
use Rattle.tpmi_entries.specs.declared.entry.Entry.{Entry}
use Rattle.tpmi_entries.proofs.EntryLaws.{values_of, read_short, read_right, write_right, accepted}

pub entry_reads : (s : List ℕ) → EntryReads s
entry_reads s =
    record {
      refuses = λ m. (by m (dec_le 8 (length s)), λ h. read_short s h.1 ∙ ap refused (sym h.0));
      right = λ vs. (so vs (dec_le 8 (length s)), λ h. read_right s h.0 ∙ ap gives h.1);
    }
  where
    by : (m : ℕ) → Dec (8 ≤ length s) → read_of s ≡ refused m → (m ≡ 25) × (length s < 8)
    by m (yes h) e = let r = read_right s h in let z : ◌≡◌ {A = ℕ} 0 1 = cc in absurd (omega arith)
    by m (no h) e = let r = read_short s (omega arith) in (cc, omega arith)

    so : (vs : List ℕ) → Dec (8 ≤ length s) → read_of s ≡ gives vs → (8 ≤ length s) × (values (entry_at s 0) ≡ vs)
    so vs (yes h) e = let r = read_right s h in (h, cc)
    so vs (no h) e = let r = read_short s (omega arith) in let z : ◌≡◌ {A = ℕ} 0 1 = cc in absurd (omega arith)

pub entry_answers : (s : List ℕ) (e : Entry) → EntryAnswers s e
unfolding write_number
entry_answers s e =
    let none : Bool = ltb (length s) 8 in
    let n25 = exact_fact [] none 25 ((wider widths (values e), 17) ∷ []) (λ z. omega arith) tt in
    let n17 = exact_fact ((none, 25) ∷ []) (wider widths (values e)) 17 [] (λ z. omega arith) tt in
    let wide = fails_exactly (wider widths (values e)) (wider_fact widths (values e) refl) in
    record {
      short = (λ z. ltb-true _ _ (n25.0 z).1, λ h. n25.1 (tt, lt-ltb _ _ h));
      wide = (λ z. let d = n17.0 z in (ltb-false _ _ d.0.0, wide.0 d.1), λ h. n17.1 ((le-ltb _ _ h.0, tt), wide.1 h.1));
      right = (accepted s e, λ h. write_right s e h.0 (fit_narrow widths (values e) h.1));
    }

-- a value from its numbers in the order of the table
rebuilt : List ℕ → Entry
rebuilt l =
    record {
      id = get_or l 0 0;
      instances = get_or l 1 0;
      words = get_or l 2 0;
      offset = get_or l 3 0;
      attribute = get_or l 4 0;
      reserved = get_or l 5 0;
    }

values_once : (d e : Entry) → values d ≡ values e → d ≡ e
unfolding rebuilt
values_once d e h = ap rebuilt h

pub entry_trips : (s : List ℕ) → EntryTrips s
unfolding entry_at written
entry_trips s =
    record {
      accepted = λ z h. write_right z (entry_in s) h (fit_narrow widths (values (entry_in s)) (subst (Fit widths) (sym (values_of _)) (fields_fit 0 widths _)));
      trips = value_trips widths 8 refl values entry_of write_number values_of fits (λ z e h x. values_once (entry_of x) e) s;
    }
  where
    fits : (z : List ℕ) (e : Entry) → write_number z e ≡ 0 → (8 ≤ length z) × Fit widths (values e)
    fits z e h = accepted z e h

pub told_once : ToldOnce
unfolding rebuilt
told_once = once_by values rebuilt (λ e. refl)
