-- The theorems of specs/Facts, each under its name. Assumes nothing.
use Prim.Native.Nat.{ℕ, ◌≤◌, ◌<◌}
use Rattle.std.specs.Prelude.{Option, Some, None}
use mathlib.Core.Path.{◌≡◌, refl, sym, ap, ◌∙◌}
use mathlib.Core.Bool.{Bool, true, false, cond}
use mathlib.Core.List.{List, [], ◌∷◌, ◌++◌}
use mathlib.Core.Logic.{◌≢◌}
use native.Mathlib.Omega.{arith}
use borrow.Author.Tests.{ltb-true, ltb-false, eqb-true, ne_eqb}
use lib.Dec.{ltb, eqb}
use lib.ListN.{length, get_or, take, drop, length-append, length-drop}
use lib.Seq.{take_at, drop_at}
use Rattle.words.specs.Bytes.{AllBytes}
use Rattle.words.specs.Answers.{refused, gives}
use Rattle.words.specs.Facts.{NoneHolds}
use Rattle.words.proofs.AnswerLaws.{once, unless_refused, unless_gives}
use Rattle.words.proofs.TestLaws.{never_both}
use Rattle.words.proofs.Theorems.{first_fact, exact_fact, chain_refuses, chain_accepts}
use Rattle.records.specs.Partial.{rule_of, length_of}
use Rattle.records.specs.Facts.{IsRecord}
use Rattle.records_body.specs.Body.{numbers_at}
use Rattle.energy_hall.specs.Hall.{Named}
use Rattle.replay_trace.specs.declared.trace.Said.{Said}
use Rattle.replay_trace.specs.Trace.{row_of, lengths, Says, nothing, says, told, says_of, bytes_of, unsaid, write_tests, write_number, write_of, written}
use Rattle.replay_trace.specs.Facts.{ToldOnce, LengthsAre, CallFits, Sayable, CallTrips, RecordTrips, RecordWriteFact}
use Rattle.replay_trace.proofs.TraceLaws as laws
use Rattle.replay_trace.proofs.TraceLaws.{kind_in, says_record}
use Rattle.replay_trace.proofs.WriteLaws.{length_bytes, refuses_unsaid, refuses_short, takes}
use Rattle.replay_trace.proofs.TraceTrips.{bytes_long, bytes_read, bytes_bytes, kind_known, meant_some, says_inside, says_back, bytes_once, old_kinds}

untold : Says → Option Said
untold nothing = None
untold (says x) = Some (record { channel = x.channel; call = x.call })

pub told_once : ToldOnce
unfolding untold
told_once = once told untold back
  where
    back : (a : Option Said) → untold (told a) ≡ a
    back None = refl
    back (Some x) = refl

pub lengths_are : LengthsAre
lengths_are = laws.lengths_are

-- ---- a call and its record

bytes_whole : (x : Named) → Sayable x → (l : ℕ) → IsRecord (rule_of lengths l) (bytes_of x)
unfolding bytes_of
bytes_whole x s l = record { some = omega (arith, length_bytes x); long = bytes_long x s.said }

-- where bytes say it, a record does; where none says it, no record does
said_by_none : (x : Named) → CallFits x.call → (b : Bool) → unsaid x ≡ b → ((r : List ℕ) → AllBytes r → says_of r ≡ says x → ⊥) → unsaid x ≡ true
said_by_none x f true e n = e
said_by_none x f false e n = absurd (n (bytes_of x) (bytes_bytes x) (bytes_read x (record { said = e; fits = f })))

pub call_trips : (x : Named) → CallTrips x
call_trips x =
    record {
      whole = bytes_whole x;
      bytes = bytes_bytes x;
      read = bytes_read x;
      none = λ f. (λ u r b e. never_both u (says_back r b x e).1.said, said_by_none x f (unsaid x) refl);
    }

-- ---- bytes and what they say

pub record_trips : (r : List ℕ) → RecordTrips r
record_trips r = record { whole = λ l. (some l, whole l); back = says_back r; once = bytes_once r; old = old_kinds r }
  where
    some : (l : ℕ) → IsRecord (rule_of lengths l) r → (x : Named) × (says_of r ≡ says x)
    some l i =
        let h : 0 < length_of lengths (kind_in r) = rw i.long i.some in
        let m = meant_some (kind_in r) (numbers_at (row_of (kind_in r)) r 1) h in
        (m.0, says_record r i.long ∙ m.1)

    whole : (l : ℕ) → (x : Named) × (says_of r ≡ says x) → IsRecord (rule_of lengths l) r
    whole l e =
        let i = says_inside r e.1 in
        let h : 0 < length_of lengths (kind_in r) = kind_known (kind_in r) (numbers_at (row_of (kind_in r)) r 1) i.1 in
        record { some = omega (arith, h, i.0); long = i.0 }

-- ---- a record written

module _ (s : List ℕ) (x : Named) where
  abbrev many : ℕ
  many = length (bytes_of x)

  -- the number of a refusal, and that nothing holds where there is none
  number : {m : ℕ} → write_of s x ≡ refused m → (write_number s x ≡ m) × (m ≢ 0)
  unfolding write_of
  number e = unless_refused (write_number s x) (many ∷ []) e

  none : write_number s x ≡ 0 → NoneHolds (write_tests s x)
  none = ((first_fact (write_tests s x)).none tt).0

  accepted : {n : ℕ} → write_of s x ≡ gives (n ∷ []) → (write_number s x ≡ 0) × (many ≡ n)
  unfolding write_of
  accepted e = let u = unless_gives (write_number s x) e in (u.0, ap (λ (l : List ℕ). get_or l 0 0) u.1)

  unsaid_exactly : write_of s x ≡ refused 17 → unsaid x ≡ true
  unsaid_exactly e = ((exact_fact [] (unsaid x) 17 ((ltb (length s) many, 25) ∷ []) (number e).1 tt).0 (number e).0).1

  short_exactly : write_of s x ≡ refused 25 → (unsaid x ≡ false) × (length s < many)
  short_exactly e =
      let p = (exact_fact ((unsaid x, 17) ∷ []) (ltb (length s) many) 25 [] (number e).1 tt).0 (number e).0 in
      (p.0.0, ltb-true (length s) many p.1)

  kept : (m : ℕ) → write_of s x ≡ refused m → written s x ≡ s
  unfolding written
  kept m e = let p = number e in rw (ne_eqb (write_number s x) 0 (λ z. p.1 (sym p.0 ∙ z)))

  holds : {n : ℕ} → write_of s x ≡ gives (n ∷ []) → written s x ≡ bytes_of x ++ drop many s
  holds e = sym (takes s x (accepted e).0).1

  starts : (n : ℕ) → write_of s x ≡ gives (n ∷ []) → take n (written s x) ≡ bytes_of x
  starts n e = ap (take n) (holds e) ∙ take_at (bytes_of x) (drop many s) n (accepted e).1

  rest : (n : ℕ) → write_of s x ≡ gives (n ∷ []) → drop n (written s x) ≡ drop n s
  rest n e = ap (drop n) (holds e) ∙ drop_at (bytes_of x) (drop many s) n (accepted e).1 ∙ ap (λ (k : ℕ). drop k s) (accepted e).1

  as_many : length (written s x) ≡ length s
  unfolding written
  as_many = by (eqb (write_number s x) 0) refl
    where
      by : (b : Bool) → eqb (write_number s x) 0 ≡ b → length (cond b (bytes_of x ++ drop many s) s) ≡ length s
      by true e =
          let room : many ≤ length s = ltb-false (length s) many (none (eqb-true (write_number s x) 0 e)).1.0 in
          omega (arith, room, length-append (bytes_of x) (drop many s), length-drop many s)
      by false e = refl

  pub record_write_fact : RecordWriteFact s x
  unfolding write_of
  record_write_fact =
      record {
        refuses = chain_refuses (write_tests s x) (many ∷ []);
        accepts = chain_accepts (write_tests s x) (many ∷ []) tt;
        no_record = (unsaid_exactly, λ u. sym (refuses_unsaid s x u).0);
        short = (short_exactly, λ h. sym (refuses_short s x h.0 h.1).0);
        kept = kept;
        record_first = starts;
        rest = rest;
        read = λ n e f. ap says_of (starts n e) ∙ bytes_read x (record { said = (none (accepted e).0).0; fits = f });
        as_many = as_many;
      }
