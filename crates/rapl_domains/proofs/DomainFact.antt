-- The theorems of Facts.antt on headers and the lookup of a domain. Assumes nothing.
use Prim.Native.Nat.{ℕ}
use mathlib.Core.Path.{◌≡◌, refl}
use mathlib.Core.Bool.{true, false, not}
use mathlib.Core.List.{List, [], ◌∷◌}
use mathlib.Core.Logic.{◌↔◌, ◌≢◌}
use native.Mathlib.Omega.{arith}
use borrow.Author.Tests.{eq-eqb, eqb-true, not-false}
use lib.Dec.{eqb}
use Rattle.words.proofs.AnswerLaws.{unless_gives, unless_passes, first_zero, first_none}
use Rattle.fields.specs.Tables.{fields}
use Rattle.fields.proofs.TableLaws.{fields_whole}
use Rattle.words.proofs.TestLaws.{or_neither, fails_exactly, fails_else}
use Rattle.words.proofs.Theorems.{exact_fact}
use Rattle.rapl_domains.specs.Domains.{widths, header_of, header_in, missing, unused, wrong, unsound, domain_number, domain_of}
use Rattle.rapl_domains.specs.Facts.{HeaderFact, There, One, DomainFact}
use Rattle.rapl_domains.proofs.DomainLaws.{none_wrong, block_there, there}

-- ---- the header

pub header_fact : (x : ℕ) → HeaderFact x
unfolding header_of fields
header_fact x = record { table = refl; back = λ h. fields_whole widths x 0 h (omega arith) }

-- ---- the lookup

module _ (s : List ℕ) (n : ℕ) where
  there_exactly : (missing s n ≡ false) ↔ There s n
  there_exactly = (there s n, λ t. block_there s n t.0 t.1)

  unused_exactly : (unused (header_in s n) ≡ true) ↔ ((header_in s n).kind ≡ 0)
  unfolding unused
  unused_exactly = (eqb-true _ _, eq-eqb _ _)

  used_exactly : (unused (header_in s n) ≡ false) ↔ ((header_in s n).kind ≢ 0)
  used_exactly = fails_else (unused (header_in s n)) unused_exactly

  sound_exactly : (unsound s n ≡ false) ↔ One s n
  unfolding unsound wrong
  sound_exactly = (
    λ e. let f = or_neither (not (eqb (header_in s n).version 1)) _ e in (eqb-true _ _ (not-false _ f.0), eqb-true _ _ (not-false _ f.1)),
    λ o. none_wrong (header_in s n) o.0 o.1,
  )

  pub domain_fact : DomainFact s n
  unfolding domain_number domain_of
  domain_fact =
      let n12 = exact_fact [] (missing s n) 12 ((unused (header_in s n), 15) ∷ (unsound s n, 16) ∷ []) (λ z. omega arith) tt in
      let n15 = exact_fact ((missing s n, 12) ∷ []) (unused (header_in s n)) 15 ((unsound s n, 16) ∷ []) (λ z. omega arith) tt in
      let n16 = exact_fact ((missing s n, 12) ∷ (unused (header_in s n), 15) ∷ []) (unsound s n) 16 [] (λ z. omega arith) tt in
      let gone = fails_exactly (missing s n) there_exactly in
      let bad = fails_exactly (unsound s n) sound_exactly in
      record {
        missing = (λ e. gone.0 (n12.0 e).1, λ h. n12.1 (tt, gone.1 h));
        unused = (
          λ e. let f = n15.0 e in (there_exactly.0 f.0.0, unused_exactly.0 f.1),
          λ h. n15.1 ((there_exactly.1 h.0, tt), unused_exactly.1 h.1),
        );
        unsound = (
          λ e. let f = n16.0 e in (there_exactly.0 f.0.0, used_exactly.0 f.0.1.0, bad.0 f.1),
          λ h. n16.1 ((there_exactly.1 h.0, (used_exactly.1 h.1, tt)), bad.1 h.2),
        );
        sound = (
          λ e. let f = first_zero _ tt e in (there_exactly.0 f.0, used_exactly.0 f.1.0, sound_exactly.0 f.1.1.0),
          λ h. first_none _ (there_exactly.1 h.0, (used_exactly.1 h.1, (sound_exactly.1 h.2, tt))),
        );
        answer = (λ e. (unless_gives _ e).0, λ z. unless_passes _ z);
      }
