-- The lines of an accepted capture say what the lookups say. Assumes nothing.
use Prim.Native.Nat.{ℕ, ◌*◌, ◌<◌}
use mathlib.Core.Path.{◌≡◌, refl, sym, ap, ◌∙◌}
use mathlib.Core.Logic.{◌⊎◌, ⊎_elim}
use mathlib.Core.List.{[], ◌∷◌}
use lib.Dec.{eqb}
use borrow.Author.Tests.{eq-eqb}
use Rattle.words.specs.Answers.{gives}
use Rattle.words.proofs.AnswerLaws.{unless_passes}
use Rattle.words.proofs.TestLaws.{or_take, or_second}
use Rattle.tpmi_banks.specs.Faults.{bank_of, bank_in, empty_bank}
use Rattle.tpmi_banks.specs.Facts.{Filled}
use Rattle.tpmi_banks.specs.declared.faults.Bank.{Bank}
use Rattle.tpmi_banks.proofs.FaultFact.{filled_exactly}
use Rattle.capture.specs.Capture.{Capture}
use Rattle.tpmi_discovery.specs.Table.{bir_of, bar_of, table_of, entries_of}
use Rattle.tpmi_discovery.specs.Discovery.{discovery_number}
use Rattle.tpmi_features.specs.Instances.{bank_for, feature_number, feature_of}
use Rattle.tpmi_features.proofs.LookupFact.{lookup_fact, place_fact}
use Rattle.tpmi_counts.specs.Valid.{valid_count_in, valid_count_of}
use Rattle.tpmi_counts.proofs.CountLaws.{count_found}
use Rattle.list_lines.specs.Line.{line_of}
use Rattle.tpmi_features.specs.Entries.{entry_there}
use Rattle.list_lines.specs.Facts.{LineSays, LineFact}
use Rattle.list_lines.proofs.LineLaws.{line_none, line_there}

module _ (c : Capture) (k : ℕ) where
  abbrev bank : Bank
  bank = bank_in (bar_of c) (table_of c) k

  -- the bank of the entry as it is read
  bank_is : bank ≡ bank_of (table_of c) (entry_there c k)
  unfolding bank_in
  bank_is = refl

  empty : ((entry_there c k).instances ≡ 0) ⊎ ((entry_there c k).words ≡ 0) → line_of (bar_of c) (table_of c) k ≡ []
  unfolding empty_bank bank_of
  empty h = line_none (bar_of c) (table_of c) k (sym bank_is) (⊎_elim (λ e. or_take _ (eq-eqb _ _ e)) (λ e. or_second (eqb (entry_there c k).instances 0) (eq-eqb _ _ e)) h)

  module _ (z : discovery_number c ≡ 0) (l : k < entries_of c) (filled : Filled bank) where
    found : feature_number c bank.id ≡ 0
    found = (lookup_fact c bank.id 0).feature_found.1 (z, (k, l, filled, refl))

    only : bank ≡ bank_for c bank.id
    only = (place_fact c bank.id 0).only found k l filled refl

    abbrev valid : ℕ
    valid = valid_count_in (bar_of c) bank.start (bank.words * 4) bank.instances

    looked_up : feature_of c bank.id ≡ gives (bir_of c ∷ bank.start ∷ bank.words * 4 ∷ bank.instances ∷ [])
    unfolding feature_of
    looked_up = unless_passes _ found ∙ ap (λ (b : Bank). gives (bir_of c ∷ b.start ∷ b.words * 4 ∷ b.instances ∷ [])) (sym only)

    counted : valid_count_of c bank.id ≡ gives (valid ∷ [])
    counted =
        count_found c bank.id found ∙ ap (λ (b : Bank). gives (valid_count_in (bar_of c) b.start (b.words * 4) b.instances ∷ [])) (sym only)

    line : LineSays c (entry_there c k) (line_of (bar_of c) (table_of c) k)
    unfolding bank_in bank_of
    line =
        record {
          valid = valid;
          numbers = line_there (bar_of c) (table_of c) k refl ((filled_exactly bank).1 filled);
          bank = looked_up;
          count = counted;
        }

  pub line_fact : LineFact c k
  unfolding bank_in bank_of
  line_fact = record { none = empty; some = λ z l a b. line z l (a, b) }
