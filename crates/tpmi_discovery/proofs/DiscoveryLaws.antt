-- Discovery after the table is located: refused with its first fault, or accepted; and what is known of an accepted capture. Assumes
-- nothing.
use Prim.Native.Nat.{ℕ}
use mathlib.Core.Path.{◌≡◌, ap, ◌∙◌}
use mathlib.Core.List.{List, [], ◌∷◌}
use mathlib.Core.Logic.{◌≢◌}
use Rattle.words.specs.Answers.{refused, gives, unless}
use Rattle.words.proofs.AnswerLaws.{unless_number, unless_gives, unless_passes, two_pass, two_zero, stage_stops}
use Rattle.capture.specs.Capture.{Capture}
use Rattle.capture.specs.Places.{named}
use Rattle.tpmi_banks.specs.Faults.{faults_of}
use Rattle.tpmi_discovery.specs.Table.{bir_of, table_of, entries_of, bar_of, location_number, location_of}
use Rattle.tpmi_discovery.specs.Discovery.{discovery_number, discovery_of}
use Rattle.tpmi_discovery.specs.Told.{numbers}
use Rattle.tpmi_discovery.specs.declared.table.Table.{Table}
use Rattle.tpmi_discovery.proofs.TableLaws.{Tabled, tabled_is, table_located, bar_named}

module _ (c : Capture) where
  -- a table that is not located
  pub refuses_location : {n : ℕ} → location_of c ≡ refused n → discovery_of c ≡ refused n
  unfolding location_of discovery_of discovery_number
  refuses_location e = stage_stops (location_number c) _ _ _ e

  -- one that is, at the place t
  module _ {t : Table} (located : location_of c ≡ gives (numbers t)) where
    pub same_faults : {bar : List ℕ} {n : ℕ} → bar ≡ named t.bir c.lo c.low c.hi c.high → n ≡ t.entries → faults_of bar t.start n ≡ faults_of (bar_of c) (table_of c) (entries_of c)
    same_faults e f = let p = table_located c located in rw (e ∙ bar_named c p.bir, p.start, f ∙ p.entries)

    located_number : discovery_number c ≡ faults_of (bar_of c) (table_of c) (entries_of c)
    unfolding discovery_number
    located_number = two_pass _ (table_located c located).zero

    pub refuses_faults : faults_of (bar_of c) (table_of c) (entries_of c) ≢ 0 → discovery_of c ≡ refused (faults_of (bar_of c) (table_of c) (entries_of c))
    unfolding discovery_of
    refuses_faults h = ap (λ (k : ℕ). unless k (gives (bir_of c ∷ table_of c ∷ entries_of c ∷ []))) located_number ∙ unless_number _ _ h

    pub accepts : faults_of (bar_of c) (table_of c) (entries_of c) ≡ 0 → discovery_of c ≡ gives (numbers t)
    unfolding discovery_of location_of
    accepts e = unless_passes _ (located_number ∙ e) ∙ ap gives (unless_gives (location_number c) located).1

  -- ---- an accepted capture

  pub table_place : {t : Table} → discovery_of c ≡ gives (numbers t) → Tabled c (discovery_number c) t
  unfolding discovery_of
  table_place e = tabled_is c (discovery_number c) e

  -- its table is located, and without a fault
  pub was_located : discovery_number c ≡ 0 → location_number c ≡ 0
  unfolding discovery_number
  was_located z = ((two_zero _ _).0 z).0

  pub no_fault : discovery_number c ≡ 0 → faults_of (bar_of c) (table_of c) (entries_of c) ≡ 0
  unfolding discovery_number
  no_fault z = ((two_zero _ _).0 z).1
