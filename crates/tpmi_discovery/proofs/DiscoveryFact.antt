-- Discovery accepts exactly the captures that keep the rules, and refuses each other one with the number of the first rule it breaks: what
-- is known of the table's location, then the faults of its entries. Assumes nothing.
use Prim.Native.Nat.{ℕ, ◌≤◌}
use mathlib.Core.Path.{◌≡◌, refl, sym, ap, ◌∙◌}
use mathlib.Core.Bool.{Bool, true, false}
use mathlib.Core.List.{[], ◌∷◌}
use mathlib.Core.Logic.{◌≢◌}
use native.Mathlib.Omega.{arith}
use borrow.Author.Tests.{eqb-true, eqb-false}
use lib.Dec.{eqb}
use Rattle.words.specs.Answers.{Answer, refused, gives, number_in, earliest}
use Rattle.words.proofs.AnswerLaws.{earliest_stop, two_pass, two_zero, earliest_upto, first_upto, earliest_end}
use Rattle.capture.specs.Capture.{Capture}
use Rattle.capture.specs.Places.{named}
use Rattle.tpmi_structure.specs.Structure.{vsec_at}
use Rattle.tpmi_structure.specs.declared.structure.Vsec.{Vsec}
use Rattle.tpmi_walk.specs.Facts.{Ends}
use Rattle.tpmi_walk.specs.Walk.{walk_of}
use Rattle.tpmi_walk.proofs.WalkFact.{walk_fact, walk_kept, Kept}
use Rattle.tpmi_banks.specs.Faults.{faults_of}
use Rattle.tpmi_banks.proofs.FaultFact.{table_faults, faults_small}
use Rattle.tpmi_discovery.specs.Table.{before_walk, bir_number, table_number, bar_of, table_of, entries_of, location_number}
use Rattle.tpmi_discovery.specs.Discovery.{discovery_number}
use Rattle.tpmi_discovery.specs.Facts.{bar_at, Keeps, Breaks, DiscoveryFact}
use Rattle.tpmi_discovery.specs.Facts.Breaks.{lacks, entry}
use Rattle.tpmi_discovery.proofs.TableLaws.{structure_at}
use Rattle.tpmi_discovery.proofs.LocationFact.{location_fact}

-- ---- the faults of the table at the place that the walk takes

abbrev FaultsAt : Capture → ℕ → ℕ
FaultsAt c a = faults_of (bar_at c a) (vsec_at c.config a).offset (vsec_at c.config a).entries

faults_at : (c : Capture) {a : ℕ} → Ends c.config (gives (a ∷ [])) → faults_of (bar_of c) (table_of c) (entries_of c) ≡ FaultsAt c a
unfolding bar_of
faults_at c w =
    ap (λ (v : Vsec). faults_of (named v.bir c.lo c.low c.hi c.high) v.offset v.entries) (structure_at c ((walk_fact c.config _).1 w))

-- ---- from what a capture is to the number

keeps_zero : (c : Capture) → Keeps c → discovery_number c ≡ 0
unfolding discovery_number
keeps_zero c k =
    (two_zero _ _).1 ((location_fact c).located.1 k.has, faults_at c k.has.taken ∙ (table_faults (bar_at c k.has.place) _ _).none.1 k.clean)

breaks_number : (c : Capture) (n : ℕ) → n ≢ 0 → Breaks c n → discovery_number c ≡ n
unfolding discovery_number
breaks_number c n z (lacks l) = let e = ((location_fact c).refused_by n z).1 l in earliest_stop _ _ (λ q. z (sym e ∙ q)) ∙ e
breaks_number c _ z (entry h {k} {m} l s e i) =
    two_pass _ ((location_fact c).located.1 h) ∙ faults_at c h.taken ∙ ((table_faults (bar_at c h.place) _ _).some m s).1 (k, l, e, i)

-- ---- and from the number to what a capture is

zero_keeps : (c : Capture) → discovery_number c ≡ 0 → Keeps c
unfolding discovery_number
zero_keeps c e =
    let z = (two_zero _ _).0 e in
    let h = (location_fact c).located.0 z.0 in
    record { has = h; clean = (table_faults (bar_at c h.place) _ _).none.0 (sym (faults_at c h.taken) ∙ z.1) }

number_breaks : (c : Capture) (n : ℕ) → n ≢ 0 → discovery_number c ≡ n → Breaks c n
unfolding discovery_number
number_breaks c n s e = by (eqb (location_number c) 0) refl
  where
    by : (t : Bool) → eqb (location_number c) 0 ≡ t → Breaks c n
    by false l = lacks (((location_fact c).refused_by n s).0 (sym (earliest_stop _ _ (eqb-false _ _ l)) ∙ e))
    by true l =
        let z = eqb-true _ _ l in
        let h = (location_fact c).located.0 z in
        let r = ((table_faults (bar_at c h.place) _ _).some n s).0 (sym (faults_at c h.taken) ∙ sym (two_pass _ z) ∙ e) in
        entry h r.1 s r.2 r.3

pub discovery_fact : (c : Capture) → DiscoveryFact c
discovery_fact c = record { accepted = (zero_keeps c, keeps_zero c); refused_by = λ n h. (number_breaks c n h, breaks_number c n h) }

-- discovery gives no number above 11, so those of the lookups are told apart
walk_small : (w : Answer) → Kept w → number_in w ≤ 11
walk_small (refused n) k = omega (arith, k.1)
walk_small (gives vs) k = omega arith

pub discovery_small : (c : Capture) → discovery_number c ≤ 11
unfolding discovery_number location_number before_walk bir_number table_number
discovery_small c =
    earliest_upto 11 _ _ (earliest_upto 11 _ _ (first_upto 11 _ tt) (earliest_upto 11 _ _ (walk_small (walk_of c.config) (walk_kept c.config))
    (earliest_upto 11 _ _ (first_upto 11 _ tt) (earliest_upto 11 _ _ (first_upto 11 _ tt) none))))
    (earliest_upto 11 _ _ (faults_small (bar_of c) (table_of c) (entries_of c)) none)
  where
    none : earliest [] ≤ 11
    none = omega (arith, earliest_end)
