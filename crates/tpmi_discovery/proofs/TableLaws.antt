-- The table located, stage by stage: where each stage refuses, and what is known where all pass. Assumes nothing.
use Prim.Native.Nat.{ℕ, ◌+◌, ◌*◌, ◌≤◌, ◌<◌, ◌^◌}
use mathlib.Core.Path.{◌≡◌, sym, ap, ◌∙◌, subst}
use mathlib.Core.Bool.{true, false, not, ◌&&◌}
use mathlib.Core.List.{List, [], ◌∷◌}
use mathlib.Core.Logic.{◌⊎◌, inl, inr, ◌≢◌}
use native.Mathlib.Omega.{arith}
use borrow.Author.Tests.{lt-ltb, le-ltb}
use lib.Dec.{ltb, eqb}
use lib.ListN.{length}
use Rattle.words.specs.Answers.{Answer, refused, gives, unless, number_in, value_in, first}
use Rattle.words.specs.Bytes.{number_at}
use Rattle.words.proofs.TestLaws.{as_must, not_as_must, and_first, and_second, and_holds}
use Rattle.words.proofs.AnswerLaws.{unless_number, unless_gives, unless_passes, first_skip, first_take, first_end, earliest_stop, stage_passes, stage_last}
use Rattle.capture.specs.Capture.{Capture}
use Rattle.capture.specs.Places.{named}
use Rattle.tpmi_structure.specs.Facts.{Narrow}
use Rattle.tpmi_structure.specs.Structure.{vsec_at}
use Rattle.tpmi_structure.specs.declared.structure.Vsec.{Vsec}
use Rattle.tpmi_structure.proofs.Theorems.{narrow_at}
use Rattle.tpmi_walk.specs.Walk.{walk_of}
use Rattle.tpmi_walk.proofs.WalkFact.{Kept, walk_kept}
use Rattle.tpmi_discovery.specs.Table.{misshapen, before_walk, bir_number, table_number, table_in, named_by, structure_of, bir_of, table_of, entries_of, bar_of, location_number, location_of}
use Rattle.tpmi_discovery.specs.Told.{numbers}
use Rattle.tpmi_discovery.specs.declared.table.Table.{Table}

-- ---- 1 and 2

module _ (config : List ℕ) (lo hi : ℕ) where
  pub early_one : misshapen (length config) lo hi ≡ true → before_walk config lo hi ≡ 1
  unfolding before_walk
  early_one e = first_take _ _ e

  module _ (shaped : misshapen (length config) lo hi ≡ false) where
    pub early_two : number_at config 0 2 ≢ 0x8086 → before_walk config lo hi ≡ 2
    unfolding before_walk
    early_two h = first_skip _ _ shaped ∙ first_take _ _ (not_as_must h)

    pub early_none : number_at config 0 2 ≡ 0x8086 → before_walk config lo hi ≡ 0
    unfolding before_walk
    early_none e = first_skip _ _ shaped ∙ first_skip _ _ (as_must e) ∙ first_end

-- ---- 7

module _ (s : List ℕ) (b t n : ℕ) where
  pub table_past : n ≢ 0 → length s < t + n * 8 → table_in s b t n ≡ refused 7
  unfolding table_in table_number
  table_past h l =
      let seven : first ((not (eqb n 0) && ltb (length s) (t + n * 8), 7) ∷ []) ≡ 7 = first_take _ _ (and_holds (not_as_must h) (lt-ltb _ _ l)) in
      ap (λ (k : ℕ). unless k (gives (b ∷ t ∷ n ∷ []))) seven

  -- the table's end is not tested where it has no entry
  fits_none : (n ≡ 0) ⊎ (t + n * 8 ≤ length s) → table_number s t n ≡ 0
  unfolding table_number
  fits_none (inl e) = first_skip _ _ (and_first _ (as_must e)) ∙ first_end
  fits_none (inr l) = first_skip _ _ (and_second (not (eqb n 0)) (le-ltb _ _ l)) ∙ first_end

  pub table_fits : (n ≡ 0) ⊎ (t + n * 8 ≤ length s) → table_in s b t n ≡ gives (b ∷ t ∷ n ∷ [])
  unfolding table_in
  table_fits f = unless_passes _ (fits_none f)

-- ---- 6

module _ (v : Vsec) (lo : ℕ) (low : List ℕ) (hi : ℕ) (high : List ℕ) where
  pub bir_neither : v.bir ≢ lo → v.bir ≢ hi → named_by v lo low hi high ≡ refused 6
  unfolding named_by bir_number
  bir_neither h k =
      let six : first ((not (eqb v.bir lo) && not (eqb v.bir hi), 6) ∷ []) ≡ 6 = first_take _ _ (and_holds (not_as_must h) (not_as_must k)) in
      ap (λ (k : ℕ). unless k (gives (v.bir ∷ v.offset ∷ v.entries ∷ []))) (earliest_stop _ _ (λ z. omega (arith, six, z)) ∙ six)

  bir_none : (v.bir ≡ lo) ⊎ (v.bir ≡ hi) → bir_number v.bir lo hi ≡ 0
  unfolding bir_number
  bir_none (inl e) = first_skip _ _ (and_first _ (as_must e)) ∙ first_end
  bir_none (inr e) = first_skip _ _ (and_second (not (eqb v.bir lo)) (as_must e)) ∙ first_end

  pub bir_either : (v.bir ≡ lo) ⊎ (v.bir ≡ hi) → named_by v lo low hi high ≡ table_in (named v.bir lo low hi high) v.bir v.offset v.entries
  unfolding named_by table_in
  bir_either e = stage_passes _ _ (bir_none e) (stage_last _ _)

-- ---- all stages

pub structure_at : (c : Capture) {at : ℕ} → walk_of c.config ≡ gives (at ∷ []) → structure_of c ≡ vsec_at c.config at
unfolding structure_of
structure_at c w = ap (λ (a : Answer). vsec_at c.config (value_in a 0)) w

module _ (c : Capture) where
  pub refuses_early : before_walk c.config c.lo c.hi ≢ 0 → location_of c ≡ refused (before_walk c.config c.lo c.hi)
  unfolding location_of location_number
  refuses_early h = ap (λ (k : ℕ). unless k (gives (bir_of c ∷ table_of c ∷ entries_of c ∷ []))) (earliest_stop _ _ h) ∙ unless_number _ _ h

  module _ (early : before_walk c.config c.lo c.hi ≡ 0) where
    pub refuses_walk : {n : ℕ} → walk_of c.config ≡ refused n → location_of c ≡ refused n
    unfolding location_of location_number
    refuses_walk {n} w =
        let h : number_in (walk_of c.config) ≢ 0 = λ z. absurd (omega (arith, subst Kept w (walk_kept c.config), sym (ap number_in w) ∙ z)) in
        stage_passes _ _ early (ap (λ (k : ℕ). unless k (gives (bir_of c ∷ table_of c ∷ entries_of c ∷ []))) (earliest_stop _ _ h) ∙ unless_number _ _ h) ∙ ap (λ (a : Answer). refused (number_in a)) w

    pub passes_walk : {at : ℕ} → walk_of c.config ≡ gives (at ∷ []) → location_of c ≡ named_by (vsec_at c.config at) c.lo c.low c.hi c.high
    unfolding location_of location_number named_by bar_of
    passes_walk {at} w = stage_passes _ _ early (stage_passes _ _ (ap number_in w) (ap (λ (v : Vsec). named_by v c.lo c.low c.hi c.high) (structure_at c w)))

-- ---- any capture's table

-- the numbers of a structure stay within their widths, whatever the capture
pub structure_narrow : (c : Capture) → Narrow (structure_of c)
unfolding structure_of
structure_narrow c = narrow_at c.config _

module _ (c : Capture) where
  pub table_bound : table_of c < 2 ^ 32
  table_bound = omega (arith, (structure_narrow c).offset)

  -- the BAR capture with the number that a place has is the one that tBIR names
  pub bar_named : {b : ℕ} → b ≡ bir_of c → named b c.lo c.low c.hi c.high ≡ bar_of c
  unfolding bar_of
  bar_named e = ap (λ (x : ℕ). named x c.lo c.low c.hi c.high) e

-- ---- a table that a lookup gives

-- c's table, where the number shows that it is given
pub record Tabled (c : Capture) (number : ℕ) (t : Table) : Type 0 where
  pub zero : number ≡ 0
  pub bir : t.bir ≡ bir_of c
  pub start : t.start ≡ table_of c
  pub entries : t.entries ≡ entries_of c

pub tabled_is : (c : Capture) (number : ℕ) {t : Table} → unless number (gives (bir_of c ∷ table_of c ∷ entries_of c ∷ [])) ≡ gives (numbers t) → Tabled c number t
tabled_is c number e = let u = unless_gives number e in let v = u.1 in record { zero = u.0; bir = cc; start = cc; entries = cc }

pub table_located : (c : Capture) {t : Table} → location_of c ≡ gives (numbers t) → Tabled c (location_number c) t
unfolding location_of
table_located c e = tabled_is c (location_number c) e
