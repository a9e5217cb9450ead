-- Laws for the code over a table of fields: when values make no word, and what the fields that are left make of it. Assumes nothing.
use Prim.Native.Nat.{ℕ, ◌+◌, ◌-◌, ◌^◌, ◌≤◌, ◌<◌}
use mathlib.Core.Path.{◌≡◌, sym, ◌∙◌, subst}
use mathlib.Core.Logic.{◌≢◌}
use mathlib.Core.Bool.{true, false, not, ◌||◌}
use mathlib.Core.List.{List, [], ◌∷◌}
use native.Mathlib.Nat.{div-one, mod-eq_of_lt, zero-add, add-zero, add_assoc}
use native.Mathlib.Decide.{dec_le}
use native.Mathlib.Omega.{arith}
use borrow.Author.Tests.{le-leb, lt-ltb, le-ltb, ltb-false, eqb-true, eq-eqb, ne_eqb, not-false}
use lib.Dec.{ltb, eqb}
use lib.ListN.{length}
use Rattle.words.specs.Answers.{Answer, refused, gives, unless, first}
use Rattle.fields.specs.Bits.{field, field_stored}
use Rattle.fields.specs.Tables.{with_fields, total, Fit, wider, misfit, written_word}
use Rattle.words.proofs.TestLaws.{or_take, or_second, or_neither}
use Rattle.fields.proofs.FieldLaws.{field_lt}
use Rattle.fields.proofs.TableLaws.{wider_skip, narrow_fit}

-- ---- when values make no word

module _ (ws vs : List ℕ) where
  pub misfit_long : length ws ≢ length vs → misfit ws vs ≡ true
  unfolding misfit
  misfit_long h = rw (ne_eqb _ _ h)

  -- a value for each field of a table in 64 bits: the widths decide
  pub misfit_table : length ws ≡ length vs → total ws ≤ 64 → misfit ws vs ≡ wider ws vs
  unfolding misfit
  misfit_table e h = rw (eq-eqb _ _ e, le-ltb _ _ h)

  pub misfit_fits : misfit ws vs ≡ false → Fit ws vs × (total ws ≤ 64)
  unfolding misfit
  misfit_fits e =
      let p = or_neither (not (eqb (length ws) (length vs))) _ e in
      let q = or_neither (ltb 64 (total ws)) _ p.1 in
      (narrow_fit ws vs (eqb-true _ _ (not-false _ p.0)) q.1, ltb-false _ _ q.0)

-- ---- what a field holds of a value is the value itself exactly where it fits

pub held_fits : (w v : ℕ) {h : ℕ} → h ≡ field 0 w v → h ≡ v → v < 2 ^ w
held_fits w v e t = subst (λ (x : ℕ). x < 2 ^ w) (sym e ∙ t) (field_lt 0 w v)

pub held_whole : (w v : ℕ) → v < 2 ^ w → field 0 w v ≡ v
unfolding field
held_whole w v l = rw div-one (mod-eq_of_lt l)

pub held_wide : (w v : ℕ) {h : ℕ} → h ≡ field 0 w v → h ≢ v → 2 ^ w ≤ v
held_wide w v e t = by (dec_le (2 ^ w) v)
  where
    by : Dec (2 ^ w ≤ v) → 2 ^ w ≤ v
    by (yes l) = l
    by (no l) = absurd (t (e ∙ held_whole w v (omega arith)))

-- ---- a loop over the fields: what those that are left make of the word x, from place p on

-- 17, or the word with their values in it
abbrev pub rest_word : ℕ → ℕ → List ℕ → List ℕ → Answer
rest_word p x ws vs = unless (first ((ltb 64 (p + total ws) || wider ws vs, 17) ∷ [])) (gives (with_fields p ws x vs ∷ []))

-- all of them
pub rest_all : (ws vs : List ℕ) → length ws ≡ length vs → rest_word 0 0 ws vs ≡ written_word ws vs
unfolding written_word misfit
rest_all ws vs e = rw (eq-eqb _ _ e, zero-add)

-- none
pub rest_none : (p x : ℕ) {us : List ℕ} (ts : List ℕ) → us ≡ [] → p ≤ 64 → rest_word p x us ts ≡ gives (x ∷ [])
unfolding first wider with_fields
rest_none p x ts e h = rw (e, add-zero, le-ltb 64 p h)

-- the next one has w bits and holds v
module _ (p x : ℕ) {w v : ℕ} {us ts ws vs : List ℕ} (e : (us ≡ w ∷ ws) × (ts ≡ v ∷ vs)) where
  rest_misfit : (ltb 64 (p + (w + total ws)) || wider (w ∷ ws) (v ∷ vs)) ≡ true → rest_word p x us ts ≡ refused 17
  unfolding first
  rest_misfit h = rw (e.0, e.1, h)

  pub rest_past : p ≤ 64 → 64 - p < w → rest_word p x us ts ≡ refused 17
  rest_past l h = rest_misfit (or_take (wider (w ∷ ws) (v ∷ vs)) (lt-ltb 64 (p + (w + total ws)) (omega arith)))

  pub rest_wide : 2 ^ w ≤ v → rest_word p x us ts ≡ refused 17
  unfolding wider
  rest_wide h = rest_misfit (or_second (ltb 64 (p + (w + total ws))) (or_take (wider ws vs) (le-leb (2 ^ w) v h)))

  -- y is the word with the field as the code has it
  pub rest_next : {y : ℕ} → p + w ≤ 64 → v < 2 ^ w → y ≡ field_stored 64 p w x v → rest_word (p + w) y ws vs ≡ rest_word p x us ts
  unfolding with_fields
  rest_next l h s = rw (e.0, e.1, s, le-leb (p + w) 64 l, wider_skip w v ws vs h, add_assoc)
