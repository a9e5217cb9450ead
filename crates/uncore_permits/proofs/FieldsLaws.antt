-- The fields that can be written, and what refuses a write of one, test by test. Assumes nothing.
use Prim.Native.Nat.{ℕ, zero, suc, ◌+◌, ◌^◌, ◌≤◌, ◌<◌}
use mathlib.Core.Path.{◌≡◌, refl, sym, ap, ◌∙◌}
use mathlib.Core.Bool.{Bool, true, false, ◌&&◌}
use mathlib.Core.List.{List, [], ◌∷◌}
use mathlib.Core.Logic.{◌≢◌}
use native.Mathlib.Nat.{le_of_suc-le-suc, not-suc-le-zero}
use native.Mathlib.Omega.{arith}
use borrow.Author.Tests.{lt-ltb, le-ltb, le-leb, leb-true, lt-leb, leb-false, eq-eqb, ne_eqb, eqb-false}
use lib.Dec.{ltb, leb}
use lib.ListN.{length, get_or, get_or-eq_default}
use Rattle.words.specs.Answers.{refused, gives, unless, first}
use Rattle.words.proofs.AnswerLaws.{unless_gives, unless_refused, first_skip, first_take, first_end, first_zero}
use Rattle.words.proofs.TestLaws.{and_first, and_second, and_holds, and_both}
use Rattle.fields.specs.Bits.{field, field_stored}
use Rattle.fields.proofs.WordLaws.{held_fits, held_wide}
use Rattle.uncore_controls.specs.Control.{control_of}
use Rattle.uncore_controls.specs.declared.control.Control.{Control}
use Rattle.uncore_permits.specs.ControlFields.{rows, fields_of, lowest_of, width_of, extent_of, next_word, ratio, above, word_number, word_of}
use Rattle.uncore_permits.specs.declared.control_fields.Extent.{Extent}

-- ---- the fields

-- a number past a register's fields names none
pub none_past : (r which : ℕ) → length (fields_of r) ≤ which → extent_of r which ≡ record { at = 0; width = 0 }
unfolding lowest_of width_of
none_past r which h = ap (λ (f : ℕ × ℕ). record { at = f.0; width = f.1 }) (get_or-eq_default (fields_of r) (0, 0) h)

-- a register that is none of the three has none
pub no_fields : (r : ℕ) → r ≢ 3 → r ≢ 4 → r ≢ 5 → fields_of r ≡ []
unfolding fields_of
no_fields zero a b c = refl
no_fields (suc zero) a b c = refl
no_fields (suc (suc zero)) a b c = refl
no_fields (suc (suc (suc zero))) a b c = absurd (a refl)
no_fields (suc (suc (suc (suc zero)))) a b c = absurd (b refl)
no_fields (suc (suc (suc (suc (suc zero))))) a b c = absurd (c refl)
no_fields (suc (suc (suc (suc (suc (suc r)))))) a b c = refl

-- so a field that can be written is of register 3 or a later one
pub writable_late : (r which : ℕ) → which < length (fields_of r) → 3 ≤ r
unfolding fields_of
writable_late zero which h = absurd (not-suc-le-zero h)
writable_late (suc zero) which h = absurd (not-suc-le-zero h)
writable_late (suc (suc zero)) which h = absurd (not-suc-le-zero h)
writable_late (suc (suc (suc r))) which h = omega arith

-- one test over the whole table: every field has bits, and lies in 64
abbrev sound : List (ℕ × ℕ) → Bool
sound [] = true
sound (f ∷ fs) = (leb 1 f.1 && leb (f.0 + f.1) 64) && sound fs

abbrev all_sound : List (List (ℕ × ℕ)) → Bool
all_sound [] = true
all_sound (fs ∷ rs) = sound fs && all_sound rs

row_sound : (rs : List (List (ℕ × ℕ))) → all_sound rs ≡ true → (r : ℕ) → sound (get_or rs r []) ≡ true
row_sound [] e r = refl
row_sound (fs ∷ rs) e zero = (and_both (sound fs) _ e).0
row_sound (fs ∷ rs) e (suc r) = row_sound rs (and_both (sound fs) _ e).1 r

field_sound : (fs : List (ℕ × ℕ)) → sound fs ≡ true → (k : ℕ) → k < length fs → (1 ≤ (get_or fs k (0, 0)).1) × ((get_or fs k (0, 0)).0 + (get_or fs k (0, 0)).1 ≤ 64)
field_sound [] e k h = absurd (not-suc-le-zero h)
field_sound (f ∷ fs) e zero h =
    let b = and_both (leb 1 f.1) _ (and_both (leb 1 f.1 && leb (f.0 + f.1) 64) (sound fs) e).0 in (leb-true _ _ b.0, leb-true _ _ b.1)
field_sound (f ∷ fs) e (suc k) h = field_sound fs (and_both (leb 1 f.1 && leb (f.0 + f.1) 64) (sound fs) e).1 k (le_of_suc-le-suc h)

module _ (r which : ℕ) where
  there : which < length (fields_of r) → (1 ≤ width_of r which) × (lowest_of r which + width_of r which ≤ 64)
  unfolding fields_of lowest_of width_of
  there = field_sound (fields_of r) (row_sound rows refl r) which

  -- a field that is there has bits
  pub some_bits : which < length (fields_of r) → width_of r which ≢ 0
  some_bits h e = omega (arith, (there h).0, e)

  pub no_bits : length (fields_of r) ≤ which → width_of r which ≡ 0
  no_bits h = ap (λ (e : Extent). e.width) (none_past r which h)

  -- so one that has bits is there
  pub has_field : width_of r which ≢ 0 → which < length (fields_of r)
  has_field h = by (leb (length (fields_of r)) which) refl
    where
      by : (b : Bool) → leb (length (fields_of r)) which ≡ b → which < length (fields_of r)
      by true e = absurd (h (no_bits (leb-true _ _ e)))
      by false e = leb-false _ _ e

  -- every field lies in 64 bits, so that what the code stores is the field replaced
  pub fits : lowest_of r which + width_of r which ≤ 64
  fits = by (leb (length (fields_of r)) which) refl
    where
      by : (b : Bool) → leb (length (fields_of r)) which ≡ b → lowest_of r which + width_of r which ≤ 64
      by true e = let q = none_past r which (leb-true _ _ e) in omega (arith, ap (λ (x : Extent). x.at) q, ap (λ (x : Extent). x.width) q)
      by false e = (there (leb-false _ _ e)).1

  pub stored_whole : (x v : ℕ) → field_stored 64 (lowest_of r which) (width_of r which) x v ≡ next_word r which x v
  unfolding next_word
  stored_whole x v = rw (le-leb (lowest_of r which + width_of r which) 64 fits)

-- ---- the tests of a write

-- what an accepted write has passed
pub record Passed (r which x value : ℕ) : Type 0 where
  pub writable : which < length (fields_of r)
  pub narrow : value < 2 ^ width_of r which
  pub ordered : (ratio r which && above (next_word r which x value)) ≡ false

of_three : (a b c : Bool) {m : ℕ} → first ((a, 27) ∷ (b, 17) ∷ (c, 28) ∷ []) ≡ m → m ≢ 0 → 17 ≤ m
unfolding first
of_three true b c e h = omega (arith, e)
of_three false true c e h = omega (arith, e)
of_three false false true e h = omega (arith, e)
of_three false false false e h = absurd (h (sym e))

module _ (r which x value : ℕ) where
  by_number : {m : ℕ} → word_number r which x value ≡ m → word_of r which x value ≡ unless m (gives (next_word r which x value ∷ []))
  unfolding word_of
  by_number e = ap (λ (k : ℕ). unless k (gives (next_word r which x value ∷ []))) e

  pub word_unwritable : width_of r which ≡ 0 → word_of r which x value ≡ refused 27
  unfolding word_number
  word_unwritable e = by_number (first_take _ _ (eq-eqb _ _ e))

  module _ (w : width_of r which ≢ 0) where
    pub word_wide : 2 ^ width_of r which ≤ value → word_of r which x value ≡ refused 17
    unfolding word_number
    word_wide h = by_number (first_skip _ _ (ne_eqb _ _ w) ∙ first_take _ _ (le-leb _ _ h))

    module _ (n : value < 2 ^ width_of r which) where
      last : word_number r which x value ≡ first ((ratio r which && above (next_word r which x value), 28) ∷ [])
      unfolding word_number
      last = first_skip _ _ (ne_eqb _ _ w) ∙ first_skip _ _ (lt-leb _ _ n)

      pub word_crossed : ratio r which ≡ true → above (next_word r which x value) ≡ true → word_of r which x value ≡ refused 28
      word_crossed a h = by_number (last ∙ first_take _ _ (and_holds a h))

      right : (ratio r which && above (next_word r which x value)) ≡ false → word_of r which x value ≡ gives (next_word r which x value ∷ [])
      right h = by_number (last ∙ first_skip _ _ h ∙ first_end)

      pub word_other : ratio r which ≡ false → word_of r which x value ≡ gives (next_word r which x value ∷ [])
      word_other a = right (and_first _ a)

      pub word_ordered : above (next_word r which x value) ≡ false → word_of r which x value ≡ gives (next_word r which x value ∷ [])
      word_ordered h = right (and_second (ratio r which) h)

  -- ---- the ways of the code: e is the field's extent, h what the field can hold of the value, y the next content

  module _ {e : Extent} (q : e ≡ extent_of r which) where
    wide : e.width ≡ width_of r which
    wide = ap (λ (t : Extent). t.width) q

    pub next_none : e.width ≡ 0 → word_of r which x value ≡ refused 27
    next_none z = word_unwritable (sym wide ∙ z)

    module _ (some : e.width ≢ 0) {h : ℕ} (f : h ≡ field 0 e.width value) where
      has : width_of r which ≢ 0
      has z = some (wide ∙ z)

      pub next_wide : h ≢ value → word_of r which x value ≡ refused 17
      next_wide d = word_wide has (rw (sym wide) (held_wide _ _ f d))

      module _ (g : h ≡ value) {y : ℕ} (w : y ≡ field_stored 64 e.at e.width x value) where
        narrow : value < 2 ^ width_of r which
        narrow = rw (sym wide) (held_fits _ _ f g)

        is : y ≡ next_word r which x value
        is = w ∙ ap (λ (t : Extent). field_stored 64 t.at t.width x value) q ∙ stored_whole r which x value

        pub next_other : ratio r which ≡ false → word_of r which x value ≡ gives (y ∷ [])
        next_other a = rw is (word_other has narrow a)

        -- the pair that the write would leave
        module _ {k : Control} (c : k ≡ control_of y) where
          judged : ltb k.maximum k.minimum ≡ above (next_word r which x value)
          unfolding above
          judged = ap (λ (t : Control). ltb t.maximum t.minimum) (c ∙ ap control_of is)

          pub next_crossed : ratio r which ≡ true → k.maximum < k.minimum → word_of r which x value ≡ refused 28
          next_crossed a l = word_crossed has narrow a (sym judged ∙ lt-ltb _ _ l)

          pub next_ordered : k.minimum ≤ k.maximum → word_of r which x value ≡ gives (y ∷ [])
          next_ordered l = rw is (word_ordered has narrow (sym judged ∙ le-ltb _ _ l))

  -- ---- what the answer tells

  pub word_given : {y : ℕ} → word_of r which x value ≡ gives (y ∷ []) → (word_number r which x value ≡ 0) × (next_word r which x value ≡ y)
  unfolding word_of
  word_given e = let u = unless_gives (word_number r which x value) e in (u.0, ap (λ (l : List ℕ). get_or l 0 0) u.1)

  pub word_refused : {m : ℕ} → word_of r which x value ≡ refused m → (word_number r which x value ≡ m) × (m ≢ 0)
  unfolding word_of
  word_refused e = unless_refused (word_number r which x value) _ e

  -- the write's own numbers are 17 and above
  pub word_low : {m : ℕ} → word_of r which x value ≡ refused m → 17 ≤ m
  unfolding word_number
  word_low e = let g = word_refused e in of_three _ _ _ g.0 g.1

  pub passed : word_number r which x value ≡ 0 → Passed r which x value
  unfolding word_number
  passed e =
      let f = first_zero _ tt e in
      record { writable = has_field r which (eqb-false _ _ f.0); narrow = leb-false _ _ f.1.0; ordered = f.1.1.0 }

-- what the proof of `next_word` goes by
pub ruleset next_ways = (next_none, next_wide, next_other, next_crossed, next_ordered)
