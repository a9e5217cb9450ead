-- The VSEC structure and its table of fields: from two words, from bytes, and back; its tests, read plainly. Assumes nothing.
use Prim.Native.Nat.{ℕ, ◌+◌, ◌*◌, ◌^◌, ◌%◌, ◌≤◌, ◌<◌}
use mathlib.Core.Path.{◌≡◌, refl, sym, ap, ◌∙◌}
use mathlib.Core.Bool.{Bool, true, false}
use mathlib.Core.List.{List, [], ◌∷◌, ◌++◌}
use mathlib.Core.Logic.{◌≢◌}
use native.Mathlib.Nat.{mul-div_cancel, zero-lt-suc}
use native.Mathlib.Omega.{arith}
use borrow.Author.Tests.{lt-ltb, le-ltb, ltb-false, eqb-true, not-false}
use lib.ListN.{length}
use Rattle.words.specs.Answers.{refused, gives, unless}
use Rattle.words.specs.Bytes.{number_at, stored}
use Rattle.fields.specs.Bits.{field}
use Rattle.fields.specs.Tables.{fields, with_fields, Fit, wider}
use Rattle.fields.proofs.Structures.{unless_refused, unless_accepted}
use Rattle.words.proofs.TestLaws.{as_must, not_as_must, or_skip, or_second, or_neither, never_both}
use Rattle.words.proofs.AnswerLaws.{first_skip, first_take, first_end, first_zero}
use Rattle.words.proofs.NumberLaws.{number_past, number_split}
use Rattle.words.proofs.StoreLaws.{stored_two}
use Rattle.fields.proofs.FieldLaws.{field_under, field_over}
use Rattle.fields.proofs.TableLaws.{fields_lt, side_written, narrow_fit, fit_narrow}
use Rattle.tpmi_structure.specs.Structure.{vsec_of, vsec_at, widths, low_widths, high_widths, values, low_values, high_values, fixed_wrong, free_widths, free_values, too_wide, numbers, read_number, read_of, write_number, written}
use Rattle.tpmi_structure.specs.Facts.{Fixed, Narrow}
use Rattle.tpmi_structure.specs.declared.structure.Vsec.{Vsec}

-- the structure that two words hold, each field in the word where it lies
abbrev of_words : ℕ → ℕ → Vsec
of_words low high =
    record {
      identifier = field 0 16 low;
      version = field 16 4 low;
      next = field 20 12 low;
      id = field 32 16 low;
      revision = field 48 4 low;
      size = field 52 12 low;
      reserved = field 0 16 high;
      entries = field 16 8 high;
      words = field 24 8 high;
      bir = field 32 3 high;
      offset = field 35 29 high * 8;
    }

module _ (low high : ℕ) (h : low < 2 ^ 64) where
  under : (p w : ℕ) → p + w ≤ 64 → field p w (high * 2 ^ 64 + low) ≡ field p w low
  under = field_under 64 low high h

  over : (q u : ℕ) → field (64 + q) u (high * 2 ^ 64 + low) ≡ field q u high
  over = field_over 64 low high h

  pub of_two_words : vsec_of (high * 2 ^ 64 + low) ≡ of_words low high
  unfolding vsec_of
  of_two_words =
      rw (
        under 0 16 (omega arith),
        under 16 4 (omega arith),
        under 20 12 (omega arith),
        under 32 16 (omega arith),
        under 48 4 (omega arith),
        under 52 12 (omega arith),
        over 0 16,
        over 16 8,
        over 24 8,
        over 32 3,
        over 35 29,
      )

-- the sixteen bytes at a place, as two words
pub vsec_at_words : (s : List ℕ) (at : ℕ) → vsec_at s at ≡ vsec_of (number_at s (at + 8) 8 * 2 ^ 64 + number_at s at 8)
unfolding vsec_at
vsec_at_words s at = ap vsec_of (number_split s at 8 8)

pub vsec_at_past : (s : List ℕ) (at : ℕ) → length s ≤ at → vsec_at s at ≡ vsec_of 0
unfolding vsec_at
vsec_at_past s at h = ap vsec_of (number_past s at 16 h)

-- the numbers of what a number holds are its fields
pub values_of : (x : ℕ) → values (vsec_of x) ≡ fields 0 widths x
unfolding vsec_of fields
values_of x = ap (λ (k : ℕ). low_values (vsec_of x) ++ field 64 16 x ∷ field 80 8 x ∷ field 88 8 x ∷ field 96 3 x ∷ k ∷ []) (mul-div_cancel (field 99 29 x) (zero-lt-suc 7))

-- ---- the tests and their plain statements

pub fixed_right : (v : Vsec) → fixed_wrong v ≡ false → Fixed v
unfolding fixed_wrong
fixed_right v e =
    let a = or_neither _ _ e in
    let b = or_neither _ _ a.1 in
    let c = or_neither _ _ b.1 in
    let d = or_neither _ _ c.1 in
    let f = or_neither _ _ d.1 in
    record {
      identifier = eqb-true _ _ (not-false _ a.0);
      version = eqb-true _ _ (not-false _ b.0);
      id = eqb-true _ _ (not-false _ c.0);
      revision = eqb-true _ _ (not-false _ d.0);
      size = eqb-true _ _ (not-false _ f.0);
      words = eqb-true _ _ (not-false _ f.1);
    }

pub right_fixed : (v : Vsec) → Fixed v → fixed_wrong v ≡ false
unfolding fixed_wrong
right_fixed v f =
    or_skip _ (as_must f.identifier) ∙ or_skip _ (as_must f.version) ∙ or_skip _ (as_must f.id)
    ∙ or_skip _ (as_must f.revision) ∙ or_skip _ (as_must f.size) ∙ as_must f.words

pub narrow_right : (v : Vsec) → too_wide v ≡ false → Narrow v
unfolding too_wide
narrow_right v e =
    let a = or_neither (wider free_widths (free_values v)) _ e in
    let f = narrow_fit free_widths (free_values v) refl a.0 in
    record {
      next = omega (arith, f.0);
      reserved = omega (arith, f.1.0);
      entries = omega (arith, f.1.1.0);
      bir = omega (arith, f.1.1.1.0);
      offset = omega (arith, f.1.1.1.1.0);
      multiple = eqb-true _ _ (not-false _ a.1);
    }

pub right_narrow : (v : Vsec) → Narrow v → too_wide v ≡ false
unfolding too_wide
right_narrow v n =
    let fits : Fit free_widths (free_values v) = (omega (arith, n.next), (omega (arith, n.reserved), (omega (arith, n.entries), (omega (arith, n.bir), (omega (arith, n.offset), tt))))) in
    or_skip _ (fit_narrow free_widths (free_values v) fits) ∙ as_must n.multiple

-- numbers that are as they must be fit their fields
pub low_fits : (v : Vsec) → Fixed v → Narrow v → Fit low_widths (low_values v)
low_fits v f n = (omega (arith, f.identifier), (omega (arith, f.version), (omega (arith, n.next), (omega (arith, f.id), (omega (arith, f.revision), (omega (arith, f.size), tt))))))

pub high_fits : (v : Vsec) → Fixed v → Narrow v → Fit high_widths (high_values v)
high_fits v f n = (omega (arith, n.reserved), (omega (arith, n.entries), (omega (arith, f.words), (omega (arith, n.bir), (omega (arith, n.offset), tt)))))

-- numbers that are as they must be and do not fit their words are too wide; those that fit, with a multiple of 8, are not
module _ (v : Vsec) where
  pub wide_odd : v.offset % 8 ≢ 0 → too_wide v ≡ true
  unfolding too_wide
  wide_odd h = or_second (wider free_widths (free_values v)) (not_as_must h)

  module _ (f : Fixed v) where
    pub wide_low : wider low_widths (low_values v) ≡ true → too_wide v ≡ true
    wide_low h = by (too_wide v) refl
      where
        by : (b : Bool) → too_wide v ≡ b → too_wide v ≡ true
        by true e = e
        by false e = absurd (never_both h (fit_narrow low_widths (low_values v) (low_fits v f (narrow_right v e))))

    pub wide_high : wider high_widths (high_values v) ≡ true → too_wide v ≡ true
    wide_high h = by (too_wide v) refl
      where
        by : (b : Bool) → too_wide v ≡ b → too_wide v ≡ true
        by true e = e
        by false e = absurd (never_both h (fit_narrow high_widths (high_values v) (high_fits v f (narrow_right v e))))

  pub fit_words : v.offset % 8 ≡ 0 → wider low_widths (low_values v) ≡ false → wider high_widths (high_values v) ≡ false → too_wide v ≡ false
  fit_words m a b =
      let low = narrow_fit low_widths (low_values v) refl a in
      let high = narrow_fit high_widths (high_values v) refl b in
      right_narrow v
      (record {
        next = omega (arith, low.1.1.0);
        reserved = omega (arith, high.0);
        entries = omega (arith, high.1.0);
        bir = omega (arith, high.1.1.1.0);
        offset = omega (arith, high.1.1.1.1.0);
        multiple = m;
      })

-- ---- reading and writing

module _ (s : List ℕ) where
  pub read_short : length s < 16 → read_of s ≡ refused 25
  unfolding read_of read_number
  read_short h = ap (λ (n : ℕ). unless n (gives (numbers (vsec_at s 0)))) (first_take _ _ (lt-ltb _ _ h))

  module _ (h : 16 ≤ length s) where
    pub read_wrong : fixed_wrong (vsec_at s 0) ≡ true → read_of s ≡ refused 5
    unfolding read_of read_number
    read_wrong e = ap (λ (n : ℕ). unless n (gives (numbers (vsec_at s 0)))) (first_skip _ _ (le-ltb _ _ h) ∙ first_take _ _ e)

    pub read_right : fixed_wrong (vsec_at s 0) ≡ false → read_of s ≡ gives (numbers (vsec_at s 0))
    unfolding read_of read_number
    read_right e = ap (λ (n : ℕ). unless n (gives (numbers (vsec_at s 0)))) (first_skip _ _ (le-ltb _ _ h) ∙ first_skip _ _ e ∙ first_end)

module _ (s : List ℕ) (v : Vsec) where
  pub write_short : length s < 16 → write_number s v ≡ 25
  unfolding write_number
  write_short h = first_take _ _ (lt-ltb _ _ h)

  module _ (h : 16 ≤ length s) where
    pub write_wrong : fixed_wrong v ≡ true → write_number s v ≡ 5
    unfolding write_number
    write_wrong e = first_skip _ _ (le-ltb _ _ h) ∙ first_take _ _ e

    pub write_wide : fixed_wrong v ≡ false → too_wide v ≡ true → write_number s v ≡ 17
    unfolding write_number
    write_wide e f = first_skip _ _ (le-ltb _ _ h) ∙ first_skip _ _ e ∙ first_take _ _ f

    pub write_right : fixed_wrong v ≡ false → too_wide v ≡ false → write_number s v ≡ 0
    unfolding write_number
    write_right e f = first_skip _ _ (le-ltb _ _ h) ∙ first_skip _ _ e ∙ first_skip _ _ f ∙ first_end

  -- a write that is accepted: there is room, and the value is as it must be
  pub accepted : write_number s v ≡ 0 → (16 ≤ length s) × Fixed v × Narrow v
  unfolding write_number
  accepted e = let f = first_zero _ tt e in (ltb-false _ _ f.0, fixed_right v f.1.0, narrow_right v f.1.1.0)

  pub written_refused : write_number s v ≢ 0 → written s v ≡ s
  unfolding written
  written_refused = unless_refused (write_number s v) 16 widths (values v) s

  pub written_accepted : write_number s v ≡ 0 → written s v ≡ stored s 0 16 (with_fields 0 widths 0 (values v))
  unfolding written
  written_accepted = unless_accepted (write_number s v) 16 widths (values v) s

  -- two words stored one after the other are the structure written
  pub written_words : write_number s v ≡ 0
      → stored (stored s 0 8 (with_fields 0 low_widths 0 (low_values v))) 8 8 (with_fields 0 high_widths 0 (high_values v)) ≡ written s v
  written_words e =
      let a = accepted e in
      let fits = low_fits v a.1 a.2 in
      let small : with_fields 0 low_widths 0 (low_values v) < 2 ^ 64 = fields_lt 0 low_widths 0 (low_values v) 64 (omega arith) (omega arith) in
      stored_two s 0 8 8 _ _ small a.0 ∙ ap (stored s 0 16) (sym (side_written low_widths high_widths 0 0 (omega arith) (low_values v) (high_values v) fits)) ∙ sym (written_accepted e)
