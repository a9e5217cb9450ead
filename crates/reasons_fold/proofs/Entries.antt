-- By table: the fold of a number is the entries of its four bytes, joined (`TableFact`); and the fold of one core more. Assumes nothing.
use Prim.Native.Nat.{ℕ, zero, suc, ◌+◌, ◌*◌, ◌^◌, ◌≤◌, ◌<◌}
use mathlib.Core.Path.{◌≡◌, refl, sym, ap, ap₂, ◌∙◌}
use mathlib.Core.Bool.{Bool, ◌&&◌, ◌||◌}
use mathlib.Core.List.{List}
use native.Mathlib.Nat.{zero-add}
use native.Mathlib.Omega.{arith}
use lib.Bits.{bit_or, or_zero_l, or_zero_r}
use lib.ListN.{get_or}
use lib.Pow.{high, low}
use Rattle.words.specs.Below.{any_below}
use Rattle.words.proofs.BelowLaws.{any_same, any_append, any_next}
use Rattle.fields.specs.Bits.{field}
use Rattle.fields.specs.Masks.{mask_of, is_set}
use Rattle.fields.proofs.FieldLaws.{field_lt}
use Rattle.fields.proofs.MaskLaws.{mask_or, mask_same, field_set}
use Rattle.reasons_fold.specs.Fold.{belongs, reached, fold_of, reached_from, entry_of, table, fine_at, joined_first}
use Rattle.reasons_fold.specs.Facts.{TableFact}
use Rattle.reasons_fold.proofs.Table.{table_length, entry_is}

-- ---- byte after byte

-- what the fine bits below n fold to
fold_below : ℕ → ℕ → ℕ
fold_below w n = mask_of (λ j. any_below (λ k. is_set w k && belongs j k) n) 10

byte_more : (w p : ℕ) → bit_or (fold_below w p) (mask_of (reached_from p (field p 8 w)) 10) ≡ fold_below w (p + 8)
unfolding fold_below reached_from
byte_more w p =
    mask_or _ _ 10
    ∙ mask_same _ _ 10 (λ j l. ap (λ (b : Bool). any_below (λ k. is_set w k && belongs j k) p || b)
    (any_same _ _ 8 (λ k h. ap (λ (b : Bool). b && belongs j (p + k)) (field_set p 8 w k h)))
    ∙ sym (any_append (λ k. is_set w k && belongs j k) p 8))

-- entry 256 q + b is that of byte q
entry_at : (q b : ℕ) → b < 2 ^ 8 → entry_of (q * 2 ^ 8 + b) ≡ mask_of (reached_from (q * 8) b) 10
unfolding entry_of
entry_at q b h = ap₂ (λ (x y : ℕ). mask_of (reached_from (x * 8) y) 10) (high q 8 h) (low q 8 h)

-- byte q by its entry
entry_more : (w q : ℕ) → bit_or (fold_below w (q * 8)) (entry_of (q * 2 ^ 8 + field (q * 8) 8 w)) ≡ fold_below w (q * 8 + 8)
entry_more w q = ap (bit_or (fold_below w (q * 8))) (entry_at q (field (q * 8) 8 w) (field_lt (q * 8) 8 w)) ∙ byte_more w (q * 8)

-- of no bits there is nothing
none_yet : (w : ℕ) → fold_below w 0 ≡ 0
unfolding fold_below mask_of any_below
none_yet w = refl

first_byte : (w : ℕ) → entry_of (field 0 8 w) ≡ fold_below w 8
first_byte w =
    sym (or_zero_l (entry_of (field 0 8 w)))
    ∙ ap₂ (λ (x y : ℕ). bit_or x (entry_of y)) (sym (none_yet w)) (sym (zero-add (field 0 8 w)))
    ∙ entry_more w 0

pub fold_entries : (w : ℕ)
    → bit_or (bit_or (bit_or (entry_of (field 0 8 w)) (entry_of (256 + field 8 8 w))) (entry_of (512 + field 16 8 w))) (entry_of (768 + field 24 8 w)) ≡ fold_of w
unfolding fold_of reached fold_below
fold_entries w =
    ap (λ (x : ℕ). bit_or (bit_or (bit_or x (entry_of (256 + field 8 8 w))) (entry_of (512 + field 16 8 w))) (entry_of (768 + field 24 8 w))) (first_byte w)
    ∙ ap (λ (x : ℕ). bit_or (bit_or x (entry_of (512 + field 16 8 w))) (entry_of (768 + field 24 8 w))) (entry_more w 1)
    ∙ ap (λ (x : ℕ). bit_or x (entry_of (768 + field 24 8 w))) (entry_more w 2)
    ∙ entry_more w 3

-- ---- one byte alone

-- where none of a byte's bits is set its entry is 0
blank : (entry_of 0 ≡ 0) × (entry_of 256 ≡ 0) × (entry_of 512 ≡ 0) × (entry_of 768 ≡ 0)
unfolding entry_of reached_from belongs mask_of field any_below
blank = (refl, refl, refl, refl)

bare_l : {x : ℕ} (y : ℕ) → x ≡ 0 → bit_or x y ≡ y
bare_l y e = ap (λ (z : ℕ). bit_or z y) e ∙ or_zero_l y

bare_r : (x : ℕ) {y : ℕ} → y ≡ 0 → bit_or x y ≡ x
bare_r x e = ap (bit_or x) e ∙ or_zero_r x

-- a word by what its bytes are
by_bytes : (w : ℕ) {p q r s : ℕ} → field 0 8 w ≡ p → field 8 8 w ≡ q → field 16 8 w ≡ r → field 24 8 w ≡ s
    → fold_of w ≡ bit_or (bit_or (bit_or (entry_of p) (entry_of (256 + q))) (entry_of (512 + r))) (entry_of (768 + s))
by_bytes w a b c d =
    sym (fold_entries w)
    ∙ ap₂ bit_or (ap₂ bit_or (ap₂ bit_or (ap entry_of a) (ap (λ (x : ℕ). entry_of (256 + x)) b)) (ap (λ (x : ℕ). entry_of (512 + x)) c)) (ap (λ (x : ℕ). entry_of (768 + x)) d)

alone : (q b : ℕ) → q < 4 → b < 256 → fold_of (b * 256 ^ q) ≡ entry_of (q * 256 + b)
unfolding field
alone zero b l h =
    by_bytes (b * 256 ^ 0) {p = b} {q = 0} {r = 0} {s = 0} (omega (arith, h)) (omega (arith, h)) (omega (arith, h)) (omega (arith, h))
    ∙ bare_r _ blank.3 ∙ bare_r _ blank.2 ∙ bare_r _ blank.1 ∙ ap entry_of (sym (zero-add b))
alone (suc zero) b l h =
    by_bytes (b * 256 ^ 1) {p = 0} {q = b} {r = 0} {s = 0} (omega (arith, h)) (omega (arith, h)) (omega (arith, h)) (omega (arith, h))
    ∙ bare_r _ blank.3 ∙ bare_r _ blank.2 ∙ bare_l _ blank.0
alone (suc (suc zero)) b l h =
    by_bytes (b * 256 ^ 2) {p = 0} {q = 0} {r = b} {s = 0} (omega (arith, h)) (omega (arith, h)) (omega (arith, h)) (omega (arith, h))
    ∙ bare_r _ blank.3 ∙ bare_l _ (bare_l _ blank.0 ∙ blank.1)
alone (suc (suc (suc zero))) b l h =
    by_bytes (b * 256 ^ 3) {p = 0} {q = 0} {r = 0} {s = b} (omega (arith, h)) (omega (arith, h)) (omega (arith, h)) (omega (arith, h))
    ∙ bare_l _ (bare_l _ (bare_l _ blank.0 ∙ blank.1) ∙ blank.2)
alone (suc (suc (suc (suc q)))) b l h = absurd (omega (arith, l))

pub table_fact : TableFact
table_fact =
    record {
      size = table_length;
      entry = λ q b l h. entry_is (q * 256 + b) (omega (arith, l, h)) ∙ sym (alone q b l h);
      fold = λ w. ap₂ bit_or (ap₂ bit_or (ap₂ bit_or (entry_is (field 0 8 w) (omega (arith, field_lt 0 8 w))) (byte w 256 8 (omega arith))) (byte w 512 16 (omega arith))) (byte w 768 24 (omega arith)) ∙ fold_entries w;
    }
  where
    byte : (w n p : ℕ) → n ≤ 768 → get_or table (n + field p 8 w) 0 ≡ entry_of (n + field p 8 w)
    byte w n p h = entry_is (n + field p 8 w) (omega (arith, h, field_lt p 8 w))

-- ---- core after core

-- of no core there is nothing; of one core more what it brings is joined
pub no_core : (xs : List ℕ) → 0 ≡ joined_first xs 0
unfolding joined_first mask_of any_below
no_core xs = refl

pub core_more : (xs : List ℕ) (n : ℕ) → bit_or (joined_first xs n) (fold_of (fine_at xs n)) ≡ joined_first xs (n + 1)
unfolding joined_first fold_of
core_more xs n = mask_or _ _ 10 ∙ mask_same _ _ 10 (λ j l. sym (any_next (λ i. reached (fine_at xs i) j) n))

-- ---- what the proofs of `by_table` and `all_by_table` go by

-- a byte that was read, wherever it stands
pub byte_lt : {b : ℕ} (p x : ℕ) → b ≡ field p 8 x → b < 256
byte_lt p x e = omega (arith, e, field_lt p 8 x)

pub ruleset fold_ways = (byte_lt, fold_entries)

pub ruleset join_ways = (no_core, core_more)
