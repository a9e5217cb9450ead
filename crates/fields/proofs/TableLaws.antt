-- The field fact, for a table of fields: a structure's round trips, for any list of widths, and two words side by side. Assumes nothing.
use Prim.Native.Nat.{ℕ, zero, suc, ◌+◌, ◌*◌, ◌/◌, ◌%◌, ◌^◌, ◌≤◌, ◌<◌}
use mathlib.Core.Path.{◌≡◌, refl, sym, ap, ap₂, ◌∙◌}
use mathlib.Core.Bool.{true, false}
use mathlib.Core.List.{List, [], ◌∷◌, ◌++◌}
use native.Mathlib.Nat.{not-suc-le-zero, le_of_suc-le-suc, add-zero, zero-add, add_assoc, add_comm, add-mul, mul_assoc, mul-suc, pow-suc, mod-eq_of_lt, mod-one, le_dest, mul-add-div_right, mul-add-mod_self_right}
use native.Mathlib.Omega.{arith}
use borrow.Author.Tests.{le-leb, lt-leb, leb-false}
use lib.Dec.{leb}
use lib.Pow.{pow_pos, pow-add, shr-shr, high, low, mod-pow-add}
use lib.ListN.{length, get_or}
use Rattle.words.specs.Bytes.{AllBytes, number_at, stored}
use Rattle.fields.specs.Bits.{field, with_field}
use Rattle.fields.specs.Tables.{fields, with_fields, total, Fit, wider}
use Rattle.words.proofs.TestLaws.{or_skip, or_take, or_second, or_neither}
use Rattle.words.proofs.NumberLaws.{number_lt, number_byte}
use Rattle.words.proofs.StoreLaws.{number_stored, stored_number, stored_byte}
use Rattle.fields.proofs.FieldLaws.{field_with_fit, field_with_below, field_lt, field_under, field_over, with_field_law, with_mod, with_lt}

-- ---- read and written

-- a table that starts at p leaves what lies below p
pub fields_below : (p : ℕ) (ws : List ℕ) (x : ℕ) (vs : List ℕ) (q u : ℕ) → q + u ≤ p → field q u (with_fields p ws x vs) ≡ field q u x
unfolding with_fields
fields_below p [] x vs q u h = refl
fields_below p (w ∷ ws) x [] q u h = refl
fields_below p (w ∷ ws) x (v ∷ vs) q u h = fields_below (p + w) ws (with_field p w x v) vs q u (omega arith) ∙ field_with_below p w x v q u h

-- written and read back
pub fields_with : (p : ℕ) (ws : List ℕ) (x : ℕ) (vs : List ℕ) → Fit ws vs → fields p ws (with_fields p ws x vs) ≡ vs
unfolding fields with_fields
fields_with p [] x [] h = refl
fields_with p (w ∷ ws) x (v ∷ vs) h =
    ap₂ (λ (a : ℕ) (l : List ℕ). a ∷ l)
    (fields_below (p + w) ws (with_field p w x v) vs p w (omega arith) ∙ field_with_fit p w x v h.0)
    (fields_with (p + w) ws (with_field p w x v) vs h.1)
fields_with p [] x (v ∷ vs) h = elim h [ ]
fields_with p (w ∷ ws) x [] h = elim h [ ]

-- read and written back
pub with_fields_law : (p : ℕ) (ws : List ℕ) (x : ℕ) → with_fields p ws x (fields p ws x) ≡ x
unfolding fields with_fields
with_fields_law p [] x = refl
with_fields_law p (w ∷ ws) x = rw (with_field_law p w x 0) (with_fields_law (p + w) ws x)

-- where the table ends the number, what the number held above p has no bearing
pub fields_cover : (p : ℕ) (ws vs : List ℕ) (x y : ℕ) → Fit ws vs → x % 2 ^ p ≡ y % 2 ^ p → x < 2 ^ (p + total ws) → y < 2 ^ (p + total ws)
    → with_fields p ws x vs ≡ with_fields p ws y vs
unfolding with_fields
fields_cover p [] [] x y f e hx hy =
    let hx' : x < 2 ^ p = simp add-zero at hx in
    let hy' : y < 2 ^ p = simp add-zero at hy in
    sym (mod-eq_of_lt hx') ∙ e ∙ mod-eq_of_lt hy'
fields_cover p (w ∷ ws) (v ∷ vs) x y f e hx hy =
    let n : ℕ = p + (w + total ws) in
    let same : (x : ℕ) → x < 2 ^ n → with_field p w x v < 2 ^ (p + w + total ws) = λ x h. rw add_assoc (with_lt p w x v n (omega arith) h) in
    fields_cover (p + w) ws vs _ _ f.1 (with_mod p w x v ∙ ap (λ (a : ℕ). v % 2 ^ w * 2 ^ p + a) e ∙ sym (with_mod p w y v)) (same x hx) (same y hy)
fields_cover p [] (v ∷ vs) x y f e hx hy = elim f [ ]
fields_cover p (w ∷ ws) [] x y f e hx hy = elim f [ ]

-- what is read fits
pub fields_fit : (p : ℕ) (ws : List ℕ) (x : ℕ) → Fit ws (fields p ws x)
unfolding fields
fields_fit p [] x = tt
fields_fit p (w ∷ ws) x = (field_lt p w x, fields_fit (p + w) ws x)

-- read, and written over any number of as many bits
pub fields_whole : (ws : List ℕ) (x y : ℕ) → x < 2 ^ total ws → y < 2 ^ total ws → with_fields 0 ws y (fields 0 ws x) ≡ x
fields_whole ws x y hx hy =
    fields_cover 0 ws (fields 0 ws x) y x (fields_fit 0 ws x) (mod-one y ∙ sym (mod-one x)) (rw zero-add hy) (rw zero-add hx) ∙ with_fields_law 0 ws x

pub fields_lt : (p : ℕ) (ws : List ℕ) (x : ℕ) (vs : List ℕ) (n : ℕ) → p + total ws ≤ n → x < 2 ^ n → with_fields p ws x vs < 2 ^ n
unfolding with_fields
fields_lt p [] x vs n h l = l
fields_lt p (w ∷ ws) x [] n h l = l
fields_lt p (w ∷ ws) x (v ∷ vs) n h l = fields_lt (p + w) ws (with_field p w x v) vs n (omega arith) (with_lt p w x v n (omega arith) l)

-- ---- too wide

pub wider_skip : (w v : ℕ) (ws vs : List ℕ) → v < 2 ^ w → wider (w ∷ ws) (v ∷ vs) ≡ wider ws vs
unfolding wider
wider_skip w v ws vs h = or_skip _ (lt-leb _ _ h)

-- one number that does not fit is enough
pub wider_at : (ws vs : List ℕ) (k : ℕ) → k < length ws → 2 ^ get_or ws k 0 ≤ get_or vs k 0 → wider ws vs ≡ true
unfolding wider
wider_at [] vs k l h = absurd (not-suc-le-zero l)
wider_at (w ∷ ws) [] k l h = absurd (omega (arith, pow_pos (get_or (w ∷ ws) k 0)))
wider_at (w ∷ ws) (v ∷ vs) zero l h = or_take _ (le-leb _ _ h)
wider_at (w ∷ ws) (v ∷ vs) (suc k) l h = or_second (leb (2 ^ w) v) (wider_at ws vs k (le_of_suc-le-suc l) h)

pub fit_narrow : (ws vs : List ℕ) → Fit ws vs → wider ws vs ≡ false
unfolding wider
fit_narrow [] [] f = refl
fit_narrow (w ∷ ws) (v ∷ vs) f = or_skip _ (lt-leb _ _ f.0) ∙ fit_narrow ws vs f.1
fit_narrow [] (v ∷ vs) f = elim f [ ]
fit_narrow (w ∷ ws) [] f = elim f [ ]

pub fit_length : (ws vs : List ℕ) → Fit ws vs → length ws ≡ length vs
fit_length [] [] f = refl
fit_length (w ∷ ws) (v ∷ vs) f = ap suc (fit_length ws vs f.1)
fit_length [] (v ∷ vs) f = elim f [ ]
fit_length (w ∷ ws) [] f = elim f [ ]

pub narrow_fit : (ws vs : List ℕ) → length ws ≡ length vs → wider ws vs ≡ false → Fit ws vs
unfolding wider
narrow_fit [] [] e h = tt
narrow_fit [] (v ∷ vs) e h = absurd (omega arith)
narrow_fit (w ∷ ws) [] e h = absurd (omega arith)
narrow_fit (w ∷ ws) (v ∷ vs) e h = let n = or_neither _ _ h in (leb-false _ _ n.0, narrow_fit ws vs (omega arith) n.1)

-- ---- in bytes: a structure of n bytes whose table takes all of their bits (of a table in numerals `size` is refl)

bits_bytes : (n : ℕ) → 2 ^ (8 * n) ≡ 256 ^ n
bits_bytes zero = refl
bits_bytes (suc n) = ap (λ (k : ℕ). 2 ^ k) (mul-suc 8 n) ∙ pow-add 2 (8 * n) 8 ∙ ap (λ (k : ℕ). k * 256) (bits_bytes n) ∙ sym (pow-suc 256 n)

module _ (ws : List ℕ) (n : ℕ) (size : total ws ≡ 8 * n) (xs : List ℕ) (at y : ℕ) (fits : y < 256 ^ n) where
  whole : 256 ^ n ≡ 2 ^ total ws
  whole = sym (ap (λ (k : ℕ). 2 ^ k) size ∙ bits_bytes n)

  -- the word that is written from the fields read is the word that was read
  pub structure_same : AllBytes xs → with_fields 0 ws y (fields 0 ws (number_at xs at n)) ≡ number_at xs at n
  structure_same b = fields_whole ws (number_at xs at n) y (rw (← whole) (number_lt xs b at n)) (rw (← whole) fits)

  -- read and written back, over whatever y: the same bytes
  pub structure_back : AllBytes xs → stored xs at n (with_fields 0 ws y (fields 0 ws (number_at xs at n))) ≡ xs
  structure_back b = rw (structure_same b) (stored_number xs b at n)

  -- written and read back: the same values
  pub structure_kept : (vs : List ℕ) → Fit ws vs → at + n ≤ length xs → fields 0 ws (number_at (stored xs at n (with_fields 0 ws y vs)) at n) ≡ vs
  structure_kept vs f h =
      let small : with_fields 0 ws y vs < 256 ^ n = rw whole (fields_lt 0 ws y vs (total ws) (omega arith) (rw (← whole) fits)) in
      rw (number_stored xs at n (with_fields 0 ws y vs) h, mod-eq_of_lt small) (fields_with 0 ws y vs f)

  -- read here and written there: the same bytes there
  pub structure_carried : AllBytes xs → (zs : List ℕ) (to : ℕ) → to + n ≤ length zs
      → (k : ℕ) → k < n → get_or (stored zs to n (with_fields 0 ws y (fields 0 ws (number_at xs at n)))) (to + k) 0 ≡ get_or xs (at + k) 0
  structure_carried b zs to h k l = stored_byte zs to n _ h k l ∙ ap (λ (x : ℕ). x / 256 ^ k % 256) (structure_same b) ∙ number_byte xs b at n k l

-- ---- two words side by side: x of m bits below, y above

pub fit_append : (ws us vs ts : List ℕ) → Fit ws vs → Fit us ts → Fit (ws ++ us) (vs ++ ts)
fit_append [] us [] ts f g = g
fit_append (w ∷ ws) us (v ∷ vs) ts f g = (f.0, fit_append ws us vs ts f.1 g)
fit_append [] us (v ∷ vs) ts f g = elim f [ ]
fit_append (w ∷ ws) us [] ts f g = elim f [ ]

-- a table's fields one after the other
fields_append : (p : ℕ) (ws us : List ℕ) (z : ℕ) → fields p (ws ++ us) z ≡ fields p ws z ++ fields (p + total ws) us z
unfolding fields
fields_append p [] us z = rw add-zero
fields_append p (w ∷ ws) us z = ap (λ (l : List ℕ). field p w z ∷ l) (rw (← add_assoc) (fields_append (p + w) ws us z))

with_append : (p : ℕ) (ws us : List ℕ) (z : ℕ) (vs ts : List ℕ) → Fit ws vs → with_fields p (ws ++ us) z (vs ++ ts) ≡ with_fields (p + total ws) us (with_fields p ws z vs) ts
unfolding with_fields
with_append p [] us z [] ts f = rw add-zero
with_append p (w ∷ ws) us z (v ∷ vs) ts f = rw (← add_assoc) (with_append (p + w) ws us (with_field p w z v) vs ts f.1)
with_append p [] us z (v ∷ vs) ts f = elim f [ ]
with_append p (w ∷ ws) us z [] ts f = elim f [ ]

-- the fields below place m are those of x, and from place m on those of y
fields_under : (m x y : ℕ) → x < 2 ^ m → (p : ℕ) (ws : List ℕ) → p + total ws ≤ m → fields p ws (y * 2 ^ m + x) ≡ fields p ws x
unfolding fields
fields_under m x y h p [] l = refl
fields_under m x y h p (w ∷ ws) l =
    ap₂ (λ (a : ℕ) (vs : List ℕ). a ∷ vs) (field_under m x y h p w (omega arith)) (fields_under m x y h (p + w) ws (omega arith))

fields_over : (m x y : ℕ) → x < 2 ^ m → (q : ℕ) (us : List ℕ) → fields (m + q) us (y * 2 ^ m + x) ≡ fields q us y
unfolding fields
fields_over m x y h q [] = refl
fields_over m x y h q (u ∷ us) = ap₂ (λ (a : ℕ) (vs : List ℕ). a ∷ vs) (field_over m x y h q u) (rw add_assoc (fields_over m x y h (q + u) us))

with_under : (p w m x y v : ℕ) → p + w ≤ m → with_field p w (y * 2 ^ m + x) v ≡ y * 2 ^ m + with_field p w x v
unfolding with_field
with_under p w m x y v h =
    let (j, e) = le_dest h in
    let e' : m ≡ j + w + p = omega arith in
    let e'' : m ≡ j + (p + w) = omega arith in
    let top : (y * 2 ^ m + x) / 2 ^ (p + w) ≡ y * 2 ^ j + x / 2 ^ (p + w) =
    ap (λ (k : ℕ). (y * k + x) / 2 ^ (p + w)) (ap (λ (k : ℕ). 2 ^ k) e'' ∙ pow-add 2 j (p + w)) ∙ ap (λ (k : ℕ). (k + x) / 2 ^ (p + w)) (sym (mul_assoc y (2 ^ j) (2 ^ (p + w)))) ∙ mul-add-div_right (pow_pos (p + w)) (y * 2 ^ j) x in
    let tail : (y * 2 ^ m + x) % 2 ^ p ≡ x % 2 ^ p =
    ap (λ (k : ℕ). (y * k + x) % 2 ^ p) (ap (λ (k : ℕ). 2 ^ k) e' ∙ pow-add 2 (j + w) p) ∙ ap (λ (k : ℕ). (k + x) % 2 ^ p) (sym (mul_assoc y (2 ^ (j + w)) (2 ^ p))) ∙ mul-add-mod_self_right (y * 2 ^ (j + w)) (2 ^ p) x in
    let base : y * 2 ^ m ≡ y * 2 ^ j * 2 ^ w * 2 ^ p = ap (λ (k : ℕ). y * k) (ap (λ (k : ℕ). 2 ^ k) e' ∙ pow-add 2 (j + w) p ∙ ap (λ (k : ℕ). k * 2 ^ p) (pow-add 2 j w)) ∙ simp mul_assoc in
    rw (top, tail, base, add-mul, add-mul, add-mul, add-mul) (omega arith)

withs_under : (p : ℕ) (ws : List ℕ) (m x y : ℕ) (vs : List ℕ) → p + total ws ≤ m → with_fields p ws (y * 2 ^ m + x) vs ≡ y * 2 ^ m + with_fields p ws x vs
unfolding with_fields
withs_under p [] m x y vs h = refl
withs_under p (w ∷ ws) m x y [] h = refl
withs_under p (w ∷ ws) m x y (v ∷ vs) h =
    ap (λ (z : ℕ). with_fields (p + w) ws z vs) (with_under p w m x y v (omega arith)) ∙ withs_under (p + w) ws m (with_field p w x v) y vs (omega arith)

with_over : (m q u x y v : ℕ) → x < 2 ^ m → with_field (m + q) u (y * 2 ^ m + x) v ≡ with_field q u y v * 2 ^ m + x
unfolding with_field
with_over m q u x y v h =
    let z : ℕ = y * 2 ^ m + x in
    let top : z / 2 ^ (m + q + u) ≡ y / 2 ^ (q + u) = ap (λ (k : ℕ). z / 2 ^ k) (add_assoc m q u) ∙ sym (shr-shr z m (q + u)) ∙ ap (λ (k : ℕ). k / 2 ^ (q + u)) (high y m h) in
    let tail : z % 2 ^ (m + q) ≡ y % 2 ^ q * 2 ^ m + x =
    ap (λ (k : ℕ). z % 2 ^ k) (add_comm m q) ∙ mod-pow-add z q m ∙ ap₂ (λ (a b : ℕ). a % 2 ^ q * 2 ^ m + b) (high y m h) (low y m h) in
    let size : 2 ^ (m + q) ≡ 2 ^ q * 2 ^ m = ap (λ (k : ℕ). 2 ^ k) (add_comm m q) ∙ pow-add 2 q m in
    rw (top, tail, size, add-mul, ← mul_assoc) (omega arith)

withs_over : (m q : ℕ) (us : List ℕ) (x y : ℕ) (ts : List ℕ) → x < 2 ^ m → with_fields (m + q) us (y * 2 ^ m + x) ts ≡ with_fields q us y ts * 2 ^ m + x
unfolding with_fields
withs_over m q [] x y ts h = refl
withs_over m q (u ∷ us) x y [] h = refl
withs_over m q (u ∷ us) x y (t ∷ ts) h = rw (add_assoc, with_over m q u x y t h) (withs_over m (q + u) us x (with_field q u y t) ts h)

module _ (ws us : List ℕ) (x y : ℕ) (h : x < 2 ^ total ws) where
  pub side_read : fields 0 (ws ++ us) (y * 2 ^ total ws + x) ≡ fields 0 ws x ++ fields 0 us y
  side_read =
      let m : ℕ = total ws in
      let z : ℕ = y * 2 ^ m + x in
      let more : fields (0 + m) us z ≡ fields 0 us y = ap (λ (k : ℕ). fields k us z) (zero-add m ∙ sym (add-zero m)) ∙ fields_over m x y h 0 us in
      fields_append 0 ws us z ∙ ap₂ (λ (a b : List ℕ). a ++ b) (fields_under m x y h 0 ws (omega arith)) more

  pub side_written : (vs ts : List ℕ) → Fit ws vs
      → with_fields 0 (ws ++ us) (y * 2 ^ total ws + x) (vs ++ ts) ≡ with_fields 0 us y ts * 2 ^ total ws + with_fields 0 ws x vs
  side_written vs ts f =
      let m : ℕ = total ws in
      with_append 0 ws us (y * 2 ^ m + x) vs ts f
      ∙ ap₂ (λ (k a : ℕ). with_fields k us a ts) (zero-add m ∙ sym (add-zero m)) (withs_under 0 ws m x y vs (omega arith))
      ∙ withs_over m 0 us (with_fields 0 ws x vs) y ts (fields_lt 0 ws x vs m (omega arith) h)
