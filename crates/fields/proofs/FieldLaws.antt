-- The field fact, over every place and width. Assumes nothing.
use mathlib.Core.Path.{◌≡◌, sym, ap, ap₂, ◌∙◌, subst}
use Prim.Native.Nat.{ℕ, zero, suc, ◌+◌, ◌-◌, ◌*◌, ◌/◌, ◌%◌, ◌^◌, ◌≤◌, ◌<◌}
use native.Mathlib.Nat.{mod-lt, mod-mod, le_dest, add_comm, mod-eq_of_lt, div-one, pow-suc, le_trans, lt_of_le_of_lt, mul-le-mul_right, mod-le, div-mul-le_self, add-mul}
use lib.Pow.{pow_pos, pow-add, shr-shr, shr_lt, split, high, low, mod-pow-add, shl_exact, mod-mod-pow}
use lib.Pow as pow
use native.Mathlib.Omega.{arith}
use lib.Arith.{digits_lt}
use Rattle.fields.specs.Bits.{field, with_field, bit}

below : (x k : ℕ) → x % 2 ^ k < 2 ^ k
below x k = mod-lt x (pow_pos k)

-- a field is below 2 to its width
pub field_lt : (p w x : ℕ) → field p w x < 2 ^ w
unfolding field
field_lt p w x = below (x / 2 ^ p) w

-- a field that lies below place n sees the n low bits alone
pub field_mod : (q u n x : ℕ) → q + u ≤ n → field q u (x % 2 ^ n) ≡ field q u x
unfolding field
field_mod q u n x h =
    let (j, e) = le_dest h in
    let e' : n ≡ j + (u + q) = omega arith in
    sym (pow.field (x % 2 ^ n) u q) ∙ ap (λ (y : ℕ). y / 2 ^ q) (ap (λ (k : ℕ). x % 2 ^ k % 2 ^ (u + q)) e' ∙ mod-mod-pow x j (u + q)) ∙ pow.field x u q

-- a field at place p + j is the field at j of what stands from place p on
pub field_shift : (p j u x : ℕ) → field (p + j) u x ≡ field j u (x / 2 ^ p)
unfolding field
field_shift p j u x = ap (λ (y : ℕ). y % 2 ^ u) (sym (shr-shr x p j))

-- a bit of a field is a bit of the number
pub field_bit : (p w x k : ℕ) → k < w → bit k (field p w x) ≡ bit (p + k) x
unfolding field
field_bit p w x k h = field_mod k 1 w (x / 2 ^ p) (omega (arith, h)) ∙ sym (field_shift p k 1 x)

-- two numbers side by side, x of m bits below and y above: a field of the one, and a field of the other
module _ (m x y : ℕ) (h : x < 2 ^ m) where
  pub field_under : (p w : ℕ) → p + w ≤ m → field p w (y * 2 ^ m + x) ≡ field p w x
  field_under p w l = sym (field_mod p w m _ l) ∙ ap (field p w) (low y m h)

  pub field_over : (q u : ℕ) → field (m + q) u (y * 2 ^ m + x) ≡ field q u y
  field_over q u = field_shift m q u _ ∙ ap (field q u) (high y m h)

module _ (p w x v : ℕ) where
  above : with_field p w x v / 2 ^ p ≡ x / 2 ^ (p + w) * 2 ^ w + v % 2 ^ w
  unfolding with_field
  above = high _ p (below x p)

  -- what stands below the field, and what stands above it, is as it was
  with_low : with_field p w x v % 2 ^ p ≡ x % 2 ^ p
  unfolding with_field
  with_low = low _ p (below x p)

  with_high : with_field p w x v / 2 ^ (p + w) ≡ x / 2 ^ (p + w)
  with_high = sym (shr-shr _ p w) ∙ ap (λ (y : ℕ). y / 2 ^ w) above ∙ high _ w (below v w)

  -- what is read after a write is what was written
  pub field_with : field p w (with_field p w x v) ≡ v % 2 ^ w
  unfolding field
  field_with = ap (λ (y : ℕ). y % 2 ^ w) above ∙ low _ w (below v w)

  pub field_with_fit : v < 2 ^ w → field p w (with_field p w x v) ≡ v
  field_with_fit h = field_with ∙ mod-eq_of_lt h

  -- a part of what was written: field j u of v stands at place p + j
  pub field_with_inside : (j u : ℕ) → j + u ≤ w → field (p + j) u (with_field p w x v) ≡ field j u v
  field_with_inside j u h =
      field_shift p j u _ ∙ ap (field j u) above ∙ sym (field_mod j u w _ h) ∙ ap (field j u) (low _ w (below v w)) ∙ field_mod j u w v h

  -- any other field is as it was
  pub field_with_below : (q u : ℕ) → q + u ≤ p → field q u (with_field p w x v) ≡ field q u x
  field_with_below q u h = sym (field_mod q u p _ h) ∙ ap (field q u) with_low ∙ field_mod q u p x h

  pub field_with_above : (q u : ℕ) → p + w ≤ q → field q u (with_field p w x v) ≡ field q u x
  field_with_above q u h =
      let (j, e) = le_dest h in
      subst (λ (k : ℕ). field k u (with_field p w x v) ≡ field k u x) e
      (field_shift (p + w) j u _ ∙ ap (field j u) with_high ∙ sym (field_shift (p + w) j u x))

  -- writing what was read changes nothing
  pub with_field_law : with_field p w x (field p w x) ≡ x
  unfolding with_field field
  with_field_law = rw (mod-mod, ← shr-shr, split, split)

  -- a number of n bits stays one, where the field lies in them
  pub with_lt : (n : ℕ) → p + w ≤ n → x < 2 ^ n → with_field p w x v < 2 ^ n
  unfolding with_field
  with_lt n h l =
      let (j, e) = le_dest h in
      let e' : n ≡ j + (p + w) = omega arith in
      let top : x / 2 ^ (p + w) < 2 ^ j = shr_lt j (p + w) (subst (λ (k : ℕ). x < 2 ^ k) e' l) in
      let size : 2 ^ n ≡ 2 ^ j * 2 ^ w * 2 ^ p = ap (λ (k : ℕ). 2 ^ k) (omega arith) ∙ pow-add 2 (j + w) p ∙ ap (λ (k : ℕ). k * 2 ^ p) (pow-add 2 j w) in
      rw size (digits_lt (digits_lt top (below v w)) (below x p))

-- the last write wins
pub with_with : (p w x u v : ℕ) → with_field p w (with_field p w x u) v ≡ with_field p w x v
unfolding with_field
with_with p w x u v = ap₂ (λ (h l : ℕ). (h * 2 ^ w + v % 2 ^ w) * 2 ^ p + l) (with_high p w x u) (with_low p w x u)

-- two numbers of n bits with the same bits are the same number
pub same_bits : (n x y : ℕ) → x < 2 ^ n → y < 2 ^ n → ((k : ℕ) → k < n → bit k x ≡ bit k y) → x ≡ y
unfolding field
same_bits zero x y hx hy e = omega arith
same_bits (suc n) x y hx hy e =
    let last : x % 2 ≡ y % 2 = simp div-one at (e 0 (omega arith)) in
    let rest : x / 2 ≡ y / 2 =
    same_bits n (x / 2) (y / 2) (omega (arith, pow-suc 2 n)) (omega (arith, pow-suc 2 n))
    (λ k h. sym (field_shift 1 k 1 x) ∙ e (1 + k) (omega arith) ∙ field_shift 1 k 1 y) in
    omega arith

-- how code writes a field: what it held is taken away, and the new is added
pub part_le : (p w x : ℕ) → field p w x * 2 ^ p ≤ x
unfolding field
part_le p w x = le_trans (mul-le-mul_right (2 ^ p) (mod-le (x / 2 ^ p) (2 ^ w))) (div-mul-le_self x (2 ^ p))

pub with_moved : (p w x v : ℕ) → x - field p w x * 2 ^ p + v % 2 ^ w * 2 ^ p ≡ with_field p w x v
unfolding field with_field
with_moved p w x v =
    let whole : (x / 2 ^ (p + w) * 2 ^ w * 2 ^ p + x / 2 ^ p % 2 ^ w * 2 ^ p) + x % 2 ^ p ≡ x = simp (mod-mod, add-mul) at (with_field_law p w x v) in
    rw add-mul (omega arith)

-- in 64 bits neither is cut: f is what the field held and g what it is to hold, a and b are they moved up to its place
module _ (p w x v : ℕ) (h : p + w ≤ 64) (l : x < 2 ^ 64) {f a : ℕ} (held : f ≡ field p w x) (old : a ≡ f * 2 ^ p % 2 ^ 64) where
  taken : a ≡ field p w x * 2 ^ p
  taken = old ∙ ap (λ (y : ℕ). y * 2 ^ p % 2 ^ 64) held ∙ mod-eq_of_lt (lt_of_le_of_lt (part_le p w x) l)

  pub taken_le : a ≤ x
  taken_le = rw taken (part_le p w x)

  pub taken_added : {g b : ℕ} → g ≡ v % 2 ^ w → b ≡ g * 2 ^ p % 2 ^ 64 → x - a + b ≡ with_field p w x v
  taken_added {g} {b} low new =
      let added : b ≡ v % 2 ^ w * 2 ^ p = new ∙ ap (λ (y : ℕ). y * 2 ^ p % 2 ^ 64) low ∙ shl_exact w p 64 (below v w) (omega arith) in
      rw (taken, added) (with_moved p w x v)

-- the number up to the field's end
pub with_mod : (p w x v : ℕ) → with_field p w x v % 2 ^ (p + w) ≡ v % 2 ^ w * 2 ^ p + x % 2 ^ p
unfolding field
with_mod p w x v = rw (add_comm p w, mod-pow-add) (ap₂ (λ (a b : ℕ). a * 2 ^ p + b) (field_with p w x v) (with_low p w x v))
