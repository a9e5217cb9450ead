-- Digits of a number: how many there are, and a turn of the loop that writes them. Assumes nothing.
use Prim.Native.Nat.{ℕ, zero, suc, ◌+◌, ◌-◌, ◌*◌, ◌/◌, ◌%◌, ◌^◌, ◌≤◌, ◌<◌}
use mathlib.Core.Path.{◌≡◌, refl, sym, ap, subst, ◌∙◌}
use mathlib.Core.Bool.{true, false}
use mathlib.Core.Logic.{◌↔◌}
use mathlib.Core.List.{List, ◌++◌, append_assoc}
use borrow.Author.Tests.{lt-ltb, le-ltb}
use lib.ListN.{length, get_or, set, take, drop, take-append-drop}
use lib.Seq.{length-take-le, set_at, take-suc, append_snoc}
use native.Mathlib.Nat.{sub_self, pow-zero, pow-suc, pow-le-pow_right, pow-succ', le_trans, one-le-pow, div-lt_iff_lt-mul, div-div-eq-div-mul, div-one, one-mul}
use native.Mathlib.Numerals.{add-one}
use native.Mathlib.Omega.{arith}
use Rattle.std.proofs.lemmas.Bool.{false≢true}
use Rattle.std.specs.Prelude.{Option, None, Some}
use Rattle.std.specs.Option.{IsSome, IfSome, unwrap_or}
use Rattle.words.proofs.BelowLaws.{least_here, is_least, least_once}
use Rattle.text.specs.Page.{over}
use Rattle.text.specs.Numerals.{glyph_of, digits, holds, places_of, numeral_of}
use Rattle.text.proofs.PageLaws.{over_fits}

-- ---- how many digits

-- all of the number stands above no digit
pub none_left : (b n many : ℕ) → n ≡ n / b ^ (many - many)
none_left b n many = sym (ap (λ (m : ℕ). n / b ^ m) (sub_self many) ∙ ap (λ (m : ℕ). n / m) (pow-zero b) ∙ div-one n)

module _ (b n : ℕ) (base : 1 < b) where
  pub power_some : (k : ℕ) → 0 < b ^ k
  power_some k = one-le-pow k b (omega arith)

  -- k digits hold the number where nothing is left above them
  pub enough : (k : ℕ) → n / b ^ k ≡ 0 → n < b ^ k
  enough k e = subst (λ (m : ℕ). n < m) (one-mul (b ^ k)) ((div-lt_iff_lt-mul {y = 1} (power_some k)).0 (omega (arith, e)))

  -- what is left above one digit more
  pub rest_turn : (k : ℕ) → n / b ^ k / b ≡ n / b ^ (k + 1)
  rest_turn k = div-div-eq-div-mul n (b ^ k) b ∙ ap (λ (m : ℕ). n / m) (sym (pow-suc b k) ∙ ap (λ (m : ℕ). b ^ m) (sym (add-one k)))

  -- one digit more than the exponent of the highest power of the base that is within the number; one for 0
  places_one : n ≡ 0 → 1 ≡ places_of b n
  unfolding places_of
  places_one z = sym (least_here (holds b n) 64 1 (omega arith) (lt-ltb n (b ^ 1) (omega (arith, power_some 1))))

  places_more : (k : ℕ) → b ^ k ≤ n → n < b * b ^ k → k < 64 → suc k ≡ places_of b n
  unfolding places_of
  places_more k low high few =
      least_once (holds b n) 64 1 (suc k) (places_of b n)
      (record {
        starts = omega arith;
        ends = omega arith;
        fail = λ i h l. le-ltb n (b ^ i) (le_trans (pow-le-pow_right {n = b} (omega arith) (omega arith)) low);
        passes = λ l. lt-ltb n (b ^ suc k) (subst (λ (m : ℕ). n < m) (sym (pow-succ' b k)) high);
      })
      (is_least (holds b n) 64 1)

  pub places_told : (o : Option ℕ) → (IsSome o ↔ (0 < n) × (2 ≤ b)) → IfSome o (λ k. b ^ k ≤ n) → IfSome o (λ k. n < b * b ^ k) → IfSome o (λ k. k < 64)
      → 1 + unwrap_or o 0 ≡ places_of b n
  places_told None some low high few = places_one (by n some.1 refl)
    where
      by : (m : ℕ) → ((0 < n) × (2 ≤ b) → false ≡ true) → n ≡ m → n ≡ 0
      by zero f e = e
      by (suc m) f e = absurd (false≢true (f (omega arith, omega arith)))
  places_told (Some k) some low high few = omega (arith, places_more k low high few)

-- ---- writing them

pub digits_length : (b k n : ℕ) → length (digits b k n) ≡ k
unfolding digits
digits_length b zero n = refl
digits_length b (suc k) n = ap suc (digits_length b k n)

-- a numeral is as long as its digits are many
pub numeral_length : (b n : ℕ) → length (numeral_of b n) ≡ places_of b n
numeral_length b n = digits_length b (places_of b n) n

-- the page xs with the lowest digits of n standing before place e, from place i on
abbrev pub digits_from : List ℕ → ℕ → ℕ → ℕ → ℕ → List ℕ
digits_from xs e b n i = take i xs ++ (digits b (e - i) n ++ drop e xs)

module _ (xs : List ℕ) (e b n : ℕ) (room : e ≤ length xs) where
  -- one digit more
  pub digit_turn : (i : ℕ) → 0 < i → i ≤ e → set (digits_from xs e b n i) (i - 1) (glyph_of (n / b ^ (e - i) % b)) ≡ digits_from xs e b n (i - 1)
  unfolding digits
  digit_turn i h l =
      let p : List ℕ = take (i - 1) xs in
      let y : ℕ = get_or xs (i - 1) 0 in
      let rest : List ℕ = digits b (e - i) n ++ drop e xs in
      let g : ℕ = glyph_of (n / b ^ (e - i) % b) in
      let f : i ≡ suc (i - 1) = omega arith in
      let f' : e - (i - 1) ≡ suc (e - i) = omega arith in
      ap (λ (zs : List ℕ). set (zs ++ rest) (i - 1) g) (ap (λ (m : ℕ). take m xs) f ∙ take-suc xs (i - 1) 0 (omega arith))
      ∙ ap (λ (zs : List ℕ). set zs (i - 1) g) (append_snoc p y rest)
      ∙ set_at p y rest g (i - 1) (length-take-le (i - 1) xs (omega arith))
      ∙ ap (λ (m : ℕ). p ++ (digits b m n ++ drop e xs)) (sym f')

  -- none yet, and all of them
  pub digits_none : xs ≡ digits_from xs e b n e
  unfolding digits
  digits_none = sym (ap (λ (m : ℕ). take e xs ++ (digits b m n ++ drop e xs)) (sub_self e) ∙ take-append-drop e xs)

  pub digits_all : (at : ℕ) → at + places_of b n ≡ e → digits_from xs e b n at ≡ over xs at (numeral_of b n)
  digits_all at f =
      let long : length (numeral_of b n) ≡ places_of b n = numeral_length b n in
      ap (λ (m : ℕ). take at xs ++ (digits b m n ++ drop e xs)) (omega arith)
      ∙ sym (append_assoc (take at xs) (numeral_of b n) (drop e xs))
      ∙ ap (λ (m : ℕ). take at xs ++ numeral_of b n ++ drop m xs) (omega arith)
      ∙ sym (over_fits xs at (numeral_of b n) (omega arith))
