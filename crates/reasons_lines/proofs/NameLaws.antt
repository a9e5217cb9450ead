-- The names of the coarse reasons as one row of bytes, and on a page, bit by bit; and the bits that have none. Assumes nothing.
use Prim.Native.Nat.{ℕ, ◌+◌, ◌-◌, ◌^◌, ◌≤◌, ◌<◌}
use mathlib.Core.Path.{◌≡◌, refl, sym, ap, subst, ◌∙◌}
use mathlib.Core.Bool.{Bool, true, false, cond}
use mathlib.Core.List.{map, List, [], ◌∷◌, ◌++◌, append-nil}
use lib.ListN.{length, get_or}
use borrow.Author.Tests.{eq-eqb, ne_eqb}
use native.Mathlib.Numerals.{add-one}
use native.Mathlib.Omega.{arith}
use Rattle.words.specs.Below.{any_below}
use Rattle.words.proofs.BelowLaws.{any_some, any_all}
use Rattle.words.proofs.TestLaws.{never_both}
use Rattle.fields.specs.Bits.{field}
use Rattle.fields.specs.Masks.{mask_of, is_set}
use Rattle.fields.proofs.FieldLaws.{field_lt}
use Rattle.fields.proofs.MaskLaws.{mask_same, mask_clear_above, field_set, mask_whole}
use Rattle.text.specs.Words.{line_feed}
use denote.Ref.{Bor}
use Rattle.std.proofs.lemmas.List.{get_or-map, length-map}
use Rattle.text.specs.declared.page.Page.{Page}
use Rattle.text.specs.Page.{Wrote}
use Rattle.text.proofs.PageLaws.{wrote_on}
use Rattle.reasons_lines.specs.ReasonLines.{reserved_text, names, name_runs, names_below, end_text}
use Rattle.reasons_lines.specs.Facts.{NamesFact, ReservedFact}

-- ---- bit by bit

pub names_fact : (x k : ℕ) → NamesFact x k
unfolding names_below
names_fact x k =
    record {
      starts = refl;
      there = λ e. ap (names_below x) (add-one k) ∙ ap (λ (b : Bool). names_below x k ++ name_runs k b) e;
      clear = λ e. ap (names_below x) (add-one k) ∙ ap (λ (b : Bool). names_below x k ++ name_runs k b) e ∙ append-nil (names_below x k);
    }

-- ---- on a page

-- the references ns lend the ten names; past their end nothing is lent
pub record Named (ns : List (Bor (List ℕ))) : Type 0 where
  pub each : map (λ name. name.now) ns ≡ names

abbrev nothing : Bor (List ℕ)
nothing = record { ref_ptr = (0, 0); now = [] }

module _ (x k : ℕ) {v : ℕ} (e : v ≡ field k 1 x) {p q : Page} (so : Wrote p q (names_below x k)) where
  -- the bit's name where it is set, nothing where it is not
  pub names_there : v ≡ 1 → {ns : List (Bor (List ℕ))} → Named ns → k < 10 → {r s : Page} → s ≡ r → Wrote q r ((get_or ns k nothing).now ∷ [])
      → Wrote p s (names_below x (k + 1))
  names_there one {ns} f h {r} {s} i w =
      let l : length ns ≡ 10 = sym (length-map ns (λ name. name.now)) ∙ ap length f.each in
      let n : (get_or ns k nothing).now ≡ get_or names k [] =
      sym (get_or-map (λ name. name.now) ns k nothing [] (omega arith)) ∙ ap (λ (yss : List (List ℕ)). get_or yss k []) f.each in
      subst (λ (t : Page). Wrote p t (names_below x (k + 1))) (sym i)
      (subst (Wrote p r) (sym ((names_fact x k).there (eq-eqb (field k 1 x) 1 (sym e ∙ one))))
      (wrote_on (names_below x k) (get_or names k [] ∷ []) so (subst (λ (ys : List ℕ). Wrote q r (ys ∷ [])) n w)))

  pub names_clear : (v ≡ 1 → ⊥) → {s : Page} → s ≡ q → Wrote p s (names_below x (k + 1))
  names_clear f i =
      subst (λ (t : Page). Wrote p t (names_below x (k + 1))) (sym i)
      (subst (Wrote p q) (sym ((names_fact x k).clear (ne_eqb (field k 1 x) 1 (λ o. f (e ∙ o))))) so)

-- ---- bits without a name

-- where none of a number's 54 bits is set it is 0
no_bit : (y : ℕ) → y < 2 ^ 54 → any_below (is_set y) 54 ≡ false → y ≡ 0
unfolding mask_of
no_bit y h e = sym (mask_whole y 54 h) ∙ mask_same (is_set y) (λ k. false) 54 (any_all (is_set y) 54 e) ∙ refl

-- no bit of 0 is set
zero_clear : (j : ℕ) → is_set 0 j ≡ false
unfolding mask_of
zero_clear j = mask_clear_above (λ k. false) 0 j (omega arith)

clear : (x k : ℕ) → 10 ≤ k → k < 64 → field 10 54 x ≡ 0 → is_set x k ≡ false
clear x k l h z =
    let j : 10 + (k - 10) ≡ k = omega (arith, l) in
    sym (field_set 10 54 x (k - 10) (omega (arith, l, h)) ∙ ap (is_set x) j) ∙ ap (λ (y : ℕ). is_set y (k - 10)) z ∙ zero_clear (k - 10)

pub reserved_fact : (x : ℕ) → ReservedFact x
reserved_fact x = (there (any_below (is_set (field 10 54 x)) 54) refl, back)
  where
    there : (b : Bool) → any_below (is_set (field 10 54 x)) 54 ≡ b → end_text x ≡ reserved_text → (k : ℕ) × (10 ≤ k) × (k < 64) × (is_set x k ≡ true)
    there true e q =
        let s = any_some (is_set (field 10 54 x)) 54 e in
        (10 + s.0, omega arith, omega (arith, s.1), sym (field_set 10 54 x s.0 s.1) ∙ s.2)
    there false e q =
        let z = eq-eqb (field 10 54 x) 0 (no_bit (field 10 54 x) (field_lt 10 54 x) e) in
        absurd (omega (arith, ap length (ap (λ (b : Bool). cond b line_feed reserved_text) (sym z) ∙ q)))

    back : (k : ℕ) × (10 ≤ k) × (k < 64) × (is_set x k ≡ true) → end_text x ≡ reserved_text
    back (k, l, h, s) = ap (λ (b : Bool). cond b line_feed reserved_text) (ne_eqb (field 10 54 x) 0 (λ z. never_both s (clear x k l h z)))
