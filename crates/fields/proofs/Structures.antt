-- The round trips of any structure, and of any register, as a value of the code, from its table of widths. Assumes nothing.
use Prim.Native.Nat.{ℕ, ◌*◌, ◌^◌, ◌≤◌, ◌<◌}
use mathlib.Core.Path.{◌≡◌, refl, sym, ap, ◌∙◌, subst}
use mathlib.Core.Bool.{Bool, true, false, cond}
use mathlib.Core.List.{List, [], ◌∷◌}
use mathlib.Core.Logic.{◌⊎◌, inl, inr, ◌≢◌}
use native.Mathlib.Nat.{zero-add, one-le-pow, zero-lt-suc}
use native.Mathlib.Omega.{arith}
use borrow.Author.Tests.{eq-eqb, ne_eqb}
use lib.Dec.{eqb}
use lib.Pow.{pow_pos}
use lib.ListN.{length, get_or}
use Rattle.words.specs.Answers.{refused, gives, first, unless}
use Rattle.words.specs.Bytes.{AllBytes, number_at, stored}
use Rattle.fields.specs.Tables.{fields, with_fields, total, Fit, wider, misfit, written_unless, written_word}
use Rattle.fields.specs.Facts.{ValueTrips, WordTrips}
use Rattle.words.proofs.TestLaws.{fails_exactly}
use Rattle.words.proofs.AnswerLaws.{first_skip, first_take, first_end}
use Rattle.words.proofs.StoreLaws.{stored_other}
use Rattle.fields.proofs.TableLaws.{fields_with, fields_fit, fields_whole, fields_lt, fit_narrow, narrow_fit, structure_back, structure_kept, structure_carried}
use Rattle.fields.proofs.WordLaws.{misfit_table}
use Rattle.fields.proofs.Theorems.{wider_fact}

-- ---- a structure, in a part of n bytes or more

module _ (number n : ℕ) (ws vs s : List ℕ) where
  pub unless_refused : number ≢ 0 → written_unless number n ws vs s ≡ s
  unless_refused h = rw (ne_eqb number 0 h)

  pub unless_accepted : number ≡ 0 → written_unless number n ws vs s ≡ stored s 0 n (with_fields 0 ws 0 vs)
  unless_accepted e = rw (eq-eqb number 0 e)

  -- what holds of the part as it was, and of the part with the structure in it, holds of what is written
  unless_either : (P : List ℕ → Type 0) → P (stored s 0 n (with_fields 0 ws 0 vs)) → P s → P (written_unless number n ws vs s)
  unless_either P a b = by (eqb number 0)
    where
      by : (t : Bool) → P (cond t (stored s 0 n (with_fields 0 ws 0 vs)) s)
      by true = a
      by false = b

-- V's values as they stand in the fields, the value that a number holds, and what writing a value answers
module _ {S : Type 0} (ws : List ℕ) (n : ℕ) (size : total ws ≡ 8 * n) (values : S → List ℕ) (of : ℕ → S) (number : List ℕ → S → ℕ)
    (values_of : (x : ℕ) → values (of x) ≡ fields 0 ws x)
    (fits : (s : List ℕ) (v : S) → number s v ≡ 0 → (n ≤ length s) × Fit ws (values v))
    (once : (s : List ℕ) (v : S) → number s v ≡ 0 → (x : ℕ) → values (of x) ≡ values v → of x ≡ v)
    (s : List ℕ) where
  some : 0 < 256 ^ n
  some = one-le-pow n 256 (zero-lt-suc 255)

  -- the word written from a value that was read is written from its fields
  word_of_read : with_fields 0 ws 0 (values (of (number_at s 0 n))) ≡ with_fields 0 ws 0 (fields 0 ws (number_at s 0 n))
  word_of_read = ap (with_fields 0 ws 0) (values_of (number_at s 0 n))

  kept_value : (v : S) → number s v ≡ 0 → of (number_at (written_unless (number s v) n ws (values v) s) 0 n) ≡ v
  kept_value v z =
      let f = fits s v z in
      once s v z _ (values_of _ ∙ ap (λ (l : List ℕ). fields 0 ws (number_at l 0 n)) (unless_accepted (number s v) n ws (values v) s z) ∙ structure_kept ws n size s 0 0 some (values v) f.1 (rw zero-add f.0))

  carried_bytes : AllBytes s → (z : List ℕ) → number z (of (number_at s 0 n)) ≡ 0 → (k : ℕ) → k < n
      → get_or (written_unless (number z (of (number_at s 0 n))) n ws (values (of (number_at s 0 n))) z) k 0 ≡ get_or s k 0
  carried_bytes b z e k l =
      let v : S = of (number_at s 0 n) in
      ap (λ (x : List ℕ). get_or x k 0) (unless_accepted (number z v) n ws (values v) z e ∙ ap (stored z 0 n) word_of_read)
      ∙ subst (λ (j : ℕ). get_or (stored z 0 n (with_fields 0 ws 0 (fields 0 ws (number_at s 0 n)))) j 0 ≡ get_or s j 0) (zero-add k) (structure_carried ws n size s 0 0 some b z 0 (rw zero-add (fits z v e).0) k l)

  pub value_trips : ValueTrips n (λ (z : List ℕ). of (number_at z 0 n)) number (λ (z : List ℕ) (v : S). written_unless (number z v) n ws (values v) z) s
  value_trips =
      record {
        back = λ b. unless_either (number s (of (number_at s 0 n))) n ws (values (of (number_at s 0 n))) s (λ z. z ≡ s) (ap (stored s 0 n) word_of_read ∙ structure_back ws n size s 0 0 some b) refl;
        carried = carried_bytes;
        kept = kept_value;
        past = λ v k h. unless_either (number s v) n ws (values v) s (λ z. get_or z k 0 ≡ get_or s k 0) (stored_other s 0 n _ k (inr (rw zero-add h))) refl;
        refused_kept = λ v. unless_refused (number s v) n ws (values v) s;
      }

-- ---- a register: the answer to a write, by the test of widths

module _ (ws vs : List ℕ) where
  pub word_misfit : misfit ws vs ≡ true → written_word ws vs ≡ refused 17
  unfolding written_word first
  word_misfit h = rw h

module _ (ws vs : List ℕ) (long : length ws ≡ length vs) (small : total ws ≤ 64) where
  by_widths : written_word ws vs ≡ unless (first ((wider ws vs, 17) ∷ [])) (gives (with_fields 0 ws 0 vs ∷ []))
  unfolding written_word
  by_widths = rw (misfit_table ws vs long small)

  by_number : (n : ℕ) → first ((wider ws vs, 17) ∷ []) ≡ n → written_word ws vs ≡ unless n (gives (with_fields 0 ws 0 vs ∷ []))
  by_number n e = by_widths ∙ ap (λ (m : ℕ). unless m (gives (with_fields 0 ws 0 vs ∷ []))) e

  pub word_wide : wider ws vs ≡ true → written_word ws vs ≡ refused 17
  word_wide h = by_number 17 (first_take _ _ h)

  pub word_right : wider ws vs ≡ false → written_word ws vs ≡ gives (with_fields 0 ws 0 vs ∷ [])
  word_right h = by_number 0 (first_skip _ _ h ∙ first_end)

  -- and back again: what the answer tells of the test
  pub word_refused : (n : ℕ) → written_word ws vs ≡ refused n → wider ws vs ≡ true
  word_refused n e = by (wider ws vs) refl
    where
      by : (t : Bool) → wider ws vs ≡ t → wider ws vs ≡ true
      by true h = h
      by false h = let z = word_right h in cc

  pub word_given : (x : ℕ) → written_word ws vs ≡ gives (x ∷ []) → (wider ws vs ≡ false) × (with_fields 0 ws 0 vs ≡ x)
  word_given x e = by (wider ws vs) refl
    where
      by : (t : Bool) → wider ws vs ≡ t → (wider ws vs ≡ false) × (with_fields 0 ws 0 vs ≡ x)
      by true h = let z = word_wide h in (cc, cc)
      by false h = let z = word_right h in (h, cc)

-- S's values as they stand in the fields, and the value that a content holds
module _ {S : Type 0} (ws : List ℕ) (values : S → List ℕ) (read : ℕ → S)
    (values_of : (x : ℕ) → values (read x) ≡ fields 0 ws x)
    (values_once : (u v : S) → values u ≡ values v → u ≡ v)
    (long : (v : S) → length ws ≡ length (values v))
    (small : total ws ≤ 64) where
  -- the content that is given has the table's bits and reads as the value
  reads : (v : S) → Fit ws (values v) → (with_fields 0 ws 0 (values v) < 2 ^ total ws) × (read (with_fields 0 ws 0 (values v)) ≡ v)
  reads v f =
      (fields_lt 0 ws 0 (values v) (total ws) (omega arith) (pow_pos (total ws)), values_once _ v (values_of _ ∙ fields_with 0 ws 0 (values v) f))

  given : (v : S) (x : ℕ) → written_word ws (values v) ≡ gives (x ∷ []) → (x < 2 ^ total ws) × (read x ≡ v)
  given v x e =
      let g = word_given ws (values v) (long v) small x e in
      subst (λ (y : ℕ). (y < 2 ^ total ws) × (read y ≡ v)) g.1 (reads v (narrow_fit ws (values v) (long v) g.0))

  -- a content is given back
  given_back : (x : ℕ) → x < 2 ^ total ws → written_word ws (values (read x)) ≡ gives (x ∷ [])
  given_back x h =
      let fit : Fit ws (values (read x)) = subst (Fit ws) (sym (values_of x)) (fields_fit 0 ws x) in
      word_right ws (values (read x)) (long (read x)) small (fit_narrow ws _ fit)
      ∙ ap (λ (y : ℕ). gives (y ∷ [])) (ap (with_fields 0 ws 0) (values_of x) ∙ fields_whole ws x 0 h (pow_pos (total ws)))

  pub word_trips : (v : S) → WordTrips ws values read v
  word_trips v =
      let exactly = fails_exactly (wider ws (values v)) (wider_fact ws (values v) (long v)) in
      record {
        seventeen = (λ e. exactly.0 (word_refused ws (values v) (long v) small 17 e), λ n. word_wide ws (values v) (long v) small (exactly.1 n));
        content = λ x. (given v x, λ h. subst (λ (u : S). written_word ws (values u) ≡ gives (x ∷ [])) h.1 (given_back x h.0));
        complete = by (wider ws (values v)) refl;
      }
    where
      by : (t : Bool) → wider ws (values v) ≡ t → (written_word ws (values v) ≡ refused 17) ⊎ ((x : ℕ) × (written_word ws (values v) ≡ gives (x ∷ [])))
      by true e = inl (word_wide ws (values v) (long v) small e)
      by false e = inr (with_fields 0 ws 0 (values v), word_right ws (values v) (long v) small e)
