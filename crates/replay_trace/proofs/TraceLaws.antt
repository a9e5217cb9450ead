-- Laws of the records of a trace, one for each way through a definition. Assumes nothing.
use Prim.Native.Nat.{ℕ, zero, suc, ◌^◌, ◌<◌}
use mathlib.Core.Path.{◌≡◌, refl, sym, ap, ◌∙◌}
use mathlib.Core.Bool.{Bool, false, cond}
use mathlib.Core.List.{List, [], ◌∷◌}
use mathlib.Core.Logic.{◌≢◌}
use native.Mathlib.Omega.{arith}
use borrow.Author.Tests.{eq-eqb, ne_eqb}
use lib.Dec.{eqb}
use lib.ListN.{length, get_or}
use Rattle.std.specs.Prelude.{Some, None}
use Rattle.std.specs.List.{slice_get}
use Rattle.std.proofs.lemmas.Option.{get_or_from_slice_get}
use Rattle.records.specs.Partial.{length_of}
use Rattle.records_body.specs.Body.{size, extent, numbers_at}
use Rattle.records_body.specs.Facts.{Fit}
use Rattle.replay_trace.specs.Trace.{row_of, lengths, nothing, meant, says_of}

-- ---- the table

-- as the code has it
abbrev pub lent : List ℕ
lent = 0 ∷ 23 ∷ 18 ∷ 18 ∷ 2 ∷ 27 ∷ 22 ∷ 22 ∷ []

pub lengths_are : lengths ≡ lent
unfolding extent size
lengths_are = refl

-- a kind that the table does not have
pub data Strange : ℕ → Type 0 where
  nought : Strange 0
  further : (k : ℕ) → Strange (suc (suc (suc (suc (suc (suc (suc (suc k))))))))

-- a record's length by it
pub length_by : (k n : ℕ) → n ≡ length_of lent k → n ≡ length_of lengths k
length_by k n e = e ∙ ap (λ (t : List ℕ). length_of t k) (sym lengths_are)

-- ---- what a record says

pub meant_none : {k : ℕ} (vs : List ℕ) → Strange k → nothing ≡ meant k vs
unfolding meant
meant_none vs nought = refl
meant_none vs (further k) =
    simp (far 1 (omega arith), far 5 (omega arith), far 2 (omega arith), far 6 (omega arith), far 3 (omega arith), far 7 (omega arith), far 4 (omega arith))
  where
    far : (j : ℕ) → j < 8 → eqb (suc (suc (suc (suc (suc (suc (suc (suc k)))))))) j ≡ false
    far j h = ne_eqb _ j (λ e. omega (arith, h, e))

module _ (r : List ℕ) where
  abbrev pub kind_in : ℕ
  kind_in = get_or r 0 0

  pub says_nothing : length_of lengths kind_in ≢ length r → says_of r ≡ nothing
  unfolding says_of
  says_nothing h = ap (λ (b : Bool). cond b (meant kind_in (numbers_at (row_of kind_in) r 1)) nothing) (ne_eqb (length_of lengths kind_in) (length r) h)

  pub says_record : length_of lengths kind_in ≡ length r → says_of r ≡ meant kind_in (numbers_at (row_of kind_in) r 1)
  unfolding says_of
  says_record h = ap (λ (b : Bool). cond b (meant kind_in (numbers_at (row_of kind_in) r 1)) nothing) (eq-eqb (length_of lengths kind_in) (length r) h)

  -- the same, where k is the kind as the code has it, and n the bytes of its record
  module _ {k n : ℕ} (first : slice_get r 0 ≡ Some k) (many : n ≡ length_of lengths k) where
    kind : k ≡ kind_in
    kind = sym (get_or_from_slice_get r 0 k 0 first)

    length_said : n ≡ length_of lengths kind_in
    length_said = many ∙ ap (length_of lengths) kind

    pub says_none : n ≢ length r → nothing ≡ says_of r
    says_none h = sym (says_nothing (λ e. h (length_said ∙ e)))

    pub says_whole : n ≡ length r → meant k (numbers_at (row_of k) r 1) ≡ says_of r
    says_whole h = ap (λ (j : ℕ). meant j (numbers_at (row_of j) r 1)) kind ∙ sym (says_record (sym length_said ∙ h))

-- no byte says no kind
pub says_empty : (r : List ℕ) → slice_get r 0 ≡ None → nothing ≡ says_of r
unfolding says_of length_of meant extent size
says_empty [] e = refl
says_empty (x ∷ xs) e = cc

-- numbers that fit their widths, one by one
pub fit_at : (ws vs : List ℕ) → Fit ws vs → (i : ℕ) → get_or vs i 0 < 256 ^ size (get_or ws i 0)
unfolding size
fit_at [] [] f i = omega arith
fit_at [] (v ∷ vs) f i = absurd f
fit_at (w ∷ ws) [] f i = absurd f
fit_at (w ∷ ws) (v ∷ vs) f zero = f.0
fit_at (w ∷ ws) (v ∷ vs) f (suc i) = fit_at ws vs f.1 i
