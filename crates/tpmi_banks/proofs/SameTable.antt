-- The faults of a table hang on its bytes and on the length of the BAR capture alone: where those are the same, so are the banks and the
-- faults. Assumes nothing.
use Prim.Native.Nat.{ℕ, ◌+◌, ◌*◌, ◌<◌}
use mathlib.Core.Path.{◌≡◌, ap, ap₂, ◌∙◌}
use mathlib.Core.Bool.{Bool, cond, ◌||◌}
use mathlib.Core.List.{List, [], ◌∷◌}
use native.Mathlib.Omega.{arith}
use lib.Dec.{ltb, eqb}
use lib.ListN.{length}
use Rattle.words.specs.Answers.{first}
use Rattle.words.specs.Below.{any_below}
use Rattle.words.specs.Bytes.{number_at}
use Rattle.words.proofs.BelowLaws.{any_same, fault_same}
use Rattle.tpmi_entries.specs.Entry.{entry_of, entry_at}
use Rattle.tpmi_banks.specs.Faults.{bank_of, bank_in, empty_bank, overlap, repeats, meets, repeats_at, meets_at, tests, fault_at, faults_of}
use Rattle.tpmi_banks.specs.declared.faults.Bank.{Bank}

module _ (s z : List ℕ) (t n : ℕ) (bytes : (k : ℕ) → k < n → number_at s (t + k * 8) 8 ≡ number_at z (t + k * 8) 8) where
  pub bank_same : (k : ℕ) → k < n → bank_in s t k ≡ bank_in z t k
  unfolding bank_in entry_at
  bank_same k l = ap (λ (x : ℕ). bank_of t (entry_of x)) (bytes k l)

  tests_same : length s ≡ length z → (k : ℕ) → k < n → (b : Bank) → tests s t n k b ≡ tests z t n k b
  tests_same long k l b =
      let f : ℕ → Bool → Bool → List (Bool × ℕ) = λ m x y. (eqb b.words 1, 8) ∷ (ltb m b.end, 9) ∷ (x, 10) ∷ (overlap t (t + n * 8) b.start b.end || y, 11) ∷ [] in
      ap (λ (m : ℕ). f m (any_below (repeats_at s t b) k) (any_below (meets_at s t b) k)) long
      ∙ ap₂ (f (length z)) (any_same _ _ k (λ j h. ap (λ (a : Bank). repeats a b) (bank_same j (omega arith)))) (any_same _ _ k (λ j h. ap (λ (a : Bank). meets a b) (bank_same j (omega arith))))

  pub faults_same : length s ≡ length z → faults_of s t n ≡ faults_of z t n
  unfolding faults_of fault_at
  faults_same long =
      fault_same (fault_at s t n) (fault_at z t n) n
      (λ k l.
      ap (λ (b : Bank). cond (empty_bank b) 0 (first (tests s t n k b))) (bank_same k l)
      ∙ ap (λ (ts : List (Bool × ℕ)). cond (empty_bank (bank_in z t k)) 0 (first ts)) (tests_same long k l (bank_in z t k)))
