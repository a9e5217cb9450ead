-- The faults of a table: the numbers of a bank, a turn of the pass over the earlier banks, and the fault of an entry, case by case. Assumes
-- nothing.
use Prim.Native.Nat.{ℕ, ◌+◌, ◌*◌, ◌^◌, ◌≤◌, ◌<◌}
use mathlib.Core.Path.{◌≡◌, refl, sym, ap, ap₂, ◌∙◌}
use mathlib.Core.Bool.{Bool, true, false, ◌||◌, or_assoc}
use mathlib.Core.List.{List, [], ◌∷◌}
use mathlib.Core.Logic.{◌≢◌}
use native.Mathlib.Nat.{mul-le-mul}
use native.Mathlib.Omega.{arith}
use borrow.Author.Tests.{lt-ltb, le-ltb, eq-eqb, ne_eqb}
use lib.ListN.{length}
use Rattle.words.specs.Answers.{first}
use Rattle.words.specs.Below.{any_below}
use Rattle.words.specs.Bytes.{number_at}
use Rattle.fields.proofs.FieldLaws.{field_lt}
use Rattle.words.proofs.AnswerLaws.{first_skip, first_take, first_end}
use Rattle.words.proofs.BelowLaws.{any_found, any_next}
use Rattle.tpmi_entries.specs.Entry.{entry_of, entry_at}
use Rattle.tpmi_banks.specs.Faults.{Small, bank_of, bank_in, repeats_at, meets_at, overlap, empty_bank, tests, fault_at}
use Rattle.tpmi_banks.specs.declared.faults.Bank.{Bank}

-- an entry that is read from bytes has small numbers
pub entry_small : (s : List ℕ) (at : ℕ) → Small (entry_at s at)
unfolding entry_at entry_of
entry_small s at = let x : ℕ = number_at s at 8 in record { instances = field_lt 8 8 x; words = field_lt 16 16 x; offset = field_lt 32 16 x }

-- so its bank's bytes stay few
pub bank_small : {a b : ℕ} → a < 256 → b < 65536 → a * b ≤ 16711425
bank_small {a} {b} h k = mul-le-mul {n₁ = a} {m₁ = b} {n₂ = 255} {m₂ = 65535} (omega arith) (omega arith)

pub bank_words : (s : List ℕ) (t k : ℕ) → (bank_in s t k).words < 65536
unfolding bank_in bank_of
bank_words s t k = (entry_small s (t + k * 8)).words

pub bank_instances : (s : List ℕ) (t k : ℕ) → (bank_in s t k).instances < 256
unfolding bank_in bank_of
bank_instances s t k = (entry_small s (t + k * 8)).instances

-- the numbers of a bank, with the table below 2 to the 32
pub record Bounded (b : Bank) : Type 0 where
  pub instances : b.instances < 256
  pub words : b.words < 65536
  pub start : b.start < 2 ^ 33
  pub end : b.end ≡ b.start + b.instances * b.words * 4

pub bank_bounded : (s : List ℕ) (t k : ℕ) → t < 2 ^ 32 → Bounded (bank_in s t k)
unfolding bank_in bank_of
bank_bounded s t k h = let e = entry_small s (t + k * 8) in record { instances = e.instances; words = e.words; start = omega (arith, e.offset); end = refl }

-- ---- a turn of the pass over the earlier banks

-- met so far, by the table or by a bank below j, and by bank j
pub met_more : {x y : Bool} (o : Bool) (p : ℕ → Bool) (j : ℕ) → x ≡ (o || any_below p j) → y ≡ p j → (x || y) ≡ (o || any_below p (j + 1))
met_more o p j e g = ap₂ (λ (a b : Bool). a || b) e g ∙ or_assoc o (any_below p j) (p j) ∙ ap (λ (b : Bool). o || b) (sym (any_next p j))

-- ---- an entry's own fault

module _ (s : List ℕ) (t n k : ℕ) {b : Bank} (is : b ≡ bank_in s t k) where
  pub fault_empty : empty_bank b ≡ true → fault_at s t n k ≡ 0
  unfolding fault_at
  fault_empty e = rw (← is, e)

  module _ (filled : empty_bank b ≡ false) where
    pub entry_tests : fault_at s t n k ≡ first (tests s t n k b)
    unfolding fault_at
    entry_tests = rw (← is, filled)

    pub fault_eight : b.words ≡ 1 → fault_at s t n k ≡ 8
    fault_eight e = entry_tests ∙ first_take _ _ (eq-eqb _ _ e)

    module _ (wide : b.words ≢ 1) where
      pub fault_nine : length s < b.end → fault_at s t n k ≡ 9
      fault_nine l = entry_tests ∙ first_skip _ _ (ne_eqb _ _ wide) ∙ first_take _ _ (lt-ltb _ _ l)

      module _ (inside : b.end ≤ length s) where
        from_ten : fault_at s t n k ≡ first ((any_below (repeats_at s t b) k, 10) ∷ (overlap t (t + n * 8) b.start b.end || any_below (meets_at s t b) k, 11) ∷ [])
        from_ten = entry_tests ∙ first_skip _ _ (ne_eqb _ _ wide) ∙ first_skip _ _ (le-ltb _ _ inside)

        pub fault_ten : (j : ℕ) → j < k → repeats_at s t b j ≡ true → fault_at s t n k ≡ 10
        fault_ten j l r = from_ten ∙ first_take _ _ (any_found (repeats_at s t b) j k l r)

        module _ {j : ℕ} (all : j ≡ k) (unlike : any_below (repeats_at s t b) j ≡ false) where
          past_ten : {m : Bool} → m ≡ (overlap t (t + n * 8) b.start b.end || any_below (meets_at s t b) j) → fault_at s t n k ≡ first ((m, 11) ∷ [])
          past_ten e =
              from_ten ∙ first_skip _ _ (ap (any_below (repeats_at s t b)) (sym all) ∙ unlike)
              ∙ ap (λ (x : Bool). first ((x, 11) ∷ [])) (ap (λ (i : ℕ). overlap t (t + n * 8) b.start b.end || any_below (meets_at s t b) i) (sym all) ∙ sym e)

          pub fault_eleven : {m : Bool} → m ≡ (overlap t (t + n * 8) b.start b.end || any_below (meets_at s t b) j) → m ≡ true → fault_at s t n k ≡ 11
          fault_eleven e h = past_ten e ∙ first_take _ _ h

          pub fault_clean : {m : Bool} → m ≡ (overlap t (t + n * 8) b.start b.end || any_below (meets_at s t b) j) → m ≡ false → fault_at s t n k ≡ 0
          fault_clean e h = past_ten e ∙ first_skip _ _ h ∙ first_end
