-- The theorems of Facts.antt on clusters: how many there are, their numbers, their offsets. Assumes nothing.
use Prim.Native.Nat.{ℕ, zero, suc, ◌+◌, ◌*◌, ◌/◌, ◌%◌, ◌^◌, ◌≤◌, ◌<◌}
use mathlib.Core.Path.{◌≡◌, refl, sym, ap, ◌∙◌}
use mathlib.Core.List.{List, [], ◌∷◌}
use mathlib.Core.Logic.{◌⊎◌, inl, inr, ⊎_elim}
use mathlib.Core.Bool.{Bool, true, false}
use native.Mathlib.Omega.{arith}
use borrow.Author.Tests.{ltb-true, ltb-false, leb-true, leb-false}
use lib.Arith.{digits_div, digits_mod}
use lib.Dec.{ltb, leb}
use lib.ListN.{get_or}
use Rattle.words.specs.Answers.{refused, gives}
use Rattle.words.specs.Bytes.{AllBytes, number_at}
use Rattle.words.proofs.NumberLaws.{number_byte}
use Rattle.fields.specs.Bits.{field}
use Rattle.fields.specs.Masks.{how_many, is_set}
use Rattle.fields.proofs.FieldLaws.{field_lt}
use Rattle.fields.proofs.MaskLaws.{many_le, ones_many}
use Rattle.uncore_registers.specs.Header.{header_of}
use Rattle.uncore_registers.specs.Offsets.{offsets_of, values}
use Rattle.uncore_clusters.specs.Clusters.{ones_in, clusters_in, fabric_of, start_in}
use Rattle.uncore_clusters.specs.Facts.{ClustersFact, FabricFact, OffsetFact}
use Rattle.uncore_clusters.proofs.ClusterLaws.{fabric_die, fabric_cluster, fabric_known, fabric_given}

-- ---- how many

pub clusters_fact : (s : List ℕ) → ClustersFact s
unfolding clusters_in ones_in header_of
clusters_fact s =
    let x = field 8 8 (number_at s 0 8) in
    let few : x < 2 ^ 8 = field_lt 8 8 (number_at s 0 8) in
    let same : how_many (is_set x) 64 ≡ how_many (is_set x) 8 = sym (ones_many x 64 (omega (arith, few))) ∙ ones_many x 8 few in
    record { ones = same; most = omega (arith, same, many_le (is_set x) 8) }

-- ---- their numbers

-- two numbers with one remainder and one quotient
digits_once : (k a b : ℕ) {n m : ℕ} → n < k → m < k → a * k + n ≡ b * k + m → (a ≡ b) × (n ≡ m)
digits_once k a b {n} {m} p q e = (
  sym (digits_div a p) ∙ ap (λ (x : ℕ). x / k) e ∙ digits_div b q,
  sym (digits_mod a p) ∙ ap (λ (x : ℕ). x % k) e ∙ digits_mod b q,
)

pub fabric_fact : (s : List ℕ) (die n : ℕ) → FabricFact s die n
fabric_fact s die n =
    record {
      seventeen = (
        λ e. by (ltb 255 die) (leb (clusters_in s) n) refl refl e,
        ⊎_elim (fabric_die s die n) (fabric_cluster s die n),
      );
      number = λ g. (fabric_given s die n, λ h. fabric_known s die n h.0 h.1 ∙ ap (λ (x : ℕ). gives (x ∷ [])) h.2);
      once = λ t die' n' g k e f.
          let p = fabric_given s die n e in
          let q = fabric_given t die' n' f in
          digits_once (clusters_in s) die die' p.1 (omega (arith, q.1, k)) (p.2 ∙ sym q.2 ∙ ap (λ (x : ℕ). die' * x + n') k);
    }
  where
    by : (a b : Bool) → ltb 255 die ≡ a → leb (clusters_in s) n ≡ b → fabric_of s die n ≡ refused 17 → (255 < die) ⊎ (clusters_in s ≤ n)
    by true b p q e = inl (ltb-true _ _ p)
    by false true p q e = inr (leb-true _ _ q)
    by false false p q e = let z : gives ((die * clusters_in s + n) ∷ []) ≡ refused 17 = sym (fabric_known s die n (ltb-false _ _ p) (leb-false _ _ q)) ∙ e in let w : ◌≡◌ {A = ℕ} 0 1 = cc in absurd (omega arith)

-- ---- their offsets

-- a byte of a number of eight, as a field of it and as a byte of the list
module _ (s : List ℕ) (b : AllBytes s) where
  byte_of : (n : ℕ) → n < 8 → field (n * 8) 8 (number_at s 8 8) ≡ get_or s (8 + n) 0
  unfolding field
  byte_of zero h = number_byte s b 8 8 0 h
  byte_of (suc zero) h = number_byte s b 8 8 1 h
  byte_of (suc (suc zero)) h = number_byte s b 8 8 2 h
  byte_of (suc (suc (suc zero))) h = number_byte s b 8 8 3 h
  byte_of (suc (suc (suc (suc zero)))) h = number_byte s b 8 8 4 h
  byte_of (suc (suc (suc (suc (suc zero))))) h = number_byte s b 8 8 5 h
  byte_of (suc (suc (suc (suc (suc (suc zero)))))) h = number_byte s b 8 8 6 h
  byte_of (suc (suc (suc (suc (suc (suc (suc zero))))))) h = number_byte s b 8 8 7 h
  byte_of (suc (suc (suc (suc (suc (suc (suc (suc n)))))))) h = absurd (omega arith)

value_of : (x n : ℕ) → n < 8 → field (n * 8) 8 x ≡ get_or (values (offsets_of x)) n 0
unfolding offsets_of
value_of x zero h = refl
value_of x (suc zero) h = refl
value_of x (suc (suc zero)) h = refl
value_of x (suc (suc (suc zero))) h = refl
value_of x (suc (suc (suc (suc zero)))) h = refl
value_of x (suc (suc (suc (suc (suc zero))))) h = refl
value_of x (suc (suc (suc (suc (suc (suc zero)))))) h = refl
value_of x (suc (suc (suc (suc (suc (suc (suc zero))))))) h = refl
value_of x (suc (suc (suc (suc (suc (suc (suc (suc n)))))))) h = absurd (omega arith)

pub offset_fact : (s : List ℕ) (n : ℕ) → OffsetFact s n
unfolding start_in
offset_fact s n =
    record {
      named = λ h. ap (λ (x : ℕ). x * 8) (value_of (number_at s 8 8) n h);
      byte = λ b h. ap (λ (x : ℕ). x * 8) (byte_of s b n h);
    }
