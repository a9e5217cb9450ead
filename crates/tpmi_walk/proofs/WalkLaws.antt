-- The walk, header by header: the cases of each definition under its tests. Assumes nothing.
use Prim.Native.Nat.{ℕ, zero, suc, ◌%◌, ◌≤◌, ◌<◌}
use mathlib.Core.Path.{◌≡◌, refl, sym, ap, ◌∙◌}
use mathlib.Core.Bool.{Bool, true, false, cond, not, ◌&&◌, ◌||◌}
use mathlib.Core.List.{List, [], ◌∷◌}
use mathlib.Core.Logic.{◌≢◌}
use native.Mathlib.Nat.{not-suc-le-zero}
use native.Mathlib.Omega.{arith}
use borrow.Author.Tests.{lt-ltb, le-ltb, eq-eqb, ne_eqb}
use lib.Dec.{ltb, eqb}
use Rattle.words.specs.Answers.{Answer, refused, gives, unless}
use Rattle.words.specs.Bytes.{number_at}
use Rattle.fields.specs.Bits.{field}
use Rattle.words.proofs.TestLaws.{as_must, not_as_must, or_skip, or_take, or_second}
use Rattle.words.proofs.AnswerLaws.{first_skip, first_take, first_end}
use Rattle.tpmi_structure.specs.Structure.{vsec_at, fixed_wrong}
use Rattle.tpmi_walk.specs.Walk.{Header, stops, goes, identifier_at, next_at, vsec_id_at, followed, taken_at, header_at, onward, walk_from, empty_list, unless_empty, walk_of}

-- ---- a next offset

module _ (n : ℕ) where
  pub followed_end : n ≡ 0 → followed n ≡ stops (refused 3)
  unfolding followed
  followed_end e = rw (eq-eqb n 0 e)

  bad : n ≢ 0 → (ltb n 0x100 || not (eqb (n % 4) 0)) ≡ true → followed n ≡ stops (refused 4)
  unfolding followed
  bad h e = rw (ne_eqb n 0 h, e)

  pub followed_low : n ≢ 0 → n < 0x100 → followed n ≡ stops (refused 4)
  followed_low h l = bad h (or_take _ (lt-ltb _ _ l))

  pub followed_odd : n ≢ 0 → n % 4 ≢ 0 → followed n ≡ stops (refused 4)
  followed_odd h o = bad h (or_second (ltb n 0x100) (not_as_must o))

  pub followed_on : 0x100 ≤ n → n % 4 ≡ 0 → followed n ≡ goes n
  unfolding followed
  followed_on l e = rw (ne_eqb n 0 (λ z. omega arith), or_skip _ (le-ltb _ _ l) ∙ as_must e)

-- ---- a TPMI header

module _ (s : List ℕ) (at : ℕ) where
  pub taken_high : 4080 < at → taken_at s at ≡ refused 5
  unfolding taken_at
  taken_high h = ap (λ (n : ℕ). unless n (gives (at ∷ []))) (first_take _ _ (lt-ltb _ _ h))

  pub taken_wrong : at ≤ 4080 → fixed_wrong (vsec_at s at) ≡ true → taken_at s at ≡ refused 5
  unfolding taken_at
  taken_wrong h e = ap (λ (n : ℕ). unless n (gives (at ∷ []))) (first_skip _ _ (le-ltb _ _ h) ∙ first_take _ _ e)

  pub taken_sound : at ≤ 4080 → fixed_wrong (vsec_at s at) ≡ false → taken_at s at ≡ gives (at ∷ [])
  unfolding taken_at
  taken_sound h e = ap (λ (n : ℕ). unless n (gives (at ∷ []))) (first_skip _ _ (le-ltb _ _ h) ∙ first_skip _ _ e ∙ first_end)

  -- ---- any header

  -- what is read of its first word is what the definition reads
  pub identifier_read : {x y z : ℕ} → x ≡ number_at s at 4 → y ≡ x → z ≡ field 0 16 y → z ≡ identifier_at s at
  unfolding identifier_at
  identifier_read p q r = r ∙ ap (field 0 16) (q ∙ p)

  pub next_read : {x y z : ℕ} → x ≡ number_at s at 4 → y ≡ x → z ≡ field 20 12 y → z ≡ next_at s at
  unfolding next_at
  next_read p q r = r ∙ ap (field 20 12) (q ∙ p)

  pub header_cut : identifier_at s at ≡ 0x000B → 4088 < at → header_at s at ≡ stops (refused 5)
  unfolding header_at
  header_cut i h = rw (eq-eqb _ _ i, lt-ltb _ _ h)

  pub header_tpmi : identifier_at s at ≡ 0x000B → at ≤ 4088 → vsec_id_at s at ≡ 0x42 → header_at s at ≡ stops (taken_at s at)
  unfolding header_at
  header_tpmi i h v = simp (eq-eqb _ _ i, le-ltb _ _ h, eq-eqb _ _ v)

  pub header_other_id : at ≤ 4088 → vsec_id_at s at ≢ 0x42 → header_at s at ≡ followed (next_at s at)
  unfolding header_at
  header_other_id h v = by (eqb (identifier_at s at) 0x000B)
    where
      by : (b : Bool)
          → cond (b && ltb 4088 at) (stops (refused 5)) (cond (b && eqb (vsec_id_at s at) 0x42) (stops (taken_at s at)) (followed (next_at s at))) ≡ followed (next_at s at)
      by true = simp (le-ltb _ _ h, ne_eqb _ _ v)
      by false = refl

  pub header_other : identifier_at s at ≢ 0x000B → header_at s at ≡ followed (next_at s at)
  unfolding header_at
  header_other i = rw (ne_eqb _ _ i)

-- ---- the walk

module _ (s : List ℕ) where
  pub walk_zeros : number_at s 0x100 4 ≡ 0 → walk_of s ≡ refused 3
  unfolding walk_of empty_list
  walk_zeros h = ap (λ (b : Bool). unless_empty b (walk_from s 960)) (or_take _ (eq-eqb _ _ h))

  pub walk_ones : number_at s 0x100 4 ≡ 0xFFFFFFFF → walk_of s ≡ refused 3
  unfolding walk_of empty_list
  walk_ones h = ap (λ (b : Bool). unless_empty b (walk_from s 960)) (or_second (eqb (number_at s 0x100 4) 0) (eq-eqb _ _ h))

  pub walk_begins : {left : ℕ} → left ≡ 960 → number_at s 0x100 4 ≢ 0 → number_at s 0x100 4 ≢ 0xFFFFFFFF → walk_from s left 0x100 ≡ walk_of s
  unfolding walk_of empty_list
  walk_begins e z o =
      ap (λ (k : ℕ). walk_from s k 0x100) e
      ∙ sym (ap (λ (b : Bool). unless_empty b (walk_from s 960)) (or_skip _ (ne_eqb _ _ z) ∙ ne_eqb _ _ o))

  -- while headers are left, one is read: the walk stops there with its answer, or goes on with one header less
  pub walk_onward : (left less at : ℕ) {h : Header} {a : Answer} → walk_from s left at ≡ a → left ≡ suc less → header_at s at ≡ h → onward h (walk_from s less) ≡ a
  unfolding walk_from
  walk_onward left less at w p q = ap (λ (h : Header). onward h (walk_from s less)) (sym q) ∙ ap (λ (k : ℕ). walk_from s k at) (sym p) ∙ w

  pub walk_out : (left at : ℕ) → left ≤ 0 → walk_from s left at ≡ refused 4
  unfolding walk_from
  walk_out zero at h = refl
  walk_out (suc left) at h = absurd (not-suc-le-zero h)
