-- Clusters and the places of their registers, test by test and stage by stage, and what an answer tells. Assumes nothing.
use Prim.Native.Nat.{ℕ, ◌+◌, ◌*◌, ◌-◌, ◌^◌, ◌%◌, ◌≤◌, ◌<◌}
use mathlib.Core.Path.{◌≡◌, refl, sym, ap, ◌∙◌}
use mathlib.Core.Bool.{Bool, true, false, cond}
use mathlib.Core.List.{List, [], ◌∷◌}
use mathlib.Core.Logic.{◌≢◌}
use native.Mathlib.Omega.{arith}
use native.Mathlib.Nat.{mul-le-mul}
use borrow.Author.Tests.{lt-ltb, le-ltb, ltb-true, ltb-false, le-leb, lt-leb, leb-false}
use lib.Count.{ones}
use lib.Dec.{ltb}
use lib.ListN.{length, get_or}
use Rattle.words.specs.Answers.{refused, gives, unless, first}
use Rattle.words.specs.Bytes.{AllBytes, number_at}
use Rattle.words.proofs.AnswerLaws.{unless_gives, unless_refused, unless_passes, unless_stops, first_skip, first_take, first_end, first_zero, first_upto, staged_refused, staged_gives, staged_last}
use Rattle.words.proofs.TestLaws.{or_skip, or_take, or_second, or_neither, and_skip, and_first}
use Rattle.words.proofs.NumberLaws.{number_lt}
use Rattle.fields.specs.Bits.{field}
use Rattle.fields.specs.Masks.{is_set}
use Rattle.fields.proofs.FieldLaws.{field_lt}
use Rattle.fields.proofs.MaskLaws.{many_le, ones_many}
use Rattle.fields.proofs.Shifts.{shr_out}
use Rattle.uncore_clusters.specs.Clusters.{ones_in, clusters_in, fabric_number, fabric_of, start_in, place_of, unnamed, past, unread, place_number, place_in, content_in}

-- ---- clusters

pub ones_most : (x : ℕ) → ones_in x ≤ 64
unfolding ones_in
ones_most x = many_le (is_set x) 64

-- the ones that the machine counts
pub ones_counted : (x : ℕ) → x < 2 ^ 64 → ones x ≡ ones_in x
unfolding ones_in
ones_counted x h = ones_many x 64 h

pub clusters_most : (s : List ℕ) → clusters_in s ≤ 64
unfolding clusters_in
clusters_most s = ones_most _

module _ (s : List ℕ) (die n : ℕ) where
  by_fabric : {m : ℕ} → fabric_number s die n ≡ m → fabric_of s die n ≡ unless m (gives ((die * clusters_in s + n) ∷ []))
  unfolding fabric_of
  by_fabric e = ap (λ (k : ℕ). unless k (gives ((die * clusters_in s + n) ∷ []))) e

  pub fabric_die : 255 < die → fabric_of s die n ≡ refused 17
  unfolding fabric_number
  fabric_die h = by_fabric (first_take _ _ (or_take _ (lt-ltb _ _ h)))

  pub fabric_cluster : clusters_in s ≤ n → fabric_of s die n ≡ refused 17
  unfolding fabric_number
  fabric_cluster h = by_fabric (first_take _ _ (or_second (ltb 255 die) (le-leb _ _ h)))

  pub fabric_known : die ≤ 255 → n < clusters_in s → fabric_of s die n ≡ gives ((die * clusters_in s + n) ∷ [])
  unfolding fabric_number
  fabric_known d h = by_fabric (first_skip _ _ (or_skip _ (le-ltb _ _ d) ∙ lt-leb _ _ h) ∙ first_end)

  pub fabric_given : {g : ℕ} → fabric_of s die n ≡ gives (g ∷ []) → (die ≤ 255) × (n < clusters_in s) × (die * clusters_in s + n ≡ g)
  unfolding fabric_of fabric_number
  fabric_given e =
      let u = unless_gives (fabric_number s die n) e in
      let f = or_neither (ltb 255 die) _ (first_zero _ tt u.0).0 in
      (ltb-false _ _ f.0, leb-false _ _ f.1, ap (λ (l : List ℕ). get_or l 0 0) u.1)

-- die × clusters + n leaves room
pub fabric_room : (die k : ℕ) → die ≤ 255 → k ≤ 64 → die * k ≤ 255 * 64
fabric_room die k d h = mul-le-mul d h

-- what the proof of `fabric_in` goes by
pub ruleset fabric_ways = (clusters_most, fabric_room, fabric_die, fabric_cluster, fabric_known)

-- ---- where registers stand

-- there is no ninth byte
pub start_past : (s : List ℕ) → AllBytes s → (n : ℕ) → 7 < n → start_in s n ≡ 0
unfolding start_in field
start_past s b n h = ap (λ (x : ℕ). x % 2 ^ 8 * 8) (shr_out (number_at s 8 8) (n * 8) (omega arith) (number_lt s b 8 8))

-- a byte that was read, wherever it stands
pub byte_lt : (p x : ℕ) {v : ℕ} → v ≡ field p 8 x → v < 256
byte_lt p x e = omega (arith, e, field_lt p 8 x)

pub start_most : (s : List ℕ) (n : ℕ) → start_in s n ≤ 2040
unfolding start_in
start_most s n = omega (arith, field_lt (n * 8) 8 (number_at s 8 8))

-- what the proof of `start_in` goes by
pub ruleset start_ways = (start_past, byte_lt)

module _ (s : List ℕ) (n r : ℕ) where
  pub place_own : r < 2 → place_of s n r ≡ r * 8
  unfolding place_of
  place_own h = rw (lt-ltb r 2 h)

  pub place_cluster : 2 ≤ r → place_of s n r ≡ start_in s n + (r - 2) * 8
  unfolding place_of
  place_cluster h = rw (le-ltb r 2 h)

module _ (s : List ℕ) (r : ℕ) where
  pub read_own : r < 2 → unread s r ≡ false
  unfolding unread
  read_own h = and_first _ (lt-leb 2 r h)

  pub unread_cluster : 2 ≤ r → unread s r ≡ past s 8
  unfolding unread
  unread_cluster h = and_skip _ (le-leb 2 r h)

module _ (s : List ℕ) (at : ℕ) where
  pub not_past : at + 8 ≤ length s → past s at ≡ false
  unfolding past
  not_past h = le-ltb _ _ h

  pub room : past s at ≡ false → at + 8 ≤ length s
  unfolding past
  room e = ltb-false _ _ e

-- every register stands at a multiple of 8
pub place_eights : (s : List ℕ) (n r : ℕ) → place_of s n r % 8 ≡ 0
unfolding start_in
place_eights s n r = by (ltb r 2) refl
  where
    by : (b : Bool) → ltb r 2 ≡ b → place_of s n r % 8 ≡ 0
    by true e = let p = place_own s n r (ltb-true _ _ e) in omega (arith, p)
    by false e = let p = place_cluster s n r (ltb-false _ _ e) in omega (arith, p)

-- what the stage says that finds a register's place
module _ (s : List ℕ) (n r : ℕ) where
  stood : {b : Bool} → unread s r ≡ b → cond (unread s r) (refused 14) (gives (place_of s n r ∷ [])) ≡ cond b (refused 14) (gives (place_of s n r ∷ []))
  stood e = ap (λ (b : Bool). cond b (refused 14) (gives (place_of s n r ∷ []))) e

  pub stood_own : r < 2 → cond (unread s r) (refused 14) (gives (place_of s n r ∷ [])) ≡ gives (r * 8 ∷ [])
  stood_own h = stood (read_own s r h) ∙ ap (λ (x : ℕ). gives (x ∷ [])) (place_own s n r h)

  module _ (h : 2 ≤ r) where
    pub stood_stops : {m : ℕ} → cond (past s 8) (refused 14) (gives (8 ∷ [])) ≡ refused m → cond (unread s r) (refused 14) (gives (place_of s n r ∷ [])) ≡ refused m
    stood_stops e = let f = staged_refused (past s 8) 14 _ e in stood (unread_cluster s r h ∙ f.0) ∙ ap refused f.1

    pub stood_there : {zs : List ℕ} → cond (past s 8) (refused 14) (gives (8 ∷ [])) ≡ gives zs → cond (unread s r) (refused 14) (gives (place_of s n r ∷ [])) ≡ gives ((start_in s n + (r - 2) * 8) ∷ [])
    stood_there e = stood (unread_cluster s r h ∙ (staged_gives (past s 8) 14 _ e).0) ∙ ap (λ (x : ℕ). gives (x ∷ [])) (place_cluster s n r h)

-- what the proof of `stands` goes by
pub ruleset stands_ways = (start_most, stood_own, stood_stops, stood_there)

-- ---- what 17 tells

module _ (s : List ℕ) (die n r : ℕ) where
  pub register_small : unnamed s die n r ≡ false → r ≤ 5
  unfolding unnamed
  register_small e = ltb-false _ _ (or_neither (ltb 5 r) _ e).0

-- ---- the stages of the lookup

-- one number is given: which
one_given : {x y : ℕ} → x ∷ [] ≡ y ∷ [] → x ≡ y
one_given e = ap (λ (l : List ℕ). get_or l 0 0) e

module _ (s : List ℕ) (die n r : ℕ) where
  by_number : {m : ℕ} → place_number s die n r ≡ m → place_in s die n r ≡ unless m (gives (place_of s n r ∷ []))
  unfolding place_in
  by_number e = ap (λ (k : ℕ). unless k (gives (place_of s n r ∷ []))) e

  pub named_stops : {m : ℕ} → cond (unnamed s die n r) (refused 17) (gives []) ≡ refused m → place_in s die n r ≡ refused m
  unfolding place_number
  named_stops e = let f = staged_refused (unnamed s die n r) 17 _ e in by_number (first_take _ _ f.0) ∙ ap refused f.1

  module _ (k : cond (unnamed s die n r) (refused 17) (gives []) ≡ gives []) where
    named : unnamed s die n r ≡ false
    named = (staged_gives (unnamed s die n r) 17 _ k).0

    pub named_small : r ≤ 5
    named_small = register_small s die n r named

    pub stands_stops : {m : ℕ} → cond (unread s r) (refused 14) (gives (place_of s n r ∷ [])) ≡ refused m → place_in s die n r ≡ refused m
    unfolding place_number
    stands_stops e =
        let f = staged_refused (unread s r) 14 _ e in
        by_number (first_skip _ _ named ∙ first_take _ _ (or_take _ f.0)) ∙ ap refused f.1

    pub inside_last : {at : ℕ} → cond (unread s r) (refused 14) (gives (place_of s n r ∷ [])) ≡ gives (at ∷ [])
        → cond (past s at) (refused 14) (gives (at ∷ [])) ≡ place_in s die n r
    unfolding place_in place_number
    inside_last {at} e =
        let f = staged_gives (unread s r) 14 _ e in
        ap (λ (x : ℕ). cond (past s x) (refused 14) (gives (x ∷ []))) (sym (one_given f.1))
        ∙ sym (staged_last (past s (place_of s n r)) 14 (place_of s n r ∷ []) (λ z. omega arith))
        ∙ ap (λ (b : Bool). unless (first ((b, 14) ∷ [])) (gives (place_of s n r ∷ []))) (sym (or_skip _ f.0))
        ∙ ap (λ (x : ℕ). unless x (gives (place_of s n r ∷ []))) (sym (first_skip _ _ named))

  -- ---- what the answer tells

  pub placed : {at : ℕ} → place_in s die n r ≡ gives (at ∷ []) → (place_number s die n r ≡ 0) × (place_of s n r ≡ at)
  unfolding place_in
  placed e = let u = unless_gives (place_number s die n r) e in (u.0, one_given u.1)

  pub stopped : {m : ℕ} → place_in s die n r ≡ refused m → (place_number s die n r ≡ m) × (m ≢ 0)
  unfolding place_in
  stopped e = unless_refused (place_number s die n r) _ e

  pub content_stops : {m : ℕ} → place_in s die n r ≡ refused m → content_in s die n r ≡ refused m
  unfolding place_in content_in
  content_stops e = unless_stops (place_number s die n r) _ _ e

  pub content_there : {at : ℕ} → place_in s die n r ≡ gives (at ∷ []) → content_in s die n r ≡ gives (number_at s at 8 ∷ [])
  unfolding content_in
  content_there e =
      let p = placed e in
      unless_passes _ p.0 ∙ ap (λ (x : ℕ). gives (number_at s x 8 ∷ [])) p.1

  -- the lookup gives no number but 17 and 14, and what it finds lies inside
  pub number_low : place_number s die n r ≤ 17
  unfolding place_number
  number_low = first_upto 17 _ tt

  pub place_inside : place_number s die n r ≡ 0 → place_of s n r + 8 ≤ length s
  unfolding place_number
  place_inside z = room s _ (or_neither (unread s r) _ (first_zero _ tt z).1.0).1

-- what the proofs of `place_in` and `content_in` go by
pub ruleset place_ways = (named_stops, named_small, stands_stops, inside_last)

pub ruleset content_ways = (content_stops, content_there)
