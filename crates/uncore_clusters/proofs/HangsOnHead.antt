-- The theorem of Facts.antt on what the lookups hang on. Assumes nothing.
use Prim.Native.Nat.{ℕ, ◌+◌, ◌*◌, ◌-◌}
use mathlib.Core.Path.{◌≡◌, ap, ap₂, ◌∙◌}
use mathlib.Core.Bool.{Bool, cond, ◌&&◌, ◌||◌}
use mathlib.Core.List.{List, [], ◌∷◌}
use lib.Dec.{ltb, leb}
use Rattle.words.specs.Answers.{gives, unless, first}
use Rattle.words.specs.Bytes.{number_at}
use Rattle.fields.specs.Bits.{field}
use Rattle.uncore_registers.specs.Header.{header_of}
use Rattle.uncore_clusters.specs.Clusters.{ones_in, clusters_in, fabric_number, fabric_of, start_in, place_of, unnamed, past, unread, place_number}
use Rattle.uncore_clusters.specs.Facts.{SameHead, HangsOnHead}

module _ (s t : List ℕ) where
  clusters_same : number_at s 0 8 ≡ number_at t 0 8 → clusters_in s ≡ clusters_in t
  unfolding clusters_in
  clusters_same e = ap (λ (x : ℕ). ones_in (header_of x).mask) e

  fabric_same : (die n : ℕ) → number_at s 0 8 ≡ number_at t 0 8 → fabric_of s die n ≡ fabric_of t die n
  unfolding fabric_of fabric_number
  fabric_same die n e =
      ap (λ (k : ℕ). unless (first ((ltb 255 die || leb k n, 17) ∷ [])) (gives ((die * k + n) ∷ []))) (clusters_same e)

  place_same : SameHead s t → (n r : ℕ) → place_of s n r ≡ place_of t n r
  unfolding place_of start_in
  place_same h n r = ap (λ (x : ℕ). cond (ltb r 2) (r * 8) (field (n * 8) 8 x * 8 + (r - 2) * 8)) h.offsets

  past_same : SameHead s t → (at : ℕ) → past s at ≡ past t at
  unfolding past
  past_same h at = ap (λ (k : ℕ). ltb k (at + 8)) h.size

  number_same : SameHead s t → (die n r : ℕ) → place_number s die n r ≡ place_number t die n r
  unfolding place_number unnamed unread
  number_same h die n r =
      ap (λ (k : ℕ). first ((ltb 5 r || (ltb 255 die || (leb 2 r && leb k n)), 17) ∷ ((leb 2 r && past s 8) || past s (place_of s n r), 14) ∷ [])) (clusters_same h.header)
      ∙ ap (λ (p : ℕ). first ((ltb 5 r || (ltb 255 die || (leb 2 r && leb (clusters_in t) n)), 17) ∷ ((leb 2 r && past s 8) || past s p, 14) ∷ [])) (place_same h n r)
      ∙ ap₂ (λ (a b : Bool). first ((ltb 5 r || (ltb 255 die || (leb 2 r && leb (clusters_in t) n)), 17) ∷ ((leb 2 r && a) || b, 14) ∷ [])) (past_same h 8) (past_same h (place_of t n r))

  pub hangs_on_head : HangsOnHead s t
  hangs_on_head = record { clusters = clusters_same; fabric = fabric_same; place = place_same; number = number_same }
