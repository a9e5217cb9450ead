-- The theorem of Facts.antt on reading back: the written bytes are not the header's, so that the clusters are as before; and where they are
-- not the offset register's either, every register is found where it was. Assumes nothing.
use Prim.Native.Nat.{ℕ, ◌+◌, ◌%◌, ◌≤◌}
use mathlib.Core.Path.{◌≡◌, refl, sym, ap, ap₂, ◌∙◌}
use mathlib.Core.Bool.{Bool, true, false}
use mathlib.Core.List.{List, [], ◌∷◌}
use mathlib.Core.Logic.{◌⊎◌, inl, inr, ◌≢◌}
use native.Mathlib.Nat.{mod-eq_of_lt}
use native.Mathlib.Omega.{arith}
use borrow.Author.Tests.{leb-true, leb-false}
use lib.Dec.{leb}
use lib.ListN.{length}
use Rattle.words.specs.Answers.{Answer, gives, unless, value_in}
use Rattle.words.specs.Bytes.{AllBytes, number_at, stored}
use Rattle.words.proofs.AnswerLaws.{unless_passes, unless_where}
use Rattle.words.proofs.StoreLaws.{number_stored, number_beside, length_stored}
use Rattle.capture.specs.Capture.{Capture}
use Rattle.tpmi_discovery.specs.Table.{bir_of, bar_of}
use Rattle.tpmi_features.specs.Instances.{start_for, instance_number, instance_of, instance_part, instance_or}
use Rattle.tpmi_registers.specs.Registers.{register_of}
use Rattle.tpmi_store.specs.Store.{after_store}
use Rattle.tpmi_store.specs.Facts.{AsBefore}
use Rattle.uncore_clusters.specs.Clusters.{clusters_in, fabric_of, place_of, place_number, content_in}
use Rattle.uncore_clusters.specs.Facts.{SameHead}
use Rattle.uncore_clusters.proofs.ClusterLaws.{place_eights}
use Rattle.uncore_clusters.proofs.HangsOnHead.{hangs_on_head}
use Rattle.uncore_lookups.specs.Fabric.{clusters_for, global_for, place_from, place_for, content_for}
use Rattle.uncore_writes.specs.ControlNext.{next_content}
use Rattle.uncore_writes.specs.ControlWrite.{write_number, offset_for}
use Rattle.uncore_writes.specs.Facts.{ControlReadsBack, ControlReadBack}
use Rattle.uncore_writes.proofs.ControlNextLaws.{permitted, next_inside}
use Rattle.uncore_writes.proofs.ControlWriteLaws.{left_stored}
use Rattle.uncore_writes.proofs.ControlWriteFact.{next_passes, in_instance, past_header, stored_so, next_lt}

-- two places that are multiples of 8 are one, or their 8 bytes are apart
apart : (a b : ℕ) → a % 8 ≡ 0 → b % 8 ≡ 0 → a ≢ b → (b + 8 ≤ a) ⊎ (a + 8 ≤ b)
apart a b p q h = by (leb (b + 8) a) (leb (a + 8) b) refl refl
  where
    by : (t u : Bool) → leb (b + 8) a ≡ t → leb (a + 8) b ≡ u → (b + 8 ≤ a) ⊎ (a + 8 ≤ b)
    by true u e f = inl (leb-true _ _ e)
    by false true e f = inr (leb-true _ _ f)
    by false false e f = absurd (h (omega (arith, leb-false (b + 8) a e, leb-false (a + 8) b f)))

module _ (c : Capture) (i die n r which value : ℕ) (b : AllBytes (bar_of c)) (z : write_number c i die n r which value ≡ 0) where
  abbrev part : List ℕ
  part = instance_part c 2 i

  abbrev next : ℕ
  next = next_content part n r which value

  abbrev off : ℕ
  off = offset_for c i n r

  abbrev d : Capture
  d = after_store c 2 i off next

  as_before : AsBefore c 2 i off next
  as_before = (stored_so c i die n r which value z).1

  clear : 8 ≤ off
  clear = past_header c i die n r which value z

  -- ---- the bytes of the instance

  now_part : instance_part d 2 i ≡ stored part off 8 next
  now_part = as_before.own_part clear

  -- 8 bytes of it beside the written ones
  beside : (q : ℕ) → (q + 8 ≤ off) ⊎ (off + 8 ≤ q) → number_at (instance_part d 2 i) q 8 ≡ number_at part q 8
  beside q h = ap (λ (s : List ℕ). number_at s q 8) now_part ∙ number_beside part off 8 next q 8 h

  header_same : number_at (instance_part d 2 i) 0 8 ≡ number_at part 0 8
  header_same = beside 0 (inl (omega (arith, clear)))

  head_same : 16 ≤ off → SameHead (instance_part d 2 i) part
  head_same h = record { size = ap length now_part ∙ length_stored part off 8 next; header = header_same; offsets = beside 8 (inl (omega (arith, h))) }

  -- ---- what is asked of an instance

  asked_as_before : (j : ℕ) (a : List ℕ → Answer) → (i ≡ j → a (instance_part d 2 i) ≡ a part) → instance_or d 2 j a ≡ instance_or c 2 j a
  asked_as_before j a e = as_before.asked 2 j a (inl clear) (λ s. e s.1)

  number_same : (j : ℕ) → instance_number d 2 j ≡ instance_number c 2 j
  number_same j = as_before.instance_number_law 2 j (inl clear)

  -- an instance that is found starts where it did
  start_same : (j : ℕ) → instance_number c 2 j ≡ 0 → (bir_of d ≡ bir_of c) × (start_for d 2 j ≡ start_for c 2 j)
  unfolding instance_of
  start_same j q =
      let e = sym (unless_passes _ (number_same j ∙ q)) ∙ as_before.instance 2 j (inl clear) ∙ unless_passes _ q in
      (ap (λ (a : Answer). value_in a 0) e, ap (λ (a : Answer). value_in a 1) e)

  module _ (j die' n' r' : ℕ) (k : place_number (instance_part d 2 j) die' n' r' ≡ place_number (instance_part c 2 j) die' n' r') (p : place_of (instance_part d 2 j) n' r' ≡ place_of (instance_part c 2 j) n' r') where
    place_same : place_for d j die' n' r' ≡ place_for c j die' n' r'
    unfolding place_for place_from
    place_same =
        ap (λ (m : ℕ). unless m (place_from d j die' n' r' (instance_part d 2 j))) (number_same j)
        ∙ unless_where (instance_number c 2 j)
        (λ q. let s = start_same j q in
        ap₂ (λ (m x : ℕ). unless m (gives (bir_of d ∷ (start_for d 2 j + x) ∷ 8 ∷ 1 ∷ []))) k p
        ∙ ap₂ (λ (u v : ℕ). unless (place_number (instance_part c 2 j) die' n' r') (gives (u ∷ (v + place_of (instance_part c 2 j) n' r') ∷ 8 ∷ 1 ∷ []))) s.0 s.1)

  other_part : (j : ℕ) → i ≢ j → instance_part d 2 j ≡ instance_part c 2 j
  other_part j h = as_before.part 2 j (λ s. h s.1)

  -- ---- where the offset register is not among the written bytes

  module _ (h : 16 ≤ off) where
    place_is : (n' r' : ℕ) → place_of (instance_part d 2 i) n' r' ≡ place_of part n' r'
    place_is = (hangs_on_head (instance_part d 2 i) part).place (head_same h)

    lookup_is : (die' n' r' : ℕ) → place_number (instance_part d 2 i) die' n' r' ≡ place_number part die' n' r'
    lookup_is = (hangs_on_head (instance_part d 2 i) part).number (head_same h)

    content_beside : (die' n' r' : ℕ) → off ≢ place_of part n' r' → content_in (instance_part d 2 i) die' n' r' ≡ content_in part die' n' r'
    unfolding content_in
    content_beside die' n' r' a =
        ap₂ (λ (m x : ℕ). unless m (gives (x ∷ []))) (lookup_is die' n' r')
        (ap (λ (q : ℕ). number_at (instance_part d 2 i) q 8) (place_is n' r') ∙ beside (place_of part n' r') (apart off (place_of part n' r') (place_eights part n r) (place_eights part n' r') a))

    content_now : content_for d i die n r ≡ gives (next ∷ [])
    unfolding content_for content_in
    content_now =
        unless_passes _ (number_same i ∙ (in_instance c i die n r which value z).found)
        ∙ unless_passes _ (lookup_is die n r ∙ (permitted part die n r which value (next_passes c i die n r which value z)).0)
        ∙ ap (λ (x : ℕ). gives (x ∷ []))
        (ap₂ (λ (s : List ℕ) (q : ℕ). number_at s q 8) now_part (place_is n r)
        ∙ number_stored part off 8 next (next_inside part die n r which value (next_passes c i die n r which value z))
        ∙ mod-eq_of_lt (next_lt c i die n r which value z b))

  in_left : ControlReadsBack c i die n r which value
  unfolding clusters_for global_for content_for
  in_left =
      let e = left_stored c i die n r which value z in
      record {
        at_place = ap (λ (k : Capture). register_of k 2 i off) e ∙ as_before.read_back clear (place_eights part n r) (next_lt c i die n r which value z b);
        clusters = λ j. ap (λ (k : Capture). clusters_for k j) e ∙ asked_as_before j (λ s. gives (clusters_in s ∷ [])) (λ _. ap (λ (x : ℕ). gives (x ∷ [])) ((hangs_on_head (instance_part d 2 i) part).clusters header_same));
        global = λ j die' n'. ap (λ (k : Capture). global_for k j die' n') e ∙ asked_as_before j (λ s. fabric_of s die' n') (λ _. (hangs_on_head (instance_part d 2 i) part).fabric die' n' header_same);
        other_place = λ j die' n' r' h.
            ap (λ (k : Capture). place_for k j die' n' r') e
            ∙ place_same j die' n' r' (ap (λ (s : List ℕ). place_number s die' n' r') (other_part j h)) (ap (λ (s : List ℕ). place_of s n' r') (other_part j h));
        other_content = λ j die' n' r' h. ap (λ (k : Capture). content_for k j die' n' r') e ∙ asked_as_before j (λ s. content_in s die' n' r') (λ q. absurd (h q));
        content = λ h. ap (λ (k : Capture). content_for k i die n r) e ∙ content_now h;
        place = λ h die' n' r'. ap (λ (k : Capture). place_for k i die' n' r') e ∙ place_same i die' n' r' (lookup_is h die' n' r') (place_is h n' r');
        elsewhere = λ h die' n' r' a.
            ap (λ (k : Capture). content_for k i die' n' r') e
            ∙ asked_as_before i (λ s. content_in s die' n' r') (λ _. content_beside h die' n' r' a);
      }

pub control_read_back : (c : Capture) (i die n r which value : ℕ) → ControlReadBack c i die n r which value
control_read_back = in_left
