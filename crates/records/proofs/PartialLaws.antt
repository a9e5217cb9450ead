-- Laws of the reading rule, one for each way through a definition.
-- Assumes nothing.
use Prim.Native.Nat.{ℕ, zero, suc, ◌+◌, ◌-◌, ◌≤◌, ◌<◌}
use mathlib.Core.Path.{◌≡◌, refl, sym, ap, ◌∙◌}
use mathlib.Core.Bool.{Bool, true, false, cond, ◌||◌, false≢true}
use mathlib.Core.List.{List, [], ◌∷◌, ◌++◌, append_assoc}
use Rattle.std.specs.Prelude.{Some, None, min}
use Rattle.std.specs.List.{slice_get}
use Rattle.std.proofs.lemmas.List.{take-append-drop, drop-drop, take_more_set, set_split}
use native.Mathlib.Omega.{arith}
use native.Mathlib.Nat.{zero-add, add-zero}
use native.Mathlib.Decide.{ℕ_discrete as decide}
use lib.ListN.{length, get_or, take, drop, set, length-set}
use lib.Seq.{drop-set-lt, get_or-set_same, get_or-set_other}
use lib.Dec.{ltb, leb, eqb}
use borrow.Author.Tests.{le-leb, lt-leb, lt-ltb, le-ltb, eq-eqb, ne_eqb, leb-true, leb-false, ltb-false}
use Rattle.records.specs.declared.partial.Partial.{Partial}
use Rattle.records.specs.Partial.{Rule, length_of, kind_of, longer, halted, cannot, took_of, is_whole, is_stopped, ended_of, holding, gathered}

-- ---- lengths

pub length_most : (t : List ℕ) (k : ℕ) → length_of t k ≤ 32
unfolding length_of
length_most t k = go (leb (get_or t k 0) 32) refl
  where
    go : (b : Bool) → leb (get_or t k 0) 32 ≡ b → cond b (get_or t k 0) 0 ≤ 32
    go true e = leb-true _ _ e
    go false e = omega arith

-- ---- the kind

pub kind_first : (p : Partial) (b : ℕ) → p.held ≡ 0 → b ≡ kind_of p b
unfolding kind_of
kind_first p b e = simp (eq-eqb _ _ e)

pub kind_held : (p : Partial) (b : ℕ) → (p.held ≡ 0 → ⊥) → get_or p.bytes 0 0 ≡ kind_of p b
unfolding kind_of
kind_held p b e = simp (ne_eqb _ _ e)

-- it stays the first byte
pub kind_stays : (p : Partial) (z : ℕ) → 0 < length p.bytes → get_or (longer p z).bytes 0 0 ≡ kind_of p z
kind_stays p z room = go p.held refl
  where
    go : (h : ℕ) → p.held ≡ h → get_or (set p.bytes p.held z) 0 0 ≡ kind_of p z
    go zero e = ap (λ (h : ℕ). get_or (set p.bytes h z) 0 0) e ∙ get_or-set_same p.bytes 0 z 0 room ∙ kind_first p z e
    go (suc h) e = get_or-set_other p.bytes p.held 0 z 0 (λ x. omega (arith, e, x)) ∙ kind_held p z (λ x. omega (arith, e, x))

-- ---- whether a byte can come

module _ (u : Rule) (p : Partial) (k : ℕ) where
  pub cannot_stopped : p.stopped ≡ true → true ≡ cannot u p k
  unfolding cannot
  cannot_stopped s = simp s

  module _ (n : ℕ) (e : n ≡ length_of u.table k) (s : p.stopped ≡ false) where
    pub cannot_known : n ≤ p.held → true ≡ cannot u p k
    unfolding cannot
    cannot_known h = simp (s, ← e, le-leb _ _ h)

    pub cannot_late : p.held < n → u.limit < p.place + n → true ≡ cannot u p k
    unfolding cannot
    cannot_late h l = simp (s, ← e, lt-leb _ _ h, lt-ltb _ _ l)

    pub can : p.held < n → p.place + n ≤ u.limit → false ≡ cannot u p k
    unfolding cannot
    can h l = simp (s, ← e, lt-leb _ _ h, le-ltb _ _ l)

-- where one can, nothing is stopped, the record is longer than what is held, and it ends within the limit
pub can_come : (u : Rule) (p : Partial) (k : ℕ) → cannot u p k ≡ false
    → (p.stopped ≡ false) × (p.held < length_of u.table k) × (p.place + length_of u.table k ≤ u.limit)
unfolding cannot
can_come u p k c = go p.stopped refl (leb n p.held) refl (ltb u.limit (p.place + n)) refl c
  where
    n : ℕ
    n = length_of u.table k

    go : (s : Bool) → p.stopped ≡ s → (h : Bool) → leb n p.held ≡ h → (l : Bool) → ltb u.limit (p.place + n) ≡ l
        → s || (h || l) ≡ false → (p.stopped ≡ false) × (p.held < n) × (p.place + n ≤ u.limit)
    go true es h eh l el x = absurd (false≢true (sym x))
    go false es true eh l el x = absurd (false≢true (sym x))
    go false es false eh true el x = absurd (false≢true (sym x))
    go false es false eh false el x = (es, leb-false _ _ eh, ltb-false _ _ el)

pub took_halted : (u : Rule) (p : Partial) (b : ℕ) → cannot u p (kind_of p b) ≡ true → took_of u p b ≡ halted p
unfolding took_of
took_halted u p b c = rw c

pub took_longer : (u : Rule) (p : Partial) (b : ℕ) → cannot u p (kind_of p b) ≡ false → took_of u p b ≡ longer p b
unfolding took_of
took_longer u p b c = rw c

-- a stopped record stays as it is
pub halted_same : (p : Partial) → p.stopped ≡ true → halted p ≡ p
halted_same p s = ap (λ (v : Bool). record { place = p.place; held = p.held; bytes = p.bytes; stopped = v }) (sym s)

pub took_stopped : (u : Rule) (p : Partial) (b : ℕ) → p.stopped ≡ true → took_of u p b ≡ p
took_stopped u p b s = took_halted u p b (sym (cannot_stopped u p (kind_of p b) s)) ∙ halted_same p s

-- ---- whole, stopped, ended

pub whole_stopped : (u : Rule) (p : Partial) → p.stopped ≡ true → is_whole u p ≡ false
unfolding is_whole
whole_stopped u p s = rw s

-- with one byte more a record is whole exactly if that makes as many as its kind says
pub whole_longer : (u : Rule) (p : Partial) (b n : ℕ) → n ≡ length_of u.table (kind_of p b) → 0 < length p.bytes
    → is_whole u (longer p b) ≡ eqb n (p.held + 1)
unfolding is_whole
whole_longer u p b n e room = ap (λ (j : ℕ). eqb j (p.held + 1)) (ap (length_of u.table) (kind_stays p b room) ∙ sym e)

module _ (u : Rule) (p : Partial) where
  pub stopped_said : p.held ≡ 0 → p.stopped ≡ true → true ≡ is_stopped u p
  unfolding is_stopped
  stopped_said h s = simp (eq-eqb _ _ h, s)

  pub stopped_place : p.held ≡ 0 → p.stopped ≡ false → ltb u.limit p.place ≡ is_stopped u p
  unfolding is_stopped
  stopped_place h s = simp (eq-eqb _ _ h, s)

  pub stopped_held : (p.held ≡ 0 → ⊥) → cannot u p (get_or p.bytes 0 0) ≡ is_stopped u p
  unfolding is_stopped
  stopped_held h = simp (ne_eqb _ _ h)

  pub ended_stopped : is_stopped u p ≡ true → halted p ≡ ended_of u p
  unfolding ended_of
  ended_stopped e = rw e

  pub ended_clean : is_stopped u p ≡ false → p.held ≡ 0 → p ≡ ended_of u p
  unfolding ended_of
  ended_clean e h = rw (e, eq-eqb _ _ h)

  pub ended_cut : is_stopped u p ≡ false → (p.held ≡ 0 → ⊥) → halted p ≡ ended_of u p
  unfolding ended_of
  ended_cut e h = rw (e, ne_eqb _ _ h)

-- ---- a piece

-- of no byte nothing comes
pub gathered_none : (u : Rule) (p : Partial) (xs : List ℕ) → slice_get xs 0 ≡ None → record { partial = p; used = 0; whole = false } ≡ gathered u 0 p xs
unfolding gathered
gathered_none u p [] e = refl
gathered_none u p (b ∷ bs) e = cc

module _ (u : Rule) (n : ℕ) (p : Partial) where
  pub gathered_end : (bs : List ℕ) → length bs ≡ 0 → record { partial = p; used = n; whole = false } ≡ gathered u n p bs
  unfolding gathered
  gathered_end [] e = refl
  gathered_end (b ∷ bs) e = absurd (omega (arith, e))

  gathered_whole : (b : ℕ) (bs : List ℕ) → is_whole u (took_of u p b) ≡ true
      → gathered u n p (b ∷ bs) ≡ record { partial = took_of u p b; used = suc n; whole = true }
  unfolding gathered
  gathered_whole b bs w = rw w

  gathered_more : (b : ℕ) (bs : List ℕ) → is_whole u (took_of u p b) ≡ false → gathered u n p (b ∷ bs) ≡ gathered u (suc n) (took_of u p b) bs
  unfolding gathered
  gathered_more b bs w = rw w

-- once it is stopped all bytes are used, and nothing changes
gathered_stopped : (u : Rule) (n : ℕ) (p : Partial) (bs : List ℕ) → p.stopped ≡ true
    → gathered u n p bs ≡ record { partial = p; used = n + length bs; whole = false }
unfolding gathered
gathered_stopped u n p [] s = ap (λ (k : ℕ). record { partial = p; used = k; whole = false }) (omega arith)
gathered_stopped u n p (b ∷ bs) s =
    let t : took_of u p b ≡ p = took_stopped u p b s in
    ap (λ (q : Partial). cond (is_whole u q) (record { partial = q; used = suc n; whole = true }) (gathered u (suc n) q bs)) t
    ∙ ap (λ (w : Bool). cond w (record { partial = p; used = suc n; whole = true }) (gathered u (suc n) p bs)) (whole_stopped u p s)
    ∙ gathered_stopped u (suc n) p bs s
    ∙ ap (λ (k : ℕ). record { partial = p; used = k; whole = false }) (omega arith)

-- the first byte of a piece stops it
pub gathered_halts : (u : Rule) (p : Partial) (xs : List ℕ) (b : ℕ) → slice_get xs 0 ≡ Some b → cannot u p (kind_of p b) ≡ true
    → record { partial = halted p; used = length xs; whole = false } ≡ gathered u 0 p xs
gathered_halts u p [] b f c = cc
gathered_halts u p (x ∷ xs) b f c =
    let same : x ≡ b = cc in
    let t : took_of u p x ≡ halted p = took_halted u p x (rw same c) in
    sym (
    gathered_more u 0 p x xs (ap (is_whole u) t ∙ whole_stopped u (halted p) refl)
    ∙ ap (λ (q : Partial). gathered u 1 q xs) t
    ∙ gathered_stopped u 1 (halted p) xs refl
    ∙ ap (λ (k : ℕ). record { partial = halted p; used = k; whole = false }) (omega arith)
    )

-- one byte: it comes to the record q, of whose kind a record has n bytes
module _ (u : Rule) (i : ℕ) (q : Partial) (n b : ℕ) (bs : List ℕ) (e : n ≡ length_of u.table (kind_of q b))
    (s : q.stopped ≡ false) (room : 0 < length q.bytes) (h : q.held < n) (m : q.place + n ≤ u.limit) where
  took : took_of u q b ≡ longer q b
  took = took_longer u q b (sym (can u q (kind_of q b) n e s h m))

  turn_whole : q.held + 1 ≡ n → gathered u i q (b ∷ bs) ≡ record { partial = longer q b; used = suc i; whole = true }
  turn_whole w =
      gathered_whole u i q b bs (ap (is_whole u) took ∙ whole_longer u q b n e room ∙ eq-eqb _ _ (sym w))
      ∙ ap (λ (p : Partial). record { partial = p; used = suc i; whole = true }) took

  turn_more : (q.held + 1 ≡ n → ⊥) → gathered u i q (b ∷ bs) ≡ gathered u (suc i) (longer q b) bs
  turn_more w =
      gathered_more u i q b bs (ap (is_whole u) took ∙ whole_longer u q b n e room ∙ ne_eqb _ _ (λ x. w (sym x)))
      ∙ ap (λ (p : Partial). gathered u (suc i) p bs) took

  -- and the kind is the same, whatever comes next
  turn_kind : (z : ℕ) → n ≡ length_of u.table (kind_of (longer q b) z)
  turn_kind z = e ∙ ap (length_of u.table) (sym (kind_stays q b room) ∙ kind_held (longer q b) z (λ x. omega (arith, x)))

-- the first k bytes of a piece stand in the record behind those that were held
filled_more : (bs ys : List ℕ) (h b k : ℕ) → h < length bs
    → take (h + 1) (set bs h b) ++ (take k ys ++ drop (h + 1 + k) (set bs h b)) ≡ take h bs ++ (take (suc k) (b ∷ ys) ++ drop (h + suc k) bs)
filled_more bs ys h b k l =
    let e : h + 1 + k ≡ h + suc k = omega arith in
    rw (take_more_set bs h b l, e, drop-set-lt (h + suc k) bs h b (omega arith), append_assoc (take h bs) (b ∷ []) (take k ys ++ drop (h + suc k) bs))

-- a record that goes on
abbrev going : ℕ → ℕ → List ℕ → Partial
going place h bs = record { place = place; held = h; bytes = bs; stopped = false }

module _ (u : Rule) (place n : ℕ) (few : n ≤ 32) (fits : place + n ≤ u.limit) where
  same : {h h′ i i′ : ℕ} {bs bs′ : List ℕ} {w w′ : Bool} → h ≡ h′ → bs ≡ bs′ → i ≡ i′ → w ≡ w′ → holding place h bs i w ≡ holding place h′ bs′ i′ w′
  same a b c d = cc

  goes_on : (xs : List ℕ) (i h : ℕ) (bs : List ℕ) (k : ℕ) → k ≡ min (length xs) (n - h) → length bs ≡ 32 → h < n → n ≡ length_of u.table (kind_of (going place h bs) (get_or xs 0 0))
      → gathered u i (going place h bs) xs ≡ holding place (h + k) (take h bs ++ (take k xs ++ drop (h + k) bs)) (i + k) (eqb (h + k) n)
  goes_on [] i h bs k e room more long =
      let z : k ≡ 0 = omega arith in
      sym (gathered_end u i (going place h bs) [] refl)
      ∙ rw (z, add-zero) (same refl (sym (take-append-drop h bs)) (omega arith) (sym (ne_eqb h n (λ x. omega (arith, x)))))
  goes_on (x ∷ xs) i h bs k e room more long =
      by (decide (h + 1) n) (λ l z. goes_on xs (suc i) (h + 1) (set bs h x) (k - 1) (omega arith) (length-set bs h x ∙ room) l z)
    where
      by : Dec (h + 1 ≡ n)
          → (h + 1 < n → n ≡ length_of u.table (kind_of (going place (h + 1) (set bs h x)) (get_or xs 0 0))
          → gathered u (suc i) (going place (h + 1) (set bs h x)) xs
          ≡ holding place (h + 1 + (k - 1)) (take (h + 1) (set bs h x) ++ (take (k - 1) xs ++ drop (h + 1 + (k - 1)) (set bs h x))) (suc i + (k - 1)) (eqb (h + 1 + (k - 1)) n))
          → gathered u i (going place h bs) (x ∷ xs) ≡ holding place (h + k) (take h bs ++ (take k (x ∷ xs) ++ drop (h + k) bs)) (i + k) (eqb (h + k) n)
      by (yes w) rest =
          let one : k ≡ 1 = omega arith in
          let next : suc h ≡ h + 1 = omega arith in
          turn_whole u i (going place h bs) n x xs long refl (omega arith) more fits w
          ∙ rw one (same refl (set_split bs h x (omega arith) ∙ ap (λ (j : ℕ). take h bs ++ (x ∷ drop j bs)) next) (omega arith) (sym (eq-eqb (h + 1) n w)))
      by (no w) rest =
          let e : k ≡ suc (k - 1) = omega arith in
          let next : h + 1 + (k - 1) ≡ h + k = omega arith in
          turn_more u i (going place h bs) n x xs long refl (omega arith) more fits w
          ∙ rest (omega arith) (turn_kind u i (going place h bs) n x xs long refl (omega arith) more fits (get_or xs 0 0))
          ∙ same next (filled_more bs xs h x (k - 1) (omega arith) ∙ ap (λ (j : ℕ). take h bs ++ (take j (x ∷ xs) ++ drop (h + j) bs)) (sym e)) (omega arith)
          (ap (λ (j : ℕ). eqb j n) next)

-- the bytes of a piece that the record still wants come to it at once
pub gathered_goes : (u : Rule) (p : Partial) (xs : List ℕ) {b n k m : ℕ} {ys : List ℕ} → slice_get xs 0 ≡ Some b → cannot u p (kind_of p b) ≡ false
    → n ≡ length_of u.table (kind_of p b) → length p.bytes ≡ 32 → k ≡ min (length xs) (n - p.held) → ys ≡ take k xs → m ≡ k
    → record { partial = record { place = p.place; held = p.held + k; bytes = take p.held p.bytes ++ (ys ++ drop m (drop p.held p.bytes)); stopped = p.stopped }; used = k; whole = eqb (p.held + k) n }
    ≡ gathered u 0 p xs
gathered_goes u p [] f c e room q y z = cc
gathered_goes u p (x ∷ xs) {b} {n} {k} {m} {ys} f c e room q y z =
    let first : b ≡ x = cc in
    let g = can_come u p (kind_of p b) c in
    let long : n ≡ length_of u.table (kind_of p x) = e ∙ ap (λ (j : ℕ). length_of u.table (kind_of p j)) first in
    let alike : p ≡ going p.place p.held p.bytes = ap (λ (w : Bool). record { place = p.place; held = p.held; bytes = p.bytes; stopped = w }) g.0 in
    let room_left = length_most u.table (kind_of p b) in
    let t = goes_on u p.place n (omega arith) (omega arith) (x ∷ xs) 0 p.held p.bytes k q room (omega arith) (long ∙ ap (λ (j : Partial). length_of u.table (kind_of j x)) alike) in
    rw (g.0, y, z, drop-drop) (sym (rw zero-add at t))

-- the same, by whether it is whole then
pub gathered_by : (u : Rule) (p : Partial) (xs : List ℕ) {b n k m : ℕ} {ys : List ℕ} {w : Bool} → slice_get xs 0 ≡ Some b → cannot u p (kind_of p b) ≡ false
    → n ≡ length_of u.table (kind_of p b) → length p.bytes ≡ 32 → k ≡ min (length xs) (n - p.held) → ys ≡ take k xs → m ≡ k → w ≡ eqb (p.held + k) n
    → record { partial = record { place = p.place; held = p.held + k; bytes = take p.held p.bytes ++ (ys ++ drop m (drop p.held p.bytes)); stopped = p.stopped }; used = k; whole = w }
    ≡ gathered u 0 p xs
gathered_by u p xs {b} {n} {k} {m} {ys} f c e room q y z is =
    ap (λ (v : Bool). record { partial = record { place = p.place; held = p.held + k; bytes = take p.held p.bytes ++ (ys ++ drop m (drop p.held p.bytes)); stopped = p.stopped }; used = k; whole = v }) is
    ∙ gathered_goes u p xs f c e room q y z
