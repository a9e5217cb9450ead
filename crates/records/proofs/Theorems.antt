-- The theorems of specs/Facts.
-- Assumes nothing.
use Prim.Native.Nat.{ℕ, zero, suc, ◌+◌, ◌≤◌, ◌<◌}
use mathlib.Core.Path.{◌≡◌, refl, sym, ap, subst, ◌∙◌}
use mathlib.Core.Logic.{◌⊎◌, inl, inr, ◌≢◌}
use mathlib.Core.Bool.{Bool, true, false, cond, false≢true}
use mathlib.Core.List.{List, [], ◌∷◌, ◌++◌, append_assoc, flatten}
use native.Mathlib.Omega.{arith}
use native.Mathlib.Numerals.{add-one}
use lib.ListN.{length, get_or, take, drop, length-set, length-append, length-drop}
use lib.Seq.{take-suc-set}
use lib.Dec.{ltb, leb, eqb}
use borrow.Author.Tests.{eq-eqb, ne_eqb, lt-ltb, ltb-true, ltb-false, leb-true, leb-false}
use Rattle.records.specs.declared.partial.Partial.{Partial}
use Rattle.records.specs.Partial.{Rule, length_of, kind_of, longer, halted, begun, cannot, took_of, is_whole, is_stopped, ended_of, gathered, up_to}
use Rattle.records.specs.Machine.{Done, and_then, ran, Reader, reader, Acted, keeps, moved, after_by, fed_by, steps_by, done_by}
use Rattle.records.specs.Facts.{IsRecord, AllGo, AllFit, Holds, Reads, Gathers, Stops, StoppedFact, EndFact}
use Rattle.records.proofs.PartialLaws.{length_most, kind_first, kind_held, kind_stays, cannot_stopped, cannot_known, cannot_late, can, took_halted, took_longer, took_stopped, whole_stopped, whole_longer, stopped_said, stopped_place, stopped_held, ended_stopped, ended_clean, ended_cut}
use Rattle.records.proofs.Cuts.{ran_append, any_cuts, ran_one}
use Rattle.records.proofs.Pieces.{used_up_to, used_all, up_to_front, up_to_some, gathered_small, fed_whole, fed_more, gather_ran}

-- ---- in the middle of a record: ys of its n bytes are held

record Mid (u : Rule) (n : ℕ) (p : Partial) (ys : List ℕ) : Type 0 where
  held : p.held ≡ length ys
  some : 0 < p.held
  bytes : take p.held p.bytes ≡ ys
  goes : p.stopped ≡ false
  room : length p.bytes ≡ 32
  long : n ≡ length_of u.table (get_or p.bytes 0 0)
  fits : p.place + n ≤ u.limit

-- the next byte z comes to p
record Next (u : Rule) (n : ℕ) (p : Partial) (ys : List ℕ) (z : ℕ) : Type 0 where
  comes : took_of u p z ≡ longer p z
  whole : is_whole u (longer p z) ≡ eqb n (p.held + 1)
  mid : Mid u n (longer p z) (ys ++ z ∷ [])

next_by : (u : Rule) (n : ℕ) (p : Partial) (ys : List ℕ) (z : ℕ) → n ≡ length_of u.table (kind_of p z) → p.stopped ≡ false
    → length p.bytes ≡ 32 → p.held ≡ length ys → take p.held p.bytes ≡ ys → p.held < n → p.place + n ≤ u.limit → Next u n p ys z
next_by u n p ys z e s room held bytes h fits =
    let short : n ≤ 32 = omega (arith, e, length_most u.table (kind_of p z)) in
    let inside : p.held < length p.bytes = omega (arith, room) in
    let some : 0 < length p.bytes = omega (arith, room) in
    record {
      comes = took_longer u p z (sym (can u p (kind_of p z) n e s h fits));
      whole = whole_longer u p z n e some;
      mid = record {
        held = omega (arith, held, length-append ys (z ∷ []));
        some = omega arith;
        bytes = rw add-one (take-suc-set p.bytes p.held z inside ∙ ap (λ (l : List ℕ). l ++ z ∷ []) bytes);
        goes = refl;
        room = length-set p.bytes p.held z ∙ room;
        long = e ∙ ap (length_of u.table) (sym (kind_stays p z some));
        fits = fits;
      };
    }

next_mid : (u : Rule) (n : ℕ) (p : Partial) (ys : List ℕ) (z : ℕ) → Mid u n p ys → length ys < n → Next u n p ys z
next_mid u n p ys z m l =
    let e : n ≡ length_of u.table (kind_of p z) = m.long ∙ ap (length_of u.table) (kind_held p z (λ x. omega (arith, x, m.some))) in
    next_by u n p ys z e m.goes m.room m.held m.bytes (omega (arith, l, m.held)) m.fits

next_first : (u : Rule) (n place k : ℕ) → length_of u.table k ≡ n → 0 < n → place + n ≤ u.limit → Next u n (begun place) [] k
next_first u n place k e l fits =
    next_by u n (begun place) [] k (sym e ∙ ap (length_of u.table) (kind_first (begun place) k refl)) refl refl refl refl l fits

-- ---- no further byte can come

-- as many bytes are held as the record has
full : (u : Rule) (p : Partial) (k : ℕ) → length_of u.table k ≤ p.held → cannot u p k ≡ true
full u p k l = go p.stopped refl
  where
    go : (s : Bool) → p.stopped ≡ s → cannot u p k ≡ true
    go true s = sym (cannot_stopped u p k s)
    go false s = sym (cannot_known u p k (length_of u.table k) refl s l)

-- it would end past the limit
past : (u : Rule) (p : Partial) (k : ℕ) → u.limit < p.place + length_of u.table k → cannot u p k ≡ true
past u p k l = go (leb (length_of u.table k) p.held) refl p.stopped refl
  where
    go : (b : Bool) → leb (length_of u.table k) p.held ≡ b → (s : Bool) → p.stopped ≡ s → cannot u p k ≡ true
    go true h s e = full u p k (leb-true _ _ h)
    go false h true e = sym (cannot_stopped u p k e)
    go false h false e = sym (cannot_late u p k (length_of u.table k) refl e (leb-false _ _ h) l)

module _ {C A : Type 0} (rule : C → Rule) (act : C → List ℕ → Acted C A) where
  abbrev feed : Reader C → ℕ → Done (Reader C) A
  feed = fed_by rule act

  -- ---- stops

  fed_halted : (c : C) (p q : Partial) (b : ℕ) → took_of (rule c) p b ≡ q → q.stopped ≡ true → feed (reader c p) b ≡ keeps c q
  fed_halted c p q b e h = fed_more rule act c p b (ap (is_whole (rule c)) e ∙ whole_stopped (rule c) q h) ∙ ap (keeps c) e

  ignored : (c : C) (p : Partial) (xs : List ℕ) → p.stopped ≡ true → ran feed (reader c p) xs ≡ keeps c p
  unfolding ran
  ignored c p [] s = refl
  ignored c p (x ∷ xs) s =
      ap (λ (d : Done (Reader C) A). and_then d (ran feed d.state xs)) (fed_halted c p p x (took_stopped (rule c) p x s) s)
      ∙ ignored c p xs s

  halts : (c : C) (p : Partial) (x : ℕ) (xs : List ℕ) → cannot (rule c) p (kind_of p x) ≡ true → ran feed (reader c p) (x ∷ xs) ≡ keeps c (halted p)
  unfolding ran
  halts c p x xs e =
      ap (λ (d : Done (Reader C) A). and_then d (ran feed d.state xs)) (fed_halted c p (halted p) x (took_halted (rule c) p x e) refl)
      ∙ ignored c (halted p) xs refl

  -- ---- a record

  -- a byte that does not make it whole
  more : (c : C) (n : ℕ) (p : Partial) (ys : List ℕ) (z : ℕ) (zs : List ℕ) → Next (rule c) n p ys z → (p.held + 1 ≡ n → ⊥)
      → ran feed (reader c p) (z ∷ zs) ≡ ran feed (reader c (longer p z)) zs
  unfolding ran
  more c n p ys z zs x h =
      let e : feed (reader c p) z ≡ keeps c (longer p z) =
      fed_more rule act c p z (ap (is_whole (rule c)) x.comes ∙ x.whole ∙ ne_eqb n (p.held + 1) (λ y. h (sym y))) ∙ ap (keeps c) x.comes in
      ap (λ (d : Done (Reader C) A). and_then d (ran feed d.state zs)) e

  -- the one that does
  last : (c : C) (n : ℕ) (p : Partial) (ys : List ℕ) (z : ℕ) → Next (rule c) n p ys z → p.held + 1 ≡ n
      → ran feed (reader c p) (z ∷ []) ≡ moved (act c (ys ++ z ∷ [])) p.place n
  last c n p ys z x h =
      ran_one feed (reader c p) z
      ∙ fed_whole rule act c p z (ap (is_whole (rule c)) x.comes ∙ x.whole ∙ eq-eqb n (p.held + 1) (sym h))
      ∙ ap (after_by act c true) x.comes
      ∙ ap (λ (r : List ℕ). moved (act c r) p.place (p.held + 1)) x.mid.bytes
      ∙ ap (moved (act c (ys ++ z ∷ [])) p.place) h

  whole_from : (c : C) (n : ℕ) (p : Partial) (ys : List ℕ) (z : ℕ) (zs : List ℕ) → Next (rule c) n p ys z → p.held + 1 + length zs ≡ n
      → ran feed (reader c p) (z ∷ zs) ≡ moved (act c (ys ++ z ∷ zs)) p.place n
  whole_from c n p ys z [] x h = last c n p ys z x (omega (arith, h))
  whole_from c n p ys z (y ∷ zs) x h =
      let q = longer p z in
      let m = x.mid in
      let l : length (ys ++ z ∷ []) < n = omega (arith, h, m.held) in
      more c n p ys z (y ∷ zs) x (λ e. omega (arith, e, h))
      ∙ whole_from c n q (ys ++ z ∷ []) y zs (next_mid (rule c) n q (ys ++ z ∷ []) y m l) (omega (arith, h))
      ∙ ap (λ (r : List ℕ). moved (act c r) p.place n) (append_assoc ys (z ∷ []) (y ∷ zs))

  whole : (c : C) (place : ℕ) (r : List ℕ) → IsRecord (rule c) r → place + length r ≤ (rule c).limit
      → ran feed (reader c (begun place)) r ≡ moved (act c r) place (length r)
  whole c place [] i f = absurd (omega (arith, i.some))
  whole c place (k ∷ zs) i f =
      whole_from c (length (k ∷ zs)) (begun place) [] k zs (next_first (rule c) (length (k ∷ zs)) place k i.long i.some f) (omega arith)

  records : (c : C) (place : ℕ) (rs : List (List ℕ)) → AllGo rule act c rs → AllFit rule act c place rs
      → ran feed (reader c (begun place)) (flatten rs) ≡ done_by act c place rs
  unfolding ran flatten
  records c place [] g f = refl
  records c place (r ∷ rs) g f =
      let a = act c r in
      let next : (moved {A = A} a place (length r)).state ≡ reader a.content (begun (place + length r)) =
      ap (λ (v : Bool). reader a.content (cond v (begun (place + length r)) (halted (begun place)))) g.1 in
      ran_append feed (reader c (begun place)) r (flatten rs)
      ∙ ap (λ (d : Done (Reader C) A). and_then d (ran feed d.state (flatten rs))) (whole c place r g.0 f.0)
      ∙ ap (and_then (moved a place (length r)))
      (ap (λ (s : Reader C). ran feed s (flatten rs)) next ∙ records a.content (place + length r) rs g.2 f.1)

  -- ---- a record that is not whole yet

  record Front (c : C) (n : ℕ) (p : Partial) (xs : List ℕ) (ys : List ℕ) : Type 0 where
    q : Partial
    keep : ran feed (reader c p) xs ≡ keeps c q
    mid : Mid (rule c) n q ys
    starts : q.place ≡ p.place

  front_from : (c : C) (n : ℕ) (p : Partial) (ys : List ℕ) (z : ℕ) (zs : List ℕ) → Next (rule c) n p ys z → p.held + 1 + length zs < n
      → Front c n p (z ∷ zs) (ys ++ z ∷ zs)
  unfolding ran
  front_from c n p ys z [] x h =
      record { q = longer p z; keep = more c n p ys z [] x (λ e. omega (arith, e, h)); mid = x.mid; starts = refl }
  front_from c n p ys z (y ∷ zs) x h =
      let q = longer p z in
      let m = x.mid in
      let l : length (ys ++ z ∷ []) < n = omega (arith, h, m.held) in
      let f = front_from c n q (ys ++ z ∷ []) y zs (next_mid (rule c) n q (ys ++ z ∷ []) y m l) (omega (arith, h)) in
      record {
        q = f.q;
        keep = more c n p ys z (y ∷ zs) x (λ e. omega (arith, e, h)) ∙ f.keep;
        mid = subst (Mid (rule c) n f.q) (append_assoc ys (z ∷ []) (y ∷ zs)) f.mid;
        starts = f.starts;
      }

  abbrev Unfinished : C → ℕ → List ℕ → Type 0
  Unfinished c place xs =
      (p : Partial) × (ran feed (reader c (begun place)) xs ≡ keeps c p) × Holds place xs p × (is_stopped (rule c) p ≡ false) × (ended_of (rule c) p ≡ halted p)

  unfinished : (c : C) (place : ℕ) (xs ys : List ℕ) → IsRecord (rule c) (xs ++ ys) → 0 < length xs → 0 < length ys
      → place + length (xs ++ ys) ≤ (rule c).limit → Unfinished c place xs
  unfinished c place [] ys i l m f = absurd (omega (arith, l))
  unfinished c place (k ∷ zs) ys i l m f =
      let u = rule c in
      let n = length (k ∷ zs ++ ys) in
      let long : n ≡ length (k ∷ zs) + length ys = length-append (k ∷ zs) ys in
      let g = front_from c n (begun place) [] k zs (next_first u n place k i.long i.some f) (omega (arith, long, m)) in
      let q = g.q in
      let d = g.mid in
      let some : q.held ≡ 0 → ⊥ = λ e. omega (arith, e, d.some) in
      let free : is_stopped u q ≡ false =
      sym (can u q (get_or q.bytes 0 0) n d.long d.goes (omega (arith, d.held, long, m)) d.fits ∙ stopped_held u q some) in
      let holds : Holds place (k ∷ zs) q =
      record { starts = g.starts; held = d.held; bytes = ap (λ (h : ℕ). take h q.bytes) (sym d.held) ∙ d.bytes; goes = d.goes } in
      (q, g.keep, holds, free, sym (ended_cut u q free some))

  -- ---- no record

  first_kind : (u : Rule) (place k : ℕ) → length_of u.table k ≡ length_of u.table (kind_of (begun place) k)
  first_kind u place k = ap (length_of u.table) (kind_first (begun place) k refl)

  unknown : (c : C) (place k : ℕ) (xs : List ℕ) → length_of (rule c).table k ≡ 0
      → ran feed (reader c (begun place)) (k ∷ xs) ≡ keeps c (halted (begun place))
  unknown c place k xs e =
      let p = begun place in
      halts c p k xs (sym (cannot_known (rule c) p (kind_of p k) 0 (sym e ∙ first_kind (rule c) place k) refl (omega arith)))

  late : (c : C) (place k : ℕ) (xs : List ℕ) → (rule c).limit < place + length_of (rule c).table k
      → ran feed (reader c (begun place)) (k ∷ xs) ≡ keeps c (halted (begun place))
  late c place k xs l =
      let p = begun place in
      halts c p k xs (past (rule c) p (kind_of p k) (omega (arith, l, first_kind (rule c) place k)))

  refused : (c : C) (p : Partial) (x : ℕ) (xs : List ℕ) → is_stopped (rule c) p ≡ true → ran feed (reader c p) (x ∷ xs) ≡ keeps c (halted p)
  refused c p x xs s = halts c p x xs (go p.held refl p.stopped refl)
    where
      u : Rule
      u = rule c

      go : (h : ℕ) → p.held ≡ h → (v : Bool) → p.stopped ≡ v → cannot u p (kind_of p x) ≡ true
      go h e true v = sym (cannot_stopped u p (kind_of p x) v)
      go zero e false v =
          let l : u.limit < p.place = ltb-true _ _ (stopped_place u p e v ∙ s) in
          past u p (kind_of p x) (omega (arith, l))
      go (suc h) e false v =
          let some : p.held ≡ 0 → ⊥ = λ y. omega (arith, y, e) in
          ap (cannot u p) (sym (kind_held p x some)) ∙ stopped_held u p some ∙ s

  -- ---- step after step

  steps : (s : Reader C) (xs : List ℕ) (turns : ℕ) → length xs ≤ turns → steps_by rule act turns s xs ≡ ran feed s xs
  unfolding steps_by ran
  steps s [] zero l = refl
  steps s (x ∷ xs) zero l = absurd (omega (arith, l))
  steps s xs (suc turns) l =
      let ys = up_to (rule s.content) s.partial xs in
      let rest = drop (length ys) xs in
      let d = ran feed s ys in
      ap (and_then d) (steps d.state rest turns (shorter xs l))
      ∙ sym (ran_append feed s ys rest)
      ∙ ap (ran feed s) (up_to_front (rule s.content) s.partial xs)
    where
      shorter : (zs : List ℕ) → length zs ≤ suc turns → length (drop (length (up_to (rule s.content) s.partial zs)) zs) ≤ turns
      shorter [] m = omega (arith, length-drop {A = ℕ} (length (up_to (rule s.content) s.partial [])) [])
      shorter (z ∷ zs) m =
          let k = length (up_to (rule s.content) s.partial (z ∷ zs)) in
          let some : 0 < k = up_to_some (rule s.content) s.partial (z ∷ zs) (omega arith) in
          omega (arith, m, length-drop k (z ∷ zs), some)

  pub reads : Reads rule act
  reads =
      record {
        cuts = any_cuts feed;
        steps = steps;
        whole = whole;
        records = records;
        unfinished = unfinished;
        unknown = unknown;
        late = late;
        ignored = ignored;
        refused = refused;
      }

  pub gathers : (c : C) (p : Partial) (xs : List ℕ) → Gathers rule act c p xs
  gathers c p xs =
      let u = rule c in
      let e : (gathered u 0 p xs).used ≡ length (up_to u p xs) = omega (arith, used_up_to u 0 p xs) in
      record {
        used = e;
        front = ap (λ (k : ℕ). up_to u p xs ++ drop k xs) e ∙ up_to_front u p xs;
        some = λ l. omega (arith, e, up_to_some u p xs l);
        all = λ w. omega (arith, used_all u 0 p xs w);
        does = gather_ran rule act c 0 p xs;
        small = gathered_small u 0 p xs;
      }

-- ---- the end

pub stopped_fact : StoppedFact
stopped_fact u p = (plain p.held refl p.stopped refl, test)
  where
    k : ℕ
    k = get_or p.bytes 0 0

    plain : (h : ℕ) → p.held ≡ h → (s : Bool) → p.stopped ≡ s → is_stopped u p ≡ true → Stops u p
    plain h e true s x = inl s
    plain zero e false s x = inr (inl (e, ltb-true _ _ (stopped_place u p e s ∙ x)))
    plain (suc h) e false s x =
        let some : p.held ≢ 0 = λ y. omega (arith, y, e) in
        inr (inr (some, split (leb n p.held) refl))
      where
        n : ℕ
        n = length_of u.table k

        split : (b : Bool) → leb n p.held ≡ b → (n ≤ p.held) ⊎ (u.limit < p.place + n)
        split true l = inl (leb-true _ _ l)
        split false l = inr (end (ltb u.limit (p.place + n)) refl)
          where
            end : (b : Bool) → ltb u.limit (p.place + n) ≡ b → u.limit < p.place + n
            end true m = ltb-true _ _ m
            end false m =
                let free = can u p k n refl s (leb-false _ _ l) (ltb-false _ _ m) in
                absurd (false≢true (free ∙ stopped_held u p (λ y. omega (arith, y, e)) ∙ x))

    test : Stops u p → is_stopped u p ≡ true
    test (inl s) = go p.held refl
      where
        go : (h : ℕ) → p.held ≡ h → is_stopped u p ≡ true
        go zero e = sym (stopped_said u p e s)
        go (suc h) e = sym (cannot_stopped u p k s ∙ stopped_held u p (λ y. omega (arith, y, e)))
    test (inr (inl x)) = go p.stopped refl
      where
        go : (s : Bool) → p.stopped ≡ s → is_stopped u p ≡ true
        go true s = sym (stopped_said u p x.0 s)
        go false s = sym (stopped_place u p x.0 s) ∙ lt-ltb _ _ x.1
    test (inr (inr x)) = sym (stopped_held u p x.0) ∙ by x.1
      where
        by : (length_of u.table k ≤ p.held) ⊎ (u.limit < p.place + length_of u.table k) → cannot u p k ≡ true
        by (inl l) = full u p k l
        by (inr l) = past u p k l

pub end_fact : (u : Rule) (p : Partial) → EndFact u p
end_fact u p = record { stops = stops; clean = λ s h. sym (ended_clean u p s h); exactly = (exactly, λ x. ap (λ (q : Partial). q.stopped) (stops x)) }
  where
    stops : (is_stopped u p ≡ true) ⊎ (p.held ≢ 0) → ended_of u p ≡ halted p
    stops (inl s) = sym (ended_stopped u p s)
    stops (inr h) = go (is_stopped u p) refl
      where
        go : (b : Bool) → is_stopped u p ≡ b → ended_of u p ≡ halted p
        go true s = sym (ended_stopped u p s)
        go false s = sym (ended_cut u p s h)

    exactly : (ended_of u p).stopped ≡ true → (is_stopped u p ≡ true) ⊎ (p.held ≢ 0)
    exactly e = go (is_stopped u p) refl p.held refl
      where
        go : (b : Bool) → is_stopped u p ≡ b → (h : ℕ) → p.held ≡ h → (is_stopped u p ≡ true) ⊎ (p.held ≢ 0)
        go true s h x = inl s
        go false s (suc h) x = inr (λ y. omega (arith, x, y))
        go false s zero x =
            let t : p.stopped ≡ true = ap (λ (q : Partial). q.stopped) (ended_clean u p s x) ∙ e in
            inl (sym (stopped_said u p x t))
