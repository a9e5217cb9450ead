-- What `gather` uses of a piece and what it gives: the bytes up to the end of the first whole record, fed one by one.
-- Assumes nothing.
use Prim.Native.Nat.{ℕ, suc, ◌+◌, ◌≤◌, ◌<◌}
use mathlib.Core.Path.{◌≡◌, refl, sym, ap, ◌∙◌}
use mathlib.Core.Bool.{Bool, true, false, cond, false≢true}
use mathlib.Core.List.{List, [], ◌∷◌, ◌++◌}
use native.Mathlib.Omega.{arith}
use lib.ListN.{length, drop, length-append}
use Rattle.records.specs.declared.partial.Partial.{Partial}
use Rattle.records.specs.declared.partial.Gathered.{Gathered}
use Rattle.records.specs.Partial.{Rule, kind_of, longer, halted, cannot, took_of, is_whole, gathered, up_to}
use Rattle.records.specs.Machine.{Done, and_then, ran, Reader, reader, Acted, keeps, after_by, fed_by}
use Rattle.records.proofs.Cuts.{ran_one}
use Rattle.records.proofs.PartialLaws.{length_most, can_come, whole_stopped}

-- ---- how many bytes are used

pub used_up_to : (u : Rule) (n : ℕ) (p : Partial) (xs : List ℕ) → (gathered u n p xs).used ≡ n + length (up_to u p xs)
unfolding gathered up_to
used_up_to u n p [] = omega arith
used_up_to u n p (b ∷ bs) = go (used_up_to u (suc n) (took_of u p b) bs) (is_whole u (took_of u p b))
  where
    go : (gathered u (suc n) (took_of u p b) bs).used ≡ suc n + length (up_to u (took_of u p b) bs) → (w : Bool)
        → (cond w (record { partial = took_of u p b; used = suc n; whole = true }) (gathered u (suc n) (took_of u p b) bs)).used
        ≡ n + length (b ∷ cond w [] (up_to u (took_of u p b) bs))
    go h true = omega arith
    go h false = omega (arith, h)

-- the bytes used stand in front of the piece, and of a piece that is not empty one at least is used
pub up_to_front : (u : Rule) (p : Partial) (xs : List ℕ) → up_to u p xs ++ drop (length (up_to u p xs)) xs ≡ xs
unfolding up_to
up_to_front u p [] = refl
up_to_front u p (b ∷ bs) = ap (λ (l : List ℕ). b ∷ l) (go (up_to_front u (took_of u p b) bs) (is_whole u (took_of u p b)))
  where
    go : up_to u (took_of u p b) bs ++ drop (length (up_to u (took_of u p b) bs)) bs ≡ bs → (w : Bool)
        → cond w [] (up_to u (took_of u p b) bs) ++ drop (length (cond w [] (up_to u (took_of u p b) bs))) bs ≡ bs
    go h true = refl
    go h false = h

pub up_to_some : (u : Rule) (p : Partial) (xs : List ℕ) → 0 < length xs → 0 < length (up_to u p xs)
unfolding up_to
up_to_some u p [] l = absurd (omega (arith, l))
up_to_some u p (b ∷ bs) l = omega arith

pub up_to_within : (u : Rule) (p : Partial) (xs : List ℕ) → length (up_to u p xs) ≤ length xs
up_to_within u p xs =
    let e = length-append (up_to u p xs) (drop (length (up_to u p xs)) xs) in
    omega (arith, e, ap length (up_to_front u p xs))

-- where no record is whole, all are
pub used_all : (u : Rule) (n : ℕ) (p : Partial) (xs : List ℕ) → (gathered u n p xs).whole ≡ false → (gathered u n p xs).used ≡ n + length xs
unfolding gathered
used_all u n p [] w = omega arith
used_all u n p (b ∷ bs) w = go (used_all u (suc n) (took_of u p b) bs) (is_whole u (took_of u p b)) w
  where
    G : Bool → Gathered
    G v = cond v (record { partial = took_of u p b; used = suc n; whole = true }) (gathered u (suc n) (took_of u p b) bs)

    go : ((gathered u (suc n) (took_of u p b) bs).whole ≡ false → (gathered u (suc n) (took_of u p b) bs).used ≡ suc n + length bs)
        → (v : Bool) → (G v).whole ≡ false → (G v).used ≡ n + length (b ∷ bs)
    go h true x = absurd (false≢true (sym x))
    go h false x = omega (arith, h x)

-- ---- a whole record has at most 32 bytes and ends within the limit

-- what is asked of a record that was gathered whole
abbrev Small : Rule → Partial → Type 0
Small u p = (p.held ≤ 32) × (p.place + p.held ≤ u.limit)

took_small : (u : Rule) (p : Partial) (b : ℕ) → is_whole u (took_of u p b) ≡ true → Small u (took_of u p b)
unfolding took_of
took_small u p b w = go (cannot u p (kind_of p b)) refl w
  where
    go : (c : Bool) → cannot u p (kind_of p b) ≡ c → is_whole u (cond c (halted p) (longer p b)) ≡ true → Small u (cond c (halted p) (longer p b))
    go true e x = absurd (false≢true (sym (whole_stopped u (halted p) refl) ∙ x))
    go false e x =
        let g = can_come u p (kind_of p b) e in
        let m = length_most u.table (kind_of p b) in
        (omega (arith, g.1, m), omega (arith, g.1, g.2))

pub gathered_small : (u : Rule) (n : ℕ) (p : Partial) (xs : List ℕ) → (gathered u n p xs).whole ≡ true → Small u (gathered u n p xs).partial
unfolding gathered
gathered_small u n p [] w = absurd (false≢true w)
gathered_small u n p (b ∷ bs) w = go (gathered_small u (suc n) (took_of u p b) bs) (is_whole u (took_of u p b)) refl w
  where
    G : Bool → Gathered
    G v = cond v (record { partial = took_of u p b; used = suc n; whole = true }) (gathered u (suc n) (took_of u p b) bs)

    go : ((gathered u (suc n) (took_of u p b) bs).whole ≡ true → Small u (gathered u (suc n) (took_of u p b) bs).partial)
        → (v : Bool) → is_whole u (took_of u p b) ≡ v → (G v).whole ≡ true → Small u (G v).partial
    go h true e x = took_small u p b e
    go h false e x = h x

-- ---- fed one by one

module _ {C A : Type 0} (rule : C → Rule) (act : C → List ℕ → Acted C A) where
  pub fed_whole : (c : C) (p : Partial) (b : ℕ) → is_whole (rule c) (took_of (rule c) p b) ≡ true
      → fed_by rule act (reader c p) b ≡ after_by act c true (took_of (rule c) p b)
  unfolding fed_by
  fed_whole c p b e = rw e

  pub fed_more : (c : C) (p : Partial) (b : ℕ) → is_whole (rule c) (took_of (rule c) p b) ≡ false
      → fed_by rule act (reader c p) b ≡ keeps c (took_of (rule c) p b)
  unfolding fed_by
  fed_more c p b e = rw e

  -- the bytes up to a whole record, fed one by one, do what gathering them does
  pub gather_ran : (c : C) (n : ℕ) (p : Partial) (xs : List ℕ)
      → after_by act c (gathered (rule c) n p xs).whole (gathered (rule c) n p xs).partial ≡ ran (fed_by rule act) (reader c p) (up_to (rule c) p xs)
  unfolding ran gathered up_to
  gather_ran c n p [] = refl
  gather_ran c n p (b ∷ bs) = go (gather_ran c (suc n) q bs) (is_whole (rule c) q) refl
    where
      q : Partial
      q = took_of (rule c) p b

      go : after_by act c (gathered (rule c) (suc n) q bs).whole (gathered (rule c) (suc n) q bs).partial
          ≡ ran (fed_by rule act) (reader c q) (up_to (rule c) q bs)
          → (w : Bool) → is_whole (rule c) q ≡ w
          → after_by act c (cond w (record { partial = q; used = suc n; whole = true }) (gathered (rule c) (suc n) q bs)).whole
          (cond w (record { partial = q; used = suc n; whole = true }) (gathered (rule c) (suc n) q bs)).partial
          ≡ ran (fed_by rule act) (reader c p) (b ∷ cond w [] (up_to (rule c) q bs))
      go h true e = sym (ran_one (fed_by rule act) (reader c p) b ∙ fed_whole c p b e)
      go h false e = h ∙ ap (λ (d : Done (Reader C) A). and_then d (ran (fed_by rule act) d.state (up_to (rule c) q bs))) (sym (fed_more c p b e))
