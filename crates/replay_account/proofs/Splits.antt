-- Any bytes are records in front and a rest from which none can be read, in one way only.
-- Assumes nothing.
use Prim.Native.Nat.{ℕ, zero, suc, ◌+◌, ◌≤◌, ◌<◌}
use mathlib.Core.Path.{◌≡◌, refl, sym, ap, ap₂, subst, ◌∙◌}
use mathlib.Core.Logic.{inl, inr}
use mathlib.Core.Bool.{Bool, true, false}
use mathlib.Core.List.{List, [], ◌∷◌, ◌++◌, append_assoc, flatten}
use native.Mathlib.Omega.{arith}
use lib.ListN.{length, get_or, take, drop, length-append, length-drop, take-append-drop, get_or-append}
use lib.Seq.{get_or-take, length-take-le, take_at, drop_at}
use lib.Dec.{ltb, eqb}
use borrow.Author.Tests.{ltb-true, ltb-false, eqb-true, eqb-false}
use Rattle.energy_hall.specs.Hall.{Named, all_closed}
use Rattle.records.specs.Partial.{rule_of, length_of}
use Rattle.records.specs.Facts.{IsRecord}
use Rattle.replay_trace.specs.Trace.{lengths, says, says_of}
use Rattle.replay_trace.proofs.Theorems.{record_trips}
use Rattle.replay_steps.specs.Steps.{most_bytes}
use Rattle.replay_account.specs.Replay.{Say, Rest, Split}
use Rattle.replay_account.specs.Facts.{SplitFact, SplitOnce}
use Rattle.replay_account.proofs.Traces.{trace_replayed}

-- ---- there is one

-- all of it is rest
all_rest : (place : ℕ) (xs : List ℕ) → Rest place xs → Split place xs
unfolding flatten
all_rest place xs none =
    record {
      front = [];
      records = [];
      rest = xs;
      split = refl;
      say = tt;
      fits = λ m. omega (arith, m);
      none = subst (λ (n : ℕ). Rest n xs) (omega arith) none;
    }

-- a record in front
one_more : (place : ℕ) (r : List ℕ) (x : Named) → says_of r ≡ says x → (ys : List ℕ) → place + length r ≤ most_bytes
    → Split (place + length r) ys → Split place (r ++ ys)
unfolding flatten
one_more place r x said ys l s =
    let moving : place + length r + length (flatten s.records) ≡ place + length (r ++ flatten s.records) =
    omega (arith, length-append r (flatten s.records)) in
    record {
      front = x ∷ s.front;
      records = r ∷ s.records;
      rest = s.rest;
      split = ap (λ (q : List ℕ). r ++ q) s.split ∙ sym (append_assoc r (flatten s.records) s.rest);
      say = (said, s.say);
      fits = λ m. subst (λ (n : ℕ). n ≤ most_bytes) moving (s.fits l);
      none = subst (λ (n : ℕ). Rest n s.rest) moving s.none;
    }

-- of bytes that are no more than n
abbrev Any : ℕ → Type 0
Any n = (place : ℕ) (xs : List ℕ) → length xs ≤ n → Split place xs

turn : (n : ℕ) → Any n → Any (suc n)
turn n again place [] l = all_rest place [] tt
turn n again place (k ∷ zs) l = go (eqb many 0) refl (ltb most_bytes (place + many)) refl (ltb (length xs) many) refl
  where
    xs : List ℕ
    xs = k ∷ zs

    many : ℕ
    many = length_of lengths k

    whole : 0 < many → place + many ≤ most_bytes → many ≤ length xs → Split place xs
    whole some fits enough =
        let r = take many xs in
        let ys = drop many xs in
        let long : length r ≡ many = length-take-le many xs enough in
        let is : IsRecord (rule_of lengths most_bytes) r =
        record { some = omega (arith, long, some); long = ap (length_of lengths) (get_or-take many xs 0 0 some) ∙ sym long } in
        let x = ((record_trips r).whole most_bytes).0 is in
        let fit : place + length r ≤ most_bytes = omega (arith, long, fits) in
        let shorter : length ys ≤ n = omega (arith, length-drop many xs, l, some) in
        subst (Split place) (take-append-drop many xs) (one_more place r x.0 x.1 ys fit (again (place + length r) ys shorter))

    pos : (j : ℕ) → (j ≡ 0 → ⊥) → 0 < j
    pos zero e = absurd (e refl)
    pos (suc j) e = omega arith

    go : (u : Bool) → eqb many 0 ≡ u → (v : Bool) → ltb most_bytes (place + many) ≡ v → (w : Bool) → ltb (length xs) many ≡ w → Split place xs
    go true e v f w g = all_rest place xs (inl (eqb-true _ _ e))
    go false e true f w g = all_rest place xs (inr (inl (ltb-true _ _ f)))
    go false e false f true g = all_rest place xs (inr (inr (ltb-true _ _ g)))
    go false e false f false g = whole (pos many (eqb-false _ _ e)) (ltb-false _ _ f) (ltb-false _ _ g)

any : (n : ℕ) → Any n
any zero place [] l = all_rest place [] tt
any zero place (k ∷ zs) l = absurd (omega (arith, l))
any (suc n) place xs l = turn n (any n) place xs l

pub split_fact : SplitFact
split_fact place xs = any (length xs) place xs (omega arith)

-- ---- and no other: the replay of both makes the same calls, and a record's kind has its length

-- two cuts of the same bytes into records that say the same calls
same_cut : (xs : List Named) (rs qs : List (List ℕ)) (u v : List ℕ) → Say rs xs → Say qs xs → flatten rs ++ u ≡ flatten qs ++ v
    → (rs ≡ qs) × (u ≡ v)
unfolding flatten
same_cut [] [] [] u v a b e = (refl, e)
same_cut [] [] (q ∷ qs) u v a b e = absurd b
same_cut [] (r ∷ rs) qs u v a b e = absurd a
same_cut (x ∷ xs) [] qs u v a b e = absurd a
same_cut (x ∷ xs) (r ∷ rs) [] u v a b e = absurd b
same_cut (x ∷ xs) (r ∷ rs) (q ∷ qs) u v a b e =
    let i = ((record_trips r).whole most_bytes).1 (x, a.0) in
    let j = ((record_trips q).whole most_bytes).1 (x, b.0) in
    let ys = flatten rs ++ u in
    let zs = flatten qs ++ v in
    let f : r ++ ys ≡ q ++ zs = sym (append_assoc r (flatten rs) u) ∙ e ∙ append_assoc q (flatten qs) v in
    let kind : get_or r 0 0 ≡ get_or q 0 0 = sym (get_or-append r ys 0 0 i.some) ∙ ap (λ (l : List ℕ). get_or l 0 0) f ∙ get_or-append q zs 0 0 j.some in
    let many : length r ≡ length q = sym i.long ∙ ap (length_of lengths) kind ∙ j.long in
    let here : r ≡ q = sym (take_at r ys (length r) refl) ∙ ap (take (length r)) f ∙ take_at q zs (length r) (sym many) in
    let later : ys ≡ zs = sym (drop_at r ys (length r) refl) ∙ ap (drop (length r)) f ∙ drop_at q zs (length r) (sym many) in
    let again = same_cut xs rs qs u v a.1 b.1 later in
    (ap₂ (λ (h : List ℕ) (t : List (List ℕ)). h ∷ t) here again.0, again.1)

pub split_once : SplitOnce
split_once place xs m s t =
    let e : s.front ≡ t.front = sym (trace_replayed all_closed place m s).made ∙ (trace_replayed all_closed place m t).made in
    let p = same_cut t.front s.records t.records s.rest t.rest (subst (Say s.records) e s.say) t.say (sym s.split ∙ t.split) in
    (e, p.0, p.1)
