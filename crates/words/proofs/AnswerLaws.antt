-- Laws of `unless`, `first` and `earliest`: a chain of tests, test by test; stages, one by one; and back again. Assumes nothing.
use Prim.Native.Nat.{ℕ, zero, suc, ◌≤◌}
use mathlib.Core.Path.{◌≡◌, refl, ap, sym, ◌∙◌, subst}
use mathlib.Core.Logic.{◌⊎◌, inl, inr, ⊎_elim, ◌↔◌, ◌≢◌}
use mathlib.Core.List.{List, [], ◌∷◌, ◌++◌}
use mathlib.Core.Bool.{Bool, true, false, not, ◌&&◌, cond}
use native.Mathlib.Omega.{arith}
use lib.Dec.{T, T_not, ltb, ltb→lt, leb, leb→le, eqb, eqb_refl}
use Rattle.words.specs.Answers.{Answer, refused, gives, unless, number_in, first, or_else, earliest}
use Rattle.words.specs.Facts.{NoneHolds, Decides, numbered, fresh}

-- ---- an answer and its number

-- a number that is not 0 is the refusal
pub unless_number : (n : ℕ) (a : Answer) → n ≢ 0 → unless n a ≡ refused n
unless_number zero a h = absurd (h refl)
unless_number (suc n) a h = refl

-- values come back only where the number is 0, and they are the ones
pub unless_both : (n : ℕ) (a : Answer) {ys : List ℕ} → unless n a ≡ gives ys → (n ≡ 0) × (a ≡ gives ys)
unless_both zero a e = (refl, e)
unless_both (suc n) a e = let z : ◌≡◌ {A = ℕ} 0 1 = cc in absurd (omega arith)

pub unless_gives : (n : ℕ) {xs ys : List ℕ} → unless n (gives xs) ≡ gives ys → (n ≡ 0) × (xs ≡ ys)
unless_gives n {xs} {ys} e =
    let u = unless_both n (gives xs) e in
    let g : gives xs ≡ gives ys = u.1 in (u.0, cc)

-- a refusal comes back only where the number is not 0, and it is that number
pub unless_refused : (n : ℕ) (xs : List ℕ) {m : ℕ} → unless n (gives xs) ≡ refused m → (n ≡ m) × (m ≢ 0)
unless_refused zero xs e = let z : ◌≡◌ {A = ℕ} 0 1 = cc in absurd (omega arith)
unless_refused (suc n) xs e = (cc, λ h. let z : suc n ≡ 0 = cc in omega arith)

-- the number of an answer is the number that decides it
pub unless_number_in : (n : ℕ) (xs : List ℕ) → number_in (unless n (gives xs)) ≡ n
unless_number_in zero xs = refl
unless_number_in (suc n) xs = refl

-- of two lookups with one number: where one refuses, so does the other, and where it passes, the other's answer comes
pub unless_stops : (n : ℕ) (xs : List ℕ) (a : Answer) {m : ℕ} → unless n (gives xs) ≡ refused m → unless n a ≡ refused m
unless_stops n xs a {m} e = let u = unless_refused n xs e in ap (λ (k : ℕ). unless k a) u.0 ∙ unless_number m a u.1

pub unless_passes : {n : ℕ} (a : Answer) → n ≡ 0 → unless n a ≡ a
unless_passes a e = ap (λ (k : ℕ). unless k a) e

-- two answers behind one number are the same where they are the same once it is 0
pub unless_where : (n : ℕ) {a b : Answer} → (n ≡ 0 → a ≡ b) → unless n a ≡ unless n b
unless_where zero e = e refl
unless_where (suc n) e = refl

-- what has a way back tells two things apart: why two answers that say the same are the same
pub once : {A B : Type 0} (f : A → B) (g : B → A) → ((a : A) → g (f a) ≡ a) → (a b : A) → f a ≡ f b → a ≡ b
once f g back a b e = sym (back a) ∙ ap g e ∙ back b

-- ---- the first test that holds

T-both : (a b : Bool) → T (a && b) → T a × T b
T-both true b h = (tt, h)
T-both false b h = absurd h

both_T : (a b : Bool) → T a → T b → T (a && b)
both_T true b f g = g
both_T false b f g = absurd f

-- a test that fails is passed over, one that holds decides: a chain of refusals, test by test
pub first_skip : {b : Bool} (n : ℕ) (ts : List (Bool × ℕ)) → b ≡ false → first ((b, n) ∷ ts) ≡ first ts
unfolding first
first_skip {b} n ts e = ap (λ (x : Bool). cond x n (first ts)) e

pub first_take : {b : Bool} (n : ℕ) (ts : List (Bool × ℕ)) → b ≡ true → first ((b, n) ∷ ts) ≡ n
unfolding first
first_take {b} n ts e = ap (λ (x : Bool). cond x n (first ts)) e

pub first_end : first [] ≡ 0
unfolding first
first_end = refl

-- the first wins
pub first_wins : (ts us : List (Bool × ℕ)) (n : ℕ) → NoneHolds ts → first (ts ++ (true, n) ∷ us) ≡ n
unfolding first
first_wins [] us n h = refl
first_wins (t ∷ ts) us n h = ap (λ (b : Bool). cond b t.1 (first (ts ++ (true, n) ∷ us))) h.0 ∙ first_wins ts us n h.1

-- 0 where none holds, and only there
pub first_none : (ts : List (Bool × ℕ)) → NoneHolds ts → first ts ≡ 0
unfolding first
first_none [] h = refl
first_none (t ∷ ts) h = ap (λ (b : Bool). cond b t.1 (first ts)) h.0 ∙ first_none ts h.1

pub first_zero : (ts : List (Bool × ℕ)) → T (numbered ts) → first ts ≡ 0 → NoneHolds ts
unfolding first
first_zero [] p e = tt
first_zero ((true, n) ∷ ts) p e = absurd (omega (arith, ltb→lt 0 n (T-both (ltb 0 n) (numbered ts) p).0))
first_zero ((false, n) ∷ ts) p e = (refl, first_zero ts (T-both (ltb 0 n) (numbered ts) p).1 e)

-- a number that comes back is that of a test that holds, and every test before it fails
pub first_decides : (ts : List (Bool × ℕ)) {n : ℕ} → first ts ≡ n → n ≢ 0 → Decides ts n
unfolding first
first_decides [] e h = absurd (h (sym e))
first_decides ((true, m) ∷ ts) e h = record { before = []; after = ts; fail = tt; split = ap (λ (k : ℕ). (true, k) ∷ ts) e }
first_decides ((false, m) ∷ ts) e h =
    let w = first_decides ts e h in
    record { before = (false, m) ∷ w.before; after = w.after; fail = (refl, w.fail); split = ap (λ (us : List (Bool × ℕ)). (false, m) ∷ us) w.split }

-- and it comes back wherever that is so
pub decides_first : (ts : List (Bool × ℕ)) (n : ℕ) → Decides ts n → first ts ≡ n
decides_first ts n w = ap first w.split ∙ first_wins w.before w.after n w.fail

-- a number that no test has does not come
fresh_never : (ts : List (Bool × ℕ)) (n : ℕ) → n ≢ 0 → T (fresh n ts) → first ts ≢ n
unfolding first
fresh_never [] n h f e = h (sym e)
fresh_never ((true, m) ∷ ts) n h f e = T_not (eqb n m) (T-both (not (eqb n m)) (fresh n ts) f).0 (subst (λ (k : ℕ). T (eqb n k)) (sym e) (eqb_refl n))
fresh_never ((false, m) ∷ ts) n h f e = fresh_never ts n h (T-both (not (eqb n m)) (fresh n ts) f).1 e

-- one that only one test has comes exactly if that test holds and none before it
pub first_exactly : (ts : List (Bool × ℕ)) (b : Bool) (n : ℕ) (us : List (Bool × ℕ)) → n ≢ 0 → T (fresh n ts && fresh n us)
    → (first (ts ++ (b, n) ∷ us) ≡ n) → NoneHolds ts × (b ≡ true)
unfolding first
first_exactly [] true n us h f e = (tt, refl)
first_exactly [] false n us h f e = absurd (fresh_never us n h f e)
first_exactly ((true, m) ∷ ts) b n us h f e =
    let d = (T-both (not (eqb n m)) (fresh n ts) (T-both (not (eqb n m) && fresh n ts) (fresh n us) f).0).0 in
    absurd (T_not (eqb n m) d (subst (λ (k : ℕ). T (eqb n k)) (sym e) (eqb_refl n)))
first_exactly ((false, m) ∷ ts) b n us h f e = by (T-both (not (eqb n m) && fresh n ts) (fresh n us) f) (first_exactly ts b n us h)
  where
    by : T (not (eqb n m) && fresh n ts) × T (fresh n us) → (T (fresh n ts && fresh n us) → first (ts ++ (b, n) ∷ us) ≡ n → NoneHolds ts × (b ≡ true))
        → NoneHolds ((false, m) ∷ ts) × (b ≡ true)
    by g rest =
        let r = rest (both_T (fresh n ts) (fresh n us) (T-both (not (eqb n m)) (fresh n ts) g.0).1 g.1) e in
        ((refl, r.0), r.1)

-- no number of the list passes b, so the answer does not
abbrev pub upto : ℕ → List (Bool × ℕ) → Bool
upto b [] = true
upto b (t ∷ ts) = leb t.1 b && upto b ts

pub first_upto : (b : ℕ) (ts : List (Bool × ℕ)) → T (upto b ts) → first ts ≤ b
unfolding first
first_upto b [] p = omega arith
first_upto b ((true, n) ∷ ts) p = leb→le n b (T-both (leb n b) (upto b ts) p).0
first_upto b ((false, n) ∷ ts) p = first_upto b ts (T-both (leb n b) (upto b ts) p).1

-- ---- a number, or the next where it is 0

pub else_stop : (a b : ℕ) → a ≢ 0 → or_else a b ≡ a
unfolding or_else
else_stop zero b h = absurd (h refl)
else_stop (suc a) b h = refl

pub else_pass : {a : ℕ} (b : ℕ) → a ≡ 0 → or_else a b ≡ b
unfolding or_else
else_pass b e = rw e

pub else_zero : (a b : ℕ) → or_else a b ≡ 0 → (a ≡ 0) × (b ≡ 0)
unfolding or_else
else_zero zero b e = (refl, e)
else_zero (suc a) b e = absurd (omega arith)

pub else_upto : (m a b : ℕ) → a ≤ m → b ≤ m → or_else a b ≤ m
unfolding or_else
else_upto m zero b h l = l
else_upto m (suc a) b h l = h

-- ---- stages: one that passes is left out, one that refuses decides

pub earliest_pass : {n : ℕ} (ns : List ℕ) → n ≡ 0 → earliest (n ∷ ns) ≡ earliest ns
unfolding earliest
earliest_pass ns e = else_pass (earliest ns) e

pub earliest_stop : (n : ℕ) (ns : List ℕ) → n ≢ 0 → earliest (n ∷ ns) ≡ n
unfolding earliest
earliest_stop n ns h = else_stop n (earliest ns) h

pub earliest_zero : (n : ℕ) (ns : List ℕ) → earliest (n ∷ ns) ≡ 0 → (n ≡ 0) × (earliest ns ≡ 0)
unfolding earliest
earliest_zero n ns e = else_zero n (earliest ns) e

pub earliest_end : earliest [] ≡ 0
unfolding earliest
earliest_end = refl

pub earliest_last : (n : ℕ) → earliest (n ∷ []) ≡ n
unfolding earliest or_else
earliest_last zero = refl
earliest_last (suc n) = refl

-- two stages: the second decides where the first passes; both pass, or a number is refused; a number that the first does not give
-- comes from the second
pub two_pass : {n : ℕ} (m : ℕ) → n ≡ 0 → earliest (n ∷ m ∷ []) ≡ m
two_pass m z = earliest_pass (m ∷ []) z ∙ earliest_last m

pub two_zero : (n m : ℕ) → (earliest (n ∷ m ∷ []) ≡ 0) ↔ ((n ≡ 0) × (m ≡ 0))
two_zero n m = (λ e. let z = earliest_zero n (m ∷ []) e in (z.0, sym (earliest_last m) ∙ z.1), λ h. two_pass m h.0 ∙ h.1)

pub two_from : (n m : ℕ) {k : ℕ} → n ≢ k → earliest (n ∷ m ∷ []) ≡ k → (n ≡ 0) × (m ≡ k)
unfolding earliest or_else
two_from zero m h e = (refl, sym (earliest_last m) ∙ e)
two_from (suc n) m h e = absurd (h e)

pub earliest_upto : (b n : ℕ) (ns : List ℕ) → n ≤ b → earliest ns ≤ b → earliest (n ∷ ns) ≤ b
unfolding earliest
earliest_upto b n ns h l = else_upto b n (earliest ns) h l

-- ---- stages of a lookup, each with an answer of its own

-- a stage that refuses decides, whatever comes later
pub stage_stops : (n : ℕ) (xs : List ℕ) {m : ℕ} (ns : List ℕ) (ys : List ℕ) → unless n (gives xs) ≡ refused m → unless (earliest (n ∷ ns)) (gives ys) ≡ refused m
stage_stops n xs {m} ns ys e =
    let u = unless_refused n xs e in
    let z : earliest (n ∷ ns) ≡ m = earliest_stop n ns (λ q. u.1 (sym u.0 ∙ q)) ∙ u.0 in
    ap (λ (k : ℕ). unless k (gives ys)) z ∙ unless_number m _ u.1

-- one that passes is left out
pub stage_passes : {n : ℕ} (ns : List ℕ) (a : Answer) {b : Answer} → n ≡ 0 → unless (earliest ns) a ≡ b → unless (earliest (n ∷ ns)) a ≡ b
stage_passes {n} ns a z e = ap (λ (k : ℕ). unless k a) (earliest_pass ns z) ∙ e

-- the last stage is the answer
pub stage_last : (n : ℕ) (a : Answer) → unless (earliest (n ∷ [])) a ≡ unless n a
stage_last n a = ap (λ (k : ℕ). unless k a) (earliest_last n)

-- ---- a stage of one test, which refuses or gives

pub staged_refused : (b : Bool) (n : ℕ) (xs : List ℕ) {m : ℕ} → cond b (refused n) (gives xs) ≡ refused m → (b ≡ true) × (n ≡ m)
staged_refused true n xs e = (refl, cc)
staged_refused false n xs e = let z : ◌≡◌ {A = ℕ} 0 1 = cc in absurd (omega arith)

pub staged_gives : (b : Bool) (n : ℕ) (xs : List ℕ) {ys : List ℕ} → cond b (refused n) (gives xs) ≡ gives ys → (b ≡ false) × (xs ≡ ys)
staged_gives true n xs e = let z : ◌≡◌ {A = ℕ} 0 1 = cc in absurd (omega arith)
staged_gives false n xs e = (refl, cc)

-- the last stage is the answer
pub staged_last : (b : Bool) (n : ℕ) (xs : List ℕ) → n ≢ 0 → unless (first ((b, n) ∷ [])) (gives xs) ≡ cond b (refused n) (gives xs)
unfolding first
staged_last true n xs h = unless_number n (gives xs) h
staged_last false n xs h = refl

-- ---- a value behind two stages, as a write gives it

module _ (p q x : ℕ) where
  -- both stages pass and the value comes, or one of them refuses
  two_answered : ((p ≡ 0) × (q ≡ 0) × (unless p (unless q (gives (x ∷ []))) ≡ gives (x ∷ []))) ⊎ ((m : ℕ) × (m ≢ 0) × (unless p (unless q (gives (x ∷ []))) ≡ refused m))
  two_answered = by p q refl refl
    where
      by : (a b : ℕ) → p ≡ a → q ≡ b
          → ((p ≡ 0) × (q ≡ 0) × (unless p (unless q (gives (x ∷ []))) ≡ gives (x ∷ []))) ⊎ ((m : ℕ) × (m ≢ 0) × (unless p (unless q (gives (x ∷ []))) ≡ refused m))
      by zero zero e f = inl (e, f, unless_passes _ e ∙ unless_passes _ f)
      by zero (suc b) e f = inr (suc b, (λ z. omega arith), unless_passes _ e ∙ ap (λ (k : ℕ). unless k (gives (x ∷ []))) f)
      by (suc a) b e f = inr (suc a, (λ z. omega arith), ap (λ (k : ℕ). unless k (unless q (gives (x ∷ [])))) e)

  -- the number alone tells the stages, whether a value comes, and the refusal
  pub two_stages : number_in (unless p (unless q (gives (x ∷ [])))) ≡ 0 → (p ≡ 0) × (q ≡ 0)
  two_stages z = ⊎_elim (λ w. (w.0, w.1)) (λ w. absurd (w.1 (sym (ap number_in w.2) ∙ z))) two_answered

  pub two_value : (number_in (unless p (unless q (gives (x ∷ [])))) ≡ 0) ↔ ((y : ℕ) × (unless p (unless q (gives (x ∷ []))) ≡ gives (y ∷ [])))
  two_value = (λ z. ⊎_elim (λ w. (x, w.2)) (λ w. absurd (w.1 (sym (ap number_in w.2) ∙ z))) two_answered, λ g. ap number_in g.1)

  pub two_refusal : (m : ℕ) → m ≢ 0 → (number_in (unless p (unless q (gives (x ∷ [])))) ≡ m) ↔ (unless p (unless q (gives (x ∷ []))) ≡ refused m)
  two_refusal m h = (
    λ e. ⊎_elim (λ w. absurd (h (sym e ∙ ap number_in w.2))) (λ w. w.2 ∙ ap refused (sym (ap number_in w.2) ∙ e)) two_answered,
    ap number_in,
  )
