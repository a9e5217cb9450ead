-- Laws of the record of a call: its length, which calls have none, and what a write answers and leaves. Assumes nothing.
use Prim.Native.Nat.{ℕ, suc, ◌+◌, ◌≤◌, ◌<◌}
use mathlib.Core.Path.{◌≡◌, refl, sym, ap, subst, ◌∙◌}
use mathlib.Core.Logic.{◌≢◌}
use mathlib.Core.Bool.{Bool, true, false, cond, false≢true}
use mathlib.Core.List.{List, [], ◌∷◌, ◌++◌}
use native.Mathlib.Omega.{arith}
use native.Mathlib.Decide.{ℕ_discrete as decide}
use borrow.Author.Tests.{lt-ltb, le-ltb, eq-eqb, ne_eqb}
use lib.Dec.{ltb}
use lib.ListN.{length, set, drop}
use Rattle.words.specs.Answers.{refused, gives}
use Rattle.words.proofs.AnswerLaws.{first_skip, first_take, first_end}
use Rattle.words.proofs.TestLaws.{or_skip, or_neither}
use Rattle.records.specs.Partial.{length_of}
use Rattle.records_body.specs.Body.{size, extent, stored_numbers, body_of}
use Rattle.records_body.proofs.BodyTrips.{length_body, stores_whole}
use Rattle.energy_calls.specs.declared.calls.Call.{Call}
use Rattle.energy_calls.specs.declared.calls.Call.TheVariants.{Open, Read, Resume, Close, Ask}
use Rattle.energy_hall.specs.Hall.{Named}
use Rattle.replay_trace.specs.Trace.{row_of, lengths, kind_by, kind_for, numbers_for, bytes_of, unsaid_call, unsaid, write_number, write_of, written}

-- ---- the length of a record

-- the kind of a call that carries a boot number
pub by_boot : (P : ℕ → Type 0) (b s l : ℕ) → (b ≡ 0 → P s) → (b ≢ 0 → P l) → P (kind_by b s l)
by_boot P b s l f g = go (decide b 0)
  where
    go : Dec (b ≡ 0) → P (kind_by b s l)
    go (yes e) = subst (λ (t : Bool). P (cond t s l)) (sym (eq-eqb b 0 e)) (f e)
    go (no d) = subst (λ (t : Bool). P (cond t s l)) (sym (ne_eqb b 0 d)) (g d)

pub numbers_many : (n : ℕ) (a : Call) → length (numbers_for n a) ≡ length (row_of (kind_for a))
numbers_many n (Open o) = by_boot (λ k. 8 ≡ length (row_of k)) o.seen.boot 1 5 (λ e. refl) (λ d. refl)
numbers_many n (Read q) = by_boot (λ k. 8 ≡ length (row_of k)) q.boot 2 6 (λ e. refl) (λ d. refl)
numbers_many n (Resume q) = by_boot (λ k. 8 ≡ length (row_of k)) q.boot 3 7 (λ e. refl) (λ d. refl)
numbers_many n Close = refl
numbers_many n Ask = refl

pub length_bytes : (x : Named) → length (bytes_of x) ≡ suc (extent (row_of (kind_for x.call)))
unfolding bytes_of
length_bytes x = ap suc (length_body (row_of (kind_for x.call)) (numbers_for x.channel x.call) (numbers_many x.channel x.call))

pub record_long : (a : Call) → unsaid_call a ≡ false → suc (extent (row_of (kind_for a))) ≡ length_of lengths (kind_for a)
unfolding length_of extent size
record_long (Open o) e = by_boot (λ k. suc (extent (row_of k)) ≡ length_of lengths k) o.seen.boot 1 5 (λ e. refl) (λ d. refl)
record_long (Read q) e = by_boot (λ k. suc (extent (row_of k)) ≡ length_of lengths k) q.boot 2 6 (λ e. refl) (λ d. refl)
record_long (Resume q) e = by_boot (λ k. suc (extent (row_of k)) ≡ length_of lengths k) q.boot 3 7 (λ e. refl) (λ d. refl)
record_long Close e = refl
record_long Ask e = absurd (false≢true (sym e))

-- ---- which calls have none

module _ (x : Named) where
  pub unsaid_near : x.channel ≤ 255 → unsaid_call x.call ≡ unsaid x
  unfolding unsaid
  unsaid_near h = sym (or_skip (unsaid_call x.call) (le-ltb 255 x.channel h))

  pub said_call : unsaid x ≡ false → unsaid_call x.call ≡ false
  unfolding unsaid
  said_call e = (or_neither (ltb 255 x.channel) (unsaid_call x.call) e).1

  -- n is the length as the code has it, of the kind k
  pub length_written : unsaid x ≡ false → {k n : ℕ} → k ≡ kind_for x.call → n ≡ length_of lengths k → n ≡ length (bytes_of x)
  length_written u e f = f ∙ ap (length_of lengths) e ∙ sym (length_bytes x ∙ record_long x.call (said_call u))

-- ---- what a write answers and leaves

module _ (s : List ℕ) (x : Named) where
  -- what is refused with the number n: the answer, and what s holds then
  abbrev pub Refuses : ℕ → Type 0
  Refuses n = (refused n ≡ write_of s x) × (s ≡ written s x)

  refuses : {m : ℕ} → write_number s x ≡ suc m → Refuses (suc m)
  unfolding write_of written
  refuses {m} e = (rw e, rw (e, ne_eqb (suc m) 0 (λ z. omega (arith, z))))

  pub refuses_unsaid : unsaid x ≡ true → Refuses 17
  refuses_unsaid u = refuses (first_take 17 _ u)

  pub refuses_short : unsaid x ≡ false → length s < length (bytes_of x) → Refuses 25
  refuses_short u h = refuses (first_skip 17 _ u ∙ first_take 25 [] (lt-ltb (length s) (length (bytes_of x)) h))

  pub number_taken : unsaid x ≡ false → length (bytes_of x) ≤ length s → write_number s x ≡ 0
  number_taken u h = first_skip 17 _ u ∙ first_skip 25 [] (le-ltb (length s) (length (bytes_of x)) h) ∙ first_end

  pub takes : write_number s x ≡ 0 → (gives (length (bytes_of x) ∷ []) ≡ write_of s x) × (bytes_of x ++ drop (length (bytes_of x)) s ≡ written s x)
  unfolding write_of written
  takes e = (rw e, rw e)

-- the kind and the body, as they are stored
pub record_stored : (s : List ℕ) (x : Named) → length (bytes_of x) ≤ length s
    → stored_numbers (row_of (kind_for x.call)) (numbers_for x.channel x.call) (set s 0 (kind_for x.call)) 1 ≡ bytes_of x ++ drop (length (bytes_of x)) s
unfolding bytes_of
record_stored [] x h = absurd (omega (arith, h, length_bytes x))
record_stored (y ∷ ys) x h =
    let k : ℕ = kind_for x.call in
    let ws : List ℕ = row_of k in
    let vs : List ℕ = numbers_for x.channel x.call in
    let e : 1 + extent ws ≡ length (bytes_of x) = omega (arith, length_bytes x) in
    stores_whole ws vs (k ∷ ys) 1 (numbers_many x.channel x.call) (omega (arith, h, length_bytes x))
    ∙ ap (λ (n : ℕ). k ∷ body_of ws vs ++ drop n (k ∷ ys)) e
