-- Both ways between a record and a call, from the one table. Assumes nothing.
use Prim.Native.Nat.{ℕ, zero, suc, ◌≤◌, ◌<◌}
use mathlib.Core.Path.{◌≡◌, refl, sym, ap, ap₂, subst, ◌∙◌}
use mathlib.Core.Bool.{Bool, true, false, false≢true}
use mathlib.Core.List.{List, [], ◌∷◌, append-nil}
use mathlib.Core.Logic.{◌⊎◌, inl, inr}
use native.Mathlib.Omega.{arith}
use borrow.Author.Tests.{ltb-false, eqb-true, eqb-false}
use lib.Dec.{ltb, eqb}
use lib.ListN.{length}
use lib.Seq.{take_all}
use Rattle.words.specs.Bytes.{AllBytes, number_at}
use Rattle.words.proofs.TestLaws.{or_neither}
use Rattle.records.specs.Partial.{length_of}
use Rattle.records_body.specs.Body.{size, extent, numbers_at, body_of}
use Rattle.records_body.specs.Facts.{Fit}
use Rattle.records_body.proofs.BodyTrips.{body_bytes, body_says, numbers_body, numbers_fit as read-fit}
use Rattle.energy_calls.specs.Calls.{Carries}
use Rattle.energy_calls.specs.declared.calls.Reading.{Reading}
use Rattle.energy_calls.specs.declared.calls.Call.{Call}
use Rattle.energy_calls.specs.declared.calls.Call.TheVariants.{Open, Read, Resume, Close, Ask}
use Rattle.energy_hall.specs.Hall.{Named}
use Rattle.replay_trace.specs.Trace.{row, row_of, lengths, call_on, Says, nothing, says, meant, says_of, kind_by, kind_for, numbers_for, bytes_of, unsaid_call, unsaid}
use Rattle.replay_trace.specs.Facts.{SeenFits, Sayable}
use Rattle.replay_trace.proofs.TraceLaws.{nought, further, meant_none, kind_in, says_nothing, says_record}
use Rattle.replay_trace.proofs.WriteLaws.{by_boot, said_call, length_bytes, record_long}
use Rattle.replay_trace.proofs.SaidNumbers.{says_once, silent, known, Spoken, spoken}

-- ---- from a call

near : (x : Named) → Sayable x → x.channel < 256
unfolding unsaid
near x s = let h : x.channel ≤ 255 = ltb-false 255 x.channel (or_neither (ltb 255 x.channel) (unsaid_call x.call) s.said).0 in omega (arith, h)

abbrev seen_numbers : ℕ → Reading → List ℕ
seen_numbers n q = row (n ∷ q.tick ∷ q.status ∷ q.boot ∷ [])

numbers_fit : (n : ℕ) (a : Call) → Sayable (call_on n a) → Fit (row_of (kind_for a)) (numbers_for n a)
unfolding size
numbers_fit n a s = by a s
  where
    none : 0 < 1
    none = omega arith

    zero_fits : {b : ℕ} → b ≡ 0 → b < 1
    zero_fits e = omega (arith, e)

    -- a reading's numbers by the rows of its two kinds, which are those of 2 and 6
    seen_fits : (q : Reading) → n < 256 → SeenFits q → (s l : ℕ) → (Fit (row_of 2) (seen_numbers n q) → Fit (row_of s) (seen_numbers n q))
        → (Fit (row_of 6) (seen_numbers n q) → Fit (row_of l) (seen_numbers n q)) → Fit (row_of (kind_by q.boot s l)) (seen_numbers n q)
    seen_fits q h f s l to-s to-l =
        by_boot (λ k. Fit (row_of k) (seen_numbers n q)) q.boot s l
        (λ e. to-s (h, (f.0, (f.1, (zero_fits e, (none, (none, (none, (none, tt)))))))))
        (λ d. to-l (h, (f.0, (f.1, (f.2, (none, (none, (none, (none, tt)))))))))

    by : (a : Call) → Sayable (call_on n a) → Fit (row_of (kind_for a)) (numbers_for n a)
    by (Open o) s =
        let h : o.unit ≤ 255 = ltb-false 255 o.unit (said_call (call_on n (Open o)) s.said) in
        let unit : o.unit < 256 = omega (arith, h) in
        let seen = s.fits.1 in
        by_boot (λ k. Fit (row_of k) (numbers_for n (Open o))) o.seen.boot 1 5
        (λ e. (near _ s, (unit, (s.fits.0, (seen.0, (seen.1, (zero_fits e, (none, (none, tt)))))))))
        (λ d. (near _ s, (unit, (s.fits.0, (seen.0, (seen.1, (seen.2, (none, (none, tt)))))))))
    by (Read q) s = seen_fits q (near _ s) s.fits 2 6 (λ f. f) (λ f. f)
    by (Resume q) s = seen_fits q (near _ s) s.fits 3 7 (λ f. f) (λ f. f)
    by Close s = (near _ s, (none, (none, (none, (none, (none, (none, (none, tt))))))))
    by Ask s = (none, (none, (none, (none, (none, (none, (none, (none, tt))))))))

meant_call : (n : ℕ) (a : Call) → unsaid_call a ≡ false → meant (kind_for a) (numbers_for n a) ≡ says (call_on n a)
unfolding meant
meant_call n (Open o) e = by_boot (λ k. meant k (numbers_for n (Open o)) ≡ says (call_on n (Open o))) o.seen.boot 1 5 (λ e. refl) (λ d. refl)
meant_call n (Read q) e = by_boot (λ k. meant k (numbers_for n (Read q)) ≡ says (call_on n (Read q))) q.boot 2 6 (λ e. refl) (λ d. refl)
meant_call n (Resume q) e = by_boot (λ k. meant k (numbers_for n (Resume q)) ≡ says (call_on n (Resume q))) q.boot 3 7 (λ e. refl) (λ d. refl)
meant_call n Close e = refl
meant_call n Ask e = absurd (false≢true (sym e))

pub bytes_long : (x : Named) → unsaid x ≡ false → length_of lengths (kind_for x.call) ≡ length (bytes_of x)
bytes_long x u = sym (length_bytes x ∙ record_long x.call (said_call x u))

pub bytes_read : (x : Named) → Sayable x → says_of (bytes_of x) ≡ says x
unfolding bytes_of
bytes_read x s =
    let k : ℕ = kind_for x.call in
    let vs : List ℕ = numbers_for x.channel x.call in
    let body : List ℕ = body_of (row_of k) vs in
    let numbers : numbers_at (row_of k) (k ∷ body) 1 ≡ vs =
    ap (λ (l : List ℕ). numbers_at (row_of k) l 1) (sym (append-nil (k ∷ body))) ∙ body_says (row_of k) vs (k ∷ []) [] (numbers_fit x.channel x.call s) in
    says_record (bytes_of x) (bytes_long x s.said) ∙ ap (meant k) numbers ∙ meant_call x.channel x.call (said_call x s.said)

kind_byte : (a : Call) → kind_for a < 256
kind_byte (Open o) = by_boot (λ k. k < 256) o.seen.boot 1 5 (λ e. omega arith) (λ d. omega arith)
kind_byte (Read q) = by_boot (λ k. k < 256) q.boot 2 6 (λ e. omega arith) (λ d. omega arith)
kind_byte (Resume q) = by_boot (λ k. k < 256) q.boot 3 7 (λ e. omega arith) (λ d. omega arith)
kind_byte Close = omega arith
kind_byte Ask = omega arith

pub bytes_bytes : (x : Named) → AllBytes (bytes_of x)
unfolding bytes_of
bytes_bytes x zero = kind_byte x.call
bytes_bytes x (suc k) = body_bytes (row_of (kind_for x.call)) (numbers_for x.channel x.call) k

-- ---- from a record

pub kind_known : (k : ℕ) (vs : List ℕ) {x : Named} → meant k vs ≡ says x → 0 < length_of lengths k
unfolding length_of extent size
kind_known zero vs e = absurd (silent (meant_none vs nought ∙ e))
kind_known (suc zero) vs e = omega arith
kind_known (suc (suc zero)) vs e = omega arith
kind_known (suc (suc (suc zero))) vs e = omega arith
kind_known (suc (suc (suc (suc zero)))) vs e = omega arith
kind_known (suc (suc (suc (suc (suc zero))))) vs e = omega arith
kind_known (suc (suc (suc (suc (suc (suc zero)))))) vs e = omega arith
kind_known (suc (suc (suc (suc (suc (suc (suc zero))))))) vs e = omega arith
kind_known (suc (suc (suc (suc (suc (suc (suc (suc k)))))))) vs e = absurd (silent (meant_none vs (further k) ∙ e))

pub meant_some : (k : ℕ) (vs : List ℕ) → 0 < length_of lengths k → (x : Named) × (meant k vs ≡ says x)
unfolding meant
meant_some k vs h = known (λ j. (x : Named) × (meant j vs ≡ says x)) (_, refl) (_, refl) (_, refl) (_, refl) (_, refl) (_, refl) (_, refl) k h

known_long : (k : ℕ) → 0 < length_of lengths k → suc (extent (row_of k)) ≡ length_of lengths k
unfolding length_of extent size
known_long = known (λ j. suc (extent (row_of j)) ≡ length_of lengths j) refl refl refl refl refl refl refl

-- what says a call has the length of its kind
pub says_inside : (r : List ℕ) {x : Named} → says_of r ≡ says x
    → (length_of lengths (kind_in r) ≡ length r) × (meant (kind_in r) (numbers_at (row_of (kind_in r)) r 1) ≡ says x)
says_inside r {x} e = by (eqb (length_of lengths (kind_in r)) (length r)) refl
  where
    by : (b : Bool) → eqb (length_of lengths (kind_in r)) (length r) ≡ b
        → (length_of lengths (kind_in r) ≡ length r) × (meant (kind_in r) (numbers_at (row_of (kind_in r)) r 1) ≡ says x)
    by true t = let h = eqb-true _ _ t in (h, sym (says_record r h) ∙ e)
    by false t = absurd (silent (sym (says_nothing r (eqb-false _ _ t)) ∙ e))

-- the kind and the body of a whole record are its bytes
record_again : (r : List ℕ) → AllBytes r → 0 < length_of lengths (kind_in r) → length_of lengths (kind_in r) ≡ length r
    → kind_in r ∷ body_of (row_of (kind_in r)) (numbers_at (row_of (kind_in r)) r 1) ≡ r
record_again [] b h e = absurd (omega (arith, h, e))
record_again (y ∷ ys) b h e =
    let n : ℕ = extent (row_of y) in
    let long : n ≡ length ys = omega (arith, known_long y h, e) in
    ap (λ (l : List ℕ). y ∷ l) (numbers_body (row_of y) (y ∷ ys) 1 b (omega (arith, long)) ∙ take_all n ys (omega (arith, long)))

bytes_are : {k : ℕ} {vs : List ℕ} (s : Spoken k vs) → kind_for s.call.call ≡ k → bytes_of s.call ≡ k ∷ body_of (row_of k) vs
unfolding bytes_of
bytes_are s e = ap₂ (λ (k : ℕ) (vs : List ℕ). k ∷ body_of (row_of k) vs) e s.numbers

-- these bytes, or shorter
abbrev Like : List ℕ → Named → Type 0
Like r x = (bytes_of x ≡ r) ⊎ (length (bytes_of x) < length r)

-- what is known of bytes r that say the call x
record Said (r : List ℕ) (x : Named) : Type 0 where
  like : Like r x
  sayable : Sayable x
  bytes : kind_in r ∷ body_of (row_of (kind_in r)) (numbers_for x.channel x.call) ≡ r

said : (r : List ℕ) → AllBytes r → (x : Named) → says_of r ≡ says x → Said r x
said r b x e =
    let i = says_inside r e in
    let k : ℕ = kind_in r in
    let vs : List ℕ = numbers_at (row_of k) r 1 in
    let h : 0 < length_of lengths k = kind_known k vs i.1 in
    let s : Spoken k vs = spoken k vs h (read-fit (row_of k) r 1 b) in
    let again : k ∷ body_of (row_of k) vs ≡ r = record_again r b h i.0 in
    subst (Said r) (says_once (sym s.means ∙ i.1))
    (record {
      like = or_less (λ f. bytes_are s f ∙ again) (λ m. omega (arith, m, length_bytes s.call, known_long k h, i.0)) s.kind;
      sayable = s.sayable;
      bytes = ap (λ (us : List ℕ). k ∷ body_of (row_of k) us) s.numbers ∙ again;
    })
  where
    or_less : {A B C D : Type 0} → (A → C) → (B → D) → A ⊎ B → C ⊎ D
    or_less f g (inl a) = inl (f a)
    or_less f g (inr b) = inr (g b)

pub says_back : (r : List ℕ) → AllBytes r → (x : Named) → says_of r ≡ says x → Like r x × Sayable x
says_back r b x e = let s = said r b x e in (s.like, s.sayable)

pub bytes_once : (r : List ℕ) → AllBytes r → (q : List ℕ) → AllBytes q → kind_in q ≡ kind_in r → (x : Named) → says_of r ≡ says x → says_of q ≡ says x → q ≡ r
bytes_once r b q c k x e f =
    sym (said q c x f).bytes
    ∙ ap (λ (j : ℕ). j ∷ body_of (row_of j) (numbers_for x.channel x.call)) k
    ∙ (said r b x e).bytes

-- what is said carries boot number 0: in the row of an old kind it has no width
carries_none : Says → Type 0
carries_none nothing = Unit
carries_none (says x) = Carries 0 x.call

old_boot : (r : List ℕ) (k : ℕ) → k ≤ 4 → {x : Named} → meant k (numbers_at (row_of k) r 1) ≡ says x → Carries 0 x.call
unfolding carries_none meant numbers_at size number_at
old_boot r zero l e = subst carries_none e tt
old_boot r (suc zero) l e = subst carries_none e refl
old_boot r (suc (suc zero)) l e = subst carries_none e refl
old_boot r (suc (suc (suc zero))) l e = subst carries_none e refl
old_boot r (suc (suc (suc (suc zero)))) l e = subst carries_none e tt
old_boot r (suc (suc (suc (suc (suc k))))) l e = absurd (omega (arith, l))

pub old_kinds : (r : List ℕ) → kind_in r ≤ 4 → (x : Named) → says_of r ≡ says x → Carries 0 x.call
old_kinds r l x e = old_boot r (kind_in r) l (says_inside r e).1
