-- The call that a known kind and the numbers of its body say; that these are its numbers, and its kind or that of a longer record.
-- Assumes nothing.
use Prim.Native.Nat.{ℕ, zero, suc, ◌^◌, ◌<◌}
use mathlib.Core.Path.{◌≡◌, refl, sym, ap, ap₂, ◌∙◌}
use mathlib.Core.Bool.{Bool, true, false, false≢true}
use mathlib.Core.List.{List, [], ◌∷◌}
use mathlib.Core.Logic.{◌⊎◌, inl, inr}
use native.Mathlib.Omega.{arith}
use borrow.Author.Tests.{le-ltb}
use lib.ListN.{get_or, replicate}
use Rattle.records.specs.Partial.{length_of}
use Rattle.records_body.specs.Body.{size, extent}
use Rattle.records_body.specs.Facts.{Fit}
use Rattle.energy_calls.specs.Calls.{reading_of, opening_of}
use Rattle.energy_calls.specs.declared.calls.Call.{Call}
use Rattle.energy_calls.specs.declared.calls.Call.TheVariants.{Open, Read, Resume, Close, Ask}
use Rattle.energy_hall.specs.Hall.{Named}
use Rattle.replay_trace.specs.Trace.{row, row_of, lengths, call_on, Says, nothing, says, opening_in, reading_in, meant, kind_by, kind_for, numbers_for, unsaid_call, unsaid}
use Rattle.replay_trace.specs.Facts.{SeenFits, Sayable}
use Rattle.replay_trace.proofs.WriteLaws.{by_boot, unsaid_near}

-- ---- what is said

heard : Says → Named
heard nothing = call_on 0 Ask
heard (says x) = x

pub says_once : {x y : Named} → says x ≡ says y → x ≡ y
unfolding heard
says_once e = ap heard e

is_call : Says → Bool
is_call nothing = false
is_call (says x) = true

pub silent : {x : Named} → nothing ≡ says x → ⊥
unfolding is_call
silent e = false≢true (ap is_call e)

-- ---- the kinds that there are

pub known : (P : ℕ → Type 0) → P 1 → P 2 → P 3 → P 4 → P 5 → P 6 → P 7 → (k : ℕ) → 0 < length_of lengths k → P k
unfolding length_of extent size
known P a b c d e f g zero h = absurd (omega (arith, h))
known P a b c d e f g (suc zero) h = a
known P a b c d e f g (suc (suc zero)) h = b
known P a b c d e f g (suc (suc (suc zero))) h = c
known P a b c d e f g (suc (suc (suc (suc zero)))) h = d
known P a b c d e f g (suc (suc (suc (suc (suc zero))))) h = e
known P a b c d e f g (suc (suc (suc (suc (suc (suc zero)))))) h = f
known P a b c d e f g (suc (suc (suc (suc (suc (suc (suc zero))))))) h = g
known P a b c d e f g (suc (suc (suc (suc (suc (suc (suc (suc k)))))))) h = absurd (omega (arith, h))

-- ---- a kind and the numbers of its body

-- the kind j is k, or its record is shorter
abbrev pub Shortest : ℕ → ℕ → Type 0
Shortest j k = (j ≡ k) ⊎ (extent (row_of j) < extent (row_of k))

pub record Spoken (k : ℕ) (vs : List ℕ) : Type 0 where
  pub call : Named
  pub means : meant k vs ≡ says call
  pub kind : Shortest (kind_for call.call) k
  pub numbers : numbers_for call.channel call.call ≡ vs
  pub sayable : Sayable call

-- numbers of no width are 0
zeros : (n : ℕ) (vs : List ℕ) → Fit (replicate n 0) vs → replicate n 0 ≡ vs
unfolding size
zeros zero [] f = refl
zeros zero (v ∷ vs) f = absurd f
zeros (suc n) [] f = absurd f
zeros (suc n) (v ∷ vs) f =
    let h : v < 1 = f.0 in
    let e : 0 ≡ v = omega (arith, h) in
    ap₂ (λ (a : ℕ) (l : List ℕ). a ∷ l) e (zeros n vs f.1)

near_said : (n : ℕ) (a : Call) → n < 256 → unsaid_call a ≡ false → unsaid (call_on n a) ≡ false
near_said n a h e = sym (unsaid_near (call_on n a) (omega (arith, h))) ∙ e

-- what is to be shown of a boot number of width w: the kind of the call that carries it, and its bytes
record Booted (w short long k : ℕ) : Type 0 where
  kind : (b : ℕ) → b < 256 ^ size w → Shortest (kind_by b short long) k
  bytes : (b : ℕ) → b < 256 ^ size w → b < 2 ^ 32

-- of no width it is 0, and the short kind says it
short_says : (short long : ℕ) → Booted 0 short long short
unfolding size
short_says s l =
    record {
      kind = λ b h. let z : b < 1 = h in by_boot (λ j. Shortest j s) b s l (λ e. inl refl) (λ d. absurd (d (omega (arith, z))));
      bytes = λ b h. let z : b < 1 = h in omega (arith, z);
    }

-- of 4 bytes it may be 0 all the same, and then the short kind would say it
long_says : (short long : ℕ) → extent (row_of short) < extent (row_of long) → Booted 4 short long long
unfolding size
long_says s l m = record { kind = λ b h. by_boot (λ j. Shortest j l) b s l (λ e. inr m) (λ d. inl refl); bytes = λ b h. h }

-- w is the width of the boot number, k the kind
opens : (w k : ℕ) → ((vs : List ℕ) → meant k vs ≡ says (call_on (get_or vs 0 0) (Open (opening_in vs)))) → Booted w 1 5 k → (vs : List ℕ)
    → Fit (row (1 ∷ 1 ∷ 4 ∷ 8 ∷ 8 ∷ w ∷ [])) vs → Spoken k vs
unfolding size
opens w k m t [] f = absurd f
opens w k m t (a ∷ []) f = absurd f.1
opens w k m t (a ∷ b ∷ []) f = absurd f.1.1
opens w k m t (a ∷ b ∷ c ∷ []) f = absurd f.1.1.1
opens w k m t (a ∷ b ∷ c ∷ d ∷ []) f = absurd f.1.1.1.1
opens w k m t (a ∷ b ∷ c ∷ d ∷ e ∷ []) f = absurd f.1.1.1.1.1
opens w k m t (a ∷ b ∷ c ∷ d ∷ e ∷ g ∷ vs) f =
    let unit : b < 256 = f.1.0 in
    let boot : g < 256 ^ size w = f.1.1.1.1.1.0 in
    record {
      call = call_on a (Open (opening_of b c d e g));
      means = m (a ∷ b ∷ c ∷ d ∷ e ∷ g ∷ vs);
      kind = t.kind g boot;
      numbers = ap (λ (us : List ℕ). a ∷ b ∷ c ∷ d ∷ e ∷ g ∷ us) (zeros 2 vs f.1.1.1.1.1.1);
      sayable = record {
        said = near_said a _ f.0 (le-ltb 255 b (omega (arith, unit)));
        fits = (f.1.1.0, (f.1.1.1.0, f.1.1.1.1.0, t.bytes g boot));
      };
    }

-- a reading and a resumption have the same numbers
reads : (w k l : ℕ) → ((vs : List ℕ) → meant k vs ≡ says (call_on (get_or vs 0 0) (Read (reading_in vs)))) → Booted w 2 6 k
    → ((vs : List ℕ) → meant l vs ≡ says (call_on (get_or vs 0 0) (Resume (reading_in vs)))) → Booted w 3 7 l → (vs : List ℕ)
    → Fit (row (1 ∷ 8 ∷ 8 ∷ w ∷ [])) vs → Spoken k vs × Spoken l vs
unfolding size
reads w k l m t n u [] f = absurd f
reads w k l m t n u (a ∷ []) f = absurd f.1
reads w k l m t n u (a ∷ b ∷ []) f = absurd f.1.1
reads w k l m t n u (a ∷ b ∷ c ∷ []) f = absurd f.1.1.1
reads w k l m t n u (a ∷ b ∷ c ∷ d ∷ vs) f =
    let boot : d < 256 ^ size w = f.1.1.1.0 in
    let fits : SeenFits (reading_of b c d) = (f.1.0, f.1.1.0, t.bytes d boot) in
    let e : a ∷ b ∷ c ∷ d ∷ replicate 4 0 ≡ a ∷ b ∷ c ∷ d ∷ vs = ap (λ (us : List ℕ). a ∷ b ∷ c ∷ d ∷ us) (zeros 4 vs f.1.1.1.1) in (
      record {
        call = call_on a (Read (reading_of b c d));
        means = m (a ∷ b ∷ c ∷ d ∷ vs);
        kind = t.kind d boot;
        numbers = e;
        sayable = record { said = near_said a _ f.0 refl; fits = fits };
      },
      record {
        call = call_on a (Resume (reading_of b c d));
        means = n (a ∷ b ∷ c ∷ d ∷ vs);
        kind = u.kind d boot;
        numbers = e;
        sayable = record { said = near_said a _ f.0 refl; fits = fits };
      },
    )

closes : (vs : List ℕ) → Fit (row_of 4) vs → Spoken 4 vs
unfolding meant size
closes [] f = absurd f
closes (a ∷ vs) f =
    record {
      call = call_on a Close;
      means = refl;
      kind = inl refl;
      numbers = ap (λ (us : List ℕ). a ∷ us) (zeros 7 vs f.1);
      sayable = record { said = near_said a _ f.0 refl; fits = tt };
    }

pub spoken : (k : ℕ) (vs : List ℕ) → 0 < length_of lengths k → Fit (row_of k) vs → Spoken k vs
unfolding meant extent size
spoken k vs h f =
    let old = reads 0 2 3 (λ us. refl) (short_says 2 6) (λ us. refl) (short_says 3 7) vs in
    let new = reads 4 6 7 (λ us. refl) (long_says 2 6 (omega arith)) (λ us. refl) (long_says 3 7 (omega arith)) vs in
    known (λ j. Fit (row_of j) vs → Spoken j vs)
    (opens 0 1 (λ us. refl) (short_says 1 5) vs)
    (λ g. (old g).0)
    (λ g. (old g).1)
    (closes vs)
    (opens 4 5 (λ us. refl) (long_says 1 5 (omega arith)) vs)
    (λ g. (new g).0)
    (λ g. (new g).1)
    k h f
