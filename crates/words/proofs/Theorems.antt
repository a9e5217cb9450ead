-- Each theorem of Facts.antt, under its name. Assumes nothing.
use Prim.Native.Nat.{ℕ, ◌+◌}
use mathlib.Core.Path.{◌≡◌, sym, ap, ◌∙◌}
use mathlib.Core.Logic.{◌↔◌, ◌≢◌}
use mathlib.Core.Bool.{Bool}
use lib.Dec.{T}
use mathlib.Core.List.{List, ◌∷◌, ◌++◌}
use native.Mathlib.Nat.{add_comm, mul_comm}
use Rattle.words.specs.Bytes.{number_at}
use Rattle.words.specs.Answers.{refused, unless, gives, first}
use Rattle.words.specs.Below.{least}
use Rattle.words.specs.Facts.{NumberFact, StoreFact, StoredTwoFact, NoneHolds, Decides, numbered, ExactFact, FirstFact, UnlessFact, EarliestFact, AnyFact, FaultFact, IsLeast, LeastFact}
use Rattle.words.proofs.NumberLaws.{number_byte, number_lt, number_past, number_split}
use Rattle.words.proofs.StoreLaws.{stored_byte, stored_other, length_stored, stored_short, number_stored, stored_number, stored_stored, stored_two}
use Rattle.words.proofs.AnswerLaws.{first_exactly, first_wins, unless_number, unless_gives, unless_refused, first_decides, decides_first, first_none, first_zero, earliest_pass, earliest_stop, earliest_zero, earliest_end}
use Rattle.words.proofs.BelowLaws.{any_some, any_found, any_all, all_any, fault_all, all_fault, fault_some, fault_stop, is_least, least_once}

pub number_fact : (xs : List ℕ) (at n : ℕ) → NumberFact xs at n
number_fact xs at n =
    record {
      bytes = λ b. number_byte xs b at n;
      below = λ b. number_lt xs b at n;
      past = number_past xs at n;
      split = λ m. number_split xs at m n ∙ add_comm _ _ ∙ ap (λ (k : ℕ). number_at xs at m + k) (mul_comm _ _);
    }

pub store_fact : (xs : List ℕ) (at n v : ℕ) → StoreFact xs at n v
store_fact xs at n v =
    record {
      bytes = stored_byte xs at n v;
      others = stored_other xs at n v;
      size = length_stored xs at n v;
      short = stored_short xs at n v;
      read = number_stored xs at n v;
      same = λ b. stored_number xs b at n;
      last = λ u. stored_stored xs at n u v;
    }

pub stored_two_fact : (xs : List ℕ) (at m n a b : ℕ) → StoredTwoFact xs at m n a b
stored_two_fact = stored_two

pub first_fact : (ts : List (Bool × ℕ)) → FirstFact ts
first_fact ts =
    record {
      decides = λ n h. (λ e. first_decides ts e h, decides_first ts n);
      none = λ p. (first_zero ts p, first_none ts);
      unique = λ m n p a b. sym (decides_first ts m a) ∙ decides_first ts n b;
    }

pub exact_fact : (ts : List (Bool × ℕ)) (b : Bool) (n : ℕ) (us : List (Bool × ℕ)) → ExactFact ts b n us
exact_fact ts b n us h f = (first_exactly ts b n us h f, λ r. ap (λ (x : Bool). first (ts ++ (x, n) ∷ us)) r.1 ∙ first_wins ts us n r.0)

pub unless_fact : (n : ℕ) (vs : List ℕ) → UnlessFact n vs
unless_fact n vs =
    record {
      accepts = λ us. (unless_gives n, λ h. ap (λ (k : ℕ). unless k (gives vs)) h.0 ∙ ap gives h.1);
      refuses = λ m. (unless_refused n vs, λ h. ap (λ (k : ℕ). unless k (gives vs)) h.0 ∙ unless_number m (gives vs) h.1);
    }

-- an answer by a chain of numbered tests
module _ (ts : List (Bool × ℕ)) (us : List ℕ) where
  pub chain_refuses : (m : ℕ) → (unless (first ts) (gives us) ≡ refused m) ↔ (Decides ts m × (m ≢ 0))
  chain_refuses m =
      let u = (unless_fact (first ts) us).refuses m in
      (λ e. (((first_fact ts).decides m (u.0 e).1).0 (u.0 e).0, (u.0 e).1), λ d. u.1 (((first_fact ts).decides m d.1).1 d.0, d.1))

  pub chain_accepts : T (numbered ts) → (vs : List ℕ) → (unless (first ts) (gives us) ≡ gives vs) ↔ (NoneHolds ts × (us ≡ vs))
  chain_accepts n vs =
      let u = (unless_fact (first ts) us).accepts vs in
      let f = (first_fact ts).none n in
      (λ e. (f.0 (u.0 e).0, (u.0 e).1), λ d. u.1 (f.1 d.0, d.1))

pub earliest_fact : (n : ℕ) (ns : List ℕ) → EarliestFact n ns
earliest_fact n ns =
    record {
      passes = earliest_pass ns;
      stops = earliest_stop n ns;
      all = (earliest_zero n ns, λ h. earliest_pass ns h.0 ∙ h.1);
      ends = earliest_end;
    }

pub any_fact : (p : ℕ → Bool) (n : ℕ) → AnyFact p n
any_fact p n = record { some = (any_some p n, λ h. any_found p h.0 n h.1 h.2); none = (any_all p n, all_any p n) }

pub fault_fact : (f : ℕ → ℕ) (n : ℕ) → FaultFact f n
fault_fact f n =
    record {
      none = (fault_all f n, all_fault f n);
      some = λ m h. (
        fault_some f n m h,
        λ r. fault_stop f r.0 n r.1 (all_fault f r.0 r.3) (λ z. h (sym r.2 ∙ z)) ∙ r.2,
      );
    }

pub least_fact : (p : ℕ → Bool) (n k : ℕ) → LeastFact p n k
least_fact p n k j = (λ e. at_least e, λ h. least_once p n k (least p n k) j (is_least p n k) h)
  where
    at_least : least p n k ≡ j → IsLeast p n k j
    at_least e = rw e at (is_least p n k)
