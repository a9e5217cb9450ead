-- What is proved of the definitions of this crate, for every number and every list. Each record is one theorem, to be read
-- without its proof; proofs/Theorems.antt has a proof of each, under the same name with underscores.
-- Assumes nothing.
use Rattle.std.specs.Prelude.{ℕ, ◌+◌, ◌*◌, ◌/◌, ◌%◌, ◌^◌, ◌≤◌, ◌<◌, ◌≡◌, ◌⊎◌, ◌↔◌, ◌≢◌, Bool, true, false, not, ◌&&◌, List, [], ◌∷◌, ◌++◌, length, get_or, T, ltb, eqb}
use Rattle.words.specs.Bytes.{AllBytes, number_at, stored}
use Rattle.words.specs.Answers.{refused, gives, unless, first, earliest}
use Rattle.words.specs.Below.{any_below, first_below, least}

-- ---- numbers in bytes

-- The number of n bytes at a place: its bytes are the list's, it has no more than n, past the end all is 0, and it splits anywhere.
pub record NumberFact (xs : List ℕ) (at n : ℕ) : Type 0 where
  pub bytes : AllBytes xs → (k : ℕ) → k < n → number_at xs at n / 256 ^ k % 256 ≡ get_or xs (at + k) 0
  pub below : AllBytes xs → number_at xs at n < 256 ^ n
  pub past : length xs ≤ at → number_at xs at n ≡ 0
  pub split : (m : ℕ) → number_at xs at (m + n) ≡ number_at xs at m + 256 ^ m * number_at xs (at + m) n

-- A number stored: where it fits its n bytes stand there, every other byte and the length are as they were; where it does not
-- fit, all is as it was. It is read back; storing what was read changes nothing; the last store wins.
pub record StoreFact (xs : List ℕ) (at n v : ℕ) : Type 0 where
  pub bytes : at + n ≤ length xs → (k : ℕ) → k < n → get_or (stored xs at n v) (at + k) 0 ≡ v / 256 ^ k % 256
  pub others : (k : ℕ) → (k < at) ⊎ (at + n ≤ k) → get_or (stored xs at n v) k 0 ≡ get_or xs k 0
  pub size : length (stored xs at n v) ≡ length xs
  pub short : length xs < at + n → stored xs at n v ≡ xs
  pub read : at + n ≤ length xs → number_at (stored xs at n v) at n ≡ v % 256 ^ n
  pub same : AllBytes xs → stored xs at n (number_at xs at n) ≡ xs
  pub last : (u : ℕ) → stored (stored xs at n u) at n v ≡ stored xs at n v

-- Two numbers stored one after the other are one number stored, where both fit.
abbrev pub StoredTwoFact : List ℕ → ℕ → ℕ → ℕ → ℕ → ℕ → Type 0
StoredTwoFact xs at m n a b = a < 256 ^ m → at + (m + n) ≤ length xs
    → stored (stored xs at m a) (at + m) n b ≡ stored xs at (m + n) (b * 256 ^ m + a)

-- ---- what an enum says

-- A function that tells two things apart: what it says of both is the same only if they are. (Of what an enum of the code says: `ToldOnce` of
-- its crate, beside `told`; proofs/Told.)
abbrev pub Once : {A B : Type 0} → (A → B) → Type 0
Once {A} {B} f = (a b : A) → f a ≡ f b → a ≡ b

-- ---- which test decides

-- every test of a list fails
abbrev pub NoneHolds : List (Bool × ℕ) → Type 0
NoneHolds [] = Unit {0}
NoneHolds (t ∷ ts) = (t.0 ≡ false) × NoneHolds ts

-- a test with the number n holds, and every test before it fails
pub record Decides (ts : List (Bool × ℕ)) (n : ℕ) : Type 0 where
  pub before : List (Bool × ℕ)
  pub after : List (Bool × ℕ)
  pub fail : NoneHolds before
  pub split : ts ≡ before ++ (true, n) ∷ after

-- no number of a list is 0; of a list that is written out `tt` proves it
abbrev pub numbered : List (Bool × ℕ) → Bool
numbered [] = true
numbered (t ∷ ts) = ltb 0 t.1 && numbered ts

-- n is none of the numbers of a list; of a list that is written out `tt` proves it
abbrev pub fresh : ℕ → List (Bool × ℕ) → Bool
fresh n [] = true
fresh n (t ∷ ts) = not (eqb n t.1) && fresh n ts

-- A test with a number of its own, after the tests ts and before the tests us: its number comes exactly if it holds and none of ts does.
abbrev pub ExactFact : List (Bool × ℕ) → Bool → ℕ → List (Bool × ℕ) → Type 0
ExactFact ts b n us = n ≢ 0 → T (fresh n ts && fresh n us) → (first (ts ++ (b, n) ∷ us) ≡ n) ↔ (NoneHolds ts × (b ≡ true))

-- A chain of tests: complete, since some number always comes; a number of the table comes exactly if its test holds and none before it;
-- 0 comes exactly if none holds.
pub record FirstFact (ts : List (Bool × ℕ)) : Type 0 where
  pub decides : (n : ℕ) → n ≢ 0 → (first ts ≡ n) ↔ Decides ts n
  pub none : T (numbered ts) → (first ts ≡ 0) ↔ NoneHolds ts
  pub unique : (m n : ℕ) → T (numbered ts) → Decides ts m → Decides ts n → m ≡ n

-- A lookup's answer: values exactly where the number is 0, and then these; a refusal exactly where it is not, and then this one.
pub record UnlessFact (n : ℕ) (vs : List ℕ) : Type 0 where
  pub accepts : (us : List ℕ) → (unless n (gives vs) ≡ gives us) ↔ ((n ≡ 0) × (vs ≡ us))
  pub refuses : (m : ℕ) → (unless n (gives vs) ≡ refused m) ↔ ((n ≡ m) × (m ≢ 0))

-- Stages: the number of the first stage that refuses, 0 exactly where all pass.
pub record EarliestFact (n : ℕ) (ns : List ℕ) : Type 0 where
  pub passes : n ≡ 0 → earliest (n ∷ ns) ≡ earliest ns
  pub stops : n ≢ 0 → earliest (n ∷ ns) ≡ n
  pub all : (earliest (n ∷ ns) ≡ 0) ↔ ((n ≡ 0) × (earliest ns ≡ 0))
  pub ends : earliest [] ≡ 0

-- ---- searches

-- Some number below n passes.
pub record AnyFact (p : ℕ → Bool) (n : ℕ) : Type 0 where
  pub some : (any_below p n ≡ true) ↔ ((k : ℕ) × (k < n) × (p k ≡ true))
  pub none : (any_below p n ≡ false) ↔ ((k : ℕ) → k < n → p k ≡ false)

-- The first fault among the numbers below n.
pub record FaultFact (f : ℕ → ℕ) (n : ℕ) : Type 0 where
  pub none : (first_below f n ≡ 0) ↔ ((k : ℕ) → k < n → f k ≡ 0)
  pub some : (m : ℕ) → m ≢ 0 → (first_below f n ≡ m) ↔ ((k : ℕ) × (k < n) × (f k ≡ m) × ((i : ℕ) → i < k → f i ≡ 0))

-- j lies from k on, every number before it fails, and it passes or is k + n
pub record IsLeast (p : ℕ → Bool) (n k j : ℕ) : Type 0 where
  pub starts : k ≤ j
  pub ends : j ≤ k + n
  pub fail : (i : ℕ) → k ≤ i → i < j → p i ≡ false
  pub passes : j < k + n → p j ≡ true

-- The least number that passes, and only that one.
abbrev pub LeastFact : (ℕ → Bool) → ℕ → ℕ → Type 0
LeastFact p n k = (j : ℕ) → (least p n k ≡ j) ↔ IsLeast p n k j
