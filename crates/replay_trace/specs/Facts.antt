-- What is proved of the records of a trace, for every call and every list of bytes. Each record or type is one theorem, to be read without its
-- proof; proofs/Theorems.antt has a proof of each under the same name with underscores.
--   CallFits a    the numbers of the call a are such as 4 bytes of gap limit hold, and 8 bytes of tick and register and 4 of boot number
--                 (SeenFits)
--   Sayable x     some record says the call x
-- Assumes nothing.
use Rattle.std.specs.Prelude.{ℕ, ◌^◌, ◌≤◌, ◌<◌, ◌≡◌, ◌↔◌, ◌≢◌, ◌⊎◌, true, false, List, [], ◌∷◌, length, get_or, take, drop}
use Rattle.words.specs.Bytes.{AllBytes}
use Rattle.words.specs.Answers.{refused, gives}
use Rattle.words.specs.Facts.{Once, NoneHolds, Decides}
use Rattle.records.specs.Partial.{rule_of}
use Rattle.records.specs.Facts.{IsRecord}
use Rattle.energy_calls.specs.Calls.{Carries}
use Rattle.energy_hall.specs.Hall.{Named}
use Rattle.energy_calls.specs.declared.calls.Reading.{Reading}
use Rattle.energy_calls.specs.declared.calls.Call.{Call}
use Rattle.energy_calls.specs.declared.calls.Call.TheVariants.{Open, Read, Resume, Close, Ask}
use Rattle.replay_trace.specs.Trace.{lengths, says, told, says_of, bytes_of, unsaid, write_tests, write_of, written}

-- Two answers of the code that say the same are the same.
abbrev pub ToldOnce : Type 0
ToldOnce = Once told

-- The table, worked out.
abbrev pub LengthsAre : Type 0
LengthsAre = lengths ≡ 0 ∷ 23 ∷ 18 ∷ 18 ∷ 2 ∷ 27 ∷ 22 ∷ 22 ∷ []

abbrev pub SeenFits : Reading → Type 0
SeenFits q = (q.tick < 2 ^ 64) × (q.status < 2 ^ 64) × (q.boot < 2 ^ 32)

abbrev pub CallFits : Call → Type 0
CallFits (Open o) = (o.gap < 2 ^ 32) × SeenFits o.seen
CallFits (Read q) = SeenFits q
CallFits (Resume q) = SeenFits q
CallFits Close = Unit
CallFits Ask = Unit

pub record Sayable (x : Named) : Type 0 where
  pub said : unsaid x ≡ false
  pub fits : CallFits x.call

-- A call and its record: the record is whole by the table, its elements are bytes, and it says the call. A call has none exactly if no bytes
-- say it.
pub record CallTrips (x : Named) : Type 0 where
  pub whole : Sayable x → (l : ℕ) → IsRecord (rule_of lengths l) (bytes_of x)
  pub bytes : AllBytes (bytes_of x)
  pub read : Sayable x → says_of (bytes_of x) ≡ says x
  pub none : CallFits x.call → (unsaid x ≡ true) ↔ ((r : List ℕ) → AllBytes r → says_of r ≡ says x → ⊥)

-- Bytes and what they say: they say a call exactly if they are a whole record by the table, and then they are the record of this call, or a
-- longer one: so the record of a call is the shortest that says it, and no other is as short. The call and the kind fix the bytes; and the
-- old kinds, 1 to 4, say boot number 0, if they say one.
pub record RecordTrips (r : List ℕ) : Type 0 where
  pub whole : (l : ℕ) → IsRecord (rule_of lengths l) r ↔ ((x : Named) × (says_of r ≡ says x))
  pub back : AllBytes r → (x : Named) → says_of r ≡ says x → ((bytes_of x ≡ r) ⊎ (length (bytes_of x) < length r)) × Sayable x
  pub once : AllBytes r → (q : List ℕ) → AllBytes q → get_or q 0 0 ≡ get_or r 0 0 → (x : Named) → says_of r ≡ says x → says_of q ≡ says x → q ≡ r
  pub old : get_or r 0 0 ≤ 4 → (x : Named) → says_of r ≡ says x → Carries 0 x.call

-- The record of the call x written at the start of s. Complete, and the first wins: a number comes exactly where its test holds and none
-- before it; else the number of bytes comes. What is refused changes nothing; what is written says the call, and the rest is as it was.
pub record RecordWriteFact (s : List ℕ) (x : Named) : Type 0 where
  pub refuses : (m : ℕ) → (write_of s x ≡ refused m) ↔ (Decides (write_tests s x) m × (m ≢ 0))
  pub accepts : (vs : List ℕ) → (write_of s x ≡ gives vs) ↔ (NoneHolds (write_tests s x) × (length (bytes_of x) ∷ [] ≡ vs))
  pub no_record : (write_of s x ≡ refused 17) ↔ (unsaid x ≡ true)
  pub short : (write_of s x ≡ refused 25) ↔ ((unsaid x ≡ false) × (length s < length (bytes_of x)))
  pub kept : (m : ℕ) → write_of s x ≡ refused m → written s x ≡ s
  pub record_first : (n : ℕ) → write_of s x ≡ gives (n ∷ []) → take n (written s x) ≡ bytes_of x
  pub rest : (n : ℕ) → write_of s x ≡ gives (n ∷ []) → drop n (written s x) ≡ drop n s
  pub read : (n : ℕ) → write_of s x ≡ gives (n ∷ []) → CallFits x.call → says_of (take n (written s x)) ≡ says x
  pub as_many : length (written s x) ≡ length s
