-- The account of demand 3 (document 00): what an observer beside the meter, who sees the whole counts, sums up for one channel.
-- No definition here names a channel's record.
--   Event              a call on a named channel, and the whole count of that channel at that moment, which no call is handed
--   calls es           the calls of some events: all that the meter is handed
--   Entry              an accepted call, and the whole count at that moment
--   if_so b t ts       the entries ts, with t in front where b holds
--   entries k es xs    of the events es, answered by xs, those that name channel k and are accepted, in their order
--   Account            what the observer knows of the channel: shut, or running since an accepted opening
--   entered x a w      the account x after the accepted call a at whole count w
--   account x ts       the account x after the entries ts
--   Shows q w          the status register shows the whole count's remainder
--   Rises o l q v w    what is supposed of a reading
--   Fair x a w         what is supposed of an accepted call
--   Supposed x ts      what is supposed of the entries ts
--   is_shut x, sum_of x  the account is shut; its sum, 0 where it is shut
--   due k x            what asking for the total of channel k must answer
--   part u x           what the account adds to the hall total of energy unit u
--   parts n u f        the sum of what the accounts f 0 to f (n - 1) add
-- Assumes nothing.
use Rattle.std.specs.Prelude.{ℕ, zero, suc, ◌+◌, ◌-◌, ◌^◌, ◌%◌, ◌≤◌, ◌<◌, ◌≡◌, Bool, true, false, cond, ◌&&◌, List, [], ◌∷◌, ltb, eqb}
use Rattle.words.specs.Answers.{Answer, gives, unless, first}
use Rattle.energy_calls.specs.Calls.{count_of}
use Rattle.energy_hall.specs.Hall.{Named, accepted}
use Rattle.energy_calls.specs.declared.calls.Opening.{Opening}
use Rattle.energy_calls.specs.declared.calls.Reading.{Reading}
use Rattle.energy_calls.specs.declared.calls.Call.{Call}
use Rattle.energy_calls.specs.declared.calls.Call.TheVariants.{Open, Read, Resume, Close, Ask}

-- ---- what the observer sees

pub record Event : Type 0 where
  pub named : Named
  pub whole : ℕ

abbrev pub calls : List Event → List Named
calls [] = []
calls (e ∷ es) = e.named ∷ calls es

pub record Entry : Type 0 where
  pub call : Call
  pub whole : ℕ

abbrev pub if_so : Bool → Entry → List Entry → List Entry
if_so true t ts = t ∷ ts
if_so false t ts = ts

abbrev pub entries : ℕ → List Event → List Answer → List Entry
entries k [] xs = []
entries k (e ∷ es) [] = []
entries k (e ∷ es) (x ∷ xs) =
    if_so (accepted x && eqb e.named.channel k) (record { call = e.named.call; whole = e.whole }) (entries k es xs)

-- ---- what the observer sums up

-- running: the accepted opening, what was seen at the opening, reading or resumption accepted last, the whole count then, and the
-- sum of the rises into readings since the opening
pub data Account : Type 0 where
  shut : Account
  running : (opening : Opening) (last : Reading) (count sum : ℕ) → Account

-- An opening starts from 0; a reading adds the rise of the whole count since the call accepted last; a resumption adds nothing.
-- (A reading or a resumption of a shut channel is never accepted.)
abbrev pub entered : Account → Call → ℕ → Account
entered x (Open o) w = running o o.seen w 0
entered shut (Read q) w = shut
entered (running o l v s) (Read q) w = running o q w (s + (w - v))
entered shut (Resume q) w = shut
entered (running o l v s) (Resume q) w = running o q w s
entered x Close w = shut
entered x Ask w = x

abbrev pub account : Account → List Entry → Account
account x [] = x
account x (t ∷ ts) = account (entered x t.call t.whole) ts

-- ---- what is supposed of the whole counts, at accepted calls only

-- The register shows the remainder by 2^32.
abbrev pub Shows : Reading → ℕ → Type 0
Shows q w = count_of q.status ≡ w % 2 ^ 32

-- Into the accepted reading q, at whole count w, from the opening, reading or resumption accepted last, which saw l at whole count
-- v: within one boot number the count has not fallen, and has risen by less than one turn (document 02, request 4: a restart begins a count
-- anew, under another boot number). The opening o is at hand for a weaker supposition.
abbrev pub Rises : (opening : Opening) (last reading : Reading) → ℕ → ℕ → Type 0
Rises o l q v w = q.boot ≡ l.boot → (v ≤ w) × (w < v + 2 ^ 32)

abbrev pub Fair : Account → Call → ℕ → Type 0
Fair x (Open o) w = Shows o.seen w
Fair shut (Read q) w = Shows q w
Fair (running o l v s) (Read q) w = Shows q w × Rises o l q v w
Fair x (Resume q) w = Shows q w
Fair x Close w = Unit {0}
Fair x Ask w = Unit {0}

abbrev pub Supposed : Account → List Entry → Type 0
Supposed x [] = Unit {0}
Supposed x (t ∷ ts) = Fair x t.call t.whole × Supposed (entered x t.call t.whole) ts

-- ---- what the meter must answer

abbrev pub is_shut : Account → Bool
is_shut shut = true
is_shut (running o l v s) = false

abbrev pub sum_of : Account → ℕ
sum_of shut = 0
sum_of (running o l v s) = s

abbrev pub due : ℕ → Account → Answer
due k x = unless (first ((ltb 63 k, 12) ∷ (is_shut x, 22) ∷ [])) (gives (sum_of x ∷ []))

abbrev pub part : ℕ → Account → ℕ
part u shut = 0
part u (running o l v s) = cond (eqb o.unit u) s 0

abbrev pub parts : ℕ → ℕ → (ℕ → Account) → ℕ
parts zero u f = 0
parts (suc n) u f = parts n u f + part u (f n)
