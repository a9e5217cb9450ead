-- An exchange over any list of tests (document 02, request 6): what the host read at each, handed in one after the other.
--   Seen               what was read at one test: the interface's value and that of the data
--   leaves m vs        the state that the tests vs leave from the state m on
--   said_after m vs v   what is said at the test v that comes after them
--   Busy, Idle v       RUN_BUSY read 1, read 0;   AllBusy vs   it read 1 at each test
--   Started e vs       of the tests vs the first that was idle, before n of them were busy: `waited` are those before it, `later` those after
--   GivesUp e vs v     v is the n-th busy test in a row of one wait: of the first, from the beginning on, or of the second
--   EndsAt e vs v      v is idle, and the exchange was started and has not given up
--   Closed e vs        one of the tests vs gave up or ended it
--   At e vs m          the tests vs, in these words, where they leave the state m
--   Heard e vs v s     the tests vs and v after them, where s is said at v
-- where n is the number of tests that the exchange e names.
-- Assumes nothing.
use Rattle.std.specs.Prelude.{ℕ, suc, ◌<◌, ◌≡◌, ◌⊎◌, true, false, List, [], ◌∷◌, ◌++◌, length}
use Rattle.reasons_mailbox.specs.declared.mailbox.Exchange.{Exchange}
use Rattle.reasons_mailbox.specs.declared.mailbox.Mailbox.{Mailbox}
use Rattle.reasons_mailbox.specs.declared.mailbox.Mailbox.TheVariants.{Starting, Ending, Over}
use Rattle.reasons_mailbox.specs.Mailbox.{counting, is_busy, stored_word, Said, waits, stores, ended, refused, nothing, to_store, taken, step_of}

pub record Seen : Type 0 where
  pub interface : ℕ
  pub reasons : ℕ

-- ---- one test after the other

unfoldable pub leaves : Mailbox → List Seen → Mailbox
leaves m [] = m
leaves m (v ∷ vs) = leaves (step_of m v.interface v.reasons).state vs

abbrev pub said_after : Mailbox → List Seen → Seen → Said
said_after m vs v = (step_of (leaves m vs) v.interface v.reasons).said

-- ---- in plain words

abbrev pub Busy : Seen → Type 0
Busy v = is_busy v.interface ≡ true

abbrev pub Idle : Seen → Type 0
Idle v = is_busy v.interface ≡ false

abbrev pub AllBusy : List Seen → Type 0
AllBusy [] = Unit
AllBusy (v ∷ vs) = Busy v × AllBusy vs

pub record Started (e : Exchange) (vs : List Seen) : Type 0 where
  pub waited : List Seen
  pub start : Seen
  pub later : List Seen
  pub split : vs ≡ waited ++ start ∷ later
  pub busy : AllBusy waited
  pub in_time : length waited < e.tests
  pub idle : Idle start

abbrev pub GivesUp : Exchange → List Seen → Seen → Type 0
GivesUp e vs v = Busy v × ((AllBusy vs × (suc (length vs) ≡ e.tests)) ⊎ ((s : Started e vs) × AllBusy s.later × (suc (length s.later) ≡ e.tests)))

abbrev pub EndsAt : Exchange → List Seen → Seen → Type 0
EndsAt e vs v = Idle v × ((s : Started e vs) × AllBusy s.later × (length s.later < e.tests))

abbrev pub Closed : Exchange → List Seen → Type 0
Closed e vs = (us : List Seen) × (w : Seen) × (ws : List Seen) × (vs ≡ us ++ w ∷ ws) × (GivesUp e us w ⊎ EndsAt e us w)

abbrev pub At : Exchange → List Seen → Mailbox → Type 0
At e vs (Starting x) = AllBusy vs × (length vs < e.tests) × (x ≡ counting e (length vs))
At e vs (Ending x) = (s : Started e vs) × AllBusy s.later × (length s.later < e.tests) × (x ≡ counting e (length s.later))
At e vs Over = Closed e vs

abbrev pub Heard : Exchange → List Seen → Seen → Said → Type 0
Heard e vs v waits = Busy v × ((AllBusy vs × (suc (length vs) < e.tests)) ⊎ ((s : Started e vs) × AllBusy s.later × (suc (length s.later) < e.tests)))
Heard e vs v (stores xs) = Idle v × AllBusy vs × (length vs < e.tests) × (to_store e (stored_word e v.interface) ≡ xs)
Heard e vs v (ended ds) = EndsAt e vs v × (taken e v.reasons ≡ ds)
Heard e vs v (refused m) = GivesUp e vs v × (m ≡ 30)
Heard e vs v nothing = Closed e vs
