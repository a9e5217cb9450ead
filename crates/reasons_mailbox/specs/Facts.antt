-- What is proved of the mailbox, for every number, every state and every list of tests. Each record is one theorem, to be read without its
-- proof, which stands in proofs/Told.antt (one result), proofs/StepFact.antt (up to one step) or proofs/ExchangeFact.antt under the same name
-- with underscores.
-- Assumes nothing.
use Rattle.std.specs.Prelude.{ℕ, ◌+◌, ◌*◌, ◌^◌, ◌≤◌, ◌<◌, ◌≡◌, ◌⊎◌, ◌↔◌, true, false, List, ◌++◌, length}
use Rattle.fields.specs.Bits.{bit}
use Rattle.words.specs.Facts.{Once}
use Rattle.reasons_registers.specs.MailboxInterface.{interface_of}
use Rattle.reasons_mailbox.specs.declared.mailbox.Exchange.{Exchange}
use Rattle.reasons_mailbox.specs.declared.mailbox.Mailbox.{Mailbox}
use Rattle.reasons_mailbox.specs.declared.mailbox.Mailbox.TheVariants.{Starting, Ending, Over}
use Rattle.reasons_mailbox.specs.Mailbox.{exchange_of, counting, no, begins, begun_of, is_busy, asks, stored_word, Said, waits, stores, ended, refused, nothing, next, to_store, taken, step_of, told_begun, told_reply, told}
use Rattle.reasons_mailbox.specs.Exchanges.{Seen, leaves, said_after, At, Heard}

-- ---- one result

-- Two answers of which the same is said are the same: of a start, of a reply, and of a step.
abbrev pub BegunOnce : Type 0
BegunOnce = Once told_begun

abbrev pub ReplyOnce : Type 0
ReplyOnce = Once told_reply

abbrev pub ToldOnce : Type 0
ToldOnce = Once told

-- ---- a start

-- a command that is neither read nor write, a domain or an identifier that does not fit, or not 1 to 1,000 tests
abbrev pub Outside : Exchange → Type 0
Outside e = (1 < e.command) ⊎ ((15 < e.domain) ⊎ ((255 < e.id) ⊎ ((e.tests < 1) ⊎ (1000 < e.tests))))

-- 17 exactly where a number lies outside; else exactly the exchange that was asked, in its first wait.
pub record StartFact (e : Exchange) : Type 0 where
  pub refused : (n : ℕ) → (begun_of e ≡ no n) ↔ (Outside e × (n ≡ 17))
  pub begun : (m : Mailbox) → (begun_of e ≡ begins m) ↔ ((Outside e → ⊥) × (m ≡ Starting e))

-- ---- what is stored

-- Of an exchange whose numbers fit: the word that starts it reads as what is asked, with RUN_BUSY 1; it has 64 bits; and the reserved bits,
-- 62:20, are those of the interface value that was read in this test.
pub record StoredFact (e : Exchange) (x : ℕ) : Type 0 where
  pub reads : (Outside e → ⊥) → interface_of (stored_word e x) ≡ asks e x
  pub word : stored_word e x < 2 ^ 64
  pub reserved : (Outside e → ⊥) → (k : ℕ) → 20 ≤ k → k < 63 → bit k (stored_word e x) ≡ bit k x

-- ---- one step, from any state

-- In plain words: a step from the state m, at which the interface reads x and the data d, leaves u and says this. It stores exactly in the
-- first wait of an exchange whose numbers fit, where RUN_BUSY reads 0, and ends exactly in the second, where RUN_BUSY reads 0. Where it reads 1
-- the step waits or says 30, as with this test fewer in a row are counted than the exchange names, or not. It says nothing exactly where the
-- exchange was over before, or its numbers lie outside.
abbrev pub Steps : (m : Mailbox) (x d : ℕ) (u : Mailbox) → Said → Type 0
Steps m x d u waits =
    (e : Exchange) × (Outside e → ⊥) × (is_busy x ≡ true) × (e.busy + 1 < e.tests)
    × (((m ≡ Starting e) × (u ≡ Starting (counting e (e.busy + 1)))) ⊎ ((m ≡ Ending e) × (u ≡ Ending (counting e (e.busy + 1)))))
Steps m x d u (stores xs) =
    (e : Exchange) × (Outside e → ⊥) × (is_busy x ≡ false) × (m ≡ Starting e) × (to_store e (stored_word e x) ≡ xs) × (u ≡ Ending (counting e 0))
Steps m x d u (ended ds) = (e : Exchange) × (Outside e → ⊥) × (is_busy x ≡ false) × (m ≡ Ending e) × (taken e d ≡ ds) × (u ≡ Over)
Steps m x d u (refused n) =
    (e : Exchange) × (Outside e → ⊥) × (is_busy x ≡ true) × (e.tests ≤ e.busy + 1) × ((m ≡ Starting e) ⊎ (m ≡ Ending e)) × (n ≡ 30) × (u ≡ Over)
Steps m x d u nothing = ((m ≡ Over) ⊎ ((e : Exchange) × Outside e × ((m ≡ Starting e) ⊎ (m ≡ Ending e)))) × (u ≡ Over)

-- A step does exactly so, from any state, also one that no exchange leaves.
abbrev pub StepFact : Mailbox → ℕ → ℕ → Type 0
StepFact m x d = (u : Mailbox) (s : Said) → (step_of m x d ≡ next u s) ↔ Steps m x d u s

-- ---- an exchange, over any list of tests

-- Of an exchange e and the state b that its start gives: which state the tests vs leave, and what is said at the test v after them, exactly in
-- plain words (`At`, `Heard` of specs/Exchanges). So it is started only at a test at which RUN_BUSY read 0; 30 comes exactly at the n-th busy
-- test in a row of one wait, and the second wait counts anew; and once it is over nothing changes. After 2 n tests it is.
pub record ExchangeFact (e : Exchange) (b : Mailbox) (vs : List Seen) (v : Seen) : Type 0 where
  pub state : (m : Mailbox) → (leaves b vs ≡ m) ↔ At e vs m
  pub said : (s : Said) → (said_after b vs v ≡ s) ↔ Heard e vs v s
  pub most : 2 * e.tests ≤ length vs → leaves b vs ≡ Over
  pub ended_for_good : (us : List Seen) → leaves b vs ≡ Over → (leaves b (vs ++ us) ≡ Over) × (said_after b (vs ++ us) v ≡ nothing)

abbrev pub AnyExchange : Type 0
AnyExchange =
    (c d i r n : ℕ) (b : Mailbox) → begun_of (exchange_of c d i r n) ≡ begins b → (vs : List Seen) (v : Seen) → ExchangeFact (exchange_of c d i r n) b vs v
