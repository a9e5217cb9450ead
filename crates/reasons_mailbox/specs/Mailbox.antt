-- The mailbox of the limit reasons as a machine of steps (document 02, request 6; document 004, "PLR_MAILBOX_INTERFACE"). One step is one test
-- of RUN_BUSY in the interface value x that the host read; d is the data value that it read beside it.
--   exchange_of ..       an exchange of which no test was busy yet;   counting e k   the exchange e of which k tests in a row were busy
--   outside e           a command that is neither read nor write, a domain or an identifier that does not fit, or not 1 to 1,000 tests
--   begun_of e           17, or the exchange to go on with;   Begins   what a start is told to have come to
--   is_busy x            RUN_BUSY reads 1
--   asks e x            the interface's next value: what the exchange asks, RUN_BUSY 1, reserved bits as they were read
--   stored_word e x      the word that says so
--   last_test e          one busy test more, and as many in a row are busy as the exchange names, or more
--   Said                what a step is told to say: wait, store in these registers in this order, ended with these values, refused, nothing
--   Next, next m s      what a step leaves and says;   over   the exchange is over, and nothing is said
--   to_store e w         what the host stores to start it, the word w last;   taken e d   what it ends with
--   waits_on go e        a busy test: 30 where it is the last, else the wait goes on
--   starts_of, ends_of    a step of the first wait, and of the second, which counts anew
--   step_of m x d        a step from any state: one whose numbers are outside is over
--   told_begun, told_reply, told   what each case of the code's enums and its struct say
-- Assumes nothing.
use Rattle.std.specs.Prelude.{ℕ, ◌+◌, Bool, cond, ◌||◌, List, [], ◌∷◌, ltb, leb, eqb, Result, Ok, Err}
use Rattle.fields.specs.Tables.{with_fields}
use Rattle.reasons_registers.specs.MailboxInterface.{widths, interface_of, values}
use Rattle.reasons_registers.specs.declared.mailbox_interface.Interface.{Interface}
use Rattle.reasons_mailbox.specs.declared.mailbox.Exchange.{Exchange}
use Rattle.reasons_mailbox.specs.declared.mailbox.Mailbox.{Mailbox}
use Rattle.reasons_mailbox.specs.declared.mailbox.Mailbox.TheVariants.{Starting, Ending, Over}
use Rattle.words.specs.declared.answers.Refusal.{Refusal}
use Rattle.reasons_mailbox.specs.declared.mailbox.Reply.{Reply}
use Rattle.reasons_mailbox.specs.declared.mailbox.Stepped.{Stepped}

-- ---- an exchange

abbrev pub exchange_of : (command domain id reasons tests : ℕ) → Exchange
exchange_of c d i r n = record { command = c; domain = d; id = i; reasons = r; tests = n; busy = 0 }

abbrev pub counting : Exchange → ℕ → Exchange
counting e k = record { command = e.command; domain = e.domain; id = e.id; reasons = e.reasons; tests = e.tests; busy = k }

unfoldable pub outside : Exchange → Bool
outside e = ltb 1 e.command || (ltb 15 e.domain || (ltb 255 e.id || (ltb e.tests 1 || ltb 1000 e.tests)))

pub data Begins : Type 0 where
  no : ℕ → Begins
  begins : Mailbox → Begins

-- 17 is document 01's "a number outside its range"
unfoldable pub begun_of : Exchange → Begins
begun_of e = cond (outside e) (no 17) (begins (Starting e))

-- ---- the interface

unfoldable pub is_busy : ℕ → Bool
is_busy x = eqb (interface_of x).busy 1

abbrev pub asks : Exchange → ℕ → Interface
asks e x = record { command = e.command; domain = e.domain; id = e.id; reserved20 = (interface_of x).reserved20; busy = 1 }

unfoldable pub stored_word : Exchange → ℕ → ℕ
stored_word e x = with_fields 0 widths 0 (values (asks e x))

-- ---- a step

-- registers by number, as a lookup names them: 1 the interface, 2 the data
pub data Said : Type 0 where
  waits : Said
  stores : List (ℕ × ℕ) → Said
  ended : List ℕ → Said
  refused : ℕ → Said
  nothing : Said

pub record Next : Type 0 where
  pub state : Mailbox
  pub said : Said

abbrev pub next : Mailbox → Said → Next
next m s = record { state = m; said = s }

abbrev pub over : Next
over = next Over nothing

unfoldable pub last_test : Exchange → Bool
last_test e = leb e.tests (e.busy + 1)

unfoldable pub waits_on : (Exchange → Mailbox) → Exchange → Next
waits_on go e = cond (last_test e) (next Over (refused 30)) (next (go (counting e (e.busy + 1))) waits)

-- a read stores the interface's word; a write the data first, then the word
abbrev pub to_store : Exchange → ℕ → List (ℕ × ℕ)
to_store e w = cond (eqb e.command 0) ((1, w) ∷ []) ((2, e.reasons) ∷ (1, w) ∷ [])

-- a read takes the data that was read beside the test
abbrev pub taken : Exchange → ℕ → List ℕ
taken e d = cond (eqb e.command 0) (d ∷ []) []

unfoldable pub starts_of : Exchange → ℕ → Next
starts_of e x = cond (is_busy x) (waits_on Starting e) (next (Ending (counting e 0)) (stores (to_store e (stored_word e x))))

unfoldable pub ends_of : Exchange → ℕ → ℕ → Next
ends_of e x d = cond (is_busy x) (waits_on Ending e) (next Over (ended (taken e d)))

unfoldable pub step_of : Mailbox → ℕ → ℕ → Next
step_of (Starting e) x d = cond (outside e) over (starts_of e x)
step_of (Ending e) x d = cond (outside e) over (ends_of e x d)
step_of Over x d = over

-- ---- the code's enums

abbrev pub told_begun : Result Mailbox Refusal → Begins
told_begun (Ok m) = begins m
told_begun (Err r) = no r.0

abbrev pub told_reply : Reply → Said
told_reply Reply.Waits = waits
told_reply (Reply.Store w) = stores ((1, w) ∷ [])
told_reply (Reply.StoreBoth d w) = stores ((2, d) ∷ (1, w) ∷ [])
told_reply (Reply.Read d) = ended (d ∷ [])
told_reply Reply.Written = ended []
told_reply (Reply.Refused n) = refused n
told_reply Reply.Nothing = nothing

abbrev pub told : Stepped → Next
told r = next r.state (told_reply r.reply)
