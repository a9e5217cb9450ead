-- The records of a trace (document 02, requests 1 and 4): kind 1 opens, 2 reads, 3 resumes, 4 closes; three longer kinds, 5 to 7, make the
-- calls of 1 to 3 and say the boot number too, which a shorter one leaves 0. Each kind has a row of widths, and the lengths, what a record
-- says and the record of a call all come from these rows.
--   row ns              the numbers ns and then 0, eight in all
--   rows                for each kind, from 0 on, the widths in bytes of its body's numbers;   row_of k   those of kind k
--   length_by ws         the bytes of a record, its kind's own among them; 0 where there is no such kind
--   lengths             the table of kinds and lengths
--   call_on n a          the call a on channel n
--   Says                a call on a channel, or nothing;   told   what each case of the code's answer says
--   opening_in vs, reading_in vs   the opening, or what is seen at a reading or a resumption, in the numbers vs of a body
--   meant k vs          what kind k with the numbers vs says
--   says_of r            what the bytes r say: the call of a whole record, nothing where they are none
--   kind_by b s l        the kind s where the boot number b is 0, which it need not say, else l
--   kind_for, numbers_for   the kind of the shortest record that says a call, and its numbers
--   bytes_of x           the shortest record that says the call x
--   unsaid x            no record says it: a channel above 255, or the call (unsaid_call): a question for the total, an energy unit above 255
--   write_tests s x      the tests of writing it at the start of s, in their order: 17, then 25;   write_number s x   what it is refused with
--   write_of s x         that refusal, or how many bytes were written
--   written s x         what s holds then: the record, and the rest as it was; all as it was where it is refused
-- Assumes nothing.
use Rattle.std.specs.Prelude.{ℕ, ◌+◌, Bool, true, false, cond, ◌||◌, List, [], ◌∷◌, ◌++◌, map, ltb, eqb, length, get_or, take, drop, replicate, Option, Some, None}
use Rattle.words.specs.Answers.{Answer, gives, unless, first}
use Rattle.records.specs.Partial.{length_of}
use Rattle.records_body.specs.Body.{extent, numbers_at, body_of}
use Rattle.energy_calls.specs.Calls.{reading_of, opening_of}
use Rattle.energy_hall.specs.Hall.{Named}
use Rattle.energy_calls.specs.declared.calls.Opening.{Opening}
use Rattle.energy_calls.specs.declared.calls.Reading.{Reading}
use Rattle.energy_calls.specs.declared.calls.Call.{Call}
use Rattle.energy_calls.specs.declared.calls.Call.TheVariants.{Open, Read, Resume, Close, Ask}
use Rattle.replay_trace.specs.declared.trace.Said.{Said}

-- ---- the table

abbrev pub row : List ℕ → List ℕ
row ns = take 8 (ns ++ replicate 8 0)

abbrev pub rows : List (List ℕ)
rows =
    row [] ∷
    -- channel, energy unit, gap limit, tick, register
    row (1 ∷ 1 ∷ 4 ∷ 8 ∷ 8 ∷ []) ∷
    -- channel, tick, register
    row (1 ∷ 8 ∷ 8 ∷ []) ∷
    row (1 ∷ 8 ∷ 8 ∷ []) ∷
    -- channel
    row (1 ∷ []) ∷
    -- those of 1, 2 and 3, and the boot number
    row (1 ∷ 1 ∷ 4 ∷ 8 ∷ 8 ∷ 4 ∷ []) ∷
    row (1 ∷ 8 ∷ 8 ∷ 4 ∷ []) ∷
    row (1 ∷ 8 ∷ 8 ∷ 4 ∷ []) ∷ []

abbrev pub row_of : ℕ → List ℕ
row_of k = get_or rows k (row [])

abbrev pub length_by : List ℕ → ℕ
length_by ws = cond (eqb (extent ws) 0) 0 (1 + extent ws)

abbrev pub lengths : List ℕ
lengths = map length_by rows

-- ---- a record as a call

abbrev pub call_on : ℕ → Call → Named
call_on n a = record { channel = n; call = a }

pub data Says : Type 0 where
  nothing : Says
  says : Named → Says

abbrev pub told : Option Said → Says
told None = nothing
told (Some x) = says (call_on x.channel x.call)

-- the boot number comes last; in an old kind's row it has no width, and a number of no width is 0
abbrev pub opening_in : List ℕ → Opening
opening_in vs = opening_of (get_or vs 1 0) (get_or vs 2 0) (get_or vs 3 0) (get_or vs 4 0) (get_or vs 5 0)

abbrev pub reading_in : List ℕ → Reading
reading_in vs = reading_of (get_or vs 1 0) (get_or vs 2 0) (get_or vs 3 0)

unfoldable pub meant : ℕ → List ℕ → Says
meant k vs =
    let n = get_or vs 0 0 in
    cond (eqb k 1 || eqb k 5) (says (call_on n (Open (opening_in vs))))
    (cond (eqb k 2 || eqb k 6) (says (call_on n (Read (reading_in vs))))
    (cond (eqb k 3 || eqb k 7) (says (call_on n (Resume (reading_in vs))))
    (cond (eqb k 4) (says (call_on n Close)) nothing)))

unfoldable pub says_of : List ℕ → Says
says_of r =
    let k = get_or r 0 0 in
    cond (eqb (length_of lengths k) (length r)) (meant k (numbers_at (row_of k) r 1)) nothing

-- ---- a call as a record

abbrev pub kind_by : (boot short long : ℕ) → ℕ
kind_by b s l = cond (eqb b 0) s l

abbrev pub kind_for : Call → ℕ
kind_for (Open o) = kind_by o.seen.boot 1 5
kind_for (Read q) = kind_by q.boot 2 6
kind_for (Resume q) = kind_by q.boot 3 7
kind_for Close = 4
kind_for Ask = 0

abbrev pub numbers_for : ℕ → Call → List ℕ
numbers_for n (Open o) = row (n ∷ o.unit ∷ o.gap ∷ o.seen.tick ∷ o.seen.status ∷ o.seen.boot ∷ [])
numbers_for n (Read q) = row (n ∷ q.tick ∷ q.status ∷ q.boot ∷ [])
numbers_for n (Resume q) = row (n ∷ q.tick ∷ q.status ∷ q.boot ∷ [])
numbers_for n Close = row (n ∷ [])
numbers_for n Ask = row []

unfoldable pub bytes_of : Named → List ℕ
bytes_of x = kind_for x.call ∷ body_of (row_of (kind_for x.call)) (numbers_for x.channel x.call)

abbrev pub unsaid_call : Call → Bool
unsaid_call (Open o) = ltb 255 o.unit
unsaid_call (Read q) = false
unsaid_call (Resume q) = false
unsaid_call Close = false
unsaid_call Ask = true

unfoldable pub unsaid : Named → Bool
unsaid x = ltb 255 x.channel || unsaid_call x.call

abbrev pub write_tests : List ℕ → Named → List (Bool × ℕ)
write_tests s x = (unsaid x, 17) ∷ (ltb (length s) (length (bytes_of x)), 25) ∷ []

abbrev pub write_number : List ℕ → Named → ℕ
write_number s x = first (write_tests s x)

unfoldable pub write_of : List ℕ → Named → Answer
write_of s x = unless (write_number s x) (gives (length (bytes_of x) ∷ []))

unfoldable pub written : List ℕ → Named → List ℕ
written s x = cond (eqb (write_number s x) 0) (bytes_of x ++ drop (length (bytes_of x)) s) s
