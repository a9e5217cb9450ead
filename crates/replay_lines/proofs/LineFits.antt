-- The line of a record and the line of a stop: how long they can be, and that a page so long shows them whole. Assumes nothing.
use Prim.Native.Nat.{ℕ, ◌≤◌}
use lib.ListN.{length, length-append}
use native.Mathlib.Omega.{arith}
use Rattle.std.specs.Prelude.{Option, Some, None, Result, Ok, Err}
use Rattle.words.specs.declared.answers.Refusal.{Refusal}
use Rattle.text.specs.Page.{joined}
use Rattle.text.proofs.LinesLaws.{number_short, refusal_short, line_fits}
use Rattle.energy_calls.specs.Calls.{told}
use Rattle.energy_calls.specs.declared.calls.Call.{Call}
use Rattle.energy_calls.specs.declared.calls.Call.TheVariants.{Open, Read, Resume, Close, Ask}
use Rattle.replay_lines.specs.Spoken.{call_word, answer_runs}
use Rattle.replay_lines.specs.Facts.{Sized, RecordLineFact, StopLineFact}

-- ` resume ` is the longest
word_short : (a : Call) → length (call_word a) ≤ 8
word_short (Open o) = omega arith
word_short (Read q) = omega arith
word_short (Resume q) = omega arith
word_short Close = omega arith
word_short Ask = omega arith

answer_short : (x : Result (Option ℕ) Refusal) → Sized x → length (joined (answer_runs (told x))) ≤ 28
answer_short (Ok None) h = omega arith
answer_short (Ok (Some t)) h = simp length-append (omega (arith, number_short t h))
answer_short (Err r) h = simp length-append (omega (arith, refusal_short r.0 h))

pub record_line_fact : RecordLineFact
record_line_fact p n a x hp hn hx =
    line_fits 76 _
    (simp length-append (omega (arith, number_short p hp, word_short a, number_short n hn, answer_short x hx)))

pub stop_line_fact : StopLineFact
stop_line_fact p h = line_fits 29 _ (simp length-append (omega (arith, number_short p h)))
