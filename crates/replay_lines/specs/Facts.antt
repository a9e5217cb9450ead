-- What is proved of the lines: those of open channels, for any 64 channels, and that of a record and of a stop. Each record is one theorem,
-- to be read without its proof; proofs/OpenFact.antt and proofs/LineFits.antt have the proofs, under the same names with underscores.
-- Assumes nothing.
use Rattle.std.specs.Prelude.{ℕ, ◌+◌, ◌^◌, ◌≤◌, ◌<◌, ◌≡◌, true, false, Option, Some, None, Result, Ok, Err, List, [], ◌++◌, length, get_or, take, drop}
use Rattle.words.specs.declared.answers.Refusal.{Refusal}
use Rattle.text.specs.Page.{joined}
use Rattle.text.specs.Facts.{LineFits}
use Rattle.energy_calls.specs.Calls.{told}
use Rattle.energy_calls.specs.declared.calls.Call.{Call}
use Rattle.energy_channel.specs.Channel.{closed, is_open}
use Rattle.energy_channel.specs.declared.channel.Channel.{Channel}
use Rattle.replay_lines.specs.Spoken.{record_runs, stop_runs, open_runs, open_below, open_text, longest, open_number, open_left}

-- The lines go by channel, in rising order and each once: a channel that is not open adds nothing, every other adds its line.
pub record BelowFact (cs : List Channel) (k : ℕ) : Type 0 where
  pub starts : open_below cs 0 ≡ []
  pub shut : is_open (get_or cs k closed) ≡ false → open_below cs (k + 1) ≡ open_below cs k
  pub there : is_open (get_or cs k closed) ≡ true → open_below cs (k + 1) ≡ open_below cs k ++ joined (open_runs k (get_or cs k closed))

-- The text is never longer than the longest, so a page that is taken shows it whole, and behind it what stood there.
pub record OpenFact (cs : List Channel) : Type 0 where
  pub fits : length (open_text cs) ≤ longest
  pub shows : (xs : List ℕ) → open_number xs ≡ 0 → take (length (open_text cs)) (open_left xs cs) ≡ open_text cs
  pub keeps : (xs : List ℕ) → open_number xs ≡ 0 → drop (length (open_text cs)) (open_left xs cs) ≡ drop (length (open_text cs)) xs

-- An answer as the code has it: a total of 64 bits, a refusal's number of 8.
abbrev pub Sized : Result (Option ℕ) Refusal → Type 0
Sized (Ok None) = Unit {0}
Sized (Ok (Some t)) = t < 2 ^ 64
Sized (Err r) = r.0 < 2 ^ 8

-- (LineFits, that a page so long shows the line whole: crate text, specs/Facts.) The line of a record has at most 76 bytes: its words and line feed 16, the place, the channel and the total 20 each.
abbrev pub RecordLineFact : Type 0
RecordLineFact = (p n : ℕ) (a : Call) (x : Result (Option ℕ) Refusal) → p < 2 ^ 64 → n < 2 ^ 64 → Sized x → LineFits 76 (record_runs p n a (told x))

-- The line of a stop has at most 29: its word and line feed 9, the place 20.
abbrev pub StopLineFact : Type 0
StopLineFact = (p : ℕ) → p < 2 ^ 64 → LineFits 29 (stop_runs p)
