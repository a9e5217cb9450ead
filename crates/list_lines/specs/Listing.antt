-- What the program `list` says (document 01, "Bench cases"): `unreadable`, a refusal, or the table whose entries it lists.
--   Said             the three things it can say: unreadable, a refusal, the table
--   told             what each case of the code's answer says of these
--   number_said       a refusal's number, 0 where there is none: an unreadable input has none
--   capture_in s      the capture that a readable input holds
--   listing_of s      which of the three an input gives
--   bar_in s b        the BAR capture with the number b, empty where the input is unreadable
-- Assumes nothing.
use Rattle.std.specs.Prelude.{ℕ, cond, List, [], Result, Ok, Err}
use Rattle.words.specs.Answers.{Answer, refused, gives, number_in}
use Rattle.words.specs.Bytes.{number_at}
use Rattle.words.specs.Facts.{Once}
use Rattle.capture.specs.Capture.{Capture, captured}
use Rattle.capture.specs.Places.{named}
use Rattle.list_input.specs.Layout.{readable, middle_of, config_in, low_in, high_in}
use Rattle.tpmi_discovery.specs.Told.{numbers}
use Rattle.tpmi_discovery.specs.Discovery.{discovery_of}
use Rattle.tpmi_discovery.specs.declared.table.Table.{Table}
use Rattle.list_lines.specs.declared.listing.Unlisted.{Unlisted}
use Rattle.list_lines.specs.declared.listing.Unlisted.TheVariants.{Unreadable, Refused}

pub data Said : Type 0 where
  unreadable : Said
  answers : Answer → Said

abbrev pub told : Result Table Unlisted → Said
told (Err Unreadable) = unreadable
told (Err (Refused r)) = answers (refused r.0)
told (Ok t) = answers (gives (numbers t))

abbrev pub number_said : Said → ℕ
number_said unreadable = 0
number_said (answers a) = number_in a

abbrev pub capture_in : List ℕ → Capture
capture_in s = captured (config_in s) (number_at s 4096 1) (low_in s) (number_at s (middle_of s) 1) (high_in s)

unfoldable pub listing_of : List ℕ → Said
listing_of s = cond (readable s) (answers (discovery_of (capture_in s))) unreadable

unfoldable pub bar_in : List ℕ → ℕ → List ℕ
bar_in s b = cond (readable s) (named b (number_at s 4096 1) (low_in s) (number_at s (middle_of s) 1) (high_in s)) []

-- Two answers that say the same are the same.
abbrev pub ToldOnce : Type 0
ToldOnce = Once told
