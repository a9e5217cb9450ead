-- What is proved of the whole listing, for every input. Each is to be read without its proof; proofs/ListingFact.antt has the proofs, under
-- the same names with underscores.
-- Assumes nothing.
use Rattle.std.specs.Prelude.{ℕ, ◌+◌, ◌≤◌, ◌≡◌, ◌≢◌, Bool, true, false, not, List, [], ◌∷◌, ◌++◌, eqb, length, take, drop}
use Rattle.fields.specs.Masks.{one, how_many}
use Rattle.list_input.specs.Layout.{readable}
use Rattle.tpmi_banks.specs.Faults.{bank_in, empty_bank}
use Rattle.tpmi_discovery.specs.Table.{bar_of, table_of, entries_of}
use Rattle.tpmi_discovery.specs.Discovery.{discovery_number}
use Rattle.list_lines.specs.Listing.{capture_in}
use Rattle.list_lines.specs.Line.{line_of}
use Rattle.list_output.specs.Output.{line_text, lines_below, refused_text, unreadable_text, text_of, longest, list_number, page_left}

-- how many lines a text has: its line feeds
abbrev pub feeds : List ℕ → ℕ
feeds [] = 0
feeds (g ∷ gs) = one (eqb g 10) + feeds gs

-- entry k of the table at t is a feature
abbrev pub a_feature : List ℕ → ℕ → ℕ → Bool
a_feature s t k = not (empty_bank (bank_in s t k))

-- The lines of a table: entry after entry in table order, each once. An empty entry adds nothing, every other adds its line, and there are
-- as many lines as entries that are not empty.
pub record LinesFact (s : List ℕ) (t k : ℕ) : Type 0 where
  pub starts : lines_below s t 0 ≡ []
  pub empty : a_feature s t k ≡ false → lines_below s t (k + 1) ≡ lines_below s t k
  pub feature : a_feature s t k ≡ true → lines_below s t (k + 1) ≡ lines_below s t k ++ line_text (line_of s t k)
  pub as_many : feeds (lines_below s t k) ≡ how_many (a_feature s t) k

-- What is written for an input: the line `unreadable`, the line of the refusal, or the lines of all entries of the table. It is never longer
-- than the longest listing, so a page that is taken shows it whole, and behind it what stood there.
pub record ListingFact (s : List ℕ) : Type 0 where
  pub unreadable : readable s ≡ false → text_of s ≡ unreadable_text
  pub refused_by : readable s ≡ true → discovery_number (capture_in s) ≢ 0 → text_of s ≡ refused_text (discovery_number (capture_in s))
  pub accepted : readable s ≡ true → discovery_number (capture_in s) ≡ 0
      → text_of s ≡ lines_below (bar_of (capture_in s)) (table_of (capture_in s)) (entries_of (capture_in s))
  pub fits : length (text_of s) ≤ longest
  pub shows : (xs : List ℕ) → list_number xs ≡ 0 → take (length (text_of s)) (page_left xs s) ≡ text_of s
  pub keeps : (xs : List ℕ) → list_number xs ≡ 0 → drop (length (text_of s)) (page_left xs s) ≡ drop (length (text_of s)) xs
