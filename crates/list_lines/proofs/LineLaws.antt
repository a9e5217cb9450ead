-- What the program says, case by case. Assumes nothing.
use Prim.Native.Nat.{ℕ, ◌*◌}
use Rattle.std.specs.Prelude.{Option, Some, None, MatchOption}
use Rattle.std.proofs.lemmas.Option.{MatchOption-at_some, MatchOption-at_none}
use mathlib.Core.Path.{◌≡◌}
use mathlib.Core.Bool.{true, false}
use mathlib.Core.List.{List, [], ◌∷◌}
use Rattle.words.specs.Bytes.{number_at}
use Rattle.tpmi_banks.specs.Faults.{bank_in, empty_bank}
use Rattle.tpmi_banks.specs.declared.faults.Bank.{Bank}
use Rattle.capture.specs.declared.places.Capture as code
use Rattle.capture.specs.Capture.{capture_of}
use Rattle.capture.specs.Places.{named}
use Rattle.tpmi_discovery.specs.Discovery.{discovery_of}
use Rattle.tpmi_counts.specs.Valid.{valid_count_in}
use Rattle.list_input.specs.Layout.{readable, middle_of, low_in, high_in}
use Rattle.list_lines.specs.Listing.{unreadable, answers, capture_in, listing_of, bar_in}
use Rattle.list_lines.specs.Line.{line_of}

module _ (s : List ℕ) where
  pub says_unreadable : readable s ≡ false → listing_of s ≡ unreadable
  unfolding listing_of
  says_unreadable r = rw r

  pub says_answer : readable s ≡ true → listing_of s ≡ answers (discovery_of (capture_in s))
  unfolding listing_of
  says_answer r = rw r

  pub bar_none : (b : ℕ) → readable s ≡ false → [] ≡ bar_in s b
  unfolding bar_in
  bar_none b r = rw r

  pub bar_there : (b : ℕ) → readable s ≡ true → named b (number_at s 4096 1) (low_in s) (number_at s (middle_of s) 1) (high_in s) ≡ bar_in s b
  unfolding bar_in
  bar_there b r = rw r

  -- what is known of the capture that an input holds
  module _ {o : Option code.Capture} (h : MatchOption o (readable s ≡ false) (λ c. (readable s ≡ true) × (capture_of c ≡ capture_in s))) where
    pub not_held : o ≡ None → readable s ≡ false
    not_held e = MatchOption-at_none (readable s ≡ false) (λ c. (readable s ≡ true) × (capture_of c ≡ capture_in s)) e h

    pub held : {c : code.Capture} → o ≡ Some c → (readable s ≡ true) × (capture_of c ≡ capture_in s)
    held {c} e = MatchOption-at_some (readable s ≡ false) (λ c. (readable s ≡ true) × (capture_of c ≡ capture_in s)) c e h

module _ (s : List ℕ) (t k : ℕ) {b : Bank} (is : b ≡ bank_in s t k) where
  pub line_none : empty_bank b ≡ true → line_of s t k ≡ []
  unfolding line_of
  line_none e = rw (← is, e)

  pub line_there : empty_bank b ≡ false → line_of s t k ≡ b.id ∷ b.instances ∷ valid_count_in s b.start (b.words * 4) b.instances ∷ b.words * 4 ∷ b.start ∷ []
  unfolding line_of
  line_there e = rw (← is, e)
