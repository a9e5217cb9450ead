-- What is proved of the layout of an input, for every input. To be read without its proof, which is in proofs/LayoutFact.antt.
-- Assumes nothing.
use Rattle.std.specs.Prelude.{ℕ, ◌≤◌, ◌≡◌, ◌↔◌, true, List, length}
use Rattle.list_input.specs.Layout.{first_of, second_of, end_of, readable, config_in, low_in, high_in}

-- An input is readable exactly if neither length is above 65,536 and it has all the bytes that it speaks of. Then its parts have the
-- lengths that it says.
pub record LayoutFact (s : List ℕ) : Type 0 where
  pub exactly : (readable s ≡ true) ↔ ((first_of s ≤ 65536) × (second_of s ≤ 65536) × (end_of s ≤ length s))
  pub config : readable s ≡ true → length (config_in s) ≡ 4096
  pub low : readable s ≡ true → length (low_in s) ≡ first_of s
  pub high : readable s ≡ true → length (high_in s) ≡ second_of s
