-- What is proved of the reading rule, for any table of kinds and lengths, any limit and any action of a whole record. `Reads` is one theorem,
-- to be read without its proof; proofs/Theorems.antt has the proof, `reads`.
-- Assumes nothing.
use Rattle.std.specs.Prelude.{ℕ, ◌+◌, ◌≤◌, ◌<◌, ◌≡◌, ◌⊎◌, ◌↔◌, ◌≢◌, true, false, length, get_or, take, drop}
use mathlib.Core.List.{List, [], ◌∷◌, ◌++◌, flatten}
use Rattle.records.specs.declared.partial.Partial.{Partial}
use Rattle.records.specs.Partial.{Rule, length_of, halted, begun, is_stopped, ended_of, gathered, up_to}
use Rattle.records.specs.Machine.{ran, in_pieces, Reader, reader, Acted, keeps, moved, after_by, fed_by, steps_by, done_by}

-- r is a whole record by the rule: as many bytes as its kind, the first one, says.
pub record IsRecord (u : Rule) (r : List ℕ) : Type 0 where
  pub some : 0 < length r
  pub long : length_of u.table (get_or r 0 0) ≡ length r

-- Each of the records is whole by the rule that holds when its turn comes, and the reading goes on after it.
abbrev pub AllGo : {C A : Type 0} → (C → Rule) → (C → List ℕ → Acted C A) → C → List (List ℕ) → Type 0
AllGo rule act c [] = Unit {0}
AllGo rule act c (r ∷ rs) = IsRecord (rule c) r × ((act c r).goes ≡ true) × AllGo rule act (act c r).content rs

-- And each ends within the limit that holds then, the first one beginning at a place.
abbrev pub AllFit : {C A : Type 0} → (C → Rule) → (C → List ℕ → Acted C A) → C → ℕ → List (List ℕ) → Type 0
AllFit rule act c place [] = Unit {0}
AllFit rule act c place (r ∷ rs) =
    (place + length r ≤ (rule c).limit) × AllFit rule act (act c r).content (place + length r) rs

-- The bytes ys are held of a record that starts at a place, and nothing is stopped.
pub record Holds (place : ℕ) (ys : List ℕ) (p : Partial) : Type 0 where
  pub starts : p.place ≡ place
  pub held : p.held ≡ length ys
  pub bytes : take (length ys) p.bytes ≡ ys
  pub goes : p.stopped ≡ false

pub record Reads {C A : Type 0} (rule : C → Rule) (act : C → List ℕ → Acted C A) : Type 0 where
  -- Any cuts do what one piece does: the same answers in the same order, and the same end.
  pub cuts : (s : Reader C) (ps : List (List ℕ)) → in_pieces (fed_by rule act) s ps ≡ ran (fed_by rule act) s (flatten ps)
  -- So does step after step on a piece, each up to the end of the first record that is whole then.
  pub steps : (s : Reader C) (xs : List ℕ) (turns : ℕ) → length xs ≤ turns → steps_by rule act turns s xs ≡ ran (fed_by rule act) s xs
  -- A whole record does what it stands for, and the reading goes on behind it or stops at its start, as the action says.
  pub whole : (c : C) (place : ℕ) (r : List ℕ) → IsRecord (rule c) r → place + length r ≤ (rule c).limit
      → ran (fed_by rule act) (reader c (begun place)) r ≡ moved (act c r) place (length r)
  -- A run of whole records is the run of their actions.
  pub records : (c : C) (place : ℕ) (rs : List (List ℕ)) → AllGo rule act c rs → AllFit rule act c place rs
      → ran (fed_by rule act) (reader c (begun place)) (flatten rs) ≡ done_by act c place rs
  -- The front of a record is held, with no answer; and the end declared then stops at its start.
  pub unfinished : (c : C) (place : ℕ) (xs ys : List ℕ) → IsRecord (rule c) (xs ++ ys) → 0 < length xs → 0 < length ys
      → place + length (xs ++ ys) ≤ (rule c).limit
      → (p : Partial) × (ran (fed_by rule act) (reader c (begun place)) xs ≡ keeps c p) × Holds place xs p × (is_stopped (rule c) p ≡ false) × (ended_of (rule c) p ≡ halted p)
  -- An unknown kind stops at its byte, whatever comes after it,
  pub unknown : (c : C) (place k : ℕ) (xs : List ℕ) → length_of (rule c).table k ≡ 0
      → ran (fed_by rule act) (reader c (begun place)) (k ∷ xs) ≡ keeps c (halted (begun place))
  -- and so does a record that would end past the limit.
  pub late : (c : C) (place k : ℕ) (xs : List ℕ) → (rule c).limit < place + length_of (rule c).table k
      → ran (fed_by rule act) (reader c (begun place)) (k ∷ xs) ≡ keeps c (halted (begun place))
  -- After a stop nothing changes, and a state that no reading leaves is stopped at its place by the first byte that comes.
  pub ignored : (c : C) (p : Partial) (xs : List ℕ) → p.stopped ≡ true → ran (fed_by rule act) (reader c p) xs ≡ keeps c p
  pub refused : (c : C) (p : Partial) (x : ℕ) (xs : List ℕ) → is_stopped (rule c) p ≡ true → ran (fed_by rule act) (reader c p) (x ∷ xs) ≡ keeps c (halted p)

-- What gathering a piece comes to. It uses the bytes in front of the piece up to the end of the first record that is whole then, all where none
-- is, and one at least where there is one; and they do what they do when they are fed one by one.
pub record Gathers {C A : Type 0} (rule : C → Rule) (act : C → List ℕ → Acted C A) (c : C) (p : Partial) (xs : List ℕ) : Type 0 where
  pub used : (gathered (rule c) 0 p xs).used ≡ length (up_to (rule c) p xs)
  pub front : up_to (rule c) p xs ++ drop (gathered (rule c) 0 p xs).used xs ≡ xs
  pub some : 0 < length xs → 0 < (gathered (rule c) 0 p xs).used
  pub all : (gathered (rule c) 0 p xs).whole ≡ false → (gathered (rule c) 0 p xs).used ≡ length xs
  pub does : after_by act c (gathered (rule c) 0 p xs).whole (gathered (rule c) 0 p xs).partial ≡ ran (fed_by rule act) (reader c p) (up_to (rule c) p xs)
  pub small : (gathered (rule c) 0 p xs).whole ≡ true
      → ((gathered (rule c) 0 p xs).partial.held ≤ 32) × ((gathered (rule c) 0 p xs).partial.place + (gathered (rule c) 0 p xs).partial.held ≤ (rule c).limit)

-- Stopped, or a state that no reading leaves: with nothing held a place past the limit; else as many bytes held as the record has or more (an
-- unknown kind's has none), or a record that would end past the limit.
abbrev pub Stops : Rule → Partial → Type 0
Stops u p =
    let n = length_of u.table (get_or p.bytes 0 0) in
    (p.stopped ≡ true) ⊎ (((p.held ≡ 0) × (u.limit < p.place)) ⊎ ((p.held ≢ 0) × ((n ≤ p.held) ⊎ (u.limit < p.place + n))))

abbrev pub StoppedFact : Type 0
StoppedFact = (u : Rule) (p : Partial) → (is_stopped u p ≡ true) ↔ Stops u p

-- Declaring the end stops exactly if something is held or the reading is stopped, at the record's start, and else changes nothing.
pub record EndFact (u : Rule) (p : Partial) : Type 0 where
  pub stops : (is_stopped u p ≡ true) ⊎ (p.held ≢ 0) → ended_of u p ≡ halted p
  pub clean : is_stopped u p ≡ false → p.held ≡ 0 → ended_of u p ≡ p
  pub exactly : ((ended_of u p).stopped ≡ true) ↔ ((is_stopped u p ≡ true) ⊎ (p.held ≢ 0))
