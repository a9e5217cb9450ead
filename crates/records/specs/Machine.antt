-- A machine that reads records: what it holds, what a byte, a run of bytes, pieces and whole records do to it, and what it answers on the
-- way. Its rule may hang on what the records so far have made, and a whole record's action is any.
--   Done S A               a state, and what was answered on the way to it, in order
--   and_then d e            d, then e
--   ran feed s bs          the bytes bs one by one, from the state s
--   in_pieces feed s ps     the pieces ps one after the other
--   Reader C, reader c p   what the records so far have made, and the record that is being put together
--   Acted C A              what a whole record makes and answers, and whether the reading goes on after it
--   keeps c p              nothing was answered
--   moved a place n        a record of n bytes at a place was done
--   after_by act c w p      the record p, done where it is whole
--   fed_by rule act         one byte more
--   steps_by rule act       step after step on a piece, each up to the end of the first record that is whole then
--   done_by act c place rs  the actions of the records rs one by one, the first one at a place
-- Assumes nothing.
use Rattle.std.specs.Prelude.{ℕ, zero, suc, ◌+◌, Bool, cond, List, [], ◌∷◌, ◌++◌, length, take, drop}
use Rattle.records.specs.declared.partial.Partial.{Partial}
use Rattle.records.specs.Partial.{Rule, halted, begun, took_of, is_whole, up_to}

-- ---- bytes and pieces, of any machine

pub record Done (S : Type 0) (A : Type 0) : Type 0 where
  pub state : S
  pub answers : List A

abbrev pub and_then : {S A : Type 0} → Done S A → Done S A → Done S A
and_then d e = record { state = e.state; answers = d.answers ++ e.answers }

unfoldable pub ran : {S A : Type 0} → (S → ℕ → Done S A) → S → List ℕ → Done S A
ran feed s [] = record { state = s; answers = [] }
ran feed s (b ∷ bs) = and_then (feed s b) (ran feed (feed s b).state bs)

unfoldable pub in_pieces : {S A : Type 0} → (S → ℕ → Done S A) → S → List (List ℕ) → Done S A
in_pieces feed s [] = record { state = s; answers = [] }
in_pieces feed s (p ∷ ps) = and_then (ran feed s p) (in_pieces feed (ran feed s p).state ps)

-- ---- records

pub record Reader (C : Type 0) : Type 0 where
  pub content : C
  pub partial : Partial

abbrev pub reader : {C : Type 0} → C → Partial → Reader C
reader c p = record { content = c; partial = p }

pub record Acted (C : Type 0) (A : Type 0) : Type 0 where
  pub content : C
  pub answers : List A
  pub goes : Bool

-- what was made, and the record that is being put together, with no answer
abbrev pub keeps : {C A : Type 0} → C → Partial → Done (Reader C) A
keeps c p = record { state = reader c p; answers = [] }

-- a record of n bytes at a place was done: the next one begins where it ends, or the reading stops at its start
abbrev pub moved : {C A : Type 0} → Acted C A → ℕ → ℕ → Done (Reader C) A
moved a place n =
    record { state = reader a.content (cond a.goes (begun (place + n)) (halted (begun place))); answers = a.answers }

-- the record p, done where it is whole
abbrev pub after_by : {C A : Type 0} → (C → List ℕ → Acted C A) → C → Bool → Partial → Done (Reader C) A
after_by act c whole p = cond whole (moved (act c (take p.held p.bytes)) p.place p.held) (keeps c p)

unfoldable pub fed_by : {C A : Type 0} → (C → Rule) → (C → List ℕ → Acted C A) → Reader C → ℕ → Done (Reader C) A
fed_by rule act s b =
    let u = rule s.content in
    let p = took_of u s.partial b in
    after_by act s.content (is_whole u p) p

unfoldable pub steps_by : {C A : Type 0} → (C → Rule) → (C → List ℕ → Acted C A) → ℕ → Reader C → List ℕ → Done (Reader C) A
steps_by rule act zero s xs = record { state = s; answers = [] }
steps_by rule act (suc turns) s xs =
    let ys = up_to (rule s.content) s.partial xs in
    let d = ran (fed_by rule act) s ys in
    and_then d (steps_by rule act turns d.state (drop (length ys) xs))

abbrev pub done_by : {C A : Type 0} → (C → List ℕ → Acted C A) → C → ℕ → List (List ℕ) → Done (Reader C) A
done_by act c place [] = keeps c (begun place)
done_by act c place (r ∷ rs) =
    and_then (moved (act c r) place (length r)) (done_by act (act c r).content (place + length r) rs)
