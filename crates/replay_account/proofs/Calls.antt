-- How a replay stands at its end, and records that say calls, replayed.
-- Assumes nothing.
use Prim.Native.Nat.{ℕ, zero, suc, ◌+◌, ◌≤◌}
use mathlib.Core.Path.{◌≡◌, refl, sym, ap, subst, ◌∙◌}
use mathlib.Core.Bool.{true, false}
use mathlib.Core.List.{List, [], ◌∷◌, ◌++◌, flatten}
use native.Mathlib.Omega.{arith}
use lib.ListN.{length, length-append}
use borrow.Author.Tests.{le-ltb}
use Rattle.words.specs.Answers.{Answer}
use Rattle.energy_hall.specs.Hall.{Named, answer_on, leaves_on, answers_to, leaves_all}
use Rattle.records.specs.Partial.{rule_of, begun, halted, is_stopped}
use Rattle.records.specs.Machine.{Done, and_then, ran, Reader, reader, keeps, moved}
use Rattle.records.proofs.Cuts.{ran_append}
use Rattle.records.proofs.PartialLaws.{cannot_stopped, stopped_said, stopped_place, stopped_held}
use Rattle.records.proofs.Theorems.{reads, end_fact}
use Rattle.records.specs.declared.partial.Partial.{Partial}
use Rattle.replay_trace.specs.Trace.{lengths, Says, says, says_of}
use Rattle.replay_trace.proofs.Theorems.{call_trips, record_trips}
use Rattle.replay_steps.specs.Steps.{most_bytes, rule, Replied, acts_on, acts, fed, replayed, Told, nothing_yet, stops, stand, step_by, end_of}
use Rattle.replay_account.specs.Replay.{calls_in, answers_in, Say}
use Rattle.replay_account.specs.Facts.{CallsReplayed, CallsFact, WrittenSay, OldRecords}
use Rattle.energy_channel.specs.declared.channel.Channel.{Channel}

-- ---- how it stands

-- stopped at its place
pub stops_halted : (p : Partial) → stand (halted p) ≡ stops p.place
unfolding stand
stops_halted p = rw (go p.held refl)
  where
    go : (h : ℕ) → p.held ≡ h → is_stopped (rule_of lengths most_bytes) (halted p) ≡ true
    go zero e = sym (stopped_said (rule_of lengths most_bytes) (halted p) e refl)
    go (suc h) e =
        let some : p.held ≡ 0 → ⊥ = λ x. omega (arith, x, e) in
        sym (cannot_stopped (rule_of lengths most_bytes) (halted p) _ refl ∙ stopped_held (rule_of lengths most_bytes) (halted p) some)

-- with nothing held, and not past the largest trace
begun_free : (place : ℕ) → place ≤ most_bytes → is_stopped (rule_of lengths most_bytes) (begun place) ≡ false
begun_free place l = sym (stopped_place (rule_of lengths most_bytes) (begun place) refl refl) ∙ le-ltb most_bytes place l

-- not stopped
pub stands_free : (p : Partial) → is_stopped (rule_of lengths most_bytes) p ≡ false → stand p ≡ nothing_yet
unfolding stand
stands_free p e = rw e

pub begun_stands : (place : ℕ) → place ≤ most_bytes → stand (begun place) ≡ nothing_yet
begun_stands place l = stands_free (begun place) (begun_free place l)

-- the end of a trace that is whole
pub good_end : (cs : List Channel) (place : ℕ) → place ≤ most_bytes
    → end_of (reader cs (begun place)) ≡ record { state = reader cs (begun place); used = 0; outcome = nothing_yet }
unfolding end_of
good_end cs place l =
    ap (λ (p : Partial). step_by 0 (keeps cs p)) ((end_fact (rule_of lengths most_bytes) (begun place)).clean (begun_free place l) refl)
    ∙ ap (λ (t : Told). record { state = reader cs (begun place); used = 0; outcome = t }) (begun_stands place l)

-- ---- calls

-- the replies of calls one by one
abbrev pub replies : List Channel → List Named → List Replied
replies cs [] = []
replies cs (x ∷ xs) = record { said = x; answer = answer_on cs x.channel x.call } ∷ replies (leaves_on cs x.channel x.call) xs

pub replies_calls : (cs : List Channel) (xs : List Named) → calls_in (replies cs xs) ≡ xs
replies_calls cs [] = refl
replies_calls cs (x ∷ xs) = ap (λ (l : List Named). x ∷ l) (replies_calls (leaves_on cs x.channel x.call) xs)

pub replies_answers : (cs : List Channel) (xs : List Named) → answers_in (replies cs xs) ≡ answers_to cs xs
replies_answers cs [] = refl
replies_answers cs (x ∷ xs) =
    ap (λ (l : List Answer). answer_on cs x.channel x.call ∷ l) (replies_answers (leaves_on cs x.channel x.call) xs)

-- one record
pub one_call : (cs : List Channel) (place : ℕ) (r : List ℕ) (x : Named) → says_of r ≡ says x → place + length r ≤ most_bytes
    → replayed (reader cs (begun place)) r ≡ moved (acts_on cs (says x)) place (length r)
unfolding acts
one_call cs place r x s l =
    (reads rule acts).whole cs place r (((record_trips r).whole most_bytes).1 (x, s)) l
    ∙ ap (λ (m : Says). moved (acts_on cs m) place (length r)) s

pub replay_calls : (cs : List Channel) (place : ℕ) (xs : List Named) (rs : List (List ℕ)) → Say rs xs → place + length (flatten rs) ≤ most_bytes
    → replayed (reader cs (begun place)) (flatten rs)
    ≡ record { state = reader (leaves_all cs xs) (begun (place + length (flatten rs))); answers = replies cs xs }
unfolding ran flatten
replay_calls cs place [] [] s l = ap (λ (n : ℕ). record { state = reader cs (begun n); answers = [] }) (omega arith)
replay_calls cs place [] (r ∷ rs) s l = absurd s
replay_calls cs place (x ∷ xs) [] s l = absurd s
replay_calls cs place (x ∷ xs) (r ∷ rs) s l =
    let n = length r in
    let both : length (r ++ flatten rs) ≡ n + length (flatten rs) = length-append r (flatten rs) in
    let left = leaves_on cs x.channel x.call in
    let first : place + n ≤ most_bytes = omega (arith, l, both) in
    let later : place + n + length (flatten rs) ≤ most_bytes = omega (arith, l, both) in
    let end : place + n + length (flatten rs) ≡ place + length (r ++ flatten rs) = omega (arith, both) in
    ran_append fed (reader cs (begun place)) r (flatten rs)
    ∙ ap (λ (d : Done (Reader (List Channel)) Replied). and_then d (replayed d.state (flatten rs))) (one_call cs place r x s.0 first)
    ∙ ap (and_then (moved (acts_on cs (says x)) place n)) (replay_calls left (place + n) xs rs s.1 later)
    ∙ ap (λ (k : ℕ). record { state = reader (leaves_all left xs) (begun k); answers = replies cs (x ∷ xs) }) end

pub written_say : WrittenSay
written_say [] s = tt
written_say (x ∷ xs) s = ((call_trips x).read s.0, written_say xs s.1)

pub old_records : OldRecords
old_records [] [] s o = tt
old_records [] (x ∷ xs) s o = absurd s
old_records (r ∷ rs) [] s o = absurd s
old_records (r ∷ rs) (x ∷ xs) s o = ((record_trips r).old o.0 x s.0, old_records rs xs s.1 o.1)

pub calls_fact : CallsFact
calls_fact cs place xs rs ps s e l =
    subst (CallsReplayed cs place (length (flatten rs)) xs)
    (sym ((reads rule acts).cuts (reader cs (begun place)) ps ∙ ap (replayed (reader cs (begun place))) e ∙ replay_calls cs place xs rs s l))
    (record {
      made = replies_calls cs xs;
      answers = replies_answers cs xs;
      leaves = refl;
      ends = good_end (leaves_all cs xs) (place + length (flatten rs)) l;
    })
