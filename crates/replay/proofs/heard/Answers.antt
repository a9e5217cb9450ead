-- `heard` ends, since a step uses at least one byte of what is left of the piece, and leaves the replay of the piece: what is left of it, replayed
-- from the state so far, comes to the same. Assumes nothing.
use Prim.Native.Nat.{ℕ, ◌≤◌, ◌<◌}
use mathlib.Core.Path.{◌≡◌, sym, ap, ◌∙◌}
use mathlib.Core.List.{List, []}
use Rattle.std.proofs.Common.{rules}
use Rattle.std.proofs.lemmas.List.{nil_from_length}
use native.Mathlib.Omega.{arith}
use lib.ListN.{length, drop}
use Rattle.records.specs.Partial.{up_to}
use Rattle.records.specs.Machine.{Done, ran, Reader}
use Rattle.records.proofs.Cuts.{ran_append}
use Rattle.records.proofs.Pieces.{up_to_front, up_to_within, up_to_some}
use Rattle.energy_channel.specs.declared.channel.Channel.{Channel}
use Rattle.replay_steps.specs.Steps.{reader_of, rule, Replied, fed, replayed, Step, step_of}
use Rattle.replay.proofs.heard.Goals as goal

-- what a step uses of some bytes
uses : (h : Reader (List Channel)) (xs : List ℕ) {s : Step} → s ≡ step_of h xs → 0 < length xs → (0 < s.used) × (s.used ≤ length xs)
unfolding step_of
uses h xs e some =
    let u = ap (λ (t : Step). t.used) e in
    (omega (arith, u, up_to_some (rule h.content) h.partial xs some), omega (arith, u, up_to_within (rule h.content) h.partial xs))

-- a step, and then what is left, is the replay of both
onward : (h : Reader (List Channel)) (xs : List ℕ) {s : Step} → s ≡ step_of h xs → (replayed s.state (drop s.used xs)).state ≡ (replayed h xs).state
unfolding step_of
onward h xs e =
    let ys = up_to (rule h.content) h.partial xs in
    ap (λ (t : Step). (replayed t.state (drop t.used xs)).state) e
    ∙ ap (λ (d : Done (Reader (List Channel)) Replied). d.state) (sym (ran_append fed h ys (drop (length ys) xs)))
    ∙ ap (λ (zs : List ℕ). (replayed h zs).state) (up_to_front (rule h.content) h.partial xs)

pub split_at-requires : goal.split_at-requires
split_at-requires g c = (uses _ _ c.step-r.ensures.answer (search rules)).1

pub loop-rest-smaller : goal.loop-rest-smaller
loop-rest-smaller g c = omega (arith, c.split_at.ensures.back_len, (uses _ _ c.step-r.ensures.answer (search rules)).0)

pub loop-rest-preserved : goal.loop-rest-preserved
loop-rest-preserved g c =
    ap (λ (xs : List ℕ). (replayed (reader_of c.step-r.result.state) xs).state) c.split_at.ensures.back ∙ onward _ _ c.step-r.ensures.answer ∙ c.loop-rest.invariant

pub returns : goal.returns
unfolding ran
returns g c =
    let xs = c.loop-rest.rest.now in
    let none : xs ≡ [] = nil_from_length xs (search rules) in
    record { kept = ap (λ (ys : List ℕ). (replayed (reader_of c.loop-rest.state) ys).state) (sym none) ∙ c.loop-rest.invariant }
