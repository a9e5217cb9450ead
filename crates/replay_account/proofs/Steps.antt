-- Steps in a row are the replay of the bytes.
-- Assumes nothing.
use Prim.Native.Nat.{ℕ, zero, suc}
use mathlib.Core.Path.{◌≡◌, refl, ap₂, subst, ◌∙◌}
use mathlib.Core.Bool.{Bool, true, false, cond}
use mathlib.Core.List.{List, []}
use lib.ListN.{length, take, drop}
use Rattle.records.specs.Partial.{rule_of, is_stopped, gathered, up_to}
use Rattle.records.specs.Machine.{Done, and_then, Reader, moved, after_by, steps_by}
use Rattle.records.proofs.Theorems.{reads, gathers}
use Rattle.records.specs.declared.partial.Partial.{Partial}
use Rattle.replay_trace.specs.Trace.{lengths, Says, nothing, says, says_of}
use Rattle.replay_steps.specs.Steps.{most_bytes, rule, Replied, acts_on, acts, replayed, nothing_yet, stops, stand, say, step_of}
use Rattle.replay_account.specs.Replay.{reply_in, stepping}
use Rattle.replay_account.specs.Facts.{StepsFact}
use Rattle.energy_channel.specs.declared.channel.Channel.{Channel}

-- ---- a step has at most one reply

no_reply : (p : Partial) → reply_in (stand p) ≡ []
unfolding stand
no_reply p = go (is_stopped (rule_of lengths most_bytes) p)
  where
    go : (b : Bool) → reply_in (cond b (stops p.place) nothing_yet) ≡ []
    go true = refl
    go false = refl

abbrev OneReply : Done (Reader (List Channel)) Replied → Type 0
OneReply d = reply_in (say d) ≡ d.answers

once_on : (cs : List Channel) (m : Says) (place n : ℕ) → OneReply (moved (acts_on cs m) place n)
once_on cs nothing place n = no_reply _
once_on cs (says x) place n = refl

once_after : (cs : List Channel) (w : Bool) (p : Partial) → OneReply (after_by acts cs w p)
unfolding acts
once_after cs true p = once_on cs (says_of (take p.held p.bytes)) p.place p.held
once_after cs false p = no_reply p

one_reply : (h : Reader (List Channel)) (xs : List ℕ) → OneReply (replayed h (up_to (rule h.content) h.partial xs))
one_reply h xs =
    let g = gathered (rule h.content) 0 h.partial xs in
    subst OneReply (gathers rule acts h.content h.partial xs).does (once_after h.content g.whole g.partial)

-- ---- in a row

as_steps : (n : ℕ) (h : Reader (List Channel)) (xs : List ℕ) → stepping n h xs ≡ steps_by rule acts n h xs
unfolding stepping steps_by step_of
as_steps zero h xs = refl
as_steps (suc n) h xs =
    let ys = up_to (rule h.content) h.partial xs in
    let d = replayed h ys in
    ap₂ (λ (rs : List Replied) (e : Done (Reader (List Channel)) Replied). and_then (record { state = d.state; answers = rs }) e) (one_reply h xs) (as_steps n d.state (drop (length ys) xs))

pub steps_fact : StepsFact
steps_fact h xs n l = as_steps n h xs ∙ (reads rule acts).steps h xs n l
