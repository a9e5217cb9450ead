-- Each theorem of Facts.antt, under its name.
-- Assumes nothing.
use Prim.Native.Nat.{ℕ}
use mathlib.Core.Path.{◌≡◌, sym, ap, ap₂, ◌∙◌}
use mathlib.Core.List.{List, [], ◌∷◌, ◌++◌, flatten}
use native.Mathlib.Omega.{arith}
use borrow.Author.Tests.{le-ltb}
use Rattle.words.specs.Answers.{Answer, first}
use Rattle.energy_channel.specs.Channel.{tests, values}
use Rattle.energy_hall.specs.Hall.{Named, all_closed, tests_on, answer_on, answers_to, leaves_all, hall_total}
use Rattle.energy_hall.proofs.Theorems.{in_turn}
use Rattle.energy_account.specs.Account.{calls}
use Rattle.energy_account.proofs.Demand3 as account
use Rattle.records.specs.Machine.{Done, Reader}
use Rattle.records.proofs.Theorems.{reads}
use Rattle.replay_trace.specs.Trace.{call_on}
use Rattle.replay_steps.specs.Steps.{rule, acts, replayed, begins, Replied}
use Rattle.replay_account.specs.Replay.{calls_in, answers_in}
use Rattle.replay_account.specs.Facts.{Replays, replay_of, ReplayDemand3, ReplayClosing, ReplayHall, OpenTotals}
use Rattle.replay_account.proofs.Faithful.{faithful}
use Rattle.energy_calls.specs.declared.calls.Call.TheVariants.{Close, Ask}
use Rattle.energy_channel.specs.declared.channel.Channel.{Channel}

pub replays : Replays
replays = reads rule acts

-- ---- demand 3

-- what the replay of some pieces answers and leaves, by the calls that it makes
module _ (xs : List Named) (ps : List (List ℕ)) (e : calls_in (replay_of ps).answers ≡ xs) where
  one : replayed begins (flatten ps) ≡ replay_of ps
  one = sym ((reads rule acts).cuts begins ps)

  left : (replay_of ps).state.content ≡ leaves_all all_closed xs
  left =
      ap (λ (d : Done (Reader (List Channel)) Replied). d.state.content) (sym one)
      ∙ (faithful begins (flatten ps)).channels
      ∙ ap (λ (d : Done (Reader (List Channel)) Replied). leaves_all all_closed (calls_in d.answers)) one
      ∙ ap (leaves_all all_closed) e

  answered : answers_in (replay_of ps).answers ≡ answers_to all_closed xs
  answered =
      ap (λ (d : Done (Reader (List Channel)) Replied). answers_in d.answers) (sym one)
      ∙ (faithful begins (flatten ps)).answers
      ∙ ap (λ (d : Done (Reader (List Channel)) Replied). answers_to all_closed (calls_in d.answers)) one
      ∙ ap (answers_to all_closed) e

pub replay_demand3 : ReplayDemand3
replay_demand3 k es ps e f = ap (λ (cs : List Channel). answer_on cs k Ask) (left (calls es) ps e) ∙ account.demand3 k es f

pub replay_closing : ReplayClosing
replay_closing k es later ps e f =
    let xs = calls es in
    let close = call_on k Close in
    answered (xs ++ close ∷ later) ps e
    ∙ (in_turn all_closed xs (close ∷ later)).answer
    ∙ ap₂ (λ (a : Answer) (cs : List Channel). answers_to all_closed xs ++ a ∷ answers_to cs later)
    (account.closing_demand3 k es f)
    (sym (in_turn all_closed xs (close ∷ [])).leave)

pub replay_hall : ReplayHall
replay_hall u es ps e f = ap (λ (cs : List Channel). hall_total cs u) (left (calls es) ps e) ∙ account.hall_demand3 u es f

pub open_totals : OpenTotals
unfolding answer_on tests_on tests values first
open_totals cs k l o = simp (le-ltb 63 k (omega (arith, l)), o)
