-- Laws of a step of the replay, one for each way through it. The table is the one that the code lends, which is the trace's.
-- Assumes nothing.
use Prim.Native.Nat.{ℕ, ◌+◌, ◌≤◌}
use mathlib.Core.Path.{◌≡◌, refl, sym, ap, ap₂, subst, ◌∙◌}
use mathlib.Core.Bool.{Bool, true, false}
use mathlib.Core.List.{List}
use lib.ListN.{take}
use Rattle.words.specs.Answers.{Answer}
use Rattle.energy_hall.specs.Hall.{Named, answer_on, leaves_on}
use Rattle.records.specs.Partial.{rule_of, begun, is_stopped, ended_of, gathered}
use Rattle.records.specs.Machine.{Reader, reader, keeps, moved, after_by}
use Rattle.records.specs.Facts.{Gathers}
use Rattle.records.proofs.Theorems.{gathers}
use Rattle.replay_trace.specs.Trace.{lengths, Says, says, says_of}
use Rattle.replay_trace.proofs.TraceLaws.{lent, lengths_are}
use Rattle.energy_channel.specs.declared.channel.Channel.{Channel}
use Rattle.records.specs.declared.partial.Partial.{Partial}
use Rattle.records.specs.declared.partial.Gathered.{Gathered}
use Rattle.replay_steps.specs.Steps.{most_bytes, rule, acts_on, acts, Told, nothing_yet, replied, stops, stand, Step, step_by, step_of, end_of}

-- ---- no record was whole

module _ (n : ℕ) (cs : List Channel) (p : Partial) where
  abbrev come : Told → Step
  come t = record { state = reader cs p; used = n; outcome = t }

  by_table : (b : Bool) → b ≡ is_stopped (rule_of lent most_bytes) p → is_stopped (rule_of lengths most_bytes) p ≡ b
  by_table b e = ap (λ (t : List ℕ). is_stopped (rule_of t most_bytes) p) lengths_are ∙ sym e

  pub stands_stopped : (b : Bool) → b ≡ is_stopped (rule_of lent most_bytes) p → b ≡ true → come (stops p.place) ≡ step_by n (keeps cs p)
  unfolding stand
  stands_stopped b e t = ap come (rw (by_table b e ∙ t) refl)

  pub stands_yet : (b : Bool) → b ≡ is_stopped (rule_of lent most_bytes) p → b ≡ false → come nothing_yet ≡ step_by n (keeps cs p)
  unfolding stand
  stands_yet b e t = ap come (rw (by_table b e ∙ t) refl)

-- ---- a record was whole

pub acted : (n : ℕ) (cs : List Channel) (p : Partial) (m : Says) → m ≡ says_of (take p.held p.bytes)
    → step_by n (moved (acts_on cs m) p.place p.held) ≡ step_by n (after_by acts cs true p)
unfolding acts
acted n cs p m e = ap (λ (x : Says). step_by n (moved (acts_on cs x) p.place p.held)) e

-- the call was made, and what it answered and left is what the definition says
pub replies : (n : ℕ) (cs : List Channel) (p : Partial) (x : Named) (came : Answer) (left : List Channel) (next : Partial)
    → came ≡ answer_on cs x.channel x.call → left ≡ leaves_on cs x.channel x.call → next ≡ begun (p.place + p.held)
    → record { state = reader left next; used = n; outcome = replied (record { said = x; answer = came }) }
    ≡ step_by n (moved (acts_on cs (says x)) p.place p.held)
replies n cs p x came left next e f g =
    ap₂ (λ (a : Answer) (h : Reader (List Channel)). record { state = h; used = n; outcome = replied (record { said = x; answer = a }) }) e (ap₂ reader f g)

-- ---- a piece

module _ (h : Reader (List Channel)) (xs : List ℕ) (g : Gathered) (e : g ≡ gathered (rule_of lent most_bytes) 0 h.partial xs) where
  abbrev cs : List Channel
  cs = h.content

  came : g ≡ gathered (rule cs) 0 h.partial xs
  came = e ∙ ap (λ (t : List ℕ). gathered (rule_of t most_bytes) 0 h.partial xs) (sym lengths_are)

  facts : Gathers rule acts cs h.partial xs
  facts = gathers rule acts cs h.partial xs

  pub small : g.whole ≡ true → (g.partial.held ≤ 32) × (g.partial.place + g.partial.held ≤ most_bytes)
  small w = subst (λ (x : Gathered). x.whole ≡ true → (x.partial.held ≤ 32) × (x.partial.place + x.partial.held ≤ most_bytes)) (sym came) facts.small w

  pub step_came : (b : Bool) → g.whole ≡ b → step_by g.used (after_by acts cs b g.partial) ≡ step_of h xs
  unfolding step_of
  step_came b w =
      let f = gathered (rule cs) 0 h.partial xs in
      let whole : f.whole ≡ b = sym (ap (λ (x : Gathered). x.whole) came) ∙ w in
      ap (λ (x : Gathered). step_by x.used (after_by acts cs b x.partial)) came
      ∙ ap₂ step_by facts.used (ap (λ (v : Bool). after_by acts cs v f.partial) (sym whole) ∙ facts.does)

-- ---- the end

pub ended : (h : Reader (List Channel)) (p : Partial) → p ≡ ended_of (rule_of lent most_bytes) h.partial → step_by 0 (keeps h.content p) ≡ end_of h
unfolding end_of
ended h p e =
    ap (λ (q : Partial). step_by 0 (keeps h.content q)) (e ∙ ap (λ (t : List ℕ). ended_of (rule_of t most_bytes) h.partial) (sym lengths_are))
