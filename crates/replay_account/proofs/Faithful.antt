-- Whatever the state and the bytes, the replies are those of their calls one by one.
-- Assumes nothing.
use Prim.Native.Nat.{ℕ}
use mathlib.Core.Path.{◌≡◌, refl, sym, ap, ap₂, ◌∙◌}
use mathlib.Core.Bool.{Bool, true, false}
use mathlib.Core.List.{List, [], ◌∷◌, ◌++◌}
use lib.ListN.{take}
use Rattle.words.specs.Answers.{Answer}
use Rattle.energy_hall.specs.Hall.{Named, answers_to, leaves_all}
use Rattle.energy_hall.proofs.Theorems.{in_turn}
use Rattle.records.specs.Partial.{took_of, is_whole}
use Rattle.records.specs.Machine.{Done, and_then, ran, Reader, moved, after_by, fed_by}
use Rattle.records.specs.declared.partial.Partial.{Partial}
use Rattle.replay_trace.specs.Trace.{Says, nothing, says, says_of}
use Rattle.replay_steps.specs.Steps.{rule, Replied, acts_on, acts, fed, replayed}
use Rattle.replay_account.specs.Replay.{calls_in, answers_in}
use Rattle.replay_account.specs.Facts.{Faithful}
use Rattle.energy_channel.specs.declared.channel.Channel.{Channel}

abbrev Faith : List Channel → Done (Reader (List Channel)) Replied → Type 0
Faith cs d = (answers_in d.answers ≡ answers_to cs (calls_in d.answers)) × (d.state.content ≡ leaves_all cs (calls_in d.answers))

-- ---- one byte

faith_on : (cs : List Channel) (m : Says) (place n : ℕ) → Faith cs (moved (acts_on cs m) place n)
faith_on cs nothing place n = (refl, refl)
faith_on cs (says x) place n = (refl, refl)

faith_after : (cs : List Channel) (w : Bool) (p : Partial) → Faith cs (after_by acts cs w p)
unfolding acts
faith_after cs true p = faith_on cs (says_of (take p.held p.bytes)) p.place p.held
faith_after cs false p = (refl, refl)

faith_fed : (h : Reader (List Channel)) (b : ℕ) → Faith h.content (fed h b)
unfolding fed_by
faith_fed h b =
    let p = took_of (rule h.content) h.partial b in
    faith_after h.content (is_whole (rule h.content) p) p

-- ---- a run of bytes

calls_append : (rs ss : List Replied) → calls_in (rs ++ ss) ≡ calls_in rs ++ calls_in ss
calls_append [] ss = refl
calls_append (r ∷ rs) ss = ap (λ (l : List Named). r.said ∷ l) (calls_append rs ss)

answers_append : (rs ss : List Replied) → answers_in (rs ++ ss) ≡ answers_in rs ++ answers_in ss
answers_append [] ss = refl
answers_append (r ∷ rs) ss = ap (λ (l : List Answer). r.answer ∷ l) (answers_append rs ss)

faith_then : (cs : List Channel) (d e : Done (Reader (List Channel)) Replied) → Faith cs d → Faith d.state.content e → Faith cs (and_then d e)
faith_then cs d e f g =
    let ds = d.answers in
    let es = e.answers in
    let i = in_turn cs (calls_in ds) (calls_in es) in (
      answers_append ds es
          ∙ ap₂ (λ (xs ys : List Answer). xs ++ ys) f.0 (g.0 ∙ ap (λ (c : List Channel). answers_to c (calls_in es)) f.1)
          ∙ sym i.answer
          ∙ ap (answers_to cs) (sym (calls_append ds es)),
      g.1 ∙ ap (λ (c : List Channel). leaves_all c (calls_in es)) f.1 ∙ sym i.leave ∙ ap (leaves_all cs) (sym (calls_append ds es)),
    )

faith : (h : Reader (List Channel)) (xs : List ℕ) → Faith h.content (replayed h xs)
unfolding ran
faith h [] = (refl, refl)
faith h (b ∷ bs) = faith_then h.content (fed h b) (replayed (fed h b).state bs) (faith_fed h b) (faith (fed h b).state bs)

pub faithful : (h : Reader (List Channel)) (xs : List ℕ) → Faithful h xs
faithful h xs = record { answers = (faith h xs).0; channels = (faith h xs).1 }
