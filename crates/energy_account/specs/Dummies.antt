-- The wrong meters of document 01 that fall to demand 3 ("What the stamp certifies"): each accepts and refuses as ours does, and answers
-- the total wrongly.
--   nothing a             the answer a with total 0 in the place of any other
--   zeroed                a meter that always reports total 0
--   heard_later b a        the call a, a reading heard as a resumption where b holds: its count and tick are taken, its rise is not
--   read_since b a         a reading was accepted since the latest accepted opening: after the accepted call a, if b says so before it
--   heard_once k b xs ys   the calls xs, answered by ys, as a meter hears them that keeps only the first reading's rise on channel k: refused
--                         calls, which change nothing, are left out, and after a first accepted reading of channel k since its opening
--                         (b: there has been one) every later one is heard as a resumption
--   first_rise             a meter that keeps only the first reading's rise
--   DummiesFall           what is proved of them
-- Assumes nothing.
use Rattle.std.specs.Prelude.{ℕ, ◌≡◌, Bool, true, false, cond, ◌&&◌, List, [], ◌∷◌, eqb}
use Rattle.words.specs.Answers.{Answer, refused, gives, number_in}
use Rattle.energy_hall.specs.Hall.{Named, all_closed, answers_to}
use Rattle.energy_account.specs.Account.{Event, calls, shut, Supposed}
use Rattle.energy_account.specs.Facts.{history, Asked, ours, Demand3Of}
use Rattle.energy_account.specs.Night.{night}
use Rattle.energy_calls.specs.declared.calls.Call.{Call}
use Rattle.energy_calls.specs.declared.calls.Call.TheVariants.{Open, Read, Resume, Close, Ask}

-- ---- always total 0

abbrev pub nothing : Answer → Answer
nothing (refused n) = refused n
nothing (gives vs) = gives (0 ∷ [])

abbrev pub zeroed : Asked
zeroed xs k = nothing (ours xs k)

-- ---- the first reading's rise only

abbrev pub heard_later : Bool → Call → Call
heard_later b (Open o) = Open o
heard_later b (Read q) = cond b (Resume q) (Read q)
heard_later b (Resume q) = Resume q
heard_later b Close = Close
heard_later b Ask = Ask

abbrev pub read_since : Bool → Call → Bool
read_since b (Open o) = false
read_since b (Read q) = true
read_since b (Resume q) = b
read_since b Close = b
read_since b Ask = b

abbrev pub heard_once : ℕ → Bool → List Named → List Answer → List Named
heard_once k b [] ys = []
heard_once k b (x ∷ xs) [] = []
heard_once k b (x ∷ xs) (refused n ∷ ys) = heard_once k b xs ys
heard_once k b (x ∷ xs) (gives vs ∷ ys) =
    record { channel = x.channel; call = heard_later (b && eqb x.channel k) x.call } ∷
    heard_once k (cond (eqb x.channel k) (read_since b x.call) b) xs ys

abbrev pub first_rise : Asked
first_rise xs k = ours (heard_once k false xs (answers_to all_closed xs)) k

-- Both refuse exactly as ours does. A meter that keeps demand 3 answers as ours does wherever the supposition is met; so neither of the two
-- keeps it: the worked night's total is not 0, and not the rise into its first reading, 32, which is all that the second answers there.
pub record DummiesFall : Type 0 where
  pub zeroed_refuses : (xs : List Named) (k : ℕ) → number_in (zeroed xs k) ≡ number_in (ours xs k)
  pub first_rise_refuses : (xs : List Named) (k : ℕ) → number_in (first_rise xs k) ≡ number_in (ours xs k)
  pub first_rise_night : first_rise (calls night) 3 ≡ gives (32 ∷ [])
  pub as_ours : (ask : Asked) → Demand3Of ask → (k : ℕ) (es : List Event) → Supposed shut (history k es) → ask (calls es) k ≡ ours (calls es) k
  pub zeroed_falls : Demand3Of zeroed → ⊥
  pub first_rise_falls : Demand3Of first_rise → ⊥
