-- A restart is not a turnover (document 02, request 4): where the meter is document 01's as before, and what document 01 alone made of the
-- worked night's restart.
--   tests01 c a       document 01's tests of a call on one channel, in their order (12 comes before them)
--   OneBoot           calls that all carry one boot number are refused as document 01 alone says
--   bare_seen q        what is seen, with boot number 0;   bare a, bare_calls xs   a call so, and some calls
--   answering01       what document 01's meter answers to some calls: ours, told no boot number
--   document01        what it answers then when it is asked for a total
--   OwnDemand3        demand 3 of any meter, by the calls that it accepts itself
--   answers01         what document 01's meter answers to each call of the night
--   RestartFact       what is proved of it
-- Assumes nothing.
use Rattle.std.specs.Prelude.{ℕ, ◌+◌, ◌-◌, ◌*◌, ◌^◌, ◌≡◌, Bool, not, List, [], ◌∷◌, ltb, leb, get_or}
use Rattle.words.specs.Answers.{Answer, refused, gives, first}
use Rattle.energy_calls.specs.Calls.{reading_of, Carries}
use Rattle.energy_channel.specs.Channel.{most, closed, in_range, is_open, rise, refusal_of}
use Rattle.energy_hall.specs.Hall.{all_closed, Named, Each, answers_to, leaves_all}
use Rattle.energy_account.specs.Account.{Event, calls, entries, shut, account, Supposed, due}
use Rattle.energy_account.specs.Facts.{Asked, ours}
use Rattle.energy_account.specs.Night.{night, wattmeter}
use Rattle.energy_calls.specs.declared.calls.Reading.{Reading}
use Rattle.energy_calls.specs.declared.calls.Call.{Call}
use Rattle.energy_calls.specs.declared.calls.Call.TheVariants.{Open, Read, Resume, Close, Ask}
use Rattle.energy_channel.specs.declared.channel.Channel.{Channel}

-- ---- as before

abbrev pub tests01 : Channel → Call → List (Bool × ℕ)
tests01 c (Open o) = (is_open c, 22) ∷ (not (in_range o.unit o.gap), 17) ∷ []
tests01 c (Read q) =
    (not (is_open c), 22) ∷
    (leb q.tick c.tick, 20) ∷
    (ltb c.gap (q.tick - c.tick), 21) ∷
    (ltb most (c.total + rise c q.status), 23) ∷ []
tests01 c (Resume q) = (not (is_open c), 22) ∷ (leb q.tick c.tick, 20) ∷ []
tests01 c Close = (not (is_open c), 22) ∷ []
tests01 c Ask = (not (is_open c), 22) ∷ []

-- After calls that all carry the boot number b, all channels closed at first, a call on any channel that carries it too is refused exactly
-- as document 01 alone says. (12, where there is no channel k, comes before both. What an accepted call does to count, tick and total hangs
-- on no boot number.)
abbrev pub OneBoot : Type 0
OneBoot = (b : ℕ) (xs : List Named) → Each (Carries b) xs → (k : ℕ) (a : Call) → Carries b a
    → refusal_of (get_or (leaves_all all_closed xs) k closed) a ≡ first (tests01 (get_or (leaves_all all_closed xs) k closed) a)

-- ---- document 01's meter

abbrev pub bare_seen : Reading → Reading
bare_seen q = reading_of q.tick q.status 0

abbrev pub bare : Call → Call
bare (Open o) = Open (record { unit = o.unit; gap = o.gap; seen = bare_seen o.seen })
bare (Read q) = Read (bare_seen q)
bare (Resume q) = Resume (bare_seen q)
bare Close = Close
bare Ask = Ask

abbrev pub bare_calls : List Named → List Named
bare_calls [] = []
bare_calls (x ∷ xs) = record { channel = x.channel; call = bare x.call } ∷ bare_calls xs

abbrev pub answering01 : List Named → List Answer
answering01 xs = answers_to all_closed (bare_calls xs)

abbrev pub document01 : Asked
document01 xs k = ours (bare_calls xs) k

-- ---- at the restart

-- Demand 3 (`Demand3Of` of Facts.antt) of a meter that need not accept and refuse as ours does: `answering` says what it answers. (At a
-- reading that a meter accepts over a restart the account adds what the whole count has risen, and nothing where it has fallen.)
abbrev pub OwnDemand3 : (List Named → List Answer) → Asked → Type 0
OwnDemand3 answering ask = (k : ℕ) (es : List Event) → Supposed shut (entries k es (answering (calls es)))
    → ask (calls es) k ≡ due k (account shut (entries k es (answering (calls es))))

-- the reading at the restart is accepted, as is that of channel 5; what comes after each of them at the same tick, or an earlier one, is
-- refused (20)
abbrev pub answers01 : List Answer
answers01 =
    gives [] ∷ gives [] ∷ gives [] ∷ gives [] ∷ refused 20 ∷ refused 21 ∷ gives [] ∷ gives [] ∷
    gives [] ∷ refused 20 ∷ refused 20 ∷ gives [] ∷
    gives [] ∷ gives [] ∷ refused 20 ∷ refused 12 ∷ refused 22 ∷ []

-- Document 01 alone takes the counter's fall from 12 to 0 for a turnover, and adds 2^32 - 12 that no load drew: nearly 262,144 J at the
-- night's energy unit, 14. By its own accepted calls the night keeps the supposition, since of a reading under another boot number no rise is
-- supposed, and what is owed is the wattmeter's sum: so it does not keep demand 3, which ours keeps.
pub record RestartFact : Type 0 where
  pub ours_keeps : OwnDemand3 (answers_to all_closed) ours
  pub bare_carries : (xs : List Named) → Each (Carries 0) (bare_calls xs)
  pub answered : answering01 (calls night) ≡ answers01
  pub supposed : Supposed shut (entries 3 night answers01)
  pub owed : due 3 (account shut (entries 3 night answers01)) ≡ gives (wattmeter ∷ [])
  pub summed : document01 (calls night) 3 ≡ gives ((wattmeter + (262144 * 2 ^ 14 - 12)) ∷ [])
  pub falls : OwnDemand3 answering01 document01 → ⊥
