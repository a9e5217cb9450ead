-- What is proved of the totals, for every list of calls. Each type is one theorem, to be read without its proof; proofs/Demand3 has a proof
-- of each under the same name with underscores.
-- Assumes nothing.
use Rattle.std.specs.Prelude.{ℕ, ◌<◌, ◌≡◌, List, [], ◌∷◌, ltb}
use Rattle.words.specs.Answers.{Answer, gives, unless, first}
use Rattle.energy_hall.specs.Hall.{all_closed, answer_on, Named, answers_to, leaves_all, hall_total}
use Rattle.energy_account.specs.Account.{Event, calls, Entry, entries, shut, account, Supposed, due, parts}
use Rattle.energy_calls.specs.declared.calls.Call.TheVariants.{Close, Ask}
use Rattle.energy_channel.specs.declared.channel.Channel.{Channel}

-- The accepted calls on channel k among the events, all channels closed at first.
abbrev pub history : ℕ → List Event → List Entry
history k es = entries k es (answers_to all_closed (calls es))

-- What a meter answers when it is asked for a channel's total after some calls; what ours answers to asking, and to closing.
abbrev pub Asked : Type 0
Asked = List Named → ℕ → Answer

abbrev pub ours : Asked
ours xs k = answer_on (leaves_all all_closed xs) k Ask

abbrev pub closing : Asked
closing xs k = answer_on (leaves_all all_closed xs) k Close

-- Demand 3, of any meter that accepts and refuses calls as ours does, and answers the total by `ask`. Take any events in a row, refused
-- calls among them, all channels closed at first, and any channel k. Suppose that at each accepted opening, reading and resumption of
-- channel k the status register shows the whole count's remainder by 2^32, and that into each accepted reading the whole count, where the
-- boot number is that of the opening, reading or resumption accepted last before it, has not fallen from there and has risen by less than
-- 2^32. Then asking for the total answers 12 where there is no channel k, 22 where it is shut, and else the sum of these rises into
-- readings since its latest accepted opening. (Documents 00 and 02 suppose more: that within one boot number the count never falls under
-- one opening.)
abbrev pub Demand3Of : Asked → Type 0
Demand3Of ask = (k : ℕ) (es : List Event) → Supposed shut (history k es) → ask (calls es) k ≡ due k (account shut (history k es))

-- Demand 3 holds of what our meter answers when it is asked for the total,
abbrev pub Demand3 : Type 0
Demand3 = Demand3Of ours

-- and of what it answers when the channel is closed: closing answers what asking would have answered, whatever the channels hold.
abbrev pub ClosesAsAsked : Type 0
ClosesAsAsked = (cs : List Channel) (n : ℕ) → answer_on cs n Close ≡ answer_on cs n Ask

abbrev pub ClosingDemand3 : Type 0
ClosingDemand3 = Demand3Of closing

-- And the hall total is the sum of those sums over the open channels of one energy unit.
abbrev pub HallDemand3 : Type 0
HallDemand3 = (u : ℕ) (es : List Event) → ((k : ℕ) → k < 64 → Supposed shut (history k es))
    → hall_total (leaves_all all_closed (calls es)) u ≡
    unless (first ((ltb 31 u, 17) ∷ [])) (gives (parts 64 u (λ (k : ℕ). account shut (history k es)) ∷ []))
