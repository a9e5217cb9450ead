-- Demand 3: call by call, the record of channel k agrees with its account. Assumes nothing.
use Prim.Native.Nat.{ℕ, zero, suc, ◌+◌, ◌-◌, ◌^◌, ◌%◌, ◌≤◌, ◌<◌}
use mathlib.Core.Path.{◌≡◌, refl, sym, ap, ◌∙◌}
use mathlib.Core.Bool.{Bool, true, false, not, ◌&&◌, false≢true}
use mathlib.Core.List.{List, [], ◌∷◌}
use native.Mathlib.Omega.{arith}
use native.Mathlib.Numerals.{add-one}
use lib.Dec.{ltb, eqb}
use lib.ListN.{length, get_or, take, length-replicate}
use lib.Seq.{take_all}
use Rattle.std.proofs.lemmas.List.Sums.{sum_by_more}
use Rattle.words.specs.Answers.{unless, gives, first}
use Rattle.energy_channel.specs.Channel.{closed, is_open, rise, tests, refusal_of, values, taken, share}
use Rattle.energy_hall.specs.Hall.{all_closed, tests_on, answer_on, leaves_on, leaves_all, answers_to, shares, hall_total, accepted}
use Rattle.energy_account.specs.Account.{Event, calls, Entry, if_so, entries, Account, shut, running, entered, account, Rises, Fair, Supposed, is_shut, sum_of, due, part, parts}
use Rattle.energy_account.specs.Facts.{history, Demand3, ClosesAsAsked, ClosingDemand3, HallDemand3}
use Rattle.energy_calls.specs.declared.calls.Opening.{Opening}
use Rattle.energy_calls.specs.declared.calls.Reading.{Reading}
use Rattle.energy_calls.specs.declared.calls.Call.{Call}
use Rattle.energy_calls.specs.declared.calls.Call.TheVariants.{Open, Read, Resume, Close, Ask}
use Rattle.energy_channel.specs.declared.channel.Channel.{Channel}
use Rattle.energy_channel.proofs.ChannelLaws.{open_live, open_holds, open_if, share_closed}
use Rattle.energy_hall.proofs.HallLaws.{shares_summed}
use Rattle.energy_channel.proofs.Accepted.{opens_past, reads_past, resumes_past}
use Rattle.energy_hall.proofs.Runs.{own_entered, passed_over, closed_at, length_leaves, length_run}

-- ---- one channel and its account

-- the remainders' difference is the rise, if that is less than one turn
pub turn_rise : (v w : ℕ) → v ≤ w → w < v + 2 ^ 32 → (w % 2 ^ 32 + 2 ^ 32 - v % 2 ^ 32) % 2 ^ 32 ≡ w - v
turn_rise v w h k = omega arith

-- The record of a running account: open as it was opened, with the tick, the boot number and the remainder of the count of the call accepted
-- last, and the account's sum as its total.
record Matches (c : Channel) (o : Opening) (l : Reading) (v s : ℕ) : Type 0 where
  is_open_law : is_open c ≡ true
  unit : c.unit ≡ o.unit
  gap : c.gap ≡ o.gap
  tick : c.tick ≡ l.tick
  count : c.count ≡ v % 2 ^ 32
  boot : c.boot ≡ l.boot
  total : c.total ≡ s

abbrev Agrees : Channel → Account → Type 0
Agrees c shut = c ≡ closed
Agrees c (running o l v s) = Matches c o l v s

shut_closed : (c : Channel) → c ≡ closed → is_open c ≡ true → ⊥
shut_closed c e p = false≢true (sym (open_live c (ap (λ (d : Channel). d.live) e)) ∙ p)

-- an accepted reading has the boot number of the call accepted last, and what is supposed of it leaves less than one turn
less_than_a_turn : (c : Channel) (o : Opening) (l : Reading) (v s : ℕ) → Matches c o l v s → (q : Reading) (w : ℕ) → refusal_of c (Read q) ≡ 0
    → Rises o l q v w → (v ≤ w) × (w < v + 2 ^ 32)
less_than_a_turn c o l v s r q w e h = let p = h ((reads_past c q e).4 ∙ r.boot) in (p.0, omega (arith, p.1))

agrees_accepted : (c : Channel) (x : Account) (a : Call) (w : ℕ) → Agrees c x → refusal_of c a ≡ 0 → Fair x a w → Agrees (taken c a) (entered x a w)
unfolding taken
agrees_accepted c x (Open o) w m e f =
    record {
      is_open_law = open_if (taken c (Open o)) refl (opens_past c o e).1 (omega arith);
      unit = refl;
      gap = refl;
      tick = refl;
      count = f;
      boot = refl;
      total = refl;
    }
agrees_accepted c shut (Read q) w m e f = absurd (shut_closed c m (reads_past c q e).0)
agrees_accepted c (running o l v s) (Read q) w m e f =
    let p = reads_past c q e in
    let h = open_holds c p.0 in
    let d = less_than_a_turn c o l v s m q w e f.1 in
    let r : rise c q.status ≡ w - v = rw (f.0, m.count) (turn_rise v w d.0 d.1) in
    record {
      is_open_law = open_if (taken c (Read q)) h.0 h.1 p.3;
      unit = m.unit;
      gap = m.gap;
      tick = refl;
      count = f.0;
      boot = refl;
      total = omega (arith, m.total, r);
    }
agrees_accepted c shut (Resume q) w m e f = absurd (shut_closed c m (resumes_past c q e).0)
agrees_accepted c (running o l v s) (Resume q) w m e f =
    let h = open_holds c m.is_open_law in
    record {
      is_open_law = open_if (taken c (Resume q)) h.0 h.1 h.2;
      unit = m.unit;
      gap = m.gap;
      tick = refl;
      count = f;
      boot = refl;
      total = m.total;
    }
agrees_accepted c x Close w m e f = refl
agrees_accepted c x Ask w m e f = m

-- ---- any list of events

follows : (k : ℕ) (cs : List Channel) → length cs ≡ 64 → (x : Account) (es : List Event) → Agrees (get_or cs k closed) x
    → Supposed x (entries k es (answers_to cs (calls es)))
    → Agrees (get_or (leaves_all cs (calls es)) k closed) (account x (entries k es (answers_to cs (calls es))))
follows k cs l x [] m f = m
follows k cs l x (e ∷ es) m f = by (accepted (answer_on cs n a) && eqb n k) refl f (λ y. follows k left (length_leaves cs n a ∙ l) y es)
  where
    n : ℕ
    n = e.named.channel

    a : Call
    a = e.named.call

    left : List Channel
    left = leaves_on cs n a

    t : Entry
    t = record { call = a; whole = e.whole }

    later : List Entry
    later = entries k es (answers_to left (calls es))

    end : Channel
    end = get_or (leaves_all left (calls es)) k closed

    by : (b : Bool) → (accepted (answer_on cs n a) && eqb n k) ≡ b → Supposed x (if_so b t later)
        → ((y : Account) → Agrees (get_or left k closed) y → Supposed y later → Agrees end (account y later))
        → Agrees end (account x (if_so b t later))
    by true d f go =
        let o = own_entered k cs n a l d in
        go (entered x a e.whole) (rw o.1 (agrees_accepted (get_or cs k closed) x a e.whole m o.0 f.0)) f.1
    by false d f go = go x (rw (passed_over k cs n a d) m) f

agrees : (k : ℕ) (es : List Event) → Supposed shut (history k es) → Agrees (get_or (leaves_all all_closed (calls es)) k closed) (account shut (history k es))
agrees k es f = follows k all_closed (length-replicate 64 closed) shut es (closed_at k) f

-- ---- the answers

agrees_told : (c : Channel) (x : Account) → Agrees c x → (not (is_open c) ≡ is_shut x) × (c.total ≡ sum_of x)
agrees_told c shut m = (rw (open_live c (ap (λ (d : Channel). d.live) m)), ap (λ (d : Channel). d.total) m)
agrees_told c (running o l v s) m = (rw m.is_open_law, m.total)

-- what asking answers, test by test, is what the account says
asks_due : (k : ℕ) (c : Channel) (x : Account) → Agrees c x
    → unless (first ((ltb 63 k, 12) ∷ (not (is_open c), 22) ∷ [])) (gives (c.total ∷ [])) ≡ due k x
asks_due k c x m =
    let p = agrees_told c x m in
    rw (p.0, p.1)

pub demand3 : Demand3
unfolding answer_on tests_on tests values
demand3 k es f = asks_due k _ (account shut (history k es)) (agrees k es f)

pub closes_as_asked : ClosesAsAsked
unfolding answer_on tests_on tests values
closes_as_asked cs n = refl

pub closing_demand3 : ClosingDemand3
closing_demand3 k es f = closes_as_asked _ k ∙ demand3 k es f

share_part : (u : ℕ) (c : Channel) (x : Account) → Agrees c x → share u c ≡ part u x
unfolding share
share_part u c shut m = share_closed u c (open_live c (ap (λ (d : Channel). d.live) m))
share_part u c (running o l v s) m = simp (m.is_open_law, m.unit, m.total)

shares_parts : (u : ℕ) (cs : List Channel) (f : ℕ → Account) (i : ℕ) → i ≤ length cs
    → ((k : ℕ) → k < i → Agrees (get_or cs k closed) (f k)) → shares u (take i cs) ≡ parts i u f
shares_parts u cs f zero h g = refl
shares_parts u cs f (suc i) h g =
    let more = rw add-one at (sum_by_more (share u) cs i closed (omega arith)) in
    let before = shares_parts u cs f i (omega arith) (λ k l. g k (omega arith)) in
    omega (arith, shares_summed u (take (suc i) cs), more, shares_summed u (take i cs), before, share_part u _ (f i) (g i (omega arith)))

pub hall_demand3 : HallDemand3
unfolding hall_total
hall_demand3 u es f =
    let cs = leaves_all all_closed (calls es) in
    let l : length cs ≡ 64 = length_run all_closed (calls es) ∙ length-replicate 64 closed in
    let e = shares_parts u cs (λ (k : ℕ). account shut (history k es)) 64 (omega (arith, l)) (λ k h. agrees k es (f k h)) in
    ap (λ (s : ℕ). unless (first ((ltb 31 u, 17) ∷ [])) (gives (s ∷ []))) (sym (ap (shares u) (take_all 64 cs (omega (arith, l)))) ∙ e)
