-- A meter that keeps only the first reading's rise refuses exactly as ours does: call by call, its record of the channel is ours, but for a
-- total that is no larger. Assumes nothing.
use Prim.Native.Nat.{ℕ, ◌≤◌}
use mathlib.Core.Path.{◌≡◌, refl, sym, ap, ◌∙◌}
use mathlib.Core.Bool.{Bool, true, false, cond, not, ◌&&◌}
use mathlib.Core.List.{List, [], ◌∷◌}
use native.Mathlib.Omega.{arith}
use borrow.Author.Tests.{eqb-true, eq-eqb, not-false}
use lib.Dec.{ltb, eqb}
use lib.ListN.{length, get_or, length-replicate}
use Rattle.words.specs.Answers.{Answer, refused, gives, unless, number_in, first}
use Rattle.words.proofs.AnswerLaws.{unless_number_in}
use Rattle.words.proofs.TestLaws.{and_holds, and_second}
use Rattle.energy_channel.specs.Channel.{most, closed, is_open, noted, rise, tests, refusal_of, values, taken}
use Rattle.energy_channel.proofs.ChannelLaws.{open_holds, open_if, opens_0, reads_0, resumes_0, asks_0, closes_like_asks}
use Rattle.energy_channel.proofs.Accepted.{tests_fail, opens_past, reads_past, resumes_past}
use Rattle.energy_calls.specs.declared.calls.Reading.{Reading}
use Rattle.energy_calls.specs.declared.calls.Call.{Call}
use Rattle.energy_calls.specs.declared.calls.Call.TheVariants.{Open, Read, Resume, Close, Ask}
use Rattle.energy_channel.specs.declared.channel.Channel.{Channel}
use Rattle.energy_hall.specs.Hall.{all_closed, tests_on, refusal_on, answer_on, leaves_on, Named, answers_to, leaves_all, accepted}
use Rattle.energy_account.specs.Facts.{ours}
use Rattle.energy_account.specs.Dummies.{heard_later, read_since, heard_once, first_rise}
use Rattle.energy_hall.proofs.HallLaws.{refusal_own}
use Rattle.energy_hall.proofs.Runs.{accepted_number, accepted_own, refused_number, leaves_refused, own_entered, passed_over, length_leaves}

-- ---- one channel

-- c is our record, d the dummy's
record Near (c d : Channel) : Type 0 where
  is_open_law : is_open d ≡ is_open c
  unit : d.unit ≡ c.unit
  gap : d.gap ≡ c.gap
  tick : d.tick ≡ c.tick
  count : d.count ≡ c.count
  boot : d.boot ≡ c.boot
  total : d.total ≤ c.total

itself : (c : Channel) → Near c c
itself c = record { is_open_law = refl; unit = refl; gap = refl; tick = refl; count = refl; boot = refl; total = omega arith }

-- a reading or a resumption of an open channel, that leaves these totals
noted_near : (c d : Channel) → Near c d → is_open c ≡ true → (q : Reading) (t u : ℕ) → t ≤ most → u ≤ t
    → Near (noted c q t) (noted d q u)
noted_near c d n o q t u m l =
    let h = open_holds c o in
    let g = open_holds d (n.is_open_law ∙ o) in
    record {
      is_open_law = open_if (noted d q u) g.0 g.1 (omega arith) ∙ sym (open_if (noted c q t) h.0 h.1 m);
      unit = n.unit;
      gap = n.gap;
      tick = refl;
      count = refl;
      boot = refl;
      total = l;
    }

same_rise : (c d : Channel) → Near c d → (s : ℕ) → rise d s ≡ rise c s
same_rise c d n s = rw n.count

-- what we accept the dummy accepts as it hears it, and the two stay near
step : (b : Bool) (c d : Channel) (a : Call) → Near c d → refusal_of c a ≡ 0
    → (refusal_of d (heard_later b a) ≡ 0) × Near (taken c a) (taken d (heard_later b a))
unfolding taken tests
step b c d (Open o) n e =
    let p = opens_past c o e in
    (opens_0 d o (n.is_open_law ∙ p.0) p.1, itself (taken c (Open o)))
step true c d (Read q) n e =
    let p = reads_past c q e in
    (resumes_0 d q (n.is_open_law ∙ p.0) (omega (arith, n.tick, p.1)), noted_near c d n p.0 q _ _ p.3 (omega (arith, n.total)))
step false c d (Read q) n e =
    let p = reads_past c q e in
    let r = same_rise c d n q.status in (
      reads_0 d q (rise d q.status) refl (n.is_open_law ∙ p.0) (p.4 ∙ sym n.boot) (omega (arith, n.tick, p.1)) (omega (arith, n.tick, n.gap, p.2)) (omega (arith, n.total, p.3, r)),
      noted_near c d n p.0 q _ _ p.3 (omega (arith, n.total, r)),
    )
step b c d (Resume q) n e =
    let p = resumes_past c q e in
    (resumes_0 d q (n.is_open_law ∙ p.0) (omega (arith, n.tick, p.1)), noted_near c d n p.0 q _ _ (open_holds c p.0).2 n.total)
step b c d Close n e = (closes_like_asks d ∙ asks_0 d (n.is_open_law ∙ not-false _ (tests_fail c Close e).0), itself closed)
step b c d Ask n e = (asks_0 d (n.is_open_law ∙ not-false _ (tests_fail c Ask e).0), n)

-- ---- any list of calls

near : (k : ℕ) (b : Bool) (cs ds : List Channel) → length cs ≡ 64 → length ds ≡ 64 → Near (get_or cs k closed) (get_or ds k closed)
    → (xs : List Named) → Near (get_or (leaves_all cs xs) k closed) (get_or (leaves_all ds (heard_once k b xs (answers_to cs xs))) k closed)
near k b cs ds l m n [] = n
near k b cs ds l m n (x ∷ xs) =
    by (answer_on cs x.channel x.call) refl (λ t es r p. near k t (leaves_on cs x.channel x.call) es (length_leaves cs x.channel x.call ∙ l) r p xs)
  where
    j : ℕ
    j = x.channel

    a : Call
    a = x.call

    left : List Channel
    left = leaves_on cs j a

    end : Channel
    end = get_or (leaves_all left xs) k closed

    Go : Type 0
    Go = (t : Bool) (es : List Channel) → length es ≡ 64 → Near (get_or left k closed) (get_or es k closed)
        → Near end (get_or (leaves_all es (heard_once k t xs (answers_to left xs))) k closed)

    -- an accepted call: on channel k it is entered by both, else both pass it over
    heard : (t : Bool) → eqb j k ≡ t → accepted (answer_on cs j a) ≡ true → Near (get_or left k closed) (get_or (leaves_on ds j (heard_later (b && t) a)) k closed)
    heard true q s =
        let z : refusal_on cs j a ≡ 0 = eqb-true _ _ (sym (accepted_number cs j a) ∙ s) in
        let o = own_entered k cs j a l (and_holds s q) in
        let f = step (b && true) (get_or cs k closed) (get_or ds k closed) a n o.0 in
        let w : refusal_on ds j (heard_later (b && true) a) ≡ 0 =
        refusal_own ds j (heard_later (b && true) a) (accepted_own cs j a z).0
        ∙ ap (λ (i : ℕ). refusal_of (get_or ds i closed) (heard_later (b && true) a)) (eqb-true j k q)
        ∙ f.0 in
        let p = own_entered k ds j (heard_later (b && true) a) m (and_holds (accepted_number ds j (heard_later (b && true) a) ∙ eq-eqb _ _ w) q) in
        rw (o.1, p.1) f.1
    heard false q s =
        rw (passed_over k cs j a (and_second (accepted (answer_on cs j a)) q), passed_over k ds j (heard_later (b && false) a) (and_second (accepted (answer_on ds j (heard_later (b && false) a))) q))
        n

    by : (y : Answer) → answer_on cs j a ≡ y → Go
        → Near end (get_or (leaves_all ds (heard_once k b (x ∷ xs) (y ∷ answers_to left xs))) k closed)
    by (refused v) e go =
        let r = refused_number cs j a v e in
        go b ds m (rw (leaves_refused cs j a (λ z. r.1 (sym r.0 ∙ z))) n)
    by (gives vs) e go =
        go (cond (eqb j k) (read_since b a) b) (leaves_on ds j (heard_later (b && eqb j k) a)) (length_leaves ds j (heard_later (b && eqb j k) a) ∙ m)
        (heard (eqb j k) refl (ap accepted e))

-- ---- asking

asks_same : (k : ℕ) (c d : Channel) → Near c d
    → number_in (unless (first ((ltb 63 k, 12) ∷ (not (is_open d), 22) ∷ [])) (gives (d.total ∷ []))) ≡ number_in (unless (first ((ltb 63 k, 12) ∷ (not (is_open c), 22) ∷ [])) (gives (c.total ∷ [])))
asks_same k c d n = unless_number_in _ _ ∙ ap (λ (o : Bool). first ((ltb 63 k, 12) ∷ (not o, 22) ∷ [])) n.is_open_law ∙ sym (unless_number_in _ _)

pub refuses_as_ours : (xs : List Named) (k : ℕ) → number_in (first_rise xs k) ≡ number_in (ours xs k)
unfolding answer_on tests_on tests values
refuses_as_ours xs k = asks_same k _ _ (near k false all_closed all_closed (length-replicate 64 closed) (length-replicate 64 closed) (itself _) xs)
