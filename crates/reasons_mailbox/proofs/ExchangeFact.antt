-- An exchange over any list of tests (`AnyExchange`): which state they leave and what is said at the next, in plain words. Assumes nothing.
use Prim.Native.Nat.{ℕ, ◌+◌, ◌*◌, ◌≤◌, ◌<◌}
use mathlib.Core.Path.{◌≡◌, refl, sym, ap, ◌∙◌, subst}
use mathlib.Core.Logic.{inl, inr, ⊎_elim}
use mathlib.Core.Bool.{Bool, true, false}
use mathlib.Core.List.{List, [], ◌∷◌, ◌++◌, append_assoc, append-nil}
use native.Mathlib.Nat.{add-zero, zero-add}
use native.Mathlib.Omega.{arith}
use lib.Dec.{leb}
use lib.ListN.{length, length-append}
use borrow.Author.Tests.{leb-true, leb-false}
use Rattle.reasons_mailbox.specs.declared.mailbox.Exchange.{Exchange}
use Rattle.reasons_mailbox.specs.declared.mailbox.Mailbox.{Mailbox}
use Rattle.reasons_mailbox.specs.declared.mailbox.Mailbox.TheVariants.{Starting, Ending, Over}
use Rattle.reasons_mailbox.specs.Mailbox.{exchange_of, counting, outside, is_busy, stored_word, Said, waits, stores, ended, refused, nothing, Next, next, waits_on, to_store, taken, step_of}
use Rattle.reasons_mailbox.specs.Exchanges.{Seen, leaves, said_after, Busy, Idle, AllBusy, Started, GivesUp, EndsAt, Closed, At, Heard}
use Rattle.reasons_mailbox.specs.Facts.{ExchangeFact, AnyExchange}
use Rattle.reasons_mailbox.proofs.StepFact.{start_fact}
use Rattle.reasons_mailbox.proofs.MailboxLaws.{ranges, outside_not, last_where, last_not, waits_last, waits_more, starts_busy, starts_idle, ends_busy, ends_idle, step_starts, step_ends, step_over}

-- ---- lists of tests

abbrev step_at : Mailbox → Seen → Next
step_at m v = step_of m v.interface v.reasons

leaves_append : (m : Mailbox) (us vs : List Seen) → leaves m (us ++ vs) ≡ leaves (leaves m us) vs
unfolding leaves
leaves_append m [] vs = refl
leaves_append m (u ∷ us) vs = leaves_append (step_at m u).state us vs

leaves_over : (vs : List Seen) → leaves Over vs ≡ Over
unfolding leaves step_of
leaves_over [] = refl
leaves_over (v ∷ vs) = leaves_over vs

leaves_next : (m : Mailbox) (v : Seen) (vs : List Seen) (t : Next) → step_at m v ≡ t → leaves m (v ∷ vs) ≡ leaves t.state vs
unfolding leaves
leaves_next m v vs t q = ap (λ (x : Next). leaves x.state vs) q

busy_more : (us : List Seen) (w : Seen) → AllBusy us → Busy w → AllBusy (us ++ w ∷ [])
busy_more [] w a b = (b, tt)
busy_more (u ∷ us) w a b = (a.0, busy_more us w a.1 b)

one_more : (us : List Seen) (w : Seen) → length (us ++ w ∷ []) ≡ length us + 1
one_more us w = length-append us (w ∷ [])

module _ (e : Exchange) (r : outside e ≡ false) where
  fits : (k : ℕ) → outside (counting e k) ≡ false
  unfolding outside
  fits k = r

  -- ---- one wait, in either phase

  starting_busy : (k : ℕ) (v : Seen) → Busy v → step_at (Starting (counting e k)) v ≡ waits_on Starting (counting e k)
  starting_busy k v b = step_starts (counting e k) v.interface v.reasons (fits k) ∙ starts_busy (counting e k) v.interface b

  ending_busy : (k : ℕ) (v : Seen) → Busy v → step_at (Ending (counting e k)) v ≡ waits_on Ending (counting e k)
  ending_busy k v b = step_ends (counting e k) v.interface v.reasons (fits k) ∙ ends_busy (counting e k) v.interface v.reasons b

  module _ (go : Exchange → Mailbox) (test : (k : ℕ) (v : Seen) → Busy v → step_at (go (counting e k)) v ≡ waits_on go (counting e k)) where
    more : (k : ℕ) (v : Seen) → Busy v → k + 1 < e.tests → step_at (go (counting e k)) v ≡ next (go (counting e (k + 1))) waits
    more k v b h = test k v b ∙ waits_more (counting e k) go (last_not (counting e k) h)

    last : (k : ℕ) (v : Seen) → Busy v → e.tests ≤ k + 1 → step_at (go (counting e k)) v ≡ next Over (refused 30)
    last k v b h = test k v b ∙ waits_last (counting e k) go (last_where (counting e k) h)

    run : (vs : List Seen) (k : ℕ) → AllBusy vs → k + length vs < e.tests → leaves (go (counting e k)) vs ≡ go (counting e (k + length vs))
    unfolding leaves
    run [] k b h = ap (λ (j : ℕ). go (counting e j)) (sym (add-zero k))
    run (v ∷ vs) k b h =
        leaves_next (go (counting e k)) v vs _ (more k v b.0 (omega (arith, h))) ∙ run vs (k + 1) b.1 (omega (arith, h)) ∙ ap (λ (j : ℕ). go (counting e j)) (omega arith)

    whole : (vs : List Seen) → AllBusy vs → length vs < e.tests → leaves (go (counting e 0)) vs ≡ go (counting e (length vs))
    whole vs b h = run vs 0 b (omega (arith, h)) ∙ ap (λ (j : ℕ). go (counting e j)) (zero-add (length vs))

  -- ---- the states that tests leave

  abbrev begun : Mailbox
  begun = Starting (counting e 0)

  idle_starts : (k : ℕ) (v : Seen) → Idle v → step_at (Starting (counting e k)) v ≡ next (Ending (counting e 0)) (stores (to_store e (stored_word e v.interface)))
  unfolding stored_word
  idle_starts k v i = step_starts (counting e k) v.interface v.reasons (fits k) ∙ starts_idle (counting e k) v.interface i

  idle_ends : (k : ℕ) (v : Seen) → Idle v → step_at (Ending (counting e k)) v ≡ next Over (ended (taken e v.reasons))
  idle_ends k v i = step_ends (counting e k) v.interface v.reasons (fits k) ∙ ends_idle (counting e k) v.interface v.reasons i

  first_wait : (vs : List Seen) → AllBusy vs → length vs < e.tests → leaves begun vs ≡ Starting (counting e (length vs))
  first_wait vs b h = whole Starting starting_busy vs b h

  second_wait : (vs : List Seen) (s : Started e vs) → AllBusy s.later → length s.later < e.tests → leaves begun vs ≡ Ending (counting e (length s.later))
  second_wait vs s b h =
      ap (leaves begun) s.split ∙ leaves_append begun s.waited (s.start ∷ s.later)
      ∙ ap (λ (m : Mailbox). leaves m (s.start ∷ s.later)) (first_wait s.waited s.busy s.in_time)
      ∙ leaves_next _ s.start s.later _ (idle_starts (length s.waited) s.start s.idle) ∙ whole Ending ending_busy s.later b h

  -- the test that gives up, and the one that ends it
  at_last : (vs : List Seen) (v : Seen) → GivesUp e vs v → step_at (leaves begun vs) v ≡ next Over (refused 30)
  at_last vs v g =
      ⊎_elim (λ f. ap (λ (m : Mailbox). step_at m v) (first_wait vs f.0 (omega (arith, f.1))) ∙ last Starting starting_busy (length vs) v g.0 (omega (arith, f.1)))
      (λ f. ap (λ (m : Mailbox). step_at m v) (second_wait vs f.0 f.1 (omega (arith, f.2))) ∙ last Ending ending_busy (length f.0.later) v g.0 (omega (arith, f.2)))
      g.1

  at_end : (vs : List Seen) (v : Seen) → EndsAt e vs v → step_at (leaves begun vs) v ≡ next Over (ended (taken e v.reasons))
  at_end vs v g =
      let f = g.1 in
      ap (λ (m : Mailbox). step_at m v) (second_wait vs f.0 f.1 f.2) ∙ idle_ends (length f.0.later) v g.0

  closed : (vs : List Seen) → Closed e vs → leaves begun vs ≡ Over
  closed vs c =
      let m = leaves begun c.0 in
      ap (leaves begun) c.3 ∙ leaves_append begun c.0 (c.1 ∷ c.2)
      ∙ ⊎_elim (λ g. leaves_next m c.1 c.2 _ (at_last c.0 c.1 g)) (λ g. leaves_next m c.1 c.2 _ (at_end c.0 c.1 g)) c.4
      ∙ leaves_over c.2

  at_state : (vs : List Seen) (m : Mailbox) → At e vs m → leaves begun vs ≡ m
  at_state vs (Starting x) a = first_wait vs a.0 a.1 ∙ ap Starting (sym a.2)
  at_state vs (Ending x) a = second_wait vs a.0 a.1 a.2 ∙ ap Ending (sym a.3)
  at_state vs Over c = closed vs c

  heard_said : (vs : List Seen) (v : Seen) (s : Said) → Heard e vs v s → said_after begun vs v ≡ s
  heard_said vs v waits h =
      ⊎_elim (λ f. ap (λ (m : Mailbox). (step_at m v).said) (first_wait vs f.0 (omega (arith, f.1))) ∙ ap (λ (t : Next). t.said) (more Starting starting_busy (length vs) v h.0 (omega (arith, f.1))))
      (λ f. ap (λ (m : Mailbox). (step_at m v).said) (second_wait vs f.0 f.1 (omega (arith, f.2))) ∙ ap (λ (t : Next). t.said) (more Ending ending_busy (length f.0.later) v h.0 (omega (arith, f.2))))
      h.1
  heard_said vs v (stores xs) h =
      ap (λ (m : Mailbox). (step_at m v).said) (first_wait vs h.1 h.2) ∙ ap (λ (t : Next). t.said) (idle_starts (length vs) v h.0) ∙ ap stores h.3
  heard_said vs v (ended ds) h = ap (λ (t : Next). t.said) (at_end vs v h.0) ∙ ap ended h.1
  heard_said vs v (refused m) h = ap (λ (t : Next). t.said) (at_last vs v h.0) ∙ ap refused (sym h.1)
  heard_said vs v nothing c = ap (λ (m : Mailbox). (step_at m v).said) (closed vs c) ∙ ap (λ (t : Next). t.said) (step_over v.interface v.reasons)

  -- ---- every list of tests leaves some state, and at every test something is said

  Goes : List Seen → Seen → Next → Type 0
  Goes us w t = At e (us ++ w ∷ []) t.state × Heard e us w t.said

  goes_on : (us : List Seen) (w : Seen) (t u : Next) → t ≡ u → Goes us w u → Goes us w t
  goes_on us w t u q g = subst (Goes us w) (sym q) g

  from_start : (us : List Seen) → AllBusy us → length us < e.tests → (w : Seen) → Goes us w (step_at (Starting (counting e (length us))) w)
  unfolding Goes
  from_start us a h w = by (is_busy w.interface) (leb e.tests (length us + 1)) refl refl
    where
      by : (b l : Bool) → is_busy w.interface ≡ b → leb e.tests (length us + 1) ≡ l → Goes us w (step_at (Starting (counting e (length us))) w)
      by false l i q =
          goes_on us w _ _ (idle_starts (length us) w i)
          ((record { waited = us; start = w; later = []; split = refl; busy = a; in_time = h; idle = i }, tt, omega (arith, h), refl), (i, a, h, refl))
      by true true b q =
          let n = leb-true e.tests (length us + 1) q in
          let g : GivesUp e us w = (b, inl (a, omega (arith, n, h))) in
          goes_on us w _ _ (last Starting starting_busy (length us) w b n) ((us, w, [], refl, inl g), (g, refl))
      by true false b q =
          let n = leb-false e.tests (length us + 1) q in
          goes_on us w _ _ (more Starting starting_busy (length us) w b n)
          ((busy_more us w a b, omega (arith, one_more us w, n), ap (counting e) (sym (one_more us w))), (b, inl (a, omega (arith, n))))

  from_second : (us : List Seen) (s : Started e us) → AllBusy s.later → length s.later < e.tests → (w : Seen) → Goes us w (step_at (Ending (counting e (length s.later))) w)
  unfolding Goes
  from_second us s a h w = by (is_busy w.interface) (leb e.tests (length s.later + 1)) refl refl
    where
      longer : Started e (us ++ w ∷ [])
      longer =
          record {
            waited = s.waited;
            start = s.start;
            later = s.later ++ w ∷ [];
            split = ap (λ (z : List Seen). z ++ w ∷ []) s.split ∙ append_assoc s.waited (s.start ∷ s.later) (w ∷ []);
            busy = s.busy;
            in_time = s.in_time;
            idle = s.idle;
          }

      by : (b l : Bool) → is_busy w.interface ≡ b → leb e.tests (length s.later + 1) ≡ l → Goes us w (step_at (Ending (counting e (length s.later))) w)
      by false l i q =
          let g : EndsAt e us w = (i, (s, a, h)) in
          goes_on us w _ _ (idle_ends (length s.later) w i) ((us, w, [], refl, inr g), (g, refl))
      by true true b q =
          let n = leb-true e.tests (length s.later + 1) q in
          let g : GivesUp e us w = (b, inr (s, a, omega (arith, n, h))) in
          goes_on us w _ _ (last Ending ending_busy (length s.later) w b n) ((us, w, [], refl, inl g), (g, refl))
      by true false b q =
          let n = leb-false e.tests (length s.later + 1) q in
          goes_on us w _ _ (more Ending ending_busy (length s.later) w b n)
          ((longer, busy_more s.later w a b, omega (arith, one_more s.later w, n), ap (counting e) (sym (one_more s.later w))), (b, inr (s, a, omega (arith, n))))

  goes : (us : List Seen) (m : Mailbox) → At e us m → (w : Seen) → Goes us w (step_at m w)
  unfolding Goes
  goes us (Starting x) a w = subst (λ (y : Exchange). Goes us w (step_at (Starting y) w)) (sym a.2) (from_start us a.0 a.1 w)
  goes us (Ending x) a w = subst (λ (y : Exchange). Goes us w (step_at (Ending y) w)) (sym a.3) (from_second us a.0 a.1 a.2 w)
  goes us Over c w =
      goes_on us w _ _ (step_over w.interface w.reasons)
      ((c.0, c.1, c.2 ++ w ∷ [], ap (λ (z : List Seen). z ++ w ∷ []) c.3 ∙ append_assoc c.0 (c.1 ∷ c.2) (w ∷ []), c.4), c)

  walk : (us vs : List Seen) (m : Mailbox) → At e us m → At e (us ++ vs) (leaves m vs)
  unfolding leaves Goes
  walk us [] m a = subst (λ (z : List Seen). At e z m) (sym (append-nil us)) a
  walk us (w ∷ vs) m a =
      subst (λ (z : List Seen). At e z (leaves (step_at m w).state vs)) (append_assoc us (w ∷ []) vs) (walk (us ++ w ∷ []) vs (step_at m w).state (goes us m a w).0)

  somewhere : (vs : List Seen) → At e vs (leaves begun vs)
  somewhere vs = walk [] vs begun (tt, omega (arith, (ranges e r).3), refl)

  something : (vs : List Seen) (v : Seen) → Heard e vs v (said_after begun vs v)
  unfolding Goes
  something vs v = (goes vs (leaves begun vs) (somewhere vs) v).1

  -- ---- and after 2 n tests it is over

  late : (vs : List Seen) → 2 * e.tests ≤ length vs → (m : Mailbox) → At e vs m → m ≡ Over
  late vs h (Starting x) a = absurd (omega (arith, h, a.1))
  late vs h (Ending x) a =
      let s = a.0 in
      let n : length vs ≡ length s.waited + length (s.start ∷ s.later) = ap length s.split ∙ length-append s.waited (s.start ∷ s.later) in
      absurd (omega (arith, h, n, s.in_time, a.2))
  late vs h Over c = refl

exchange_fact : (e : Exchange) → outside e ≡ false → (vs : List Seen) (v : Seen) → ExchangeFact e (Starting (counting e 0)) vs v
exchange_fact e r vs v =
    let b = Starting (counting e 0) in
    record {
      state = λ m. (λ q. subst (At e vs) q (somewhere e r vs), at_state e r vs m);
      said = λ s. (λ q. subst (Heard e vs v) q (something e r vs v), heard_said e r vs v s);
      most = λ l. late e r vs l (leaves b vs) (somewhere e r vs);
      ended_for_good = λ us q.
          let o = leaves_append b vs us ∙ ap (λ (x : Mailbox). leaves x us) q ∙ leaves_over us in
          (o, ap (λ (x : Mailbox). (step_at x v).said) o ∙ ap (λ (t : Next). t.said) (step_over v.interface v.reasons));
    }

pub any_exchange : AnyExchange
any_exchange c d i r n b q vs v =
    let e = exchange_of c d i r n in
    let s = ((start_fact e).begun b).0 q in
    subst (λ (m : Mailbox). ExchangeFact e m vs v) (sym s.1) (exchange_fact e ((outside_not e).1 s.0) vs v)
