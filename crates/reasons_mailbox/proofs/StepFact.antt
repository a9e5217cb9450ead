-- A start, the word that is stored, and one step from any state (`StartFact`, `StoredFact`, `StepFact`). Assumes nothing.
use Prim.Native.Nat.{ℕ, ◌+◌, ◌-◌, ◌≤◌, ◌<◌}
use mathlib.Core.Path.{◌≡◌, refl, sym, ap, ap₂, ◌∙◌, subst}
use mathlib.Core.Logic.{◌⊎◌, inl, inr, ⊎_elim}
use mathlib.Core.Bool.{Bool, true, false}
use mathlib.Core.List.{List}
use native.Mathlib.Omega.{arith}
use lib.Dec.{lit<}
use Rattle.fields.specs.Bits.{bit}
use Rattle.fields.proofs.FieldLaws.{field_bit}
use Rattle.fields.proofs.TableLaws.{fields_lt}
use Rattle.reasons_registers.specs.MailboxInterface.{widths, interface_of, values}
use Rattle.reasons_registers.specs.declared.mailbox_interface.Interface.{Interface}
use Rattle.reasons_registers.proofs.Theorems.{interface_trips}
use Rattle.reasons_mailbox.specs.declared.mailbox.Exchange.{Exchange}
use Rattle.reasons_mailbox.specs.declared.mailbox.Mailbox.{Mailbox}
use Rattle.reasons_mailbox.specs.declared.mailbox.Mailbox.TheVariants.{Starting, Ending, Over}
use Rattle.reasons_mailbox.specs.Mailbox.{outside, Begins, no, begins, begun_of, is_busy, asks, stored_word, Said, waits, stores, ended, refused, nothing, Next, next, last_test, waits_on, step_of}
use Rattle.reasons_mailbox.specs.Facts.{Outside, StartFact, StoredFact, Steps, StepFact}
use Rattle.reasons_mailbox.proofs.MailboxLaws.{outside_exactly, outside_not, word_is, begun_not, begun_at, last_where, last_tests, last_not, more_tests, waits_last, waits_more, starts_busy, starts_idle, ends_busy, ends_idle, step_starts, step_ends, no_start, no_end, step_over, in_phase}

-- ---- a start

Began : Exchange → Begins → Type 0
Began e (no n) = Outside e × (n ≡ 17)
Began e (begins m) = (Outside e → ⊥) × (m ≡ Starting e)

began : (e : Exchange) → Began e (begun_of e)
unfolding Began
began e = by (outside e) refl
  where
    by : (b : Bool) → outside e ≡ b → Began e (begun_of e)
    by true t = subst (Began e) (sym (begun_not e t)) ((outside_exactly e).0 t, refl)
    by false f = subst (Began e) (sym (begun_at e f)) ((outside_not e).0 f, refl)

pub start_fact : (e : Exchange) → StartFact e
unfolding Began
start_fact e =
    record {
      refused = λ n. (λ q. subst (Began e) q (began e), λ o. begun_not e ((outside_exactly e).1 o.0) ∙ ap no (sym o.1));
      begun = λ m. (λ q. subst (Began e) q (began e), λ o. begun_at e ((outside_not e).1 o.0) ∙ ap begins (sym o.1));
    }

-- ---- what is stored

says_asked : (e : Exchange) (x : ℕ) → (Outside e → ⊥) → interface_of (stored_word e x) ≡ asks e x
says_asked e x h = (((interface_trips (asks e x)).content (stored_word e x)).0 (word_is e x ((outside_not e).1 h))).1

-- bit k of the reserved field, counted from the word's bit 0
reserved_bit : (y k : ℕ) → 20 ≤ k → k < 63 → bit k y ≡ bit (k - 20) (interface_of y).reserved20
unfolding interface_of
reserved_bit y k l h =
    let j : 20 + (k - 20) ≡ k = omega (arith, l) in
    sym (field_bit 20 43 y (k - 20) (omega (arith, l, h)) ∙ ap (λ (i : ℕ). bit i y) j)

pub stored_fact : (e : Exchange) (x : ℕ) → StoredFact e x
unfolding stored_word
stored_fact e x =
    record {
      reads = says_asked e x;
      word = fields_lt 0 widths 0 (values (asks e x)) 64 (omega arith) (lit< tt);
      reserved = λ h k l u. reserved_bit (stored_word e x) k l u ∙ ap (λ (i : Interface). bit (k - 20) i.reserved20) (says_asked e x h) ∙ sym (reserved_bit x k l u);
    }

-- ---- one step

module _ (x d : ℕ) where
  -- what a step from m says and leaves, it says and leaves so
  abbrev Came : Mailbox → Type 0
  Came m = Steps m x d (step_of m x d).state (step_of m x d).said

  by_step : (m : Mailbox) (t : Next) → step_of m x d ≡ t → Steps m x d t.state t.said → Came m
  by_step m t q = subst (λ (n : Next). Steps m x d n.state n.said) (sym q)

  -- a busy test of either wait
  busy_came : (m : Mailbox) (go : Exchange → Mailbox) (e : Exchange) → outside e ≡ false → is_busy x ≡ true → step_of m x d ≡ waits_on go e
      → ((m ≡ Starting e) × ((z : Exchange) → go z ≡ Starting z)) ⊎ ((m ≡ Ending e) × ((z : Exchange) → go z ≡ Ending z)) → Came m
  busy_came m go e f b q w = by (last_test e) refl
    where
      by : (l : Bool) → last_test e ≡ l → Came m
      by true l = by_step m _ (q ∙ waits_last e go l) (e, (outside_not e).0 f, b, last_tests e l, ⊎_elim (λ p. inl p.0) (λ p. inr p.0) w, refl, refl)
      by false l =
          by_step m _ (q ∙ waits_more e go l)
          (e, (outside_not e).0 f, b, more_tests e l, ⊎_elim (λ p. inl (p.0, p.1 _)) (λ p. inr (p.0, p.1 _)) w)

  came : (m : Mailbox) → Came m
  came (Starting e) = by (outside e) (is_busy x) refl refl
    where
      by : (o b : Bool) → outside e ≡ o → is_busy x ≡ b → Came (Starting e)
      by true b o i = by_step (Starting e) _ (no_start e x d o) (inr (e, (outside_exactly e).0 o, inl refl), refl)
      by false true o i = busy_came (Starting e) Starting e o i (step_starts e x d o ∙ starts_busy e x i) (inl (refl, λ z. refl))
      by false false o i = by_step (Starting e) _ (step_starts e x d o ∙ starts_idle e x i) (e, (outside_not e).0 o, i, refl, refl, refl)
  came (Ending e) = by (outside e) (is_busy x) refl refl
    where
      by : (o b : Bool) → outside e ≡ o → is_busy x ≡ b → Came (Ending e)
      by true b o i = by_step (Ending e) _ (no_end e x d o) (inr (e, (outside_exactly e).0 o, inr refl), refl)
      by false true o i = busy_came (Ending e) Ending e o i (step_ends e x d o ∙ ends_busy e x d i) (inr (refl, λ z. refl))
      by false false o i = by_step (Ending e) _ (step_ends e x d o ∙ ends_idle e x d i) (e, (outside_not e).0 o, i, refl, refl, refl)
  came Over = by_step Over _ (step_over x d) (inl refl, refl)

  -- and back: what goes a way is that step
  left : (s : Said) {u v : Mailbox} → u ≡ v → next v s ≡ next u s
  left s q = ap (λ (m : Mailbox). next m s) (sym q)

  so : (m u : Mailbox) (s : Said) → Steps m x d u s → step_of m x d ≡ next u s
  so m u waits (e, o, b, l, w) =
      let f = (outside_not e).1 o in
      ⊎_elim
      (λ p. in_phase m (Starting e) x d _ p.0 (step_starts e x d f ∙ starts_busy e x b ∙ waits_more e Starting (last_not e l)) ∙ left waits p.1)
      (λ p. in_phase m (Ending e) x d _ p.0 (step_ends e x d f ∙ ends_busy e x d b ∙ waits_more e Ending (last_not e l)) ∙ left waits p.1) w
  so m u (stores xs) (e, o, b, q, s, p) =
      in_phase m (Starting e) x d _ q (step_starts e x d ((outside_not e).1 o) ∙ starts_idle e x b) ∙ ap₂ (λ (n : Mailbox) (ys : List (ℕ × ℕ)). next n (stores ys)) (sym p) s
  so m u (ended ds) (e, o, b, q, s, p) =
      in_phase m (Ending e) x d _ q (step_ends e x d ((outside_not e).1 o) ∙ ends_idle e x d b) ∙ ap₂ (λ (n : Mailbox) (ys : List ℕ). next n (ended ys)) (sym p) s
  so m u (refused n) (e, o, b, l, w, z, p) =
      let f = (outside_not e).1 o in
      ⊎_elim (λ q. in_phase m (Starting e) x d _ q (step_starts e x d f ∙ starts_busy e x b ∙ waits_last e Starting (last_where e l)))
      (λ q. in_phase m (Ending e) x d _ q (step_ends e x d f ∙ ends_busy e x d b ∙ waits_last e Ending (last_where e l))) w
      ∙ ap₂ (λ (n : Mailbox) (k : ℕ). next n (refused k)) (sym p) (sym z)
  so m u nothing (w, p) =
      ⊎_elim (λ q. in_phase m Over x d _ q (step_over x d)) (λ (e, o, v).
      ⊎_elim (λ q. in_phase m (Starting e) x d _ q (no_start e x d ((outside_exactly e).1 o))) (λ q. in_phase m (Ending e) x d _ q (no_end e x d ((outside_exactly e).1 o))) v) w
      ∙ left nothing p

pub step_fact : (m : Mailbox) (x d : ℕ) → StepFact m x d
step_fact m x d u s = (λ q. subst (λ (t : Next). Steps m x d t.state t.said) q (came x d m), so x d m u s)
