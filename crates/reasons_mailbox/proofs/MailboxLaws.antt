-- Laws of the mailbox's steps, one for each way through them. Assumes nothing.
use Prim.Native.Nat.{ℕ, ◌+◌, ◌≤◌, ◌<◌}
use mathlib.Core.Path.{◌≡◌, refl, ap, ◌∙◌}
use mathlib.Core.Logic.{◌↔◌}
use mathlib.Core.Bool.{Bool, true, false, cond}
use mathlib.Core.List.{[], ◌∷◌}
use native.Mathlib.Omega.{arith}
use lib.Dec.{ltb, lit<}
use borrow.Author.Tests.{ltb-true, ltb-false, lt-ltb, leb-true, leb-false, le-leb, lt-leb}
use Rattle.words.specs.Answers.{gives}
use Rattle.words.proofs.TestLaws.{or_neither, or_exactly, fails_else}
use Rattle.fields.proofs.FieldLaws.{field_lt}
use Rattle.fields.proofs.TableLaws.{fit_narrow}
use Rattle.fields.proofs.Structures.{word_right}
use Rattle.reasons_registers.specs.MailboxInterface.{widths, interface_of, values, written_of}
use Rattle.reasons_mailbox.specs.declared.mailbox.Exchange.{Exchange}
use Rattle.reasons_mailbox.specs.declared.mailbox.Mailbox.{Mailbox}
use Rattle.reasons_mailbox.specs.declared.mailbox.Mailbox.TheVariants.{Starting, Ending, Over}
use Rattle.reasons_mailbox.specs.Mailbox.{counting, outside, no, begins, begun_of, is_busy, asks, stored_word, waits, stores, ended, refused, Next, next, over, last_test, waits_on, to_store, taken, starts_of, ends_of, step_of}
use Rattle.reasons_mailbox.specs.Facts.{Outside}

-- a test decides
holds : {A : Type 0} {b : Bool} (x y : A) → b ≡ true → cond b x y ≡ x
holds x y t = ap (λ (c : Bool). cond c x y) t

fails : {A : Type 0} {b : Bool} (x y : A) → b ≡ false → cond b x y ≡ y
fails x y t = ap (λ (c : Bool). cond c x y) t

less : (m n : ℕ) → (ltb m n ≡ true) ↔ (m < n)
less m n = (ltb-true m n, lt-ltb m n)

-- ---- the numbers of an exchange

module _ (e : Exchange) where
  pub ranges : outside e ≡ false → (e.command ≤ 1) × (e.domain ≤ 15) × (e.id ≤ 255) × (1 ≤ e.tests) × (e.tests ≤ 1000)
  unfolding outside
  ranges h =
      let a = or_neither (ltb 1 e.command) _ h in
      let b = or_neither (ltb 15 e.domain) _ a.1 in
      let c = or_neither (ltb 255 e.id) _ b.1 in
      let d = or_neither (ltb e.tests 1) _ c.1 in
      (ltb-false 1 e.command a.0, ltb-false 15 e.domain b.0, ltb-false 255 e.id c.0, ltb-false e.tests 1 d.0, ltb-false 1000 e.tests d.1)

  pub outside_exactly : (outside e ≡ true) ↔ Outside e
  unfolding outside
  outside_exactly =
      or_exactly _ _ (less 1 e.command) (or_exactly _ _ (less 15 e.domain) (or_exactly _ _ (less 255 e.id) (or_exactly _ _ (less e.tests 1) (less 1000 e.tests))))

  pub outside_not : (outside e ≡ false) ↔ (Outside e → ⊥)
  outside_not = fails_else (outside e) outside_exactly

  -- they fit the interface
  pub word_is : (x : ℕ) → outside e ≡ false → written_of (asks e x) ≡ gives (stored_word e x ∷ [])
  unfolding stored_word interface_of
  word_is x h =
      let r = ranges h in
      word_right widths (values (asks e x)) refl (omega arith)
      (fit_narrow widths (values (asks e x)) (omega (arith, r.0), (omega (arith, r.1), (omega (arith, r.2), (field_lt 20 43 x, (lit< tt, tt))))))

  -- ---- a start

  pub begun_not : outside e ≡ true → begun_of e ≡ no 17
  unfolding begun_of
  begun_not t = holds _ _ t

  pub begun_at : outside e ≡ false → begun_of e ≡ begins (Starting e)
  unfolding begun_of
  begun_at t = fails _ _ t

  -- ---- one wait

  pub last_where : e.tests ≤ e.busy + 1 → last_test e ≡ true
  unfolding last_test
  last_where h = le-leb e.tests (e.busy + 1) h

  pub last_tests : last_test e ≡ true → e.tests ≤ e.busy + 1
  unfolding last_test
  last_tests t = leb-true e.tests (e.busy + 1) t

  pub last_not : e.busy + 1 < e.tests → last_test e ≡ false
  unfolding last_test
  last_not h = lt-leb e.tests (e.busy + 1) h

  pub more_tests : last_test e ≡ false → e.busy + 1 < e.tests
  unfolding last_test
  more_tests t = leb-false e.tests (e.busy + 1) t

  -- fewer are busy than named: one more is no more than 1,000
  pub count_low : outside e ≡ false → last_test e ≡ false → e.busy + 1 < 1000
  count_low f t = omega (arith, (ranges f).4, more_tests t)

  module _ (go : Exchange → Mailbox) where
    pub waits_last : last_test e ≡ true → waits_on go e ≡ next Over (refused 30)
    unfolding waits_on
    waits_last t = holds _ _ t

    pub waits_more : last_test e ≡ false → waits_on go e ≡ next (go (counting e (e.busy + 1))) waits
    unfolding waits_on
    waits_more t = fails _ _ t

  module _ (x : ℕ) where
    pub starts_busy : is_busy x ≡ true → starts_of e x ≡ waits_on Starting e
    unfolding starts_of
    starts_busy t = holds _ _ t

    pub starts_idle : is_busy x ≡ false → starts_of e x ≡ next (Ending (counting e 0)) (stores (to_store e (stored_word e x)))
    unfolding starts_of
    starts_idle t = fails _ _ t

    pub ends_busy : (d : ℕ) → is_busy x ≡ true → ends_of e x d ≡ waits_on Ending e
    unfolding ends_of
    ends_busy d t = holds _ _ t

    pub ends_idle : (d : ℕ) → is_busy x ≡ false → ends_of e x d ≡ next Over (ended (taken e d))
    unfolding ends_of
    ends_idle d t = fails _ _ t

    -- ---- a step

    module _ (d : ℕ) where
      pub step_starts : outside e ≡ false → step_of (Starting e) x d ≡ starts_of e x
      unfolding step_of
      step_starts t = fails _ _ t

      pub step_ends : outside e ≡ false → step_of (Ending e) x d ≡ ends_of e x d
      unfolding step_of
      step_ends t = fails _ _ t

      pub no_start : outside e ≡ true → step_of (Starting e) x d ≡ over
      unfolding step_of
      no_start t = holds _ _ t

      pub no_end : outside e ≡ true → step_of (Ending e) x d ≡ over
      unfolding step_of
      no_end t = holds _ _ t

pub step_over : (x d : ℕ) → step_of Over x d ≡ over
unfolding step_of
step_over x d = refl

-- a step from a state that is known
pub in_phase : (m n : Mailbox) (x d : ℕ) (t : Next) → m ≡ n → step_of n x d ≡ t → step_of m x d ≡ t
in_phase m n x d t q r = ap (λ (k : Mailbox). step_of k x d) q ∙ r

-- what the proofs of `starts`, `ends` and `step` go by
pub ruleset starts_ways = (word_is, count_low, waits_last, waits_more, starts_busy, starts_idle)

pub ruleset ends_ways = (count_low, waits_last, waits_more, ends_busy, ends_idle)

pub ruleset step_ways = (step_starts, step_ends, no_start, no_end, step_over)
