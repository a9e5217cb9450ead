-- The lines of open channels on a page: one channel's line, one channel more, and how long they can be. Assumes nothing.
use Prim.Native.Nat.{ℕ, ◌+◌, ◌≤◌, ◌<◌}
use mathlib.Core.Path.{◌≡◌, refl, sym, ap, subst, ◌∙◌}
use mathlib.Core.Bool.{Bool, true, false, cond}
use mathlib.Core.List.{List, [], ◌∷◌, ◌++◌}
use borrow.Author.Tests.{lt-ltb, le-ltb}
use lib.Dec.{eqb}
use lib.ListN.{length, get_or, length-append}
use native.Mathlib.Numerals.{add-one}
use native.Mathlib.Omega.{arith}
use Rattle.words.specs.Answers.{refused, gives, unless}
use Rattle.words.proofs.AnswerLaws.{first_take, first_skip, first_end}
use Rattle.text.specs.declared.page.Page.{Page}
use Rattle.text.specs.Page.{over, joined, Wrote}
use Rattle.text.proofs.PageLaws.{wrote_first}
use Rattle.text.proofs.LinesLaws.{few, Listed, listed_none, listed_next}
use Rattle.energy_channel.specs.Channel.{closed, is_open}
use Rattle.energy_channel.specs.Facts.{Ranged}
use Rattle.energy_channel.proofs.Theorems.{ranged}
use Rattle.energy_channel.specs.declared.channel.Channel.{Channel}
use Rattle.replay_lines.specs.Spoken.{open_runs, channel_runs, open_below, open_text, longest, open_number, open_of, open_left}

-- ---- one channel's line

module _ (n : ℕ) (c : Channel) where
  pub channel_shut : is_open c ≡ false → channel_runs n c ≡ []
  unfolding channel_runs
  channel_shut e = ap (λ (b : Bool). cond b (open_runs n c) []) e

  pub channel_there : is_open c ≡ true → channel_runs n c ≡ open_runs n c
  unfolding channel_runs
  channel_there e = ap (λ (b : Bool). cond b (open_runs n c) []) e

  open_short : n < 64 → Ranged c → length (joined (open_runs n c)) ≤ 42
  open_short h r =
      simp length-append
      (omega (
        arith,
        few n 2 (omega arith) (omega arith) (omega arith),
        few c.unit 2 (omega arith) (omega (arith, r.unit)) (omega (arith, r.unit)),
        few c.total 16 (omega arith) (omega (arith, r.total)) (omega (arith, r.total)),
      ))

  pub channel_short : n < 64 → length (joined (channel_runs n c)) ≤ 42
  channel_short h = by (is_open c) refl
    where
      by : (b : Bool) → is_open c ≡ b → length (joined (channel_runs n c)) ≤ 42
      by true e = subst (λ (yss : List (List ℕ)). length (joined yss) ≤ 42) (sym (channel_there e)) (open_short h (ranged c e))
      by false e = subst (λ (yss : List (List ℕ)). length (joined yss) ≤ 42) (sym (channel_shut e)) (omega arith)

-- ---- one channel more

pub open_next : (cs : List Channel) (k : ℕ) → open_below cs (k + 1) ≡ open_below cs k ++ joined (channel_runs k (get_or cs k closed))
unfolding open_below
open_next cs k = ap (open_below cs) (add-one k)

-- the lines of the channels below k were written on the page p, which is q then
abbrev pub Shown : Page → List Channel → ℕ → Page → Type 0
Shown p cs k q = Listed p 42 k (open_below cs k) q

module _ (p : Page) (cs : List Channel) (z : p.at ≡ 0) where
  pub shown_none : Shown p cs 0 p
  unfolding open_below
  shown_none = listed_none p 42 (omega arith)

  pub shown_next : longest ≤ length p.bytes.now → (k : ℕ) → k < 64 → {q : Page} → Shown p cs k q → {r : Page}
      → Wrote q r (channel_runs k (get_or cs k closed)) → Shown p cs (k + 1) r
  shown_next room k more so {r} call =
      subst (λ (ys : List ℕ). Listed p 42 (k + 1) ys r) (sym (open_next cs k))
      (listed_next p 42 64 k (omega arith) more so (channel_runs k (get_or cs k closed)) (channel_short k (get_or cs k closed) more) call)

  -- the whole text
  pub lines_fit : longest ≤ length p.bytes.now → {k : ℕ} → k ≡ 64 → {q : Page} → Shown p cs k q
      → (gives (q.at ∷ []) ≡ open_of p.bytes.now cs) × (q.bytes.now ≡ open_left p.bytes.now cs)
  unfolding open_of open_left
  lines_fit h e {q} so =
      let xs : List ℕ = p.bytes.now in
      let all : Shown p cs 64 q = subst (λ (k : ℕ). Shown p cs k q) e so in
      let n : open_number xs ≡ 0 = first_skip 25 [] (le-ltb (length xs) longest h) ∙ first_end in
      let w = wrote_first (open_text cs) z (omega (arith, all.short)) all.wrote in (
        ap (λ (m : ℕ). gives (m ∷ [])) w.0 ∙ sym (ap (λ (m : ℕ). unless m (gives (length (open_text cs) ∷ []))) n),
        w.1 ∙ sym (ap (λ (m : ℕ). cond (eqb m 0) (over xs 0 (open_text cs)) xs) n),
      )

-- a page that is too short
pub lines_short : (xs : List ℕ) (cs : List Channel) → length xs < longest → (refused 25 ≡ open_of xs cs) × (xs ≡ open_left xs cs)
unfolding open_of open_left
lines_short xs cs h =
    let n : open_number xs ≡ 25 = first_take 25 [] (lt-ltb (length xs) longest h) in
    (sym (ap (λ (m : ℕ). unless m (gives (length (open_text cs) ∷ []))) n), sym (ap (λ (m : ℕ). cond (eqb m 0) (over xs 0 (open_text cs)) xs) n))
