-- The layout of an input: when it is readable, and what is known of its parts then. Assumes nothing.
use Prim.Native.Nat.{ℕ, ◌+◌, ◌≤◌, ◌<◌}
use Rattle.std.specs.Prelude.{Some, None}
use mathlib.Core.Path.{◌≡◌, refl, sym, ap, ◌∙◌}
use mathlib.Core.Bool.{Bool, true, false, cond}
use mathlib.Core.List.{List, [], ◌∷◌}
use native.Mathlib.Omega.{arith}
use borrow.Author.Tests.{le-leb, lt-leb, leb-true}
use lib.Dec.{leb}
use lib.ListN.{length, take, drop}
use Rattle.words.specs.Bytes.{number_at}
use Rattle.words.proofs.TestLaws.{and_first, and_second, and_holds, and_both}
use Rattle.list_input.specs.Layout.{first_of, middle_of, second_of, end_of, readable, layout_of, config_in, low_in, high_in}
use Rattle.list_input.specs.Told.{told}
use Rattle.list_input.specs.declared.layout.Layout.{Layout}

module _ (s : List ℕ) where
  -- the lengths that are read are the definition's
  pub first_read : {x : ℕ} → x ≡ number_at s 4097 4 → x ≡ first_of s
  unfolding first_of
  first_read e = e

  pub second_read : {x y : ℕ} → x ≡ number_at s 4097 4 → y ≡ number_at s (4101 + x + 1) 4 → y ≡ second_of s
  unfolding second_of
  second_read e g = g ∙ ap (λ (k : ℕ). number_at s (4101 + k + 1) 4) (first_read e)

  pub first_long : 65536 < first_of s → readable s ≡ false
  unfolding readable
  first_long h = and_first _ (lt-leb _ _ h)

  pub second_long : 65536 < second_of s → readable s ≡ false
  unfolding readable
  second_long h = and_second (leb (first_of s) 65536) (and_first _ (lt-leb _ _ h))

  pub input_short : length s < end_of s → readable s ≡ false
  unfolding readable
  input_short h = and_second (leb (first_of s) 65536) (and_second (leb (second_of s) 65536) (lt-leb _ _ h))

  pub input_whole : first_of s ≤ 65536 → second_of s ≤ 65536 → end_of s ≤ length s → readable s ≡ true
  unfolding readable
  input_whole a b c = and_holds (le-leb _ _ a) (and_holds (le-leb _ _ b) (le-leb _ _ c))

  pub layout_none : readable s ≡ false → layout_of s ≡ []
  unfolding layout_of
  layout_none e = rw e

  pub layout_there : readable s ≡ true → layout_of s ≡ number_at s 4096 1 ∷ middle_of s ∷ number_at s (middle_of s) 1 ∷ end_of s ∷ []
  unfolding layout_of
  layout_there e = rw e

  -- ---- from the answer back

  pub not_laid : told None ≡ layout_of s → readable s ≡ false
  unfolding layout_of
  not_laid e = by (readable s) (sym e)
    where
      by : (b : Bool) → cond b (number_at s 4096 1 ∷ middle_of s ∷ number_at s (middle_of s) 1 ∷ end_of s ∷ []) [] ≡ [] → b ≡ false
      by true e = let z : ◌≡◌ {A = ℕ} 0 1 = cc in absurd (omega arith)
      by false e = refl

  -- what is known of a layout
  pub record LaidOut (l : Layout) : Type 0 where
    pub reads : readable s ≡ true
    pub lo : l.lo ≡ number_at s 4096 1
    pub middle : l.low_end ≡ middle_of s
    pub hi : l.hi ≡ number_at s (middle_of s) 1
    pub end : l.high_end ≡ end_of s
    pub whole : end_of s ≤ length s
    pub first_small : first_of s ≤ 65536

  pub tests : readable s ≡ true → (leb (first_of s) 65536 ≡ true) × ((leb (second_of s) 65536 ≡ true) × (leb (end_of s) (length s) ≡ true))
  unfolding readable
  tests r =
      let h = and_both (leb (first_of s) 65536) _ r in
      (h.0, and_both (leb (second_of s) 65536) _ h.1)

  pub laid_out : {l : Layout} → told (Some l) ≡ layout_of s → LaidOut l
  laid_out {l} e = by (readable s) refl
    where
      by : (b : Bool) → readable s ≡ b → LaidOut l
      by true r =
          let v = sym (layout_there r) ∙ sym e in
          record { reads = r; lo = cc; middle = cc; hi = cc; end = cc; whole = leb-true _ _ (tests r).1.1; first_small = leb-true _ _ (tests r).0 }
      by false r = let v = sym (layout_none r) ∙ sym e in let z : ◌≡◌ {A = ℕ} 0 1 = cc in absurd (omega arith)

  -- the parts of a readable input
  module _ (r : readable s ≡ true) where
    pub config_there : take 4096 s ≡ config_in s
    unfolding config_in
    config_there = rw r

    pub low_there : take (first_of s) (drop 4101 s) ≡ low_in s
    unfolding low_in
    low_there = rw r

    pub high_there : take (second_of s) (drop (middle_of s + 5) s) ≡ high_in s
    unfolding high_in
    high_there = rw r

  -- and of an unreadable one
  module _ (r : readable s ≡ false) where
    pub config_none : [] ≡ config_in s
    unfolding config_in
    config_none = rw r

    pub low_none : [] ≡ low_in s
    unfolding low_in
    low_none = rw r

    pub high_none : [] ≡ high_in s
    unfolding high_in
    high_none = rw r
