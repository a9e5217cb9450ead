-- Lines at a page's start, one after the other, where there is room for all; and how long a number's text can be. Assumes nothing.
use Prim.Native.Nat.{ℕ, ◌+◌, ◌*◌, ◌^◌, ◌≤◌, ◌<◌}
use mathlib.Core.Path.{◌≡◌, ap, ap₂, ◌∙◌}
use mathlib.Core.List.{List, [], ◌∷◌, ◌++◌}
use lib.ListN.{length, take, drop, length-append}
use lib.Seq.{take-append_seam}
use native.Mathlib.Nat.{zero-add, add-mul, one-mul, mul-le-mul_right}
use native.Mathlib.Omega.{arith}
use Rattle.text.specs.declared.page.Page.{Page}
use Rattle.text.specs.Page.{after_all, joined, Wrote}
use Rattle.text.specs.Numerals.{numeral_of}
use Rattle.text.specs.Facts.{LineFits}
use Rattle.text.proofs.NumeralFact.{numeral_facts}
use Rattle.text.proofs.PageLaws.{over_fits, runs_fact, wrote_on, wrote_joined, wrote_nothing}

-- runs after runs, as texts
pub length_joined : (yss zss : List (List ℕ)) → length (joined (yss ++ zss)) ≡ length (joined yss) + length (joined zss)
length_joined [] zss = omega arith
length_joined (ys ∷ yss) zss =
    omega (arith, length-append ys (joined (yss ++ zss)), length-append ys (joined yss), length_joined yss zss)

-- a number below 10 to the k in decimal
pub few : (n k : ℕ) → 1 ≤ k → n < 10 ^ k → n < 2 ^ 64 → length (numeral_of 10 n) ≤ k
few n k h l w = (numeral_facts 10 n (omega arith) (omega arith) w).at_most k h l

-- a number of 64 bits, in decimal and in hexadecimal, and a refusal's number
pub number_short : (n : ℕ) → n < 2 ^ 64 → length (numeral_of 10 n) ≤ 20
number_short n h = few n 20 (omega arith) (omega arith) h

pub hex_short : (n : ℕ) → n < 2 ^ 64 → length (numeral_of 16 n) ≤ 16
hex_short n h = (numeral_facts 16 n (omega arith) (omega arith) h).at_most 16 (omega arith) (omega arith)

pub refusal_short : (n : ℕ) → n < 2 ^ 8 → length (numeral_of 10 n) ≤ 3
refusal_short n h = few n 3 (omega arith) (omega arith) (omega arith)

-- a line that is short enough is shown whole
pub line_fits : (w : ℕ) (yss : List (List ℕ)) → length (joined yss) ≤ w → LineFits w yss
line_fits w yss h =
    let ys : List ℕ = joined yss in
    let there : (xs : List ℕ) → w ≤ length xs → after_all xs 0 yss ≡ length ys = λ xs r. (runs_fact xs 0 yss).place (omega arith) ∙ zero-add (length ys) in
    record {
      fits = h;
      place = there;
      shows = λ xs r.
          ap₂ take (there xs r) ((runs_fact xs 0 yss).words (omega arith) ∙ over_fits xs 0 ys (omega arith))
          ∙ take-append_seam ys (drop (0 + length ys) xs);
    }

-- the text ys of k lines, each at most w bytes long, was written on the page p, which is q then
pub record Listed (p : Page) (w k : ℕ) (ys : List ℕ) (q : Page) : Type 0 where
  pub wrote : Wrote p q (ys ∷ [])
  pub short : length ys ≤ k * w

module _ (p : Page) (w : ℕ) where
  pub listed_none : p.at ≤ length p.bytes.now → Listed p w 0 [] p
  listed_none h = record { wrote = wrote_nothing p h; short = omega arith }

  -- one line more, on a page with room for n
  module _ (n k : ℕ) (room : p.at + n * w ≤ length p.bytes.now) (more : k < n) {ys : List ℕ} {q : Page} (so : Listed p w k ys q)
      (yss : List (List ℕ)) (short : length (joined yss) ≤ w) where
    up : (k + 1) * w ≡ k * w + w
    up = add-mul k 1 w ∙ ap (λ (m : ℕ). k * w + m) (one-mul w)

    longer : length (ys ++ joined yss) ≤ (k + 1) * w
    longer = omega (arith, up, so.short, short, length-append ys (joined yss))

    pub listed_next : {r : Page} → Wrote q r yss → Listed p w (k + 1) (ys ++ joined yss) r
    listed_next call =
        let m : (k + 1) * w ≤ n * w = mul-le-mul_right w (omega arith) in
        record {
          wrote = wrote_joined (ys ∷ yss) (omega (arith, m, longer, room)) (wrote_on (ys ∷ []) yss so.wrote call);
          short = longer;
        }
