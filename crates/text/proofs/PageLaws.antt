-- Words on a page: where they fit, where they do not, and a text that grows. Assumes nothing.
use Prim.Native.Nat.{ℕ, ◌+◌, ◌-◌, ◌≤◌, ◌<◌}
use mathlib.Core.Path.{◌≡◌, refl, sym, ap, ap₂, ◌∙◌}
use mathlib.Core.Logic.{◌⊎◌, ⊎_elim}
use mathlib.Core.Bool.{Bool, true, false}
use mathlib.Core.List.{List, [], ◌∷◌, ◌++◌, append-nil, append_assoc}
use borrow.Author.Tests.{le-leb, lt-leb, leb-true, leb-false}
use lib.ListN.{length, get_or, take, drop, take-append-drop, length-append, length-drop, get_or-append}
use lib.Seq.{length-take-le, take-length, drop-drop, take-append_seam, drop-append-add, get_or-append-add, get_or-take, get_or-drop}
use native.Mathlib.Nat.{zero-add, add-zero, add_assoc}
use native.Mathlib.Omega.{arith}
use borrow.Rule.Slice.Mut.{set_vals}
use borrow.Rule.Slice.PartMut.{put_mid}
use Rattle.text.specs.declared.page.Page.{Page}
use Rattle.text.specs.Page.{fits, over, after, over_all, after_all, joined, Wrote}
use Rattle.text.specs.Facts.{PutFact, RunsFact}

module _ (xs : List ℕ) (at : ℕ) (ys : List ℕ) where
  pub over_fits : at + length ys ≤ length xs → over xs at ys ≡ take at xs ++ ys ++ drop (at + length ys) xs
  unfolding over
  over_fits h = rw (le-leb (at + length ys) (length xs) h)

  pub after_fits : at + length ys ≤ length xs → after xs at ys ≡ at + length ys
  unfolding after
  after_fits h = rw (le-leb (at + length ys) (length xs) h)

  pub over_short : length xs < at + length ys → over xs at ys ≡ xs
  unfolding over
  over_short h = rw (lt-leb (at + length ys) (length xs) h)

  pub after_short : length xs < at + length ys → after xs at ys ≡ at
  unfolding after
  after_short h = rw (lt-leb (at + length ys) (length xs) h)

  -- what stands before the words, with them
  head_length : at + length ys ≤ length xs → length (take at xs ++ ys) ≡ at + length ys
  head_length h = length-append (take at xs) ys ∙ ap (λ (n : ℕ). n + length ys) (length-take-le at xs (omega arith))

  over_length : (b : Bool) → fits xs at ys ≡ b → length (over xs at ys) ≡ length xs
  over_length true e =
      let h : at + length ys ≤ length xs = leb-true (at + length ys) (length xs) e in
      ap length (over_fits h) ∙ length-append (take at xs ++ ys) (drop (at + length ys) xs)
      ∙ ap₂ (λ (m n : ℕ). m + n) (head_length h) (length-drop (at + length ys) xs)
      ∙ omega arith
  over_length false e = ap length (over_short (leb-false (at + length ys) (length xs) e))

  pub length_over : length (over xs at ys) ≡ length xs
  length_over = over_length (fits xs at ys) refl

  -- words pasted to their end
  pub pasted : (many : ℕ) → length ys ≡ many → at + many ≤ length xs → take at xs ++ take many ys ++ drop (at + many) xs ≡ over xs at ys
  pasted many e h =
      ap (λ (n : ℕ). take at xs ++ take n ys ++ drop (at + n) xs) (sym e)
      ∙ ap (λ (zs : List ℕ). take at xs ++ zs ++ drop (at + length ys) xs) (take-length ys)
      ∙ sym (over_fits (omega arith))

  -- words copied into the part that they fill
  pub copied : (k : ℕ) → k ≡ length ys → at + length ys ≤ length xs → put_mid at k xs ys ≡ over xs at ys
  copied k e h =
      ap (λ (zs : List ℕ). take at xs ++ (ys ++ zs)) (drop-drop k at xs ∙ ap (λ (m : ℕ). drop (at + m) xs) e)
      ∙ sym (append_assoc (take at xs) ys (drop (at + length ys) xs))
      ∙ sym (over_fits h)

-- ---- what stands on a page then

module _ (xs : List ℕ) (at : ℕ) (ys : List ℕ) where
  word_at : at + length ys ≤ length xs → (k : ℕ) → k < length ys → get_or (over xs at ys) (at + k) 0 ≡ get_or ys k 0
  word_at h k l =
      let e : at + length ys ≡ length (take at xs ++ ys) = sym (head_length xs at ys h) in
      ap (λ (zs : List ℕ). get_or zs (at + k) 0) (over_fits xs at ys h)
      ∙ get_or-append (take at xs ++ ys) (drop (at + length ys) xs) 0 (at + k) (omega arith)
      ∙ ap (λ (m : ℕ). get_or (take at xs ++ ys) (m + k) 0) (sym (length-take-le at xs (omega arith)))
      ∙ get_or-append-add (take at xs) ys k 0

  before_at : at + length ys ≤ length xs → (k : ℕ) → k < at → get_or (over xs at ys) k 0 ≡ get_or xs k 0
  before_at h k l =
      let e : length (take at xs) ≡ at = length-take-le at xs (omega arith) in
      let e' : length (take at xs ++ ys) ≡ at + length ys = head_length xs at ys h in
      ap (λ (zs : List ℕ). get_or zs k 0) (over_fits xs at ys h)
      ∙ get_or-append (take at xs ++ ys) (drop (at + length ys) xs) 0 k (omega arith)
      ∙ get_or-append (take at xs) ys 0 k (omega arith)
      ∙ get_or-take at xs k 0 l

  past_at : at + length ys ≤ length xs → (k : ℕ) → at + length ys ≤ k → get_or (over xs at ys) k 0 ≡ get_or xs k 0
  past_at h k l =
      let m : ℕ = at + length ys in
      let e : k ≡ m + (k - m) = omega arith in
      ap (λ (zs : List ℕ). get_or zs k 0) (over_fits xs at ys h)
      ∙ ap (λ (j : ℕ). get_or (take at xs ++ ys ++ drop m xs) j 0) (e ∙ ap (λ (j : ℕ). j + (k - m)) (sym (head_length xs at ys h)))
      ∙ get_or-append-add (take at xs ++ ys) (drop m xs) (k - m) 0
      ∙ get_or-drop m xs (k - m) 0
      ∙ ap (λ (j : ℕ). get_or xs j 0) (sym e)

  others_at : (b : Bool) → fits xs at ys ≡ b → (k : ℕ) → (k < at) ⊎ (at + length ys ≤ k) → get_or (over xs at ys) k 0 ≡ get_or xs k 0
  others_at true e k o = let h = leb-true (at + length ys) (length xs) e in ⊎_elim (before_at h k) (past_at h k) o
  others_at false e k o = ap (λ (zs : List ℕ). get_or zs k 0) (over_short xs at ys (leb-false (at + length ys) (length xs) e))

  pub put_fact : PutFact xs at ys
  put_fact =
      record {
        words = word_at;
        others = others_at (fits xs at ys) refl;
        size = length_over xs at ys;
        place = after_fits xs at ys;
        short = λ h. (over_short xs at ys h, after_short xs at ys h);
      }

-- ---- runs of words

-- the runs yss were put on the page xs at a place, as a call answers it: r is the place after them, and the page is rs
abbrev pub PutAll : List ℕ → ℕ → ℕ → List ℕ → List (List ℕ) → Type 0
PutAll xs at r rs yss = (r ≡ after_all xs at yss) × (rs ≡ over_all xs at yss)

pub length_over_all : (xs : List ℕ) (at : ℕ) (yss : List (List ℕ)) → length (over_all xs at yss) ≡ length xs
length_over_all xs at [] = refl
length_over_all xs at (ys ∷ yss) = length_over_all (over xs at ys) (after xs at ys) yss ∙ length_over xs at ys

-- runs put after runs
pub runs_on : (xs : List ℕ) (at : ℕ) (yss zss : List (List ℕ)) {m r : ℕ} {ps rs : List ℕ} → PutAll xs at m ps yss → PutAll ps m r rs zss
    → PutAll xs at r rs (yss ++ zss)
runs_on xs at [] zss p q =
    (q.0 ∙ ap₂ (λ (ps : List ℕ) (m : ℕ). after_all ps m zss) p.1 p.0, q.1 ∙ ap₂ (λ (ps : List ℕ) (m : ℕ). over_all ps m zss) p.1 p.0)
runs_on xs at (ys ∷ yss) zss p q = runs_on (over xs at ys) (after xs at ys) yss zss p q

module _ (xs : List ℕ) (at : ℕ) (ys zs : List ℕ) (h : at + length (ys ++ zs) ≤ length xs) where
  all_fit : at + length ys + length zs ≤ length xs
  all_fit = omega (arith, length-append ys zs)

  pub then_words : over (over xs at ys) (at + length ys) zs ≡ over xs at (ys ++ zs)
  then_words =
      let l : at + length ys + length zs ≤ length xs = all_fit in
      let p : List ℕ = take at xs ++ ys in
      let d : List ℕ = drop (at + length ys) xs in
      let e : length p ≡ at + length ys = head_length xs at ys (omega arith) in
      let o : over xs at ys ≡ p ++ d = over_fits xs at ys (omega arith) in
      let f : length (p ++ d) ≡ length xs = ap length (sym o) ∙ length_over xs at ys in
      ap₂ (λ (ps : List ℕ) (m : ℕ). over ps m zs) o (sym e)
      ∙ over_fits (p ++ d) (length p) zs (omega arith)
      ∙ ap₂ (λ (us vs : List ℕ). us ++ zs ++ vs) (take-append_seam p d) (drop-append-add p d (length zs) ∙ drop-drop (length zs) (at + length ys) xs)
      ∙ ap₂ (λ (us : List ℕ) (m : ℕ). us ++ drop m xs) (append_assoc (take at xs) ys zs) (add_assoc at (length ys) (length zs) ∙ ap (λ (m : ℕ). at + m) (sym (length-append ys zs)))
      ∙ sym (over_fits xs at (ys ++ zs) h)

-- no words at all
pub over_nothing : (xs : List ℕ) (at : ℕ) → at ≤ length xs → over xs at [] ≡ xs
over_nothing xs at h =
    over_fits xs at [] (omega arith) ∙ ap₂ (λ (us : List ℕ) (m : ℕ). us ++ drop m xs) (append-nil (take at xs)) (add-zero at) ∙ take-append-drop at xs

pub runs_fact : (xs : List ℕ) (at : ℕ) (yss : List (List ℕ)) → RunsFact xs at yss
runs_fact xs at [] = record { words = λ h. sym (over_nothing xs at (omega arith)); place = λ h. sym (add-zero at) }
runs_fact xs at (ys ∷ yss) =
    record {
      words = λ h.
          let here : after xs at ys ≡ at + length ys = after_fits xs at ys (omega (arith, length-append ys (joined yss))) in
          ap (λ (m : ℕ). over_all (over xs at ys) m yss) here
          ∙ (runs_fact (over xs at ys) (at + length ys) yss).words (omega (arith, length_over xs at ys, length-append ys (joined yss)))
          ∙ then_words xs at ys (joined yss) h;
      place = λ h.
          let here : after xs at ys ≡ at + length ys = after_fits xs at ys (omega (arith, length-append ys (joined yss))) in
          ap (λ (m : ℕ). after_all (over xs at ys) m yss) here
          ∙ (runs_fact (over xs at ys) (at + length ys) yss).place (omega (arith, length_over xs at ys, length-append ys (joined yss)))
          ∙ add_assoc at (length ys) (length (joined yss))
          ∙ ap (λ (m : ℕ). at + m) (sym (length-append ys (joined yss)));
    }

-- ---- what a call writes on a page

module _ (p : Page) (ys : List ℕ) where
  -- words that end inside the page, and words that do not
  pub wrote_copied : (m : ℕ) → m ≡ p.at + length ys → m ≤ length p.bytes.now → {zs : List ℕ} → zs ≡ ys
      → Wrote p (record { bytes = set_vals (put_mid p.at (m - p.at) p.bytes.now zs) p.bytes; at = m }) (ys ∷ [])
  wrote_copied m e h {zs} f =
      record {
        bytes = ap (put_mid p.at (m - p.at) p.bytes.now) f ∙ copied p.bytes.now p.at ys (m - p.at) (omega arith) (omega arith);
        place = e ∙ sym (after_fits p.bytes.now p.at ys (omega arith));
        same = refl;
      }

  pub wrote_none : length p.bytes.now < p.at + length ys → Wrote p p (ys ∷ [])
  wrote_none h = record { bytes = sym (over_short p.bytes.now p.at ys h); place = sym (after_short p.bytes.now p.at ys h); same = refl }

-- runs written after runs
pub wrote_on : {p q r : Page} (yss zss : List (List ℕ)) → Wrote p q yss → Wrote q r zss → Wrote p r (yss ++ zss)
wrote_on {p} yss zss a b =
    let on = runs_on p.bytes.now p.at yss zss (a.place, a.bytes) (b.place, b.bytes) in
    record { bytes = on.1; place = on.0; same = b.same ∙ a.same }

-- runs that fit are one text
pub wrote_joined : {p q : Page} (yss : List (List ℕ)) → p.at + length (joined yss) ≤ length p.bytes.now → Wrote p q yss → Wrote p q (joined yss ∷ [])
wrote_joined {p} yss h w =
    let f = runs_fact p.bytes.now p.at yss in
    record {
      bytes = w.bytes ∙ f.words h;
      place = w.place ∙ f.place h ∙ sym (after_fits p.bytes.now p.at (joined yss) h);
      same = w.same;
    }

-- nothing was written
pub wrote_nothing : (p : Page) → p.at ≤ length p.bytes.now → Wrote p p ([] ∷ [])
wrote_nothing p h =
    record {
      bytes = sym (over_nothing p.bytes.now p.at h);
      place = sym (after_fits p.bytes.now p.at [] (omega arith) ∙ add-zero p.at);
      same = refl;
    }

-- a text at the page's start: the place is how long it is
pub wrote_first : {p q : Page} (ys : List ℕ) → p.at ≡ 0 → length ys ≤ length p.bytes.now → Wrote p q (ys ∷ [])
    → (q.at ≡ length ys) × (q.bytes.now ≡ over p.bytes.now 0 ys)
wrote_first {p} ys z h w = (
  w.place ∙ after_fits p.bytes.now p.at ys (omega arith) ∙ ap (λ (m : ℕ). m + length ys) z ∙ zero-add (length ys),
  w.bytes ∙ ap (λ (m : ℕ). over p.bytes.now m ys) z,
)
