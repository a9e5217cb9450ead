-- The lines of a listing on a page: one line, one entry more, and how long they can be. Assumes nothing.
use Prim.Native.Nat.{ℕ, ◌+◌, ◌*◌, ◌^◌, ◌≤◌, ◌<◌}
use mathlib.Core.Path.{◌≡◌, refl, sym, ap, subst, ◌∙◌}
use mathlib.Core.Bool.{Bool, true, false, cond}
use mathlib.Core.List.{List, [], ◌∷◌, ◌++◌}
use borrow.Author.Tests.{lt-ltb, le-ltb}
use lib.Dec.{eqb}
use lib.ListN.{length, length-append}
use native.Mathlib.Numerals.{add-one}
use native.Mathlib.Omega.{arith}
use Rattle.words.specs.Answers.{refused, gives, unless}
use Rattle.words.specs.Bytes.{number_at}
use Rattle.words.proofs.AnswerLaws.{first_take, first_skip, first_end}
use Rattle.fields.proofs.FieldLaws.{field_lt}
use Rattle.fields.proofs.MaskLaws.{many_le}
use Rattle.tpmi_entries.specs.Entry.{entry_of, entry_at}
use Rattle.tpmi_banks.specs.Faults.{bank_of, bank_in, empty_bank}
use Rattle.tpmi_banks.proofs.FaultLaws.{Bounded, bank_bounded}
use Rattle.tpmi_counts.specs.Valid.{valid_in, valid_count_in}
use Rattle.text.specs.declared.page.Page.{Page}
use Rattle.text.specs.Page.{over, Wrote}
use Rattle.text.proofs.LinesLaws.{few, Listed, listed_none, listed_next}
use Rattle.list_lines.specs.Listing.{Said, listing_of}
use Rattle.list_lines.specs.Line.{line_of}
use Rattle.list_output.specs.Output.{line_runs, line_text, lines_below, refused_text, said_text, text_of, longest, list_number, list_of, page_left}
use Rattle.list_lines.proofs.LineLaws.{line_none, line_there}

-- ---- how long a line can be

id_small : (s : List ℕ) (t k : ℕ) → (bank_in s t k).id < 256
unfolding bank_in bank_of entry_at entry_of
id_small s t k = field_lt 0 8 (number_at s (t + k * 8) 8)

valid_most : (s : List ℕ) (start size n : ℕ) → valid_count_in s start size n ≤ n
unfolding valid_count_in
valid_most s start size n = many_le (valid_in s start size) n

numbers_short : (id i v z s : ℕ) → id < 256 → i < 256 → v < 256 → z < 262144 → s < 2 ^ 33 → length (line_text (id ∷ i ∷ v ∷ z ∷ s ∷ [])) ≤ 62
unfolding line_runs
numbers_short id i v z s a b c d e =
    simp length-append
    (omega (
      arith,
      few id 3 (omega arith) (omega arith) (omega arith),
      few i 3 (omega arith) (omega arith) (omega arith),
      few v 3 (omega arith) (omega arith) (omega arith),
      few z 6 (omega arith) (omega arith) (omega arith),
      few s 10 (omega arith) (omega arith) (omega arith),
    ))

pub line_short : (s : List ℕ) (t k : ℕ) → t < 2 ^ 32 → length (line_text (line_of s t k)) ≤ 62
unfolding line_runs
line_short s t k h = by (empty_bank (bank_in s t k)) refl
  where
    by : (e : Bool) → empty_bank (bank_in s t k) ≡ e → length (line_text (line_of s t k)) ≤ 62
    by true e = subst (λ (vs : List ℕ). length (line_text vs) ≤ 62) (sym (line_none s t k refl e)) (omega arith)
    by false e =
        let b = bank_in s t k in
        let r : Bounded b = bank_bounded s t k h in
        subst (λ (vs : List ℕ). length (line_text vs) ≤ 62) (sym (line_there s t k refl e))
        (numbers_short b.id b.instances (valid_count_in s b.start (b.words * 4) b.instances) (b.words * 4) b.start
        (id_small s t k) r.instances (omega (arith, r.instances, valid_most s b.start (b.words * 4) b.instances)) (omega (arith, r.words)) r.start)

pub refused_short : (n : ℕ) → n < 256 → length (refused_text n) ≤ 12
refused_short n h = simp length-append (omega (arith, few n 3 (omega arith) (omega arith) (omega arith)))

-- ---- one entry more

pub lines_next : (s : List ℕ) (t k : ℕ) → lines_below s t (k + 1) ≡ lines_below s t k ++ line_text (line_of s t k)
unfolding lines_below
lines_next s t k = ap (lines_below s t) (add-one k)

-- the lines of the entries below k were written on the page p, which is q then
abbrev pub Shown : Page → List ℕ → ℕ → ℕ → Page → Type 0
Shown p s t k q = Listed p 62 k (lines_below s t k) q

module _ (p : Page) (s : List ℕ) (t : ℕ) (z : p.at ≡ 0) where
  pub shown_none : Shown p s t 0 p
  unfolding lines_below
  shown_none = listed_none p 62 (omega arith)

  pub shown_next : t < 2 ^ 32 → longest ≤ length p.bytes.now → (k : ℕ) → k < 255 → {q : Page} → Shown p s t k q → {r : Page}
      → Wrote q r (line_runs (line_of s t k)) → Shown p s t (k + 1) r
  shown_next small room k more so {r} call =
      subst (λ (ys : List ℕ). Listed p 62 (k + 1) ys r) (sym (lines_next s t k))
      (listed_next p 62 255 k (omega arith) more so (line_runs (line_of s t k)) (line_short s t k small) call)

-- ---- the whole listing

-- what the listing says is the text
pub said_length : (s : List ℕ) {a : Said} → a ≡ listing_of s → length (said_text s a) ≡ length (text_of s)
unfolding text_of
said_length s e = ap (λ (a : Said). length (said_text s a)) e

pub said_wrote : (s : List ℕ) {a : Said} → a ≡ listing_of s → {p q : Page} → Wrote p q (said_text s a ∷ []) → Wrote p q (text_of s ∷ [])
unfolding text_of
said_wrote s e {p} {q} w = subst (λ (a : Said). Wrote p q (said_text s a ∷ [])) e w

module _ (xs s : List ℕ) where
  pub list_short : length xs < longest → (refused 25 ≡ list_of xs s) × (xs ≡ page_left xs s)
  unfolding list_of page_left
  list_short h =
      let n : list_number xs ≡ 25 = first_take 25 [] (lt-ltb (length xs) longest h) in
      (sym (ap (λ (m : ℕ). unless m (gives (length (text_of s) ∷ []))) n), sym (ap (λ (m : ℕ). cond (eqb m 0) (over xs 0 (text_of s)) xs) n))

  pub list_fits : longest ≤ length xs → {r : ℕ} {rs : List ℕ} → (r ≡ length (text_of s)) × (rs ≡ over xs 0 (text_of s))
      → (gives (r ∷ []) ≡ list_of xs s) × (rs ≡ page_left xs s)
  unfolding list_of page_left
  list_fits h q =
      let n : list_number xs ≡ 0 = first_skip 25 [] (le-ltb (length xs) longest h) ∙ first_end in (
        ap (λ (m : ℕ). gives (m ∷ [])) q.0 ∙ sym (ap (λ (m : ℕ). unless m (gives (length (text_of s) ∷ []))) n),
        q.1 ∙ sym (ap (λ (m : ℕ). cond (eqb m 0) (over xs 0 (text_of s)) xs) n),
      )
