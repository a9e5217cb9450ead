-- The whole listing: its three ways, its lines one by one, and how long it can be. Assumes nothing.
use Prim.Native.Nat.{ℕ, zero, suc, ◌+◌, ◌*◌, ◌/◌, ◌%◌, ◌^◌, ◌≤◌, ◌<◌}
use mathlib.Core.Path.{◌≡◌, refl, sym, ap, ap₂, subst, ◌∙◌}
use mathlib.Core.Bool.{Bool, true, false, cond, not}
use mathlib.Core.Logic.{◌≢◌}
use mathlib.Core.List.{List, [], ◌∷◌, ◌++◌, append-nil}
use native.Mathlib.Nat.{zero-add, add_assoc}
use native.Mathlib.Omega.{arith}
use borrow.Author.Tests.{ne_eqb, not-false, ltb-false}
use lib.Dec.{eqb, ltb}
use lib.ListN.{length, take, drop, length-append}
use lib.Seq.{take-append_seam, drop-append_seam}
use Rattle.words.proofs.AnswerLaws.{unless_number, unless_passes, first_zero}
use Rattle.fields.specs.Masks.{one, how_many}
use Rattle.list_input.specs.Layout.{readable}
use Rattle.text.specs.Page.{over}
use Rattle.text.proofs.PageLaws.{over_fits}
use Rattle.text.specs.Numerals.{glyph_of, digits}
use Rattle.tpmi_banks.specs.Faults.{bank_in, empty_bank}
use Rattle.tpmi_discovery.specs.Table.{bir_of, bar_of, table_of, entries_of}
use Rattle.tpmi_discovery.specs.Discovery.{discovery_number, discovery_of}
use Rattle.tpmi_discovery.proofs.TableLaws.{structure_narrow, table_bound, bar_named}
use Rattle.tpmi_discovery.proofs.DiscoveryFact.{discovery_small}
use Rattle.list_lines.specs.Listing.{answers, capture_in}
use Rattle.list_lines.specs.Line.{line_of}
use Rattle.list_output.specs.Output.{line_runs, line_text, lines_below, refused_text, unreadable_text, said_text, text_of, longest, list_number, page_left}
use Rattle.list_output.specs.Facts.{feeds, a_feature, LinesFact, ListingFact}
use Rattle.list_lines.proofs.LineLaws.{says_unreadable, says_answer, bar_there, line_none, line_there}
use Rattle.list_output.proofs.OutputLaws.{lines_next, line_short, refused_short}

-- ---- line feeds

feeds_append : (xs ys : List ℕ) → feeds (xs ++ ys) ≡ feeds xs + feeds ys
feeds_append [] ys = omega arith
feeds_append (x ∷ xs) ys = ap (λ (n : ℕ). one (eqb x 10) + n) (feeds_append xs ys) ∙ sym (add_assoc (one (eqb x 10)) (feeds xs) (feeds ys))

-- a digit is no line feed
glyph_no_feed : (d : ℕ) → eqb (glyph_of d) 10 ≡ false
glyph_no_feed d = by (ltb d 10) refl
  where
    by : (t : Bool) → ltb d 10 ≡ t → eqb (glyph_of d) 10 ≡ false
    by true e = rw e (ne_eqb (48 + d) 10 (λ z. omega arith))
    by false e = rw e (ne_eqb (87 + d) 10 (λ z. omega arith))

digits_no_feed : (b k n : ℕ) → feeds (digits b k n) ≡ 0
unfolding digits
digits_no_feed b zero n = refl
digits_no_feed b (suc k) n = ap₂ (λ (t : Bool) (m : ℕ). one t + m) (glyph_no_feed (n / b ^ k % b)) (digits_no_feed b k n)

line_feeds : (id : ℕ) (vs : List ℕ) → feeds (line_text (id ∷ vs)) ≡ 1
unfolding line_runs
line_feeds id vs = simp (feeds_append, digits_no_feed)

-- ---- the lines of a table

module _ (s : List ℕ) (t : ℕ) where
  empty_adds : (k : ℕ) → a_feature s t k ≡ false → lines_below s t (k + 1) ≡ lines_below s t k
  unfolding line_runs
  empty_adds k e =
      lines_next s t k
      ∙ ap (λ (vs : List ℕ). lines_below s t k ++ line_text vs) (line_none s t k refl (not-false (empty_bank (bank_in s t k)) e))
      ∙ append-nil (lines_below s t k)

  -- how many lines one entry adds
  entry_feeds : (k : ℕ) (b : Bool) → empty_bank (bank_in s t k) ≡ b → feeds (line_text (line_of s t k)) ≡ one (not b)
  unfolding line_runs
  entry_feeds k true e = ap (λ (vs : List ℕ). feeds (line_text vs)) (line_none s t k refl e)
  entry_feeds k false e = ap (λ (vs : List ℕ). feeds (line_text vs)) (line_there s t k refl e) ∙ line_feeds (bank_in s t k).id (_ ∷ _ ∷ _ ∷ _ ∷ [])

  all_feeds : (k : ℕ) → feeds (lines_below s t k) ≡ how_many (a_feature s t) k
  unfolding lines_below how_many
  all_feeds zero = refl
  all_feeds (suc k) =
      feeds_append (lines_below s t k) (line_text (line_of s t k))
      ∙ omega (arith, all_feeds k, entry_feeds k (empty_bank (bank_in s t k)) refl)

  all_short : t < 2 ^ 32 → (k : ℕ) → length (lines_below s t k) ≤ k * 62
  unfolding lines_below
  all_short h zero = omega arith
  all_short h (suc k) = omega (arith, all_short h k, line_short s t k h, length-append (lines_below s t k) (line_text (line_of s t k)))

  pub lines_fact : (k : ℕ) → LinesFact s t k
  unfolding lines_below
  lines_fact k = record { starts = refl; empty = empty_adds k; feature = λ e. lines_next s t k; as_many = all_feeds k }

-- ---- the three ways

module _ (s : List ℕ) where
  not_read : readable s ≡ false → text_of s ≡ unreadable_text
  unfolding text_of
  not_read r = ap (said_text s) (says_unreadable s r)

  is_refused : readable s ≡ true → discovery_number (capture_in s) ≢ 0 → text_of s ≡ refused_text (discovery_number (capture_in s))
  unfolding text_of discovery_of
  is_refused r n = ap (said_text s) (says_answer s r ∙ ap answers (unless_number (discovery_number (capture_in s)) _ n))

  is_accepted : readable s ≡ true → discovery_number (capture_in s) ≡ 0
      → text_of s ≡ lines_below (bar_of (capture_in s)) (table_of (capture_in s)) (entries_of (capture_in s))
  unfolding text_of discovery_of
  is_accepted r z = ap (said_text s) (says_answer s r ∙ ap answers (unless_passes _ z))
      ∙ ap (λ (x : List ℕ). lines_below x (table_of (capture_in s)) (entries_of (capture_in s))) (sym (bar_there s (bir_of (capture_in s)) r) ∙ bar_named (capture_in s) refl)

  it_fits : (b : Bool) → readable s ≡ b → length (text_of s) ≤ longest
  it_fits false e = subst (λ (x : List ℕ). length x ≤ longest) (sym (not_read e)) (omega arith)
  it_fits true e = by (discovery_number (capture_in s)) refl
    where
      by : (n : ℕ) → discovery_number (capture_in s) ≡ n → length (text_of s) ≤ longest
      by zero z =
          subst (λ (x : List ℕ). length x ≤ longest) (sym (is_accepted e z))
          (omega (arith, all_short (bar_of (capture_in s)) (table_of (capture_in s)) (table_bound (capture_in s)) (entries_of (capture_in s)), (structure_narrow (capture_in s)).entries))
      by (suc n) z =
          let d : discovery_number (capture_in s) ≢ 0 = λ y. omega arith in
          subst (λ (x : List ℕ). length x ≤ longest) (sym (is_refused e d))
          (omega (arith, refused_short (discovery_number (capture_in s)) (omega (arith, discovery_small (capture_in s)))))

  pub text_fits : length (text_of s) ≤ longest
  text_fits = it_fits (readable s) refl

  -- a page that is taken: the text at its start, and the rest
  on_page : (xs : List ℕ) → list_number xs ≡ 0 → page_left xs s ≡ text_of s ++ drop (length (text_of s)) xs
  unfolding page_left
  on_page xs z =
      let room : longest ≤ length xs = ltb-false (length xs) longest (first_zero ((ltb (length xs) longest, 25) ∷ []) tt z).0 in
      ap (λ (m : ℕ). cond (eqb m 0) (over xs 0 (text_of s)) xs) z
      ∙ over_fits xs 0 (text_of s) (omega (arith, text_fits))
      ∙ ap (λ (m : ℕ). text_of s ++ drop m xs) (zero-add (length (text_of s)))

  it_shows : (xs : List ℕ) → list_number xs ≡ 0 → take (length (text_of s)) (page_left xs s) ≡ text_of s
  it_shows xs z = ap (take (length (text_of s))) (on_page xs z) ∙ take-append_seam (text_of s) (drop (length (text_of s)) xs)

  it_keeps : (xs : List ℕ) → list_number xs ≡ 0 → drop (length (text_of s)) (page_left xs s) ≡ drop (length (text_of s)) xs
  it_keeps xs z = ap (drop (length (text_of s))) (on_page xs z) ∙ drop-append_seam (text_of s) (drop (length (text_of s)) xs)

  pub listing_fact : ListingFact s
  listing_fact = record { unreadable = not_read; refused_by = is_refused; accepted = is_accepted; fits = text_fits; shows = it_shows; keeps = it_keeps }
