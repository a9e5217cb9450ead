-- A PFS entry and its table of fields; reading and writing it, read plainly. Assumes nothing.
use Prim.Native.Nat.{ℕ, ◌≤◌, ◌<◌}
use mathlib.Core.Path.{◌≡◌, refl, ap, ◌∙◌}
use mathlib.Core.Bool.{true, false}
use mathlib.Core.List.{List}
use mathlib.Core.Logic.{◌≢◌}
use borrow.Author.Tests.{lt-ltb, le-ltb, ltb-false}
use lib.ListN.{length}
use Rattle.words.specs.Answers.{refused, gives, unless}
use Rattle.words.specs.Bytes.{stored}
use Rattle.fields.specs.Tables.{fields, with_fields, Fit, wider}
use Rattle.fields.proofs.Structures.{unless_refused, unless_accepted}
use Rattle.fields.proofs.TableLaws.{narrow_fit}
use Rattle.words.proofs.AnswerLaws.{first_skip, first_take, first_end, first_zero}
use Rattle.tpmi_entries.specs.Entry.{widths, entry_of, entry_at, values, read_of, write_number, written}
use Rattle.tpmi_entries.specs.declared.entry.Entry.{Entry}

-- the numbers of what a number holds are its fields
pub values_of : (x : ℕ) → values (entry_of x) ≡ fields 0 widths x
unfolding entry_of fields
values_of x = refl

-- ---- reading and writing

module _ (s : List ℕ) where
  pub read_short : length s < 8 → read_of s ≡ refused 25
  unfolding read_of
  read_short h = ap (λ (n : ℕ). unless n (gives (values (entry_at s 0)))) (first_take _ _ (lt-ltb _ _ h))

  pub read_right : 8 ≤ length s → read_of s ≡ gives (values (entry_at s 0))
  unfolding read_of
  read_right h = ap (λ (n : ℕ). unless n (gives (values (entry_at s 0)))) (first_skip _ _ (le-ltb _ _ h) ∙ first_end)

module _ (s : List ℕ) (e : Entry) where
  pub write_short : length s < 8 → write_number s e ≡ 25
  unfolding write_number
  write_short h = first_take _ _ (lt-ltb _ _ h)

  pub write_wide : 8 ≤ length s → wider widths (values e) ≡ true → write_number s e ≡ 17
  unfolding write_number
  write_wide h w = first_skip _ _ (le-ltb _ _ h) ∙ first_take _ _ w

  pub write_right : 8 ≤ length s → wider widths (values e) ≡ false → write_number s e ≡ 0
  unfolding write_number
  write_right h w = first_skip _ _ (le-ltb _ _ h) ∙ first_skip _ _ w ∙ first_end

  -- a write that is accepted: there is room, and the numbers fit
  pub accepted : write_number s e ≡ 0 → (8 ≤ length s) × Fit widths (values e)
  unfolding write_number
  accepted z = let f = first_zero _ tt z in (ltb-false _ _ f.0, narrow_fit widths (values e) refl f.1.0)

  pub written_refused : write_number s e ≢ 0 → written s e ≡ s
  unfolding written
  written_refused = unless_refused (write_number s e) 8 widths (values e) s

  pub written_accepted : write_number s e ≡ 0 → written s e ≡ stored s 0 8 (with_fields 0 widths 0 (values e))
  unfolding written
  written_accepted = unless_accepted (write_number s e) 8 widths (values e) s
