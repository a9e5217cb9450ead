-- Each theorem of Facts.antt, under its name. Assumes nothing.
use Prim.Native.Nat.{ℕ, ◌+◌, ◌*◌, ◌^◌, ◌≤◌, ◌<◌}
use mathlib.Core.Path.{◌≡◌, ◌∙◌}
use mathlib.Core.Logic.{◌⊎◌, inl, inr}
use mathlib.Core.Bool.{Bool}
use mathlib.Core.List.{List}
use native.Mathlib.Omega.{arith}
use Rattle.fields.specs.Bits.{with_field, bit}
use Rattle.fields.specs.Tables.{with_fields, total}
use Rattle.fields.specs.Facts.{FieldFact, BesideFact, SameBitsFact, RoundTrips, WiderFact, MisfitFact, SideBySide, MaskFact, OnesFact}
use Rattle.words.proofs.StoreLaws.{stored_other}
use Rattle.fields.proofs.FieldLaws.{field_with, field_with_inside, field_with_below, field_with_above, field_lt, with_field_law, with_with, with_lt, same_bits}
use Rattle.fields.proofs.TableLaws.{fit_length, fit_narrow, narrow_fit, structure_back, structure_kept, structure_carried, side_read, side_written}
use Rattle.fields.proofs.WordLaws.{misfit_fits, misfit_table}
use Rattle.fields.proofs.MaskLaws.{mask_bit, mask_lt, ones_mask, mask_whole, ones_many}

other_bits : (p w x v k : ℕ) → (k < p) ⊎ (p + w ≤ k) → bit k (with_field p w x v) ≡ bit k x
other_bits p w x v k (inl h) = field_with_below p w x v k 1 (omega arith)
other_bits p w x v k (inr h) = field_with_above p w x v k 1 h

pub field_fact : (p w x v : ℕ) → FieldFact p w x v
field_fact p w x v =
    record {
      read = field_with p w x v;
      bits = λ k h. field_with_inside p w x v k 1 (omega arith);
      others = other_bits p w x v;
      same = with_field_law p w x v;
      last = λ u. with_with p w x u v;
      stays = with_lt p w x v;
    }

pub beside_fact : (p w x v q u : ℕ) → BesideFact p w x v q u
beside_fact p w x v q u =
    record {
      narrow = field_lt q u x;
      inside = field_with_inside p w x v q u;
      below = field_with_below p w x v q u;
      above = field_with_above p w x v q u;
    }

pub same_bits_fact : (n x y : ℕ) → SameBitsFact n x y
same_bits_fact = same_bits

pub round_trips : (ws : List ℕ) (n : ℕ) → total ws ≡ 8 * n → (xs : List ℕ) (at y : ℕ) → y < 256 ^ n → RoundTrips ws n xs at y
round_trips ws n size xs at y fits =
    record {
      back = structure_back ws n size xs at y fits;
      kept = structure_kept ws n size xs at y fits;
      outside = λ vs. stored_other xs at n (with_fields 0 ws y vs);
      carried = structure_carried ws n size xs at y fits;
    }

pub wider_fact : (ws vs : List ℕ) → WiderFact ws vs
wider_fact ws vs e = (narrow_fit ws vs e, fit_narrow ws vs)

pub misfit_fact : (ws vs : List ℕ) → MisfitFact ws vs
misfit_fact ws vs = (misfit_fits ws vs, λ p. misfit_table ws vs (fit_length ws vs p.0) p.1 ∙ fit_narrow ws vs p.0)

pub side_by_side : (ws us : List ℕ) (x y : ℕ) → x < 2 ^ total ws → SideBySide ws us x y
side_by_side ws us x y h = record { read = side_read ws us x y h; written = side_written ws us x y h }

pub mask_fact : (p : ℕ → Bool) (n : ℕ) → MaskFact p n
mask_fact p n = record { bits = mask_bit p n; below = mask_lt p n; count = ones_mask p n }

pub ones_fact : (x n : ℕ) → OnesFact x n
ones_fact x n = record { whole = mask_whole x n; count = ones_many x n }
