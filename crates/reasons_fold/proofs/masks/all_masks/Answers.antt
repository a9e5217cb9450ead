-- `reasons_fold::masks::all_masks` meets its contract: the code's table is the bit rule's, which is computed here, once for all its entries.
-- Assumes nothing.
use mathlib.Core.Path.{refl}
use Rattle.words.specs.Below.{any_below}
use Rattle.fields.specs.Bits.{field}
use Rattle.fields.specs.Masks.{mask_of}
use Rattle.reasons_fold.specs.Fold.{belongs, reached_from, entry_of, entries_from, table}
use Rattle.reasons_fold.proofs.masks.all_masks.Goals as goal

pub returns : goal.returns
unfolding table entries_from entry_of reached_from belongs mask_of field any_below
returns c = record { answer = refl }
