-- The loop of `fields::tables::word_of`: what the fields that are left make of the word is the answer. Assumes nothing.
use Prim.Native.Nat.{◌≤◌}
use mathlib.Core.Path.{◌≡◌}
use lib.ListN.{length}
use Rattle.std.specs.Iterator.Adapters.{zip_first, zip_second}
use Rattle.std.specs.Slice.Iter.{iter_rest}
use Rattle.fields.specs.Tables.{written_word}
use Rattle.fields.proofs.WordLaws.{rest_word}
use Rattle.fields.proofs.tables.word_of.Given as goal

abbrev pub invariant-loop-width : goal.invariant-loop-width
invariant-loop-width l = record {
  inside : l.at ≤ 64;
  pairs : length (iter_rest (zip_first l.width-iterator)) ≡ length (iter_rest (zip_second l.width-iterator));
  rest : rest_word l.at l.word (iter_rest (zip_first l.width-iterator)) (iter_rest (zip_second l.width-iterator)) ≡ written_word l.widths l.values;
}
