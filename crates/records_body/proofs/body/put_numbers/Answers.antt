-- `records_body::body::put_numbers` meets its contract: a turn is the next store of the definition. Assumes nothing.
use Rattle.std.proofs.Common.{ℕ, List, ap, ap₂, ◌∙◌, sym, arith, length}
use Rattle.std.proofs.lemmas.Slice.Zip.{Zip-more, either_empty_from_Zip}
use Rattle.records_body.specs.Body.{stored_numbers}
use Rattle.records_body.proofs.BodyLaws.{size_most, stores_turn, stores_end}
use Rattle.records_body.proofs.body.put_numbers.Goals as goal

pub loop-width-preserved : goal.loop-width-preserved
loop-width-preserved c =
    let m = Zip-more c.loop-width.width-iterator c.next.new.self c.next.result (c.in-Some.width, c.in-Some.value) c.in-Some.is c.next.ensures.steps in (
      omega (arith, c.size_of-at.ensures.answer, size_most c.in-Some.width.now, ap length m.0, c.loop-width.invariant.0),
      stores_turn _ _ _ _ _ _ c.put_number.ensures.kept c.size_of-at.ensures.answer
          ∙ sym (ap₂ (λ (ws vs : List ℕ). stored_numbers ws vs c.loop-width.bytes c.loop-width.at) m.0 m.1)
          ∙ c.loop-width.invariant.1,
    )

pub returns : goal.returns
returns c = record {
  kept = stores_end _ _ _ _ (either_empty_from_Zip c.loop-width.width-iterator c.next.new.self c.next.result c.in-None.is c.next.ensures.steps) ∙ c.loop-width.invariant.1;
}
