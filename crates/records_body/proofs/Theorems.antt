-- The theorem of specs/Facts. Assumes nothing.
use Prim.Native.Nat.{ℕ}
use mathlib.Core.List.{List}
use Rattle.records_body.specs.Facts.{BodyFact}
use Rattle.records_body.proofs.BodyLaws.{length_stores}
use Rattle.records_body.proofs.BodyTrips.{stores_read, numbers_stored, stores_whole, length_body, body_bytes, body_says, numbers_body, numbers_fit}

pub body_fact : (ws vs xs : List ℕ) (at : ℕ) → BodyFact ws vs xs at
body_fact ws vs xs at =
    record {
      read = stores_read ws vs xs at;
      same = numbers_stored ws xs at;
      as_long = length_stores ws vs xs at;
      whole = stores_whole ws vs xs at;
      many = length_body ws vs;
      bytes = body_bytes ws vs;
      says = λ f ys. body_says ws vs xs ys f;
      back = numbers_body ws xs at;
      fits = numbers_fit ws xs at;
    }
