-- `stores::numbers::store_u8` meets its contract: a byte is its own low byte. Assumes nothing.
use Rattle.std.proofs.Common.{◌≡◌, ℕ, ◌%◌, [], ◌∷◌, ap, ◌∙◌, arith}
use Rattle.stores.proofs.Spliced.{stored_bytes}
use Rattle.stores.proofs.numbers.store_u8.Goals as goal

pub returns : goal.returns
returns c =
    let own : c.args.v ≡ c.args.v % 256 = omega arith in
    record { kept = c.store.ensures.kept ∙ stored_bytes c.args.s.now c.args.at 1 c.args.v (ap (λ (v : ℕ). v ∷ []) own) }
