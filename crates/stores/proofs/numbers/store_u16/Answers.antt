-- `stores::numbers::store_u16` meets its contract: its bytes, lowest first, stored in their place. Assumes nothing.
use Rattle.std.proofs.Common.{◌∙◌, refl}
use Rattle.stores.proofs.Spliced.{stored_bytes}
use Rattle.stores.proofs.numbers.store_u16.Goals as goal

pub returns : goal.returns
returns c = record { kept = c.store.ensures.kept ∙ stored_bytes c.args.s.now c.args.at 2 c.args.v (rw c.to_le_bytes.ensures refl) }
