-- `stores::numbers::store_u64` meets its contract: its bytes, lowest first, stored in their place. Assumes nothing.
use Rattle.std.proofs.Common.{◌∙◌}
use Rattle.stores.proofs.Spliced.{stored_bytes}
use Rattle.stores.proofs.numbers.store_u64.Goals as goal

pub returns : goal.returns
returns c = record { kept = c.store.ensures.kept ∙ stored_bytes c.args.s.now c.args.at 8 c.args.v c.to_le_bytes.ensures }
