-- `words::bytes::u8_at` meets its contract: past the end the list reads 0. Assumes nothing.
use mathlib.Core.Path.{◌≡◌, sym, ◌∙◌}
use Rattle.std.proofs.Common.{rules}
use lib.ListN.{get_or}
use Rattle.words.proofs.NumberLaws.{number_one}
use Rattle.words.proofs.bytes.u8_at.Goals as goal

pub returns : goal.returns
returns c = let byte : c.unwrap_or.result ≡ get_or c.args.s.now c.args.at 0 = search rules in record { answer = byte ∙ sym (number_one c.args.s.now c.args.at) }
