-- `text::page::Page::put` meets its contract: words that would end past the page are not written. Assumes nothing.
use native.Mathlib.Omega.{arith}
use Rattle.text.proofs.PageLaws.{wrote_none}
use Rattle.text.proofs.page.Page.put.Goals as goal

pub returns-else-end-self : goal.returns-else-end-self
returns-else-end-self c = record { wrote = wrote_none c.args.self.now c.args.words.now (omega arith) }
