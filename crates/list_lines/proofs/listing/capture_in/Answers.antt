-- `list_lines::listing::capture_in` meets its contract: nothing, or the five of the layout. Assumes nothing.
use Rattle.list_input.proofs.LayoutLaws.{not_laid, laid_out}
use Rattle.list_lines.proofs.listing.capture_in.Goals as goal

pub returns-in_err-l : goal.returns-in_err-l
returns-in_err-l c = record { answer = rw c.from_residual.ensures (not_laid c.args.input.now c.in_err-l.ensures.answer) }

pub returns : goal.returns
returns c = let q = laid_out c.args.input.now c.in_ok-l.ensures.answer in record {
  answer = (q.reads, rw (c.config_in.ensures.part, q.lo, c.low_in.ensures.part, q.hi, c.high_in.ensures.part));
}
