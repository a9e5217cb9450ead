-- `tpmi_discovery::table::before_walk` meets its contract: at each return the tests on the way decide. Assumes nothing.
use mathlib.Core.Path.{sym, ap, ◌∙◌}
use Rattle.words.specs.Told.{passes}
use Rattle.tpmi_discovery.proofs.TableLaws.{early_one, early_two, early_none}
use Rattle.tpmi_discovery.proofs.table.before_walk.Goals as goal

pub returns-then-misshapen : goal.returns-then-misshapen
returns-then-misshapen c = record { answer = ap passes (sym (early_one c.args.capture.config.now c.args.capture.lo c.args.capture.hi (sym c.if-misshapen.ensures.answer))) }

pub returns-then-u16_at : goal.returns-then-u16_at
returns-then-u16_at c = record { answer = ap passes (sym (early_two c.args.capture.config.now c.args.capture.lo c.args.capture.hi (sym c.if-misshapen.ensures.answer) (λ z. c.if-u16_at.true (c.u16_at.ensures.answer ∙ z)))) }

pub returns : goal.returns
returns c = record { answer = ap passes (sym (early_none c.args.capture.config.now c.args.capture.lo c.args.capture.hi (sym c.if-misshapen.ensures.answer) (sym c.u16_at.ensures.answer ∙ c.if-u16_at.false))) }
