-- `reasons_lookups::by_name::place` meets its contract: no such register, or the place of the one at its offset. Assumes nothing.
use mathlib.Core.Path.{sym, ap, ◌∙◌}
use Rattle.words.specs.Answers.{refused}
use Rattle.reasons_lookups.proofs.ByNameLaws.{place_unnamed, place_named}
use native.Mathlib.Omega.{arith}
use Rattle.tpmi_registers.specs.Registers.{register_place_of}
use Rattle.reasons_lookups.proofs.by_name.place.Goals as goal

pub returns-then-r-gt-DIE_LEVEL : goal.returns-then-r-gt-DIE_LEVEL
returns-then-r-gt-DIE_LEVEL c = record { answer = ap refused c.unnamed.ensures.answer ∙ sym (place_unnamed _ _ _ (omega (arith, c.if-r-gt-DIE_LEVEL.true))) }

pub returns : goal.returns
returns c = record { answer = c.register_place.ensures.answer ∙ ap (register_place_of _ 12 _) c.offset_of.ensures.answer ∙ sym (place_named _ _ _ c.if-r-gt-DIE_LEVEL.false) }
