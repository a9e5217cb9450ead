-- `uncore_writes::control_next::next_in` meets its contract: the register's refusal, or what is said of the word that it holds. Assumes
-- nothing.
use mathlib.Core.Path.{sym, ◌∙◌}
use mathlib.Core.List.{[], ◌∷◌}
use Rattle.words.proofs.DoneLaws.{handed_on}
use Rattle.uncore_writes.proofs.ControlNextLaws.{next_refused, word_last}
use Rattle.uncore_writes.proofs.control_next.next_in.Goals as goal

pub returns-in_err-at : goal.returns-in_err-at
returns-in_err-at c = record {
  answer = handed_on (λ x. x ∷ []) c.from_residual.result c.from_residual.ensures.1 ∙ sym (next_refused _ _ _ _ _ _ (sym c.in_err-at.ensures.answer));
}

pub returns : goal.returns
returns c = record { answer = c.next_word.ensures.answer ∙ word_last _ _ _ _ _ _ (sym c.in_ok-at.ensures.answer) c.u64_at.ensures.answer }
