-- `tpmi_registers::registers::register` meets its contract: the refusal of its place, or the eight bytes there. Assumes nothing.
use Prim.Native.Nat.{ℕ}
use mathlib.Core.Path.{sym, ap, ap₂, ◌∙◌}
use mathlib.Core.List.{List, [], ◌∷◌}
use Rattle.words.specs.Answers.{gives}
use Rattle.words.specs.Bytes.{number_at}
use Rattle.words.proofs.DoneLaws.{handed_on}
use Rattle.capture.specs.Capture.{capture_of}
use Rattle.tpmi_discovery.proofs.TableLaws.{bar_named}
use Rattle.tpmi_registers.proofs.RegisterLaws.{register_at, content_refused, content_found}
use Rattle.tpmi_registers.proofs.registers.register.Goals as goal

pub returns-in_err-p : goal.returns-in_err-p
returns-in_err-p c = record {
  answer = handed_on (λ x. x ∷ []) c.from_residual.result c.from_residual.ensures.1
      ∙ sym (content_refused (capture_of c.args.capture) _ _ _ (sym c.in_err-p.ensures.answer));
}

pub returns : goal.returns
returns c =
    let q = register_at (capture_of c.args.capture) c.args.id c.args.n c.args.offset (sym c.in_ok-p.ensures.answer) in
    record {
      answer = ap (λ (x : ℕ). gives (x ∷ [])) (c.u64_at.ensures.answer ∙ ap₂ (λ (s : List ℕ) (k : ℕ). number_at s k 8) (c.bar.ensures.part ∙ bar_named (capture_of c.args.capture) q.bir) q.start)
          ∙ sym (content_found (capture_of c.args.capture) c.args.id c.args.n c.args.offset q.zero);
    }
