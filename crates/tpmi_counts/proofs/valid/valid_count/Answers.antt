-- `tpmi_counts::valid::valid_count` meets its contract: the feature's refusal, or the count over its bank. Assumes nothing.
use Prim.Native.Nat.{ℕ}
use mathlib.Core.Path.{sym, ap, ap₂, ◌∙◌}
use mathlib.Core.List.{List, [], ◌∷◌}
use Rattle.words.specs.Answers.{gives}
use Rattle.words.proofs.DoneLaws.{handed_on}
use Rattle.capture.specs.Capture.{capture_of}
use Rattle.tpmi_discovery.specs.Table.{bar_of}
use Rattle.tpmi_features.specs.Instances.{bank_for}
use Rattle.tpmi_counts.specs.Valid.{valid_count_in}
use Rattle.tpmi_features.proofs.InstanceLaws.{bank_place, bank_roomy}
use Rattle.tpmi_discovery.proofs.TableLaws.{bar_named}
use Rattle.tpmi_counts.proofs.CountLaws.{count_refused, count_found}
use Rattle.tpmi_counts.proofs.valid.valid_count.Goals as goal

pub returns-in_err-bank : goal.returns-in_err-bank
returns-in_err-bank c = record {
  answer = handed_on (λ x. x ∷ []) c.from_residual.result c.from_residual.ensures.1
      ∙ sym (count_refused (capture_of c.args.capture) _ (sym c.in_err-bank.ensures.answer));
}

pub count_valid-requires : goal.count_valid-requires
count_valid-requires c =
    let r = bank_roomy (capture_of c.args.capture) c.args.id (bank_place (capture_of c.args.capture) _ (sym c.in_ok-bank.ensures.answer)) in
    (r.start, r.size, r.count)

pub returns : goal.returns
returns c =
    let q = bank_place (capture_of c.args.capture) c.args.id (sym c.in_ok-bank.ensures.answer) in
    record {
      answer = ap (λ (x : ℕ). gives (x ∷ []))
          (c.count_valid.ensures.answer
          ∙ ap₂ (λ (s : List ℕ) (a : ℕ). valid_count_in s a c.in_ok-bank.bank.size c.in_ok-bank.bank.count) (c.bar.ensures.part ∙ bar_named (capture_of c.args.capture) q.bir) q.start
          ∙ ap₂ (λ (z k : ℕ). valid_count_in (bar_of (capture_of c.args.capture)) (bank_for (capture_of c.args.capture) c.args.id).start z k) q.size q.count)
          ∙ sym (count_found (capture_of c.args.capture) c.args.id q.zero);
    }
