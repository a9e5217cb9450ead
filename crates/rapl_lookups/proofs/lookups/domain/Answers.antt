-- `rapl_lookups::lookups::domain` meets its contract: the instance's refusal, or what is said of its bytes. Assumes nothing.
use Prim.Native.Nat.{ℕ}
use mathlib.Core.Path.{sym, ap, ◌∙◌}
use mathlib.Core.List.{List}
use Rattle.words.specs.Answers.{refused}
use Rattle.words.specs.Told.{refused_in}
use Rattle.capture.specs.Capture.{capture_of}
use Rattle.capture.specs.Told.{told}
use Rattle.rapl_domains.specs.Domains.{domain_of}
use Rattle.rapl_lookups.specs.Lookups.{domain_for}
use Rattle.tpmi_features.proofs.OrLaws.{handed_on, said_of}
use Rattle.rapl_lookups.proofs.lookups.domain.Goals as goal

pub returns-in_default : goal.returns-in_default
unfolding domain_for
returns-in_default c = record {
  answer = ap refused (c.number_of.ensures.answer ∙ ap refused_in c.in_default.is)
      ∙ handed_on (capture_of c.args.capture) 0 _ (λ (s : List ℕ). domain_of s c.args.n) (sym (ap told c.in_default.is) ∙ c.instance_place-placed.ensures.answer);
}

pub returns : goal.returns
unfolding domain_for
returns c = record { answer = said_of (capture_of c.args.capture) 0 _ (λ (s : List ℕ). domain_of s c.args.n) (sym (ap told c.in-Ok.is) ∙ c.instance_place-placed.ensures.answer) c.part.ensures.part c.domain_in.ensures.answer }
