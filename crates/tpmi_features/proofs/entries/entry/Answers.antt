-- `tpmi_features::entries::entry` meets its contract: discovery's refusal, 12, or the numbers of the entry. Assumes nothing.
use Prim.Native.Nat.{ℕ, ◌+◌, ◌*◌, ◌≤◌, ◌<◌}
use mathlib.Core.Path.{refl, sym, ap, ap₂, ◌∙◌, subst}
use mathlib.Core.List.{List}
use Rattle.words.specs.Answers.{gives}
use Rattle.words.proofs.AnswerLaws.{stage_stops}
use Rattle.words.proofs.DoneLaws.{handed_on}
use Rattle.capture.specs.Capture.{capture_of}
use Rattle.tpmi_entries.specs.Entry.{entry_at, values}
use Rattle.tpmi_entries.specs.declared.entry.Entry.{Entry}
use Rattle.tpmi_discovery.specs.Discovery.{discovery_of, discovery_number}
use Rattle.tpmi_discovery.proofs.TableLaws.{bar_named}
use Rattle.tpmi_discovery.proofs.DiscoveryLaws.{table_place}
use Rattle.tpmi_features.specs.Entries.{entry_for, entry_number}
use Rattle.tpmi_features.proofs.EntryFact.{entry_fact}
use Rattle.tpmi_features.proofs.entries.entry.Goals as goal

pub returns-in_err-t : goal.returns-in_err-t
unfolding entry_for entry_number discovery_of
returns-in_err-t c = record {
  answer = handed_on values c.from_residual.result c.from_residual.ensures.1
      ∙ sym (stage_stops (discovery_number _) _ _ _ (sym c.in_err-t.ensures.answer));
}

pub returns-then-t-k : goal.returns-then-t-k
returns-then-t-k c =
    let k : ℕ = c.args.k in
    let q = table_place (capture_of c.args.capture) (sym c.in_ok-t.ensures.answer) in
    record { answer = sym ((entry_fact (capture_of c.args.capture) k).missing.1 (q.zero, subst (λ (n : ℕ). n ≤ k) q.entries c.if-t-k.true)) }

pub returns : goal.returns
returns c =
    let k : ℕ = c.args.k in
    let q = table_place (capture_of c.args.capture) (sym c.in_ok-t.ensures.answer) in
    record {
      answer = ap (λ (e : Entry). gives (values e))
          (c.entry_at.ensures.answer ∙ ap (λ (j : ℕ). entry_at c.bar.result.now (c.in_ok-t.t.start + j * 8)) c.from.ensures
          ∙ ap₂ (λ (s : List ℕ) (a : ℕ). entry_at s (a + k * 8)) (c.bar.ensures.part ∙ bar_named (capture_of c.args.capture) q.bir) q.start)
          ∙ sym (((entry_fact (capture_of c.args.capture) k).there _).1 (q.zero, subst (λ (n : ℕ). k < n) q.entries c.if-t-k.false, refl));
    }
