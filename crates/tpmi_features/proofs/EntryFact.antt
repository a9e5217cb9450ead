-- Entry k of a capture's table: each answer exactly on its condition. Assumes nothing.
use Prim.Native.Nat.{ℕ, ◌+◌, ◌*◌}
use mathlib.Core.Path.{◌≡◌, ap, ◌∙◌}
use mathlib.Core.List.{[]}
use native.Mathlib.Omega.{arith}
use borrow.Author.Tests.{lt-leb, le-leb, leb-true, leb-false}
use lib.Dec.{leb}
use Rattle.words.specs.Answers.{gives, unless}
use Rattle.words.proofs.AnswerLaws.{unless_number, unless_gives, unless_refused, unless_passes, earliest_stop, first_take, first_zero, first_none, two_pass, two_zero, two_from}
use Rattle.words.proofs.Theorems.{exact_fact}
use Rattle.capture.specs.Capture.{Capture}
use Rattle.tpmi_entries.specs.Entry.{entry_at, values}
use Rattle.tpmi_discovery.specs.Table.{bar_of, table_of, entries_of}
use Rattle.tpmi_discovery.specs.Discovery.{discovery_number}
use Rattle.tpmi_discovery.proofs.DiscoveryFact.{discovery_small}
use Rattle.tpmi_features.specs.Entries.{entry_number, entry_for}
use Rattle.tpmi_features.specs.Facts.{EntryFact}

pub entry_fact : (c : Capture) (k : ℕ) → EntryFact c k
unfolding entry_for entry_number
entry_fact c k =
    record {
      handed_on = λ h. shown (earliest_stop _ _ h) ∙ unless_number _ _ h;
      missing = (
        λ e.
            let q = two_from (discovery_number c) _ (λ z. omega (arith, discovery_small c, z)) (unless_refused (entry_number c k) _ e).0 in
            (q.0, leb-true _ _ ((exact_fact [] (leb (entries_of c) k) 12 [] (λ z. omega arith) tt).0 q.1).1),
        λ h. shown (two_pass _ h.0 ∙ first_take _ _ (le-leb _ _ h.1)),
      );
      there = λ vs. (
        λ e. let u = unless_gives (entry_number c k) e in let z = (two_zero _ _).0 u.0 in (z.0, leb-false _ _ (first_zero _ tt z.1).0, u.1),
        λ h. unless_passes _ ((two_zero _ _).1 (h.0, first_none _ (lt-leb _ _ h.1, tt))) ∙ ap gives h.2,
      );
    }
  where
    shown : {n : ℕ} → entry_number c k ≡ n → unless (entry_number c k) (gives (values (entry_at (bar_of c) (table_of c + k * 8)))) ≡ unless n (gives (values (entry_at (bar_of c) (table_of c + k * 8))))
    shown e = ap (λ (n : ℕ). unless n (gives (values (entry_at (bar_of c) (table_of c + k * 8))))) e
