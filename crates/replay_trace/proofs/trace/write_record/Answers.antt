-- `replay_trace::trace::write_record` meets its contract: the two refusals, and then the kind and the body in their places. Assumes nothing.
use Prim.Native.Nat.{ℕ, ◌≤◌}
use mathlib.Core.Path.{◌≡◌, sym, ap, ◌∙◌}
use mathlib.Core.List.{List, [], ◌∷◌}
use native.Mathlib.Omega.{arith}
use lib.ListN.{length}
use Rattle.words.specs.Answers.{gives}
use Rattle.energy_hall.specs.Hall.{Named}
use Rattle.replay_trace.specs.Trace.{call_on, row_of, kind_for, bytes_of}
use Rattle.replay_trace.proofs.TraceLaws.{length_by}
use Rattle.replay_trace.proofs.WriteLaws.{length_bytes, length_written, refuses_unsaid, refuses_short, number_taken, takes, record_stored}
use Rattle.replay_trace.proofs.trace.write_record.Goals as goal

pub returns-then-is_unsaid : goal.returns-then-is_unsaid
returns-then-is_unsaid c = let e = refuses_unsaid c.args.out.now (call_on c.args.channel c.args.call) (sym c.is_unsaid.ensures.answer ∙ c.if-is_unsaid.true) in record { answer = e.0; kept = e.1 }

pub returns-then-out-many : goal.returns-then-out-many
returns-then-out-many c =
    let x : Named = call_on c.args.channel c.args.call in
    let said = sym c.is_unsaid.ensures.answer ∙ c.if-is_unsaid.false in
    let many = length_written x said c.kind_of-kind.ensures.answer (length_by _ _ c.length_of-many.ensures.answer) in
    let e = refuses_short c.args.out.now x said (omega (arith, many, c.if-out-many.true)) in
    record { answer = e.0; kept = e.1 }

pub bounds-out-0 : goal.bounds-out-0
bounds-out-0 c =
    let x : Named = call_on c.args.channel c.args.call in
    let said = sym c.is_unsaid.ensures.answer ∙ c.if-is_unsaid.false in
    omega (arith, length_written x said c.kind_of-kind.ensures.answer (length_by _ _ c.length_of-many.ensures.answer), length_bytes x)

pub returns : goal.returns
returns c =
    let s : List ℕ = c.args.out.now in
    let x : Named = call_on c.args.channel c.args.call in
    let said = sym c.is_unsaid.ensures.answer ∙ c.if-is_unsaid.false in
    let many = length_written x said c.kind_of-kind.ensures.answer (length_by _ _ c.length_of-many.ensures.answer) in
    let room : length (bytes_of x) ≤ length s = omega (arith, many, c.if-out-many.false) in
    let t = takes s x (number_taken s x said room) in
    let e : c.widths_of.result ≡ row_of (kind_for x.call) = c.widths_of.ensures.answer ∙ ap row_of c.kind_of-kind.ensures.answer in
    record {
      answer = ap (λ (m : ℕ). gives (m ∷ [])) many ∙ t.0;
      kept = c.put_numbers.ensures.kept ∙ rw (e, c.numbers_of.ensures.answer, c.kind_of-kind.ensures.answer) (record_stored s x room) ∙ t.1;
    }
