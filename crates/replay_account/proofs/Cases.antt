-- The worked cases are computed; the night is the theorem of calls, and the night of energy_account.
-- Assumes nothing.
use Prim.Native.Nat.{◌^◌}
use mathlib.Core.Path.{◌≡◌, refl, ap, ap₂, ◌∙◌}
use mathlib.Core.Bool.{Bool, true, not, ◌&&◌}
use mathlib.Core.List.{List, [], ◌∷◌, ◌++◌, flatten}
use native.Mathlib.Omega.{arith}
use borrow.Author.Tests.{ltb-true, not-true}
use lib.Dec.{ltb}
use lib.ListN.{length}
use Rattle.words.specs.Answers.{Answer, first}
use Rattle.words.specs.Bytes.{number_at}
use Rattle.energy_channel.specs.Channel.{in_range, is_open, tests, values, taken}
use Rattle.energy_hall.specs.Hall.{Named, all_closed, tests_on, answer_on, leaves_on, leaves_all, hall_total}
use Rattle.energy_hall.proofs.Theorems.{in_turn}
use Rattle.energy_account.specs.Account.{calls}
use Rattle.energy_account.specs.Night.{night}
use Rattle.energy_account.proofs.Demand3.{closes_as_asked}
use Rattle.energy_account.proofs.Night.{night_fact}
use Rattle.records.specs.Partial.{length_of, kind_of, cannot, took_of, is_whole, is_stopped, ended_of, up_to}
use Rattle.records.specs.Machine.{Reader, ran, fed_by}
use Rattle.records_body.specs.Body.{size, extent, numbers_at, body_of, bytes_for}
use Rattle.replay_trace.specs.Trace.{call_on, meant, says_of, bytes_of, unsaid}
use Rattle.replay_steps.specs.Steps.{acts, stand, step_of, end_of}
use Rattle.replay_account.specs.Replay.{records_of, trace_of, AllSayable}
use Rattle.replay_account.specs.Cases.{CasesFact, NightTraceFact, NightClosed}
use Rattle.replay_account.proofs.Calls.{written_say, calls_fact}
use Rattle.replay_trace.specs.Facts.{SeenFits, CallFits}
use Rattle.words.proofs.TestLaws.{and_both}
use Rattle.energy_calls.specs.declared.calls.Reading.{Reading}
use Rattle.energy_calls.specs.declared.calls.Call.{Call}
use Rattle.energy_calls.specs.declared.calls.Call.TheVariants.{Open, Read, Resume, Close, Ask}
use Rattle.energy_channel.specs.declared.channel.Channel.{Channel}

pub cases_fact : CasesFact
unfolding step_of end_of stand acts says_of meant bytes_of body_of bytes_for unsaid numbers_at extent size number_at up_to took_of is_whole is_stopped ended_of cannot kind_of length_of ran fed_by answer_on leaves_on tests_on tests values taken is_open in_range first
cases_fact =
    record {
      unknown = refl;
      kind_8 = refl;
      kind_0 = refl;
      at_the_limit = refl;
      last_place = refl;
      past_the_limit = refl;
      by_its_kind = refl;
      later_place = refl;
      no_channel = refl;
      one_byte = refl;
      one_byte_ends = refl;
      empty = refl;
      held_unknown = refl;
      held_unknown_ends = refl;
      held_known = refl;
      held_whole = refl;
      held_late = refl;
      out_of_range = refl;
      opens = refl;
      reads = refl;
      resumes = refl;
      closes = refl;
      opens_booted = refl;
      reads_booted = refl;
      resumes_booted = refl;
      reads_boot_0 = refl;
      shortest = refl;
      old_kind = refl;
      sayable = record { said = refl; fits = (omega arith, (omega arith, omega arith, omega arith)) };
      all_ones = refl;
      unit_too_large = refl;
      channel_too_large = refl;
    }

-- ---- the night

-- that records say some calls, as one test
seen_test : Reading → Bool
seen_test q = ltb q.tick (2 ^ 64) && (ltb q.status (2 ^ 64) && ltb q.boot (2 ^ 32))

fits_test : Call → Bool
fits_test (Open o) = ltb o.gap (2 ^ 32) && seen_test o.seen
fits_test (Read q) = seen_test q
fits_test (Resume q) = seen_test q
fits_test Close = true
fits_test Ask = true

sayable_test : List Named → Bool
sayable_test [] = true
sayable_test (x ∷ xs) = not (unsaid x) && (fits_test x.call && sayable_test xs)

seen_fits : (q : Reading) → seen_test q ≡ true → SeenFits q
unfolding seen_test
seen_fits q e =
    let p = and_both _ _ e in
    let r = and_both _ _ p.1 in
    (ltb-true _ _ p.0, ltb-true _ _ r.0, ltb-true _ _ r.1)

call_fits : (a : Call) → fits_test a ≡ true → CallFits a
unfolding fits_test
call_fits (Open o) e = let p = and_both _ _ e in (ltb-true _ _ p.0, seen_fits o.seen p.1)
call_fits (Read q) e = seen_fits q e
call_fits (Resume q) e = seen_fits q e
call_fits Close e = tt
call_fits Ask e = tt

all_sayable : (xs : List Named) → sayable_test xs ≡ true → AllSayable xs
unfolding sayable_test
all_sayable [] e = tt
all_sayable (x ∷ xs) e =
    let p = and_both _ _ e in
    let r = and_both _ _ p.1 in
    (record { said = not-true _ p.0; fits = call_fits x.call r.0 }, all_sayable xs r.1)

night_bytes : length (trace_of (calls night)) ≡ 324
unfolding flatten bytes_of body_of bytes_for size
night_bytes = refl

pub night_trace_fact : NightTraceFact
unfolding unsaid seen_test fits_test sayable_test
night_trace_fact ps e =
    let said = written_say (calls night) (all_sayable (calls night) refl) in
    let c = calls_fact all_closed 0 (calls night) (records_of (calls night)) ps said e (omega (arith, night_bytes)) in
    let left = ap (λ (h : Reader (List Channel)). h.content) c.leaves in
    record {
      made = c.made;
      answered = c.answers ∙ night_fact.answered;
      summed = ap (λ (cs : List Channel). answer_on cs 3 Ask) left ∙ night_fact.summed;
      hall = ap (λ (cs : List Channel). hall_total cs 14) left ∙ night_fact.hall;
    }

-- ---- and channel 3 closed

closing : List Named
closing = call_on 3 Close ∷ []

closed_bytes : length (trace_of (calls night ++ closing)) ≡ 326
unfolding flatten closing bytes_of body_of bytes_for size
closed_bytes = refl

pub night_closed : NightClosed
unfolding closing unsaid seen_test fits_test sayable_test
night_closed ps e =
    let xs = calls night ++ closing in
    let c = calls_fact all_closed 0 xs (records_of xs) ps (written_say xs (all_sayable xs refl)) e (omega (arith, closed_bytes)) in
    c.answers
    ∙ (in_turn all_closed (calls night) closing).answer
    ∙ ap₂ (λ (l : List Answer) (a : Answer). l ++ a ∷ []) night_fact.answered (closes_as_asked (leaves_all all_closed (calls night)) 3 ∙ night_fact.summed)
