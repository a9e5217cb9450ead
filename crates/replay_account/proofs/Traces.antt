-- Any bytes at all, replayed: records in front, and a rest from which none can be read.
-- Assumes nothing.
use Prim.Native.Nat.{ℕ, ◌+◌, ◌-◌, ◌≤◌, ◌<◌}
use mathlib.Core.Path.{◌≡◌, refl, sym, ap, subst, ◌∙◌}
use mathlib.Core.Logic.{inl, inr}
use mathlib.Core.Bool.{Bool, true, false}
use mathlib.Core.List.{List, [], ◌∷◌, ◌++◌, append-nil, flatten}
use native.Mathlib.Omega.{arith}
use lib.ListN.{length, replicate, length-append, length-replicate}
use lib.Dec.{ltb, eqb}
use borrow.Author.Tests.{ltb-true, ltb-false, eqb-true, eqb-false}
use Rattle.energy_hall.specs.Hall.{leaves_all}
use Rattle.records.specs.Partial.{rule_of, length_of, begun, halted, ended_of}
use Rattle.records.specs.Machine.{Done, and_then, ran, Reader, reader, keeps}
use Rattle.records.specs.Facts.{IsRecord}
use Rattle.records.proofs.Cuts.{ran_append}
use Rattle.records.proofs.PartialLaws.{stopped_said}
use Rattle.records.proofs.Theorems.{reads, end_fact}
use Rattle.records.specs.declared.partial.Partial.{Partial}
use Rattle.replay_trace.specs.Trace.{lengths}
use Rattle.replay_steps.specs.Steps.{most_bytes, rule, Replied, acts, fed, replayed, Told, nothing_yet, stops, stand, Step, step_by, end_of}
use Rattle.replay_account.specs.Replay.{calls_in, answers_in, Rest, Split, shows_at, ends_at}
use Rattle.replay_account.specs.Facts.{TraceReplayed, TraceFact}
use Rattle.replay_account.proofs.Calls.{stops_halted, stands_free, begun_stands, good_end, replies, replies_calls, replies_answers, replay_calls}
use Rattle.energy_channel.specs.declared.channel.Channel.{Channel}

-- ---- the rest alone

-- no call is made of it, the channels stay, and it shows and ends as it must
record Rested (cs : List Channel) (place : ℕ) (zs : List ℕ) (d : Done (Reader (List Channel)) Replied) : Type 0 where
  silent : d.answers ≡ []
  channels : d.state.content ≡ cs
  shows : stand d.state.partial ≡ shows_at place zs
  ends : (end_of d.state).outcome ≡ ends_at place zs
  kept : (end_of d.state).state.content ≡ cs

-- the end of what is held or stopped
ended_at : (cs : List Channel) (p q : Partial) → ended_of (rule_of lengths most_bytes) p ≡ halted q
    → end_of (reader cs p) ≡ record { state = reader cs (halted q); used = 0; outcome = stops q.place }
unfolding end_of
ended_at cs p q e =
    ap (λ (r : Partial). step_by 0 (keeps cs r)) e
    ∙ ap (λ (t : Told). record { state = reader cs (halted q); used = 0; outcome = t }) (stops_halted q)

-- a state p that ends stopped at the place
rested : (cs : List Channel) (place z : ℕ) (zs : List ℕ) (p : Partial) → replayed (reader cs (begun place)) (z ∷ zs) ≡ keeps cs p
    → ended_of (rule_of lengths most_bytes) p ≡ halted p → p.place ≡ place → stand p ≡ shows_at place (z ∷ zs)
    → Rested cs place (z ∷ zs) (replayed (reader cs (begun place)) (z ∷ zs))
rested cs place z zs p e f g h =
    subst (Rested cs place (z ∷ zs)) (sym e)
    (record {
      silent = refl;
      channels = refl;
      shows = h;
      ends = ap (λ (s : Step). s.outcome) (ended_at cs p p f) ∙ ap stops g;
      kept = ap (λ (s : Step). s.state.content) (ended_at cs p p f);
    })

rest_replayed : (cs : List Channel) (place : ℕ) (zs : List ℕ) → place ≤ most_bytes → Rest place zs → Rested cs place zs (replayed (reader cs (begun place)) zs)
unfolding ran
rest_replayed cs place [] m r =
    let good = good_end cs place m in
    record {
      silent = refl;
      channels = refl;
      shows = begun_stands place m;
      ends = ap (λ (s : Step). s.outcome) good;
      kept = ap (λ (s : Step). s.state.content) good;
    }
rest_replayed cs place (k ∷ zs) m r = go (eqb many 0) refl (ltb most_bytes (place + many)) refl
  where
    xs : List ℕ
    xs = k ∷ zs

    many : ℕ
    many = length_of lengths k

    -- stopped at its kind's byte
    stopped : replayed (reader cs (begun place)) xs ≡ keeps cs (halted (begun place)) → stops place ≡ shows_at place xs
        → Rested cs place xs (replayed (reader cs (begun place)) xs)
    stopped e h =
        let p = halted (begun place) in
        let f = (end_fact (rule_of lengths most_bytes) p).stops (inl (sym (stopped_said (rule_of lengths most_bytes) p refl refl))) in
        rested cs place k zs p e f refl (stops_halted (begun place) ∙ h)

    -- held: the bytes that are missing are taken as zeros
    held : (many ≡ 0 → ⊥) → place + many ≤ most_bytes → length xs < many → nothing_yet ≡ shows_at place xs
        → Rested cs place xs (replayed (reader cs (begun place)) xs)
    held some fits short h =
        let ys = replicate {A = ℕ} (many - length xs) 0 in
        let missing : length ys ≡ many - length xs = length-replicate {A = ℕ} (many - length xs) 0 in
        let long : length (xs ++ ys) ≡ many = omega (arith, length-append xs ys, missing, short) in
        let whole : IsRecord (rule_of lengths most_bytes) (xs ++ ys) = record { some = omega (arith, long, short); long = sym long } in
        let u = (reads rule acts).unfinished cs place xs ys whole (omega arith) (omega (arith, missing, short)) (omega (arith, long, fits)) in
        rested cs place k zs u.0 u.1 u.4 u.2.starts (stands_free u.0 u.3 ∙ h)

    go : (u : Bool) → eqb many 0 ≡ u → (v : Bool) → ltb most_bytes (place + many) ≡ v → Rested cs place xs (replayed (reader cs (begun place)) xs)
    go true e v f = stopped ((reads rule acts).unknown cs place k zs (eqb-true _ _ e)) (rw e)
    go false e true f = stopped ((reads rule acts).late cs place k zs (ltb-true _ _ f)) (rw (e, f))
    go false e false f = held (eqb-false _ _ e) (ltb-false _ _ f) (short r) (rw (e, f))
      where
        short : Rest place xs → length xs < many
        short (inl n) = absurd (eqb-false _ _ e n)
        short (inr (inl l)) = let n : place + many ≤ most_bytes = ltb-false _ _ f in absurd (omega (arith, l, n))
        short (inr (inr l)) = l

-- ---- records, and the rest

module _ (cs : List Channel) (place : ℕ) {xs : List ℕ} (m : place ≤ most_bytes) (s : Split place xs) where
  abbrev left : List Channel
  left = leaves_all cs s.front

  abbrev next : ℕ
  next = place + length (flatten s.records)

  two : replayed (reader cs (begun place)) xs
      ≡ and_then (record { state = reader left (begun next); answers = replies cs s.front }) (replayed (reader left (begun next)) s.rest)
  two =
      ap (replayed (reader cs (begun place))) s.split
      ∙ ran_append fed (reader cs (begun place)) (flatten s.records) s.rest
      ∙ ap (λ (d : Done (Reader (List Channel)) Replied). and_then d (replayed d.state s.rest))
      (replay_calls cs place s.front s.records s.say (s.fits m))

  pub trace_replayed : TraceReplayed cs place s (replayed (reader cs (begun place)) xs)
  trace_replayed =
      let r = rest_replayed left next s.rest (s.fits m) s.none in
      let none : replies cs s.front ++ (replayed (reader left (begun next)) s.rest).answers ≡ replies cs s.front =
      ap (λ (l : List Replied). replies cs s.front ++ l) r.silent ∙ append-nil (replies cs s.front) in
      subst (TraceReplayed cs place s) (sym two)
      (record {
        made = ap calls_in none ∙ replies_calls cs s.front;
        answers = ap answers_in none ∙ replies_answers cs s.front;
        channels = r.channels;
        shows = r.shows;
        ends = r.ends;
        kept = r.kept;
      })

pub trace_fact : TraceFact
trace_fact cs place ps m s = subst (TraceReplayed cs place s) (sym ((reads rule acts).cuts (reader cs (begun place)) ps)) (trace_replayed cs place m s)
