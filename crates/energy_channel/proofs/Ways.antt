-- The ways of a call on one channel are its refusals: every way has its number, and every call goes one of the ways. Assumes nothing.
use Prim.Native.Nat.{ℕ, ◌+◌, ◌-◌, ◌≤◌}
use mathlib.Core.Path.{◌≡◌, refl, sym, subst, ◌∙◌}
use mathlib.Core.Bool.{Bool, true, false}
use native.Mathlib.Omega.{arith}
use native.Mathlib.Decide.{dec_le, ℕ_discrete as decide}
use Rattle.energy_channel.specs.Channel.{most, in_range, is_open, rise, refusal_of}
use Rattle.energy_channel.specs.Ways.{Way, opens_open, opens_out_of_range, opens, reads_closed, reads_another_boot, reads_no_later, reads_past_the_gap, reads_too_much, reads, resumes_closed, resumes_no_later, resumes, closes_closed, closes, asks_closed, asks}
use Rattle.energy_channel.specs.Facts.{Ways}
use Rattle.energy_calls.specs.declared.calls.Opening.{Opening}
use Rattle.energy_calls.specs.declared.calls.Reading.{Reading}
use Rattle.energy_calls.specs.declared.calls.Call.{Call}
use Rattle.energy_calls.specs.declared.calls.Call.TheVariants.{Open, Read, Resume, Close, Ask}
use Rattle.energy_channel.specs.declared.channel.Channel.{Channel}
use Rattle.energy_channel.proofs.ChannelLaws.{opens_22, opens_17, opens_0, reads_22, reads_29, reads_20, reads_21, reads_23, reads_0, resumes_22, resumes_20, resumes_0, closes_like_asks, asks_22, asks_0}

way_number : {c : Channel} {a : Call} {n : ℕ} → Way c a n → refusal_of c a ≡ n
way_number {c} (opens_open {o} p) = opens_22 c o p
way_number {c} (opens_out_of_range {o} p r) = opens_17 c o p r
way_number {c} (opens {o} p r) = opens_0 c o p r
way_number {c} (reads_closed {q} p) = reads_22 c q p
way_number {c} (reads_another_boot {q} p b) = reads_29 c q p b
way_number {c} (reads_no_later {q} p b h) = reads_20 c q p b h
way_number {c} (reads_past_the_gap {q} p b h g) = reads_21 c q p b h g
way_number {c} (reads_too_much {q} p b h g m) = reads_23 c q _ refl p b h g m
way_number {c} (reads {q} p b h g m) = reads_0 c q _ refl p b h g m
way_number {c} (resumes_closed {q} p) = resumes_22 c q p
way_number {c} (resumes_no_later {q} p h) = resumes_20 c q p h
way_number {c} (resumes {q} p h) = resumes_0 c q p h
way_number {c} (closes_closed p) = closes_like_asks c ∙ asks_22 c p
way_number {c} (closes p) = closes_like_asks c ∙ asks_0 c p
way_number {c} (asks_closed p) = asks_22 c p
way_number {c} (asks p) = asks_0 c p

-- a call goes some way
abbrev Some : Channel → Call → Type 0
Some c a = (n : ℕ) × Way c a n

module _ (c : Channel) where
  opens_some : (o : Opening) (b r : Bool) → is_open c ≡ b → in_range o.unit o.gap ≡ r → Some c (Open o)
  opens_some o true r p d = (22, opens_open p)
  opens_some o false false p d = (17, opens_out_of_range p d)
  opens_some o false true p d = (0, opens p d)

  reads_some : (q : Reading) (b : Bool) → is_open c ≡ b → Dec (q.boot ≡ c.boot) → Dec (q.tick ≤ c.tick) → Dec (q.tick - c.tick ≤ c.gap)
      → Dec (c.total + rise c q.status ≤ most) → Some c (Read q)
  reads_some q false p d h g m = (22, reads_closed p)
  reads_some q true p (no d) h g m = (29, reads_another_boot p d)
  reads_some q true p (yes d) (yes h) g m = (20, reads_no_later p d h)
  reads_some q true p (yes d) (no h) (no g) m = (21, reads_past_the_gap {q = q} p d (omega arith) (omega arith))
  reads_some q true p (yes d) (no h) (yes g) (no m) = (23, reads_too_much {q = q} p d (omega arith) g (omega arith))
  reads_some q true p (yes d) (no h) (yes g) (yes m) = (0, reads {q = q} p d (omega arith) g m)

  resumes_some : (q : Reading) (b : Bool) → is_open c ≡ b → Dec (q.tick ≤ c.tick) → Some c (Resume q)
  resumes_some q false p h = (22, resumes_closed p)
  resumes_some q true p (yes h) = (20, resumes_no_later p h)
  resumes_some q true p (no h) = (0, resumes {q = q} p (omega arith))

  closes_some : (b : Bool) → is_open c ≡ b → Some c Close
  closes_some false p = (22, closes_closed p)
  closes_some true p = (0, closes p)

  asks_some : (b : Bool) → is_open c ≡ b → Some c Ask
  asks_some false p = (22, asks_closed p)
  asks_some true p = (0, asks p)

  way_some : (a : Call) → Some c a
  way_some (Open o) = opens_some o (is_open c) (in_range o.unit o.gap) refl refl
  way_some (Read q) = reads_some q (is_open c) refl (decide _ _) (dec_le _ _) (dec_le _ _) (dec_le _ _)
  way_some (Resume q) = resumes_some q (is_open c) refl (dec_le _ _)
  way_some Close = closes_some (is_open c) refl
  way_some Ask = asks_some (is_open c) refl

pub ways : Ways
ways c a n = (λ e. subst (Way c a) (sym (way_number (way_some c a).1) ∙ e) (way_some c a).1, way_number)
