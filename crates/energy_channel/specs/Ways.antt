-- The ways that a call on one channel can go, in plain words: one line for each number, with its condition and those of the tests before
-- it failed (document 01, "Energy channels" and "Refusal table", and document 02, request 4, for 29; 12 comes before them where there is no
-- such channel). Number 0 is an accepted call. That `refusalOf` gives exactly these is the theorem Ways of Facts.antt.
-- Assumes nothing.
use Rattle.std.specs.Prelude.{ℕ, ◌+◌, ◌-◌, ◌≤◌, ◌<◌, ◌≡◌, ◌≢◌, true, false}
use Rattle.energy_channel.specs.Channel.{most, in_range, is_open, rise}
use Rattle.energy_calls.specs.declared.calls.Opening.{Opening}
use Rattle.energy_calls.specs.declared.calls.Reading.{Reading}
use Rattle.energy_calls.specs.declared.calls.Call.{Call}
use Rattle.energy_calls.specs.declared.calls.Call.TheVariants.{Open, Read, Resume, Close, Ask}
use Rattle.energy_channel.specs.declared.channel.Channel.{Channel}

pub data Way (c : Channel) : Call → ℕ → Type 0 where
  opens_open : {o : Opening} → is_open c ≡ true → Way c (Open o) 22
  opens_out_of_range : {o : Opening} → is_open c ≡ false → in_range o.unit o.gap ≡ false → Way c (Open o) 17
  opens : {o : Opening} → is_open c ≡ false → in_range o.unit o.gap ≡ true → Way c (Open o) 0
  reads_closed : {q : Reading} → is_open c ≡ false → Way c (Read q) 22
  reads_another_boot : {q : Reading} → is_open c ≡ true → q.boot ≢ c.boot → Way c (Read q) 29
  reads_no_later : {q : Reading} → is_open c ≡ true → q.boot ≡ c.boot → q.tick ≤ c.tick → Way c (Read q) 20
  reads_past_the_gap : {q : Reading} → is_open c ≡ true → q.boot ≡ c.boot → c.tick < q.tick → c.gap < q.tick - c.tick → Way c (Read q) 21
  reads_too_much : {q : Reading} → is_open c ≡ true → q.boot ≡ c.boot → c.tick < q.tick → q.tick - c.tick ≤ c.gap
      → most < c.total + rise c q.status → Way c (Read q) 23
  reads : {q : Reading} → is_open c ≡ true → q.boot ≡ c.boot → c.tick < q.tick → q.tick - c.tick ≤ c.gap
      → c.total + rise c q.status ≤ most → Way c (Read q) 0
  resumes_closed : {q : Reading} → is_open c ≡ false → Way c (Resume q) 22
  resumes_no_later : {q : Reading} → is_open c ≡ true → q.tick ≤ c.tick → Way c (Resume q) 20
  resumes : {q : Reading} → is_open c ≡ true → c.tick < q.tick → Way c (Resume q) 0
  closes_closed : is_open c ≡ false → Way c Close 22
  closes : is_open c ≡ true → Way c Close 0
  asks_closed : is_open c ≡ false → Way c Ask 22
  asks : is_open c ≡ true → Way c Ask 0
