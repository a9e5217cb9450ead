-- A capture (document 01, "Refusal table"; document 000, "Discovery and Access"): a configuration space and two BAR captures, each with its
-- BAR number.
--   Capture       the five, as lists and numbers
--   captured      a capture from them
--   capture_of    the capture that the code's struct holds
-- Assumes nothing.
use Rattle.std.specs.Prelude.{ℕ, List}
use Rattle.capture.specs.declared.places.Capture as code

pub record Capture : Type 0 where
  pub config : List ℕ
  pub lo : ℕ
  pub low : List ℕ
  pub hi : ℕ
  pub high : List ℕ

abbrev pub captured : List ℕ → ℕ → List ℕ → ℕ → List ℕ → Capture
captured config lo low hi high = record { config = config; lo = lo; low = low; hi = hi; high = high }

abbrev pub capture_of : code.Capture → Capture
capture_of c = captured c.config.now c.lo c.low.now c.hi c.high.now
