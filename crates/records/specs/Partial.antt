-- The reading rule (document 02, requests 1 and 10): records of one byte of kind and a body whose length the kind fixes, put together a byte
-- at a time. It hangs on a table of kinds and lengths and on the bytes that a trace may have, and on nothing else.
--   Rule, rule_of t l   a table and a limit
--   length_of t k       the bytes of a record of kind k, the kind's own among them; 0 for an unknown kind
--   kind_of p b         the kind of the record p once the byte b comes to it
--   begun at           nothing of a record yet, at place `at`
--   longer p b         p with the byte b;   halted p   p stopped at its start
--   cannot u p k       no further byte can come to p, a record of kind k: it is stopped, its kind is unknown, it is whole, or it would end
--                      past the limit
--   took_of u p b       p once the byte b has come
--   is_whole u p        all bytes of p are held
--   is_stopped u p      p is stopped, or is handed in as no reading leaves it
--   ended_of u p        p once the trace is declared ended
--   holding at h bs n w   a record at place `at` of which h bytes bs are held, n bytes of the piece being used, whole or not
--   gathered u n p xs  p once bytes of xs have come, up to the end of the first record that they make whole, n bytes being used before
--   up_to u p xs        these bytes
-- Assumes nothing.
use Rattle.std.specs.Prelude.{ℕ, suc, ◌+◌, List, [], ◌∷◌, Bool, true, false, cond, not, ◌&&◌, ◌||◌, ltb, leb, eqb, get_or, set, replicate}
use Rattle.records.specs.declared.partial.Partial.{Partial}
use Rattle.records.specs.declared.partial.Gathered.{Gathered}

pub record Rule : Type 0 where
  pub table : List ℕ
  pub limit : ℕ

abbrev pub rule_of : List ℕ → ℕ → Rule
rule_of t l = record { table = t; limit = l }

-- 0 in the table is an unknown kind, and so is a kind past its end or one of more than 32 bytes
unfoldable pub length_of : List ℕ → ℕ → ℕ
length_of t k = cond (leb (get_or t k 0) 32) (get_or t k 0) 0

-- ---- a record that is being put together

unfoldable pub kind_of : Partial → ℕ → ℕ
kind_of p b = cond (eqb p.held 0) b (get_or p.bytes 0 0)

abbrev pub begun : ℕ → Partial
begun at = record { place = at; held = 0; bytes = replicate 32 0; stopped = false }

abbrev pub longer : Partial → ℕ → Partial
longer p b = record { place = p.place; held = p.held + 1; bytes = set p.bytes p.held b; stopped = false }

abbrev pub halted : Partial → Partial
halted p = record { place = p.place; held = p.held; bytes = p.bytes; stopped = true }

unfoldable pub cannot : Rule → Partial → ℕ → Bool
cannot u p k = p.stopped || (leb (length_of u.table k) p.held || ltb u.limit (p.place + length_of u.table k))

unfoldable pub took_of : Rule → Partial → ℕ → Partial
took_of u p b = cond (cannot u p (kind_of p b)) (halted p) (longer p b)

unfoldable pub is_whole : Rule → Partial → Bool
is_whole u p = not p.stopped && eqb (length_of u.table (get_or p.bytes 0 0)) p.held

-- With nothing held a later place than the limit is stopped there.
unfoldable pub is_stopped : Rule → Partial → Bool
is_stopped u p = cond (eqb p.held 0) (p.stopped || ltb u.limit p.place) (cannot u p (get_or p.bytes 0 0))

unfoldable pub ended_of : Rule → Partial → Partial
ended_of u p = cond (is_stopped u p || not (eqb p.held 0)) (halted p) p

-- ---- a piece

abbrev pub holding : (place held : ℕ) (bytes : List ℕ) (used : ℕ) (whole : Bool) → Gathered
holding at h bs n w = record { partial = record { place = at; held = h; bytes = bs; stopped = false }; used = n; whole = w }

unfoldable pub gathered : Rule → ℕ → Partial → List ℕ → Gathered
gathered u n p [] = record { partial = p; used = n; whole = false }
gathered u n p (b ∷ bs) =
    cond (is_whole u (took_of u p b))
    (record { partial = took_of u p b; used = suc n; whole = true })
    (gathered u (suc n) (took_of u p b) bs)

unfoldable pub up_to : Rule → Partial → List ℕ → List ℕ
up_to u p [] = []
up_to u p (b ∷ bs) = b ∷ cond (is_whole u (took_of u p b)) [] (up_to u (took_of u p b) bs)
