-- The table is located exactly where one stands, and each other capture is refused with the number of the first rule it breaks. Assumes
-- nothing.
use Prim.Native.Nat.{ℕ, ◌+◌, ◌*◌, ◌≤◌, ◌<◌}
use mathlib.Core.Path.{◌≡◌, refl, sym, ◌∙◌, subst}
use mathlib.Core.Bool.{Bool, true, false}
use mathlib.Core.List.{List, [], ◌∷◌}
use mathlib.Core.Logic.{◌⊎◌, inl, inr, ⊎_elim, ◌↔◌, ◌≢◌}
use native.Mathlib.Omega.{arith}
use borrow.Author.Tests.{le-ltb, ltb-true, ltb-false, ne_eqb, eqb-true, eqb-false, not-false}
use lib.Dec.{ltb, eqb}
use lib.ListN.{length}
use Rattle.words.specs.Answers.{Answer, refused, gives}
use Rattle.words.specs.Bytes.{number_at}
use Rattle.words.proofs.TestLaws.{as_must, or_skip, or_neither, fails_exactly}
use Rattle.words.proofs.AnswerLaws.{unless_gives, unless_refused, unless_passes}
use Rattle.capture.specs.Capture.{Capture}
use Rattle.tpmi_structure.specs.Structure.{vsec_at}
use Rattle.tpmi_walk.specs.Facts.{Ends}
use Rattle.tpmi_walk.specs.Walk.{walk_of}
use Rattle.tpmi_walk.proofs.WalkFact.{walk_fact, walk_kept, Kept}
use Rattle.tpmi_discovery.specs.Table.{misshapen, before_walk, table_in, named_by, location_number, location_of}
use Rattle.tpmi_discovery.specs.Discovery.{discovery_of}
use Rattle.tpmi_discovery.specs.Facts.{Shaped, Vendor, bar_at, Named, Fits, HasTable, LacksTable, LocationFact}
use Rattle.tpmi_discovery.specs.Facts.LacksTable.{shape, vendor, walk, bir, table}
use Rattle.tpmi_discovery.proofs.TableLaws.{early_one, early_two, early_none, table_past, table_fits, bir_neither, bir_either, refuses_early, refuses_walk, passes_walk}
use Rattle.tpmi_discovery.proofs.DiscoveryLaws.{was_located}

-- ---- the shape of a capture

shaped_exactly : (c : Capture) → (misshapen (length c.config) c.lo c.hi ≡ false) ↔ Shaped c
unfolding misshapen
shaped_exactly c = (
  λ e.
      let a = or_neither _ _ e in
      let b = or_neither _ _ a.1 in
      let d = or_neither _ _ b.1 in
      record { config = eqb-true _ _ (not-false _ a.0); lo = ltb-false _ _ b.0; hi = ltb-false _ _ d.0; differ = eqb-false _ _ d.1 },
  λ s. or_skip _ (as_must s.config) ∙ or_skip _ (le-ltb _ _ s.lo) ∙ or_skip _ (le-ltb _ _ s.hi) ∙ ne_eqb _ _ s.differ,
)

-- ---- from what a capture is to the number

-- the number that an answer shows
number_zero : (c : Capture) {vs : List ℕ} → location_of c ≡ gives vs → location_number c ≡ 0
unfolding location_of
number_zero c e = (unless_gives (location_number c) e).0

number_is : (c : Capture) {n : ℕ} → location_of c ≡ refused n → location_number c ≡ n
unfolding location_of
number_is c e = (unless_refused (location_number c) _ e).0

module _ (c : Capture) (s : Shaped c) (v : Vendor c) where
  begins : before_walk c.config c.lo c.hi ≡ 0
  begins = early_none c.config c.lo c.hi ((shaped_exactly c).1 s) v

  module _ {a : ℕ} (w : Ends c.config (gives (a ∷ []))) where
    to_structure : location_of c ≡ named_by (vsec_at c.config a) c.lo c.low c.hi c.high
    to_structure = passes_walk c begins ((walk_fact c.config _).1 w)

    module _ (n : Named c a) where
      to_table : location_of c ≡ table_in (bar_at c a) (vsec_at c.config a).bir (vsec_at c.config a).offset (vsec_at c.config a).entries
      to_table = to_structure ∙ bir_either (vsec_at c.config a) c.lo c.low c.hi c.high n

      -- the table has no entry, or ends inside
      none_or_fits : Fits c a → ((vsec_at c.config a).entries ≡ 0) ⊎ ((vsec_at c.config a).offset + (vsec_at c.config a).entries * 8 ≤ length (bar_at c a))
      none_or_fits f = by (eqb (vsec_at c.config a).entries 0) refl
        where
          by : (t : Bool) → eqb (vsec_at c.config a).entries 0 ≡ t
              → ((vsec_at c.config a).entries ≡ 0) ⊎ ((vsec_at c.config a).offset + (vsec_at c.config a).entries * 8 ≤ length (bar_at c a))
          by true e = inl (eqb-true _ _ e)
          by false e = inr (f (eqb-false _ _ e))

stands_zero : (c : Capture) → HasTable c → location_number c ≡ 0
stands_zero c k =
    number_zero c (to_table c k.shaped k.vendor k.taken k.«named»
    ∙ table_fits (bar_at c k.place) _ _ _ (none_or_fits c k.shaped k.vendor k.taken k.«named» k.fits))

-- a table that does not fit has entries, and ends past
past : (c : Capture) (a : ℕ) → (Fits c a → ⊥) → ((vsec_at c.config a).entries ≢ 0) × (length (bar_at c a) < (vsec_at c.config a).offset + (vsec_at c.config a).entries * 8)
past c a h = (λ z. h (λ k. absurd (k z)), by (ltb (length (bar_at c a)) ((vsec_at c.config a).offset + (vsec_at c.config a).entries * 8)) refl)
  where
    by : (t : Bool) → ltb (length (bar_at c a)) ((vsec_at c.config a).offset + (vsec_at c.config a).entries * 8) ≡ t
        → length (bar_at c a) < (vsec_at c.config a).offset + (vsec_at c.config a).entries * 8
    by true e = ltb-true _ _ e
    by false e = absurd (h (λ k. ltb-false _ _ e))

early : (c : Capture) {n : ℕ} → before_walk c.config c.lo c.hi ≡ n → n ≢ 0 → location_number c ≡ n
early c e h = number_is c (refuses_early c (λ z. h (sym e ∙ z))) ∙ e

lacks_number : (c : Capture) (n : ℕ) → LacksTable c n → location_number c ≡ n
lacks_number c _ (shape h) = early c (early_one c.config c.lo c.hi ((fails_exactly _ (shaped_exactly c)).1 h)) (λ z. omega arith)
lacks_number c _ (vendor s h) = early c (early_two c.config c.lo c.hi ((shaped_exactly c).1 s) h) (λ z. omega arith)
lacks_number c _ (walk s v w) = number_is c (refuses_walk c (begins c s v) ((walk_fact c.config _).1 w))
lacks_number c _ (bir {a} s v w h) =
    number_is c (to_structure c s v w ∙ bir_neither (vsec_at c.config a) c.lo c.low c.hi c.high (λ e. h (inl e)) (λ e. h (inr e)))
lacks_number c _ (table {a} s v w n h) =
    let p = past c a h in number_is c (to_table c s v w n ∙ table_past (bar_at c a) _ _ _ p.0 p.1)

-- ---- and in every capture a table stands or is lacking

Outcome : Capture → Type 0
Outcome c = HasTable c ⊎ ((n : ℕ) × (n ≢ 0) × LacksTable c n)

module _ (c : Capture) (s : Shaped c) (v : Vendor c) {a : ℕ} (w : Ends c.config (gives (a ∷ []))) where
  stands : Named c a → Fits c a → Outcome c
  unfolding Outcome
  stands n f = inl (record { shaped = s; vendor = v; place = a; taken = w; «named» = n; fits = f })

  table_says : Named c a → Outcome c
  unfolding Outcome
  table_says n = by (eqb (vsec_at c.config a).entries 0) (ltb (length (bar_at c a)) ((vsec_at c.config a).offset + (vsec_at c.config a).entries * 8)) refl refl
    where
      by : (z l : Bool) → eqb (vsec_at c.config a).entries 0 ≡ z → ltb (length (bar_at c a)) ((vsec_at c.config a).offset + (vsec_at c.config a).entries * 8) ≡ l → HasTable c ⊎ ((n : ℕ) × (n ≢ 0) × LacksTable c n)
      by true l z≡ l≡ = stands n (λ h. absurd (h (eqb-true _ _ z≡)))
      by false false z≡ l≡ = stands n (λ h. ltb-false _ _ l≡)
      by false true z≡ l≡ = inr (7, (λ z. omega arith), table s v w n (λ f. absurd (omega (arith, f (eqb-false _ _ z≡), ltb-true (length (bar_at c a)) ((vsec_at c.config a).offset + (vsec_at c.config a).entries * 8) l≡))))

  bir_says : Outcome c
  unfolding Outcome
  bir_says = by (eqb (vsec_at c.config a).bir c.lo) (eqb (vsec_at c.config a).bir c.hi) refl refl
    where
      by : (l h : Bool) → eqb (vsec_at c.config a).bir c.lo ≡ l → eqb (vsec_at c.config a).bir c.hi ≡ h → HasTable c ⊎ ((n : ℕ) × (n ≢ 0) × LacksTable c n)
      by true h l≡ h≡ = table_says (inl (eqb-true _ _ l≡))
      by false true l≡ h≡ = table_says (inr (eqb-true _ _ h≡))
      by false false l≡ h≡ = inr (6, (λ z. omega arith), bir s v w (λ n. ⊎_elim (eqb-false _ _ l≡) (eqb-false _ _ h≡) n))

walk_says : (c : Capture) → Shaped c → Vendor c → (w : Answer) → Ends c.config w → Kept w → Outcome c
unfolding Outcome
walk_says c s v (refused n) e k = inr (n, (λ z. omega (arith, k.0)), walk s v e)
walk_says c s v (gives []) e k = absurd k
walk_says c s v (gives (a ∷ [])) e k = bir_says c s v e
walk_says c s v (gives (a ∷ b ∷ bs)) e k = absurd k

outcome : (c : Capture) → Outcome c
unfolding Outcome
outcome c = by (misshapen (length c.config) c.lo c.hi) (eqb (number_at c.config 0 2) 0x8086) refl refl
  where
    by : (m n : Bool) → misshapen (length c.config) c.lo c.hi ≡ m → eqb (number_at c.config 0 2) 0x8086 ≡ n → HasTable c ⊎ ((n : ℕ) × (n ≢ 0) × LacksTable c n)
    by true n m≡ n≡ = inr (1, (λ z. omega arith), shape ((fails_exactly _ (shaped_exactly c)).0 m≡))
    by false false m≡ n≡ = inr (2, (λ z. omega arith), vendor ((shaped_exactly c).0 m≡) (eqb-false _ _ n≡))
    by false true m≡ n≡ = walk_says c ((shaped_exactly c).0 m≡) (eqb-true _ _ n≡) (walk_of c.config) ((walk_fact c.config _).0 refl) (walk_kept c.config)

pub location_fact : (c : Capture) → LocationFact c
unfolding Outcome location_of discovery_of
location_fact c =
    record {
      located = (λ e. kept e (outcome c), stands_zero c);
      refused_by = λ n h. (λ e. broken n h e (outcome c), lacks_number c n);
      same = λ z. unless_passes _ (was_located c z) ∙ sym (unless_passes _ z);
    }
  where
    kept : location_number c ≡ 0 → HasTable c ⊎ ((n : ℕ) × (n ≢ 0) × LacksTable c n) → HasTable c
    kept e (inl k) = k
    kept e (inr r) = absurd (r.1 (sym (lacks_number c r.0 r.2) ∙ e))

    broken : (n : ℕ) → n ≢ 0 → location_number c ≡ n → HasTable c ⊎ ((n : ℕ) × (n ≢ 0) × LacksTable c n) → LacksTable c n
    broken n h e (inl k) = absurd (h (sym e ∙ stands_zero c k))
    broken n h e (inr r) = subst (LacksTable c) (sym (lacks_number c r.0 r.2) ∙ e) r.2
