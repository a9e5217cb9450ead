-- The place formula, and the roads to one register. Assumes nothing.
use Prim.Native.Nat.{ℕ, ◌+◌, ◌*◌, ◌≤◌}
use mathlib.Core.Path.{◌≡◌, sym, ap, ◌∙◌}
use mathlib.Core.List.{List, [], ◌∷◌}
use native.Mathlib.Nat.{mul_assoc}
use native.Mathlib.Omega.{arith}
use lib.ListN.{length, drop, length-take}
use Rattle.words.specs.Answers.{gives}
use Rattle.words.specs.Bytes.{number_at}
use Rattle.words.proofs.AnswerLaws.{unless_both, unless_passes}
use Rattle.words.proofs.NumberLaws.{number_part}
use Rattle.tpmi_banks.specs.Faults.{bank_of, bank_in}
use Rattle.tpmi_banks.specs.Facts.{Filled}
use Rattle.tpmi_banks.specs.declared.faults.Bank.{Bank}
use Rattle.capture.specs.Capture.{Capture}
use Rattle.tpmi_discovery.specs.Table.{bir_of, bar_of, table_of}
use Rattle.tpmi_features.specs.Instances.{bank_for, size_for, feature_number, start_for, instance_number, instance_part}
use Rattle.tpmi_features.proofs.LookupFact.{lookup_fact, place_fact}
use Rattle.tpmi_features.proofs.InsideLaws.{feature_found}
use Rattle.tpmi_registers.specs.Registers.{register_number, register_place_of, register_of}
use Rattle.tpmi_registers.proofs.RegisterLaws.{content_found}
use Rattle.tpmi_registers.proofs.RegisterPlaceFact.{register_place_fact}
use Rattle.rapl_domains.proofs.DomainFact.{domain_fact}
use Rattle.rapl_registers.specs.Contents.{register_place, register_at, content_of}
use Rattle.rapl_registers.proofs.ContentFact.{register_fact}
use Rattle.rapl_lookups.specs.Lookups.{content_for}
use Rattle.rapl_writes.specs.Next.{next_of, next_for}
use Rattle.rapl_writes.specs.Write.{write_number, limit_place}
use Rattle.rapl_writes.proofs.NextLaws.{given_by, next_inside}
use Rattle.rapl_writes.proofs.WriteFact.{captures_fact}
use Rattle.tpmi_features.specs.Entries.{entry_there}
use Rattle.stamp.specs.Roads.{Stands, place_by, domain_offset, FormulaFact, RoadsFact, StoreBounds}
use Rattle.stamp.proofs.Worked.{board_found, board_invalid}

-- ---- the formula

module _ (c : Capture) (id k : ℕ) (f : feature_number c id ≡ 0) (s : Stands c id k) where
  filled : Filled (bank_in (bar_of c) (table_of c) k)
  unfolding bank_in bank_of
  filled = (s.instances, s.words)

  named : (bank_in (bar_of c) (table_of c) k).id ≡ id
  unfolding bank_in bank_of
  named = s.identifier

  -- the feature's bank is that of its entry
  only : bank_in (bar_of c) (table_of c) k ≡ bank_for c id
  only = (place_fact c id 0).only f k s.in_table filled named

  place_is : (i at : ℕ) → start_for c id i + at ≡ place_by c (entry_there c k) i at
  unfolding bank_in bank_of
  place_is i at =
      ap (λ (b : Bank). b.start + i * (b.words * 4) + at) (sym only)
      ∙ ap (λ (x : ℕ). table_of c + (entry_there c k).offset * 1024 + x + at) (sym (mul_assoc i (entry_there c k).words 4))

stands_some : (c : Capture) (id : ℕ) → feature_number c id ≡ 0 → (k : ℕ) × Stands c id k
unfolding bank_in bank_of
stands_some c id f =
    let h = ((lookup_fact c id 0).feature_found.0 f).1 in
    (h.0, record { in_table = h.1; identifier = h.3; instances = h.2.0; words = h.2.1 })

pub formula_fact : (c : Capture) (id i at : ℕ) → FormulaFact c id i at
unfolding register_place_of
formula_fact c id i at =
    record {
      stands = λ z. stands_some c id (there z);
      place = λ z k s. unless_passes _ z ∙ ap (λ (p : ℕ). gives (bir_of c ∷ p ∷ 8 ∷ 1 ∷ [])) (place_is c id k (there z) s i at);
    }
  where
    there : register_number c id i at ≡ 0 → feature_number c id ≡ 0
    there z = feature_found c id i ((register_place_fact c id i at).found.0 z).0

-- ---- the roads

same_offset : (n r : ℕ) → register_place n r ≡ domain_offset n r
same_offset n r = omega arith

module _ (c : Capture) (i n : ℕ) where
  abbrev part : List ℕ
  part = instance_part c 0 i

  part_long : instance_number c 0 i ≡ 0 → length part ≤ size_for c 0
  part_long z = omega (arith, ap length ((place_fact c 0 i).part z), length-take (size_for c 0) (drop (start_for c 0 i) (bar_of c)))

  -- a register of a domain whose eight bytes lie in the instance is a register of the instance
  reached : (r : ℕ) → instance_number c 0 i ≡ 0 → register_place n r + 8 ≤ length part → register_number c 0 i (domain_offset n r) ≡ 0
  reached r z h = (register_place_fact c 0 i (domain_offset n r)).found.1 (z, omega arith, omega (arith, h, part_long z))

  module _ (r x : ℕ) (e : content_for c i n r ≡ gives (x ∷ [])) where
    both : (instance_number c 0 i ≡ 0) × (content_of part n r ≡ gives (x ∷ []))
    unfolding content_for
    both = unless_both (instance_number c 0 i) (content_of part n r) e

    inside : register_place n r + 8 ≤ length part
    inside =
        let g = ((register_fact part n r).content x).0 both.1 in
        omega (arith, ((domain_fact part n).sound.0 g.0).0.1, g.1)

    content_is : register_of c 0 i (domain_offset n r) ≡ gives (x ∷ [])
    unfolding register_at
    content_is =
        let g = ((register_fact part n r).content x).0 both.1 in
        let held : number_at part (register_place n r) 8 ≡ number_at (bar_of c) (start_for c 0 i + register_place n r) 8 =
        ap (λ (s : List ℕ). number_at s (register_place n r) 8) ((place_fact c 0 i).part both.0)
        ∙ number_part (bar_of c) (start_for c 0 i) (size_for c 0) (register_place n r) 8 (omega (arith, inside, part_long both.0)) in
        content_found c 0 i (domain_offset n r) (reached r both.0 inside)
        ∙ ap (λ (at : ℕ). gives (number_at (bar_of c) (start_for c 0 i + at) 8 ∷ [])) (sym (same_offset n r))
        ∙ ap (λ (y : ℕ). gives (y ∷ [])) (sym held ∙ g.3)

  module _ (limit which value : ℕ) (z : write_number c i n limit which value ≡ 0) where
    permitted : (y : ℕ) × (next_for c i n limit which value ≡ gives (y ∷ []))
    permitted = (captures_fact c i n limit which value).same_answer.0 z

    asked : (instance_number c 0 i ≡ 0) × (next_of part n limit which value ≡ gives (permitted.0 ∷ []))
    unfolding next_for
    asked = unless_both (instance_number c 0 i) (next_of part n limit which value) permitted.1

    stored_in : register_number c 0 i (domain_offset n (limit + 1)) ≡ 0
    stored_in = reached (limit + 1) asked.0 (next_inside part n limit which value (given_by part n limit which value asked.1).0)

    stored_at : register_place_of c 0 i (domain_offset n (limit + 1)) ≡ gives (bir_of c ∷ limit_place c i n limit ∷ 8 ∷ 1 ∷ [])
    unfolding register_place_of
    stored_at =
        unless_passes _ stored_in ∙ ap (λ (at : ℕ). gives (bir_of c ∷ (start_for c 0 i + at) ∷ 8 ∷ 1 ∷ [])) (sym (same_offset n (limit + 1)))

    stored_by : (k : ℕ) → Stands c 0 k → limit_place c i n limit ≡ place_by c (entry_there c k) i (domain_offset n (limit + 1))
    stored_by k s =
        ap (λ (at : ℕ). start_for c 0 i + at) (same_offset n (limit + 1)) ∙ place_is c 0 k (feature_found c 0 i asked.0) s i (domain_offset n (limit + 1))

  pub roads_fact : RoadsFact c i n
  roads_fact =
      record {
        content = content_is;
        place = λ r x e. (formula_fact c 0 i (domain_offset n r)).place (reached r (both r x e).0 (inside r x e));
        limit_place_law = stored_at;
        limit_formula = stored_by;
      }

pub store_bounds : StoreBounds
store_bounds =
    record {
      first = record { found = board_found.0; inside = omega (arith, board_found.1) };
      last = record { found = board_found.0; inside = omega (arith, board_found.1) };
      odd = record { found = board_found.0; inside = omega (arith, board_found.1) };
      past = λ w. omega (arith, w.inside, board_found.1);
      invalid = board_invalid;
    }
