-- Our meter keeps each statement, and the worked captures refuse the dummies. Assumes nothing.
use Prim.Native.Nat.{ℕ}
use mathlib.Core.Path.{◌≡◌, refl, sym, ap, ◌∙◌}
use mathlib.Core.Logic.{◌≢◌}
use mathlib.Core.List.{List, [], ◌∷◌}
use native.Mathlib.Omega.{arith}
use lib.ListN.{get_or}
use Rattle.words.specs.Answers.{Answer, gives, value_in}
use Rattle.words.specs.Bytes.{number_at}
use Rattle.words.proofs.AnswerLaws.{unless_passes, unless_both}
use Rattle.fields.specs.Bits.{field}
use Rattle.fields.specs.Masks.{how_many}
use Rattle.capture.specs.Capture.{Capture}
use Rattle.tpmi_discovery.specs.Table.{bar_of}
use Rattle.tpmi_discovery.proofs.DiscoveryFact.{discovery_fact}
use Rattle.tpmi_features.specs.Instances.{bank_for, feature_number, instance_number, instance_part}
use Rattle.tpmi_counts.specs.Facts.{found}
use Rattle.tpmi_counts.proofs.CountFact.{count_fact}
use Rattle.rapl_lookups.specs.Lookups.{chain_for}
use Rattle.rapl_chains.specs.Facts.{IsChain}
use Rattle.rapl_chains.proofs.ChainFact.{chain_fact}
use Rattle.rapl_lookups.proofs.CaptureFact.{capture_fact}
use Rattle.rapl_permits.specs.Permits.{lowest_of, width_of}
use Rattle.rapl_writes.specs.Next.{next_content, next_of, next_for}
use Rattle.rapl_writes.specs.Write.{write_number, limit_place}
use Rattle.rapl_writes.proofs.NextFact.{next_fact}
use Rattle.rapl_writes.proofs.WriteFact.{captures_fact, write_fact}
use Rattle.stamp.specs.Table.{blank, board}
use Rattle.stamp.specs.Dummies.{Permitted, PermitsExactly, StoresOf, CountsOf, ChainsOf, OfAWrite, two_lines, family, DummiesFall}
use Rattle.stamp.proofs.Worked.{blank_accepted, board_permitted, board_zero, board_bytes, counted, two_counted, climbed, two_climbed}

-- ---- ours

our_permits : PermitsExactly write_number
unfolding next_for
our_permits c i n limit which value = (there, back)
  where
    part : List ℕ
    part = instance_part c 0 i

    there : write_number c i n limit which value ≡ 0 → Permitted c i n limit which value
    there z =
        let y = (captures_fact c i n limit which value).same_answer.0 z in
        let g = unless_both (instance_number c 0 i) (next_of part n limit which value) y.1 in
        let p = ((next_fact part n limit which value).content y.0).0 g.1 in
        record { instance_found = g.0; sound = p.0; opened = p.1.0; narrow = p.1.1; unlocked = p.1.2 }

    back : Permitted c i n limit which value → write_number c i n limit which value ≡ 0
    back p =
        let y : ℕ = next_content part n limit which value in
        (captures_fact c i n limit which value).same_answer.1
        (y, unless_passes _ p.instance_found ∙ ((next_fact part n limit which value).content y).1 (p.sound, (p.opened, p.narrow, p.unlocked), refl))

our_chains : ChainsOf chain_for
our_chains c i n k z =
    let s = (chain_fact (instance_part c 0 i) n).steps k in
    let e = (capture_fact c i n 0).chain z in
    (λ g. s.0 (sym e ∙ g), λ h. e ∙ s.1 h)

-- ---- the dummies

same_value : {m n : ℕ} → gives (m ∷ []) ≡ gives (n ∷ []) → m ≡ n
same_value e = ap (λ (a : Answer). value_in a 0) e

no_field : (left : OfAWrite (List ℕ)) → StoresOf left → left board 0 0 1 0 1000 ≢ bar_of board
no_field left s e =
    let r = (s board 0 0 1 0 1000 board_bytes board_permitted).reads in
    let z : ◌≡◌ {A = ℕ} 0 1000 = sym board_zero ∙ ap (λ (l : List ℕ). field (lowest_of 0) (width_of 0) (number_at l (limit_place board 0 0 1) 8)) (sym e) ∙ r in
    omega arith

module _ (count : Capture → ℕ → Answer) (k : CountsOf count) (f : ℕ → ℕ)
    (invented : (c : Capture) (id : ℕ) → feature_number c id ≡ 0 → count c id ≡ gives (f (bank_for c id).instances ∷ [])) where
  -- what is invented for a feature of one instance that has so many valid ones
  invented_count : (id n : ℕ) → counted id ≡ 0 ∷ 1 ∷ n ∷ [] → f 1 ≡ n
  invented_count id n e =
      let there : feature_number two_lines id ≡ 0 = ap (λ (l : List ℕ). get_or l 0 0) e in
      let one : (bank_for two_lines id).instances ≡ 1 = ap (λ (l : List ℕ). get_or l 1 0) e in
      let many : how_many (found two_lines id) (bank_for two_lines id).instances ≡ n = ap (λ (l : List ℕ). get_or l 2 0) e in
      sym (ap f one) ∙ same_value (sym (invented two_lines id there) ∙ k two_lines id there) ∙ many

  no_count : ⊥
  no_count = omega (arith, invented_count 0 1 two_counted.0, invented_count 2 0 two_counted.1)

module _ (chain : Capture → ℕ → ℕ → Answer) (k : ChainsOf chain) (f : ℕ → ℕ → ℕ)
    (invented : (c : Capture) (i n k : ℕ) → instance_number c 0 i ≡ 0 → IsChain (instance_part c 0 i) n k → chain c i n ≡ gives (f i n ∷ [])) where
  invented_length : (parent n : ℕ) → climbed parent ≡ (0, gives (n ∷ [])) → f 0 1 ≡ n
  invented_length parent n e =
      let there : instance_number (family parent) 0 0 ≡ 0 = ap (λ (p : ℕ × Answer). p.0) e in
      let h = ((chain_fact (instance_part (family parent) 0 0) 1).steps n).0 (ap (λ (p : ℕ × Answer). p.1) e) in
      same_value (sym (invented (family parent) 0 1 n there h) ∙ (k (family parent) 0 1 n there).1 h)

  no_length : ⊥
  no_length = omega (arith, invented_length 1 0 two_climbed.0, invented_length 0 1 two_climbed.1)

pub dummies_fall : DummiesFall
dummies_fall =
    record {
      ours_accepts = λ c. (discovery_fact c).accepted;
      refuses_everything = λ number never h. never (blank 4 6528) ((h (blank 4 6528)).1 ((discovery_fact (blank 4 6528)).accepted.0 blank_accepted));
      ours_permits = our_permits;
      refuses_every_write = λ number never h. never board 0 0 1 0 1000 ((h board 0 0 1 0 1000).1 ((our_permits board 0 0 1 0 1000).0 board_permitted));
      ours_stores = write_fact;
      writes_no_field = no_field;
      ours_counts = λ c id. (count_fact c id).counts;
      invents_a_count = no_count;
      ours_climbs = our_chains;
      invents_a_length = no_length;
    }
