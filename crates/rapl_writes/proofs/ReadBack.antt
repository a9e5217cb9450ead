-- The theorem of Facts.antt on reading back: the register's 8 bytes are no header's, so that every domain and every chain is found as before,
-- and every register but the one is read as before. Assumes nothing.
use Prim.Native.Nat.{ℕ, ◌+◌, ◌≤◌}
use mathlib.Core.Path.{◌≡◌, refl, sym, ap, ◌∙◌, subst}
use mathlib.Core.Bool.{Bool, true, false}
use mathlib.Core.List.{List, [], ◌∷◌}
use mathlib.Core.Logic.{◌⊎◌, inl, inr}
use native.Mathlib.Nat.{mod-eq_of_lt}
use native.Mathlib.Omega.{arith}
use borrow.Author.Tests.{leb-true, leb-false}
use lib.Dec.{leb}
use Rattle.words.specs.Answers.{Answer, gives}
use Rattle.words.specs.Bytes.{AllBytes, number_at, stored}
use Rattle.words.proofs.AnswerLaws.{unless_passes}
use Rattle.words.proofs.StoreLaws.{number_stored, number_beside, length_stored}
use Rattle.capture.specs.Capture.{Capture}
use Rattle.tpmi_discovery.specs.Table.{bar_of}
use Rattle.tpmi_features.specs.Instances.{instance_part, instance_or}
use Rattle.tpmi_store.specs.Store.{after_store}
use Rattle.tpmi_store.specs.Facts.{AsBefore}
use Rattle.rapl_domains.specs.Domains.{block_at, header_of, header_in, domain_number, domain_of}
use Rattle.rapl_domains.specs.Facts.{SameHeaders}
use Rattle.rapl_domains.specs.declared.domains.Header.{Header}
use Rattle.rapl_domains.proofs.SameHeaders.{hangs_on_headers}
use Rattle.rapl_registers.specs.Contents.{register_place, register_at, absent, content_of}
use Rattle.rapl_registers.proofs.ContentLaws.{absent_none, content_by, content_same}
use Rattle.rapl_chains.specs.Chains.{chain_of}
use Rattle.rapl_chains.proofs.ChainLaws.{chain_same}
use Rattle.rapl_lookups.specs.Lookups.{domain_for, content_for, chain_for}
use Rattle.rapl_permits.proofs.PermitLaws.{Passed, limit_small}
use Rattle.rapl_writes.specs.Next.{next_content}
use Rattle.rapl_writes.specs.Write.{write_number}
use Rattle.rapl_writes.specs.Facts.{ReadsBack, ReadBack}
use Rattle.rapl_writes.proofs.NextLaws.{permitted, next_inside}
use Rattle.rapl_writes.proofs.WriteLaws.{left_stored}
use Rattle.rapl_writes.proofs.WriteFact.{next_passes, in_instance, stored_so, next_lt}

-- ---- a store beside the headers, in the bytes s of an instance

-- two registers that are not one share no byte
apart : (n r n' r' : ℕ) → r ≤ 15 → r' ≤ 15 → ((n ≡ n') × (r ≡ r') → ⊥) → (register_place n' r' + 8 ≤ register_place n r) ⊎ (register_place n r + 8 ≤ register_place n' r')
apart n r n' r' a b h = by (leb (register_place n' r' + 8) (register_place n r)) (leb (register_place n r + 8) (register_place n' r')) refl refl
  where
    by : (t u : Bool) → leb (register_place n' r' + 8) (register_place n r) ≡ t → leb (register_place n r + 8) (register_place n' r') ≡ u
        → (register_place n' r' + 8 ≤ register_place n r) ⊎ (register_place n r + 8 ≤ register_place n' r')
    by true u e f = inl (leb-true _ _ e)
    by false true e f = inr (leb-true _ _ f)
    by false false e f =
        let k = leb-false (register_place n' r' + 8) (register_place n r) e in
        let l = leb-false (register_place n r + 8) (register_place n' r') f in
        let same : n ≡ n' = omega (arith, k, l) in
        absurd (h (same, omega (arith, k, l, same)))

-- a register but 0 is no header
headers_same : (s : List ℕ) (n r x : ℕ) → 1 ≤ r → r ≤ 15 → SameHeaders (stored s (register_place n r) 8 x) s
unfolding header_in
headers_same s n r x a b = (
  length_stored s (register_place n r) 8 x,
  λ m. ap header_of (number_beside s (register_place n r) 8 x (block_at m) 8 (header m (apart n r m 0 b (omega arith) (λ e. omega (arith, e.1))))),
)
  where
    header : (m : ℕ) → (register_place m 0 + 8 ≤ register_place n r) ⊎ (register_place n r + 8 ≤ register_place m 0) → (block_at m + 8 ≤ register_place n r) ⊎ (register_place n r + 8 ≤ block_at m)
    header m (inl h) = inl (omega arith)
    header m (inr h) = inr (omega arith)

-- ---- the capture that a permitted write leaves

module _ (c : Capture) (i n limit which value : ℕ) (b : AllBytes (bar_of c)) (z : write_number c i n limit which value ≡ 0) where
  abbrev part : List ℕ
  part = instance_part c 0 i

  abbrev next : ℕ
  next = next_content part n limit which value

  abbrev d : Capture
  d = after_store c 0 i (register_place n (limit + 1)) next

  as_before : AsBefore c 0 i (register_place n (limit + 1)) next
  as_before = (stored_so c i n limit which value z).1

  clear : 8 ≤ register_place n (limit + 1)
  clear = omega arith

  passed : (domain_number part n ≡ 0) × Passed (header_in part n) limit which value (register_at part n (limit + 1))
  passed = permitted part n limit which value (next_passes c i n limit which value z)

  low : limit ≤ 2
  low = limit_small limit passed.1.a_limit_law

  now_part : instance_part d 0 i ≡ stored part (register_place n (limit + 1)) 8 next
  now_part = as_before.own_part clear

  headers : SameHeaders (instance_part d 0 i) part
  headers = subst (λ (s : List ℕ). SameHeaders s part) (sym now_part) (headers_same part n (limit + 1) next (omega arith) (omega (arith, low)))

  -- what is asked of an instance's bytes is answered as before, if it is so of the one that was written
  asked_as_before : (j : ℕ) (a : List ℕ → Answer) → (i ≡ j → a (instance_part d 0 i) ≡ a part) → instance_or d 0 j a ≡ instance_or c 0 j a
  asked_as_before j a e = as_before.asked 0 j a (inl clear) (λ s. e s.1)

  register_beside : (m r : ℕ) → ((n ≡ m) × (limit + 1 ≡ r) → ⊥) → r ≤ 15 → register_at (instance_part d 0 i) m r ≡ register_at part m r
  unfolding register_at
  register_beside m r h l =
      ap (λ (s : List ℕ). number_at s (register_place m r) 8) now_part
      ∙ number_beside part (register_place n (limit + 1)) 8 next (register_place m r) 8 (apart n (limit + 1) m r (omega (arith, low)) l h)

  register_now : register_at (instance_part d 0 i) n (limit + 1) ≡ next
  unfolding register_at
  register_now =
      ap (λ (s : List ℕ). number_at s (register_place n (limit + 1)) 8) now_part
      ∙ number_stored part (register_place n (limit + 1)) 8 next (next_inside part n limit which value (next_passes c i n limit which value z))
      ∙ mod-eq_of_lt (next_lt c i n limit which value b z)

  content_now : content_for d i n (limit + 1) ≡ gives (next ∷ [])
  unfolding content_for
  content_now =
      unless_passes _ (as_before.instance_number_law 0 i (inl clear) ∙ (in_instance c i n limit which value z).found)
      ∙ content_by (instance_part d 0 i) n (limit + 1) ((hangs_on_headers (instance_part d 0 i) part headers n).0 ∙ passed.0)
      (ap (λ (h : Header). absent h.flags (limit + 1)) (headers.1 n) ∙ absent_none _ (limit + 1) (omega (arith, low)) passed.1.there)
      ∙ ap (λ (x : ℕ). gives (x ∷ [])) register_now

  in_left : ReadsBack c i n limit which value
  unfolding domain_for content_for chain_for
  in_left =
      let e = left_stored c i n limit which value z in
      record {
        content = ap (λ (k : Capture). content_for k i n (limit + 1)) e ∙ content_now;
        domain = λ j m. ap (λ (k : Capture). domain_for k j m) e ∙ asked_as_before j (λ s. domain_of s m) (λ _. (hangs_on_headers (instance_part d 0 i) part headers m).1);
        register = λ j m r h.
            ap (λ (k : Capture). content_for k j m r) e
            ∙ asked_as_before j (λ s. content_of s m r) (λ q. content_same (instance_part d 0 i) part headers m r (register_beside m r (λ p. h (q, p.0, p.1))));
        chain = λ j m. ap (λ (k : Capture). chain_for k j m) e ∙ asked_as_before j (λ s. chain_of s m) (λ _. chain_same (instance_part d 0 i) part headers m);
      }

pub read_back : (c : Capture) (i n limit which value : ℕ) → ReadBack c i n limit which value
read_back = in_left
