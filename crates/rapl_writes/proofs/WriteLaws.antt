-- What the write leaves, way by way. Assumes nothing.
use Prim.Native.Nat.{ℕ, ◌+◌, ◌≤◌}
use mathlib.Core.Path.{◌≡◌, sym, ap, ◌∙◌}
use mathlib.Core.List.{List, [], ◌∷◌}
use mathlib.Core.Logic.{◌≢◌}
use borrow.Author.Tests.{eq-eqb, ne_eqb}
use Rattle.words.specs.Answers.{refused, gives, number_in}
use Rattle.words.specs.Told as told
use Rattle.words.proofs.AnswerLaws.{unless_number, unless_passes}
use Rattle.capture.specs.Capture.{Capture}
use Rattle.capture.specs.Told.{numbers}
use Rattle.capture.specs.declared.places.Place.{Place}
use Rattle.tpmi_features.specs.Instances.{instance_of, instance_part}
use Rattle.tpmi_features.proofs.InstanceLaws.{instance_at}
use Rattle.tpmi_features.proofs.InsideLaws.{in_size}
use Rattle.tpmi_store.specs.Store.{low_with, high_with, after_store}
use Rattle.tpmi_store.proofs.StoreLaws.{placed_store}
use Rattle.rapl_registers.specs.Contents.{register_place}
use Rattle.rapl_domains.proofs.DomainLaws.{inside}
use Rattle.rapl_permits.proofs.PermitLaws.{limit_small}
use Rattle.rapl_writes.specs.Next.{next_content, next_number, next_of, next_for}
use Rattle.rapl_writes.specs.Write.{write_number, left}
use Rattle.rapl_writes.proofs.NextLaws.{given_by, permitted, next_inside}

module _ (c : Capture) (i n limit which value : ℕ) where
  pub left_kept : write_number c i n limit which value ≢ 0 → left c i n limit which value ≡ c
  unfolding left
  left_kept h = rw (ne_eqb (write_number c i n limit which value) 0 h)

  pub left_stored : write_number c i n limit which value ≡ 0
      → left c i n limit which value ≡ after_store c 0 i (register_place n (limit + 1)) (next_content (instance_part c 0 i) n limit which value)
  unfolding left
  left_stored z = rw (eq-eqb (write_number c i n limit which value) 0 z)

  -- ---- a refused write

  pub refused_write : {m : ℕ} → next_for c i n limit which value ≡ refused m → m ≢ 0
      → (refused m ≡ told.passes (write_number c i n limit which value)) × ((c.low ≡ (left c i n limit which value).low) × (c.high ≡ (left c i n limit which value).high))
  unfolding write_number
  refused_write e h =
      let q = ap number_in e in
      let k = sym (left_kept (λ z. h (sym q ∙ z))) in
      (sym (unless_number _ (gives []) h) ∙ ap told.passes (sym q), (ap (λ (d : Capture). d.low) k, ap (λ (d : Capture). d.high) k))

  -- ---- a permitted one: the instance stands at p, and x is the register's next content

  module _ {p : Place} (found : instance_of c 0 i ≡ gives (numbers p)) {x : ℕ} (e : next_of (instance_part c 0 i) n limit which value ≡ gives (x ∷ [])) where
    accepted : write_number c i n limit which value ≡ 0
    unfolding write_number next_for
    accepted = ap number_in (unless_passes (next_of (instance_part c 0 i) n limit which value) (instance_at c 0 i found).zero ∙ e)

    passes : next_number (instance_part c 0 i) n limit which value ≡ 0
    passes = (given_by (instance_part c 0 i) n limit which value e).0

    pub small : (n ≤ 255) × (limit ≤ 2)
    small = let g = permitted (instance_part c 0 i) n limit which value passes in ((inside _ n g.0).0, limit_small limit g.1.a_limit_law)

    pub permitted_write : {ls hs : List ℕ} → ls ≡ low_with p (register_place n (limit + 1)) x c.lo c.low → hs ≡ high_with p (register_place n (limit + 1)) x c.lo c.hi c.high
        → (gives [] ≡ told.passes (write_number c i n limit which value)) × ((ls ≡ (left c i n limit which value).low) × (hs ≡ (left c i n limit which value).high))
    permitted_write l h =
        let s = placed_store c 0 i (register_place n (limit + 1)) x p found (in_size c 0 i (instance_at c 0 i found).zero (next_inside (instance_part c 0 i) n limit which value passes)) in
        let k = ap (after_store c 0 i (register_place n (limit + 1))) (sym (given_by (instance_part c 0 i) n limit which value e).1) ∙ sym (left_stored accepted) in
        (ap told.passes (sym accepted), (l ∙ s.0 ∙ ap (λ (d : Capture). d.low) k, h ∙ s.1 ∙ ap (λ (d : Capture). d.high) k))
