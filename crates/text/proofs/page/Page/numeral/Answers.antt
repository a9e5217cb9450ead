-- `text::page::Page::numeral` meets its contract. The invariant: the digits from place i on stand on the page, and what is left is the number
-- above them. Assumes nothing.
use mathlib.Core.Path.{◌≡◌, refl, sym, ap, ◌∙◌}
use Prim.Native.Nat.{ℕ, ◌+◌, ◌-◌, ◌/◌, ◌^◌}
use native.Mathlib.Omega.{arith}
use Rattle.text.specs.Numerals.{places_of, numeral_of}
use Rattle.text.proofs.PageLaws.{after_fits, wrote_none}
use Rattle.text.proofs.NumeralLaws.{none_left, rest_turn, digits_from, digits_none, digit_turn, digits_all, numeral_length}
use Rattle.text.proofs.page.Page.numeral.Goals as goal

pub loop-i-init : goal.loop-i-init
loop-i-init c = (omega arith, none_left c.args.base c.args.n c.saturating_add-end.result, digits_none c.args.self.now.bytes.now c.saturating_add-end.result c.args.base c.args.n (omega arith), refl)

pub loop-i-preserved : goal.loop-i-preserved
loop-i-preserved c = let e : c.saturating_add-end.result - (c.loop-i.i - 1) ≡ (c.saturating_add-end.result - c.loop-i.i) + 1 = omega arith in (
  omega arith,
  ap (λ (x : ℕ). x / c.args.base) c.loop-i.invariant.1
      ∙ rest_turn c.args.base c.args.n c.requires.0 (c.saturating_add-end.result - c.loop-i.i)
      ∙ ap (λ (m : ℕ). c.args.n / c.args.base ^ m) (sym e),
  rw (c.loop-i.invariant.2, c.glyph.ensures.answer, c.loop-i.invariant.1) (digit_turn c.args.self.now.bytes.now c.saturating_add-end.result c.args.base c.args.n (omega arith) c.loop-i.i (omega arith) (omega arith)),
  c.loop-i.invariant.3,
)

pub returns-after-loop-i : goal.returns-after-loop-i
returns-after-loop-i c = let e : c.args.self.now.at + places_of c.args.base c.args.n ≡ c.saturating_add-end.result = omega (arith, c.places.ensures.answer) in
    let z : c.loop-i.i ≡ c.args.self.now.at = omega arith in record {
      wrote = record {
        bytes = c.loop-i.invariant.2
            ∙ ap (digits_from c.args.self.now.bytes.now c.saturating_add-end.result c.args.base c.args.n) z
            ∙ digits_all c.args.self.now.bytes.now c.saturating_add-end.result c.args.base c.args.n (omega arith) c.args.self.now.at e;
        place = sym e ∙ ap (λ (m : ℕ). c.args.self.now.at + m) (sym (numeral_length c.args.base c.args.n)) ∙ sym (after_fits c.args.self.now.bytes.now c.args.self.now.at (numeral_of c.args.base c.args.n) (omega (arith, numeral_length c.args.base c.args.n)));
        same = c.loop-i.invariant.3;
      };
    }

pub returns-else-end-self : goal.returns-else-end-self
returns-else-end-self c = record { wrote = wrote_none c.args.self.now (numeral_of c.args.base c.args.n) (omega (arith, numeral_length c.args.base c.args.n, c.places.ensures.answer)) }
