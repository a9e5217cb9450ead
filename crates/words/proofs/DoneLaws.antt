-- What a call's `Result<(), Refusal>` says of the number in its contract: 0 where it is done, and where it refuses that number, which is
-- not 0. And what `?` hands on. Assumes nothing.
use Prim.Native.Nat.{ℕ}
use Rattle.std.specs.Prelude.{⊤, List, [], Result, Ok, Err, IsErrAnd}
use Rattle.std.proofs.lemmas.Result.{err_from_is_err_and}
use mathlib.Core.Path.{◌≡◌, sym, ap, ◌∙◌}
use mathlib.Core.Logic.{◌≢◌}
use Rattle.words.specs.Answers.{refused}
use Rattle.words.specs.Told.{told_by, done, passes}
use Rattle.words.specs.declared.answers.Refusal.{Refusal}
use Rattle.words.proofs.AnswerLaws.{unless_gives, unless_refused}

pub was_done : (n : ℕ) {u : ⊤} → done (Ok u) ≡ passes n → n ≡ 0
was_done n e = (unless_gives n {xs = []} {ys = []} (sym e)).0

pub was_refused : (n : ℕ) {r : Refusal} → done (Err r) ≡ passes n → n ≡ r.0
was_refused n e = (unless_refused n [] (sym e)).0

pub not_done : (n : ℕ) {r : Refusal} → done (Err r) ≡ passes n → n ≢ 0
not_done n e z = let u = unless_refused n [] (sym e) in u.1 (sym u.0 ∙ z)

-- the error that `?` hands on, whatever the caller gives: `the_err c.from_residual.result c.from_residual.ensures.1`
pub the_err : {A E : Type 0} (r : Result A E) {e : E} → IsErrAnd r (λ d. d ≡ e) → r ≡ Err e
the_err r h = let p = err_from_is_err_and r h in p.1 ∙ ap Err p.2

-- and what a refusal says then
pub handed_on : {A : Type 0} (values : A → List ℕ) (r : Result A Refusal) {e : Refusal} → IsErrAnd r (λ d. d ≡ e) → told_by values r ≡ refused e.0
handed_on values r h = ap (told_by values) (the_err r h)
