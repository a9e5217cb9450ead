-- Two answers that say the same are the same, for whatever comes that its numbers give back. Assumes nothing.
use Rattle.std.specs.Prelude.{ℕ, List, [], ◌∷◌, ◌≡◌, Result, Ok, Err}
use mathlib.Core.Path.{refl, ap}
use lib.ListN.{get_or}
use Rattle.words.specs.Answers.{Answer, refused, gives, number_in}
use Rattle.words.specs.Facts.{Once}
use Rattle.words.specs.Told.{refused_in, told_by, ToldOnce, DoneOnce}
use Rattle.words.specs.declared.answers.Refusal.{Refusal}
use Rattle.words.proofs.AnswerLaws.{once}

module _ {A : Type 0} (values : A → List ℕ) (from : List ℕ → A) (back : (a : A) → from (values a) ≡ a) where
  untold : Answer → Result A Refusal
  untold (refused n) = Err (record { 0 = n })
  untold (gives l) = Ok (from l)

  pub once_by : Once (told_by values)
  unfolding untold
  once_by = once (told_by values) untold returned
    where
      returned : (r : Result A Refusal) → untold (told_by values r) ≡ r
      returned (Ok a) = ap Ok (back a)
      returned (Err r) = refl

-- the number that is said is the refusal's
pub number_told : {A : Type 0} (values : A → List ℕ) (r : Result A Refusal) → number_in (told_by values r) ≡ refused_in r
number_told values (Ok a) = refl
number_told values (Err r) = refl

pub told_once : ToldOnce
told_once = once_by (λ x. x ∷ []) (λ l. get_or l 0 0) (λ x. refl)

pub done_once : DoneOnce
done_once = once_by (λ x. []) (λ l. tt) (λ x. refl)
