-- Two listings, and two lines, that say the same are the same. Assumes nothing.
use Prim.Native.Nat.{ℕ}
use Rattle.std.specs.Prelude.{Option, Some, None, Result, Ok, Err}
use mathlib.Core.Path.{◌≡◌, refl}
use mathlib.Core.List.{List, [], ◌∷◌}
use lib.ListN.{get_or}
use Rattle.words.specs.Answers.{refused, gives}
use Rattle.words.proofs.AnswerLaws.{once}
use Rattle.list_lines.specs.Listing as listing
use Rattle.list_lines.specs.Listing.{Said, unreadable, answers}
use Rattle.list_lines.specs.Line as line
use Rattle.tpmi_discovery.specs.declared.table.Table.{Table}
use Rattle.list_lines.specs.declared.listing.Unlisted.{Unlisted}
use Rattle.list_lines.specs.declared.listing.Unlisted.TheVariants.{Unreadable, Refused}
use Rattle.list_lines.specs.declared.line.Feature.{Feature}

untold : Said → Result Table Unlisted
untold unreadable = Err Unreadable
untold (answers (refused n)) = Err (Refused (record { 0 = n }))
untold (answers (gives l)) = Ok (record { bir = get_or l 0 0; start = get_or l 1 0; entries = get_or l 2 0 })

pub listing_told_once : listing.ToldOnce
unfolding untold
listing_told_once = once listing.told untold back
  where
    back : (a : Result Table Unlisted) → untold (listing.told a) ≡ a
    back (Err Unreadable) = refl
    back (Err (Refused r)) = refl
    back (Ok t) = refl

unsaid : List ℕ → Option Feature
unsaid [] = None
unsaid (a ∷ l) = Some (record { id = a; instances = get_or l 0 0; valid = get_or l 1 0; size = get_or l 2 0; start = get_or l 3 0 })

pub line_told_once : line.ToldOnce
unfolding unsaid
line_told_once = once line.told unsaid back
  where
    back : (a : Option Feature) → unsaid (line.told a) ≡ a
    back (Some f) = refl
    back None = refl
