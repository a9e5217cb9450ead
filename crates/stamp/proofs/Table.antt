-- The table of document 01's P cases bears, by one computation; and its test is equality of answers. Assumes nothing.
use Prim.Native.Nat.{ℕ}
use mathlib.Core.Path.{◌≡◌, refl, ap, ap₂, subst}
use mathlib.Core.Bool.{true, false≢true}
use mathlib.Core.List.{List, [], ◌∷◌}
use lib.Dec.{eqb}
use borrow.Author.Tests.{eqb-true, eq-eqb}
use Rattle.words.specs.Answers.{Answer, refused, gives, first, or_else, earliest}
use Rattle.words.specs.Below.{any_below, first_below, least}
use Rattle.words.specs.Bytes.{number_at, put}
use Rattle.fields.specs.Bits.{field, with_field}
use Rattle.words.proofs.TestLaws.{and_both, and_holds}
use Rattle.tpmi_structure.specs.Structure.{vsec_of, vsec_at, fixed_wrong, read_number, read_of}
use Rattle.tpmi_walk.specs.Walk.{identifier_at, next_at, vsec_id_at, followed, taken_at, header_at, walk_from, empty_list, walk_of}
use Rattle.tpmi_entries.specs.Entry.{entry_of, entry_at}
use Rattle.tpmi_banks.specs.Faults.{bank_of, bank_in, empty_bank, repeats, meets, fault_at, faults_of}
use Rattle.capture.specs.Places.{named}
use Rattle.tpmi_discovery.specs.Table.{structure_of, bar_of, misshapen, before_walk, bir_number, table_number, location_number}
use Rattle.tpmi_discovery.specs.Discovery.{discovery_number, discovery_of}
use Rattle.tpmi_features.specs.Instances.{index_in, unlisted, bank_for, feature_number, feature_of, invalid_at, unusable, instance_number, instance_part}
use Rattle.rapl_windows.specs.Windows.{quarters_of, long_enough, first_long, window_number, window_of}
use Rattle.rapl_domains.specs.Domains.{header_of, header_in, unused, wrong, domain_number, missing, unsound}
use Rattle.rapl_registers.specs.Contents.{present, register_at, absent, content_number, content_of}
use Rattle.rapl_lookups.specs.Lookups.{content_for}
use Rattle.rapl_permits.specs.Permits.{lowest_of, width_of, a_limit, unwritable, refusal_of}
use Rattle.tpmi_store.specs.Store.{in_low, in_high}
use Rattle.rapl_writes.specs.Next.{next_content, next_number, next_of, next_for}
use Rattle.rapl_writes.specs.Write.{write_number, left}
use Rattle.energy_channel.specs.Channel.{in_range, is_open, tests, values, taken}
use Rattle.energy_hall.specs.Hall.{tests_on, answer_on, leaves_on}
use Rattle.stamp.specs.Table.{Row, same_numbers, same, all_same, table, AllDue, SameFact, RowsFact, TableFact}

-- ---- the test is equality

same_values : (xs ys : List ℕ) → same_numbers xs ys ≡ true → xs ≡ ys
same_values [] [] e = refl
same_values [] (y ∷ ys) e = absurd (false≢true e)
same_values (x ∷ xs) [] e = absurd (false≢true e)
same_values (x ∷ xs) (y ∷ ys) e = ap₂ ◌∷◌ (eqb-true x y (and_both (eqb x y) _ e).0) (same_values xs ys (and_both (eqb x y) _ e).1)

same_equal : (a b : Answer) → same a b ≡ true → a ≡ b
same_equal (refused m) (refused n) e = ap refused (eqb-true m n e)
same_equal (refused m) (gives ys) e = absurd (false≢true e)
same_equal (gives xs) (refused n) e = absurd (false≢true e)
same_equal (gives xs) (gives ys) e = ap gives (same_values xs ys e)

values_themselves : (xs : List ℕ) → same_numbers xs xs ≡ true
values_themselves [] = refl
values_themselves (x ∷ xs) = and_holds (eq-eqb x x refl) (values_themselves xs)

same_itself : (a : Answer) → same a a ≡ true
same_itself (refused n) = eq-eqb n n refl
same_itself (gives xs) = values_themselves xs

pub same_fact : (a b : Answer) → SameFact a b
same_fact a b = (same_equal a b, λ e. subst (λ (x : Answer). same a x ≡ true) e (same_itself a))

rows_due : (rs : List Row) → all_same rs ≡ true → AllDue rs
rows_due [] e = tt
rows_due (r ∷ rs) e =
    (same_equal r.asked r.due (and_both (same r.asked r.due) (all_same rs) e).0, rows_due rs (and_both (same r.asked r.due) (all_same rs) e).1)

due_rows : (rs : List Row) → AllDue rs → all_same rs ≡ true
due_rows [] d = refl
due_rows (r ∷ rs) d = and_holds ((same_fact r.asked r.due).1 d.0) (due_rows rs d.1)

pub rows_fact : (rs : List Row) → RowsFact rs
rows_fact rs = (rows_due rs, due_rows rs)

-- ---- the table

pub table_fact : TableFact
unfolding first or_else earliest any_below first_below least number_at put field with_field vsec_of vsec_at fixed_wrong read_number read_of identifier_at next_at vsec_id_at followed taken_at header_at walk_from empty_list walk_of entry_of entry_at bank_of bank_in empty_bank repeats meets fault_at faults_of structure_of named bar_of misshapen before_walk bir_number table_number location_number discovery_number discovery_of index_in unlisted bank_for feature_number feature_of invalid_at unusable instance_number instance_part quarters_of long_enough first_long window_number window_of header_of header_in unused wrong missing unsound domain_number present register_at absent content_number content_of content_for lowest_of width_of a_limit unwritable refusal_of next_content next_number next_of next_for write_number in_low in_high left in_range is_open tests values taken tests_on answer_on leaves_on
table_fact = refl

-- so every row is an equation
pub table_due : AllDue table
table_due = rows_due table table_fact
