use Rattle.std.proofs.Common.{◌≡◌, ℕ, take, true}
use Rattle.std.specs.Bool.{nat_eq}
use Rattle.std.specs.List.{list_any}
use Rattle.std.specs.Ordering.{nat_cmp}
use Rattle.std.specs.BTreeSet.{contains}
use Rattle.row_descriptor.specs.Distinct.{are_distinct}
use Rattle.row_descriptor.specs.Descriptor.{is_same_number}
use Rattle.row_descriptor.proofs.distinct.have_distinct_numbers.Given as goal

-- what was seen is distinct, and the set has its numbers
abbrev pub invariant-loop-field : goal.invariant-loop-field
invariant-loop-field l =
    (are_distinct is_same_number (take l.field-index l.fields) ≡ true)
    × ((q : ℕ) → contains nat_cmp l.seen q ≡ list_any (λ f. nat_eq q f.number) (take l.field-index l.fields))
