use Rattle.std.proofs.Common.{◌≡◌, ℕ, List, take, true}
use Rattle.std.specs.List.{list_any}
use Rattle.std.specs.Str.{bytes_eq, str_to_ascii_lowercase}
use Rattle.std.specs.BTreeSet.{contains_text}
use Rattle.row_descriptor.specs.Distinct.{are_distinct}
use Rattle.row_descriptor.specs.Descriptor.{is_same_field_name}
use Rattle.row_descriptor.proofs.distinct.have_distinct_names.Given as goal

-- what was seen is distinct, and the set has its names in lower case
abbrev pub invariant-loop-field : goal.invariant-loop-field
invariant-loop-field l =
    (are_distinct is_same_field_name (take l.field-index l.fields) ≡ true)
    × ((q : List ℕ) → contains_text l.seen q ≡ list_any (λ f. bytes_eq q (str_to_ascii_lowercase f.name)) (take l.field-index l.fields))
