-- Counts over the entries so far.
use Rattle.std.proofs.Common.{◌≡◌, ℕ, ◌+◌, ◌<◌, ◌≤◌, Bool, List, length, take, arith}
use Rattle.std.specs.Prelude.{count_by, sum_by}
use Rattle.std.proofs.lemmas.List.{length-take-le}
use Rattle.std.proofs.lemmas.List.Concat.{length-flat_map}
use Rattle.std.proofs.lemmas.List.Sums.{count_by-le-length}
use Rattle.table_model.specs.declared.entries.Entry.{Entry}
use Rattle.table_model.specs.declared.streams.StreamRef.{StreamRef}
use Rattle.table_model.specs.Content.{rows_onto, end_of}

-- fewer have passed before the last than there are
pub count_more_le : {X : Type 0} (p : X → Bool) (xs : List X) (i : ℕ) → i < length xs → count_by p (take i xs) + 1 ≤ length xs
count_more_le p xs i within = omega (arith, count_by-le-length p (take i xs), length-take-le i xs (omega arith))

-- the rows of a stream are those of each entry
pub end_is_sum : (entries : List Entry) (stream : StreamRef) → end_of entries stream ≡ sum_by (λ entry. length (rows_onto stream entry.change)) entries
end_is_sum entries stream = length-flat_map (λ entry. rows_onto stream entry.change) entries
