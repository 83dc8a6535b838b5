use Rattle.std.proofs.Common.{◌≡◌, drop, map}
use Rattle.table_spec.specs.Columns.{column_of, all_of}
use Rattle.table_spec.proofs.ListLemmas.{with_front}
use Rattle.table_spec.proofs.columns.all_columns.Given as goal

-- the columns so far, in front of what the other texts give, are what all texts give
abbrev pub invariant-loop-text : goal.invariant-loop-text
invariant-loop-text l =
    with_front l.columns.items (all_of (map column_of (map (λ p. p.now) (drop l.text-index l.texts)))) ≡ all_of (map column_of (map (λ p. p.now) l.texts))
