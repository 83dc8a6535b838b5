-- What a tree says of the columns of a schema: its predicate, or the fault of its first bad test from the left.
use Rattle.std.specs.Prelude.{ℕ, Bool, true, false, List, [], ◌∷◌, map, Option, Some, None, option_map, option_and_then, Result, Ok, Err, slice_get, ok_or}
use Rattle.column_types.specs.Schema.{column_number}
use Rattle.column_types.specs.declared.cell.Cell.TheVariants as cell
use Rattle.column_types.specs.declared.column.Column.{Column}
use Rattle.column_types.specs.declared.column.Kind.{Kind}
use Rattle.column_types.specs.declared.column.Kind.TheVariants as kind
use Rattle.column_types.specs.declared.predicate.Op.{Op}
use Rattle.column_types.specs.declared.predicate.Op.TheVariants as op
use Rattle.column_types.specs.declared.predicate.Pred.{Pred}
use Rattle.column_types.specs.declared.predicate.Pred as pred
use Rattle.filter.specs.declared.literal.Literal.{Literal}
use Rattle.filter.specs.declared.literal.Literal.TheVariants as literal
use Rattle.filter.specs.declared.meaning.TestFault.{TestFault}
use Rattle.filter.specs.declared.meaning.TestFault.TheVariants.{UnknownColumn, IllTyped}
use Rattle.filter.specs.Grammar as grammar
use Rattle.filter.specs.Literal.{cell_of, cells_of}

abbrev pub Meaning : Type 0
Meaning = Result Pred TestFault

-- the number of the column of this name, and its kind
abbrev pub column_named : List Column → List ℕ → Option (ℕ × Kind)
column_named columns name =
    option_and_then (λ at. option_map (λ column. (at, column.kind)) (slice_get columns at)) (column_number columns name)

-- what a test says of a column, given the column's number and kind; None where they are of different types
abbrev pub Said : Type 0
Said = ℕ → Kind → Option Pred

-- a bare column means `= TRUE`
abbrev pub said_bare : Said
said_bare at kind.Bool = Some (pred.Compare at op.Eq (cell.Bool true))
said_bare at _ = None

abbrev pub said_compared : Op → Literal → Said
said_compared op value at kind = option_map (λ value. pred.Compare at op value) (cell_of kind value)

abbrev pub said_null : Said
said_null at kind = Some (pred.IsNull at)

abbrev pub said_among : List Literal → Said
said_among values at kind = option_map (λ values. pred.Among at values) (cells_of kind values)

-- what is said of the column of this name
abbrev pub meaning_about : Option (ℕ × Kind) → List ℕ → Said → Meaning
meaning_about None name said = Err (UnknownColumn name)
meaning_about (Some found) name said = ok_or (said found.0 found.1) (IllTyped name)

unfoldable pub test_meaning : List Column → List ℕ → Said → Meaning
test_meaning columns name said = meaning_about (column_named columns name) name said

abbrev pub negation : Meaning → Meaning
negation (Ok inner) = Ok (pred.Not inner)
negation (Err fault) = Err fault

-- NOT IN and IS NOT NULL are the negations of IN and IS NULL
abbrev pub negation_if : Bool → Meaning → Meaning
negation_if true meaning = negation meaning
negation_if false meaning = meaning

abbrev pub conjunction : Meaning → Meaning → Meaning
conjunction (Ok left) (Ok right) = Ok (pred.And left right)
conjunction (Ok left) (Err fault) = Err fault
conjunction (Err fault) right = Err fault

abbrev pub disjunction : Meaning → Meaning → Meaning
disjunction (Ok left) (Ok right) = Ok (pred.Or left right)
disjunction (Ok left) (Err fault) = Err fault
disjunction (Err fault) right = Err fault

abbrev pub literal_of : grammar.Constant → Literal
literal_of (grammar.integer n) = literal.Integer n
literal_of (grammar.string s) = literal.Str s
literal_of (grammar.boolean b) = literal.Bool b
literal_of (grammar.date word s) = literal.Date s
literal_of (grammar.timestamp word s) = literal.Timestamp s

module _ (columns : List Column) where
  unfoldable pub meaning_of_test : grammar.Test → Meaning
  meaning_of_test (grammar.bare column) = test_meaning columns column.name said_bare
  meaning_of_test (grammar.compared column op constant) = test_meaning columns column.name (said_compared op (literal_of constant))
  meaning_of_test (grammar.is_null column negated) = negation_if negated (test_meaning columns column.name said_null)
  meaning_of_test (grammar.among column negated first more) =
      negation_if negated (test_meaning columns column.name (said_among (map literal_of (first ∷ more))))

  abbrev mutual
    pub or_meaning : grammar.OrTree → Meaning
    or_meaning (grammar.one_and tree) = and_meaning tree
    or_meaning (grammar.more_or left right) = disjunction (or_meaning left) (and_meaning right)

    pub and_meaning : grammar.AndTree → Meaning
    and_meaning (grammar.one_not tree) = not_meaning tree
    and_meaning (grammar.more_and left right) = conjunction (and_meaning left) (not_meaning right)

    pub not_meaning : grammar.NotTree → Meaning
    not_meaning (grammar.behind_not tree) = negation (not_meaning tree)
    not_meaning (grammar.in_group tree) = or_meaning tree
    not_meaning (grammar.one_test t) = meaning_of_test t

  -- no text keeps every row
  abbrev pub text_meaning : grammar.TextTree → Meaning
  text_meaning grammar.empty = Ok pred.All
  text_meaning (grammar.whole tree) = or_meaning tree
