-- The grammar of restrictions over tokens. A tree of each production is a way to read tokens by it.
use Rattle.std.specs.Prelude.{ℕ, suc, max, ℤ, Bool, true, false, List, [], ◌∷◌, ◌++◌}
use Rattle.column_types.specs.declared.predicate.Op.{Op}
use Rattle.filter.specs.declared.token.Form.{Form}
use Rattle.filter.specs.declared.token.Form.TheVariants as form
use Rattle.filter.specs.declared.token.Token.{Token}
use Rattle.filter.specs.declared.token.Token.TheVariants as token

-- column := a bare name, or a name in backquotes. The words DATE and TIMESTAMP are names here.
pub record Column : Type 0 where
  pub name : List ℕ
  pub form : Form

abbrev pub column_token : Column → Token
column_token column = token.Name column.name column.form

-- literal := integer | string | TRUE | FALSE | DATE string | TIMESTAMP string
-- The words DATE and TIMESTAMP are kept as they are written.
pub data Constant : Type 0 where
  integer : ℤ → Constant
  string : List ℕ → Constant
  boolean : Bool → Constant
  date : List ℕ → List ℕ → Constant
  timestamp : List ℕ → List ℕ → Constant

abbrev pub constant_tokens : Constant → List Token
constant_tokens (integer n) = token.Integer n ∷ []
constant_tokens (string s) = token.Str s ∷ []
constant_tokens (boolean true) = token.True ∷ []
constant_tokens (boolean false) = token.False ∷ []
constant_tokens (date word s) = token.Name word form.Date ∷ token.Str s ∷ []
constant_tokens (timestamp word s) = token.Name word form.Timestamp ∷ token.Str s ∷ []

-- literal { "," literal }
abbrev pub list_tokens : Constant → List Constant → List Token
list_tokens first [] = constant_tokens first
list_tokens first (next ∷ more) = constant_tokens first ++ token.Comma ∷ list_tokens next more

-- test := column | column op literal | column IS [NOT] NULL | column [NOT] IN "(" literal { "," literal } ")"
pub data Test : Type 0 where
  bare : Column → Test
  compared : Column → Op → Constant → Test
  is_null : Column → Bool → Test
  among : Column → Bool → Constant → List Constant → Test

-- NOT where it stands
abbrev pub not_token : Bool → List Token
not_token true = token.Not ∷ []
not_token false = []

abbrev pub test_tokens : Test → List Token
test_tokens (bare column) = column_token column ∷ []
test_tokens (compared column op constant) = column_token column ∷ token.Compare op ∷ constant_tokens constant
test_tokens (is_null column negated) = column_token column ∷ token.Is ∷ not_token negated ++ token.Null ∷ []
test_tokens (among column negated first more) =
    column_token column ∷ not_token negated ++ token.In ∷ token.Open ∷ list_tokens first more ++ token.Close ∷ []

-- or := and { OR and }, and := not { AND not }, not := NOT not | "(" or ")" | test. Chains group from the left.
mutual
  pub data OrTree : Type 0 where
    one_and : AndTree → OrTree
    more_or : OrTree → AndTree → OrTree

  pub data AndTree : Type 0 where
    one_not : NotTree → AndTree
    more_and : AndTree → NotTree → AndTree

  pub data NotTree : Type 0 where
    behind_not : NotTree → NotTree
    in_group : OrTree → NotTree
    one_test : Test → NotTree

abbrev mutual
  pub or_tokens : OrTree → List Token
  or_tokens (one_and tree) = and_tokens tree
  or_tokens (more_or left right) = or_tokens left ++ token.Or ∷ and_tokens right

  pub and_tokens : AndTree → List Token
  and_tokens (one_not tree) = not_tokens tree
  and_tokens (more_and left right) = and_tokens left ++ token.And ∷ not_tokens right

  pub not_tokens : NotTree → List Token
  not_tokens (behind_not tree) = token.Not ∷ not_tokens tree
  not_tokens (in_group tree) = token.Open ∷ or_tokens tree ++ token.Close ∷ []
  not_tokens (one_test t) = test_tokens t

-- how deep the parentheses of groups and the NOTs before operands stand in each other
abbrev mutual
  pub or_depth : OrTree → ℕ
  or_depth (one_and tree) = and_depth tree
  or_depth (more_or left right) = max (or_depth left) (and_depth right)

  pub and_depth : AndTree → ℕ
  and_depth (one_not tree) = not_depth tree
  and_depth (more_and left right) = max (and_depth left) (not_depth right)

  pub not_depth : NotTree → ℕ
  not_depth (behind_not tree) = suc (not_depth tree)
  not_depth (in_group tree) = suc (or_depth tree)
  not_depth (one_test t) = 0

-- text := [ or ]
pub data TextTree : Type 0 where
  empty : TextTree
  whole : OrTree → TextTree

abbrev pub text_tokens : TextTree → List Token
text_tokens empty = []
text_tokens (whole tree) = or_tokens tree

abbrev pub text_depth : TextTree → ℕ
text_depth empty = 0
text_depth (whole tree) = or_depth tree
