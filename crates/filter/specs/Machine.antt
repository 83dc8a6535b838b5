-- How the parser goes on from token to token. Nobody needs to believe this file: `Restriction` says what a text
-- means by the grammar alone, and `proofs/` ties the two.
use Rattle.std.specs.Prelude.{◌≡◌, ℕ, zero, suc, ◌+◌, Bool, true, false, List, [], ◌∷◌, ◌++◌, Option, Some, None, option_map, option_and_then, Result, Ok, Err, is_none, ◌&&◌, ◌==◌, if◌then◌else◌}
use Rattle.column_types.specs.declared.column.Column.{Column}
use Rattle.column_types.specs.declared.predicate.Op.{Op}
use Rattle.column_types.specs.declared.predicate.Pred as pred
use Rattle.filter.specs.declared.literal.Literal.{Literal}
use Rattle.filter.specs.declared.literal.Literal.TheVariants as literal
use Rattle.filter.specs.declared.parser.Group.{Group}
use Rattle.filter.specs.declared.parser.Place.{Place}
use Rattle.filter.specs.declared.parser.Place.TheVariants as place
use Rattle.filter.specs.declared.parser.State.{State}
use Rattle.filter.specs.declared.parser.Target.{Target}
use Rattle.filter.specs.declared.parser.Target.TheVariants as target
use Rattle.filter.specs.declared.token.Form.{Form}
use Rattle.filter.specs.declared.token.Form.TheVariants as form
use Rattle.filter.specs.declared.token.Token.{Token}
use Rattle.filter.specs.declared.token.Token.TheVariants as token
use Rattle.filter.specs.Meaning.{Meaning, test_meaning, said_bare, said_compared, said_null, said_among, negation, negation_if, conjunction, disjunction}

-- a group with nothing in it yet
abbrev pub new_group : ℕ → Group
new_group depth = record { or = None; and = None; nots = 0; depth = depth }

abbrev pub is_new : Group → Bool
is_new group = is_none group.or && is_none group.and && group.nots == 0

abbrev pub is_none_left : List Group → Bool
is_none_left [] = true
is_none_left (group ∷ groups) = false

-- how many parentheses and NOTs stand around what is read next
abbrev pub depth_of : State → ℕ
depth_of state = state.group.depth + state.group.nots

abbrev pub start : State
start = record { groups = []; group = new_group 0; place = place.Operand }

-- a meaning behind so many NOTs
abbrev pub negations : ℕ → Meaning → Meaning
negations zero meaning = meaning
negations (suc n) meaning = negations n (negation meaning)

abbrev pub joined : (Meaning → Meaning → Meaning) → Option Meaning → Meaning → Meaning
joined join None right = right
joined join (Some left) right = join left right

-- the operands joined by AND, up to the last
abbrev pub conjunction_in : Group → Meaning → Meaning
conjunction_in group last = joined conjunction group.and (negations group.nots last)

-- all of the group
abbrev pub disjunction_in : Group → Meaning → Meaning
disjunction_in group last = joined disjunction group.or (conjunction_in group last)

-- a `(` of a group, a NOT or a name
unfoldable pub begin : List Group → Group → Token → Option State
begin groups group token.Not = Some (record { groups = groups; group = record group { nots = group.nots + 1 }; place = place.Operand })
begin groups group token.Open =
    Some (record { groups = group ∷ groups; group = new_group (group.depth + group.nots + 1); place = place.Operand })
begin groups group (token.Name name form) = Some (record { groups = groups; group = group; place = place.Column name })
begin _ _ _ = None

-- the `)` of the present group, whose operands end with this
abbrev pub closed : List Group → Group → Meaning → Option State
closed [] group last = None
closed (outer ∷ groups) group last =
    Some (record { groups = groups; group = outer; place = place.Done (disjunction_in group last) })

-- AND, OR or `)` behind an operand
unfoldable pub follow : List Group → Group → Meaning → Token → Option State
follow groups group last token.And =
    Some (record { groups = groups; group = record group { and = Some (conjunction_in group last); nots = 0 }; place = place.Operand })
follow groups group last token.Or =
    Some (record { groups = groups; group = record group { or = Some (disjunction_in group last); and = None; nots = 0 }; place = place.Operand })
follow groups group last token.Close = closed groups group last
follow _ _ _ _ = None

-- the literal that a token is
unfoldable pub literal_token : Token → Option Literal
literal_token (token.Integer n) = Some (literal.Integer n)
literal_token (token.Str s) = Some (literal.Str s)
literal_token token.True = Some (literal.Bool true)
literal_token token.False = Some (literal.Bool false)
literal_token _ = None

-- DATE or TIMESTAMP
unfoldable pub word_form : Token → Option Form
word_form (token.Name name form.Date) = Some form.Date
word_form (token.Name name form.Timestamp) = Some form.Timestamp
word_form _ = None

-- the literal of DATE or TIMESTAMP and a string
unfoldable pub worded : Form → Token → Option Literal
worded form.Date (token.Str s) = Some (literal.Date s)
worded form.Timestamp (token.Str s) = Some (literal.Timestamp s)
worded _ _ = None

-- where a name goes on as a test
unfoldable pub continues : List ℕ → Token → Option Place
continues column (token.Compare op) = Some (place.Literal column (target.Compare op))
continues column token.Is = Some (place.Is column false)
continues column token.Not = Some (place.Not column)
continues column token.In = Some (place.In column false)
continues _ _ = None

module _ (columns : List Column) where
  -- behind a literal
  abbrev pub with_literal : List ℕ → Target → Literal → Place
  with_literal column (target.Compare op) value = place.Done (test_meaning columns column (said_compared op value))
  with_literal column (target.Among negated values) value = place.Listed column negated (values ++ value ∷ [])

  -- DATE, TIMESTAMP or a whole literal
  abbrev pub at_literal : List ℕ → Target → Option Literal → Option Form → Option Place
  at_literal column target (Some value) form = Some (with_literal column target value)
  at_literal column target None form = option_map (λ form. place.Worded column target form) form

  -- inside a test, behind its name
  unfoldable pub inside : Place → Token → Option Place
  inside (place.Is column false) token.Not = Some (place.Is column true)
  inside (place.Is column negated) token.Null = Some (place.Done (negation_if negated (test_meaning columns column said_null)))
  inside (place.Not column) token.In = Some (place.In column true)
  inside (place.In column negated) token.Open = Some (place.Literal column (target.Among negated []))
  inside (place.Literal column target) token = at_literal column target (literal_token token) (word_form token)
  inside (place.Worded column target form) token = option_map (with_literal column target) (worded form token)
  inside (place.Listed column negated values) token.Comma = Some (place.Literal column (target.Among negated values))
  inside (place.Listed column negated values) token.Close =
      Some (place.Done (negation_if negated (test_meaning columns column (said_among values))))
  inside _ _ = None

  -- behind a name: on with its test, or with what follows the bare name
  abbrev pub past_name : State → List ℕ → Option Place → Token → Option State
  past_name state column (Some place) token = Some (record state { place = place })
  past_name state column None token = follow state.groups state.group (test_meaning columns column said_bare) token

  abbrev pub step_at : State → Place → Token → Option State
  step_at state place.Operand token = begin state.groups state.group token
  step_at state (place.Done meaning) token = follow state.groups state.group meaning token
  step_at state (place.Column column) token = past_name state column (continues column token) token
  step_at state place token = option_map (λ place. record state { place = place }) (inside place token)

  -- the state behind one token more; None where the token can't follow
  unfoldable pub step : State → Token → Option State
  step state token = step_at state state.place token

  -- the meaning of an operand that may be the last
  unfoldable pub operand_at : Place → Option Meaning
  operand_at (place.Done meaning) = Some meaning
  operand_at (place.Column column) = Some (test_meaning columns column said_bare)
  operand_at _ = None

  abbrev pub ended : List Group → Group → Place → Option Meaning
  ended [] group place.Operand = if is_new group then Some (Ok pred.All) else None
  ended [] group place = option_map (disjunction_in group) (operand_at place)
  ended (outer ∷ groups) group place = None

  -- the meaning of a text that ends here; None where it can't
  unfoldable pub end : State → Option Meaning
  end state = ended state.groups state.group state.place
