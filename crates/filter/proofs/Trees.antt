-- The tokens of a tree lead the parser to the tree's meaning.
use Rattle.std.proofs.Common.{◌≡◌, ℕ, zero, suc, ◌+◌, ◌≤◌, Bool, true, false, List, [], ◌∷◌, ◌++◌, map, Option, Some, None, refl, sym, ◌∙◌, ap, subst, arith, append_assoc, add-one, option_map}
use Rattle.column_types.specs.declared.column.Column as schema
use Rattle.filter.specs.declared.literal.Literal.{Literal}
use Rattle.filter.specs.declared.parser.Group.{Group}
use Rattle.filter.specs.declared.parser.Place.{Place}
use Rattle.filter.specs.declared.parser.Place.TheVariants as place
use Rattle.filter.specs.declared.parser.State.{State}
use Rattle.filter.specs.declared.parser.Target.{Target}
use Rattle.filter.specs.declared.parser.Target.TheVariants as target
use Rattle.filter.specs.declared.token.Form.{Form}
use Rattle.filter.specs.declared.token.Token.{Token}
use Rattle.filter.specs.declared.token.Token.TheVariants as token
use Rattle.filter.specs.Grammar.{Constant, integer, string, boolean, date, timestamp, Test, bare, compared, is_null, among, OrTree, AndTree, NotTree, one_and, more_or, one_not, more_and, behind_not, in_group, one_test, constant_tokens, list_tokens, not_token, test_tokens, or_tokens, and_tokens, not_tokens, or_depth, and_depth, not_depth, TextTree, empty, whole, text_tokens, text_depth}
use Rattle.filter.specs.Machine.{step, begin, follow, closed, continues, inside, literal_token, word_form, worded, with_literal, operand_at, joined, conjunction_in, disjunction_in, new_group, past_name, negations, start, end, ended}
use Rattle.filter.specs.Meaning.{Meaning, literal_of, meaning_of_test, text_meaning, or_meaning, and_meaning, not_meaning, conjunction, disjunction, negation, negation_if, test_meaning, said_among, said_bare}
use Rattle.filter.proofs.Runs.{at, depth_of, Runs, Runs-append, Runs-one, Runs-then}

module _ (columns : List schema.Column) (most : ℕ) (groups : List Group) (or and : Option Meaning) (nots depth : ℕ) (fits : depth + nots ≤ most) where
  abbrev Goes : Place → List Token → Place → Type 0
  Goes from tokens to = Runs columns most (at groups or and nots depth from) tokens (at groups or and nots depth to)

  goes_on : (from middle to : Place) (xs ys : List Token) → Goes from xs middle → Goes middle ys to → Goes from (xs ++ ys) to
  goes_on from middle to xs ys first second =
      Runs-append columns most (at groups or and nots depth from) (at groups or and nots depth middle) (at groups or and nots depth to) xs ys first second

  constant_run : (k : Constant) (column : List ℕ) (target : Target) → Goes (place.Literal column target) (constant_tokens k) (with_literal columns column target (literal_of k))
  unfolding step inside literal_token word_form worded
  constant_run (integer n) column target = (_, refl, fits, refl)
  constant_run (string s) column target = (_, refl, fits, refl)
  constant_run (boolean true) column target = (_, refl, fits, refl)
  constant_run (boolean false) column target = (_, refl, fits, refl)
  constant_run (date word s) column target = (_, refl, fits, (_, refl, fits, refl))
  constant_run (timestamp word s) column target = (_, refl, fits, (_, refl, fits, refl))

  comma : (column : List ℕ) (negated : Bool) (values : List Literal) → Goes (place.Listed column negated values) (token.Comma ∷ []) (place.Literal column (target.Among negated values))
  unfolding step inside
  comma column negated values = (_, refl, fits, refl)

  list_run : (more : List Constant) (first : Constant) (column : List ℕ) (negated : Bool) (values : List Literal) →
      Goes (place.Literal column (target.Among negated values)) (list_tokens first more) (place.Listed column negated (values ++ map literal_of (first ∷ more)))
  list_run [] first column negated values = constant_run first column (target.Among negated values)
  list_run (next ∷ more) first column negated values =
      goes_on _ (place.Listed column negated (values ++ literal_of first ∷ [])) _ (constant_tokens first) (token.Comma ∷ list_tokens next more)
      (constant_run first column (target.Among negated values))
      (goes_on _ (place.Literal column (target.Among negated (values ++ literal_of first ∷ []))) _ (token.Comma ∷ []) (list_tokens next more)
      (comma column negated (values ++ literal_of first ∷ []))
      (subst (λ vs. Goes (place.Literal column (target.Among negated (values ++ literal_of first ∷ []))) (list_tokens next more) (place.Listed column negated vs))
      (append_assoc values (literal_of first ∷ []) (map literal_of (next ∷ more)))
      (list_run more next column negated (values ++ literal_of first ∷ []))))

  -- behind an operand with this meaning
  abbrev Ends : List Token → Meaning → Type 0
  Ends tokens meaning = (to : Place) × Goes place.Operand tokens to × (operand_at columns to ≡ Some meaning)

  list_end : (column : List ℕ) (negated : Bool) (first : Constant) (more : List Constant) →
      Goes (place.Literal column (target.Among negated [])) (list_tokens first more ++ token.Close ∷ []) (place.Done (negation_if negated (test_meaning columns column (said_among (map literal_of (first ∷ more))))))
  unfolding step inside
  list_end column negated first more =
      goes_on (place.Literal column (target.Among negated [])) (place.Listed column negated (map literal_of (first ∷ more))) _ (list_tokens first more) (token.Close ∷ [])
      (list_run more first column negated []) (_, refl, fits, refl)

  test_run : (t : Test) → Ends (test_tokens t) (meaning_of_test columns t)
  unfolding step begin inside continues meaning_of_test operand_at
  test_run (bare column) = (_, (_, refl, fits, refl), refl)
  test_run (compared column op constant) =
      (_, (_, refl, fits, (_, refl, fits, constant_run constant column.name (target.Compare op))), refl)
  test_run (is_null column true) = (_, (_, refl, fits, (_, refl, fits, (_, refl, fits, (_, refl, fits, refl)))), refl)
  test_run (is_null column false) = (_, (_, refl, fits, (_, refl, fits, (_, refl, fits, refl))), refl)
  test_run (among column true first more) =
      (_, (_, refl, fits, (_, refl, fits, (_, refl, fits, (_, refl, fits, list_end column.name true first more)))), refl)
  test_run (among column false first more) = (_, (_, refl, fits, (_, refl, fits, (_, refl, fits, list_end column.name false first more))), refl)

-- AND, OR and `)` stand behind any operand
step-operand : (columns : List schema.Column) (groups : List Group) (group : Group) (p : Place) (last : Meaning) (t : Token) →
    operand_at columns p ≡ Some last → ((column : List ℕ) → continues column t ≡ None) →
    step columns (record { groups = groups; group = group; place = p }) t ≡ follow groups group last t
unfolding step operand_at
step-operand columns groups group (place.Done meaning) last t e alone =
    let same : meaning ≡ last = cc in ap (λ m. follow groups group m t) same
step-operand columns groups group (place.Column column) last t e alone =
    let same : test_meaning columns column said_bare ≡ last = cc in
    ap (λ next. past_name columns (record { groups = groups; group = group; place = place.Column column }) column next t) (alone column)
    ∙ ap (λ m. follow groups group m t) same
step-operand columns groups group _ last t e alone = absurd (cc)

step-and : (columns : List schema.Column) (groups : List Group) (group : Group) (p : Place) (last : Meaning) → operand_at columns p ≡ Some last →
    step columns (record { groups = groups; group = group; place = p }) token.And
    ≡ Some (record { groups = groups; group = record group { and = Some (conjunction_in group last); nots = 0 }; place = place.Operand })
unfolding follow continues
step-and columns groups group p last e = step-operand columns groups group p last token.And e (λ column. refl)

step-or : (columns : List schema.Column) (groups : List Group) (group : Group) (p : Place) (last : Meaning) → operand_at columns p ≡ Some last →
    step columns (record { groups = groups; group = group; place = p }) token.Or
    ≡ Some (record { groups = groups; group = record group { or = Some (disjunction_in group last); and = None; nots = 0 }; place = place.Operand })
unfolding follow continues
step-or columns groups group p last e = step-operand columns groups group p last token.Or e (λ column. refl)

step-close : (columns : List schema.Column) (groups : List Group) (group : Group) (p : Place) (last : Meaning) → operand_at columns p ≡ Some last →
    step columns (record { groups = groups; group = group; place = p }) token.Close ≡ closed groups group last
unfolding follow continues
step-close columns groups group p last e = step-operand columns groups group p last token.Close e (λ column. refl)

-- What a tree's tokens lead to: behind an operand, with which the group so far has the tree's meaning.
module _ (columns : List schema.Column) (most : ℕ) (groups : List Group) (depth : ℕ) where
  pub record NotRun (or and : Option Meaning) (nots : ℕ) (tokens : List Token) (meaning : Meaning) : Type 0 where
    pub count : ℕ
    pub to : Place
    pub last : Meaning
    pub runs : Runs columns most (at groups or and nots depth place.Operand) tokens (at groups or and count depth to)
    pub operand : operand_at columns to ≡ Some last
    pub means : negations count last ≡ negations nots meaning

  pub record AndRun (or : Option Meaning) (tokens : List Token) (meaning : Meaning) : Type 0 where
    pub and : Option Meaning
    pub count : ℕ
    pub to : Place
    pub last : Meaning
    pub runs : Runs columns most (at groups or None 0 depth place.Operand) tokens (at groups or and count depth to)
    pub operand : operand_at columns to ≡ Some last
    pub means : joined conjunction and (negations count last) ≡ meaning

  pub record OrRun (tokens : List Token) (meaning : Meaning) : Type 0 where
    pub or : Option Meaning
    pub and : Option Meaning
    pub count : ℕ
    pub to : Place
    pub last : Meaning
    pub runs : Runs columns most (at groups None None 0 depth place.Operand) tokens (at groups or and count depth to)
    pub operand : operand_at columns to ≡ Some last
    pub means : joined disjunction or (joined conjunction and (negations count last)) ≡ meaning

test_not_run : (columns : List schema.Column) (most : ℕ) (groups : List Group) (depth : ℕ) (or and : Option Meaning) (nots : ℕ) (t : Test) → depth + nots ≤ most →
    NotRun columns most groups depth or and nots (test_tokens t) (meaning_of_test columns t)
test_not_run columns most groups depth or and nots t fits =
    let run = test_run columns most groups or and nots depth fits t in
    record { count = nots; to = run.0; last = meaning_of_test columns t; runs = run.1; operand = run.2; means = refl }

and_one : (columns : List schema.Column) (most : ℕ) (groups : List Group) (depth : ℕ) (or : Option Meaning) (tokens : List Token) (meaning : Meaning) →
    NotRun columns most groups depth or None 0 tokens meaning → AndRun columns most groups depth or tokens meaning
and_one columns most groups depth or tokens meaning run =
    record { and = None; count = run.count; to = run.to; last = run.last; runs = run.runs; operand = run.operand; means = run.means }

and_more : (columns : List schema.Column) (most : ℕ) (groups : List Group) (depth : ℕ) (or : Option Meaning) (xs ys : List Token) (left right : Meaning) → depth ≤ most →
    AndRun columns most groups depth or xs left → NotRun columns most groups depth or (Some left) 0 ys right →
    AndRun columns most groups depth or (xs ++ token.And ∷ ys) (conjunction left right)
and_more columns most groups depth or xs ys left right fits first second = record {
  and = Some left;
  count = second.count;
  to = second.to;
  last = second.last;
  runs = Runs-append columns most _ (at groups or first.and first.count depth first.to) _ xs (token.And ∷ ys) first.runs (
    _,
    step-and columns groups _ first.to first.last first.operand,
    omega arith,
    subst (λ a. Runs columns most (at groups or (Some a) 0 depth place.Operand) ys (at groups or (Some left) second.count depth second.to)) (sym first.means) second.runs,
  );
  operand = second.operand;
  means = ap (conjunction left) second.means;
}

or_one : (columns : List schema.Column) (most : ℕ) (groups : List Group) (depth : ℕ) (tokens : List Token) (meaning : Meaning) →
    AndRun columns most groups depth None tokens meaning → OrRun columns most groups depth tokens meaning
or_one columns most groups depth tokens meaning run =
    record { or = None; and = run.and; count = run.count; to = run.to; last = run.last; runs = run.runs; operand = run.operand; means = run.means }

or_more : (columns : List schema.Column) (most : ℕ) (groups : List Group) (depth : ℕ) (xs ys : List Token) (left right : Meaning) → depth ≤ most →
    OrRun columns most groups depth xs left → AndRun columns most groups depth (Some left) ys right →
    OrRun columns most groups depth (xs ++ token.Or ∷ ys) (disjunction left right)
or_more columns most groups depth xs ys left right fits first second = record {
  or = Some left;
  and = second.and;
  count = second.count;
  to = second.to;
  last = second.last;
  runs = Runs-append columns most _ (at groups first.or first.and first.count depth first.to) _ xs (token.Or ∷ ys) first.runs (
    _,
    step-or columns groups _ first.to first.last first.operand,
    omega arith,
    subst (λ a. Runs columns most (at groups (Some a) None 0 depth place.Operand) ys (at groups (Some left) second.and second.count depth second.to)) (sym first.means) second.runs,
  );
  operand = second.operand;
  means = ap (disjunction left) second.means;
}

not_more : (columns : List schema.Column) (most : ℕ) (groups : List Group) (depth : ℕ) (or and : Option Meaning) (nots : ℕ) (tokens : List Token) (meaning : Meaning) → depth + (nots + 1) ≤ most →
    NotRun columns most groups depth or and (nots + 1) tokens meaning → NotRun columns most groups depth or and nots (token.Not ∷ tokens) (negation meaning)
unfolding step begin
not_more columns most groups depth or and nots tokens meaning fits run = record {
  count = run.count;
  to = run.to;
  last = run.last;
  runs = (_, refl, fits, run.runs);
  operand = run.operand;
  means = run.means ∙ ap (λ n. negations n meaning) (add-one nots);
}

not_group : (columns : List schema.Column) (most : ℕ) (groups : List Group) (depth : ℕ) (or and : Option Meaning) (nots : ℕ) (tokens : List Token) (meaning : Meaning) → depth + nots + 1 ≤ most →
    OrRun columns most (record { or = or; and = and; nots = nots; depth = depth } ∷ groups) (depth + nots + 1) tokens meaning →
    NotRun columns most groups depth or and nots (token.Open ∷ tokens ++ token.Close ∷ []) meaning
unfolding step begin operand_at
not_group columns most groups depth or and nots tokens meaning fits run = record {
  count = nots;
  to = _;
  last = disjunction_in (record { or = run.or; and = run.and; nots = run.count; depth = depth + nots + 1 }) run.last;
  runs = (
    _,
    refl,
    omega arith,
    Runs-then columns most _ (at (record { or = or; and = and; nots = nots; depth = depth } ∷ groups) run.or run.and run.count (depth + nots + 1) run.to)
        (at groups or and nots depth (place.Done (disjunction_in (record { or = run.or; and = run.and; nots = run.count; depth = depth + nots + 1 }) run.last)))
        tokens token.Close run.runs
        (step-close columns (record { or = or; and = and; nots = nots; depth = depth } ∷ groups) _ run.to run.last run.operand) (omega arith),
  );
  operand = refl;
  means = ap (negations nots) run.means;
}

mutual
  pub or_run : (tree : OrTree) (columns : List schema.Column) (most : ℕ) (groups : List Group) (depth : ℕ) → depth + or_depth tree ≤ most →
      OrRun columns most groups depth (or_tokens tree) (or_meaning columns tree)
  or_run (one_and tree) columns most groups depth fits =
      or_one columns most groups depth (and_tokens tree) (and_meaning columns tree) (and_run tree columns most groups depth None fits)
  or_run (more_or left right) columns most groups depth fits =
      or_more columns most groups depth (or_tokens left) (and_tokens right) (or_meaning columns left) (and_meaning columns right) (omega arith)
      (or_run left columns most groups depth (omega arith))
      (and_run right columns most groups depth (Some (or_meaning columns left)) (omega arith))

  pub and_run : (tree : AndTree) (columns : List schema.Column) (most : ℕ) (groups : List Group) (depth : ℕ) (or : Option Meaning) → depth + and_depth tree ≤ most →
      AndRun columns most groups depth or (and_tokens tree) (and_meaning columns tree)
  and_run (one_not tree) columns most groups depth or fits =
      and_one columns most groups depth or (not_tokens tree) (not_meaning columns tree) (not_run tree columns most groups depth or None 0 (omega arith))
  and_run (more_and left right) columns most groups depth or fits =
      and_more columns most groups depth or (and_tokens left) (not_tokens right) (and_meaning columns left) (not_meaning columns right) (omega arith)
      (and_run left columns most groups depth or (omega arith))
      (not_run right columns most groups depth or (Some (and_meaning columns left)) 0 (omega arith))

  pub not_run : (tree : NotTree) (columns : List schema.Column) (most : ℕ) (groups : List Group) (depth : ℕ) (or and : Option Meaning) (nots : ℕ) → depth + nots + not_depth tree ≤ most →
      NotRun columns most groups depth or and nots (not_tokens tree) (not_meaning columns tree)
  not_run (behind_not tree) columns most groups depth or and nots fits =
      not_more columns most groups depth or and nots (not_tokens tree) (not_meaning columns tree) (omega arith)
      (not_run tree columns most groups depth or and (nots + 1) (omega arith))
  not_run (in_group tree) columns most groups depth or and nots fits =
      not_group columns most groups depth or and nots (or_tokens tree) (or_meaning columns tree) (omega arith)
      (or_run tree columns most (record { or = or; and = and; nots = nots; depth = depth } ∷ groups) (depth + nots + 1) (omega arith))
  not_run (one_test t) columns most groups depth or and nots fits =
      test_not_run columns most groups depth or and nots t (omega arith)

-- The tokens of a text lead the parser to its end, with the text's meaning.
ended-operand : (columns : List schema.Column) (group : Group) (p : Place) (last : Meaning) → operand_at columns p ≡ Some last → ended columns [] group p ≡ Some (disjunction_in group last)
unfolding operand_at
ended-operand columns group (place.Done meaning) last e = ap (option_map (disjunction_in group)) e
ended-operand columns group (place.Column column) last e = ap (option_map (disjunction_in group)) e
ended-operand columns group _ last e = absurd (cc)

pub text_run : (tree : TextTree) (columns : List schema.Column) (most : ℕ) → text_depth tree ≤ most →
    (state : State) × Runs columns most start (text_tokens tree) state × (end columns state ≡ Some (text_meaning columns tree))
unfolding end
text_run empty columns most fits = (start, refl, refl)
text_run (whole tree) columns most fits =
    let run = or_run tree columns most [] 0 (omega arith) in (
      at [] run.or run.and run.count 0 run.to,
      run.runs,
      ended-operand columns (record { or = run.or; and = run.and; nots = run.count; depth = 0 }) run.to run.last run.operand ∙ ap Some run.means,
    )
