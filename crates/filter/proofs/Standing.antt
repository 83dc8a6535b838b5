-- A state of the parser stands for parts of trees, which have the tokens that led to it.
use Rattle.std.proofs.Common.{◌≡◌, ℕ, zero, suc, ◌+◌, ◌≤◌, ◌⊎◌, inl, inr, Bool, true, false, List, [], ◌∷◌, ◌++◌, map, Option, Some, None, refl, sym, ◌∙◌, ap, subst, arith, append_assoc, append-nil, add-one, zero-le, eqb-true, option_map, Ok, if◌then◌else◌}
use Rattle.std.proofs.lemmas.List.{map-append}
use Rattle.column_types.specs.declared.column.Column as schema
use Rattle.column_types.specs.declared.predicate.Pred as pred
use Rattle.filter.specs.declared.literal.Literal.{Literal}
use Rattle.filter.specs.declared.literal.Literal.TheVariants as literal
use Rattle.filter.specs.declared.parser.Group.{Group}
use Rattle.filter.specs.declared.parser.Place.{Place}
use Rattle.filter.specs.declared.parser.Place.TheVariants as place
use Rattle.filter.specs.declared.parser.State.{State}
use Rattle.filter.specs.declared.parser.Target.{Target}
use Rattle.filter.specs.declared.parser.Target.TheVariants as target
use Rattle.filter.specs.declared.token.Form.{Form}
use Rattle.filter.specs.declared.token.Form.TheVariants as form
use Rattle.filter.specs.declared.token.Token.{Token}
use Rattle.filter.specs.declared.token.Token.TheVariants as token
use Rattle.filter.specs.Grammar.{Constant, integer, string, boolean, date, timestamp, Test, bare, compared, is_null, among, OrTree, AndTree, NotTree, one_and, more_or, one_not, more_and, behind_not, in_group, one_test, constant_tokens, list_tokens, not_token, test_tokens, or_tokens, and_tokens, not_tokens, or_depth, and_depth, not_depth, TextTree, empty, whole, text_tokens, text_depth}
use Rattle.filter.specs.Machine.{start, step, step_at, past_name, begin, follow, closed, continues, inside, at_literal, literal_token, word_form, worded, with_literal, operand_at, joined, conjunction_in, disjunction_in, new_group, negations, end, ended, is_new}
use Rattle.filter.specs.Meaning.{Meaning, literal_of, meaning_of_test, or_meaning, and_meaning, not_meaning, text_meaning, conjunction, disjunction, negation, negation_if, test_meaning, said_among, said_bare, said_null}
use Rattle.filter.proofs.Runs.{depth_of, Runs}

-- so many NOTs
nots : ℕ → List Token
nots zero = []
nots (suc n) = nots n ++ token.Not ∷ []

wrapped : ℕ → NotTree → NotTree
wrapped zero tree = tree
wrapped (suc n) tree = wrapped n (behind_not tree)

wrapped-tokens : (n : ℕ) (tree : NotTree) → not_tokens (wrapped n tree) ≡ nots n ++ not_tokens tree
unfolding wrapped nots
wrapped-tokens zero tree = refl
wrapped-tokens (suc n) tree = wrapped-tokens n (behind_not tree) ∙ sym (append_assoc (nots n) (token.Not ∷ []) (not_tokens tree))

wrapped-depth : (n : ℕ) (tree : NotTree) → not_depth (wrapped n tree) ≡ n + not_depth tree
unfolding wrapped
wrapped-depth zero tree = omega arith
wrapped-depth (suc n) tree = omega (arith, wrapped-depth n (behind_not tree))

module _ (columns : List schema.Column) where
  wrapped-meaning : (n : ℕ) (tree : NotTree) → not_meaning columns (wrapped n tree) ≡ negations n (not_meaning columns tree)
  unfolding wrapped
  wrapped-meaning zero tree = refl
  wrapped-meaning (suc n) tree = wrapped-meaning n (behind_not tree)

-- What stands in a group, in so many parentheses and NOTs, of which at most so many are allowed.
module _ (columns : List schema.Column) (most : ℕ) where
  -- operands and the OR behind them, or nothing
  OrPart : ℕ → Option Meaning → List Token → Type 0
  OrPart depth None tokens = tokens ≡ []
  OrPart depth (Some meaning) tokens =
      (tree : OrTree) × (or_meaning columns tree ≡ meaning) × (depth + or_depth tree ≤ most) × (tokens ≡ or_tokens tree ++ token.Or ∷ [])

  AndPart : ℕ → Option Meaning → List Token → Type 0
  AndPart depth None tokens = tokens ≡ []
  AndPart depth (Some meaning) tokens =
      (tree : AndTree) × (and_meaning columns tree ≡ meaning) × (depth + and_depth tree ≤ most) × (tokens ≡ and_tokens tree ++ token.And ∷ [])

  record NotBuilt (depth : ℕ) (tokens : List Token) (meaning : Meaning) : Type 0 where
    tree : NotTree
    means : not_meaning columns tree ≡ meaning
    fits : depth + not_depth tree ≤ most
    spelled : tokens ≡ not_tokens tree

  record AndBuilt (depth : ℕ) (tokens : List Token) (meaning : Meaning) : Type 0 where
    tree : AndTree
    means : and_meaning columns tree ≡ meaning
    fits : depth + and_depth tree ≤ most
    spelled : tokens ≡ and_tokens tree

  record OrBuilt (depth : ℕ) (tokens : List Token) (meaning : Meaning) : Type 0 where
    tree : OrTree
    means : or_meaning columns tree ≡ meaning
    fits : depth + or_depth tree ≤ most
    spelled : tokens ≡ or_tokens tree

  not_built : (depth n : ℕ) (tokens : List Token) (meaning : Meaning) → NotBuilt (depth + n) tokens meaning → NotBuilt depth (nots n ++ tokens) (negations n meaning)
  not_built depth n tokens meaning part = record {
    tree = wrapped n part.tree;
    means = wrapped-meaning columns n part.tree ∙ ap (negations n) part.means;
    fits = omega (arith, part.fits, wrapped-depth n part.tree);
    spelled = ap (λ ts. nots n ++ ts) part.spelled ∙ sym (wrapped-tokens n part.tree);
  }

  and_built : (depth : ℕ) (and : Option Meaning) (front tokens : List Token) (meaning : Meaning) → AndPart depth and front → NotBuilt depth tokens meaning →
      AndBuilt depth (front ++ tokens) (joined conjunction and meaning)
  unfolding AndPart
  and_built depth None front tokens meaning part last =
      record { tree = one_not last.tree; means = last.means; fits = last.fits; spelled = ap (λ ts. ts ++ tokens) part ∙ last.spelled }
  and_built depth (Some left) front tokens meaning part last = record {
    tree = more_and part.0 last.tree;
    means = ap (λ m. conjunction m (not_meaning columns last.tree)) part.1 ∙ ap (conjunction left) last.means;
    fits = let a : depth + and_depth part.0 ≤ most = part.2 in let b : depth + not_depth last.tree ≤ most = last.fits in omega arith;
    spelled = ap (λ ts. ts ++ tokens) part.3 ∙ append_assoc (and_tokens part.0) (token.And ∷ []) tokens ∙ ap (λ ts. and_tokens part.0 ++ token.And ∷ ts) last.spelled;
  }

  or_built : (depth : ℕ) (or : Option Meaning) (front tokens : List Token) (meaning : Meaning) → OrPart depth or front → AndBuilt depth tokens meaning →
      OrBuilt depth (front ++ tokens) (joined disjunction or meaning)
  unfolding OrPart
  or_built depth None front tokens meaning part last =
      record { tree = one_and last.tree; means = last.means; fits = last.fits; spelled = ap (λ ts. ts ++ tokens) part ∙ last.spelled }
  or_built depth (Some left) front tokens meaning part last = record {
    tree = more_or part.0 last.tree;
    means = ap (λ m. disjunction m (and_meaning columns last.tree)) part.1 ∙ ap (disjunction left) last.means;
    fits = let a : depth + or_depth part.0 ≤ most = part.2 in let b : depth + and_depth last.tree ≤ most = last.fits in omega arith;
    spelled = ap (λ ts. ts ++ tokens) part.3 ∙ append_assoc (or_tokens part.0) (token.Or ∷ []) tokens ∙ ap (λ ts. or_tokens part.0 ++ token.Or ∷ ts) last.spelled;
  }

  -- what a group has on the left of its present operand
  record Left (group : Group) (tokens : List Token) : Type 0 where
    ors : List Token
    ands : List Token
    or_part : OrPart group.depth group.or ors
    and_part : AndPart group.depth group.and ands
    spelled : tokens ≡ ors ++ (ands ++ nots group.nots)

  -- the operands joined by AND up to the last, and all of a group with it
  conjunction_built : (group : Group) (before : List Token) (left : Left group before) (tokens : List Token) (meaning : Meaning) → NotBuilt (group.depth + group.nots) tokens meaning →
      AndBuilt group.depth (left.ands ++ (nots group.nots ++ tokens)) (conjunction_in group meaning)
  conjunction_built group before left tokens meaning last =
      and_built group.depth group.and left.ands (nots group.nots ++ tokens) (negations group.nots meaning) left.and_part
      (not_built group.depth group.nots tokens meaning last)

  disjunction_built : (group : Group) (before tokens : List Token) (meaning : Meaning) → Left group before → NotBuilt (group.depth + group.nots) tokens meaning →
      OrBuilt group.depth (before ++ tokens) (disjunction_in group meaning)
  disjunction_built group before tokens meaning left last =
      let built = or_built group.depth group.or left.ors (left.ands ++ (nots group.nots ++ tokens)) (conjunction_in group meaning) left.or_part
      (conjunction_built group before left tokens meaning last) in
      record {
        tree = built.tree;
        means = built.means;
        fits = built.fits;
        spelled = ap (λ ts. ts ++ tokens) left.spelled ∙ simp append_assoc built.spelled;
      }

  -- the groups around the present one, which stands this deep
  Around : List Group → List Token → ℕ → Type 0
  Around [] tokens depth = (tokens ≡ []) × (depth ≡ 0)
  Around (group ∷ groups) tokens depth =
      (before : List Token) × (left : List Token) × Around groups before group.depth × Left group left × (depth ≡ group.depth + group.nots + 1)
      × (tokens ≡ before ++ (left ++ token.Open ∷ []))

  -- the literals of a list so far, each with the comma behind it
  Leading : List Literal → List Token → Type 0
  Leading values tokens =
      ((values ≡ []) × (tokens ≡ []))
      ⊎ ((first : Constant) × (more : List Constant) × (values ≡ map literal_of (first ∷ more)) × (tokens ≡ list_tokens first more ++ token.Comma ∷ []))

  TargetPart : Target → List Token → Type 0
  TargetPart (target.Compare op) tokens = tokens ≡ token.Compare op ∷ []
  TargetPart (target.Among negated values) tokens =
      (leading : List Token) × Leading values leading × (tokens ≡ not_token negated ++ (token.In ∷ token.Open ∷ leading))

  IsWord : Form → Type 0
  IsWord form.Date = Unit {0}
  IsWord form.Timestamp = Unit {0}
  IsWord _ = ⊥

  -- the present operand, so far
  PlacePart : ℕ → Place → List Token → Type 0
  PlacePart depth place.Operand tokens = tokens ≡ []
  PlacePart depth (place.Done meaning) tokens = NotBuilt depth tokens meaning
  PlacePart depth (place.Column column) tokens = (f : Form) × (tokens ≡ token.Name column f ∷ [])
  PlacePart depth (place.Is column negated) tokens = (f : Form) × (tokens ≡ token.Name column f ∷ token.Is ∷ not_token negated)
  PlacePart depth (place.Not column) tokens = (f : Form) × (tokens ≡ token.Name column f ∷ token.Not ∷ [])
  PlacePart depth (place.In column negated) tokens = (f : Form) × (tokens ≡ token.Name column f ∷ (not_token negated ++ token.In ∷ []))
  PlacePart depth (place.Literal column target) tokens =
      (f : Form) × (part : List Token) × TargetPart target part × (tokens ≡ token.Name column f ∷ part)
  PlacePart depth (place.Worded column target form) tokens =
      (f : Form) × (part : List Token) × TargetPart target part × (word : List ℕ) × IsWord form × (tokens ≡ token.Name column f ∷ (part ++ token.Name word form ∷ []))
  PlacePart depth (place.Listed column negated values) tokens =
      (f : Form) × (first : Constant) × (more : List Constant) × (values ≡ map literal_of (first ∷ more))
      × (tokens ≡ token.Name column f ∷ (not_token negated ++ (token.In ∷ token.Open ∷ list_tokens first more)))

  -- The state stands for these tokens.
  pub record Standing (state : State) (tokens : List Token) : Type 0 where
    around : List Token
    left : List Token
    part : List Token
    fits : depth_of state ≤ most
    around_part : Around state.groups around state.group.depth
    left_part : Left state.group left
    place_part : PlacePart (depth_of state) state.place part
    spelled : tokens ≡ around ++ (left ++ part)

  pub standing_start : 0 ≤ most → Standing start []
  unfolding Around OrPart AndPart PlacePart nots
  standing_start fits = record {
    around = [];
    left = [];
    part = [];
    fits = zero-le;
    around_part = (refl, refl);
    left_part = record { ors = []; ands = []; or_part = refl; and_part = refl; spelled = refl };
    place_part = refl;
    spelled = refl;
  }

  -- literals
  constant_of : (t : Token) (value : Literal) → literal_token t ≡ Some value → (k : Constant) × (constant_tokens k ≡ t ∷ []) × (literal_of k ≡ value)
  unfolding literal_token
  constant_of (token.Integer n) value e = (integer n, refl, cc)
  constant_of (token.Str s) value e = (string s, refl, cc)
  constant_of token.True value e = (boolean true, refl, cc)
  constant_of token.False value e = (boolean false, refl, cc)
  constant_of _ value e = absurd (cc)

  worded_constant : (f : Form) (t : Token) (value : Literal) (word : List ℕ) → worded f t ≡ Some value → (k : Constant) × (constant_tokens k ≡ token.Name word f ∷ t ∷ []) × (literal_of k ≡ value)
  unfolding worded
  worded_constant form.Date (token.Str s) value word e = (date word s, refl, cc)
  worded_constant form.Timestamp (token.Str s) value word e = (timestamp word s, refl, cc)
  worded_constant _ _ value word e = absurd (cc)

  word_of : (t : Token) (f : Form) → word_form t ≡ Some f → (word : List ℕ) × (t ≡ token.Name word f) × IsWord f
  unfolding word_form IsWord
  word_of (token.Name word form.Date) form.Date e = (word, refl, tt)
  word_of (token.Name word form.Timestamp) form.Timestamp e = (word, refl, tt)
  word_of _ f e = absurd (cc)

  list_tokens-snoc : (more : List Constant) (first last : Constant) → list_tokens first (more ++ last ∷ []) ≡ list_tokens first more ++ (token.Comma ∷ constant_tokens last)
  list_tokens-snoc [] first last = refl
  list_tokens-snoc (next ∷ more) first last =
      ap (λ ts. constant_tokens first ++ token.Comma ∷ ts) (list_tokens-snoc more next last)
      ∙ sym (append_assoc (constant_tokens first) (token.Comma ∷ list_tokens next more) (token.Comma ∷ constant_tokens last))

  listed : (values : List Literal) (leading : List Token) (k : Constant) → Leading values leading →
      (first : Constant) × (more : List Constant) × (values ++ literal_of k ∷ [] ≡ map literal_of (first ∷ more)) × (leading ++ constant_tokens k ≡ list_tokens first more)
  unfolding Leading
  listed values leading k (inl none) =
      (k, [], ap (λ vs. vs ++ literal_of k ∷ []) none.0, ap (λ ts. ts ++ constant_tokens k) none.1)
  listed values leading k (inr some) = (
    some.0,
    some.1 ++ k ∷ [],
    ap (λ vs. vs ++ literal_of k ∷ []) some.2 ∙ sym (map-append literal_of (some.0 ∷ some.1) (k ∷ [])),
    ap (λ ts. ts ++ constant_tokens k) some.3
        ∙ append_assoc (list_tokens some.0 some.1) (token.Comma ∷ []) (constant_tokens k) ∙ sym (list_tokens-snoc some.1 some.0 k),
  )

  with_literal_stands : (depth : ℕ) (column : List ℕ) (target : Target) (f : Form) (part : List Token) (k : Constant) → depth ≤ most → TargetPart target part →
      PlacePart depth (with_literal columns column target (literal_of k)) (token.Name column f ∷ (part ++ constant_tokens k))
  unfolding TargetPart PlacePart meaning_of_test
  with_literal_stands depth column (target.Compare op) f part k fits t =
      record { tree = one_test (compared (record { name = column; form = f }) op k); means = refl; fits = omega arith; spelled = ap (λ ts. token.Name column f ∷ (ts ++ constant_tokens k)) t }
  with_literal_stands depth column (target.Among negated values) f part k fits t =
      let all = listed values t.0 k t.1 in (
        f,
        all.0,
        all.1,
        all.2,
        ap (λ ts. token.Name column f ∷ (ts ++ constant_tokens k)) t.2
            ∙ ap (λ ts. token.Name column f ∷ ts) (append_assoc (not_token negated) (token.In ∷ token.Open ∷ t.0) (constant_tokens k))
            ∙ ap (λ ts. token.Name column f ∷ (not_token negated ++ (token.In ∷ token.Open ∷ ts))) all.3,
      )

  placed : (depth : ℕ) (p next : Place) (tokens : List Token) → Some p ≡ Some next → PlacePart depth p tokens → PlacePart depth next tokens
  placed depth p next tokens e h = let same : p ≡ next = cc in subst (λ q. PlacePart depth q tokens) same h

  literal_stands : (depth : ℕ) (column : List ℕ) (target : Target) (next : Place) (t : Token) (f : Form) (part : List Token) (found : Option Literal) (word : Option Form) → depth ≤ most →
      literal_token t ≡ found → word_form t ≡ word → at_literal columns column target found word ≡ Some next → TargetPart target part →
      PlacePart depth next (token.Name column f ∷ (part ++ t ∷ []))
  unfolding PlacePart
  literal_stands depth column target next t f part (Some value) word fits is_literal is_word e h =
      let k = constant_of t value is_literal in
      placed depth (with_literal columns column target value) next (token.Name column f ∷ (part ++ t ∷ [])) e
      (subst (λ v. PlacePart depth (with_literal columns column target v) (token.Name column f ∷ (part ++ t ∷ []))) k.2
      (subst (λ ts. PlacePart depth (with_literal columns column target (literal_of k.0)) (token.Name column f ∷ (part ++ ts))) k.1
      (with_literal_stands depth column target f part k.0 fits h)))
  literal_stands depth column target next t f part None (Some form) fits is_literal is_word e h =
      let w = word_of t form is_word in
      placed depth (place.Worded column target form) next (token.Name column f ∷ (part ++ t ∷ [])) e
      (f, part, h, w.0, w.2, ap (λ last. token.Name column f ∷ (part ++ last ∷ [])) w.1)
  literal_stands depth column target next t f part None None fits is_literal is_word e h = absurd (cc)

  worded_stands : (depth : ℕ) (column : List ℕ) (target : Target) (form : Form) (next : Place) (t : Token) (f : Form) (part : List Token) (word : List ℕ) (found : Option Literal) → depth ≤ most →
      worded form t ≡ found → option_map (with_literal columns column target) found ≡ Some next → TargetPart target part →
      PlacePart depth next (token.Name column f ∷ (part ++ (token.Name word form ∷ t ∷ [])))
  worded_stands depth column target form next t f part word (Some value) fits is_literal e h =
      let k = worded_constant form t value word is_literal in
      placed depth (with_literal columns column target value) next (token.Name column f ∷ (part ++ (token.Name word form ∷ t ∷ []))) e
      (subst (λ v. PlacePart depth (with_literal columns column target v) (token.Name column f ∷ (part ++ (token.Name word form ∷ t ∷ [])))) k.2
      (subst (λ ts. PlacePart depth (with_literal columns column target (literal_of k.0)) (token.Name column f ∷ (part ++ ts))) k.1
      (with_literal_stands depth column target f part k.0 fits h)))
  worded_stands depth column target form next t f part word None fits is_literal e h = absurd (cc)

  inside_stands : (depth : ℕ) (p next : Place) (t : Token) (part : List Token) → depth ≤ most → inside columns p t ≡ Some next → PlacePart depth p part → PlacePart depth next (part ++ t ∷ [])
  unfolding inside PlacePart TargetPart Leading meaning_of_test
  inside_stands depth (place.Is column false) next token.Not part fits e h =
      placed depth (place.Is column true) next (part ++ token.Not ∷ []) e (h.0, ap (λ ts. ts ++ token.Not ∷ []) h.1)
  inside_stands depth (place.Is column negated) next token.Null part fits e h =
      placed depth (place.Done (negation_if negated (test_meaning columns column said_null))) next (part ++ token.Null ∷ []) e
      (record { tree = one_test (is_null (record { name = column; form = h.0 }) negated); means = refl; fits = omega arith; spelled = ap (λ ts. ts ++ token.Null ∷ []) h.1 })
  inside_stands depth (place.Not column) next token.In part fits e h =
      placed depth (place.In column true) next (part ++ token.In ∷ []) e (h.0, ap (λ ts. ts ++ token.In ∷ []) h.1)
  inside_stands depth (place.In column negated) next token.Open part fits e h =
      placed depth (place.Literal column (target.Among negated [])) next (part ++ token.Open ∷ []) e (
        h.0,
        not_token negated ++ (token.In ∷ token.Open ∷ []),
        ([], inl (refl, refl), refl),
        ap (λ ts. ts ++ token.Open ∷ []) h.1 ∙ ap (λ ts. token.Name column h.0 ∷ ts) (append_assoc (not_token negated) (token.In ∷ []) (token.Open ∷ [])),
      )
  inside_stands depth (place.Literal column target) next t part fits e h =
      subst (PlacePart depth next) (sym (ap (λ ts. ts ++ t ∷ []) h.3))
      (literal_stands depth column target next t h.0 h.1 (literal_token t) (word_form t) fits refl refl e h.2)
  inside_stands depth (place.Worded column target form) next t part fits e h =
      subst (PlacePart depth next) (sym (ap (λ ts. ts ++ t ∷ []) h.5 ∙ ap (λ ts. token.Name column h.0 ∷ ts) (append_assoc h.1 (token.Name h.3 form ∷ []) (t ∷ []))))
      (worded_stands depth column target form next t h.0 h.1 h.3 (worded form t) fits refl e h.2)
  inside_stands depth (place.Listed column negated values) next token.Comma part fits e h =
      placed depth (place.Literal column (target.Among negated values)) next (part ++ token.Comma ∷ []) e (
        h.0,
        not_token negated ++ (token.In ∷ token.Open ∷ (list_tokens h.1 h.2 ++ token.Comma ∷ [])),
        (list_tokens h.1 h.2 ++ token.Comma ∷ [], inr (h.1, h.2, h.3, refl), refl),
        ap (λ ts. ts ++ token.Comma ∷ []) h.4
            ∙ ap (λ ts. token.Name column h.0 ∷ ts) (append_assoc (not_token negated) (token.In ∷ token.Open ∷ list_tokens h.1 h.2) (token.Comma ∷ [])),
      )
  inside_stands depth (place.Listed column negated values) next token.Close part fits e h =
      placed depth (place.Done (negation_if negated (test_meaning columns column (said_among values)))) next (part ++ token.Close ∷ []) e
      (record {
        tree = one_test (among (record { name = column; form = h.0 }) negated h.1 h.2);
        means = ap (λ vs. negation_if negated (test_meaning columns column (said_among vs))) (sym h.3);
        fits = omega arith;
        spelled = ap (λ ts. ts ++ token.Close ∷ []) h.4;
      })
  inside_stands depth _ next _ part fits e h = absurd (cc)

  continues_stands : (depth : ℕ) (column : List ℕ) (f : Form) (next : Place) (t : Token) → continues column t ≡ Some next → PlacePart depth next (token.Name column f ∷ t ∷ [])
  unfolding continues PlacePart TargetPart
  continues_stands depth column f next (token.Compare op) e = placed depth (place.Literal column (target.Compare op)) next _ e (f, token.Compare op ∷ [], refl, refl)
  continues_stands depth column f next token.Is e = placed depth (place.Is column false) next _ e (f, refl)
  continues_stands depth column f next token.Not e = placed depth (place.Not column) next _ e (f, refl)
  continues_stands depth column f next token.In e = placed depth (place.In column false) next _ e (f, refl)
  continues_stands depth column f next _ e = absurd (cc)

  -- a place that may be the end of an operand
  operand_built : (depth : ℕ) (p : Place) (part : List Token) (last : Meaning) → depth ≤ most → operand_at columns p ≡ Some last → PlacePart depth p part → NotBuilt depth part last
  unfolding operand_at PlacePart meaning_of_test
  operand_built depth (place.Done meaning) part last fits e h =
      let same : meaning ≡ last = cc in subst (NotBuilt depth part) same h
  operand_built depth (place.Column column) part last fits e h =
      let same : test_meaning columns column said_bare ≡ last = cc in
      record { tree = one_test (bare (record { name = column; form = h.0 })); means = same; fits = omega arith; spelled = h.1 }
  operand_built depth _ part last fits e h = absurd (cc)

  moved : (state next : State) (tokens : List Token) → Some state ≡ Some next → depth_of next ≤ most → (depth_of state ≤ most → Standing state tokens) → Standing next tokens
  moved state next tokens e fits h =
      let same : state ≡ next = cc in subst (λ s. Standing s tokens) same (h (subst (λ s. depth_of s ≤ most) (sym same) fits))

  inner_stands : (groups : List Group) (group : Group) (p next : Place) (t : Token) (tokens : List Token) →
      inside columns p t ≡ Some next → Standing (record { groups = groups; group = group; place = p }) tokens →
      Standing (record { groups = groups; group = group; place = next }) (tokens ++ t ∷ [])
  inner_stands groups group p next t tokens e h = record {
    around = h.around;
    left = h.left;
    part = h.part ++ t ∷ [];
    fits = h.fits;
    around_part = h.around_part;
    left_part = h.left_part;
    place_part = inside_stands (group.depth + group.nots) p next t h.part h.fits e h.place_part;
    spelled = ap (λ ts. ts ++ t ∷ []) h.spelled ∙ simp append_assoc;
  }

  begin_stands : (groups : List Group) (group : Group) (next : State) (t : Token) (tokens : List Token) →
      begin groups group t ≡ Some next → depth_of next ≤ most →
      Standing (record { groups = groups; group = group; place = place.Operand }) tokens → Standing next (tokens ++ t ∷ [])
  unfolding begin PlacePart Around OrPart AndPart nots
  begin_stands groups group next token.Not tokens e fits h =
      moved _ next (tokens ++ token.Not ∷ []) e fits (λ below. record {
        around = h.around;
        left = h.left ++ token.Not ∷ [];
        part = [];
        fits = below;
        around_part = h.around_part;
        left_part = record {
          ors = h.left_part.ors;
          ands = h.left_part.ands;
          or_part = h.left_part.or_part;
          and_part = h.left_part.and_part;
          spelled = ap (λ ts. ts ++ token.Not ∷ []) h.left_part.spelled ∙ rw add-one (simp append_assoc);
        };
        place_part = refl;
        spelled = ap (λ ts. ts ++ token.Not ∷ []) (h.spelled ∙ ap (λ ts. h.around ++ (h.left ++ ts)) h.place_part) ∙ simp (append_assoc, append-nil);
      })
  begin_stands groups group next token.Open tokens e fits h =
      moved _ next (tokens ++ token.Open ∷ []) e fits (λ below. record {
        around = h.around ++ (h.left ++ token.Open ∷ []);
        left = [];
        part = [];
        fits = below;
        around_part = (h.around, h.left, h.around_part, h.left_part, refl, refl);
        left_part = record { ors = []; ands = []; or_part = refl; and_part = refl; spelled = refl };
        place_part = refl;
        spelled = ap (λ ts. ts ++ token.Open ∷ []) (h.spelled ∙ ap (λ ts. h.around ++ (h.left ++ ts)) h.place_part) ∙ simp (append_assoc, append-nil);
      })
  begin_stands groups group next (token.Name name f) tokens e fits h =
      moved _ next (tokens ++ token.Name name f ∷ []) e fits (λ below. record {
        around = h.around;
        left = h.left;
        part = token.Name name f ∷ [];
        fits = below;
        around_part = h.around_part;
        left_part = h.left_part;
        place_part = (f, refl);
        spelled = ap (λ ts. ts ++ token.Name name f ∷ []) (h.spelled ∙ ap (λ ts. h.around ++ (h.left ++ ts)) h.place_part) ∙ simp (append_assoc, append-nil);
      })
  begin_stands groups group next _ tokens e fits h = absurd (cc)

  -- the tokens of a group up to the end of an operand, with one token more
  close_spelled : (tokens around left part : List Token) (group : Group) (h : Left group left) (t : Token) → tokens ≡ around ++ (left ++ part) →
      tokens ++ t ∷ [] ≡ around ++ (h.ors ++ ((h.ands ++ (nots group.nots ++ part)) ++ t ∷ []))
  close_spelled tokens around left part group h t spelled =
      ap (λ ts. ts ++ t ∷ []) (spelled ∙ ap (λ ts. around ++ (ts ++ part)) h.spelled) ∙ simp append_assoc

  and_stands : (groups : List Group) (group : Group) (next : State) (last : Meaning) (tokens around left part : List Token) →
      follow groups group last token.And ≡ Some next → depth_of next ≤ most →
      Around groups around group.depth → Left group left → NotBuilt (group.depth + group.nots) part last → tokens ≡ around ++ (left ++ part) →
      Standing next (tokens ++ token.And ∷ [])
  unfolding follow PlacePart AndPart nots
  and_stands groups group next last tokens around left part e fits around_part left_part built spelled =
      let all = conjunction_built group left left_part part last built in
      moved _ next (tokens ++ token.And ∷ []) e fits (λ below. record {
        around = around;
        left = left_part.ors ++ (and_tokens all.tree ++ token.And ∷ []);
        part = [];
        fits = below;
        around_part = around_part;
        left_part = record {
          ors = left_part.ors;
          ands = and_tokens all.tree ++ token.And ∷ [];
          or_part = left_part.or_part;
          and_part = (all.tree, all.means, all.fits, refl);
          spelled = simp append-nil;
        };
        place_part = refl;
        spelled = close_spelled tokens around left part group left_part token.And spelled
            ∙ ap (λ ts. around ++ (left_part.ors ++ (ts ++ token.And ∷ []))) all.spelled ∙ simp append-nil;
      })

  or_stands : (groups : List Group) (group : Group) (next : State) (last : Meaning) (tokens around left part : List Token) →
      follow groups group last token.Or ≡ Some next → depth_of next ≤ most →
      Around groups around group.depth → Left group left → NotBuilt (group.depth + group.nots) part last → tokens ≡ around ++ (left ++ part) →
      Standing next (tokens ++ token.Or ∷ [])
  unfolding follow PlacePart OrPart AndPart nots
  or_stands groups group next last tokens around left part e fits around_part left_part built spelled =
      let all = disjunction_built group left part last left_part built in
      moved _ next (tokens ++ token.Or ∷ []) e fits (λ below. record {
        around = around;
        left = or_tokens all.tree ++ token.Or ∷ [];
        part = [];
        fits = below;
        around_part = around_part;
        left_part = record {
          ors = or_tokens all.tree ++ token.Or ∷ [];
          ands = [];
          or_part = (all.tree, all.means, all.fits, refl);
          and_part = refl;
          spelled = simp append-nil;
        };
        place_part = refl;
        spelled = ap (λ ts. ts ++ token.Or ∷ []) (spelled ∙ ap (λ ts. around ++ ts) all.spelled) ∙ simp (append_assoc, append-nil);
      })

  close_stands : (groups : List Group) (group : Group) (next : State) (last : Meaning) (tokens around left part : List Token) →
      closed groups group last ≡ Some next → depth_of next ≤ most →
      Around groups around group.depth → Left group left → NotBuilt (group.depth + group.nots) part last → tokens ≡ around ++ (left ++ part) →
      Standing next (tokens ++ token.Close ∷ [])
  unfolding Around PlacePart
  close_stands [] group next last tokens around left part e fits around_part left_part built spelled = absurd (cc)
  close_stands (outer ∷ groups) group next last tokens around left part e fits around_part left_part built spelled =
      let all = disjunction_built group left part last left_part built in
      moved _ next (tokens ++ token.Close ∷ []) e fits (λ below. record {
        around = around_part.0;
        left = around_part.1;
        part = token.Open ∷ or_tokens all.tree ++ token.Close ∷ [];
        fits = below;
        around_part = around_part.2;
        left_part = around_part.3;
        place_part = record {
          tree = in_group all.tree;
          means = all.means;
          fits = let a : group.depth + or_depth all.tree ≤ most = all.fits in let b : group.depth ≡ outer.depth + outer.nots + 1 = around_part.4 in omega arith;
          spelled = refl;
        };
        spelled = ap (λ ts. ts ++ token.Close ∷ []) (spelled ∙ ap (λ ts. around ++ ts) all.spelled ∙ ap (λ ts. ts ++ or_tokens all.tree) around_part.5) ∙ simp append_assoc;
      })

  follow_stands : (groups : List Group) (group : Group) (p : Place) (next : State) (last : Meaning) (t : Token) (tokens : List Token) →
      operand_at columns p ≡ Some last → follow groups group last t ≡ Some next → depth_of next ≤ most →
      Standing (record { groups = groups; group = group; place = p }) tokens → Standing next (tokens ++ t ∷ [])
  unfolding follow
  follow_stands groups group p next last token.And tokens operand e fits h =
      and_stands groups group next last tokens h.around h.left h.part e fits h.around_part h.left_part
      (operand_built (group.depth + group.nots) p h.part last h.fits operand h.place_part) h.spelled
  follow_stands groups group p next last token.Or tokens operand e fits h =
      or_stands groups group next last tokens h.around h.left h.part e fits h.around_part h.left_part
      (operand_built (group.depth + group.nots) p h.part last h.fits operand h.place_part) h.spelled
  follow_stands groups group p next last token.Close tokens operand e fits h =
      close_stands groups group next last tokens h.around h.left h.part e fits h.around_part h.left_part
      (operand_built (group.depth + group.nots) p h.part last h.fits operand h.place_part) h.spelled
  follow_stands groups group p next last _ tokens operand e fits h = absurd (cc)

  -- what goes on inside a test
  within_stands : (groups : List Group) (group : Group) (p : Place) (next : State) (t : Token) (tokens : List Token) (found : Option Place) →
      inside columns p t ≡ found → option_map (λ q. record { groups = groups; group = group; place = q }) found ≡ Some next → depth_of next ≤ most →
      Standing (record { groups = groups; group = group; place = p }) tokens → Standing next (tokens ++ t ∷ [])
  within_stands groups group p next t tokens (Some q) is_inside e fits h =
      moved (record { groups = groups; group = group; place = q }) next (tokens ++ t ∷ []) e fits (λ below. inner_stands groups group p q t tokens is_inside h)
  within_stands groups group p next t tokens None is_inside e fits h = absurd (cc)

  name_stands : (groups : List Group) (group : Group) (column : List ℕ) (next : State) (t : Token) (tokens : List Token) (found : Option Place) →
      continues column t ≡ found → past_name columns (record { groups = groups; group = group; place = place.Column column }) column found t ≡ Some next → depth_of next ≤ most →
      Standing (record { groups = groups; group = group; place = place.Column column }) tokens → Standing next (tokens ++ t ∷ [])
  unfolding operand_at PlacePart
  name_stands groups group column next t tokens (Some q) goes_on e fits h =
      moved (record { groups = groups; group = group; place = q }) next (tokens ++ t ∷ []) e fits (λ below. record {
        around = h.around;
        left = h.left;
        part = token.Name column h.place_part.0 ∷ t ∷ [];
        fits = below;
        around_part = h.around_part;
        left_part = h.left_part;
        place_part = continues_stands (group.depth + group.nots) column h.place_part.0 q t goes_on;
        spelled = ap (λ ts. ts ++ t ∷ []) (h.spelled ∙ ap (λ ts. h.around ++ (h.left ++ ts)) h.place_part.1) ∙ simp append_assoc;
      })
  name_stands groups group column next t tokens None goes_on e fits h =
      follow_stands groups group (place.Column column) next (test_meaning columns column said_bare) t tokens refl e fits h

  step_stands : (groups : List Group) (group : Group) (p : Place) (next : State) (t : Token) (tokens : List Token) →
      step columns (record { groups = groups; group = group; place = p }) t ≡ Some next → depth_of next ≤ most →
      Standing (record { groups = groups; group = group; place = p }) tokens → Standing next (tokens ++ t ∷ [])
  unfolding step operand_at
  step_stands groups group place.Operand next t tokens e fits h = begin_stands groups group next t tokens e fits h
  step_stands groups group (place.Done meaning) next t tokens e fits h = follow_stands groups group (place.Done meaning) next meaning t tokens refl e fits h
  step_stands groups group (place.Column column) next t tokens e fits h = name_stands groups group column next t tokens (continues column t) refl e fits h
  step_stands groups group p next t tokens e fits h = within_stands groups group p next t tokens (inside columns p t) refl e fits h

  pub run_stands : (tokens before : List Token) (state next : State) → Standing state before → Runs columns most state tokens next → Standing next (before ++ tokens)
  run_stands [] before state next h run = subst (λ s. Standing s (before ++ [])) run (rw append-nil h)
  run_stands (t ∷ tokens) before state next h run =
      subst (Standing next) (append_assoc before (t ∷ []) tokens)
      (run_stands tokens (before ++ t ∷ []) run.0 next
      (step_stands state.groups state.group state.place run.0 t before run.1 run.2 h) run.3)

  -- some tokens more make an operand of a part
  Completes : ℕ → List Token → Type 0
  Completes depth part = (more : List Token) × (meaning : Meaning) × NotBuilt depth (part ++ more) meaning

  complete_done : (depth : ℕ) (part : List Token) (meaning : Meaning) → NotBuilt depth part meaning → Completes depth part
  unfolding Completes
  complete_done depth part meaning h = ([], meaning, rw append-nil h)

  complete_after : (depth : ℕ) (part : List Token) (t : Token) → Completes depth (part ++ t ∷ []) → Completes depth part
  unfolding Completes
  complete_after depth part t h = (t ∷ h.0, h.1, subst (λ ts. NotBuilt depth ts h.1) (append_assoc part (t ∷ []) h.0) h.2)

  complete_listed : (depth : ℕ) (column : List ℕ) (negated : Bool) (values : List Literal) (part : List Token) → depth ≤ most →
      PlacePart depth (place.Listed column negated values) part → Completes depth part
  unfolding inside PlacePart
  complete_listed depth column negated values part fits h =
      complete_after depth part token.Close (complete_done depth (part ++ token.Close ∷ []) (negation_if negated (test_meaning columns column (said_among values)))
      (inside_stands depth (place.Listed column negated values) _ token.Close part fits refl h))

  complete_with : (depth : ℕ) (column : List ℕ) (target : Target) (value : Literal) (part : List Token) → depth ≤ most →
      PlacePart depth (with_literal columns column target value) part → Completes depth part
  unfolding PlacePart
  complete_with depth column (target.Compare op) value part fits h = complete_done depth part _ h
  complete_with depth column (target.Among negated values) value part fits h = complete_listed depth column negated _ part fits h

  complete_literal : (depth : ℕ) (column : List ℕ) (target : Target) (part : List Token) → depth ≤ most →
      PlacePart depth (place.Literal column target) part → Completes depth part
  unfolding inside literal_token word_form
  complete_literal depth column target part fits h =
      complete_after depth part token.True (complete_with depth column target (literal.Bool true) (part ++ token.True ∷ []) fits
      (inside_stands depth (place.Literal column target) _ token.True part fits refl h))

  complete_worded : (depth : ℕ) (column : List ℕ) (target : Target) (f : Form) (part : List Token) → depth ≤ most →
      PlacePart depth (place.Worded column target f) part → Completes depth part
  unfolding inside worded PlacePart IsWord
  complete_worded depth column target form.Date part fits h =
      complete_after depth part (token.Str []) (complete_with depth column target (literal.Date []) (part ++ token.Str [] ∷ []) fits
      (inside_stands depth (place.Worded column target form.Date) _ (token.Str []) part fits refl h))
  complete_worded depth column target form.Timestamp part fits h =
      complete_after depth part (token.Str []) (complete_with depth column target (literal.Timestamp []) (part ++ token.Str [] ∷ []) fits
      (inside_stands depth (place.Worded column target form.Timestamp) _ (token.Str []) part fits refl h))
  complete_worded depth column target _ part fits h = absurd (h.4)

  complete_in : (depth : ℕ) (column : List ℕ) (negated : Bool) (part : List Token) → depth ≤ most →
      PlacePart depth (place.In column negated) part → Completes depth part
  unfolding inside
  complete_in depth column negated part fits h =
      complete_after depth part token.Open (complete_literal depth column (target.Among negated []) (part ++ token.Open ∷ []) fits
      (inside_stands depth (place.In column negated) _ token.Open part fits refl h))

  is_null_stands : (depth : ℕ) (column : List ℕ) (negated : Bool) (part : List Token) → depth ≤ most → PlacePart depth (place.Is column negated) part →
      NotBuilt depth (part ++ token.Null ∷ []) (negation_if negated (test_meaning columns column said_null))
  unfolding inside PlacePart
  is_null_stands depth column true part fits h = inside_stands depth (place.Is column true) _ token.Null part fits refl h
  is_null_stands depth column false part fits h = inside_stands depth (place.Is column false) _ token.Null part fits refl h

  complete : (depth : ℕ) (p : Place) (part : List Token) → depth ≤ most → PlacePart depth p part → Completes depth part
  unfolding inside PlacePart Completes operand_at meaning_of_test
  complete depth place.Operand part fits h = (
    token.Name (97 ∷ []) form.Plain ∷ [],
    _,
    record {
      tree = one_test (bare (record { name = 97 ∷ []; form = form.Plain }));
      means = refl;
      fits = omega arith;
      spelled = ap (λ ts. ts ++ token.Name (97 ∷ []) form.Plain ∷ []) h;
    },
  )
  complete depth (place.Done meaning) part fits h = complete_done depth part meaning h
  complete depth (place.Column column) part fits h = complete_done depth part _ (operand_built depth (place.Column column) part _ fits refl h)
  complete depth (place.Is column negated) part fits h =
      complete_after depth part token.Null (complete_done depth (part ++ token.Null ∷ []) _ (is_null_stands depth column negated part fits h))
  complete depth (place.Not column) part fits h =
      complete_after depth part token.In (complete_in depth column true (part ++ token.In ∷ []) fits (inside_stands depth (place.Not column) _ token.In part fits refl h))
  complete depth (place.In column negated) part fits h = complete_in depth column negated part fits h
  complete depth (place.Literal column target) part fits h = complete_literal depth column target part fits h
  complete depth (place.Worded column target f) part fits h = complete_worded depth column target f part fits h
  complete depth (place.Listed column negated values) part fits h = complete_listed depth column negated values part fits h

  close_groups : (groups : List Group) (around : List Token) (depth : ℕ) (tree : OrTree) → Around groups around depth → depth + or_depth tree ≤ most →
      (more : List Token) × (all : OrTree) × (or_depth all ≤ most) × (or_tokens all ≡ around ++ (or_tokens tree ++ more))
  unfolding Around
  close_groups [] around depth tree part fits =
      ([], tree, omega arith, sym (ap (λ ts. ts ++ (or_tokens tree ++ [])) part.0 ∙ append-nil (or_tokens tree)))
  close_groups (outer ∷ groups) around depth tree part fits =
      let inner : NotBuilt (outer.depth + outer.nots) (token.Open ∷ or_tokens tree ++ token.Close ∷ []) (or_meaning columns tree)
      = record { tree = in_group tree; means = refl; fits = let d : depth ≡ outer.depth + outer.nots + 1 = part.4 in omega arith; spelled = refl } in
      let built = disjunction_built outer part.1 (token.Open ∷ or_tokens tree ++ token.Close ∷ []) (or_meaning columns tree) part.3 inner in
      let rest = close_groups groups part.0 outer.depth built.tree part.2 built.fits in (
        token.Close ∷ rest.0,
        rest.1,
        rest.2,
        rest.3 ∙ ap (λ ts. part.0 ++ (ts ++ rest.0)) (sym built.spelled)
            ∙ (simp append_assoc (sym (ap (λ ts. ts ++ (or_tokens tree ++ token.Close ∷ rest.0)) part.5 ∙ simp append_assoc))),
      )

  pub standing_goes_on : (state : State) (tokens : List Token) → Standing state tokens →
      (tree : TextTree) × (more : List Token) × (text_tokens tree ≡ tokens ++ more) × (text_depth tree ≤ most)
  unfolding Completes
  standing_goes_on state tokens h =
      let operand = complete (depth_of state) state.place h.part h.fits h.place_part in
      let built = disjunction_built state.group h.left (h.part ++ operand.0) operand.1 h.left_part operand.2 in
      let rest = close_groups state.groups h.around state.group.depth built.tree h.around_part built.fits in (
        whole rest.1,
        operand.0 ++ rest.0,
        rest.3 ∙ ap (λ ts. h.around ++ (ts ++ rest.0)) (sym built.spelled)
            ∙ sym (ap (λ ts. ts ++ (operand.0 ++ rest.0)) h.spelled ∙ simp append_assoc),
        rest.2,
      )

  TextBuilt : List Token → Meaning → Type 0
  TextBuilt tokens meaning = (tree : TextTree) × (text_tokens tree ≡ tokens) × (text_meaning columns tree ≡ meaning) × (text_depth tree ≤ most)

  -- no token was read
  nothing_read : (or and : Option Meaning) (n depth : ℕ) (left : List Token) → is_new (record { or = or; and = and; nots = n; depth = depth }) ≡ true →
      Left (record { or = or; and = and; nots = n; depth = depth }) left → left ≡ []
  unfolding OrPart AndPart nots
  nothing_read None None zero depth left e h =
      h.spelled ∙ ap (λ ts. ts ++ (h.ands ++ [])) h.or_part ∙ ap (λ ts. ts ++ []) h.and_part
  nothing_read None None (suc n) depth left e h = let none : suc n ≡ 0 = eqb-true (suc n) 0 e in absurd (omega arith)
  nothing_read _ _ _ depth left e h = absurd (cc)

  empty_ends : (group : Group) (around left part tokens : List Token) (meaning : Meaning) (new : Bool) → is_new group ≡ new →
      (if new then Some (Ok pred.All) else None) ≡ Some meaning → around ≡ [] → part ≡ [] → Left group left → tokens ≡ around ++ (left ++ part) → TextBuilt tokens meaning
  unfolding TextBuilt
  empty_ends group around left part tokens meaning true is_new e no_around no_part h spelled =
      (empty, sym (spelled ∙ ap (λ ts. ts ++ (left ++ part)) no_around ∙ ap (λ ts. ts ++ part) (nothing_read group.or group.and group.nots group.depth left is_new h) ∙ no_part), cc, omega arith)
  empty_ends group around left part tokens meaning false is_new e no_around no_part h spelled = absurd (cc)

  whole_ends : (group : Group) (p : Place) (tokens : List Token) (meaning : Meaning) (found : Option Meaning) → operand_at columns p ≡ found →
      option_map (disjunction_in group) found ≡ Some meaning → Standing (record { groups = []; group = group; place = p }) tokens → TextBuilt tokens meaning
  unfolding TextBuilt Around
  whole_ends group p tokens meaning (Some last) operand e h =
      let built = disjunction_built group h.left h.part last h.left_part (operand_built (group.depth + group.nots) p h.part last h.fits operand h.place_part) in (
        whole built.tree,
        sym (h.spelled ∙ ap (λ ts. ts ++ (h.left ++ h.part)) h.around_part.0 ∙ built.spelled),
        built.means ∙ (cc),
        let fits : group.depth + or_depth built.tree ≤ most = built.fits in omega arith,
      )
  whole_ends group p tokens meaning None operand e h = absurd (cc)

  ended_stands : (groups : List Group) (group : Group) (p : Place) (tokens : List Token) (meaning : Meaning) →
      ended columns groups group p ≡ Some meaning → Standing (record { groups = groups; group = group; place = p }) tokens → TextBuilt tokens meaning
  unfolding Around PlacePart
  ended_stands [] group place.Operand tokens meaning e h =
      empty_ends group h.around h.left h.part tokens meaning (is_new group) refl e h.around_part.0 h.place_part h.left_part h.spelled
  ended_stands [] group p tokens meaning e h = whole_ends group p tokens meaning (operand_at columns p) refl e h
  ended_stands (outer ∷ groups) group p tokens meaning e h = absurd (cc)

  pub standing_ends : (state : State) (tokens : List Token) (meaning : Meaning) → end columns state ≡ Some meaning → Standing state tokens →
      (tree : TextTree) × (text_tokens tree ≡ tokens) × (text_meaning columns tree ≡ meaning) × (text_depth tree ≤ most)
  unfolding end TextBuilt
  standing_ends state tokens meaning e h = ended_stands state.groups state.group state.place tokens meaning e h
