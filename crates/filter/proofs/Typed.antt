-- The predicate of a text is typed for the schema.
use Rattle.std.proofs.Common.{◌≡◌, ℕ, zero, suc, ◌<◌, Bool, true, false, ◌&&◌, List, [], ◌∷◌, ◌++◌, map, length, refl, sym, ◌∙◌, ap, subst, arith, Option, Some, None, IfSome, Ok, Err, IfOk, option_map, option_and_then, IsUtf8, nat_lt, lt-ltb}
use Rattle.std.specs.Prelude.{IsTrue, slice_get, ok_or}
use Rattle.std.specs.List.{list_all}
use Rattle.std.specs.Option.{option_map_or}
use Rattle.std.proofs.lemmas.Bool.{and_from, and_parts}
use Rattle.column_types.specs.Schema.{column_number}
use Rattle.column_types.specs.Typed.{is_literal, compares, is_typed_at, is_typed, IsTyped}
use Rattle.column_types.specs.declared.cell.Cell.{Cell}
use Rattle.column_types.specs.declared.cell.Cell.TheVariants as cell
use Rattle.column_types.specs.declared.column.Column as schema
use Rattle.column_types.specs.declared.column.Kind.{Kind}
use Rattle.column_types.specs.declared.column.Kind.TheVariants as kind
use Rattle.column_types.specs.declared.predicate.Op.{Op}
use Rattle.column_types.specs.declared.predicate.Op.TheVariants as op
use Rattle.column_types.specs.declared.predicate.Pred.{Pred}
use Rattle.column_types.specs.declared.predicate.Pred as pred
use Rattle.column_types.specs.declared.predicate.Pred.TheFolds.{fold-roll-Pred}
use Rattle.column_types.specs.declared.predicate.Pred.TheOpen.{Pred-F}
use Rattle.column_types.specs.declared.predicate.Pred.TheVariants.{rolls-All, rolls-Compare, rolls-Among, rolls-IsNull, rolls-And, rolls-Or, rolls-Not}
use Rattle.filter.specs.declared.literal.Literal.{Literal}
use Rattle.filter.specs.declared.meaning.TestFault.{TestFault}
use Rattle.filter.specs.declared.meaning.TestFault.TheVariants.{IllTyped}
use Rattle.filter.specs.declared.token.Token.{Token}
use Rattle.filter.specs.declared.token.Token.TheVariants as token
use Rattle.filter.specs.Grammar.{Constant, integer, string, boolean, date, timestamp, Test, bare, compared, is_null, among, OrTree, AndTree, NotTree, one_and, more_or, one_not, more_and, behind_not, in_group, one_test, constant_tokens, list_tokens, not_token, test_tokens, or_tokens, and_tokens, not_tokens, TextTree, empty, whole, text_tokens}
use Rattle.filter.specs.Literal.{cell_of, cells_of}
use Rattle.filter.specs.Meaning.{Meaning, Said, column_named, said_bare, said_compared, said_null, said_among, meaning_about, test_meaning, negation, negation_if, conjunction, disjunction, literal_of, meaning_of_test, or_meaning, and_meaning, not_meaning, text_meaning}
use Rattle.filter.specs.Restriction.{Means}
use Rattle.filter.proofs.Ranges.{IsLiteralValued, AllLiteralValued, cell_typed, cells_typed}
use Rattle.filter.proofs.Valued.{AllValued, begins_valued}

valued_parts : (xs ys : List Token) → AllValued (xs ++ ys) → AllValued xs × AllValued ys
valued_parts [] ys h = (tt, h)
valued_parts (x ∷ xs) ys h = let rest = valued_parts xs ys h.1 in ((h.0, rest.0), rest.1)

constant_valued : (k : Constant) → AllValued (constant_tokens k) → IsLiteralValued (literal_of k)
constant_valued (integer n) h = h.0
constant_valued (string s) h = h.0
constant_valued (boolean b) h = tt
constant_valued (date word s) h = tt
constant_valued (timestamp word s) h = tt

list_valued : (first : Constant) (more : List Constant) → AllValued (list_tokens first more) → AllLiteralValued (map literal_of (first ∷ more))
list_valued first [] h = (constant_valued first h, tt)
list_valued first (next ∷ more) h =
    let parts = valued_parts (constant_tokens first) (token.Comma ∷ list_tokens next more) h in
    (constant_valued first parts.0, list_valued next more parts.1.1)

slice_get-below : {X : Type 0} (xs : List X) (i : ℕ) (x : X) → slice_get xs i ≡ Some x → i < length xs
slice_get-below [] i x e = absurd (cc)
slice_get-below (y ∷ xs) zero x e = omega arith
slice_get-below (y ∷ xs) (suc i) x e = let h = slice_get-below xs i x e in omega arith

module _ (columns : List schema.Column) where
  -- when a predicate of each form is typed
  typed-all : is_typed columns pred.All ≡ true
  typed-all = ap (is_typed columns) (sym rolls-All) ∙ fold-roll-Pred Bool (is_typed_at columns) Pred-F.All

  typed-compare : (at : ℕ) (op : Op) (v : Cell) → is_typed columns (pred.Compare at op v) ≡ compares columns at v
  typed-compare at op v = ap (is_typed columns) (sym (rolls-Compare at op v)) ∙ fold-roll-Pred Bool (is_typed_at columns) (Pred-F.Compare at op v)

  typed-among : (at : ℕ) (vs : List Cell) → is_typed columns (pred.Among at vs) ≡ (nat_lt 0 (length vs) && list_all (compares columns at) vs)
  typed-among at vs = ap (is_typed columns) (sym (rolls-Among at vs)) ∙ fold-roll-Pred Bool (is_typed_at columns) (Pred-F.Among at vs)

  typed-null : (at : ℕ) → is_typed columns (pred.IsNull at) ≡ nat_lt at (length columns)
  typed-null at = ap (is_typed columns) (sym (rolls-IsNull at)) ∙ fold-roll-Pred Bool (is_typed_at columns) (Pred-F.IsNull at)

  typed-and : (p q : Pred) → is_typed columns (pred.And p q) ≡ (is_typed columns p && is_typed columns q)
  typed-and p q = ap (is_typed columns) (sym (rolls-And p q)) ∙ fold-roll-Pred Bool (is_typed_at columns) (Pred-F.And p q)

  typed-or : (p q : Pred) → is_typed columns (pred.Or p q) ≡ (is_typed columns p && is_typed columns q)
  typed-or p q = ap (is_typed columns) (sym (rolls-Or p q)) ∙ fold-roll-Pred Bool (is_typed_at columns) (Pred-F.Or p q)

  typed-not : (p : Pred) → is_typed columns (pred.Not p) ≡ is_typed columns p
  typed-not p = ap (is_typed columns) (sym (rolls-Not p)) ∙ fold-roll-Pred Bool (is_typed_at columns) (Pred-F.Not p)

  -- the meaning is a fault, or a typed predicate
  Typed : Meaning → Type 0
  Typed meaning = IfOk meaning (IsTyped columns)

  SaidTyped : Said → Type 0
  SaidTyped said = (at : ℕ) (column : schema.Column) → slice_get columns at ≡ Some column → IfSome (said at column.kind) (IsTyped columns)

  compares_typed : (at : ℕ) (column : schema.Column) (value : Cell) → slice_get columns at ≡ Some column → IsTrue (is_literal column.kind value) → compares columns at value ≡ true
  compares_typed at column value e h = subst (λ found. option_map_or (λ column. is_literal column.kind value) found false ≡ true) (sym e) h

  bare_typed : SaidTyped said_bare
  unfolding SaidTyped
  bare_typed at column e = by_kind column.kind refl
    where
      by_kind : (k : Kind) → column.kind ≡ k → IfSome (said_bare at k) (IsTyped columns)
      by_kind kind.Bool is = typed-compare at op.Eq (cell.Bool true) ∙ compares_typed at column (cell.Bool true) e (subst (λ k. IsTrue (is_literal k (cell.Bool true))) (sym is) refl)
      by_kind _ is = tt

  compared_typed : (op : Op) (value : Literal) → IsLiteralValued value → SaidTyped (said_compared op value)
  unfolding SaidTyped
  compared_typed op value valued at column e = by_cell (cell_of column.kind value) refl
    where
      by_cell : (read : Option Cell) → cell_of column.kind value ≡ read → IfSome (option_map (λ v. pred.Compare at op v) read) (IsTyped columns)
      by_cell None is = tt
      by_cell (Some v) is = typed-compare at op v ∙ compares_typed at column v e (cell_typed column.kind value v valued is)

  null_typed : SaidTyped said_null
  unfolding SaidTyped
  null_typed at column e = typed-null at ∙ lt-ltb at (length columns) (slice_get-below columns at column e)

  all_compare : (at : ℕ) (column : schema.Column) (values : List Cell) → slice_get columns at ≡ Some column → IsTrue (list_all (is_literal column.kind) values) → list_all (compares columns at) values ≡ true
  all_compare at column [] e h = refl
  all_compare at column (value ∷ values) e h =
      let parts = and_parts (is_literal column.kind value) _ h in
      and_from _ _ (compares_typed at column value e parts.0) (all_compare at column values e parts.1)

  among_typed : (first : Literal) (more : List Literal) → AllLiteralValued (first ∷ more) → SaidTyped (said_among (first ∷ more))
  unfolding SaidTyped
  among_typed first more valued at column e = by_cells (cells_of column.kind (first ∷ more)) refl
    where
      by_cells : (read : Option (List Cell)) → cells_of column.kind (first ∷ more) ≡ read → IfSome (option_map (λ vs. pred.Among at vs) read) (IsTyped columns)
      by_cells None is = tt
      by_cells (Some vs) is =
          let parts = cells_typed column.kind (first ∷ more) vs valued is in
          let size : length vs ≡ suc (length more) = parts.0 in
          typed-among at vs ∙ and_from _ _ (lt-ltb 0 (length vs) (omega arith)) (all_compare at column vs e parts.1)

  ok_or_typed : (said : Option Pred) (fault : TestFault) → IfSome said (IsTyped columns) → Typed (ok_or said fault)
  unfolding Typed
  ok_or_typed None fault h = tt
  ok_or_typed (Some p) fault h = h

  -- the column of a name, with its kind
  IsColumn : ℕ × Kind → Type 0
  IsColumn found = (column : schema.Column) × (slice_get columns found.0 ≡ Some column) × (column.kind ≡ found.1)

  column_found : (at : Option ℕ) → IfSome (option_and_then (λ at. option_map (λ column. (at, column.kind)) (slice_get columns at)) at) IsColumn
  unfolding IsColumn
  column_found None = tt
  column_found (Some at) = by_column (slice_get columns at) refl
    where
      by_column : (read : Option schema.Column) → slice_get columns at ≡ read → IfSome (option_map (λ column. (at, column.kind)) read) IsColumn
      by_column None is = tt
      by_column (Some column) is = (column, is, refl)

  about_typed : (found : Option (ℕ × Kind)) (name : List ℕ) (said : Said) → IfSome found IsColumn → SaidTyped said → Typed (meaning_about found name said)
  unfolding Typed IsColumn SaidTyped
  about_typed None name said h typed = tt
  about_typed (Some found) name said h typed =
      ok_or_typed (said found.0 found.1) (IllTyped name) (subst (λ k. IfSome (said found.0 k) (IsTyped columns)) h.2 (typed found.0 h.0 h.1))

  test_typed : (name : List ℕ) (said : Said) → SaidTyped said → Typed (test_meaning columns name said)
  unfolding test_meaning
  test_typed name said typed = about_typed (column_named columns name) name said (column_found (column_number columns name)) typed

  negation_typed : (meaning : Meaning) → Typed meaning → Typed (negation meaning)
  unfolding Typed
  negation_typed (Ok p) h = typed-not p ∙ h
  negation_typed (Err fault) h = tt

  negation_if-typed : (negated : Bool) (meaning : Meaning) → Typed meaning → Typed (negation_if negated meaning)
  negation_if-typed true meaning h = negation_typed meaning h
  negation_if-typed false meaning h = h

  conjunction_typed : (left right : Meaning) → Typed left → Typed right → Typed (conjunction left right)
  unfolding Typed
  conjunction_typed (Ok p) (Ok q) h k = typed-and p q ∙ and_from _ _ h k
  conjunction_typed (Ok p) (Err fault) h k = tt
  conjunction_typed (Err fault) right h k = tt

  disjunction_typed : (left right : Meaning) → Typed left → Typed right → Typed (disjunction left right)
  unfolding Typed
  disjunction_typed (Ok p) (Ok q) h k = typed-or p q ∙ and_from _ _ h k
  disjunction_typed (Ok p) (Err fault) h k = tt
  disjunction_typed (Err fault) right h k = tt

  grammar_test_typed : (t : Test) → AllValued (test_tokens t) → Typed (meaning_of_test columns t)
  unfolding meaning_of_test
  grammar_test_typed (bare column) h = test_typed column.name said_bare bare_typed
  grammar_test_typed (compared column op k) h =
      test_typed column.name (said_compared op (literal_of k)) (compared_typed op (literal_of k) (constant_valued k h.1.1))
  grammar_test_typed (is_null column negated) h = negation_if-typed negated _ (test_typed column.name said_null null_typed)
  grammar_test_typed (among column negated first more) h =
      let opened = valued_parts (not_token negated ++ token.In ∷ token.Open ∷ list_tokens first more) (token.Close ∷ []) h.1 in
      let behind = valued_parts (not_token negated) (token.In ∷ token.Open ∷ list_tokens first more) opened.0 in
      let values = list_valued first more behind.1.1.1 in
      negation_if-typed negated _ (test_typed column.name (said_among (map literal_of (first ∷ more))) (among_typed (literal_of first) (map literal_of more) values))

  mutual
    or_typed : (tree : OrTree) → AllValued (or_tokens tree) → Typed (or_meaning columns tree)
    or_typed (one_and tree) h = and_typed tree h
    or_typed (more_or left right) h =
        let parts = valued_parts (or_tokens left) (token.Or ∷ and_tokens right) h in
        disjunction_typed (or_meaning columns left) (and_meaning columns right) (or_typed left parts.0) (and_typed right parts.1.1)

    and_typed : (tree : AndTree) → AllValued (and_tokens tree) → Typed (and_meaning columns tree)
    and_typed (one_not tree) h = not_typed tree h
    and_typed (more_and left right) h =
        let parts = valued_parts (and_tokens left) (token.And ∷ not_tokens right) h in
        conjunction_typed (and_meaning columns left) (not_meaning columns right) (and_typed left parts.0) (not_typed right parts.1.1)

    not_typed : (tree : NotTree) → AllValued (not_tokens tree) → Typed (not_meaning columns tree)
    not_typed (behind_not tree) h = negation_typed (not_meaning columns tree) (not_typed tree h.1)
    not_typed (in_group tree) h = or_typed tree (valued_parts (or_tokens tree) (token.Close ∷ []) h.1).0
    not_typed (one_test t) h = grammar_test_typed t h

  text_typed : (tree : TextTree) → AllValued (text_tokens tree) → Typed (text_meaning columns tree)
  unfolding Typed
  text_typed empty h = typed-all
  text_typed (whole tree) h = or_typed tree h

  -- what a text of UTF-8 means is typed for the schema
  pub means_typed : (text : List ℕ) (p : Pred) → IsUtf8 text → Means columns text (Ok p) → IsTyped columns p
  unfolding Typed
  means_typed text p u means =
      let tree = means.0 in
      let typed : Typed (text_meaning columns tree) = text_typed tree (begins_valued (text_tokens tree) text means.1 u means.2) in
      subst Typed means.6 typed
