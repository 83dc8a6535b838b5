-- What a run of the parser says of the fronts of a text.
use Rattle.std.proofs.Common.{◌≡◌, ℕ, zero, suc, ◌+◌, ◌<◌, ◌≤◌, max, List, [], ◌∷◌, ◌++◌, length, Option, Some, None, refl, sym, ◌∙◌, ap, subst, arith, append_assoc, append-nil, count_by, drop, zero-le, inl, inr, take, ◌-◌, if◌then◌else◌, Err, length-drop, drop-drop, drop_of_length-le}
use Rattle.std.specs.List.{prefix_len}
use Rattle.std.proofs.lemmas.List.Sums.{sum_by-append}
use native.Mathlib.Nat.{zero-add}
use Rattle.column_types.specs.declared.column.Column.{Column}
use Rattle.filter.specs.declared.limits.TheConstants.{MAX_BYTES, MAX_LITERALS, MAX_DEPTH}
use Rattle.filter.specs.declared.parser.State.{State}
use Rattle.filter.specs.declared.restriction.Reading.{Reading}
use Rattle.filter.specs.declared.restriction.ReadFault.{ReadFault}
use Rattle.filter.specs.declared.restriction.ReadFault.TheVariants as fault
use Rattle.filter.specs.declared.token.Token.{Token}
use Rattle.filter.specs.Reading.{TakesToken, TakesTooMuch, TakesNothing, Takes, Reads}
use Rattle.filter.specs.Grammar.{TextTree, text_tokens, text_depth}
use Rattle.filter.specs.Machine.{start, step, end}
use Rattle.filter.specs.Meaning.{Meaning, text_meaning}
use Rattle.filter.specs.Restriction.{ends_literal, literal_count, CanGoOn, IsWithinLimits, PassesLimit, CannotFollow, CannotStand, IsSyntaxAt, Means}
use Rattle.filter.specs.Text.{is_blank, past_blanks, token_at, Begins, Found}
use Rattle.filter.proofs.Runs.{depth_of, Runs, Runs-append, Runs-one, Runs-then, Runs-same, Runs-split, Runs-more}
use Rattle.filter.proofs.Standing.{Standing, standing_start, run_stands, standing_goes_on, standing_ends}
use Rattle.filter.proofs.Strings.{slice_all}
use Rattle.filter.proofs.Trees.{text_run}

module _ (columns : List Column) where
  stands : (most : ℕ) (tokens : List Token) (state : State) → Runs columns most start tokens state → Standing columns most state tokens
  stands most tokens state run = run_stands columns most tokens [] start state (standing_start columns most zero-le) run

  -- a tree whose tokens begin with these leads through this state
  through : (most : ℕ) (tokens more : List Token) (state : State) (tree : TextTree) → Runs columns most start tokens state → text_tokens tree ≡ tokens ++ more → text_depth tree ≤ most →
      (last : State) × Runs columns most state more last × (end columns last ≡ Some (text_meaning columns tree))
  through most tokens more state tree run spelled fits =
      let all = text_run tree columns most fits in
      let run' = subst (λ ts. Runs columns most start ts all.0) spelled all.1 in
      let parts = Runs-split columns most tokens more start all.0 run' in
      (all.0, subst (λ s. Runs columns most s more all.0) (Runs-same columns most tokens start parts.0 state parts.1 run) parts.2, all.2)

  pub goes_on : (most : ℕ) (tokens : List Token) (state : State) → Runs columns most start tokens state → CanGoOn tokens
  goes_on most tokens state run =
      let h = standing_goes_on columns most state tokens (stands most tokens state run) in (h.0, h.1, h.2)

  pub within : (tokens : List Token) (state : State) → Runs columns MAX_DEPTH start tokens state → literal_count tokens ≤ MAX_LITERALS → IsWithinLimits tokens
  within tokens state run few = (standing_goes_on columns MAX_DEPTH state tokens (stands MAX_DEPTH tokens state run), few)

  pub refused : (tokens : List Token) (state : State) (t : Token) → Runs columns MAX_DEPTH start tokens state → step columns state t ≡ None → CanGoOn (tokens ++ t ∷ []) → ⊥
  refused tokens state t run e tree =
      let most = max MAX_DEPTH (text_depth tree.0) in
      let run' = Runs-more columns MAX_DEPTH most tokens start state (omega arith) run in
      let next = (through most tokens (t ∷ tree.1) state tree.0 run' (tree.2 ∙ append_assoc tokens (t ∷ []) tree.1) (omega arith)).1 in
      absurd (clash (sym next.1 ∙ e))
    where
      clash : {s : State} → Some s ≡ None → ⊥
      clash e = absurd (cc)

  past_within : (tokens : List Token) (state next : State) (t : Token) → Runs columns MAX_DEPTH start tokens state → step columns state t ≡ Some next → MAX_DEPTH < depth_of next →
      IsWithinLimits (tokens ++ t ∷ []) → ⊥
  past_within tokens state next t run e deep within =
      let tree = within.0 in
      let after = (through MAX_DEPTH tokens (t ∷ tree.1) state tree.0 run (tree.2 ∙ append_assoc tokens (t ∷ []) tree.1) tree.3).1 in
      let same : after.0 ≡ next = some_same (sym after.1 ∙ e) in
      let shallow : depth_of next ≤ MAX_DEPTH = subst (λ s. depth_of s ≤ MAX_DEPTH) same after.2 in
      omega arith
    where
      some_same : {a b : State} → Some a ≡ Some b → a ≡ b
      some_same e = cc

  -- one token more, of any depth
  one_more : (tokens : List Token) (state next : State) (t : Token) → Runs columns MAX_DEPTH start tokens state → step columns state t ≡ Some next → CanGoOn (tokens ++ t ∷ [])
  one_more tokens state next t run e =
      let most = max MAX_DEPTH (depth_of next) in
      goes_on most (tokens ++ t ∷ []) next
      (Runs-then columns most start state next tokens t (Runs-more columns MAX_DEPTH most tokens start state (omega arith) run) e (omega arith))

  no_end : (tokens : List Token) (state : State) → Runs columns MAX_DEPTH start tokens state → end columns state ≡ None → (tree : TextTree) → text_tokens tree ≡ tokens → ⊥
  no_end tokens state run e tree spelled =
      let most = max MAX_DEPTH (text_depth tree) in
      let run' = Runs-more columns MAX_DEPTH most tokens start state (omega arith) run in
      let last = through most tokens [] state tree run' (spelled ∙ sym (append-nil tokens)) (omega arith) in
      clash (sym last.2 ∙ ap (end columns) (sym last.1) ∙ e)
    where
      clash : {m : Meaning} → Some m ≡ None → ⊥
      clash e = absurd (cc)

-- The text up to the rest is these tokens.
Begins-snoc : (tokens : List Token) (text rest : List ℕ) (t : Token) (len : ℕ) → Begins text tokens rest → token_at (past_blanks rest) ≡ Some (t, len) →
    Begins text (tokens ++ t ∷ []) (drop len (past_blanks rest))
Begins-snoc [] text rest t len begins e = (len, subst (λ bs. token_at (past_blanks bs) ≡ Some (t, len)) (sym begins) e, ap (λ bs. drop len (past_blanks bs)) begins)
Begins-snoc (first ∷ tokens) text rest t len begins e =
    (begins.0, begins.1, Begins-snoc tokens (drop begins.0 (past_blanks text)) rest t len begins.2 e)

-- The parser has read the text up to the rest, and met so many literals.
pub record HasRead (columns : List Column) (text rest : List ℕ) (state : State) (literals : ℕ) : Type 0 where
  pub tokens : List Token
  pub begins : Begins text tokens rest
  pub runs : Runs columns MAX_DEPTH start tokens state
  pub counts : literals ≡ literal_count tokens
  pub few : literals ≤ MAX_LITERALS

-- The reading stands at its next token, or at the end.
pub record AtToken (columns : List Column) (text : List ℕ) (reading : Reading) : Type 0 where
  pub rest : List ℕ
  pub read : HasRead columns text rest reading.state reading.literals
  pub stands : past_blanks rest ≡ drop reading.at text
  pub within : reading.at ≤ length text
  pub shallow : depth_of reading.state ≤ MAX_DEPTH

in_limits : (columns : List Column) (text rest : List ℕ) (state : State) (literals : ℕ) (read : HasRead columns text rest state literals) → IsWithinLimits read.tokens
in_limits columns text rest state literals read = within columns read.tokens state read.runs (omega (arith, read.counts, read.few))

count-snoc : (tokens : List Token) (t : Token) → literal_count (tokens ++ t ∷ []) ≡ literal_count tokens + (if ends_literal t then 1 else 0)
count-snoc tokens t = sum_by-append (λ t. if ends_literal t then 1 else 0) tokens (t ∷ []) ∙ ap (λ n. literal_count tokens + n) (zero-add (if ends_literal t then 1 else 0))

pub at_start : (columns : List Column) (text : List ℕ) (state : State) (at : ℕ) → state ≡ start → at ≡ prefix_len is_blank text → at ≤ length text →
    AtToken columns text (record { state = state; literals = 0; at = at })
at_start columns text state at is_start is_at within = record {
  rest = text;
  read = record { tokens = []; begins = refl; runs = sym is_start; counts = refl; few = zero-le };
  stands = ap (λ n. drop n text) (sym is_at);
  within = within;
  shallow = subst (λ s. depth_of s ≤ MAX_DEPTH) (sym is_start) zero-le;
}

pub takes_next : (columns : List Column) (text : List ℕ) (reading next : Reading) (k at : ℕ) → AtToken columns text reading → TakesToken columns reading next text →
    k ≡ prefix_len is_blank (take (length text - next.at) (drop next.at text)) → k ≤ length (take (length text - next.at) (drop next.at text)) → at ≡ next.at + k →
    AtToken columns text (record { state = next.state; literals = next.literals; at = at })
takes_next columns text reading next k at h took is_k k_within is_at =
    let found = ap token_at h.stands ∙ took.found in
    let rest = drop took.len (past_blanks h.rest) in
    let is_rest : rest ≡ drop next.at text
    = ap (drop took.len) h.stands ∙ drop-drop took.len reading.at text ∙ ap (λ n. drop n text) (sym took.moves) in
    let all = slice_all text next.at in
    let within : next.at ≤ length text = took.within in
    record {
      rest = rest;
      read = record {
        tokens = h.read.tokens ++ took.token ∷ [];
        begins = Begins-snoc h.read.tokens text h.rest took.token took.len h.read.begins found;
        runs = Runs-then columns MAX_DEPTH start reading.state next.state h.read.tokens took.token h.read.runs took.steps took.shallow;
        counts = took.counts ∙ ap (λ n. n + (if ends_literal took.token then 1 else 0)) h.read.counts ∙ sym (count-snoc h.read.tokens took.token);
        few = took.few;
      };
      stands = ap past_blanks is_rest ∙ ap (λ n. drop n (drop next.at text)) (sym (is_k ∙ ap (prefix_len is_blank) all)) ∙ drop-drop k next.at text ∙ ap (λ n. drop n text) (sym is_at);
      within = omega (arith, ap length all, length-drop next.at text);
      shallow = took.shallow;
    }

cannot_stand : (tokens : List Token) (bytes : List ℕ) → 0 < length bytes → CannotFollow tokens (token_at bytes) → CannotStand tokens bytes
cannot_stand tokens [] some h = absurd (omega arith)
cannot_stand tokens (b ∷ bytes) some h = h

cannot_follow : (columns : List Column) (text : List ℕ) (reading : Reading) (h : AtToken columns text reading) (found : Found) → TakesNothing columns reading found → CannotFollow h.read.tokens found
cannot_follow columns text reading h None nothing = tt
cannot_follow columns text reading h (Some found) nothing = refused columns h.read.tokens reading.state found.0 h.read.runs nothing

syntax_at : (columns : List Column) (text : List ℕ) (reading : Reading) (at : ℕ) → AtToken columns text reading → reading.at < length text → at ≡ reading.at →
    TakesNothing columns reading (token_at (drop reading.at text)) → IsSyntaxAt text at
syntax_at columns text reading at h lt is_at nothing =
    let some : 0 < length (drop reading.at text) = omega (arith, length-drop reading.at text) in (
      h.read.tokens,
      h.rest,
      h.read.begins,
      in_limits columns text h.rest reading.state reading.literals h.read,
      subst (CannotStand h.read.tokens) (sym h.stands)
          (cannot_stand h.read.tokens (drop reading.at text) some (cannot_follow columns text reading h (token_at (drop reading.at text)) nothing)),
      omega (arith, ap length h.stands, length-drop reading.at text),
    )

too_much : (columns : List Column) (text : List ℕ) (reading : Reading) → AtToken columns text reading → TakesTooMuch columns reading text → PassesLimit text
too_much columns text reading h took =
    let found = ap token_at h.stands ∙ took.found in (
      h.read.tokens ++ took.token ∷ [],
      drop took.len (past_blanks h.rest),
      Begins-snoc h.read.tokens text h.rest took.token took.len h.read.begins found,
      one_more columns h.read.tokens reading.state took.next took.token h.read.runs took.steps,
      λ within. elim took.passes [
        | inl deep ↦ past_within columns h.read.tokens reading.state took.next took.token h.read.runs took.steps deep within
        | inr many ↦ let few = within.1 in omega (arith, many, few, h.read.counts, count-snoc h.read.tokens took.token)
      ],
    )

pub takes_fault : (columns : List Column) (text : List ℕ) (reading : Reading) (fault : ReadFault) → AtToken columns text reading → reading.at < length text →
    Takes columns reading text (Err fault) → Reads columns text (Err fault)
takes_fault columns text reading fault.Memory h lt took = tt
takes_fault columns text reading fault.Long h lt took = too_much columns text reading h took
takes_fault columns text reading (fault.Syntax at) h lt took = syntax_at columns text reading at h lt took.0 took.1

pub end_fault : (columns : List Column) (text : List ℕ) (reading : Reading) → AtToken columns text reading → length text ≤ reading.at → None ≡ end columns reading.state → IsSyntaxAt text (length text)
end_fault columns text reading h past e =
    let none : past_blanks h.rest ≡ [] = h.stands ∙ drop_of_length-le text {i = reading.at} past in (
      h.read.tokens,
      h.rest,
      h.read.begins,
      in_limits columns text h.rest reading.state reading.literals h.read,
      subst (CannotStand h.read.tokens) (sym none) (no_end columns h.read.tokens reading.state h.read.runs (sym e)),
      omega (arith, ap length none),
    )

pub end_means : (columns : List Column) (text : List ℕ) (reading : Reading) (meaning : Meaning) → AtToken columns text reading → length text ≤ reading.at → Some meaning ≡ end columns reading.state → Means columns text meaning
end_means columns text reading meaning h past e =
    let built = standing_ends columns MAX_DEPTH reading.state h.read.tokens meaning (sym e) (stands columns MAX_DEPTH h.read.tokens reading.state h.read.runs) in (
      built.0,
      h.rest,
      subst (λ ts. Begins text ts h.rest) (sym built.1) h.read.begins,
      h.stands ∙ drop_of_length-le text {i = reading.at} past,
      built.3,
      subst (λ ts. literal_count ts ≤ MAX_LITERALS) (sym built.1) (omega (arith, h.read.counts, h.read.few)),
      built.2,
    )
