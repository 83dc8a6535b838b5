-- The kit's parser over all words behind a command.
use Rattle.std.proofs.Common.{◌≡◌, ◌∙◌, inl, inr, ℕ, Bool, true, false, not, true≢false, List, [], ◌∷◌, ◌++◌, map, Option, Some, None, refl, sym, ap, subst, append-nil, append_assoc, IsTrue}
use Rattle.std.specs.Prelude.{◌==◌, ◌&&◌, ◌||◌, codes, if◌then◌else◌, length, is_some}
use Rattle.std.specs.List.{before_first, after_first, fold, list_all}
use Rattle.std.specs.Option.{unwrap_or}
use Rattle.std.specs.Str.{bytes_eq}
use Rattle.clap.specs.Walk.{Row, Rule, Text, Walk, all_of, has_row, idle, option, positional, settled_rows, walked, with_default, with_values}
use Rattle.clap.specs.Simple.{built, entered, matches_of}
use Rattle.clap.specs.Faults.{check_fault, default_fault, defaults_fault, entered_fault, fault_of, settle_fault, turn_fault, walk_fault}
use Rattle.clap.specs.Kinds.{Kinds, or_else}
use Rattle.clap.specs.declared.builder.value_parser.Reading.{Reading}
use Rattle.clap.specs.declared.parser.matches.ValueSource.{ValueSource}
use Rattle.clap.specs.declared.error.kind.ErrorKind.{ErrorKind}
use Rattle.command_line.specs.declared.commands.Command.{Command}
use Rattle.command_line.specs.declared.commands.Command.TheVariants as command
use Rattle.command_line.specs.Commands.{is_option, takes_bare_words}
use Rattle.command_line.specs.Given.{Given, named, bare, is_value, is_empty as has_no_byte, IsNext, IsSpelled, values_of}
use Rattle.command_line.specs.Steps.{IsShown, Shows, app_with, bare_rule, has_equals, is_equals, is_joined, is_plain, option_rule, rules_of}
use Rattle.command_line.proofs.WordSteps.{Next, opens, gives, refuses, next_of}
use Rattle.command_line.proofs.WordLemmas.{cut_at_equals, given_by, is_text, joined_gives, name_opens, opened_by, or_cases, value_gives}
use Rattle.command_line.proofs.GivenLemmas.{after, given_from, spelled, spelled_given, with_given}
use Rattle.command_line.proofs.KitFacts.{IsOptionOf, Pending, args, held, shape, used_once, walk_at}
use Rattle.command_line.proofs.KitFacts as fact

-- ---- rows

unfoldable pub texts_at : List Row → Text → List Text
texts_at rows id = unwrap_or (all_of id rows) []

-- one value more of an id
more_of : (id other : Text) (how : Reading) (s : ValueSource) (v : Text) (rows : List Row)
    → unwrap_or (all_of other (with_values id how s (v ∷ []) rows)) [] ≡ (if bytes_eq id other then unwrap_or (all_of other rows) [] ++ v ∷ [] else unwrap_or (all_of other rows) [])
more_of id other how s v [] = go (bytes_eq id other) refl
  where
    go : (b : Bool) → bytes_eq id other ≡ b → unwrap_or (all_of other (with_values id how s (v ∷ []) [])) [] ≡ (if b then v ∷ [] else [])
    go true e = rw e refl
    go false e = rw e refl
more_of id other how s v (r ∷ rs) = go (more_of id other how s v rs) (bytes_eq r.id id) (bytes_eq r.id other) (bytes_eq id other) refl refl refl
  where
    go : unwrap_or (all_of other (with_values id how s (v ∷ []) rs)) [] ≡ (if bytes_eq id other then unwrap_or (all_of other rs) [] ++ v ∷ [] else unwrap_or (all_of other rs) [])
        → (a b c : Bool) → bytes_eq r.id id ≡ a → bytes_eq r.id other ≡ b → bytes_eq id other ≡ c
        → unwrap_or (all_of other (with_values id how s (v ∷ []) (r ∷ rs))) [] ≡ (if c then unwrap_or (all_of other (r ∷ rs)) [] ++ v ∷ [] else unwrap_or (all_of other (r ∷ rs)) [])
    go more true true true ea eb ec = rw (ea, eb) refl
    go more true true false ea eb ec = absurd (true≢false (sym (subst (λ (t : Text). bytes_eq t other ≡ true) (is_text r.id id ea) eb) ∙ ec))
    go more true false true ea eb ec = absurd (true≢false (sym (subst (λ (t : Text). bytes_eq t other ≡ true) (sym (is_text r.id id ea)) ec) ∙ eb))
    go more true false false ea eb ec = rw (ea, eb) refl
    go more false true true ea eb ec = absurd (true≢false (sym (subst (λ (t : Text). bytes_eq r.id t ≡ true) (sym (is_text id other ec)) eb) ∙ ea))
    go more false true false ea eb ec = rw (ea, eb) refl
    go more false false true ea eb ec = rw (ea, eb) (more ∙ rw ec refl)
    go more false false false ea eb ec = rw (ea, eb) (more ∙ rw ec refl)

texts_used : (id other v : Text) (rows : List Row) → texts_at (used_once (option_rule id) v rows) other ≡ (if bytes_eq id other then texts_at rows other ++ v ∷ [] else texts_at rows other)
unfolding texts_at
texts_used id other v rows = more_of id other _ _ v rows

bare_used : (v : Text) (rows : List Row) → texts_at (used_once bare_rule v rows) (codes "n") ≡ texts_at rows (codes "n") ++ v ∷ []
unfolding texts_at
bare_used v rows = more_of (codes "n") (codes "n") _ _ v rows

-- ---- after the walk

same_cond : {A : Type 0} (b : Bool) (x : A) → (if b then x else x) ≡ x
same_cond true x = refl
same_cond false x = refl

or_true : (b : Bool) → (b || true) ≡ true
or_true true = refl
or_true false = refl

abbrev no_texts : List Text → Bool
no_texts [] = true
no_texts (t ∷ ts) = false

abbrev has_no_default : Rule → Bool
has_no_default a = no_texts a.defaults

default_none : (a : Rule) (rows : List Row) → a.defaults ≡ [] → default_fault rows a ≡ []
default_none a rows d = rw (d, or_true (has_row a.id rows)) refl

finish : (rs : List Rule) (rows : List Row) → list_all has_no_default rs ≡ true → fold with_default rows rs ≡ rows
finish [] rows e = refl
finish (a ∷ rs) rows e = go (finish rs rows) a.defaults refl
  where
    go : (list_all has_no_default rs ≡ true → fold with_default rows rs ≡ rows) → (ds : List Text) → a.defaults ≡ ds → fold with_default (with_default rows a) rs ≡ rows
    go more [] d = rw d (ap (λ (x : List Row). fold with_default x rs) (same_cond (has_row a.id rows) rows) ∙ more (subst (λ (ds : List Text). (no_texts ds && list_all has_no_default rs) ≡ true) d e))
    go more (t ∷ ts) d = absurd (true≢false (sym (subst (λ (ds : List Text). (no_texts ds && list_all has_no_default rs) ≡ true) d e)))

no_defaults : (rs : List Rule) (rows : List Row) → list_all has_no_default rs ≡ true → defaults_fault rows rs ≡ []
unfolding defaults_fault
no_defaults [] rows e = refl
no_defaults (a ∷ rs) rows e = go (no_defaults rs (with_default rows a)) a.defaults refl
  where
    go : (list_all has_no_default rs ≡ true → defaults_fault (with_default rows a) rs ≡ []) → (ds : List Text) → a.defaults ≡ ds → or_else (default_fault rows a) (defaults_fault (with_default rows a) rs) ≡ []
    go more [] d = ap (λ (k : Kinds). or_else k (defaults_fault (with_default rows a) rs)) (default_none a rows d) ∙ more (subst (λ (ds : List Text). (no_texts ds && list_all has_no_default rs) ≡ true) d e)
    go more (t ∷ ts) d = absurd (true≢false (sym (subst (λ (ds : List Text). (no_texts ds && list_all has_no_default rs) ≡ true) d e)))

or_nothing : (k : Kinds) → or_else k [] ≡ k
or_nothing [] = refl
or_nothing (x ∷ k) = refl

-- ---- the walk

ends : List Rule → Walk → List Text → Walk
ends rules w words = fold (walked (args rules) []) w words

-- what fails on the way, or behind the last word
pub total : List Rule → Walk → List Text → Kinds
unfolding ends
total rules w words = or_else (walk_fault (shape rules) [] w words) (settle_fault (args rules) false (ends rules w words).held)

pub final : List Rule → Walk → List Text → List Row
unfolding ends
final rules w words = settled_rows (args rules) (ends rules w words).held.pending (ends rules w words).held.rows

total_end : (rules : List Rule) (w : Walk) → total rules w [] ≡ settle_fault (args rules) false w.held
unfolding ends total walk_fault
total_end rules w = refl

final_end : (rules : List Rule) (w : Walk) → final rules w [] ≡ settled_rows (args rules) w.held.pending w.held.rows
unfolding ends final
final_end rules w = refl

total_step : (rules : List Rule) (w next : Walk) (word : Text) (words : List Text) → walked (args rules) [] w word ≡ next → turn_fault (shape rules) [] w word ≡ []
    → total rules w (word ∷ words) ≡ total rules next words
unfolding ends total walk_fault
total_step rules w next word words is passes =
    ap (λ (k : Kinds). or_else (or_else k (walk_fault (shape rules) [] (walked (args rules) [] w word) words)) (settle_fault (args rules) false (ends rules (walked (args rules) [] w word) words).held)) passes
    ∙ ap (λ (n : Walk). or_else (walk_fault (shape rules) [] n words) (settle_fault (args rules) false (ends rules n words).held)) is

final_step : (rules : List Rule) (w next : Walk) (word : Text) (words : List Text) → walked (args rules) [] w word ≡ next → final rules w (word ∷ words) ≡ final rules next words
unfolding ends final
final_step rules w next word words is = ap (λ (n : Walk). settled_rows (args rules) (ends rules n words).held.pending (ends rules n words).held.rows) is

total_fails : (rules : List Rule) (w : Walk) (word : Text) (words : List Text) (k : ErrorKind) (ks : Kinds) → turn_fault (shape rules) [] w word ≡ k ∷ ks → total rules w (word ∷ words) ≡ [] → ⊥
unfolding ends total walk_fault
total_fails rules w word words k ks fails none =
    let found : k ∷ ks ≡ [] = sym (ap (λ (f : Kinds). or_else (or_else f (walk_fault (shape rules) [] (walked (args rules) [] w word) words)) (settle_fault (args rules) false (ends rules (walked (args rules) [] w word) words).held)) fails) ∙ none in
    absurd cc

-- what a walk gives: it fails where the words give nothing, and else has their values behind those before
Gives : List Row → Option (List Given) → Kinds → List Row → Type 0
Gives rows None faults last = faults ≡ [] → ⊥
Gives rows (Some given) faults last = (faults ≡ []) × ((id : Text) → texts_at last id ≡ texts_at rows id ++ values_of (45 ∷ 45 ∷ id) given)

gives_as : (rows : List Row) (o p : Option (List Given)) (f g : Kinds) (l m : List Row) → o ≡ p → f ≡ g → l ≡ m → Gives rows p g m → Gives rows o f l
gives_as rows o p f g l m eo ef el h = subst (λ (x : Option (List Given)). Gives rows x f l) (sym eo) (subst (λ (x : Kinds). Gives rows p x l) (sym ef) (subst (λ (x : List Row). Gives rows p g x) (sym el) h))

valued_more : (rows : List Row) (id v : Text) (given : List Given) (other : Text)
    → texts_at (used_once (option_rule id) v rows) other ++ values_of (45 ∷ 45 ∷ other) given ≡ texts_at rows other ++ values_of (45 ∷ 45 ∷ other) (named (45 ∷ 45 ∷ id) v ∷ given)
valued_more rows id v given other = ap (λ (ts : List Text). ts ++ values_of (45 ∷ 45 ∷ other) given) (texts_used id other v rows) ∙ go (bytes_eq id other)
  where
    go : (b : Bool) → (if b then texts_at rows other ++ v ∷ [] else texts_at rows other) ++ values_of (45 ∷ 45 ∷ other) given
        ≡ texts_at rows other ++ (if b then v ∷ values_of (45 ∷ 45 ∷ other) given else values_of (45 ∷ 45 ∷ other) given)
    go true = append_assoc (texts_at rows other) (v ∷ []) (values_of (45 ∷ 45 ∷ other) given)
    go false = refl

gives_more : (rows : List Row) (id v : Text) (o : Option (List Given)) (f : Kinds) (l : List Row) → Gives (used_once (option_rule id) v rows) o f l → Gives rows (with_given (named (45 ∷ 45 ∷ id) v) o) f l
unfolding Gives
gives_more rows id v None f l h = h
gives_more rows id v (Some given) f l h = (h.0, λ other. h.1 other ∙ valued_more rows id v given other)

gives_none : (rows : List Row) (o : Option (List Given)) (f : Kinds) (l : List Row) → o ≡ None → (f ≡ [] → ⊥) → Gives rows o f l
unfolding Gives
gives_none rows o f l e h = subst (λ (x : Option (List Given)). Gives rows x f l) (sym e) h

-- ---- the kinds of words

data Kind (command : Command) (rules : List Rule) (word : Text) : Type 0 where
  an_option : (id : Text) → word ≡ 45 ∷ 45 ∷ id → IsTrue (is_option command (45 ∷ 45 ∷ id)) → IsOptionOf rules id → Kind command rules word
  with_text : (id v : Text) → word ≡ (45 ∷ 45 ∷ id) ++ 61 ∷ v → IsTrue (is_option command (45 ∷ 45 ∷ id)) → IsTrue (not (has_no_byte v)) → IsOptionOf rules id → Kind command rules word
  a_text : (x : ℕ) (xs : Text) → word ≡ x ∷ xs → (x == 45) ≡ false → Kind command rules word

-- what the arguments of a command with options are
pub record HasOptions (command : Command) (rules : List Rule) : Type 0 where
  pub option_of : (name : Text) → IsTrue (is_option command name) → (id : Text) × (name ≡ 45 ∷ 45 ∷ id) × IsOptionOf rules id
  pub stray : (rows : List Row) (p : Pending) (x : ℕ) (xs : Text) → (x == 45) ≡ false → turn_fault (shape rules) [] (walk_at rows p idle) (x ∷ xs) ≡ Rattle.clap.specs.declared.error.kind.ErrorKind.TheVariants.UnknownArgument ∷ []
  pub no_bare : takes_bare_words command ≡ false

and_parts : (a b : Bool) → (a && b) ≡ true → (a ≡ true) × (b ≡ true)
and_parts true b e = (refl, e)
and_parts false b e = absurd (true≢false (sym e))

not_true : (b : Bool) → not b ≡ true → b ≡ false
not_true true e = absurd (true≢false (sym e))
not_true false e = refl

has_byte : (v : Text) → not (length v == 0) ≡ true → IsTrue (not (has_no_byte v))
has_byte [] e = absurd (true≢false (sym e))
has_byte (x ∷ v) e = refl

kind_of : (command : Command) (rules : List Rule) (word : Text) → HasOptions command rules → is_plain command word ≡ true → Kind command rules word
kind_of command rules word has plain = elim (or_cases (is_option command word) _ plain) [
  | inl is ↦ let o = has.option_of word is in an_option o.0 o.1 (subst (λ (n : Text). IsTrue (is_option command n)) o.1 is) o.2
  | inr others ↦ elim (or_cases (is_value word) _ others) [
    | inl is ↦ text word is
    | inr is ↦ joined (and_parts (has_equals word) _ is)
  ]
]
  where
    text : (w : Text) → is_value w ≡ true → Kind command rules w
    text [] e = absurd (true≢false (sym e))
    text (x ∷ xs) e = a_text x xs refl (not_true (x == 45) e)

    joined : (has_equals word ≡ true) × ((is_option command (before_first is_equals word) && not (length (after_first is_equals word) == 0)) ≡ true) → Kind command rules word
    joined h =
        let both = and_parts (is_option command (before_first is_equals word)) _ h.1 in
        let o = has.option_of (before_first is_equals word) both.0 in
        with_text o.0 (after_first is_equals word) (cut_at_equals word h.0 ∙ ap (λ (n : Text). n ++ 61 ∷ after_first is_equals word) o.1)
        (subst (λ (n : Text). IsTrue (is_option command n)) o.1 both.0) (has_byte (after_first is_equals word) both.1) o.2

-- ---- a word that is no option, for a command without bare words

begins : List Text → Bool
begins [] = false
begins ([] ∷ words) = false
begins ((x ∷ xs) ∷ words) = x == 45

refused : (command : Command) (rules : List Rule) (x : ℕ) (xs : Text) → HasOptions command rules → (x == 45) ≡ false → next_of command None (x ∷ xs) ≡ refuses
unfolding begins
refused command rules x xs has ne = go (next_of command None (x ∷ xs)) refl
  where
    no_name : (name rest : Text) → IsTrue (is_option command name) → (x ∷ xs) ≡ name ++ rest → ⊥
    no_name name rest is e =
        let o = has.option_of name is in
        true≢false (sym (ap begins (ap (λ (w : Text). w ∷ []) (e ∙ ap (λ (n : Text). n ++ rest) o.1))) ∙ ne)

    stands : (one : Given) → IsNext command one ((x ∷ xs) ∷ []) [] → ⊥
    stands (named name value) (is, full, inl (e, v)) = absurd cc
    stands (named name value) (is, full, inr e) = let same : (x ∷ xs) ≡ name ++ 61 ∷ value = cc in no_name name (61 ∷ value) is same
    stands (bare word) (takes, v, e) = true≢false (sym takes ∙ has.no_bare)

    go : (next : Next) → next_of command None (x ∷ xs) ≡ next → next_of command None (x ∷ xs) ≡ refuses
    go (opens name) e = absurd (no_name (x ∷ xs) [] (opened_by command (x ∷ xs) name e).0 (sym (append-nil (x ∷ xs))))
    go (gives one) e = absurd (stands one (given_by command (x ∷ xs) one [] e))
    go refuses e = e

-- ---- the walk over all words

data State (command : Command) (rules : List Rule) : Type 0 where
  idle_with : (rows : List Row) (p : Pending) → ((r : List Row) → settle_fault (args rules) false (held r p) ≡ []) → State command rules
  waits_with : (rows : List Row) (id : Text) → IsTrue (is_option command (45 ∷ 45 ∷ id)) → IsOptionOf rules id → State command rules

abbrev walk_in : {command : Command} {rules : List Rule} → State command rules → Walk
walk_in (idle_with rows p quiet) = walk_at rows p idle
walk_in (waits_with rows id is of) = walk_at rows (Some (id, [])) (option id)

abbrev rows_in : {command : Command} {rules : List Rule} → State command rules → List Row
rows_in {rules = rules} (idle_with rows p quiet) = settled_rows (args rules) p rows
rows_in (waits_with rows id is of) = rows

abbrev name_in : {command : Command} {rules : List Rule} → State command rules → Option Text
name_in (idle_with rows p quiet) = None
name_in (waits_with rows id is of) = Some (45 ∷ 45 ∷ id)

abbrev Met : (command : Command) (rules : List Rule) → State command rules → List Text → Type 0
Met command rules s words = Gives (rows_in s) (given_from command (name_in s) words) (total rules (walk_in s) words) (final rules (walk_in s) words)

met_end : (command : Command) (rules : List Rule) (s : State command rules) → Met command rules s []
unfolding Gives
met_end command rules (idle_with rows p quiet) =
    (total_end rules (walk_at rows p idle) ∙ quiet rows, λ id. ap (λ (r : List Row). texts_at r id) (final_end rules (walk_at rows p idle)) ∙ sym (append-nil (texts_at (settled_rows (args rules) p rows) id)))
met_end command rules (waits_with rows id is of) =
    λ none. no_kind (sym (total_end rules (walk_at rows (Some (id, [])) (option id)) ∙ of.wants_value rows) ∙ none)
  where
    no_kind : {k : ErrorKind} {ks : Kinds} → k ∷ ks ≡ [] → ⊥
    no_kind e = absurd cc

met_option : (command : Command) (rules : List Rule) (s : State command rules) (id : Text) (words : List Text) → IsTrue (is_option command (45 ∷ 45 ∷ id)) → IsOptionOf rules id
    → ((t : State command rules) → Met command rules t words) → Met command rules s ((45 ∷ 45 ∷ id) ∷ words)
met_option command rules (idle_with rows p quiet) id words is of next =
    let now = settled_rows (args rules) p rows in
    gives_as now _ _ _ _ _ _ (ap (λ (n : Next). after n (λ w. given_from command w words)) (name_opens command (45 ∷ 45 ∷ id) is))
    (total_step rules (walk_at rows p idle) (walk_at now (Some (id, [])) (option id)) (45 ∷ 45 ∷ id) words (of.opens rows p) (of.opens_fault rows p ∙ or_nothing _ ∙ quiet rows))
    (final_step rules (walk_at rows p idle) (walk_at now (Some (id, [])) (option id)) (45 ∷ 45 ∷ id) words (of.opens rows p))
    (next (waits_with now id is of))
met_option command rules (waits_with rows other was wanted) id words is of next =
    gives_none rows _ _ _ refl (total_fails rules (walk_at rows (Some (other, [])) (option other)) (45 ∷ 45 ∷ id) words _ [] (of.opens_again rows (Some (other, [])) other ∙ or_nothing _ ∙ wanted.wants_value rows))

met_joined : (command : Command) (rules : List Rule) (s : State command rules) (id v : Text) (words : List Text) → IsTrue (is_option command (45 ∷ 45 ∷ id)) → IsTrue (not (has_no_byte v)) → IsOptionOf rules id
    → ((t : State command rules) → Met command rules t words) → Met command rules s (((45 ∷ 45 ∷ id) ++ 61 ∷ v) ∷ words)
met_joined command rules (idle_with rows p quiet) id v words is full of next =
    let now = settled_rows (args rules) p rows in
    gives_as now _ _ _ _ _ _ (ap (λ (n : Next). after n (λ w. given_from command w words)) (joined_gives command (45 ∷ 45 ∷ id) v is full))
    (total_step rules (walk_at rows p idle) (walk_at (used_once (option_rule id) v now) None idle) ((45 ∷ 45 ∷ id) ++ 61 ∷ v) words (of.joined rows p v) (of.joined_fault rows p v ∙ or_nothing _ ∙ or_nothing _ ∙ quiet rows))
    (final_step rules (walk_at rows p idle) (walk_at (used_once (option_rule id) v now) None idle) ((45 ∷ 45 ∷ id) ++ 61 ∷ v) words (of.joined rows p v))
    (gives_more now id v _ _ _ (next (idle_with (used_once (option_rule id) v now) None (λ r. refl))))
met_joined command rules (waits_with rows other was wanted) id v words is full of next =
    gives_none rows _ _ _ refl (total_fails rules (walk_at rows (Some (other, [])) (option other)) ((45 ∷ 45 ∷ id) ++ 61 ∷ v) words _ []
    (of.joined_again rows (Some (other, [])) other v ∙ or_nothing _ ∙ or_nothing _ ∙ wanted.wants_value rows))

met_text : (command : Command) (rules : List Rule) (s : State command rules) (x : ℕ) (xs : Text) (words : List Text) → HasOptions command rules → (x == 45) ≡ false
    → ((t : State command rules) → Met command rules t words) → Met command rules s ((x ∷ xs) ∷ words)
met_text command rules (idle_with rows p quiet) x xs words has ne next =
    gives_none _ _ _ _ (ap (λ (n : Next). after n (λ w. given_from command w words)) (refused command rules x xs has ne))
    (total_fails rules (walk_at rows p idle) (x ∷ xs) words _ [] (has.stray rows p x xs ne))
met_text command rules (waits_with rows id is of) x xs words has ne next =
    gives_as rows _ _ _ _ _ _ (ap (λ (n : Next). after n (λ w. given_from command w words)) (value_gives command (45 ∷ 45 ∷ id) (x ∷ xs) (ap not ne)))
    (total_step rules (walk_at rows (Some (id, [])) (option id)) (walk_at rows (Some (id, (x ∷ xs) ∷ [])) idle) (x ∷ xs) words (of.valued rows x xs ne) (of.valued_fault rows x xs ne))
    (final_step rules (walk_at rows (Some (id, [])) (option id)) (walk_at rows (Some (id, (x ∷ xs) ∷ [])) idle) (x ∷ xs) words (of.valued rows x xs ne))
    (gives_more rows id (x ∷ xs) _ _ _ (subst (λ (r : List Row). Gives r (given_from command None words) (total rules (walk_at rows (Some (id, (x ∷ xs) ∷ [])) idle) words) (final rules (walk_at rows (Some (id, (x ∷ xs) ∷ [])) idle) words))
    (of.settles rows (x ∷ xs)) (next (idle_with rows (Some (id, (x ∷ xs) ∷ [])) (λ r. of.passes r (x ∷ xs))))))

met_word : (command : Command) (rules : List Rule) (s : State command rules) (word : Text) (words : List Text) → HasOptions command rules → Kind command rules word
    → ((t : State command rules) → Met command rules t words) → Met command rules s (word ∷ words)
met_word command rules s word words has (an_option id e is of) next = subst (λ (w : Text). Met command rules s (w ∷ words)) (sym e) (met_option command rules s id words is of next)
met_word command rules s word words has (with_text id v e is full of) next = subst (λ (w : Text). Met command rules s (w ∷ words)) (sym e) (met_joined command rules s id v words is full of next)
met_word command rules s word words has (a_text x xs e ne) next = subst (λ (w : Text). Met command rules s (w ∷ words)) (sym e) (met_text command rules s x xs words has ne next)

met : (command : Command) (rules : List Rule) (s : State command rules) (words : List Text) → HasOptions command rules → list_all (is_plain command) words ≡ true → Met command rules s words
met command rules s [] has plain = met_end command rules s
met command rules s (word ∷ words) has plain =
    let both = and_parts (is_plain command word) (list_all (is_plain command) words) plain in
    met_word command rules s word words has (kind_of command rules word has both.0) (λ t. met command rules t words has both.1)

-- ---- the commands with options

table_option : (name : Text) → IsTrue (is_option command.Body name) → (id : Text) × (name ≡ 45 ∷ 45 ∷ id) × IsOptionOf (rules_of command.Body) id
table_option name is = (codes "table", is_text name (codes "--table") is, fact.table)

serve_option : (name : Text) → IsTrue (is_option command.Serve name) → (id : Text) × (name ≡ 45 ∷ 45 ∷ id) × IsOptionOf (rules_of command.Serve) id
serve_option name is = elim (or_cases _ _ is) [
  | inr last ↦ (codes "connections", is_text name (codes "--connections") last, fact.serve_connections)
  | inl three ↦ elim (or_cases _ _ three) [
    | inr third ↦ (codes "workers", is_text name (codes "--workers") third, fact.serve_workers)
    | inl two ↦ elim (or_cases _ _ two) [
      | inr second ↦ (codes "listen", is_text name (codes "--listen") second, fact.serve_listen)
      | inl first ↦ (codes "table", is_text name (codes "--table") first, fact.serve_table)
    ]
  ]
]

body_has : HasOptions command.Body (rules_of command.Body)
body_has = record { option_of = table_option; stray = fact.stray; no_bare = refl }

pipe_has : HasOptions command.Pipe (rules_of command.Pipe)
pipe_has = record { option_of = table_option; stray = fact.stray; no_bare = refl }

serve_has : HasOptions command.Serve (rules_of command.Serve)
serve_has = record { option_of = serve_option; stray = fact.serve_stray; no_bare = refl }

-- ---- bare words

no_joined : (word : Text) → is_joined command.Drill word ≡ true → ⊥
no_joined word e = true≢false (sym (and_parts (has_equals word) false e).1)

drill_text : (word : Text) → is_plain command.Drill word ≡ true → is_value word ≡ true
drill_text word e = elim (or_cases (is_value word) (is_joined command.Drill word) e) [
  | inl is ↦ is
  | inr is ↦ absurd (no_joined word is)
]

drill_spelled : (words : List Text) → list_all (is_plain command.Drill) words ≡ true → IsSpelled command.Drill words (map bare words)
drill_spelled [] e = refl
drill_spelled (word ∷ words) e =
    let both = and_parts (is_plain command.Drill word) (list_all (is_plain command.Drill) words) e in
    (words, (refl, drill_text word both.0, refl), drill_spelled words both.1)

-- all bare words are found
Finds : List Text → Kinds → List Row → Type 0
Finds texts faults last = (faults ≡ []) × (texts_at last (codes "n") ≡ texts)

finds_as : (a b : List Text) (f g : Kinds) (l m : List Row) → f ≡ g → l ≡ m → a ≡ b → Finds a g m → Finds b f l
unfolding Finds
finds_as a b f g l m ef el e h = (ef ∙ h.0, ap (λ (r : List Row). texts_at r (codes "n")) el ∙ h.1 ∙ e)

bare_next : (rows : List Row) (v word : Text) (words : List Text) → is_value word ≡ true
    → Finds (texts_at (used_once bare_rule v rows) (codes "n") ++ word ∷ words) (total (rules_of command.Drill) (walk_at (used_once bare_rule v rows) (Some (codes "n", word ∷ [])) positional) words)
    (final (rules_of command.Drill) (walk_at (used_once bare_rule v rows) (Some (codes "n", word ∷ [])) positional) words)
    → Finds (texts_at rows (codes "n") ++ v ∷ word ∷ words) (total (rules_of command.Drill) (walk_at rows (Some (codes "n", v ∷ [])) positional) (word ∷ words))
    (final (rules_of command.Drill) (walk_at rows (Some (codes "n", v ∷ [])) positional) (word ∷ words))
bare_next rows v [] words is h = absurd (true≢false (sym is))
bare_next rows v (x ∷ xs) words is h =
    let ne = not_true (x == 45) is in
    let now = walk_at rows (Some (codes "n", v ∷ [])) positional in
    let next = walk_at (used_once bare_rule v rows) (Some (codes "n", (x ∷ xs) ∷ [])) positional in
    finds_as _ _ _ _ _ _ (total_step (rules_of command.Drill) now next (x ∷ xs) words (fact.bare_next rows v x xs ne) (fact.bare_next_fault rows v x xs ne))
    (final_step (rules_of command.Drill) now next (x ∷ xs) words (fact.bare_next rows v x xs ne))
    (ap (λ (ts : List Text). ts ++ (x ∷ xs) ∷ words) (bare_used v rows) ∙ append_assoc (texts_at rows (codes "n")) (v ∷ []) ((x ∷ xs) ∷ words)) h

bare_walk : (rows : List Row) (v : Text) (words : List Text) → list_all (is_plain command.Drill) words ≡ true
    → Finds (texts_at rows (codes "n") ++ v ∷ words) (total (rules_of command.Drill) (walk_at rows (Some (codes "n", v ∷ [])) positional) words)
    (final (rules_of command.Drill) (walk_at rows (Some (codes "n", v ∷ [])) positional) words)
unfolding Finds
bare_walk rows v [] e = (
  total_end (rules_of command.Drill) (walk_at rows (Some (codes "n", v ∷ [])) positional) ∙ fact.bare_passes rows v,
  ap (λ (r : List Row). texts_at r (codes "n")) (final_end (rules_of command.Drill) (walk_at rows (Some (codes "n", v ∷ [])) positional) ∙ fact.bare_settles rows v) ∙ bare_used v rows,
)
bare_walk rows v (word ∷ words) e =
    let both = and_parts (is_plain command.Drill word) (list_all (is_plain command.Drill) words) e in
    bare_next rows v word words (drill_text word both.0) (bare_walk (used_once bare_rule v rows) word words both.1)

bare_start : (words : List Text) → list_all (is_plain command.Drill) words ≡ true → Finds words (total (rules_of command.Drill) (walk_at [] None idle) words) (final (rules_of command.Drill) (walk_at [] None idle) words)
unfolding Finds texts_at
bare_start [] e = (total_end (rules_of command.Drill) (walk_at [] None idle), ap (λ (r : List Row). texts_at r (codes "n")) (final_end (rules_of command.Drill) (walk_at [] None idle)))
bare_start ([] ∷ words) e = absurd (true≢false (sym (drill_text [] (and_parts (is_plain command.Drill []) (list_all (is_plain command.Drill) words) e).0)))
bare_start ((x ∷ xs) ∷ words) e =
    let both = and_parts (is_plain command.Drill (x ∷ xs)) (list_all (is_plain command.Drill) words) e in
    let ne = not_true (x == 45) (drill_text (x ∷ xs) both.0) in
    let next = walk_at [] (Some (codes "n", (x ∷ xs) ∷ [])) positional in
    let rest = bare_walk [] (x ∷ xs) words both.1 in (
      total_step (rules_of command.Drill) (walk_at [] None idle) next (x ∷ xs) words (fact.bare_first x xs ne) (fact.bare_first_fault x xs ne) ∙ rest.0,
      ap (λ (r : List Row). texts_at r (codes "n")) (final_step (rules_of command.Drill) (walk_at [] None idle) next (x ∷ xs) words (fact.bare_first x xs ne)) ∙ rest.1,
    )

-- ---- what the kit says of a command

no_entered : (rules : List Rule) (stop : Option (Text × List Text)) → entered_fault (built (app_with rules)) stop ≡ []
no_entered rules None = refl
no_entered rules (Some p) = refl

faults_are : (rules : List Rule) (words : List Text) → list_all has_no_default (args rules) ≡ true → ((rows : List Row) (b : Bool) → check_fault (shape rules) rows b ≡ [])
    → fault_of (app_with rules) words ≡ total rules (walk_at [] None idle) words
unfolding ends total
faults_are rules words none no_check =
    let end = ends rules (walk_at [] None idle) words in
    let settle = settle_fault (args rules) false end.held in
    let walk = walk_fault (shape rules) [] (walk_at [] None idle) words in
    let stop = end.stopped in
    ap (λ (k : Kinds). or_else walk (or_else k (or_else settle (or_else (defaults_fault (settled_rows (args rules) end.held.pending end.held.rows) (args rules))
    (check_fault (shape rules) (fold with_default (settled_rows (args rules) end.held.pending end.held.rows) (args rules)) (is_some (entered (built (app_with rules)) stop)))))))
    (no_entered rules stop)
    ∙ ap (λ (k : Kinds). or_else walk (or_else settle (or_else k (check_fault (shape rules) (fold with_default (settled_rows (args rules) end.held.pending end.held.rows) (args rules)) (is_some (entered (built (app_with rules)) stop))))))
    (no_defaults (args rules) (settled_rows (args rules) end.held.pending end.held.rows) none)
    ∙ ap (λ (k : Kinds). or_else walk (or_else settle k)) (no_check _ _) ∙ ap (or_else walk) (or_nothing settle)

rows_are : (rules : List Rule) (words : List Text) → list_all has_no_default (args rules) ≡ true → matches_of (app_with rules) words ≡ final rules (walk_at [] None idle) words
unfolding ends final
rows_are rules words none = finish (args rules) (final rules (walk_at [] None idle) words) none

no_default : (c : Command) → list_all has_no_default (args (rules_of c)) ≡ true
no_default command.Body = refl
no_default command.Pipe = refl
no_default command.Serve = refl
no_default command.Drill = refl

-- the kit takes the words exactly where things given are spelled so, and finds their values
pub record KitReads (c : Command) (words : List Text) : Type 0 where
  pub found : fault_of (app_with (rules_of c)) words ≡ [] → IsShown c words (texts_at (matches_of (app_with (rules_of c)) words))
  pub taken : (given : List Given) → IsSpelled c words given → fault_of (app_with (rules_of c)) words ≡ []

options_read : (c : Command) (words : List Text) → HasOptions c (rules_of c) → ((given : List Given) (values : Text → List Text) → ((id : Text) → values id ≡ values_of (45 ∷ 45 ∷ id) given) → Shows c given values)
    → list_all (is_plain c) words ≡ true → KitReads c words
unfolding Gives texts_at
options_read c words has shows plain = go (given_from c None words) refl (met c (rules_of c) (idle_with [] None (λ r. refl)) words has plain)
  where
    fault : fault_of (app_with (rules_of c)) words ≡ total (rules_of c) (walk_at [] None idle) words
    fault = faults_are (rules_of c) words (no_default c) (fact.no_check c)

    some_is : {x y : List Given} → Some x ≡ Some y → x ≡ y
    some_is e = cc

    never : {x : List Given} → None ≡ Some x → ⊥
    never e = absurd cc

    go : (o : Option (List Given)) → given_from c None words ≡ o → Gives [] (given_from c None words) (total (rules_of c) (walk_at [] None idle) words) (final (rules_of c) (walk_at [] None idle) words) → KitReads c words
    go None e h =
        let fails = subst (λ (o : Option (List Given)). Gives [] o (total (rules_of c) (walk_at [] None idle) words) (final (rules_of c) (walk_at [] None idle) words)) e h in
        record { found = λ none. absurd (fails (sym fault ∙ none)); taken = λ given is. absurd (never (sym e ∙ spelled_given c given words is)) }
    go (Some given) e h =
        let gives = subst (λ (o : Option (List Given)). Gives [] o (total (rules_of c) (walk_at [] None idle) words) (final (rules_of c) (walk_at [] None idle) words)) e h in
        record {
          found = λ none. (given, spelled c words given e, shows given _ (λ id. ap (λ (r : List Row). texts_at r id) (rows_are (rules_of c) words (no_default c)) ∙ gives.1 id));
          taken = λ other is. fault ∙ gives.0;
        }

drill_reads : (words : List Text) → list_all (is_plain command.Drill) words ≡ true → KitReads command.Drill words
unfolding Finds
drill_reads words plain =
    let h = bare_start words plain in
    record {
      found = λ none. (map bare words, drill_spelled words plain, ap (map bare) (sym (ap (λ (r : List Row). texts_at r (codes "n")) (rows_are (rules_of command.Drill) words (no_default command.Drill)) ∙ h.1)));
      taken = λ given is. faults_are (rules_of command.Drill) words (no_default command.Drill) (fact.no_check command.Drill) ∙ h.0;
    }

pub kit_reads : (c : Command) (words : List Text) → list_all (is_plain c) words ≡ true → KitReads c words
kit_reads command.Body words plain = options_read command.Body words body_has (λ given values h. h) plain
kit_reads command.Pipe words plain = options_read command.Pipe words pipe_has (λ given values h. h) plain
kit_reads command.Serve words plain = options_read command.Serve words serve_has (λ given values h. h) plain
kit_reads command.Drill words plain = drill_reads words plain
