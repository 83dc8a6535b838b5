-- One word: what it makes is what stands there.
use Rattle.std.proofs.Common.{◌≡◌, ◌⊎◌, inl, inr, ℕ, ◌<◌, Bool, true, false, List, [], ◌∷◌, ◌++◌, length, get_or, Some, None, refl, sym, ap, subst, ◌∙◌, arith, IsTrue}
use Rattle.std.specs.Prelude.{not, ◌&&◌, ◌||◌, codes, if◌then◌else◌}
use Rattle.std.specs.List.{before_first, after_first, position_or_len}
use Rattle.std.specs.Str.{bytes_eq}
use Rattle.std.proofs.lemmas.Bool.{ltb-true, lt-ltb}
use Rattle.std.proofs.lemmas.Bool.Decides.{Decides-eqb}
use Rattle.std.proofs.lemmas.List.Sums.{split_at_first, passes_at_first}
use Rattle.std.proofs.lemmas.Slice.Eq.{bytes_eq-Decides}
use Rattle.command_line.specs.declared.commands.Command.{Command}
use Rattle.command_line.specs.declared.commands.Command.TheVariants as command
use Rattle.command_line.specs.Commands.{is_option, takes_bare_words}
use Rattle.command_line.specs.Given.{Given, named, bare, is_value, is_empty, IsNext}
use Rattle.command_line.specs.Steps.{is_equals, has_equals}
use Rattle.command_line.proofs.WordSteps.{Next, opens, gives, refuses, next_of, whole_word, with_value}

pub and_first : (a b : Bool) → (a && b) ≡ true → a ≡ true
and_first true b e = refl
and_first false b e = absurd cc

pub and_second : (a b : Bool) → (a && b) ≡ true → b ≡ true
and_second true b e = e
and_second false b e = absurd cc

-- ---- from what a word makes to what stands there

only_opens : (name other : List ℕ) → opens name ≡ opens other → name ≡ other
only_opens name other e = cc

only_gives : (one other : Given) → gives one ≡ gives other → one ≡ other
only_gives one other e = cc

chosen : (b c : Bool) (x y : Next) (one : Given) → (if b then x else (if c then y else refuses)) ≡ gives one
    → ((b ≡ true) × (x ≡ gives one)) ⊎ ((c ≡ true) × (y ≡ gives one))
chosen true c x y one e = inl (refl, e)
chosen false true x y one e = inr (refl, e)
chosen false false x y one e = absurd cc

never_opens : (b c : Bool) (x y : Next) (name : List ℕ) → (x ≡ opens name → ⊥) → (y ≡ opens name → ⊥) → (if b then x else (if c then y else refuses)) ≡ opens name → ⊥
never_opens true c x y name nx ny e = nx e
never_opens false true x y name nx ny e = ny e
never_opens false false x y name nx ny e = absurd cc

value_given : (name value : List ℕ) (one : Given) → with_value name value ≡ gives one → (IsTrue (not (is_empty value))) × (one ≡ named name value)
value_given name [] one e = absurd cc
value_given name (first ∷ others) one e = (refl, sym (only_gives _ _ e))

value_never_opens : (name value other : List ℕ) → with_value name value ≡ opens other → ⊥
value_never_opens name [] other e = absurd cc
value_never_opens name (first ∷ others) other e = absurd cc

equal_there : (b : ℕ) → is_equals b ≡ true → b ≡ 61
equal_there b e = (Decides-eqb b 61).0 e

-- a word with `=` is what stands before the first, it, and what stands behind it
pub cut_at_equals : (word : List ℕ) → has_equals word ≡ true → word ≡ before_first is_equals word ++ 61 ∷ after_first is_equals word
cut_at_equals word has =
    let inside : position_or_len is_equals word < length word = ltb-true (position_or_len is_equals word) (length word) has in
    let there : get_or word (position_or_len is_equals word) 0 ≡ 61 = equal_there _ (passes_at_first is_equals word 0 inside) in
    split_at_first is_equals word 0 inside ∙ ap (λ (b : ℕ). before_first is_equals word ++ b ∷ after_first is_equals word) there

whole_given : (command : Command) (word : List ℕ) (one : Given) (rest : List (List ℕ)) → whole_word command word ≡ gives one → IsNext command one (word ∷ rest) rest
whole_given command word one rest e =
    elim (chosen (has_equals word && is_option command (before_first is_equals word)) (takes_bare_words command && is_value word)
    (with_value (before_first is_equals word) (after_first is_equals word)) (gives (bare word)) one e) [
      | inl h ↦ joined h.0 (value_given (before_first is_equals word) (after_first is_equals word) one h.1)
      | inr h ↦ alone h.0 (sym (only_gives _ _ h.1))
    ]
  where
    joined : (has_equals word && is_option command (before_first is_equals word)) ≡ true
        → (IsTrue (not (is_empty (after_first is_equals word)))) × (one ≡ named (before_first is_equals word) (after_first is_equals word)) → IsNext command one (word ∷ rest) rest
    joined both given = subst (λ (g : Given). IsNext command g (word ∷ rest) rest) (sym given.1)
        (and_second (has_equals word) _ both, given.0, inr (ap (λ (w : List ℕ). w ∷ rest) (cut_at_equals word (and_first (has_equals word) _ both))))

    alone : (takes_bare_words command && is_value word) ≡ true → one ≡ bare word → IsNext command one (word ∷ rest) rest
    alone both given = subst (λ (g : Given). IsNext command g (word ∷ rest) rest) (sym given)
        (and_first (takes_bare_words command) _ both, and_second (takes_bare_words command) _ both, refl)

whole_never_opens : (command : Command) (word name : List ℕ) → whole_word command word ≡ opens name → ⊥
whole_never_opens command word name e =
    never_opens (has_equals word && is_option command (before_first is_equals word)) (takes_bare_words command && is_value word)
    (with_value (before_first is_equals word) (after_first is_equals word)) (gives (bare word)) name
    (value_never_opens (before_first is_equals word) (after_first is_equals word) name) (λ (h : gives (bare word) ≡ opens name). absurd cc) e

chosen_first : (b : Bool) (word name : List ℕ) (y : Next) → (if b then opens word else y) ≡ opens name → (y ≡ opens name → ⊥) → (b ≡ true) × (word ≡ name)
chosen_first true word name y e never = (refl, only_opens word name e)
chosen_first false word name y e never = absurd (never e)

not_first : (b : Bool) (word : List ℕ) (y : Next) (one : Given) → (if b then opens word else y) ≡ gives one → y ≡ gives one
not_first true word y one e = absurd cc
not_first false word y one e = e

-- a word that opens is an option's name
pub opened_by : (command : Command) (word name : List ℕ) → next_of command None word ≡ opens name → IsTrue (is_option command word) × (word ≡ name)
opened_by command word name e = chosen_first (is_option command word) word name (whole_word command word) e (whole_never_opens command word name)

-- a word that gives something stands for it
pub given_by : (command : Command) (word : List ℕ) (one : Given) (rest : List (List ℕ)) → next_of command None word ≡ gives one → IsNext command one (word ∷ rest) rest
given_by command word one rest e = whole_given command word one rest (not_first (is_option command word) word (whole_word command word) one e)

value_or_none : (b : Bool) (one other : Given) → (if b then gives other else refuses) ≡ gives one → (b ≡ true) × (other ≡ one)
value_or_none true one other e = (refl, only_gives other one e)
value_or_none false one other e = absurd cc

never_waits : (b : Bool) (other : Given) (name : List ℕ) → (if b then gives other else refuses) ≡ opens name → ⊥
never_waits true other name e = absurd cc
never_waits false other name e = absurd cc

-- behind an option's name a word is its value
pub value_by : (command : Command) (name word : List ℕ) (one : Given) → next_of command (Some name) word ≡ gives one → IsTrue (is_value word) × (named name word ≡ one)
value_by command name word one e = value_or_none (is_value word) one (named name word) e

pub value_never_waits : (command : Command) (name word other : List ℕ) → next_of command (Some name) word ≡ opens other → ⊥
value_never_waits command name word other e = never_waits (is_value word) (named name word) other e

-- ---- from what stands there to what a word makes

if_true : (b : Bool) (x y : Next) → b ≡ true → (if b then x else y) ≡ x
if_true true x y e = refl
if_true false x y e = absurd cc

if_false : (b : Bool) (x y : Next) → b ≡ false → (if b then x else y) ≡ y
if_false true x y e = absurd cc
if_false false x y e = refl

pub name_opens : (command : Command) (name : List ℕ) → IsTrue (is_option command name) → next_of command None name ≡ opens name
name_opens command name is = if_true (is_option command name) (opens name) (whole_word command name) is

pub value_gives : (command : Command) (name value : List ℕ) → IsTrue (is_value value) → next_of command (Some name) value ≡ gives (named name value)
value_gives command name value is = if_true (is_value value) (gives (named name value)) refuses is

pub is_text : (xs ys : List ℕ) → bytes_eq xs ys ≡ true → xs ≡ ys
is_text xs ys e = (bytes_eq-Decides xs ys).0 e

-- the names of options
pub IsName : List ℕ → Type 0
IsName name = (name ≡ codes "--table") ⊎ ((name ≡ codes "--listen") ⊎ ((name ≡ codes "--workers") ⊎ (name ≡ codes "--connections")))

pub or_cases : (a b : Bool) → (a || b) ≡ true → (a ≡ true) ⊎ (b ≡ true)
or_cases true b e = inl refl
or_cases false b e = inr e

pub is_name : (command : Command) (name : List ℕ) → IsTrue (is_option command name) → IsName name
unfolding IsName
is_name command.Body name e = inl (is_text name (codes "--table") e)
is_name command.Pipe name e = inl (is_text name (codes "--table") e)
is_name command.Drill name e = absurd cc
is_name command.Serve name e = elim (or_cases _ _ e) [
  | inr last ↦ inr (inr (inr (is_text name (codes "--connections") last)))
  | inl three ↦ elim (or_cases _ _ three) [
    | inr third ↦ inr (inr (inl (is_text name (codes "--workers") third)))
    | inl two ↦ elim (or_cases _ _ two) [
      | inr second ↦ inr (inl (is_text name (codes "--listen") second))
      | inl first ↦ inl (is_text name (codes "--table") first)
    ]
  ]
]

-- with `=` and a value behind it, the name is cut off again, and the whole is no option's name
unfoldable pub IsCut : List ℕ → Type 0
IsCut name = (value : List ℕ) → (has_equals (name ++ 61 ∷ value) ≡ true) × (before_first is_equals (name ++ 61 ∷ value) ≡ name)
    × (after_first is_equals (name ++ 61 ∷ value) ≡ value) × ((command : Command) → is_option command (name ++ 61 ∷ value) ≡ false)

table_is_cut : IsCut (codes "--table")
unfolding IsCut
table_is_cut value = (lt-ltb 7 (length (codes "--table" ++ 61 ∷ value)) (omega arith), refl, refl, none)
  where
    none : (command : Command) → is_option command (codes "--table" ++ 61 ∷ value) ≡ false
    none command.Body = refl
    none command.Pipe = refl
    none command.Serve = refl
    none command.Drill = refl

listen_is_cut : IsCut (codes "--listen")
unfolding IsCut
listen_is_cut value = (lt-ltb 8 (length (codes "--listen" ++ 61 ∷ value)) (omega arith), refl, refl, none)
  where
    none : (command : Command) → is_option command (codes "--listen" ++ 61 ∷ value) ≡ false
    none command.Body = refl
    none command.Pipe = refl
    none command.Serve = refl
    none command.Drill = refl

workers_is_cut : IsCut (codes "--workers")
unfolding IsCut
workers_is_cut value = (lt-ltb 9 (length (codes "--workers" ++ 61 ∷ value)) (omega arith), refl, refl, none)
  where
    none : (command : Command) → is_option command (codes "--workers" ++ 61 ∷ value) ≡ false
    none command.Body = refl
    none command.Pipe = refl
    none command.Serve = refl
    none command.Drill = refl

connections_is_cut : IsCut (codes "--connections")
unfolding IsCut
connections_is_cut value = (lt-ltb 13 (length (codes "--connections" ++ 61 ∷ value)) (omega arith), refl, refl, none)
  where
    none : (command : Command) → is_option command (codes "--connections" ++ 61 ∷ value) ≡ false
    none command.Body = refl
    none command.Pipe = refl
    none command.Serve = refl
    none command.Drill = refl

pub name_is_cut : (name : List ℕ) → IsName name → IsCut name
unfolding IsName
name_is_cut name (inl e) = subst IsCut (sym e) table_is_cut
name_is_cut name (inr (inl e)) = subst IsCut (sym e) listen_is_cut
name_is_cut name (inr (inr (inl e))) = subst IsCut (sym e) workers_is_cut
name_is_cut name (inr (inr (inr e))) = subst IsCut (sym e) connections_is_cut

both : (a b : Bool) → a ≡ true → b ≡ true → (a && b) ≡ true
both true b e f = f
both false b e f = absurd cc

valued : (name value : List ℕ) → IsTrue (not (is_empty value)) → with_value name value ≡ gives (named name value)
valued name [] full = absurd cc
valued name (first ∷ others) full = refl

whole_cut : (command : Command) (name value : List ℕ) → IsCut name → IsTrue (is_option command name) → whole_word command (name ++ 61 ∷ value) ≡ with_value name value
unfolding IsCut
whole_cut command name value is_cut is =
    let word = name ++ 61 ∷ value in
    let cut = is_cut value in
    let of : is_option command (before_first is_equals word) ≡ true = ap (is_option command) cut.1 ∙ is in
    if_true (has_equals word && is_option command (before_first is_equals word)) (with_value (before_first is_equals word) (after_first is_equals word)) _ (both (has_equals word) _ cut.0 of)
    ∙ ap (λ (n : List ℕ). with_value n (after_first is_equals word)) cut.1 ∙ ap (with_value name) cut.2

no_option : (command : Command) (name value : List ℕ) → IsCut name → is_option command (name ++ 61 ∷ value) ≡ false
unfolding IsCut
no_option command name value is_cut = (is_cut value).3 command

-- `--name=value` gives the option with its value
pub joined_gives : (command : Command) (name value : List ℕ) → IsTrue (is_option command name) → IsTrue (not (is_empty value))
    → next_of command None (name ++ 61 ∷ value) ≡ gives (named name value)
joined_gives command name value is full =
    let is_cut = name_is_cut name (is_name command name is) in
    if_false (is_option command (name ++ 61 ∷ value)) (opens (name ++ 61 ∷ value)) (whole_word command (name ++ 61 ∷ value)) (no_option command name value is_cut)
    ∙ whole_cut command name value is_cut is ∙ valued name value full

-- a command with bare words has no options
no_bare_names : (command : Command) (name : List ℕ) → IsTrue (takes_bare_words command) → is_option command name ≡ false
no_bare_names command.Body name e = absurd cc
no_bare_names command.Pipe name e = absurd cc
no_bare_names command.Serve name e = absurd cc
no_bare_names command.Drill name e = refl

chosen_second : (a b c : Bool) (x y : Next) → b ≡ false → c ≡ true → (if (a && b) then x else (if c then y else refuses)) ≡ y
chosen_second true true c x y nb yc = absurd cc
chosen_second true false true x y nb yc = refl
chosen_second true false false x y nb yc = absurd cc
chosen_second false b true x y nb yc = refl
chosen_second false b false x y nb yc = absurd cc

-- a bare word gives itself
pub bare_gives : (command : Command) (word : List ℕ) → IsTrue (takes_bare_words command) → IsTrue (is_value word) → next_of command None word ≡ gives (bare word)
bare_gives command word takes is =
    if_false (is_option command word) (opens word) (whole_word command word) (no_bare_names command word takes)
    ∙ chosen_second (has_equals word) (is_option command (before_first is_equals word)) (takes_bare_words command && is_value word)
    (with_value (before_first is_equals word) (after_first is_equals word)) (gives (bare word)) (no_bare_names command (before_first is_equals word) takes) (both (takes_bare_words command) (is_value word) takes is)
