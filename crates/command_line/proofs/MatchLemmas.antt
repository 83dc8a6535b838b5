-- From what the kit's parser answers to what the words give.
use Rattle.std.proofs.Common.{◌≡◌, ◌∙◌, inl, inr, ⊎_elim, Bool, true, false, not, true≢false, List, [], ◌∷◌, ◌++◌, map, Option, refl, sym, ap, subst, arith, IsTrue}
use Rattle.std.specs.Prelude.{String, string_bytes, ◌&&◌, ◌||◌, ◌==◌, length}
use Rattle.std.specs.List.{after_first, before_first, list_all}
use Rattle.std.specs.Option.{unwrap_or}
use Rattle.std.proofs.lemmas.Bool.Decides.{Decides-eqb}
use Rattle.std.specs.declared.alloc.Global.{Global}
use Rattle.clap.specs.Words.{App, HasKind, HasMatchesOf, IsAmong, Text, app_of, fault_of, found_of, is_simple, is_simple_and_free, kind_of}
use Rattle.clap.specs.Simple.{matches_of}
use Rattle.clap.specs.declared.builder.command.Command.{Command as Parser}
use Rattle.clap.specs.declared.error.Error.{Error}
use Rattle.clap.specs.declared.error.kind.ErrorKind.TheVariants.{OutOfMemory}
use Rattle.clap.specs.declared.parser.matches.ArgMatches.{ArgMatches}
use Rattle.clap.proofs.WalkLemmas.{raw_values-rows}
use Rattle.command_line.specs.declared.commands.Command.{Command}
use Rattle.command_line.specs.declared.commands.Command.TheVariants as command
use Rattle.command_line.specs.Commands.{is_option}
use Rattle.command_line.specs.Given.{Given, named, bare, is_value, is_empty, IsNext, IsSpelled}
use Rattle.command_line.specs.Steps.{IsShown, app_with, has_equals, is_equals, is_joined, is_plain, rules_of, texts_in}
use Rattle.command_line.proofs.WordLemmas.{IsCut, is_name, name_is_cut}
use Rattle.command_line.proofs.KitFacts.{are_free}
use Rattle.command_line.proofs.KitLemmas.{kit_reads, texts_at}

-- ---- words that are not plain are no words of a line

or_first : (a b : Bool) → a ≡ true → (a || b) ≡ true
or_first true b e = refl
or_first false b e = absurd (true≢false (sym e))

or_second : (a b : Bool) → b ≡ true → (a || b) ≡ true
or_second true b e = refl
or_second false b e = e

both : (a b : Bool) → a ≡ true → b ≡ true → (a && b) ≡ true
both true b e f = f
both false b e f = absurd (true≢false (sym e))

value_plain : (c : Command) (word : Text) → IsTrue (is_value word) → is_plain c word ≡ true
value_plain c word is = or_second (is_option c word) _ (or_first (is_value word) _ is)

has_length : (v : Text) → IsTrue (not (is_empty v)) → not (length v == 0) ≡ true
has_length [] e = absurd (true≢false (sym e))
has_length (x ∷ v) e = go (length (x ∷ v) == 0) refl
  where
    go : (b : Bool) → (length (x ∷ v) == 0) ≡ b → not (length (x ∷ v) == 0) ≡ true
    go true zero_is = let none : length (x ∷ v) ≡ 0 = (Decides-eqb (length (x ∷ v)) 0).0 zero_is in absurd (omega arith)
    go false some_is = ap not some_is

joined_plain : (c : Command) (name value : Text) → IsTrue (is_option c name) → IsTrue (not (is_empty value)) → is_plain c (name ++ 61 ∷ value) ≡ true
unfolding IsCut
joined_plain c name value is full =
    let word = name ++ 61 ∷ value in
    let cut = name_is_cut name (is_name c name is) value in
    let of : is_option c (before_first is_equals word) ≡ true = ap (is_option c) cut.1 ∙ is in
    let holds : not (length (after_first is_equals word) == 0) ≡ true = ap (λ (v : Text). not (length v == 0)) cut.2 ∙ has_length value full in
    or_second (is_option c word) _ (or_second (is_value word) (is_joined c word) (both (has_equals word) _ cut.0 (both (is_option c (before_first is_equals word)) _ of holds)))

next_plain : (c : Command) (one : Given) (words rest : List Text) → IsNext c one words rest → list_all (is_plain c) rest ≡ true → list_all (is_plain c) words ≡ true
next_plain c (named name value) words rest (is, full, inl (e, v)) more =
    ap (list_all (is_plain c)) e ∙ both (is_plain c name) _ (or_first (is_option c name) _ is) (both (is_plain c value) _ (value_plain c value v) more)
next_plain c (named name value) words rest (is, full, inr e) more = ap (list_all (is_plain c)) e ∙ both (is_plain c (name ++ 61 ∷ value)) _ (joined_plain c name value is full) more
next_plain c (bare word) words rest (takes, is, e) more = ap (list_all (is_plain c)) e ∙ both (is_plain c word) _ (value_plain c word is) more

spelled_plain : (c : Command) (given : List Given) (words : List Text) → IsSpelled c words given → list_all (is_plain c) words ≡ true
spelled_plain c [] words e = ap (list_all (is_plain c)) e
spelled_plain c (one ∷ others) words (rest, next, more) = next_plain c one words rest next (spelled_plain c others rest more)

all_texts : (c : Command) (words : List (String Global)) → list_all (λ word. is_plain c (string_bytes word)) words ≡ list_all (is_plain c) (map string_bytes words)
all_texts c [] = refl
all_texts c (word ∷ words) = ap (λ (b : Bool). is_plain c (string_bytes word) && b) (all_texts c words)

pub not_plain : (c : Command) (words : List (String Global)) (b : Bool) → b ≡ list_all (λ word. is_plain c (string_bytes word)) words → b ≡ false
    → (values : Text → List Text) → IsShown c (map string_bytes words) values → ⊥
not_plain c words b is fails values shown =
    true≢false (sym (spelled_plain c shown.0 (map string_bytes words) shown.1) ∙ sym (all_texts c words) ∙ sym is ∙ fails)

pub are_plain : (c : Command) (words : List (String Global)) (b : Bool) → b ≡ list_all (λ word. is_plain c (string_bytes word)) words → b ≡ true → list_all (is_plain c) (map string_bytes words) ≡ true
are_plain c words b is holds = sym (all_texts c words) ∙ sym is ∙ holds

-- ---- what the kit answers

simple : (c : Command) → is_simple (app_with (rules_of c)) ≡ true
simple command.Body = refl
simple command.Pipe = refl
simple command.Serve = refl
simple command.Drill = refl

pub found : (c : Command) (words : List Text) (parser : Parser) (m : ArgMatches) → list_all (is_plain c) words ≡ true → app_of parser ≡ app_with (rules_of c)
    → (is_simple_and_free (app_of parser) ≡ true → fault_of (app_of parser) words ≡ []) → HasMatchesOf (app_of parser) words m → IsShown c words (texts_in m)
unfolding texts_at
found c words parser m plain is kinds matches =
    let none : fault_of (app_with (rules_of c)) words ≡ [] = subst (λ (a : App). is_simple_and_free a ≡ true → fault_of a words ≡ []) is kinds (are_free c) in
    subst (IsShown c words) (λ i id. same id i) ((kit_reads c words plain).found none)
  where
    same : (id : Text) → texts_at (matches_of (app_with (rules_of c)) words) id ≡ texts_in m id
    same id =
        let has : HasMatchesOf (app_with (rules_of c)) words m = subst (λ (a : App). HasMatchesOf a words m) is matches in
        ap (λ r. texts_at r id) (sym (has (simple c)).0) ∙ ap (λ (o : Option (List Text)). unwrap_or o []) (sym (raw_values-rows (found_of m) id))

pub not_found : (c : Command) (words : List Text) (parser : Parser) (e : Error) → list_all (is_plain c) words ≡ true → app_of parser ≡ app_with (rules_of c)
    → (is_simple_and_free (app_of parser) ≡ true → HasKind (fault_of (app_of parser) words) e) → (kind_of e ≡ OutOfMemory → ⊥) → (values : Text → List Text) → IsShown c words values → ⊥
not_found c words parser e plain is kinds other values shown =
    let has : HasKind (fault_of (app_with (rules_of c)) words) e = subst (λ (a : App). is_simple_and_free a ≡ true → HasKind (fault_of a words) e) is kinds (are_free c) in
    let taken : fault_of (app_with (rules_of c)) words ≡ [] = (kit_reads c words plain).taken shown.0 shown.1 in
    ⊎_elim other (λ among. subst (IsAmong (kind_of e)) taken among) has
