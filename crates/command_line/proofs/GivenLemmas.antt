-- The words behind a command, read one after another.
use Rattle.std.proofs.Common.{◌≡◌, inl, inr, ℕ, List, [], ◌∷◌, ◌++◌, Option, Some, None, refl, sym, ap, subst, ◌∙◌, IsTrue}
use Rattle.std.specs.Prelude.{not, option_map}
use Rattle.command_line.specs.declared.commands.Command.{Command}
use Rattle.command_line.specs.Commands.{is_option}
use Rattle.command_line.specs.Given.{Given, named, bare, is_value, is_empty, IsNext, IsSpelled}
use Rattle.command_line.proofs.WordSteps.{Next, opens, gives, refuses, next_of}
use Rattle.command_line.proofs.WordLemmas.{opened_by, given_by, value_by, value_never_waits, name_opens, value_gives, joined_gives, bare_gives}

abbrev pub with_given : Given → Option (List Given) → Option (List Given)
with_given one others = option_map (λ more. one ∷ more) others

abbrev pub after : Next → (Option (List ℕ) → Option (List Given)) → Option (List Given)
after (opens name) rest = rest (Some name)
after (gives one) rest = with_given one (rest None)
after refuses rest = None

-- an option's name that no value follows is not whole
abbrev pub ended : Option (List ℕ) → Option (List Given)
ended None = Some []
ended (Some name) = None

-- what the words give, behind an option that waits for its value, or behind none
abbrev pub given_from : Command → Option (List ℕ) → List (List ℕ) → Option (List Given)
given_from command waiting [] = ended waiting
given_from command waiting (word ∷ words) = after (next_of command waiting word) (λ w. given_from command w words)

some_is : {A : Type 0} (x y : A) → Some x ≡ Some y → x ≡ y
some_is x y e = cc

-- ---- what is given is spelled so

Behind : Command → Option (List ℕ) → List (List ℕ) → List Given → Type 0
Behind command None words given = IsSpelled command words given
Behind command (Some name) words given = IsTrue (is_option command name) → IsSpelled command (name ∷ words) given

ends : (command : Command) (waiting : Option (List ℕ)) (given : List Given) → ended waiting ≡ Some given → Behind command waiting [] given
unfolding Behind
ends command None given e = subst (IsSpelled command []) (some_is [] given e) refl
ends command (Some name) given e = absurd cc

pub goes_on : (one : Given) (others : Option (List Given)) (given : List Given) → with_given one others ≡ Some given → (more : List Given) × (others ≡ Some more) × (given ≡ one ∷ more)
goes_on one None given e = absurd cc
goes_on one (Some more) given e = (more, refl, sym (some_is (one ∷ more) given e))

step : (command : Command) (waiting : Option (List ℕ)) (word : List ℕ) (words : List (List ℕ)) (given : List Given) (next : Next) → next_of command waiting word ≡ next
    → ((w : Option (List ℕ)) (g : List Given) → given_from command w words ≡ Some g → Behind command w words g)
    → after next (λ w. given_from command w words) ≡ Some given → Behind command waiting (word ∷ words) given
unfolding Behind
step command None word words given (opens name) is rest e =
    let opened = opened_by command word name is in
    subst (λ (n : List ℕ). IsSpelled command (n ∷ words) given) (sym opened.1) (rest (Some name) given e (subst (λ (n : List ℕ). IsTrue (is_option command n)) opened.1 opened.0))
step command None word words given (gives one) is rest e =
    let on = goes_on one (given_from command None words) given e in
    subst (IsSpelled command (word ∷ words)) (sym on.2) (words, given_by command word one words is, rest None on.0 on.1)
step command None word words given refuses is rest e = absurd cc
step command (Some name) word words given (opens other) is rest e = absurd (value_never_waits command name word other is)
step command (Some name) word words given (gives one) is rest e =
    let on = goes_on one (given_from command None words) given e in
    let valued = value_by command name word one is in
    λ option. subst (IsSpelled command (name ∷ word ∷ words)) (sym on.2)
    (words, subst (λ (g : Given). IsNext command g (name ∷ word ∷ words) words) valued.1 (option, full word valued.0, inl (refl, valued.0)), rest None on.0 on.1)
  where
    full : (text : List ℕ) → IsTrue (is_value text) → IsTrue (not (is_empty text))
    full [] f = absurd cc
    full (first ∷ others) f = refl
step command (Some name) word words given refuses is rest e = absurd cc

reads : (command : Command) (waiting : Option (List ℕ)) (words : List (List ℕ)) (given : List Given) → given_from command waiting words ≡ Some given → Behind command waiting words given
reads command waiting [] given e = ends command waiting given e
reads command waiting (word ∷ words) given e = step command waiting word words given (next_of command waiting word) refl (λ w g. reads command w words g) e

pub spelled : (command : Command) (words : List (List ℕ)) (given : List Given) → given_from command None words ≡ Some given → IsSpelled command words given
unfolding Behind
spelled command words given e = reads command None words given e

-- ---- what is spelled so is given

two_words : (command : Command) (name value : List ℕ) (rest : List (List ℕ)) (others : List Given) → IsTrue (is_option command name) → IsTrue (is_value value)
    → given_from command None rest ≡ Some others → given_from command None (name ∷ value ∷ rest) ≡ Some (named name value ∷ others)
two_words command name value rest others option is more =
    ap (λ (n : Next). after n (λ w. given_from command w (value ∷ rest))) (name_opens command name option)
    ∙ ap (λ (n : Next). after n (λ w. given_from command w rest)) (value_gives command name value is) ∙ ap (with_given (named name value)) more

one_word : (command : Command) (word : List ℕ) (one : Given) (rest : List (List ℕ)) (others : List Given) → next_of command None word ≡ gives one
    → given_from command None rest ≡ Some others → given_from command None (word ∷ rest) ≡ Some (one ∷ others)
one_word command word one rest others is more = ap (λ (n : Next). after n (λ w. given_from command w rest)) is ∙ ap (with_given one) more

first_read : (command : Command) (one : Given) (words rest : List (List ℕ)) (others : List Given) → IsNext command one words rest
    → given_from command None rest ≡ Some others → given_from command None words ≡ Some (one ∷ others)
first_read command (named name value) words rest others (option, full, inl (e, is)) more =
    ap (given_from command None) e ∙ two_words command name value rest others option is more
first_read command (named name value) words rest others (option, full, inr e) more =
    ap (given_from command None) e ∙ one_word command (name ++ 61 ∷ value) (named name value) rest others (joined_gives command name value option full) more
first_read command (bare word) words rest others (takes, is, e) more =
    ap (given_from command None) e ∙ one_word command word (bare word) rest others (bare_gives command word takes is) more

pub spelled_given : (command : Command) (given : List Given) (words : List (List ℕ)) → IsSpelled command words given → given_from command None words ≡ Some given
spelled_given command [] words e = ap (given_from command None) e
spelled_given command (one ∷ others) words (rest, next, more) = first_read command one words rest others next (spelled_given command others rest more)

-- words are spelled in one way
pub one_spelling : (command : Command) (words : List (List ℕ)) (a b : List Given) → IsSpelled command words a → IsSpelled command words b → a ≡ b
one_spelling command words a b is_a is_b = some_is a b (sym (spelled_given command a words is_a) ∙ spelled_given command b words is_b)
