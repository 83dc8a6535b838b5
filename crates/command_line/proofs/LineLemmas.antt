-- From what was given, and from the words, to a command line.
use Rattle.std.proofs.Common.{◌≡◌, ◌⊎◌, inl, inr, ℕ, Bool, true, false, List, [], ◌∷◌, map, Option, Some, None, Result, Ok, Err, refl, sym, ap, subst, ◌∙◌}
use Rattle.std.specs.Prelude.{String, codes, string_bytes, if◌then◌else◌}
use Rattle.std.specs.Str.{bytes_eq}
use Rattle.std.specs.declared.alloc.Global.{Global}
use Rattle.std.proofs.lemmas.Slice.Eq.{bytes_eq-Decides}
use Rattle.table_spec.specs.declared.spec.TableSpec.{TableSpec}
use Rattle.table_spec.specs.Spec.{IsSpec}
use Rattle.command_line.specs.declared.commands.Command.{Command}
use Rattle.command_line.specs.declared.commands.Command.TheVariants as command
use Rattle.command_line.specs.declared.line.CommandLine.{CommandLine}
use Rattle.command_line.specs.declared.line.CommandLine.TheVariants as line
use Rattle.command_line.specs.declared.line.LineFault.{LineFault}
use Rattle.command_line.specs.declared.line.LineFault.TheVariants as fault
use Rattle.command_line.specs.Commands.{word_of, command_named}
use Rattle.command_line.specs.Given.{Given, IsSpelled, bare, named as valued, values_of}
use Rattle.command_line.specs.Line.{command_of, HasNumber, HasTables, HasBareNumber, Takes, TakesAs, IsBehind, IsLine, HasTable}
use Rattle.command_line.specs.Numbers.{number_of}
use Rattle.command_line.specs.Reads.{Reads}
use Rattle.command_line.specs.Steps.{IsOneAddress, IsOneNumber, IsOneTable, IsShown, Shows, TakesValuesAs, texts_in}
use Rattle.command_line.specs.Tables.{AreTables}
use Rattle.clap.specs.declared.parser.matches.ArgMatches.{ArgMatches}
use Rattle.command_line.proofs.AnswerLemmas.{passed_on}
use Rattle.command_line.proofs.GivenLemmas.{one_spelling}
use Rattle.command_line.proofs.TableLemmas.{one_spec, same_specs}

-- ---- what a line of each command takes

pub record ServeParts (values : List ℕ → List (List ℕ)) : Type 0 where
  pub listen : (text : List ℕ) × IsOneAddress (values (codes "listen")) text
  pub workers : (n : ℕ) × IsOneNumber 32 (values (codes "workers")) n
  pub connections : (n : ℕ) × IsOneNumber 65536 (values (codes "connections")) n
  pub tables : (tables : List TableSpec) × AreTables (values (codes "table")) tables

pub serve_parts : (values : List ℕ → List (List ℕ)) (l : CommandLine) → TakesValuesAs command.Serve values l → ServeParts values
serve_parts values (line.Body table) h = let e : command.Body ≡ command.Serve = h.0 in absurd cc
serve_parts values (line.Pipe tables) h = let e : command.Pipe ≡ command.Serve = h.0 in absurd cc
serve_parts values (line.Serve listen workers connections tables) h =
    record { listen = (listen, h.1.0); workers = (workers, h.1.1); connections = (connections, h.1.2); tables = (tables, h.1.3) }
serve_parts values (line.Drill n) h = let e : command.Drill ≡ command.Serve = h.0 in absurd cc

-- where a part can't be read, nothing is a line that has such a part
pub no_workers : (m : ArgMatches) (texts : List (List ℕ)) (e : LineFault) → texts ≡ texts_in m (codes "workers") → Reads (λ (n : ℕ). n) (IsOneNumber 32 texts) (Err e)
    → Reads (λ (l : CommandLine). l) (TakesValuesAs command.Serve (texts_in m)) (Err e)
no_workers m texts e is refused = passed_on (λ (n : ℕ). n) (IsOneNumber 32 texts) (λ (l : CommandLine). l) (TakesValuesAs command.Serve (texts_in m)) e refused
    (λ l takes. subst (λ (vs : List (List ℕ)). (n : ℕ) × IsOneNumber 32 vs n) (sym is) (serve_parts (texts_in m) l takes).workers)

pub no_connections : (m : ArgMatches) (texts : List (List ℕ)) (e : LineFault) → texts ≡ texts_in m (codes "connections") → Reads (λ (n : ℕ). n) (IsOneNumber 65536 texts) (Err e)
    → Reads (λ (l : CommandLine). l) (TakesValuesAs command.Serve (texts_in m)) (Err e)
no_connections m texts e is refused = passed_on (λ (n : ℕ). n) (IsOneNumber 65536 texts) (λ (l : CommandLine). l) (TakesValuesAs command.Serve (texts_in m)) e refused
    (λ l takes. subst (λ (vs : List (List ℕ)). (n : ℕ) × IsOneNumber 65536 vs n) (sym is) (serve_parts (texts_in m) l takes).connections)

drill_part : (values : List ℕ → List (List ℕ)) (l : CommandLine) → TakesValuesAs command.Drill values l → (n : ℕ) × IsOneNumber 10000 (values (codes "n")) n
drill_part values (line.Body table) h = let e : command.Body ≡ command.Drill = h.0 in absurd cc
drill_part values (line.Pipe tables) h = let e : command.Pipe ≡ command.Drill = h.0 in absurd cc
drill_part values (line.Serve listen workers connections tables) h = let e : command.Serve ≡ command.Drill = h.0 in absurd cc
drill_part values (line.Drill n) h = (n, h.1)

pub no_drill : (m : ArgMatches) (texts : List (List ℕ)) (e : LineFault) → texts ≡ texts_in m (codes "n") → Reads (λ (n : ℕ). n) (IsOneNumber 10000 texts) (Err e)
    → Reads (λ (l : CommandLine). l) (TakesValuesAs command.Drill (texts_in m)) (Err e)
no_drill m texts e is refused = passed_on (λ (n : ℕ). n) (IsOneNumber 10000 texts) (λ (l : CommandLine). l) (TakesValuesAs command.Drill (texts_in m)) e refused
    (λ l takes. subst (λ (vs : List (List ℕ)). (n : ℕ) × IsOneNumber 10000 vs n) (sym is) (drill_part (texts_in m) l takes))

-- ---- from the values found to the words

table_of : (given : List Given) (table : Option TableSpec) → IsOneTable (values_of (codes "--table") given) table → HasTable given table
table_of given None h = h
table_of given (Some table) h = h

of_table : (given : List Given) (table : Option TableSpec) → HasTable given table → IsOneTable (values_of (codes "--table") given) table
of_table given None h = h
of_table given (Some table) h = h

bare_list : (texts : List (List ℕ)) (text : List ℕ) → map bare texts ≡ bare text ∷ [] → texts ≡ text ∷ []
bare_list [] text e = absurd cc
bare_list (x ∷ []) text e = let same : x ≡ text = cc in ap (λ (t : List ℕ). t ∷ []) same
bare_list (x ∷ y ∷ texts) text e = absurd cc

-- what the values are, the things given are
given_takes : (c : Command) (given : List Given) (values : List ℕ → List (List ℕ)) (l : CommandLine) → Shows c given values → TakesValuesAs c values l → TakesAs c given l
given_takes c given values (line.Body table) shows (is, takes) = go c shows is
  where
    go : (c : Command) → Shows c given values → command.Body ≡ c → TakesAs c given (line.Body table)
    go command.Body s e = (e, table_of given table (subst (λ (vs : List (List ℕ)). IsOneTable vs table) (s (codes "table")) takes))
    go command.Pipe s e = absurd cc
    go command.Serve s e = absurd cc
    go command.Drill s e = absurd cc
given_takes c given values (line.Pipe tables) shows (is, takes) = go c shows is
  where
    go : (c : Command) → Shows c given values → command.Pipe ≡ c → TakesAs c given (line.Pipe tables)
    go command.Body s e = absurd cc
    go command.Pipe s e = (e, subst (λ (vs : List (List ℕ)). AreTables vs tables) (s (codes "table")) takes)
    go command.Serve s e = absurd cc
    go command.Drill s e = absurd cc
given_takes c given values (line.Serve listen workers connections tables) shows (is, takes) = go c shows is
  where
    go : (c : Command) → Shows c given values → command.Serve ≡ c → TakesAs c given (line.Serve listen workers connections tables)
    go command.Body s e = absurd cc
    go command.Pipe s e = absurd cc
    go command.Serve s e = (
      e,
      (
        subst (λ (vs : List (List ℕ)). IsOneAddress vs listen) (s (codes "listen")) takes.0,
        subst (λ (vs : List (List ℕ)). IsOneNumber 32 vs workers) (s (codes "workers")) takes.1,
        subst (λ (vs : List (List ℕ)). IsOneNumber 65536 vs connections) (s (codes "connections")) takes.2,
        subst (λ (vs : List (List ℕ)). AreTables vs tables) (s (codes "table")) takes.3,
      ),
    )
    go command.Drill s e = absurd cc
given_takes c given values (line.Drill n) shows (is, takes) = go c shows is
  where
    go : (c : Command) → Shows c given values → command.Drill ≡ c → TakesAs c given (line.Drill n)
    go command.Body s e = absurd cc
    go command.Pipe s e = absurd cc
    go command.Serve s e = absurd cc
    go command.Drill s e = (e, (takes.0, s ∙ ap (map bare) takes.1, takes.2))

values_take : (c : Command) (given : List Given) (values : List ℕ → List (List ℕ)) (l : CommandLine) → Shows c given values → TakesAs c given l → TakesValuesAs c values l
values_take c given values (line.Body table) shows (is, takes) = go c shows is
  where
    go : (c : Command) → Shows c given values → command.Body ≡ c → TakesValuesAs c values (line.Body table)
    go command.Body s e = (e, subst (λ (vs : List (List ℕ)). IsOneTable vs table) (sym (s (codes "table"))) (of_table given table takes))
    go command.Pipe s e = absurd cc
    go command.Serve s e = absurd cc
    go command.Drill s e = absurd cc
values_take c given values (line.Pipe tables) shows (is, takes) = go c shows is
  where
    go : (c : Command) → Shows c given values → command.Pipe ≡ c → TakesValuesAs c values (line.Pipe tables)
    go command.Body s e = absurd cc
    go command.Pipe s e = (e, subst (λ (vs : List (List ℕ)). AreTables vs tables) (sym (s (codes "table"))) takes)
    go command.Serve s e = absurd cc
    go command.Drill s e = absurd cc
values_take c given values (line.Serve listen workers connections tables) shows (is, takes) = go c shows is
  where
    go : (c : Command) → Shows c given values → command.Serve ≡ c → TakesValuesAs c values (line.Serve listen workers connections tables)
    go command.Body s e = absurd cc
    go command.Pipe s e = absurd cc
    go command.Serve s e = (
      e,
      (
        subst (λ (vs : List (List ℕ)). IsOneAddress vs listen) (sym (s (codes "listen"))) takes.0,
        subst (λ (vs : List (List ℕ)). IsOneNumber 32 vs workers) (sym (s (codes "workers"))) takes.1,
        subst (λ (vs : List (List ℕ)). IsOneNumber 65536 vs connections) (sym (s (codes "connections"))) takes.2,
        subst (λ (vs : List (List ℕ)). AreTables vs tables) (sym (s (codes "table"))) takes.3,
      ),
    )
    go command.Drill s e = absurd cc
values_take c given values (line.Drill n) shows (is, takes) = go c shows is
  where
    go : (c : Command) → Shows c given values → command.Drill ≡ c → TakesValuesAs c values (line.Drill n)
    go command.Body s e = absurd cc
    go command.Pipe s e = absurd cc
    go command.Serve s e = absurd cc
    go command.Drill s e = (e, (takes.0, bare_list (values (codes "n")) takes.0 (sym s ∙ takes.1), takes.2))

pub behind : (command : Command) (words : List (List ℕ)) (values : List ℕ → List (List ℕ)) (r : Result CommandLine LineFault) → IsShown command words values
    → Reads (λ l. l) (TakesValuesAs command values) r → Reads (λ l. l) (IsBehind command words) r
behind command words values (Ok l) is takes = (is.0, is.1, given_takes command is.0 values l is.2 takes)
behind command words values (Err fault.Memory) is none = tt
behind command words values (Err fault.Usage) is none =
    λ l h. none l (values_take command is.0 values l is.2 (subst (λ (g : List Given). TakesAs command g l) (one_spelling command words h.0 is.0 h.1 is.1) h.2))

drill_given : (words : List (List ℕ)) (given : List Given) → IsSpelled command.Drill words given → given ≡ map bare words
drill_given words [] e = sym (ap (map bare) e)
drill_given words (valued name value ∷ others) (rest, (option, full, spelled), more) = absurd cc
drill_given words (bare word ∷ others) (rest, (takes, is, e), more) = ap (λ (gs : List Given). bare word ∷ gs) (drill_given rest others more) ∙ sym (ap (map bare) e)

-- the values of what is given
shown : (c : Command) (words : List (List ℕ)) (given : List Given) → IsSpelled c words given → (values : List ℕ → List (List ℕ)) × Shows c given values
shown command.Body words given is = (λ id. values_of (45 ∷ 45 ∷ id) given, λ id. refl)
shown command.Pipe words given is = (λ id. values_of (45 ∷ 45 ∷ id) given, λ id. refl)
shown command.Serve words given is = (λ id. values_of (45 ∷ 45 ∷ id) given, λ id. refl)
shown command.Drill words given is = (λ id. words, drill_given words given is)

-- words of which no values are found are no line
pub no_line : (command : Command) (words : List (List ℕ)) (e : LineFault) → Reads texts_in (IsShown command words) (Err e) → Reads (λ (l : CommandLine). l) (IsBehind command words) (Err e)
no_line command words fault.Memory none = tt
no_line command words fault.Usage none = λ l h. let values = shown command words h.0 h.1 in none values.0 (h.0, h.1, values.1)

-- ---- the word of the command

is_text : (xs ys : List ℕ) → bytes_eq xs ys ≡ true → xs ≡ ys
is_text xs ys e = (bytes_eq-Decides xs ys).0 e

some_is : {A : Type 0} (x y : A) → Some x ≡ Some y → x ≡ y
some_is x y e = cc

first_or : (b : Bool) (first other : Command) (o : Option Command) → (if b then Some first else o) ≡ Some other → ((b ≡ true) × (first ≡ other)) ⊎ (o ≡ Some other)
first_or true first other o e = inl (refl, some_is first other e)
first_or false first other o e = inr e

never : (c : Command) → None ≡ Some c → ⊥
never c e = absurd cc

named_word : (word : List ℕ) (c : Command) → command_named word ≡ Some c → word ≡ word_of c
named_word word c e = elim (first_or (bytes_eq word (codes "body")) command.Body c _ e) [
  | inl h ↦ is_text word (codes "body") h.0 ∙ ap word_of h.1
  | inr e2 ↦ elim (first_or (bytes_eq word (codes "pipe")) command.Pipe c _ e2) [
    | inl h ↦ is_text word (codes "pipe") h.0 ∙ ap word_of h.1
    | inr e3 ↦ elim (first_or (bytes_eq word (codes "serve")) command.Serve c _ e3) [
      | inl h ↦ is_text word (codes "serve") h.0 ∙ ap word_of h.1
      | inr e4 ↦ elim (first_or (bytes_eq word (codes "drill")) command.Drill c None e4) [
        | inl h ↦ is_text word (codes "drill") h.0 ∙ ap word_of h.1
        | inr e5 ↦ absurd (never c e5)
      ]
    ]
  ]
]

word_named : (c : Command) → command_named (word_of c) ≡ Some c
word_named command.Body = refl
word_named command.Pipe = refl
word_named command.Serve = refl
word_named command.Drill = refl

heads : (x y : List ℕ) (xs ys : List (List ℕ)) → (x ∷ xs) ≡ (y ∷ ys) → x ≡ y
heads x y xs ys e = cc

tails : (x y : List ℕ) (xs ys : List (List ℕ)) → (x ∷ xs) ≡ (y ∷ ys) → xs ≡ ys
tails x y xs ys e = cc

line_named : (word : List ℕ) (words : List (List ℕ)) (l : CommandLine) → IsLine (word ∷ words) l → command_named word ≡ Some (command_of l)
line_named word words l is = ap command_named (heads _ _ _ _ is.1) ∙ word_named (command_of l)

line_read : (c : Command) (word : List ℕ) (words : List (List ℕ)) (r : Result CommandLine LineFault) → command_named word ≡ Some c
    → Reads (λ l. l) (IsBehind c words) r → Reads (λ l. l) (IsLine (word ∷ words)) r
line_read c word words (Ok l) named h =
    (words, ap (λ (w : List ℕ). w ∷ words) (named_word word c named ∙ ap word_of (sym h.2.0)), subst (λ (d : Command). IsBehind d words l) (sym h.2.0) h)
line_read c word words (Err fault.Memory) named none = tt
line_read c word words (Err fault.Usage) named none =
    λ l is. none l (subst (λ (ws : List (List ℕ)). IsBehind c ws l) (sym (tails _ _ _ _ is.1))
    (subst (λ (d : Command). IsBehind d is.0 l) (some_is (command_of l) c (sym (line_named word words l is) ∙ named)) is.2))

pub words_read : (words behind : List (String Global)) (first : String Global) (text : List ℕ) (c : Command) (r : Result CommandLine LineFault) → words ≡ first ∷ behind
    → text ≡ string_bytes first → Some c ≡ command_named text → Reads (λ l. l) (IsBehind c (map string_bytes behind)) r → Reads (λ l. l) (IsLine (map string_bytes words)) r
words_read words behind first text c r e is named h =
    subst (λ (ws : List (List ℕ)). Reads (λ l. l) (IsLine ws) r) (sym (ap (map string_bytes) e))
    (line_read c (string_bytes first) (map string_bytes behind) r (ap command_named (sym is) ∙ sym named) h)

-- ---- words are one line

only_is : (x y : List ℕ) (values : List (List ℕ)) → values ≡ x ∷ [] → values ≡ y ∷ [] → x ≡ y
only_is x y values e f = heads x y [] [] (sym e ∙ f)

not_both : (x : List ℕ) (values : List (List ℕ)) → values ≡ [] → values ≡ x ∷ [] → ⊥
not_both x values e f = let g : [] ≡ x ∷ [] = sym e ∙ f in absurd cc

same_number : (name : List ℕ) (most : ℕ) (given : List Given) (a b : ℕ) → HasNumber name most given a → HasNumber name most given b → a ≡ b
same_number name most given a b has_a has_b =
    some_is a b (sym has_a.2 ∙ ap (number_of 1 most) (only_is has_a.0 has_b.0 (values_of name given) has_a.1 has_b.1) ∙ has_b.2)

same_table : (given : List Given) (a b : Option TableSpec) → HasTable given a → HasTable given b → a ≡ b
same_table given None None has_a has_b = refl
same_table given None (Some b) has_a has_b = absurd (not_both has_b.0 (values_of (codes "--table") given) has_a has_b.1)
same_table given (Some a) None has_a has_b = absurd (not_both has_a.0 (values_of (codes "--table") given) has_b has_a.1)
same_table given (Some a) (Some b) has_a has_b =
    let same = only_is has_a.0 has_b.0 (values_of (codes "--table") given) has_a.1 has_b.1 in
    ap (λ (t : TableSpec). Some t) (one_spec has_b.0 a b (subst (λ (text : List ℕ). IsSpec text a) same has_a.2) has_b.2)

bare_is : (x y : List ℕ) → (bare x ∷ []) ≡ (bare y ∷ []) → x ≡ y
bare_is x y e = cc

same_bare : (given : List Given) (a b : ℕ) → HasBareNumber given a → HasBareNumber given b → a ≡ b
same_bare given a b has_a has_b =
    some_is a b (sym has_a.2 ∙ ap (number_of 1 10000) (bare_is has_a.0 has_b.0 (sym has_a.1 ∙ has_b.1)) ∙ has_b.2)

same_tables : (given : List Given) (a b : List TableSpec) → HasTables given a → HasTables given b → a ≡ b
same_tables given a b has_a has_b = same_specs (values_of (codes "--table") given) a b has_a.specs has_b.specs

same_serve : (l1 l2 : List ℕ) (w1 w2 c1 c2 : ℕ) (t1 t2 : List TableSpec) → l1 ≡ l2 → w1 ≡ w2 → c1 ≡ c2 → t1 ≡ t2 → line.Serve l1 w1 c1 t1 ≡ line.Serve l2 w2 c2 t2
same_serve l1 l2 w1 w2 c1 c2 t1 t2 el ew ec et = cc

same_line : (given : List Given) (a b : CommandLine) → command_of a ≡ command_of b → Takes given a → Takes given b → a ≡ b
same_line given (line.Body a) (line.Body b) e takes_a takes_b = ap (λ (t : Option TableSpec). line.Body t) (same_table given a b takes_a takes_b)
same_line given (line.Body a) (line.Pipe b) e takes_a takes_b = let f : command.Body ≡ command.Pipe = e in absurd cc
same_line given (line.Body a) (line.Serve l w c t) e takes_a takes_b = let f : command.Body ≡ command.Serve = e in absurd cc
same_line given (line.Body a) (line.Drill n) e takes_a takes_b = let f : command.Body ≡ command.Drill = e in absurd cc
same_line given (line.Pipe a) (line.Body b) e takes_a takes_b = let f : command.Pipe ≡ command.Body = e in absurd cc
same_line given (line.Pipe a) (line.Pipe b) e takes_a takes_b = ap (λ (t : List TableSpec). line.Pipe t) (same_tables given a b takes_a takes_b)
same_line given (line.Pipe a) (line.Serve l w c t) e takes_a takes_b = let f : command.Pipe ≡ command.Serve = e in absurd cc
same_line given (line.Pipe a) (line.Drill n) e takes_a takes_b = let f : command.Pipe ≡ command.Drill = e in absurd cc
same_line given (line.Serve l w c t) (line.Body b) e takes_a takes_b = let f : command.Serve ≡ command.Body = e in absurd cc
same_line given (line.Serve l w c t) (line.Pipe b) e takes_a takes_b = let f : command.Serve ≡ command.Pipe = e in absurd cc
same_line given (line.Serve l1 w1 c1 t1) (line.Serve l2 w2 c2 t2) e takes_a takes_b =
    same_serve l1 l2 w1 w2 c1 c2 t1 t2 (only_is l1 l2 (values_of (codes "--listen") given) takes_a.0.0 takes_b.0.0)
    (same_number (codes "--workers") 32 given w1 w2 takes_a.1 takes_b.1)
    (same_number (codes "--connections") 65536 given c1 c2 takes_a.2 takes_b.2) (same_tables given t1 t2 takes_a.3 takes_b.3)
same_line given (line.Serve l w c t) (line.Drill n) e takes_a takes_b = let f : command.Serve ≡ command.Drill = e in absurd cc
same_line given (line.Drill a) (line.Body b) e takes_a takes_b = let f : command.Drill ≡ command.Body = e in absurd cc
same_line given (line.Drill a) (line.Pipe b) e takes_a takes_b = let f : command.Drill ≡ command.Pipe = e in absurd cc
same_line given (line.Drill a) (line.Serve l w c t) e takes_a takes_b = let f : command.Drill ≡ command.Serve = e in absurd cc
same_line given (line.Drill a) (line.Drill b) e takes_a takes_b = ap (λ (n : ℕ). line.Drill n) (same_bare given a b takes_a takes_b)

same_behind : (words : List (List ℕ)) (a b : CommandLine) → command_of a ≡ command_of b → IsBehind (command_of a) words a → IsBehind (command_of b) words b → a ≡ b
same_behind words a b e behind_a behind_b =
    let spelled : IsSpelled (command_of b) words behind_a.0 = subst (λ (c : Command). IsSpelled c words behind_a.0) e behind_a.1 in
    let given = one_spelling (command_of b) words behind_a.0 behind_b.0 spelled behind_b.1 in
    same_line behind_b.0 a b e (subst (λ (g : List Given). Takes g a) given behind_a.2.1) behind_b.2.1

-- words are at most one line
pub one_line : (words : List (List ℕ)) (a b : CommandLine) → IsLine words a → IsLine words b → a ≡ b
one_line words a b is_a is_b =
    let both : (word_of (command_of a) ∷ is_a.0) ≡ (word_of (command_of b) ∷ is_b.0) = sym is_a.1 ∙ is_b.1 in
    let command_is : command_of a ≡ command_of b =
    some_is (command_of a) (command_of b) (sym (word_named (command_of a)) ∙ ap command_named (heads _ _ _ _ both) ∙ word_named (command_of b)) in
    same_behind is_b.0 a b command_is (subst (λ (ws : List (List ℕ)). IsBehind (command_of a) ws a) (tails _ _ _ _ both) is_a.2) is_b.2
