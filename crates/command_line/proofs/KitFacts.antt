-- What the kit's parser makes of one word, for the arguments of the program's commands.
use Rattle.std.proofs.Common.{◌≡◌, ℕ, Bool, true, false, List, [], ◌∷◌, ◌++◌, Option, Some, None, refl}
use Rattle.std.specs.Prelude.{codes, ◌==◌}
use Rattle.clap.specs.Walk.{Held, Row, Rule, Text, Waiting, Walk, idle, option, positional, settled_rows, used, walked}
use Rattle.clap.specs.Simple.{Shape, built, filled}
use Rattle.clap.specs.Faults.{check_fault, is_simple_and_free, settle_fault, turn_fault}
use Rattle.clap.specs.Kinds.{or_else}
use Rattle.clap.specs.declared.error.kind.ErrorKind.TheVariants as kind
use Rattle.clap.proofs.OnLiterals.{clap_on_literals}
use Rattle.command_line.specs.declared.commands.Command.{Command}
use Rattle.command_line.specs.declared.commands.Command.TheVariants as command
use Rattle.command_line.specs.Steps.{app_with, bare_rule, option_rule, rules_of}

abbrev pub shape : List Rule → Shape
shape rules = (built (app_with rules)).top

-- the arguments as they are built
abbrev pub args : List Rule → List Rule
args rules = (shape rules).rules

abbrev pub Pending : Type 0
Pending = Option (Text × List Text)

abbrev pub held : List Row → Pending → Held
held rows p = record { rows = rows; pending = p; skip = 0 }

abbrev pub walk_at : List Row → Pending → Waiting → Walk
walk_at rows p waiting = record { held = held rows p; waiting = waiting; position = 1; is_trailing = false; stopped = None }

abbrev pub used_once : Rule → Text → List Row → List Row
used_once rule v rows = used (filled rule) (v ∷ []) rows

-- ---- the facts of an option

pub record IsOptionOf (rules : List Rule) (id : Text) : Type 0 where
  pub opens : (rows : List Row) (p : Pending) → walked (args rules) [] (walk_at rows p idle) (45 ∷ 45 ∷ id) ≡ walk_at (settled_rows (args rules) p rows) (Some (id, [])) (option id)
  pub opens_fault : (rows : List Row) (p : Pending) → turn_fault (shape rules) [] (walk_at rows p idle) (45 ∷ 45 ∷ id) ≡ or_else (settle_fault (args rules) false (held rows p)) []
  pub opens_again : (rows : List Row) (p : Pending) (other : Text) → turn_fault (shape rules) [] (walk_at rows p (option other)) (45 ∷ 45 ∷ id) ≡ or_else (settle_fault (args rules) false (held rows p)) []
  pub joined : (rows : List Row) (p : Pending) (v : Text) → walked (args rules) [] (walk_at rows p idle) ((45 ∷ 45 ∷ id) ++ 61 ∷ v) ≡ walk_at (used_once (option_rule id) v (settled_rows (args rules) p rows)) None idle
  pub joined_fault : (rows : List Row) (p : Pending) (v : Text) → turn_fault (shape rules) [] (walk_at rows p idle) ((45 ∷ 45 ∷ id) ++ 61 ∷ v) ≡ or_else (or_else (settle_fault (args rules) false (held rows p)) []) []
  pub joined_again : (rows : List Row) (p : Pending) (other v : Text) → turn_fault (shape rules) [] (walk_at rows p (option other)) ((45 ∷ 45 ∷ id) ++ 61 ∷ v) ≡ or_else (or_else (settle_fault (args rules) false (held rows p)) []) []
  pub valued : (rows : List Row) (x : ℕ) (xs : Text) → (x == 45) ≡ false → walked (args rules) [] (walk_at rows (Some (id, [])) (option id)) (x ∷ xs) ≡ walk_at rows (Some (id, (x ∷ xs) ∷ [])) idle
  pub valued_fault : (rows : List Row) (x : ℕ) (xs : Text) → (x == 45) ≡ false → turn_fault (shape rules) [] (walk_at rows (Some (id, [])) (option id)) (x ∷ xs) ≡ []
  pub settles : (rows : List Row) (v : Text) → settled_rows (args rules) (Some (id, v ∷ [])) rows ≡ used_once (option_rule id) v rows
  pub passes : (rows : List Row) (v : Text) → settle_fault (args rules) false (held rows (Some (id, v ∷ []))) ≡ []
  pub wants_value : (rows : List Row) → settle_fault (args rules) false (held rows (Some (id, []))) ≡ kind.InvalidValue ∷ []

pub table : IsOptionOf (rules_of command.Body) (codes "table")
unfolding clap_on_literals
table = record {
  opens = λ rows p. refl;
  opens_fault = λ rows p. refl;
  opens_again = λ rows p other. refl;
  joined = λ rows p v. refl;
  joined_fault = λ rows p v. refl;
  joined_again = λ rows p other v. refl;
  valued = λ rows x xs ne. simp ne;
  valued_fault = λ rows x xs ne. simp ne;
  settles = λ rows v. refl;
  passes = λ rows v. refl;
  wants_value = λ rows. refl;
}

pub serve_table : IsOptionOf (rules_of command.Serve) (codes "table")
unfolding clap_on_literals
serve_table = record {
  opens = λ rows p. refl;
  opens_fault = λ rows p. refl;
  opens_again = λ rows p other. refl;
  joined = λ rows p v. refl;
  joined_fault = λ rows p v. refl;
  joined_again = λ rows p other v. refl;
  valued = λ rows x xs ne. simp ne;
  valued_fault = λ rows x xs ne. simp ne;
  settles = λ rows v. refl;
  passes = λ rows v. refl;
  wants_value = λ rows. refl;
}

pub serve_listen : IsOptionOf (rules_of command.Serve) (codes "listen")
unfolding clap_on_literals
serve_listen = record {
  opens = λ rows p. refl;
  opens_fault = λ rows p. refl;
  opens_again = λ rows p other. refl;
  joined = λ rows p v. refl;
  joined_fault = λ rows p v. refl;
  joined_again = λ rows p other v. refl;
  valued = λ rows x xs ne. simp ne;
  valued_fault = λ rows x xs ne. simp ne;
  settles = λ rows v. refl;
  passes = λ rows v. refl;
  wants_value = λ rows. refl;
}

pub serve_workers : IsOptionOf (rules_of command.Serve) (codes "workers")
unfolding clap_on_literals
serve_workers = record {
  opens = λ rows p. refl;
  opens_fault = λ rows p. refl;
  opens_again = λ rows p other. refl;
  joined = λ rows p v. refl;
  joined_fault = λ rows p v. refl;
  joined_again = λ rows p other v. refl;
  valued = λ rows x xs ne. simp ne;
  valued_fault = λ rows x xs ne. simp ne;
  settles = λ rows v. refl;
  passes = λ rows v. refl;
  wants_value = λ rows. refl;
}

pub serve_connections : IsOptionOf (rules_of command.Serve) (codes "connections")
unfolding clap_on_literals
serve_connections = record {
  opens = λ rows p. refl;
  opens_fault = λ rows p. refl;
  opens_again = λ rows p other. refl;
  joined = λ rows p v. refl;
  joined_fault = λ rows p v. refl;
  joined_again = λ rows p other v. refl;
  valued = λ rows x xs ne. simp ne;
  valued_fault = λ rows x xs ne. simp ne;
  settles = λ rows v. refl;
  passes = λ rows v. refl;
  wants_value = λ rows. refl;
}

-- ---- any other word

pub stray : (rows : List Row) (p : Pending) (x : ℕ) (xs : Text) → (x == 45) ≡ false → turn_fault (shape (rules_of command.Body)) [] (walk_at rows p idle) (x ∷ xs) ≡ kind.UnknownArgument ∷ []
unfolding clap_on_literals
stray rows p x xs ne = simp ne

pub serve_stray : (rows : List Row) (p : Pending) (x : ℕ) (xs : Text) → (x == 45) ≡ false → turn_fault (shape (rules_of command.Serve)) [] (walk_at rows p idle) (x ∷ xs) ≡ kind.UnknownArgument ∷ []
unfolding clap_on_literals
serve_stray rows p x xs ne = simp ne

-- ---- bare words

abbrev drill : List Rule
drill = rules_of command.Drill

pub bare_first : (x : ℕ) (xs : Text) → (x == 45) ≡ false → walked (args drill) [] (walk_at [] None idle) (x ∷ xs) ≡ walk_at [] (Some (codes "n", (x ∷ xs) ∷ [])) positional
unfolding clap_on_literals
bare_first x xs ne = simp ne

pub bare_first_fault : (x : ℕ) (xs : Text) → (x == 45) ≡ false → turn_fault (shape drill) [] (walk_at [] None idle) (x ∷ xs) ≡ []
unfolding clap_on_literals
bare_first_fault x xs ne = simp ne

pub bare_next : (rows : List Row) (v : Text) (x : ℕ) (xs : Text) → (x == 45) ≡ false
    → walked (args drill) [] (walk_at rows (Some (codes "n", v ∷ [])) positional) (x ∷ xs) ≡ walk_at (used_once bare_rule v rows) (Some (codes "n", (x ∷ xs) ∷ [])) positional
unfolding clap_on_literals
bare_next rows v x xs ne = simp ne

pub bare_next_fault : (rows : List Row) (v : Text) (x : ℕ) (xs : Text) → (x == 45) ≡ false → turn_fault (shape drill) [] (walk_at rows (Some (codes "n", v ∷ [])) positional) (x ∷ xs) ≡ []
unfolding clap_on_literals
bare_next_fault rows v x xs ne = simp ne

pub bare_settles : (rows : List Row) (v : Text) → settled_rows (args drill) (Some (codes "n", v ∷ [])) rows ≡ used_once bare_rule v rows
bare_settles rows v = refl

pub bare_passes : (rows : List Row) (v : Text) → settle_fault (args drill) false (held rows (Some (codes "n", v ∷ []))) ≡ []
bare_passes rows v = refl

-- ---- the commands

pub are_free : (c : Command) → is_simple_and_free (app_with (rules_of c)) ≡ true
are_free command.Body = refl
are_free command.Pipe = refl
are_free command.Serve = refl
are_free command.Drill = refl

pub no_check : (c : Command) (rows : List Row) (b : Bool) → check_fault (shape (rules_of c)) rows b ≡ []
no_check command.Body rows true = refl
no_check command.Body rows false = refl
no_check command.Pipe rows true = refl
no_check command.Pipe rows false = refl
no_check command.Serve rows true = refl
no_check command.Serve rows false = refl
no_check command.Drill rows true = refl
no_check command.Drill rows false = refl
