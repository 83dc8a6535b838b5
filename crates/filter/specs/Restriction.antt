-- What a text is: a restriction with its meaning, or why it is none.
use Rattle.std.specs.Prelude.{◌≡◌, ℕ, ◌+◌, ◌<◌, ◌≤◌, ◌⊎◌, Bool, true, false, List, [], ◌∷◌, ◌++◌, length, count_by, Option, Some, None, Result, Ok, Err}
use Rattle.column_types.specs.declared.column.Column.{Column}
use Rattle.column_types.specs.declared.predicate.Pred.{Pred}
use Rattle.filter.specs.declared.fault.FilterFault.{FilterFault}
use Rattle.filter.specs.declared.fault.FilterFault.TheVariants as fault
use Rattle.filter.specs.declared.limits.TheConstants.{MAX_BYTES, MAX_LITERALS, MAX_DEPTH}
use Rattle.filter.specs.declared.meaning.TestFault.TheVariants as bad
use Rattle.filter.specs.declared.token.Token.{Token}
use Rattle.filter.specs.declared.token.Token.TheVariants as token
use Rattle.filter.specs.Grammar.{TextTree, text_tokens, text_depth}
use Rattle.filter.specs.Meaning.{Meaning, text_meaning}
use Rattle.filter.specs.Text.{past_blanks, token_at, Begins, Found}

-- each literal has exactly one of these tokens, which is its last
abbrev pub ends_literal : Token → Bool
ends_literal (token.Integer n) = true
ends_literal (token.Str s) = true
ends_literal token.True = true
ends_literal token.False = true
ends_literal _ = false

abbrev pub literal_count : List Token → ℕ
literal_count tokens = count_by ends_literal tokens

-- some text of the grammar begins with these tokens
abbrev pub CanGoOn : List Token → Type 0
CanGoOn tokens = (tree : TextTree) × (more : List Token) × (text_tokens tree ≡ tokens ++ more)

-- some text of the grammar begins with these tokens and nests no deeper than is allowed, and the tokens have no
-- more literals than are allowed
abbrev pub IsWithinLimits : List Token → Type 0
IsWithinLimits tokens =
    ((tree : TextTree) × (more : List Token) × (text_tokens tree ≡ tokens ++ more) × (text_depth tree ≤ MAX_DEPTH))
    × (literal_count tokens ≤ MAX_LITERALS)

-- A token passes a limit: up to it the grammar goes on, but not within the limits.
abbrev pub PassesLimit : List ℕ → Type 0
PassesLimit text =
    (tokens : List Token) × (rest : List ℕ) × Begins text tokens rest × CanGoOn tokens × (IsWithinLimits tokens → ⊥)

-- what is found at a place can't stand behind the tokens: it is no token, or none with which the grammar goes on
abbrev pub CannotFollow : List Token → Found → Type 0
CannotFollow tokens None = Unit {0}
CannotFollow tokens (Some found) = CanGoOn (tokens ++ found.0 ∷ []) → ⊥

-- the rest can't stand behind the tokens: it begins with what can't follow, or it is empty and they are no text
abbrev pub CannotStand : List Token → List ℕ → Type 0
CannotStand tokens [] = (tree : TextTree) → text_tokens tree ≡ tokens → ⊥
CannotStand tokens (byte ∷ bytes) = CannotFollow tokens (token_at (byte ∷ bytes))

-- the first place from the left where the grammar can't go on, no limit being passed before
abbrev pub IsSyntaxAt : List ℕ → ℕ → Type 0
IsSyntaxAt text at =
    (tokens : List Token) × (rest : List ℕ) × Begins text tokens rest × IsWithinLimits tokens
    × CannotStand tokens (past_blanks rest) × (at + length (past_blanks rest) ≡ length text)

-- the text is within the limits and the grammar, and means this
abbrev pub Means : List Column → List ℕ → Meaning → Type 0
Means columns text meaning =
    (tree : TextTree) × (rest : List ℕ) × Begins text (text_tokens tree) rest × (past_blanks rest ≡ [])
    × (text_depth tree ≤ MAX_DEPTH) × (literal_count (text_tokens tree) ≤ MAX_LITERALS)
    × (text_meaning columns tree ≡ meaning)

-- why each answer comes; want of memory may come at any place
abbrev pub Answers : List Column → List ℕ → Result Pred FilterFault → Type 0
Answers columns text (Ok pred) = (length text ≤ MAX_BYTES) × Means columns text (Ok pred)
Answers columns text (Err fault.Memory) = Unit {0}
Answers columns text (Err fault.Long) = (MAX_BYTES < length text) ⊎ PassesLimit text
Answers columns text (Err (fault.Syntax at)) = (length text ≤ MAX_BYTES) × IsSyntaxAt text at
Answers columns text (Err (fault.UnknownColumn name)) =
    (length text ≤ MAX_BYTES) × Means columns text (Err (bad.UnknownColumn name))
Answers columns text (Err (fault.IllTyped name)) = (length text ≤ MAX_BYTES) × Means columns text (Err (bad.IllTyped name))

-- the two are one answer, but for want of memory
abbrev pub IsOneAnswer : Result Pred FilterFault → Result Pred FilterFault → Type 0
IsOneAnswer a b = (a ≡ b) ⊎ ((a ≡ Err fault.Memory) ⊎ (b ≡ Err fault.Memory))
