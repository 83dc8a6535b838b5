-- What the parts of the reader answer. Nobody needs to believe this file: see `Machine`.
use Rattle.std.specs.Prelude.{◌≡◌, ℕ, ◌≤◌, ◌<◌, List, length, Option, Some, None, Result, Ok, Err, option_map, Bool, not, ◌&&◌, ◌==◌, ◌⊎◌, ◌+◌, drop, if◌then◌else◌}
use Rattle.filter.specs.declared.lexer.Body.{Body}
use Rattle.filter.specs.declared.lexer.Found.{Found}
use Rattle.filter.specs.declared.lexer.TokenFault.{TokenFault}
use Rattle.filter.specs.declared.lexer.TokenFault.TheVariants as fault
use Rattle.filter.specs.declared.meaning.Claim.{Claim}
use Rattle.filter.specs.declared.meaning.Claim.TheVariants as claim
use Rattle.filter.specs.declared.moment.Fraction.{Fraction}
use Rattle.filter.specs.declared.parser.Place.{Place}
use Rattle.filter.specs.declared.parser.State.{State}
use Rattle.filter.specs.declared.parser.StepFault.{StepFault}
use Rattle.filter.specs.declared.parser.StepFault.TheVariants as step_fault
use Rattle.filter.specs.declared.token.Token.{Token}
use Rattle.filter.specs.declared.limits.TheConstants.{MAX_LITERALS, MAX_DEPTH}
use Rattle.filter.specs.declared.restriction.Reading.{Reading}
use Rattle.filter.specs.declared.restriction.ReadFault.{ReadFault}
use Rattle.filter.specs.declared.restriction.ReadFault.TheVariants as read_fault
use Rattle.column_types.specs.declared.column.Column.{Column}
use Rattle.filter.specs.Machine.{continues, step, depth_of}
use Rattle.filter.specs.Restriction.{ends_literal, Means, PassesLimit, IsSyntaxAt}
use Rattle.filter.specs.Text.{token_at}
use Rattle.filter.specs.Meaning.{Meaning, Said, said_bare, said_compared, said_null, said_among}

-- the token found, or that there is none; want of memory may come at any place
abbrev pub FindsToken : Option (Token × ℕ) → Result Found TokenFault → Type 0
FindsToken found (Ok answer) = (found ≡ Some (answer.token, answer.len))
FindsToken found (Err fault.Memory) = Unit {0}
FindsToken found (Err fault.NoToken) = found ≡ None

abbrev pub FindsInteger : Option (Token × ℕ) → Option Found → Type 0
FindsInteger found answer = found ≡ option_map (λ answer. (answer.token, answer.len)) answer

-- a quote of strings
abbrev pub IsQuote : ℕ → Type 0
IsQuote byte = (byte ≡ 34) ⊎ (byte ≡ 39)

-- a byte of a string that stands for itself
abbrev pub is_plain : ℕ → ℕ → Bool
is_plain quote byte = not (byte == quote) && not (byte == 92)

abbrev pub FindsBody : Option (List ℕ × ℕ) → Result Body TokenFault → Type 0
FindsBody found (Ok answer) = found ≡ Some (answer.text.items, answer.len)
FindsBody found (Err fault.Memory) = Unit {0}
FindsBody found (Err fault.NoToken) = found ≡ None

-- what a claim says
abbrev pub said_by : Claim → Said
said_by claim.Bare = said_bare
said_by (claim.Compared op value) = said_compared op value
said_by claim.IsNull = said_null
said_by (claim.Among values) = said_among values

-- the state behind a token, or that the token can't follow
abbrev pub Steps : Option State → Result State StepFault → Type 0
Steps next (Ok state) = next ≡ Some state
Steps next (Err step_fault.Memory) = Unit {0}
Steps next (Err step_fault.Refused) = next ≡ None

abbrev pub StepsInside : Option Place → Result Place StepFault → Type 0
StepsInside next (Ok place) = next ≡ Some place
StepsInside next (Err step_fault.Memory) = Unit {0}
StepsInside next (Err step_fault.Refused) = next ≡ None

-- the place behind a token more, or both back where a name doesn't go on as a test
abbrev pub Continues : List ℕ → Token → Result Place (List ℕ × Token) → Type 0
Continues column token (Ok place) = continues column token ≡ Some place
Continues column token (Err back) = (continues column token ≡ None) × (back.0 ≡ column) × (back.1 ≡ token)

-- A reading behind one token more.
pub record TakesToken (columns : List Column) (reading next : Reading) (text : List ℕ) : Type 0 where
  pub token : Token
  pub len : ℕ
  pub found : token_at (drop reading.at text) ≡ Some (token, len)
  pub steps : step columns reading.state token ≡ Some next.state
  pub shallow : depth_of next.state ≤ MAX_DEPTH
  pub counts : next.literals ≡ reading.literals + (if ends_literal token then 1 else 0)
  pub few : next.literals ≤ MAX_LITERALS
  pub moves : next.at ≡ reading.at + len
  pub some : 0 < len
  pub within : next.at ≤ length text

-- The token can follow, and passes a limit.
pub record TakesTooMuch (columns : List Column) (reading : Reading) (text : List ℕ) : Type 0 where
  pub token : Token
  pub len : ℕ
  pub next : State
  pub found : token_at (drop reading.at text) ≡ Some (token, len)
  pub steps : step columns reading.state token ≡ Some next
  pub passes : (MAX_DEPTH < depth_of next) ⊎ (MAX_LITERALS < reading.literals + (if ends_literal token then 1 else 0))

-- No token stands there, or none that can follow.
abbrev pub TakesNothing : List Column → Reading → Option (Token × ℕ) → Type 0
TakesNothing columns reading None = Unit {0}
TakesNothing columns reading (Some found) = step columns reading.state found.0 ≡ None

abbrev pub Takes : List Column → Reading → List ℕ → Result Reading ReadFault → Type 0
Takes columns reading text (Ok next) = TakesToken columns reading next text
Takes columns reading text (Err read_fault.Memory) = Unit {0}
Takes columns reading text (Err read_fault.Long) = TakesTooMuch columns reading text
Takes columns reading text (Err (read_fault.Syntax at)) = (at ≡ reading.at) × TakesNothing columns reading (token_at (drop reading.at text))

-- what a text means, or why it means nothing
abbrev pub Reads : List Column → List ℕ → Result Meaning ReadFault → Type 0
Reads columns text (Ok meaning) = Means columns text meaning
Reads columns text (Err read_fault.Memory) = Unit {0}
Reads columns text (Err read_fault.Long) = PassesLimit text
Reads columns text (Err (read_fault.Syntax at)) = IsSyntaxAt text at

abbrev pub FindsFraction : Option (ℕ × ℕ) → Option Fraction → Type 0
FindsFraction found answer = found ≡ option_map (λ answer. (answer.micros, answer.len)) answer
