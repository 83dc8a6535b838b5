-- The answer of a text, worked out from token to token. Nobody needs to believe this file: a law of the crate says that it
-- is the answer of `Restriction`, which has one.
use Rattle.std.specs.Prelude.{◌≡◌, ℕ, zero, suc, ◌+◌, nat_lt, Bool, ◌||◌, List, length, drop, Option, Some, None, Result, Ok, Err, if◌then◌else◌}
use Rattle.std.specs.List.{prefix_len}
use Rattle.column_types.specs.declared.column.Column.{Column}
use Rattle.column_types.specs.declared.predicate.Pred.{Pred}
use Rattle.filter.specs.declared.fault.FilterFault.{FilterFault}
use Rattle.filter.specs.declared.fault.FilterFault.TheVariants as fault
use Rattle.filter.specs.declared.limits.TheConstants.{MAX_BYTES, MAX_LITERALS, MAX_DEPTH}
use Rattle.filter.specs.declared.meaning.TestFault.TheVariants as bad
use Rattle.filter.specs.declared.parser.State.{State}
use Rattle.filter.specs.declared.restriction.Reading.{Reading}
use Rattle.filter.specs.declared.restriction.ReadFault.{ReadFault}
use Rattle.filter.specs.declared.restriction.ReadFault.TheVariants as stop
use Rattle.filter.specs.declared.token.Token.{Token}
use Rattle.filter.specs.Machine.{start, step, end, depth_of}
use Rattle.filter.specs.Meaning.{Meaning}
use Rattle.filter.specs.Restriction.{Answers, ends_literal}
use Rattle.filter.specs.Text.{is_blank, token_at, Found}

-- ---- one token

abbrev pub literals_with : ℕ → Token → ℕ
literals_with literals token = literals + (if ends_literal token then 1 else 0)

abbrev pub passes_limit : State → (literals : ℕ) → Bool
passes_limit state literals = nat_lt MAX_DEPTH (depth_of state) || nat_lt MAX_LITERALS literals

abbrev pub within_limits : State → (literals at : ℕ) → Result Reading ReadFault
within_limits state literals at = if passes_limit state literals then Err stop.Long else Ok (record { state = state; literals = literals; at = at })

-- behind a token of a length, with which the parser goes on to a state or can't
abbrev pub behind_step : Reading → Token → (len : ℕ) → Option State → Result Reading ReadFault
behind_step reading token len None = Err (stop.Syntax reading.at)
behind_step reading token len (Some state) = within_limits state (literals_with reading.literals token) (reading.at + len)

module _ (columns : List Column) where
  abbrev pub behind_found : Reading → Found → Result Reading ReadFault
  behind_found reading None = Err (stop.Syntax reading.at)
  behind_found reading (Some found) = behind_step reading found.0 found.1 (step columns reading.state found.0)

  -- ---- all tokens

  module _ (text : List ℕ) where
    abbrev pub behind_token : Reading → Result Reading ReadFault
    behind_token reading = behind_found reading (token_at (drop reading.at text))

    -- past the blanks at a place
    abbrev pub past : ℕ → ℕ
    past at = at + prefix_len is_blank (drop at text)

    abbrev pub at_next : Reading → Reading
    at_next reading = record reading { at = past reading.at }

    abbrev pub meaning_at_end : Option Meaning → Result Meaning ReadFault
    meaning_at_end None = Err (stop.Syntax (length text))
    meaning_at_end (Some meaning) = Ok meaning

    abbrev pub ends : Reading → Result Meaning ReadFault
    ends reading = meaning_at_end (end columns reading.state)

    abbrev pub goes : (Reading → Result Meaning ReadFault) → Result Reading ReadFault → Result Meaning ReadFault
    goes next (Err stopped) = Err stopped
    goes next (Ok reading) = next (at_next reading)

    -- from a token on, with at most so many tokens more
    unfoldable pub reads_from : (tokens : ℕ) → Reading → Result Meaning ReadFault
    reads_from zero reading = ends reading
    reads_from (suc more) reading = if nat_lt reading.at (length text) then goes (reads_from more) (behind_token reading) else ends reading

    abbrev pub first : Reading
    first = record { state = start; literals = 0; at = prefix_len is_blank text }

    abbrev pub reading_of : Result Meaning ReadFault
    reading_of = reads_from (length text) first

-- ---- the answer

abbrev pub answer_by : Result Meaning ReadFault → Result Pred FilterFault
answer_by (Ok (Ok pred)) = Ok pred
answer_by (Ok (Err (bad.UnknownColumn name))) = Err (fault.UnknownColumn name)
answer_by (Ok (Err (bad.IllTyped name))) = Err (fault.IllTyped name)
answer_by (Err stop.Memory) = Err fault.Memory
answer_by (Err stop.Long) = Err fault.Long
answer_by (Err (stop.Syntax at)) = Err (fault.Syntax at)

-- the predicate of a restriction over some columns, or why the text is none
unfoldable pub restriction_of : List Column → List ℕ → Result Pred FilterFault
restriction_of columns text = if nat_lt MAX_BYTES (length text) then Err fault.Long else answer_by (reading_of columns text)

-- an answer, and not want of memory
abbrev pub IsGiven : Result Pred FilterFault → Type 0
IsGiven (Err fault.Memory) = ⊥
IsGiven _ = Unit {0}

-- it is the answer of the definition
abbrev pub RestrictionsAreAnswered : Type 0
RestrictionsAreAnswered = (columns : List Column) (text : List ℕ) → Answers columns text (restriction_of columns text) × IsGiven (restriction_of columns text)

-- the answer of a text, unless memory was wanting
abbrev pub IsRestriction : List Column → List ℕ → Result Pred FilterFault → Type 0
IsRestriction columns text (Err fault.Memory) = Unit {0}
IsRestriction columns text answer = answer ≡ restriction_of columns text
