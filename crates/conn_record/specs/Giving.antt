-- When parts of an answer are given: on a live stream, before the end of its answer.
use Rattle.std.specs.Prelude.{◌≡◌, ℕ, ◌≤◌, true, false, [], ◌∷◌, length}
use Rattle.std.specs.List.{flat_map}
use Rattle.hpack_blocks.specs.Spelling.{field_spelling}
use Rattle.h2_record.specs.Record.{AnswerPart, Head, Tail, Record, In, Out, Given, Whole, Broken}
use Rattle.h2_record.specs.Resets.{is_live}
use Rattle.h2_record.specs.Texts.{given_text, written_text}
use Rattle.conn_record.specs.declared.limits.TheConstants.{LONGEST_BLOCK}
use Rattle.h2_record.specs.Written.{EachWasDue, is_ended}

-- the fields of a part, spelled, fit the room that is always left
abbrev pub IsShort : AnswerPart → Type 0
IsShort (Head fields ended) = length (flat_map field_spelling fields) ≤ LONGEST_BLOCK
IsShort (Tail fields) = length (flat_map field_spelling fields) ≤ LONGEST_BLOCK
IsShort _ = Unit {0}

-- a part may be given
pub record MayBeGiven (r : Record) (id : ℕ) (part : AnswerPart) : Type 0 where
  pub live : is_live r id ≡ true
  pub goes_on : is_ended (given_text r id) ≡ false
  pub short : IsShort part

-- each part was
abbrev pub EachWasGiven : Record → Type 0
EachWasGiven [] = Unit {0}
EachWasGiven (Given stream part ∷ r) = MayBeGiven r stream part × EachWasGiven r
EachWasGiven (In frame ∷ r) = EachWasGiven r
EachWasGiven (Out frame ∷ r) = EachWasGiven r
EachWasGiven (Whole ∷ r) = EachWasGiven r
EachWasGiven (Broken fault ∷ r) = EachWasGiven r

-- What went on a live stream hasn't come to an end. So its text goes on where what waits on it has none.
abbrev pub LiveTextGoesOn : Type 0
LiveTextGoesOn = (r : Record) (id : ℕ) → EachWasDue r → is_live r id ≡ true → is_ended (written_text r id) ≡ false
