-- What went on the streams of a connection, where each frame that went was due.
use Rattle.std.specs.Prelude.{◌≡◌, ℕ, Bool, true, false, List, [], ◌∷◌, ◌++◌}
use Rattle.std.specs.List.{list_any}
use Rattle.h2_record.specs.Record.{Record, In, Out, Given, Whole, Broken}
use Rattle.h2_record.specs.Texts.{Token, Fields, Octet, Aborted, given_text, written_text}
use Rattle.h2_record.specs.Due.{IsDue}

-- each frame that went was due by the record before it
abbrev pub EachWasDue : Record → Type 0
EachWasDue [] = Unit {0}
EachWasDue (Out frame ∷ r) = IsDue r frame × EachWasDue r
EachWasDue (In frame ∷ r) = EachWasDue r
EachWasDue (Given stream part ∷ r) = EachWasDue r
EachWasDue (Whole ∷ r) = EachWasDue r
EachWasDue (Broken fault ∷ r) = EachWasDue r

-- the first list is a front of the second
abbrev pub IsFront : {X : Type 0} → List X → List X → Type 0
IsFront {X} xs ys = (rest : List X) × (xs ++ rest ≡ ys)

-- the token ends an answer: HEADERS with END_STREAM, or a reset that the caller asked for
abbrev pub ends_answer : Token → Bool
ends_answer (Fields end block) = end
ends_answer (Octet byte) = false
ends_answer (Aborted code) = true

-- the answer is whole
abbrev pub is_ended : List Token → Bool
is_ended text = list_any ends_answer text

-- on no stream anything was given behind what ends its answer
abbrev pub EachWasOpen : Record → Type 0
EachWasOpen [] = Unit {0}
EachWasOpen (Given stream part ∷ r) = (is_ended (given_text r stream) ≡ false) × EachWasOpen r
EachWasOpen (In frame ∷ r) = EachWasOpen r
EachWasOpen (Out frame ∷ r) = EachWasOpen r
EachWasOpen (Whole ∷ r) = EachWasOpen r
EachWasOpen (Broken fault ∷ r) = EachWasOpen r

-- What went on a stream, closed or not, is a front of what was given on it,
abbrev pub WritesFronts : Record → Type 0
WritesFronts r = (id : ℕ) → IsFront (written_text r id) (given_text r id)

-- and all of it where what ends the answer went.
abbrev pub WritesAll : Record → Type 0
WritesAll r = (id : ℕ) → is_ended (written_text r id) ≡ true → written_text r id ≡ given_text r id
