-- What waits on a stream, by the record.
use Rattle.std.specs.Prelude.{◌≡◌, ℕ, Bool, true, false, List, [], ◌∷◌, ◌++◌, map, Option, None, Some}
use Rattle.std.specs.List.{concat}
use Rattle.h2_answers.specs.declared.part.Head.{Head}
use Rattle.h2_answers.specs.Waiting.{Waiting, nothing}
use Rattle.h2_record.specs.Record.{Record, any_in, any_out}
use Rattle.h2_record.specs.Live.{ends, finishes}
use Rattle.h2_record.specs.Resets.{resets_of}
use Rattle.h2_record.specs.Replies.{unwritten_of}
use Rattle.h2_record.specs.Texts.{Token, Fields, Octet, Aborted, given_text, written_text, codes_on, written_codes}

-- the text of what waits on a live stream
abbrev pub head_text : Option Head → List Token
head_text None = []
head_text (Some head) = Fields head.end head.block ∷ []

abbrev pub tail_text : Option (List ℕ) → List Token
tail_text None = []
tail_text (Some block) = Fields true block ∷ []

abbrev pub waiting_text : Waiting → List Token
waiting_text waiting = head_text waiting.head ++ map Octet (concat waiting.replies) ++ tail_text waiting.tail ++ map Aborted waiting.resets

-- On a live stream what went and what waits is what was given, no reset went, and the answer isn't whole before the
-- client has ended.
pub record WaitsLive (r : Record) (id : ℕ) (waiting : Waiting) : Type 0 where
  pub unreset : written_codes r id ≡ []
  pub unfinished : any_in (ends id) r ≡ false → any_out (finishes id) r ≡ false
  pub text : written_text r id ++ waiting_text waiting ≡ given_text r id
  pub replies : waiting.replies ≡ unwritten_of r id

-- On any other nothing waits but resets, and those that went and those that wait are those due.
pub record WaitsClosed (r : Record) (id : ℕ) (waiting : Waiting) : Type 0 where
  pub text : waiting ≡ record nothing { resets = waiting.resets }
  pub resets : written_codes r id ++ waiting.resets ≡ codes_on (resets_of r) id

abbrev pub WaitsBy : Bool → Record → ℕ → Waiting → Type 0
WaitsBy true r id waiting = WaitsLive r id waiting
WaitsBy false r id waiting = WaitsClosed r id waiting
