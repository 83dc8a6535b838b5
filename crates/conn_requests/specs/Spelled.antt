-- How the answers of one stream are spelled: HEADERS, the framed messages, and the trailers (gRPC over HTTP/2, Responses).
use Rattle.std.specs.Prelude.{ℕ, ◌==◌, Bool, true, false, List, [], ◌∷◌, ◌++◌, if◌then◌else◌}
use Rattle.std.specs.List.{flat_map}
use Rattle.h2_record.specs.Record.{AnswerPart}
use Rattle.h2_record.specs.Texts.{Token, part_text}
use Rattle.conn_requests.specs.Given.{parts_of}
use Rattle.conn_requests.specs.Decided.{Answered}

-- the parts given on a stream, in their order
abbrev pub parts_on : (stream : ℕ) → (begun : Bool) → List Answered → List AnswerPart
parts_on id begun [] = []
parts_on id begun (x ∷ xs) = if id == x.item.stream then parts_of begun x.answer ++ parts_on id true xs else parts_on id begun xs

unfoldable pub spelling_on : (stream : ℕ) → List Answered → List Token
spelling_on id answers = flat_map part_text (parts_on id false answers)
