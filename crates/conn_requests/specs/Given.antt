-- The parts of an answer that are given to a connection (gRPC over HTTP/2, Responses).
use Rattle.std.specs.Prelude.{ℕ, ◌==◌, Bool, true, false, List, [], ◌∷◌, ◌++◌, map}
use Rattle.grpc_frame.specs.Frame.{frame}
use Rattle.grpc_meta.specs.Answer.{response_head, http_only, trailers}
use Rattle.grpc_meta.specs.declared.answers.Status.{Status}
use Rattle.h2_record.specs.Record.{AnswerPart, Head, Reply, Tail, Given, Record}
use Rattle.conn_requests.specs.declared.answers.Answer.{Answer}
use Rattle.conn_requests.specs.declared.answers.Answer.TheVariants as answer
use Rattle.conn_requests.specs.Ends.{http_code}

-- HEADERS, where none were given on the stream
abbrev pub opening : (begun : Bool) → List AnswerPart
opening true = []
opening false = Head response_head false ∷ []

abbrev pub reply_of : (message : List ℕ) → AnswerPart
reply_of message = Reply (frame message)

-- HEADERS once, the framed messages, and the trailers
abbrev pub parts_of : (begun : Bool) → Answer → List AnswerPart
parts_of begun (answer.Goes message) = opening begun ++ reply_of message ∷ []
parts_of begun (answer.Ends messages status) = opening begun ++ map reply_of messages ++ Tail (trailers status) ∷ []
parts_of begun (answer.Http status) = Head (http_only (http_code status)) true ∷ []

-- the record with these parts given, one after another
abbrev pub with_parts : Record → (stream : ℕ) → List AnswerPart → Record
with_parts r id [] = r
with_parts r id (part ∷ parts) = with_parts (Given id part ∷ r) id parts

abbrev pub with_answer : Record → (stream : ℕ) → (begun : Bool) → Answer → Record
with_answer r id begun answered = with_parts r id (parts_of begun answered)

-- status 14, UNAVAILABLE, which stands for want of memory alone
abbrev pub is_lost : Answer → Bool
is_lost (answer.Ends messages status) = status.code == 14
is_lost _ = false
