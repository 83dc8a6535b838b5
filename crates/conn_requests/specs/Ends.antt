-- What the end of a call is answered, where it asks nothing of a table (gRPC over HTTP/2, Responses).
use Rattle.std.specs.Prelude.{ℕ, List, [], codes, Option, Some, None}
use Rattle.grpc_meta.specs.declared.answers.Status.{Status}
use Rattle.grpc_meta.specs.declared.requests.MetaFault.{MetaFault}
use Rattle.grpc_meta.specs.declared.requests.MetaFault.TheVariants as fault
use Rattle.conn_requests.specs.declared.asks.Over.{Over}
use Rattle.conn_requests.specs.declared.asks.Over.TheVariants as over
use Rattle.conn_requests.specs.declared.answers.Answer.{Answer}
use Rattle.conn_requests.specs.declared.answers.Answer.TheVariants as answer
use Rattle.conn_requests.specs.declared.answers.HttpStatus.{HttpStatus}
use Rattle.conn_requests.specs.declared.answers.HttpStatus.TheVariants as http

-- the codes of HTTP (RFC 9110 section 15.5, RFC 6585 section 5)
abbrev pub http_code : HttpStatus → ℕ
http_code http.MethodNotAllowed = 405
http_code http.UnsupportedMediaType = 415
http_code http.FieldsTooLarge = 431

-- how a request ends whose fields name no method; one that is malformed is reset, and no event tells it
abbrev pub over_of : MetaFault → Option Over
over_of fault.Malformed = None
over_of fault.NotPost = Some over.NotPost
over_of fault.NotGrpc = Some over.NotGrpc
over_of fault.UnknownPath = Some over.UnknownMethod

-- the status alone
abbrev pub status_only : (code : ℕ) → (text : List ℕ) → Answer
status_only code text = answer.Ends [] (record { code = code; text = text })

abbrev pub end_answer : Over → Answer
end_answer over.Finished = status_only 0 []
end_answer over.CutShort = status_only 3 (codes "message cut short")
end_answer over.OneWanted = status_only 3 (codes "one message wanted")
end_answer over.TooLong = status_only 8 (codes "message too long")
end_answer over.Compressed = status_only 13 (codes "compressed message")
end_answer over.Coded = status_only 12 (codes "compressed message")
end_answer over.UnknownMethod = status_only 12 (codes "unknown method")
end_answer over.NotPost = answer.Http http.MethodNotAllowed
end_answer over.NotGrpc = answer.Http http.UnsupportedMediaType
end_answer over.ListTooLarge = answer.Http http.FieldsTooLarge

-- for want of memory
abbrev pub lost_answer : Answer
lost_answer = status_only 14 (codes "out of memory")
