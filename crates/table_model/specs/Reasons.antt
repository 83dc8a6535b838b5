-- Each cause of a refusal has a status code of gRPC and a text.
use Rattle.std.specs.Prelude.{ℕ, List, codes}
use Rattle.table_model.specs.declared.reasons.Why.{Why}
use Rattle.table_model.specs.declared.reasons.Why.TheVariants as why
use Rattle.table_model.specs.declared.reasons.Refusal.{Refusal}

-- INVALID_ARGUMENT 3, NOT_FOUND 5, ALREADY_EXISTS 6, RESOURCE_EXHAUSTED 8, FAILED_PRECONDITION 9, OUT_OF_RANGE 11
abbrev pub code_of : Why → ℕ
code_of why.BadName = 3
code_of why.NoTable = 5
code_of why.NoStream = 5
code_of why.NoRead = 5
code_of why.Expired = 9
code_of why.NoSchema = 3
code_of why.BadDescriptor = 3
code_of (why.ExtraField x) = 3
code_of (why.TypeMismatch x) = 3
code_of (why.MissingRequired x) = 3
code_of why.BadRows = 3
code_of why.NoRows = 3
code_of why.DefaultOffset = 3
code_of why.NegativeOffset = 3
code_of why.NoOffset = 3
code_of why.AlreadyWritten = 6
code_of why.PastEnd = 11
code_of why.Finalised = 9
code_of why.FullRows = 8
code_of why.FullEntries = 8
code_of why.FullStreams = 8
code_of why.FullSessions = 8
code_of why.FullNodes = 8
code_of why.WrongKind = 3
code_of why.BadKind = 3
code_of why.NoStreams = 3
code_of why.Twice = 3
code_of why.OtherTable = 3
code_of why.BadFormat = 3
code_of why.BadTime = 3
code_of why.NegativeCount = 3
code_of why.Long = 3
code_of (why.Syntax x) = 3
code_of (why.UnknownColumn x) = 3
code_of (why.IllTyped x) = 3

-- the text, up to the name or the place that follows it
abbrev pub phrase_of : Why → List ℕ
phrase_of why.BadName = codes "bad resource name"
phrase_of why.NoTable = codes "no such table"
phrase_of why.NoStream = codes "no such write stream"
phrase_of why.NoRead = codes "no such read stream"
phrase_of why.Expired = codes "read session has expired"
phrase_of why.NoSchema = codes "no writer schema"
phrase_of why.BadDescriptor = codes "bad descriptor"
phrase_of (why.ExtraField x) = codes "field not in table: "
phrase_of (why.TypeMismatch x) = codes "field type does not fit: "
phrase_of (why.MissingRequired x) = codes "required column missing: "
phrase_of why.BadRows = codes "rows refused"
phrase_of why.NoRows = codes "no rows"
phrase_of why.DefaultOffset = codes "offset on default stream"
phrase_of why.NegativeOffset = codes "negative offset"
phrase_of why.NoOffset = codes "no offset"
phrase_of why.AlreadyWritten = codes "offset already written"
phrase_of why.PastEnd = codes "offset past the end"
phrase_of why.Finalised = codes "stream is finalised"
phrase_of why.FullRows = codes "table is full"
phrase_of why.FullEntries = codes "history is full"
phrase_of why.FullStreams = codes "too many write streams"
phrase_of why.FullSessions = codes "too many sessions"
phrase_of why.FullNodes = codes "too many read streams"
phrase_of why.WrongKind = codes "wrong stream type"
phrase_of why.BadKind = codes "bad stream type"
phrase_of why.NoStreams = codes "no streams named"
phrase_of why.Twice = codes "stream named twice"
phrase_of why.OtherTable = codes "stream of another table"
phrase_of why.BadFormat = codes "bad data format"
phrase_of why.BadTime = codes "bad snapshot time"
phrase_of why.NegativeCount = codes "negative stream count"
phrase_of why.Long = codes "restriction too long"
phrase_of (why.Syntax x) = codes "restriction syntax at "
phrase_of (why.UnknownColumn x) = codes "unknown column: "
phrase_of (why.IllTyped x) = codes "restriction is ill typed: "

abbrev pub refusal_of : Why → Refusal
refusal_of w = record { code = code_of w; why = w }
