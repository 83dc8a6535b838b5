-- What is written of a message reads back as the same message. The premises are what the types of its parts say: texts
-- are UTF-8, and numbers have 64 or 32 bits with a sign.
use Rattle.std.specs.Prelude.{◌≡◌, ◌<◌, ◌^◌, length, IfSome, Ok, FitsSigned}
use Rattle.std.specs.Int.{w32, w64}
use Rattle.std.specs.List.{AllByRecursion}
use Rattle.std.specs.Str.{IsUtf8}
use Rattle.write_msgs.specs.declared.request.AppendRowsRequest.{AppendRowsRequest}
use Rattle.write_msgs.specs.declared.response.AppendRowsResponse.{AppendRowsResponse}
use Rattle.write_msgs.specs.declared.response_parts.AppendResult.{AppendResult}
use Rattle.write_msgs.specs.declared.response_parts.Status.{Status}
use Rattle.write_msgs.specs.declared.response_parts.RowError.{RowError}
use Rattle.write_msgs.specs.Response.{append_rows_response_of}
use Rattle.write_msgs.specs.ResponseBytes.{append_rows_response_bytes}
use Rattle.write_msgs.specs.Request.{append_rows_request_of}
use Rattle.write_msgs.specs.RequestBytes.{append_rows_request_bytes}

pub record IsRequest (request : AppendRowsRequest) : Type 0 where
  pub name : IsUtf8 request.write_stream
  pub offset : IfSome request.offset (FitsSigned w64)

abbrev pub RequestsReadBack : Type 0
RequestsReadBack = (request : AppendRowsRequest) → IsRequest request → length (append_rows_request_bytes request) < 2 ^ 32 → append_rows_request_of (append_rows_request_bytes request) ≡ Ok request

pub record IsResult (appended : AppendResult) : Type 0 where
  pub offset : IfSome appended.offset (FitsSigned w64)

pub record IsStatus (status : Status) : Type 0 where
  pub code : FitsSigned w32 status.code
  pub message : IsUtf8 status.message

pub record IsRowError (error : RowError) : Type 0 where
  pub index : FitsSigned w64 error.index
  pub code : FitsSigned w32 error.code
  pub message : IsUtf8 error.message

pub record IsResponse (response : AppendRowsResponse) : Type 0 where
  pub appended : IfSome response.append_result IsResult
  pub error : IfSome response.error IsStatus
  pub row_errors : AllByRecursion IsRowError response.row_errors
  pub name : IsUtf8 response.write_stream

abbrev pub ResponsesReadBack : Type 0
ResponsesReadBack =
    (response : AppendRowsResponse) → IsResponse response → length (append_rows_response_bytes response) < 2 ^ 32
    → append_rows_response_of (append_rows_response_bytes response) ≡ Ok response
