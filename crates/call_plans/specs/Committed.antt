-- What a commit is answered: its moment, or why each stream that hinders it can't be committed
-- (BatchCommitWriteStreamsResponse, StorageError).
use Rattle.std.specs.Prelude.{ℕ, ℤ, pos, ◌==◌, List, [], map, Some, None, slice_get, unwrap_or, codes, if◌then◌else◌}
use Rattle.table_model.specs.declared.replies.Reply.{Reply}
use Rattle.table_model.specs.declared.replies.Reply.TheVariants as reply
use Rattle.table_model.specs.declared.replies.StreamError.{StreamError}
use Rattle.table_model.specs.declared.replies.TheConstants.{STREAM_ALREADY_COMMITTED, STREAM_NOT_FOUND, INVALID_STREAM_TYPE}
use Rattle.write_msgs.specs.declared.commits.BatchCommitWriteStreamsResponse.{BatchCommitWriteStreamsResponse}
use Rattle.write_msgs.specs.declared.commit_parts.StorageError.{StorageError}
use Rattle.write_msgs.specs.CommitsBytes.{batch_commit_write_streams_response_bytes}
use Rattle.conn_requests.specs.declared.answers.Answer.{Answer}
use Rattle.call_plans.specs.Endings.{responded, refusal_answer, untold}
use Rattle.call_plans.specs.Moments.{timestamp}

-- the text of a code; the last is that of INVALID_STREAM_STATE
abbrev pub error_text : (code : ℕ) → List ℕ
error_text code =
    if code == STREAM_NOT_FOUND then codes "stream not found"
    else if code == INVALID_STREAM_TYPE then codes "not a pending stream"
    else if code == STREAM_ALREADY_COMMITTED then codes "stream already committed"
    else codes "stream not finalised"

-- the stream is named as the request spells it
abbrev pub storage_error : (texts : List (List ℕ)) → StreamError → StorageError
storage_error texts error = record {
  code = pos error.code;
  entity = unwrap_or (slice_get texts error.place) [];
  error_message = error_text error.code;
}

abbrev pub committed_at : (moment : ℤ) → BatchCommitWriteStreamsResponse
committed_at moment = record { commit_time = Some (timestamp moment); stream_errors = [] }

-- no stream was committed
abbrev pub not_committed : (texts : List (List ℕ)) → List StreamError → BatchCommitWriteStreamsResponse
not_committed texts errors = record { commit_time = None; stream_errors = map (storage_error texts) errors }

-- `texts` are the names of the request
abbrev pub told_committed : (texts : List (List ℕ)) → Reply → Answer
told_committed texts (reply.Committed moment) = responded (batch_commit_write_streams_response_bytes (committed_at moment))
told_committed texts (reply.NotCommitted errors) = responded (batch_commit_write_streams_response_bytes (not_committed texts errors))
told_committed texts (reply.Refused refusal) = refusal_answer refusal
told_committed texts _ = untold
