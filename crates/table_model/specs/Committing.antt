-- What a check of a commit gave.
use Rattle.std.specs.Prelude.{◌≡◌, List, Option, Result, Ok, Err}
use Rattle.table_model.specs.declared.commits.CommitFault.{CommitFault}
use Rattle.table_model.specs.declared.commits.CommitFault.TheVariants as fault
use Rattle.table_model.specs.declared.replies.StreamError.{StreamError}
use Rattle.table_model.specs.declared.streams.StreamRef.{StreamRef}
use Rattle.table_model.specs.declared.streams.StreamState.{StreamState}
use Rattle.table_model.specs.Checks.{commit_check}

abbrev pub CommitChecked : (StreamRef → Option StreamState) → List StreamRef → Result (List StreamError) CommitFault → Type 0
CommitChecked look streams (Ok errors) = commit_check look streams ≡ Ok errors
CommitChecked look streams (Err (fault.Refused refusal)) = commit_check look streams ≡ Err refusal
CommitChecked look streams (Err fault.Memory) = Unit {0}
