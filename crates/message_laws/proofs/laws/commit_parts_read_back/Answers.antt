use Rattle.message_laws.proofs.CommitPartsBack.{timestamps_read_back, storage_errors_read_back}
use Rattle.message_laws.proofs.laws.commit_parts_read_back.Goals as goal

pub returns-clause-time : goal.returns-clause-time
returns-clause-time c = timestamps_read_back

pub returns-clause-error : goal.returns-clause-error
returns-clause-error c = storage_errors_read_back
