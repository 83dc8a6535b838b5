-- What stands in front, and then the rows.
use Rattle.read_msgs.specs.RowsBytes.{avro_rows_bytes}
use Rattle.read_msgs.proofs.FieldLemmas.{headed}
use Rattle.read_msgs.proofs.rows.put_avro_rows.Goals as goal

pub returns : goal.returns
unfolding avro_rows_bytes
returns c =
    rw c.in-Some.is
    (headed c.put_blob.result 3 c.args.out.now c.head.new.self c.put_blob.new.out _ c.in_ok-blob_len.field-0 c.in_ok-blob_len.ensures c.in_ok-head.ensures.ok c.put_blob.ensures)
