-- Where the table's words and parts are refused, so is the whole.
use Rattle.std.proofs.Common.{List, ℕ, take, drop, map, Result, Err, subst}
use Rattle.resource_names.specs.declared.faults.NameFault.{NameFault}
use Rattle.resource_names.specs.declared.tables.TableName.{TableName}
use Rattle.resource_names.specs.Reads.{Reads}
use Rattle.resource_names.specs.Table.{table_in}
use Rattle.resource_names.specs.Write.{stream_in}
use Rattle.resource_names.proofs.WriteLemmas.{no_table}
use Rattle.resource_names.proofs.write_streams.write_in.Goals as goal

pub returns-in-Err : goal.returns-in-Err
returns-in-Err c =
    let parts : List (List ℕ) = map (λ p. p.now) c.args.parts.now in
    let read = subst (λ (r : Result TableName NameFault). Reads (table_in (map (λ p. p.now) c.split_table.result.0.now)) r) c.in-Err.is c.table_in.ensures in
    no_table (table_in (take 6 parts)) (stream_in (drop 6 parts)) c.in-Err.fault
    (subst (λ (ps : List (List ℕ)). Reads (table_in ps) (Err c.in-Err.fault)) c.split_table.ensures.table read)
