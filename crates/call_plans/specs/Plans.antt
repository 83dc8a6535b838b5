-- What each thing decided on a connection asks of the tables, and what it is answered.
use Rattle.std.specs.Prelude.{ℕ, List}
use Rattle.grpc_meta.specs.declared.methods.Method.{Method}
use Rattle.grpc_meta.specs.declared.methods.Method.TheVariants as method
use Rattle.table_spec.specs.declared.spec.TableSpec.{TableSpec}
use Rattle.open_tables.specs.Plans.{Plan, Fixed}
use Rattle.conn_requests.specs.declared.asks.Ask.{Ask}
use Rattle.conn_requests.specs.declared.asks.Ask.TheVariants as ask
use Rattle.conn_requests.specs.declared.asks.Over.TheVariants as over
use Rattle.conn_requests.specs.declared.answers.Answer.{Answer}
use Rattle.conn_requests.specs.Ends.{end_answer}
use Rattle.conn_requests.specs.Names.{Named}
use Rattle.call_plans.specs.Appending.{append_plan}
use Rattle.call_plans.specs.Creating.{create_plan}
use Rattle.call_plans.specs.Getting.{get_plan}
use Rattle.call_plans.specs.Finalising.{finalise_plan}
use Rattle.call_plans.specs.Flushing.{flush_plan}
use Rattle.call_plans.specs.Committing.{commit_plan}
use Rattle.call_plans.specs.Sessions.{create_session_plan}
use Rattle.call_plans.specs.Reading.{read_plan}
use Rattle.call_plans.specs.Splitting.{split_plan}

-- of a method that no call of one message has
abbrev pub no_call : Plan Answer
no_call = Fixed (end_answer over.UnknownMethod)

-- A call with its one message. An AppendRows call asks message by message.
abbrev pub call_plan : List TableSpec → Method → (message : List ℕ) → Plan Answer
call_plan specs method.CreateWriteStream message = create_plan specs message
call_plan specs method.GetWriteStream message = get_plan specs message
call_plan specs method.FinalizeWriteStream message = finalise_plan specs message
call_plan specs method.FlushRows message = flush_plan specs message
call_plan specs method.BatchCommitWriteStreams message = commit_plan specs message
call_plan specs method.AppendRows message = no_call
call_plan specs method.CreateReadSession message = create_session_plan specs message
call_plan specs method.ReadRows message = read_plan specs message
call_plan specs method.SplitReadStream message = split_plan specs message

-- What is asked of the tables of a server. `named` is what the call has named by then, what is asked included.
unfoldable pub plan : List TableSpec → Named → Ask → Plan Answer
plan specs named (ask.Append message) = append_plan specs named message
plan specs named (ask.Call m message) = call_plan specs m message
plan specs named (ask.Ends end) = Fixed (end_answer end)
