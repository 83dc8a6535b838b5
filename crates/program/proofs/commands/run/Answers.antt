use Rattle.std.specs.Prelude.{map, string_bytes}
use Rattle.program.proofs.RunLemmas.{line_runs, line_unread, runs_none}
use Rattle.program.proofs.SpecLemmas.{has_tables}
use Rattle.program.proofs.commands.run.Goals as goal

pub run_line-requires-clause-tables : goal.run_line-requires-clause-tables
run_line-requires-clause-tables g c κs within = has_tables (map string_bytes c.args.words.now) c.in-Ok.line c.in-Ok.ensures

-- words that are no line give none
pub returns-in-Ok-clause-usage : goal.returns-in-Ok-clause-usage
returns-in-Ok-clause-usage g c = λ none. absurd (none c.in-Ok.line c.in-Ok.ensures)

pub returns-in-Ok-clause-runs : goal.returns-in-Ok-clause-runs
returns-in-Ok-clause-runs g c = λ due is. line_runs _ _ (map string_bytes c.args.words.now) c.in-Ok.line due _ _ _ _ _ c.in-Ok.ensures is c.run_line.ensures.runs

pub returns-in-Err-clause-usage : goal.returns-in-Err-clause-usage
returns-in-Err-clause-usage g c = λ none. runs_none c.in-Err.fault _ _ c.status_without.ensures

pub returns-in-Err-clause-runs : goal.returns-in-Err-clause-runs
returns-in-Err-clause-runs g c = λ due is. line_unread _ _ (map string_bytes c.args.words.now) c.in-Err.fault due _ _ _ c.in-Err.ensures is c.status_without.ensures
