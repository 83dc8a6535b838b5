-- Some tables are closed, and their lines stand behind the text.
use Rattle.std.proofs.Common.{string_bytes}
use Rattle.server.proofs.ReportLemmas.{Closing}
use Rattle.server.proofs.reports.close_all.Given as goal

abbrev pub invariant-loop-spec : goal.invariant-loop-spec
invariant-loop-spec g l =
    (goal.iterator-loop-spec g).can_next l.spec-iterator × (goal.iterator-loop-spec g).is_finite l.spec-iterator
    × Closing l.fn.tables.items l.fn.passes.items (string_bytes l.fn.text) l.spec-iterator.a.rest.items l.spec-iterator.b.rest.items l.engines.items (string_bytes l.text)
