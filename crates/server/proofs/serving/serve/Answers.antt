-- What was handed back and served, by the passes that close the tables.
use Rattle.std.proofs.lemmas.Result.{IfOk-weaker}
use Rattle.server.proofs.ServeLemmas.{serves_door}
use Rattle.server.proofs.serving.serve.Goals as goal

pub returns-clause-serves : goal.returns-clause-serves
returns-clause-serves g c =
    let listened = c.listen.ensures in
    IfOk-weaker _ _ _ (λ engines reports. serves_door _ _ _ _ _ _ _ _ _ _ _ _ _ _ _ listened.left listened.handed listened.out c.in_ok-passes.ensures.serves reports) c.report.ensures.reports
