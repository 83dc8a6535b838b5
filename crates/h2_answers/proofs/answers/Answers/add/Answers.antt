use Rattle.h2_answers.specs.Waiting.{with_given}
use Rattle.h2_answers.proofs.QueueLemmas.{OnOk-weaker, OnErr-weaker, ChangesOnly-written, written-same}
use Rattle.h2_answers.proofs.answers.Answers.add.Goals as goal

pub returns-in-Some-clause-ok : goal.returns-in-Some-clause-ok
returns-in-Some-clause-ok c =
    rw ((c.get_mut.follows.holds c.add.new.self).0, ← c.self.view_is)
    (OnOk-weaker c.add.result c.add.ensures.ok
    (λ e. ChangesOnly-written c.self.inside.queues.entries c.args.id c.in-Some.queue.now c.add.new.self (λ w. with_given w c.args.given) c.in-Some.ensures.value e))

pub returns-in-Some-clause-err : goal.returns-in-Some-clause-err
returns-in-Some-clause-err c =
    rw ((c.get_mut.follows.holds c.add.new.self).0, ← c.self.view_is)
    (OnErr-weaker c.add.result c.add.ensures.err
    (λ e. written-same c.self.inside.queues.entries c.args.id c.in-Some.queue.now c.add.new.self c.in-Some.ensures.value e))
