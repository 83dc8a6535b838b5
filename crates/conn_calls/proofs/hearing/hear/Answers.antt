use Rattle.std.proofs.Common.{sym, subst, false, [], ◌∷◌}
use Rattle.open_tables.specs.Tables.{specs_of}
use Rattle.conn_requests.specs.declared.asks.Ask.TheVariants as ask
use Rattle.conn_requests.specs.declared.asks.Over.TheVariants as over
use Rattle.conn_requests.specs.Decided.{has_answer}
use Rattle.call_plans.specs.Plans.{plan}
use Rattle.conn_calls.specs.Calls.{kept_in}
use Rattle.conn_calls.specs.Answering.{Answering, Hearing, requests, refuses, bodies_on}
use Rattle.conn_calls.specs.Dealing.{dealing_of}
use Rattle.conn_calls.proofs.HeedingLemmas.{taken-others, heeded-over, heeded-same}
use Rattle.conn_calls.proofs.hearing.hear.Goals as goal

pub returns-in-Opened-clause-heeds : goal.returns-in-Opened-clause-heeds
returns-in-Opened-clause-heeds g c s h =
    let h' = subst (Hearing (plan (specs_of c.args.service.now.tables.now)) s c.args.passes (g.C.Clock.readings c.args.clock.now) (dealing_of c.args.conn.now) (kept_in c.args.calls.now)) c.in-Opened.is h in
    let w = h'.answering c.in-Opened.stream in
    let w' = subst (λ b. Answering (plan (specs_of c.args.service.now.tables.now)) s c.in-Opened.stream c.args.passes (g.C.Clock.readings c.args.clock.now) (dealing_of c.args.conn.now) b (requests c.in-Opened.stream c.in-Opened.fields c.in-Opened.ended)) h'.fresh w in
    let others = taken-others (plan (specs_of c.args.service.now.tables.now)) s c.in-Opened.stream c.args.passes (g.C.Clock.readings c.args.clock.now) (dealing_of c.args.conn.now) (kept_in c.take.new.self) (kept_in c.args.calls.now) h'.kept_are c.take.ensures.others in
    c.open_call.ensures.heeds s (subst (λ l. Answering (plan (specs_of c.args.service.now.tables.now)) s c.in-Opened.stream c.args.passes (g.C.Clock.readings c.args.clock.now) (dealing_of c.args.conn.now) false (requests c.in-Opened.stream l c.in-Opened.ended)) (sym c.fields-in-Opened.ensures) w') others

pub returns-in-TooLarge-clause-heeds : goal.returns-in-TooLarge-clause-heeds
returns-in-TooLarge-clause-heeds g c s h =
    let h' = subst (Hearing (plan (specs_of c.args.service.now.tables.now)) s c.args.passes (g.C.Clock.readings c.args.clock.now) (dealing_of c.args.conn.now) (kept_in c.args.calls.now)) c.in-TooLarge.is h in
    let w = h'.answering c.in-TooLarge.stream in
    let others = taken-others (plan (specs_of c.args.service.now.tables.now)) s c.in-TooLarge.stream c.args.passes (g.C.Clock.readings c.args.clock.now) (dealing_of c.args.conn.now) (kept_in c.take-in-TooLarge.new.self) (kept_in c.args.calls.now) h'.kept_are c.take-in-TooLarge.ensures.others in
    c.refuse.ensures.heeds s (kept_in c.take-in-TooLarge.new.self) (subst (λ b. Answering (plan (specs_of c.args.service.now.tables.now)) s c.in-TooLarge.stream c.args.passes (g.C.Clock.readings c.args.clock.now) (dealing_of c.args.conn.now) b (refuses c.in-TooLarge.stream (ask.Ends over.ListTooLarge ∷ []))) h'.fresh w) others

pub returns-in-Body-clause-heeds : goal.returns-in-Body-clause-heeds
returns-in-Body-clause-heeds g c s h =
    let h' = subst (Hearing (plan (specs_of c.args.service.now.tables.now)) s c.args.passes (g.C.Clock.readings c.args.clock.now) (dealing_of c.args.conn.now) (kept_in c.args.calls.now)) c.in-Body.is h in
    let w = h'.answering c.in-Body.stream in
    c.hear_body.ensures.heeds s (subst (λ l. Answering (plan (specs_of c.args.service.now.tables.now)) s c.in-Body.stream c.args.passes (g.C.Clock.readings c.args.clock.now) (dealing_of c.args.conn.now) (has_answer s.played.used c.in-Body.stream) (bodies_on c.in-Body.stream l c.in-Body.ended)) (sym c.bytes-in-Body.ensures) w) h'.kept_are

pub returns-in-Ended-clause-heeds : goal.returns-in-Ended-clause-heeds
returns-in-Ended-clause-heeds g c s h =
    let h' = subst (Hearing (plan (specs_of c.args.service.now.tables.now)) s c.args.passes (g.C.Clock.readings c.args.clock.now) (dealing_of c.args.conn.now) (kept_in c.args.calls.now)) c.in-Ended.is h in
    c.hear_body-in-Ended.ensures.heeds s (h'.answering c.in-Ended.stream) h'.kept_are

pub returns-in-Reset-clause-heeds : goal.returns-in-Reset-clause-heeds
returns-in-Reset-clause-heeds g c s h =
    let h' = subst (Hearing (plan (specs_of c.args.service.now.tables.now)) s c.args.passes (g.C.Clock.readings c.args.clock.now) (dealing_of c.args.conn.now) (kept_in c.args.calls.now)) c.in-Reset.is h in
    let others = taken-others (plan (specs_of c.args.service.now.tables.now)) s c.in-Reset.stream c.args.passes (g.C.Clock.readings c.args.clock.now) (dealing_of c.args.conn.now) (kept_in c.take-in-Reset.new.self) (kept_in c.args.calls.now) h'.kept_are c.take-in-Reset.ensures.others in
    heeded-over (plan (specs_of c.args.service.now.tables.now)) s c.in-Reset.stream c.args.passes (g.C.Clock.readings c.args.clock.now) (dealing_of c.args.conn.now) (has_answer s.played.used c.in-Reset.stream) (kept_in c.take-in-Reset.new.self) (h'.answering c.in-Reset.stream) others

pub returns-in-Fault-clause-heeds : goal.returns-in-Fault-clause-heeds
returns-in-Fault-clause-heeds g c s h =
    let h' = subst (Hearing (plan (specs_of c.args.service.now.tables.now)) s c.args.passes (g.C.Clock.readings c.args.clock.now) (dealing_of c.args.conn.now) (kept_in c.args.calls.now)) c.in-Fault.is h in
    heeded-same (plan (specs_of c.args.service.now.tables.now)) s 0 c.args.passes (g.C.Clock.readings c.args.clock.now) (dealing_of c.args.conn.now) (kept_in c.args.calls.now) (h'.answering 0) h'.kept_are
