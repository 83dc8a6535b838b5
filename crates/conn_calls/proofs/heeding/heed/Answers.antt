use Rattle.std.proofs.Common.{◌≡◌, ◌∙◌, ap, sym, [], ◌∷◌, None}
use Rattle.std.specs.Prelude.{option_to_list}
use Rattle.h2_record.specs.Record.{In}
use Rattle.h2_record.specs.Faults.{first_fault_of}
use Rattle.open_tables.specs.Tables.{specs_of}
use Rattle.call_plans.specs.Plans.{plan}
use Rattle.conn_calls.specs.Calls.{kept_in}
use Rattle.conn_calls.specs.Answering.{Start}
use Rattle.conn_calls.specs.Dealing.{text_left, body_in, dealing_of}
use Rattle.conn_calls.proofs.HeedingLemmas.{not-taken, first-hearing, first-answering, heeded-same}
use Rattle.conn_calls.proofs.heeding.heed.Goals as goal

pub returns-in_default-clause-heeds : goal.returns-in_default-clause-heeds
returns-in_default-clause-heeds g c p a =
    let s : Start = record { frame = c.args.frame; played = p; passes = c.args.passes; readings = g.C.Clock.readings c.args.clock.now } in
    not-taken (plan (specs_of c.args.tables.now)) s (dealing_of c.args.conn.now) (dealing_of c.args.conn.now) (kept_in c.args.calls.now) a

pub returns-in-Some-event-clause-heeds : goal.returns-in-Some-event-clause-heeds
returns-in-Some-event-clause-heeds g c p a =
    let s : Start = record { frame = c.args.frame; played = p; passes = c.args.passes; readings = g.C.Clock.readings c.args.clock.now } in
    let stands = c.in-Ok.ensures.stands p.marked a.deals in
    let none = c.in_default-first_fault.is in
    let sound : first_fault_of (In c.args.frame ∷ p.marked) ≡ None = sym (c.first_fault.ensures (In c.args.frame ∷ p.marked) stands) ∙ none in
    let is = ap option_to_list (sym c.in-Some-event.is) ∙ c.in-Ok.ensures.events p.marked a.deals in
    c.hear.ensures.heeds s (first-hearing (plan (specs_of c.args.tables.now)) s (dealing_of c.args.conn.now) (dealing_of c.take.new.self) (kept_in c.args.calls.now) a c.in-Some-event.event is stands (λ id. ap (λ bodies. text_left (body_in bodies id)) c.take.ensures.bodies) sound)

pub returns-in-None-clause-heeds : goal.returns-in-None-clause-heeds
returns-in-None-clause-heeds g c p a =
    let s : Start = record { frame = c.args.frame; played = p; passes = c.args.passes; readings = g.C.Clock.readings c.args.clock.now } in
    let stands = c.in-Ok.ensures.stands p.marked a.deals in
    let none = c.in_default-first_fault.is in
    let sound : first_fault_of (In c.args.frame ∷ p.marked) ≡ None = sym (c.first_fault.ensures (In c.args.frame ∷ p.marked) stands) ∙ none in
    let is = ap option_to_list (sym c.in-None.is) ∙ c.in-Ok.ensures.events p.marked a.deals in
    heeded-same (plan (specs_of c.args.tables.now)) s 0 c.args.passes (g.C.Clock.readings c.args.clock.now) (dealing_of c.take.new.self) (kept_in c.args.calls.now) (first-answering (plan (specs_of c.args.tables.now)) s (dealing_of c.args.conn.now) (dealing_of c.take.new.self) (kept_in c.args.calls.now) a [] is stands (λ id. ap (λ bodies. text_left (body_in bodies id)) c.take.ensures.bodies) sound 0) a.calls
