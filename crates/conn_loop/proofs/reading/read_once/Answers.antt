-- Each exit is a lemma.
use Rattle.std.proofs.Common.{refl}
use Rattle.conn_loop.proofs.RoundLemmas.{has-heard, heard-more, heard-memory, stayed, read-fault}
use Rattle.conn_loop.proofs.reading.read_once.Goals as goal

pub take_frame-requires-clause-frame : goal.take_frame-requires-clause-frame
take_frame-requires-clause-frame g c = let e = rw c.in-Frame.is at c.hear.ensures.hears in e.0.takes.1

pub returns-in-Frame-clause-reads : goal.returns-in-Frame-clause-reads
returns-in-Frame-clause-reads g c passes0 old s =
    let e = rw c.in-Frame.is at c.hear.ensures.hears in
    c.take_frame.ensures.takes passes0 old (has-heard _ passes0 _ old _ _ _ _ _ _ s refl e.0.bytes e.0.few e.0.told e.1 _ _ e.0.takes.0.answers e.0.takes.0.after)

pub returns-in-More-clause-reads : goal.returns-in-More-clause-reads
returns-in-More-clause-reads g c passes0 old s =
    let e = rw c.in-More.is at c.hear.ensures.hears in
    heard-more _ passes0 _ old _ _ _ _ _ _ s refl e.0.bytes e.0.few e.0.told e.1 _ e.0.takes.answers e.0.takes.after

pub returns-in-Fault-clause-reads : goal.returns-in-Fault-clause-reads
returns-in-Fault-clause-reads g c passes0 old s =
    let e = rw c.in-Fault.is at c.hear.ensures.hears in
    c.break_off-ending.ensures.breaks _ _ passes0 _ old (has-heard _ passes0 _ old _ _ _ _ _ _ s refl e.0.bytes e.0.few e.0.told e.1 _ _ e.0.takes.answers e.0.takes.after)

pub returns-in-NotReady-clause-reads : goal.returns-in-NotReady-clause-reads
returns-in-NotReady-clause-reads g c passes0 old s =
    let e = rw c.in-NotReady.is at c.hear.ensures.hears in
    c.rest-rested.ensures.rests _ _ passes0 _ old (stayed _ passes0 _ old _ _ _ _ _ _ s refl _ e.0 e.1 e.2)

pub returns-in-End-clause-reads : goal.returns-in-End-clause-reads
returns-in-End-clause-reads g c passes0 old s =
    let e = rw c.in-End.is at c.hear.ensures.hears in
    c.at_end.ensures.ends _ e.3 e.4 _ passes0 _ old (stayed _ passes0 _ old _ _ _ _ _ _ s refl _ e.0 e.1 e.2)

pub returns-in-LinkFault-clause-reads : goal.returns-in-LinkFault-clause-reads
returns-in-LinkFault-clause-reads g c passes0 old s =
    let e = rw c.in-LinkFault.is at c.hear.ensures.hears in
    read-fault _ passes0 _ old _ _ _ _ _ s.going refl e.0 e.1

pub returns-in-Memory-clause-reads : goal.returns-in-Memory-clause-reads
returns-in-Memory-clause-reads g c passes0 old s =
    let e = rw c.in-Memory.is at c.hear.ensures.hears in
    heard-memory _ passes0 _ old _ _ _ _ _ _ s refl e.0.bytes e.0.few e.0.told e.1
