-- Each is a lemma.
use Rattle.conn_service.proofs.StepLemmas.{writes-go-on, waits-go-on, fault-ends}
use Rattle.conn_service.proofs.ReadLemmas.{reads-go-on, frames-go-on, frames-end}
use Rattle.conn_service.proofs.GoawayLemmas.{goaway-ends, parts-end}
use Rattle.conn_service.proofs.laws.loop_goes_on.Goals as goal

pub returns-clause-writes : goal.returns-clause-writes
returns-clause-writes c plan passes0 passes old now conn reader kept g next frames pieces behind sent joined moves count deals left =
    writes-go-on plan passes0 passes old now conn reader kept g next frames pieces sent moves behind joined count deals left

pub returns-clause-waits : goal.returns-clause-waits
returns-clause-waits c = waits-go-on

pub returns-clause-fault : goal.returns-clause-fault
returns-clause-fault c plan passes0 passes old now conn reader kept g next frames pieces left sent joined moves rose =
    fault-ends plan passes0 passes old now conn reader kept g next frames pieces sent moves left joined rose

pub returns-clause-reads : goal.returns-clause-reads
returns-clause-reads c = reads-go-on

pub returns-clause-frames : goal.returns-clause-frames
returns-clause-frames c plan passes0 passes old now conn reader kept g next bytes frame after behind keeps heard moved count heeded =
    frames-go-on plan passes0 passes old now conn reader kept g next bytes frame after behind keeps heard heeded moved count

pub returns-clause-goaway : goal.returns-clause-goaway
returns-clause-goaway c plan passes0 passes old now conn reader kept g next bytes answer fault frames pieces heard breaks due sendable joined moves count said =
    goaway-ends plan passes0 passes old now conn reader kept g next bytes answer heard fault frames pieces breaks due sendable joined moves count said

pub returns-clause-parts : goal.returns-clause-parts
returns-clause-parts c plan passes0 passes old now conn reader kept g next bytes answer fault frames pieces left heard breaks due sendable joined moves =
    parts-end plan passes0 passes old now conn reader kept g next bytes answer heard fault frames pieces left breaks due sendable joined moves

pub returns-clause-memory : goal.returns-clause-memory
returns-clause-memory c plan passes0 passes old now conn reader kept g next bytes frame after heard moved count part =
    frames-end plan passes0 passes old now conn reader kept g next bytes frame after heard part moved count
