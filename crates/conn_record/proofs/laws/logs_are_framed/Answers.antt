-- Each is a lemma.
use Rattle.conn_record.proofs.Framed.{uncut, continued}
use Rattle.conn_record.proofs.Unfinished.{holds-unfinished}
use Rattle.conn_record.proofs.Read.{timelines-are-read}
use Rattle.conn_record.proofs.Reading.{pieces-are-framed, nothing-behind-broken}
use Rattle.conn_record.proofs.laws.logs_are_framed.Goals as goal

pub returns-clause-uncut : goal.returns-clause-uncut
returns-clause-uncut c = uncut

pub returns-clause-continued : goal.returns-clause-continued
returns-clause-continued c = continued

pub returns-clause-unfinished : goal.returns-clause-unfinished
returns-clause-unfinished c = holds-unfinished

pub returns-clause-pieces : goal.returns-clause-pieces
returns-clause-pieces c = pieces-are-framed

pub returns-clause-broken : goal.returns-clause-broken
returns-clause-broken c = nothing-behind-broken

pub returns-clause-read : goal.returns-clause-read
returns-clause-read c = timelines-are-read
