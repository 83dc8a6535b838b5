-- The bytes are those that are appended to none.
use Rattle.std.proofs.Common.{List, ℕ, subst}
use Rattle.h2_conn.specs.Produces.{ProducesInto}
use Rattle.h2_conn.proofs.IntoLemmas.{into-goes, into-rests}
use Rattle.h2_conn.proofs.conn.Conn.produce.Goals as goal

pub returns-clause-goes : goal.returns-clause-goes
returns-clause-goes c =
    let old = c.args.self.now in
    let room = c.args.room in
    let went = c.in_ok-produce_into.field-0 in
    let after = c.produce_into.new.out.items in
    let new = c.produce_into.new.self in
    rw c.from_vec.ensures (into-goes old room went after new (subst (λ (before : List ℕ). ProducesInto old room went before after new) c.new-bytes.ensures.items c.in_ok-produce_into.ensures.produced))

pub returns-clause-rests : goal.returns-clause-rests
returns-clause-rests c =
    let old = c.args.self.now in
    let room = c.args.room in
    let went = c.in_ok-produce_into.field-0 in
    let after = c.produce_into.new.out.items in
    let new = c.produce_into.new.self in
    rw c.from_vec.ensures (into-rests old room went after new (subst (λ (before : List ℕ). ProducesInto old room went before after new) c.new-bytes.ensures.items c.in_ok-produce_into.ensures.produced))
