-- The messages within the message wait in front of the others.
use Rattle.std.proofs.Common.{◌++◌, ap, ◌∙◌, arith}
use Rattle.proto_fields.specs.Spans.{part, records_in}
use Rattle.schema_msgs.specs.Walk.{order}
use Rattle.schema_msgs.proofs.WalkLemmas.{few_places, places_within}
use Rattle.schema_msgs.proofs.walks.open.Goals as goal

pub await_all-requires-clause-deep : goal.await_all-requires-clause-deep
await_all-requires-clause-deep c =
    let bytes = c.args.next.message.now in
    let few = few_places bytes (records_in bytes c.in-Ok.found.items) (part bytes) c.in_ok-places.places.items c.in-Ok.ensures.exact (rw c.as_slice.ensures.value at (c.in_ok-places.ensures.bytes bytes)) in
    omega (arith, few, c.requires)

pub returns-clause-within : goal.returns-clause-within
returns-clause-within c =
    let bytes = c.args.next.message.now in
    c.in_ok-await_all.ensures
    ∙ ap (λ ms. ms ++ order c.args.waiting.now.items)
    (places_within c.args.next.depth bytes (records_in bytes c.in-Ok.found.items) (part bytes) c.in_ok-places.places.items c.in-Ok.ensures.exact (rw c.as_slice.ensures.value at (c.in_ok-places.ensures.bytes bytes)))
