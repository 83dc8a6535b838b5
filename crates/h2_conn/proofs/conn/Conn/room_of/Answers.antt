-- The windows are the record's.
use Rattle.std.proofs.Common.{◌≡◌, ℤ, w64, to_z, of_z, IsSome, sym, ap, subst, ◌∙◌, arith}
use Rattle.std.specs.Prelude.{pos, ◌-ℤ◌, ◌≤ℤ◌}
use Rattle.std.specs.Int.{int_min}
use Rattle.std.proofs.lemmas.Int.{ints}
use Rattle.h2_flow.specs.Range.{least}
use Rattle.h2_streams.specs.Book.{find}
use Rattle.h2_conn.specs.Held.{Held}
use Rattle.h2_conn.specs.Stands.{Stands}
use Rattle.h2_conn.proofs.WaitingLemmas.{room-left, window-least}
use Rattle.h2_conn.proofs.conn.Conn.room_of.Goals as goal

pub room_left-requires-clause-stream : goal.room_left-requires-clause-stream
room_left-requires-clause-stream c =
    let there = subst (λ (h : Held). IsSome (find h.streams c.args.id)) (sym c.self.view_is) c.requires.live in
    let low : least ≤ℤ c.send_of-stream.result = window-least c.self.inside.initial c.args.id c.self.inside.streams.live c.send_of-stream.result c.self.invariant.near there c.send_of-stream.ensures in
    omega (arith, ints, low, c.send_of-stream.type_inv)

pub returns : goal.returns
returns c = λ r s sound.
    let there = subst (λ (h : Held). IsSome (find h.streams c.args.id)) (sym c.self.view_is) c.requires.live in
    let same : to_z w64 (of_z w64 c.send_of-stream.result) ≡ c.send_of-stream.result = omega (arith, ints, c.send_of-stream.type_inv) in
    let result : to_z w64 (of_z w64 c.room_left.result) ≡ c.room_left.result = omega (arith, ints, c.room_left.type_inv) in
    result ∙ c.room_left.ensures ∙ ap (λ (send : ℤ). int_min send c.self.inside.window -ℤ pos c.bytes_waiting.result) same
    ∙ room-left _ r c.args.id c.send_of-stream.result c.bytes_waiting.result (subst (λ (h : Held). Stands h r) (sym c.self.view_is) s) sound there c.send_of-stream.ensures c.bytes_waiting.ensures.value
