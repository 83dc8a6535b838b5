-- Each test says one thing of the record.
use Rattle.std.proofs.Common.{◌≡◌, ◌≢◌, inl, inr, sym, arith, rules}
use mir.Syntax.{w64}
use mir.Val.{to_z, of_z}
use Rattle.std.proofs.lemmas.Bool.{eqb-true, eqb-false}
use Rattle.h2_record.specs.Room.{room_in}
use Rattle.conn_calls.proofs.PollingLemmas.{not-live, no-room}
use Rattle.conn_calls.proofs.polling.is_ready.Goals as goal

pub returns-then-not-is_live-clause-may : goal.returns-then-not-is_live-clause-may
returns-then-not-is_live-clause-may c is r stands sound = inl (not-live c.args.conn.now c.args.id (sym c.if-not-is_live.ensures) r stands sound)

pub returns-then-room_of-le0-clause-held : goal.returns-then-room_of-le0-clause-held
returns-then-room_of-le0-clause-held c is r stands sound =
    let fits : to_z w64 (of_z w64 c.room_of.result) ≡ c.room_of.result = search rules in
    inl (no-room c.room_of.result (room_in r c.args.id) fits (c.room_of.ensures r stands sound) c.if-room_of-le0.true)

pub returns-clause-held : goal.returns-clause-held
returns-clause-held c is r stands sound =
    let some : c.waiting.result ≢ 0 = eqb-false c.waiting.result 0 is in
    inr (omega (arith, c.waiting.ensures r stands sound, some))

pub returns-clause-may : goal.returns-clause-may
returns-clause-may c is r stands sound = inr (omega (arith, c.waiting.ensures r stands sound, eqb-true c.waiting.result 0 is))
