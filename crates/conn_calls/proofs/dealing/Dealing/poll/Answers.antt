-- A body was taken out, if there was one; and let go, or polled.
use Rattle.std.proofs.Common.{◌≡◌, ◌∙◌, ap, sym, false}
use Rattle.std.specs.Prelude.{is_some}
use Rattle.h2_streams.specs.Book.{find}
use Rattle.conn_calls.specs.Dealing.{Dealt}
use Rattle.conn_calls.proofs.PollingLemmas.{took-none, took-dead}
use Rattle.conn_calls.proofs.dealing.Dealing.poll.Goals as goal

pub returns-in_default : goal.returns-in_default
returns-in_default g c =
    took-none c.args.self.now c.take_body.new.self c.args.id (record { conn = c.take_body.ensures.conn; was = sym c.in_default.ensures.body; others = c.take_body.ensures.others })

pub returns-then-not-is_live : goal.returns-then-not-is_live
returns-then-not-is_live g c =
    let dead : is_some (find c.take_body.new.self.conn.streams c.args.id) ≡ false = ap (λ (d : Dealt). is_some (find d.conn.streams c.args.id)) (sym c.self.view_is) ∙ sym c.if-not-is_live.ensures in
    took-dead c.args.self.now c.take_body.new.self c.args.id c.in-Some.body (record { conn = c.take_body.ensures.conn; was = sym c.in-Some.ensures.body; others = c.take_body.ensures.others }) dead

pub poll_body-polled-requires : goal.poll_body-polled-requires
poll_body-polled-requires g c = ap (λ (d : Dealt). is_some (find d.conn.streams c.args.id)) (sym c.self.view_is) ∙ sym c.if-not-is_live.ensures

pub returns : goal.returns
returns g c = c.poll_body-polled.ensures c.args.self.now (record { conn = c.take_body.ensures.conn; was = sym c.in-Some.ensures.body; others = c.take_body.ensures.others })
