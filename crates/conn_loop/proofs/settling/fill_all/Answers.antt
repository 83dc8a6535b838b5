-- Frames, and a part of an answer behind them, one after another.
use Rattle.std.proofs.Common.{◌<◌, ◌-◌, ap, sym, length, subst, arith}
use Rattle.conn_record.specs.declared.limits.TheConstants.{LEAST_ROOM, WRITE_ROOM}
use Rattle.conn_calls.specs.Dealing.{Dealt, dealing_of, IsDealt}
use Rattle.conn_loop.specs.Settling.{Filled}
use Rattle.conn_loop.proofs.SettleLemmas.{begins-filled, filled-on, much-filled, all-filled, polled-on}
use Rattle.conn_loop.proofs.settling.fill_all.Goals as goal

pub loop-init : goal.loop-init
loop-init g c = record {
  can_next = tt;
  is_finite = tt;
  short = omega (arith, ap length c.requires.empty);
  filled = begins-filled (dealing_of c.args.conn.now) c.args.out.now.items c.requires.empty;
}

pub loop-preserved : goal.loop-preserved
loop-preserved g c =
    let mid : Dealt = record { conn = c.conn.inside.conn; bodies = c.conn.inside.bodies.entries } in
    let next : Dealt = record { conn = c.fill_frames.new.conn; bodies = c.conn.inside.bodies.entries } in
    let F : Dealt → Type 0 = λ d. Filled IsDealt (dealing_of c.args.conn.now) (dealing_of d) c.loop.out.items in
    let f = subst F (sym c.conn.view_is) c.loop.invariant.filled in
    let a = c.in_ok-fill_frames.ensures.fills in
    let on = filled-on mid c.fill_frames.new.conn c.loop.out.items c.fill_frames.new.out.items a (dealing_of c.args.conn.now) f in
    record {
      can_next = tt;
      is_finite = tt;
      short = a.fits;
      filled = polled-on (dealing_of c.args.conn.now) next c.poll.new.self c.fill_frames.new.out.items on c.in_ok-poll-in-Some-ready.ensures;
    }

pub returns-then-room-lt-LEAST_ROOM : goal.returns-then-room-lt-LEAST_ROOM
returns-then-room-lt-LEAST_ROOM g c =
    let mid : Dealt = record { conn = c.conn.inside.conn; bodies = c.conn.inside.bodies.entries } in
    let F : Dealt → Type 0 = λ d. Filled IsDealt (dealing_of c.args.conn.now) (dealing_of d) c.loop.out.items in
    let f = subst F (sym c.conn.view_is) c.loop.invariant.filled in
    let little : WRITE_ROOM - length c.fill_frames.new.out.items < LEAST_ROOM = omega (arith, c.fill_frames.new.out.ok.0, c.len-room.ensures, c.if-room-lt-LEAST_ROOM.true) in
    record { fills = much-filled mid c.fill_frames.new.conn c.loop.out.items c.fill_frames.new.out.items c.in_ok-fill_frames.ensures.fills (dealing_of c.args.conn.now) f little }

pub returns-in-None-ready : goal.returns-in-None-ready
returns-in-None-ready g c =
    let mid : Dealt = record { conn = c.conn.inside.conn; bodies = c.conn.inside.bodies.entries } in
    let F : Dealt → Type 0 = λ d. Filled IsDealt (dealing_of c.args.conn.now) (dealing_of d) c.loop.out.items in
    let f = subst F (sym c.conn.view_is) c.loop.invariant.filled in
    record { fills = all-filled mid c.fill_frames.new.conn c.loop.out.items c.fill_frames.new.out.items c.in_ok-fill_frames.ensures.fills (dealing_of c.args.conn.now) f (c.ready.ensures.none c.in-None-ready.is) }
