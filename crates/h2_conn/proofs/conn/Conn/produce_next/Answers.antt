-- What goes next is seen to once the credit of the latest frame is.
use Rattle.std.proofs.Common.{◌≡◌, None, refl, sym, ap, ◌∙◌}
use Rattle.h2_frames.specs.Spelling.{spelling}
use Rattle.h2_conn.specs.Held.{Held}
use Rattle.h2_conn.specs.Parts.{part_frame}
use Rattle.h2_conn.proofs.GivingLemmas.{sound-of}
use Rattle.h2_conn.proofs.ProduceSteps.{goes-control, goes-part, rests-open, windows-of, Settles}
use Rattle.h2_conn.proofs.conn.Conn.produce_next.Goals as goal

pub produce_part-requires-clause-windows : goal.produce_part-requires-clause-windows
produce_part-requires-clause-windows c = windows-of c.args.self.now c.settle-in-Part.new.self c.args.room c.in-Part.due c.in_ok-settle-in-Part.ensures.rest c.in-Part.ensures

pub returns-in-Nothing : goal.returns-in-Nothing
returns-in-Nothing c =
    let old = c.args.self.now in
    let sound : old.fault ≡ None = ap (λ (h : Held). h.fault) (sym c.self.view_is) ∙ sound-of c.self.inside.fault (sym c.if-is_some.ensures) in
    record { ok = (rests-open old c.args.room sound c.in-Nothing.ensures, refl); err = tt }

pub returns-in_ok-produce_control-in-Control-clause-ok : goal.returns-in_ok-produce_control-in-Control-clause-ok
returns-in_ok-produce_control-in-Control-clause-ok c =
    let old = c.args.self.now in
    let sound : old.fault ≡ None = ap (λ (h : Held). h.fault) (sym c.self.view_is) ∙ sound-of c.self.inside.fault (sym c.if-is_some.ensures) in
    let settles : Settles old c.settle.new.self = record { stands = c.in_ok-settle-in-Control.ensures.stands; rest = c.in_ok-settle-in-Control.ensures.rest } in
    let went = c.in_ok-produce_control-in-Control.ensures.ok in
    record {
      bytes = went.bytes;
      joined = went.joined;
      is = goes-control old c.settle.new.self c.args.room went.bytes c.produce_control.new.self sound settles c.in-Control.ensures went.is;
    }

pub returns-in_ok-produce_part-in-Part-clause-ok : goal.returns-in_ok-produce_part-in-Part-clause-ok
returns-in_ok-produce_part-in-Part-clause-ok c =
    let old = c.args.self.now in
    let sound : old.fault ≡ None = ap (λ (h : Held). h.fault) (sym c.self.view_is) ∙ sound-of c.self.inside.fault (sym c.if-is_some.ensures) in
    let mid = c.settle-in-Part.new.self in
    let settles : Settles old mid = record { stands = c.in_ok-settle-in-Part.ensures.stands; rest = c.in_ok-settle-in-Part.ensures.rest } in
    let bytes = spelling (part_frame mid c.in-Part.due) in
    let went = c.in_ok-produce_part-in-Part.ensures in
    record {
      bytes = bytes;
      joined = went.spelled;
      is = goes-part old mid c.args.room bytes c.produce_part.new.self sound settles c.in-Part.due c.in-Part.ensures went.goes;
    }
