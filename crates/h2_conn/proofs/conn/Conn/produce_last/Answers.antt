-- Behind a connection error control frames go alone.
use Rattle.std.proofs.Common.{Option, refl, subst}
use Rattle.h2_record.specs.declared.control.Control.{Control}
use Rattle.h2_conn.specs.Held.{Held}
use Rattle.h2_conn.specs.Producing.{first_of, IsTooLong, IsShort}
use Rattle.h2_conn.proofs.ProduceSteps.{goes-closed, rests-closed}
use Rattle.h2_conn.proofs.conn.Conn.produce_last.Goals as goal

pub returns-then-not-fits : goal.returns-then-not-fits
returns-then-not-fits c =
    let long = subst (λ (first : Option Control). IsTooLong first c.args.room) c.front_of.ensures c.if-not-fits.ensures in
    record { ok = (rests-closed c.args.self.now c.args.room c.requires (subst (λ (h : Held). IsTooLong (first_of h.control) c.args.room) c.self.view_is long), refl); err = tt }

pub returns : goal.returns
returns c =
    let old = c.args.self.now in
    let short = subst (λ (first : Option Control). IsShort first c.args.room) c.front_of.ensures c.if-not-fits.ensures in
    let went = c.in_ok-produce_control.ensures.ok in
    record {
      ok = record {
        bytes = went.bytes;
        joined = went.joined;
        is = goes-closed old c.args.room went.bytes c.produce_control.new.self c.requires went.is (subst (λ (h : Held). IsShort (first_of h.control) c.args.room) c.self.view_is short);
      };
      err = tt;
    }
