-- The frame that went is the first of those that waited.
use Rattle.std.proofs.Common.{rules, refl, sym, ap, ◌∙◌}
use Rattle.h2_frames.specs.Spelling.{spelling}
use Rattle.h2_conn.specs.Held.{Held}
use Rattle.h2_record.specs.Control.{frame_of}
use Rattle.h2_conn.proofs.WithinOut.{within-gone}
use Rattle.h2_conn.proofs.conn.Conn.produce_control.Goals as goal

pub invariant_of-self-in-Some : goal.invariant_of-self-in-Some
invariant_of-self-in-Some c =
    let i = c.self.inside in
    within-gone i.initial i.flood i.streams c.credit.new.streams i.control.items i.block i.owed c.self.invariant c.in-Some.control c.pop_front.new.self.items c.in-Some.ensures.items c.credit.ensures

pub returns-clause-ok : goal.returns-clause-ok
returns-clause-ok c =
    let control = c.in-Some.control in
    record {
      bytes = spelling (frame_of control);
      joined = c.in_ok-put_control-in-Some.ensures.ok;
      is = record {
        control = control;
        behind = c.pop_front.new.self.items;
        first = ap (λ (h : Held). h.control) (sym c.self.view_is) ∙ c.in-Some.ensures.items;
        spelled = refl;
        writable = c.put_control.ensures.writable;
        in_range = c.put_control.ensures.in_range;
        leaves = search rules;
        rest = search rules;
      };
    }
