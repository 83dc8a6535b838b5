-- The pairs are applied at once, or one is a connection error.
use Rattle.std.proofs.Common.{rules, ◌≡◌, List, false, None, sym, ap, subst}
use Rattle.h2_frames.specs.declared.frame.Frame.TheVariants as frames
use Rattle.h2_streams.specs.Book.{Book}
use Rattle.h2_conn.specs.Held.{Held}
use Rattle.std.specs.List.{AllByRecursion}
use Rattle.h2_record.specs.declared.control.Control.{Control}
use Rattle.h2_record.specs.declared.control.Control.TheVariants as control
use Rattle.h2_conn.specs.Within.{IsWithin, FitsFrame}
use Rattle.h2_conn.specs.Taking.{Settled, early_of}
use Rattle.h2_record.proofs.FaultLemmas.{good-pairs}
use Rattle.h2_conn.proofs.WithinLemmas.{within-shift, fit-push}
use Rattle.h2_conn.proofs.SettingsSteps.{fails-shift, fails-settings, takes-settings}
use Rattle.h2_conn.proofs.conn.Conn.take_settings.Goals as goal

pub shift-requires-clause-good : goal.shift-requires-clause-good
shift-requires-clause-good c = let held = c.args.self.now in good-pairs held.has_begun held.block held.streams.last c.args.pairs.now c.requires

pub invariant_of-self : goal.invariant_of-self
invariant_of-self c =
    let i = c.self.inside in
    subst (λ (b : Book). IsWithin i.initial b i.control.items i.block i.owed i.flood) (sym c.in_default.ensures.1) c.self.invariant

pub returns-in_default : goal.returns-in_default
returns-in_default c = λ r s.
    let frame = frames.Settings false c.args.pairs.now in
    fails-shift _ r c.args.pairs.now c.shift.new.streams (subst (λ (h : Held). Settled h r) (sym c.self.view_is) s) (subst (λ (h : Held). early_of h frame ≡ None) (sym c.self.view_is) c.requires)
    c.in_default.ensures.0 (ap (λ (b : Book). b.last) c.in_default.ensures.1)

pub invariant_of-self-in-Err : goal.invariant_of-self-in-Err
invariant_of-self-in-Err c =
    let i = c.self.inside in
    let held = c.args.self.now in
    within-shift i.initial c.in-Some.initial i.flood i.flood c.args.pairs.now i.streams c.shift.new.streams i.control.items i.control.items i.block i.owed c.self.invariant
    (good-pairs held.has_begun held.block held.streams.last c.args.pairs.now c.requires) c.in-Some.ensures.1 c.in-Some.ensures.2 c.self.invariant.fit c.self.invariant.few

pub invariant_of-self-in_err-push_back-in-Ok : goal.invariant_of-self-in_err-push_back-in-Ok
invariant_of-self-in_err-push_back-in-Ok c =
    let i = c.self.inside in
    let held = c.args.self.now in
    within-shift i.initial c.in-Some.initial i.flood i.flood c.args.pairs.now i.streams c.shift.new.streams i.control.items c.push_back.new.self.items i.block i.owed c.self.invariant
    (good-pairs held.has_begun held.block held.streams.last c.args.pairs.now c.requires) c.in-Some.ensures.1 c.in-Some.ensures.2 (search rules) c.self.invariant.few

pub invariant_of-self-in-Ok : goal.invariant_of-self-in-Ok
invariant_of-self-in-Ok c =
    let i = c.self.inside in
    let held = c.args.self.now in
    within-shift i.initial c.in-Some.initial i.flood c.in-Ok.flood c.args.pairs.now i.streams c.shift.new.streams i.control.items c.push_back.new.self.items i.block i.owed c.self.invariant
    (good-pairs held.has_begun held.block held.streams.last c.args.pairs.now c.requires) c.in-Some.ensures.1 c.in-Some.ensures.2 (subst (λ (waiting : List Control). AllByRecursion FitsFrame waiting) (sym c.in_ok-push_back-in-Ok.ensures.items) (fit-push i.control.items control.SettingsAck c.self.invariant.fit tt)) c.in-Ok.ensures.2

pub returns-in-Err : goal.returns-in-Err
returns-in-Err c = λ r s.
    let frame = frames.Settings false c.args.pairs.now in
    fails-settings _ r c.args.pairs.now c.shift.new.streams c.in-Some.initial c.in-Err.fault (subst (λ (h : Held). Settled h r) (sym c.self.view_is) s)
    (subst (λ (h : Held). early_of h frame ≡ None) (sym c.self.view_is) c.requires) c.in-Some.ensures.0 c.in-Err.ensures (ap (λ (b : Book). b.last) c.in-Some.ensures.2)

pub returns-in_ok-push_back-in-Ok : goal.returns-in_ok-push_back-in-Ok
returns-in_ok-push_back-in-Ok c = λ r s.
    let frame = frames.Settings false c.args.pairs.now in
    rw c.in_ok-push_back-in-Ok.ensures.items
    (takes-settings _ r c.args.pairs.now c.in-Some.initial (subst (λ (h : Held). Settled h r) (sym c.self.view_is) s) c.in-Some.ensures.1 c.shift.new.streams c.in-Ok.flood
    (subst (λ (h : Held). early_of h frame ≡ None) (sym c.self.view_is) c.requires) c.in-Some.ensures.0 c.in-Some.ensures.2 c.in-Ok.ensures.0 c.in-Ok.ensures.1)
