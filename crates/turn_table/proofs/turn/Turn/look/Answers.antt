use Rattle.std.proofs.Common.{◌≡◌, unwrap_or, refl, sym, ap, ◌∙◌, inl}
use Rattle.turn_table.specs.View.{View, seeing}
use Rattle.turn_table.specs.Rule.{part_of, shown}
use Rattle.turn_table.proofs.ListLemmas.{some_same}
use Rattle.turn_table.proofs.ViewLemmas.{reaches, looked}
use Rattle.turn_table.proofs.turn.Turn.look.Goals as goal

pub leave-requires-clause-told : goal.leave-requires-clause-told
leave-requires-clause-told g c = let held = c.enter-machine.ensures.held in let found = c.enter-machine.ensures.found in record {
  ticket = held.0;
  base = g.M.Machine.history c.enter-machine.result;
  part = g.M.Machine.fixed c.enter-machine.result;
  holds = ap (λ m. m.0.stage) held.1;
  live = ap (λ m. m.0.fixed) held.1 ∙ found.fixed;
  legal = found.legal;
  grows = inl (refl, refl);
}

pub returns-clause-looks : goal.returns-clause-looks
returns-clause-looks g c =
    let held = c.enter-machine.ensures.held in let found = c.enter-machine.ensures.found in let m = c.enter-machine.result in
    let rests = c.leave.ensures.settled in let was = c.pass.invariant in let w = c.pass.inside in
    let home : g.M.Machine.fixed m ≡ part_of g.M.Machine.anything w.seat = sym (some_same _ _ (sym was.live ∙ found.fixed)) in
    let old : View g.row.M-Entry.Denot g.row.M-Fixed.Denot = shown g.M.Machine.anything w.number w.seat in
    let table = c.leave.ensures.table ∙ c.enter-machine.ensures.table in
    let then : shown g.M.Machine.anything w.number c.leave.new.seat ≡ seeing old (g.M.Machine.history m) =
    λ i. record old {
      table = table i;
      bound = (ap (λ s. s.0.bound) rests ∙ ap (λ s. s.0.bound) held.1) i;
      alone = (ap (λ s. s.0.alone) rests ∙ ap (λ s. s.0.alone) held.1) i;
      fixed = (ap (λ s. unwrap_or s.0.fixed g.M.Machine.anything) rests ∙ ap (λ s. unwrap_or s.0.fixed g.M.Machine.anything) held.1) i;
      seen = ap (λ s. s.0.seen) rests i;
    } in
    rw (← c.pass.view_is)
    (looked g.M.Machine.caller_of g.M.Machine.looks old _ (g.M.Machine.history m) c.args.key.now c.look-told.result
    (reaches g.M.Machine.caller_of old (g.M.Machine.history m) (rw was.numbered at found.front) found.alone)
    (rw home at c.look-told.ensures) then)
