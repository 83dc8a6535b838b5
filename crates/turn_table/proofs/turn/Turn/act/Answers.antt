use mir.Syntax.{w64}
use mir.Val.{to_z, of_z}
use Rattle.std.proofs.Common.{◌≡◌, ℕ, ◌<◌, ◌+◌, ◌-◌, length, Some, unwrap_or, sym, ap, ◌∙◌, subst, rules, arith}
use Rattle.turn_table.specs.View.{View, seeing}
use Rattle.turn_table.specs.Rule.{part_of, shown}
use Rattle.turn_table.proofs.LegalLemmas.{steps}
use Rattle.turn_table.proofs.ListLemmas.{some_same}
use Rattle.turn_table.proofs.ViewLemmas.{reaches, acts, grows, no_fewer}
use Rattle.turn_table.proofs.turn.Turn.act.Goals as goal

pub leave-requires-clause-told : goal.leave-requires-clause-told
leave-requires-clause-told g c =
    let held = c.enter-machine.ensures.held in let found = c.enter-machine.ensures.found in let m = c.enter-machine.result in let m' = c.step-told.new.self in
    let now : to_z w64 (of_z w64 c.args.now) ≡ c.args.now = search rules in
    let stepped = rw now at c.step-told.ensures.steps in
    let part : c.args.pass.fixed ≡ g.M.Machine.fixed m = sym (ap (λ p. p.fixed) c.pass.view_is) ∙ some_same _ _ (sym c.pass.invariant.live ∙ found.fixed) in
    let taken : g.M.Machine.takes (g.M.Machine.fixed m) c.args.command = rw (← part) c.requires.taken in
    let more = no_fewer g.M.Machine.caller_of (g.M.Machine.allows (g.M.Machine.fixed m)) (g.M.Machine.history m) (g.M.Machine.history m') c.pass.inside.number c.args.command c.args.now c.step-told.result stepped in
    let before : c.entries-before.result ≡ length (g.M.Machine.history m) = c.entries-before.ensures in
    let after : c.entries.result ≡ length (g.M.Machine.history m') = c.entries.ensures in
    let long : length (g.M.Machine.history m') ≡ length (g.M.Machine.history m) + (c.entries.result - c.entries-before.result) = let x = more.1 in omega arith in record {
      ticket = held.0;
      base = g.M.Machine.history m;
      part = g.M.Machine.fixed m';
      holds = ap (λ m. m.0.stage) held.1;
      live = ap (λ m. m.0.fixed) held.1 ∙ (found.fixed ∙ ap (λ f. Some f) (sym c.step-told.ensures.fixed));
      legal = rw c.step-told.ensures.fixed
          (steps (g.M.Machine.takes (g.M.Machine.fixed m)) (g.M.Machine.allows (g.M.Machine.fixed m)) g.M.Machine.caller_of _ _ _ _ _ c.step-told.result found.legal taken c.requires.in_time stepped);
      grows = grows g.M.Machine.caller_of (g.M.Machine.allows (g.M.Machine.fixed m)) (g.M.Machine.history m) (g.M.Machine.history m') c.pass.inside.number c.args.command c.args.now c.step-told.result
          (c.entries.result - c.entries-before.result) _ stepped long (ap (λ m. m.0.first) held.1 ∙ c.pass.invariant.numbered);
    }

pub invariant_of-pass : goal.invariant_of-pass
invariant_of-pass g c =
    let held = c.enter-machine.ensures.held in let found = c.enter-machine.ensures.found in let m = c.enter-machine.result in let m' = c.step-told.new.self in
    let rests = c.leave.ensures.settled in let was = c.pass.invariant in
    let now : to_z w64 (of_z w64 c.args.now) ≡ c.args.now = search rules in
    let stepped = rw now at c.step-told.ensures.steps in
    let part : c.args.pass.fixed ≡ g.M.Machine.fixed m = sym (ap (λ p. p.fixed) c.pass.view_is) ∙ some_same _ _ (sym was.live ∙ found.fixed) in
    let taken : g.M.Machine.takes (g.M.Machine.fixed m) c.args.command = rw (← part) c.requires.taken in
    let home : g.M.Machine.fixed m ≡ part_of g.M.Machine.anything c.pass.inside.seat = sym (some_same _ _ (sym was.live ∙ found.fixed)) in
    let legal = steps (g.M.Machine.takes (g.M.Machine.fixed m)) (g.M.Machine.allows (g.M.Machine.fixed m)) g.M.Machine.caller_of _ _ _ _ _ c.step-told.result found.legal taken c.requires.in_time stepped in
    let known = ap (λ m. m.0.fixed) rests ∙ (ap (λ m. m.0.fixed) held.1 ∙ was.live) in
    let same : part_of g.M.Machine.anything c.leave.new.seat ≡ part_of g.M.Machine.anything c.pass.inside.seat = ap (λ o. unwrap_or o g.M.Machine.anything) known in record {
      bare = ap (λ m. m.1) rests;
      idle = ap (λ m. m.0.stage) rests;
      live = known ∙ ap (λ f. Some f) (sym same);
      numbered = ap (λ m. m.0.first) rests ∙ (ap (λ m. m.0.first) held.1 ∙ was.numbered);
      above = subst (λ (bound : ℕ). c.pass.inside.number < bound) (sym (ap (λ m. m.0.bound) rests ∙ ap (λ m. m.0.bound) held.1)) was.above;
      legal = rw same (rw (← home) (rw (ap (λ m. m.0.seen) rests) legal));
    }

pub returns-clause-acts : goal.returns-clause-acts
returns-clause-acts g c =
    let held = c.enter-machine.ensures.held in let found = c.enter-machine.ensures.found in let m = c.enter-machine.result in let m' = c.step-told.new.self in
    let rests = c.leave.ensures.settled in let was = c.pass.invariant in let w = c.pass.inside in
    let now : to_z w64 (of_z w64 c.args.now) ≡ c.args.now = search rules in
    let stepped = rw now at c.step-told.ensures.steps in
    let home : g.M.Machine.fixed m ≡ part_of g.M.Machine.anything w.seat = sym (some_same _ _ (sym was.live ∙ found.fixed)) in
    let old : View g.row.M-Entry.Denot g.row.M-Fixed.Denot = shown g.M.Machine.anything w.number w.seat in
    let table = c.leave.ensures.table ∙ c.enter-machine.ensures.table in
    let then : shown g.M.Machine.anything w.number c.leave.new.seat ≡ seeing old (g.M.Machine.history m') =
    λ i. record old {
      table = table i;
      bound = (ap (λ s. s.0.bound) rests ∙ ap (λ s. s.0.bound) held.1) i;
      alone = (ap (λ s. s.0.alone) rests ∙ ap (λ s. s.0.alone) held.1) i;
      fixed = (ap (λ s. unwrap_or s.0.fixed g.M.Machine.anything) rests ∙ ap (λ s. unwrap_or s.0.fixed g.M.Machine.anything) held.1) i;
      seen = ap (λ s. s.0.seen) rests i;
    } in
    rw (← c.pass.view_is)
    (acts g.M.Machine.caller_of g.M.Machine.allows old _ (g.M.Machine.history m) (g.M.Machine.history m') c.args.command c.args.now c.step-told.result
    (reaches g.M.Machine.caller_of old (g.M.Machine.history m) (rw was.numbered at found.front) found.alone)
    (rw home at stepped) then)
