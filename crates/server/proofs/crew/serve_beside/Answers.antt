-- The workers, and what they share, go to other threads.
use mathlib.Core.List.{[]}
use base.Fraction.{full_share}
use mir.Syntax.{of_param}
use denote.Exit.{no}
use denote.Param.Send.{param_send, arg_send, part_keyless, Quiet-if}
use Rattle.std.proofs.Crossing.{sync}
use Rattle.server.proofs.SendLemmas.{held_send, worked_send, jobs_sync, tables_sync}
use Rattle.server.proofs.crew.serve_beside.Goals as goal

-- the workers that wait, and what they share: the system, the allocator, the tables, the queue and the gate
pub join_mut-requires-send-F : goal.join_mut-requires-send-F
join_mut-requires-send-F g c κs lt =
    let waiting = held_send _ g.L.Link c.type_bounds.send-L _ c.type_bounds.send-C in
    let jobs = jobs_sync _ g.L.Link c.type_bounds.send-L in
    record {
      owned = λ x vs vss. (
        tt,
        (
          (tt, (tt, λ y. (part_keyless _ waiting full_share y x.0.ref_ptr.0 x.0.ref_ptr.1, tt))),
          (
            (tt, c.type_bounds.sync-R.shared x.1.now x.1.ref_ptr.0 x.1.ref_ptr.1 _),
            (
              (tt, sync.shared x.2.now x.2.ref_ptr.0 x.2.ref_ptr.1 []),
              (
                (tt, tables_sync.shared x.3.now x.3.ref_ptr.0 x.3.ref_ptr.1 _),
                ((tt, jobs.shared x.4.now x.4.ref_ptr.0 x.4.ref_ptr.1 _), ((tt, c.type_bounds.sync-G.shared x.5.now x.5.ref_ptr.0 x.5.ref_ptr.1 _), tt)),
              ),
            ),
          ),
        ),
      );
      leaving = λ k. Quiet-if (k (of_param 1)) _ _ (λ x w. (tt, tt)) (λ x w. tt);
    }

pub join_mut-requires-send-A : goal.join_mut-requires-send-A
join_mut-requires-send-A g c κs lt = param_send 3 _ (arg_send _ no _ (worked_send _ g.L.Link c.type_bounds.send-L _ c.type_bounds.send-C))
