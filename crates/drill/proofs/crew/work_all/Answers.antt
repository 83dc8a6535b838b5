-- Jobs, and what their threads share, go to other threads.
use denote.Exit.{no}
use denote.Param.Send.{param_send, arg_send}
use Rattle.std.proofs.Crossing.{sync}
use Rattle.turn_table.specs.View.{IsOf}
use Rattle.drill.proofs.CrewLemmas.{given_ok}
use Rattle.drill.proofs.SendLemmas.{job_send, done_send, turn_sync}
use Rattle.drill.proofs.crew.work_all.Goals as goal

pub map_vec-requires-send-J : goal.map_vec-requires-send-J
map_vec-requires-send-J g c κs lt = param_send 1 _ (arg_send _ no _ job_send)

pub map_vec-requires-send-X : goal.map_vec-requires-send-X
map_vec-requires-send-X g c κs lt = param_send 2 _ (arg_send _ no _ done_send)

-- what they share: the system, the allocator and the turn
pub map_vec-requires-sync-F : goal.map_vec-requires-sync-F
map_vec-requires-sync-F g c κs lt = record {
  shared = λ x b o κ. (
    (
      ((λ q. tt), c.type_bounds.sync-R.shared x.0.now x.0.ref_ptr.0 x.0.ref_ptr.1 _),
      (
        ((λ q. tt), sync.shared x.1.now x.1.ref_ptr.0 x.1.ref_ptr.1 κ),
        (((λ q. tt), turn_sync.shared x.2.now x.2.ref_ptr.0 x.2.ref_ptr.1 _), tt),
      ),
    ),
    λ q. tt,
  );
}

pub returns : goal.returns
returns g c =
    given_ok _ _ (λ done. IsOf c.args.turn.now done.pass) (λ a b given. given) c.args.jobs.items c.map_vec.result (λ v. v.items) (λ v. v.len) (λ v. v.ok.0) c.args.jobs.len c.args.jobs.ok.0
    c.map_vec.ensures.len c.map_vec.ensures.each
