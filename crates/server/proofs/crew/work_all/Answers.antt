-- What each worker did, and that workers and what they share go to other threads.
use denote.Exit.{no}
use denote.Param.Send.{param_send, arg_send}
use Rattle.std.proofs.Crossing.{sync}
use Rattle.server.proofs.CrewLemmas.{works_ok}
use Rattle.server.proofs.SendLemmas.{worker_send, jobs_sync, tables_sync}
use Rattle.server.proofs.crew.work_all.Goals as goal

pub map_vec-requires-send-J : goal.map_vec-requires-send-J
map_vec-requires-send-J g c κs lt = param_send 1 _ (arg_send _ no _ (worker_send _ g.L.Link c.type_bounds.send-L _ c.type_bounds.send-C))

pub map_vec-requires-send-X : goal.map_vec-requires-send-X
map_vec-requires-send-X g c κs lt = param_send 2 _ (arg_send _ no _ (worker_send _ g.L.Link c.type_bounds.send-L _ c.type_bounds.send-C))

-- what they share: the system, the allocator, the tables, the queue and the gate
pub map_vec-requires-sync-F : goal.map_vec-requires-sync-F
map_vec-requires-sync-F g c κs lt =
    let jobs = jobs_sync _ g.L.Link c.type_bounds.send-L in
    record {
      shared = λ x b o κ. (
        (
          ((λ q. tt), c.type_bounds.sync-R.shared x.0.now x.0.ref_ptr.0 x.0.ref_ptr.1 _),
          (
            ((λ q. tt), sync.shared x.1.now x.1.ref_ptr.0 x.1.ref_ptr.1 κ),
            (
              ((λ q. tt), tables_sync.shared x.2.now x.2.ref_ptr.0 x.2.ref_ptr.1 _),
              (((λ q. tt), jobs.shared x.3.now x.3.ref_ptr.0 x.3.ref_ptr.1 _), (((λ q. tt), c.type_bounds.sync-G.shared x.4.now x.4.ref_ptr.0 x.4.ref_ptr.1 _), tt)),
            ),
          ),
        ),
        λ q. tt,
      );
    }

pub returns : goal.returns
returns g c =
    record {
      works = works_ok _ _ c.args.crew.items c.map_vec.result (λ v. v.items) (λ v. v.len) (λ v. v.ok.0) c.args.crew.len c.args.crew.ok.0 c.map_vec.ensures.len c.map_vec.ensures.each;
    }
