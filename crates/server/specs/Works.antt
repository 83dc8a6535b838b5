-- What a worker does with the jobs that it takes.
use Rattle.std.specs.Prelude.{◌≡◌, ℤ, List, ◌++◌, map, Option}
use Rattle.open_tables.specs.Tables.{TableView}
use Rattle.conn_service.specs.Served.{Planning}
use Rattle.server.specs.Visits.{LinkShows, Visit, ServesInTurn}

-- The links of these jobs were served in turn, and stand behind those that were served before.
pub record HasWorked {L J : Type 0} (shows : L → LinkShows) (link_of : J → L) (plan : Planning) (passes after : List TableView) (since until : Option (List ℤ))
    (served0 served : List L) (taken0 taken : List J) : Type 0 where
  pub jobs : List J
  pub took : taken ≡ taken0 ++ jobs
  pub visits : List (Visit L)
  pub given : map (λ visit. visit.given) visits ≡ map link_of jobs
  pub back : served ≡ served0 ++ map (λ visit. visit.back) visits
  pub in_turn : ServesInTurn shows plan visits passes after since until
