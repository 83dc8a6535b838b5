-- What follows once the workers have stopped.
use Rattle.std.specs.Prelude.{◌≡◌, ℕ, ◌+◌, ℤ, List, [], ◌∷◌, ◌++◌, map, length, flat_map, Option, All}
use Rattle.links.specs.Told.{more}
use Rattle.job_queue.specs.declared.hands.Known.{Known}
use Rattle.job_queue.specs.Queue.{both, taker, Settles}
use Rattle.open_tables.specs.Tables.{TableView, OpenTable}
use Rattle.conn_service.specs.Computed.{AreAlone}
use Rattle.conn_service.specs.Served.{Planning}
use Rattle.server.specs.Splits.{AreGathered}
use Rattle.server.specs.Crew.{AreTeams, joined_hand}
use Rattle.server.specs.Works.{HasWorked}
use Rattle.server.specs.Serving.{DoorShows}
use Rattle.server.specs.Visits.{LinkShows}

module _ {W L J : Type 0} (passes_of : W → List TableView) (hand_of : W → Known J) (links_of : W → List L) where
  -- So many workers were made: the others, and then the first, which has the given clock. Each has its passes, a clock, a
  -- hand that took nothing yet, and no link.
  pub record IsCrew {C : Type 0} (clock_of : W → C) (is_clone : C → C → Type 0) (given : C) (tables : List OpenTable) (workers : ℕ) (passes : List TableView) (crew : List W) : Type 0 where
    pub others : List W
    pub first : W
    pub is : crew ≡ others ++ first ∷ []
    pub count : length others + 1 ≡ workers
    pub teams : AreTeams tables passes (passes_of first) (map passes_of others)
    pub clock : clock_of first ≡ given
    pub clones : All (λ worker. is_clone given (clock_of worker)) others
    pub new : All (λ worker. (hand_of worker ≡ taker) × (links_of worker ≡ [])) crew

  -- The passes of the others were joined to those of the first, which served what was left in the queue. Then all links
  -- were handed back, those of the first before those of the others, and no job is left.
  pub record HasFinished (readings_of : W → Option (List ℤ)) (shows : L → LinkShows) (link_of : J → L) (plan : Planning) (crew : List W) (after : List TableView)
      (old new : DoorShows L) (now : Option (List ℤ)) (hand : Known J) : Type 0 where
    pub others : List W
    pub first : W
    pub is : crew ≡ others ++ first ∷ []
    pub joined : List TableView
    pub gathered : AreGathered (passes_of first) (map passes_of others) joined
    pub links : List L
    pub last : Known J
    pub worked : HasWorked shows link_of plan joined after (readings_of first) now (links_of first) links (hand_of first).taken last.taken
    pub alone : AreAlone joined → AreAlone after
    pub settles : Settles (both (joined_hand hand (map hand_of others)) last) 0
    pub left : new.left ≡ old.left
    pub handed : new.handed ≡ more old.handed (links ++ flat_map links_of others)
    pub out : new.out + length (links ++ flat_map links_of others) ≡ old.out
