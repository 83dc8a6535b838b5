-- Links that are served one after another.
use Rattle.std.specs.Prelude.{◌≡◌, ℕ, ℤ, Bool, true, false, List, [], ◌∷◌, Option}
use Rattle.links.specs.Told.{Tells}
use Rattle.links.specs.Link.{Moved}
use Rattle.table_model.specs.History.{History}
use Rattle.turn_table.specs.View.{Reaches, seeing}
use Rattle.open_tables.specs.Tables.{TableView}
use Rattle.open_tables.specs.Plans.{caller_in}
use Rattle.conn_service.specs.declared.ending.Ending.{Ending}
use Rattle.conn_service.specs.Served.{Planning}
use Rattle.conn_service.specs.Serves.{Shown, Serves}

-- What a link shows: what moved and the bytes left, where it tells them, whether a read met the end of them, whether it is
-- closed, and its count of faults.
pub record LinkShows : Type 0 where
  pub log : Option (List Moved)
  pub left : Option (List ℕ)
  pub ended : Bool
  pub closed : Bool
  pub faults : ℕ

-- a link beside the readings of a clock
abbrev pub shown_at : LinkShows → (readings : Option (List ℤ)) → Shown
shown_at link readings = record { log = link.log; left = link.left; ended = link.ended; faults = link.faults; readings = readings }

-- A link as the door gave it, and as it was handed back.
pub record Visit (L : Type 0) : Type 0 where
  pub given : L
  pub back : L

-- A pass has seen entries of others more, if there are any, and none of its own.
abbrev pub SeesOthers : (old new : TableView) → Type 0
SeesOthers old new = (point : History) × Reaches caller_in old point × (new ≡ seeing old point)

abbrev pub EachSeesOthers : (passes after : List TableView) → Type 0
EachSeesOthers [] [] = Unit {0}
EachSeesOthers (old ∷ passes) (new ∷ after) = SeesOthers old new × EachSeesOthers passes after
EachSeesOthers _ _ = ⊥

module _ {L : Type 0} (shows : L → LinkShows) (plan : Planning) where
  -- A link that was given open, with nothing in its log, was served by these passes to an end, and is closed.
  pub record IsServed (visit : Visit L) (passes after : List TableView) (since until : Option (List ℤ)) : Type 0 where
    pub end : Ending
    pub was_open : (shows visit.given).closed ≡ false
    pub was_new : Tells (shows visit.given).log []
    pub served : Serves plan passes after (shown_at (shows visit.given) since) (shown_at (shows visit.back) until) end
    pub closed : (shows visit.back).closed ≡ true

  -- The links were served in this order. Before each, and behind the last, the passes may have seen what others added.
  -- The readings of the clock go on from link to link.
  abbrev pub ServesInTurn : List (Visit L) → (passes after : List TableView) → (since until : Option (List ℤ)) → Type 0
  ServesInTurn [] passes after since until = EachSeesOthers passes after × (until ≡ since)
  ServesInTurn (visit ∷ visits) passes after since until =
      (before behind : List TableView) × (between : Option (List ℤ)) × EachSeesOthers passes before × IsServed visit before behind since between
      × ServesInTurn visits behind after between until
