-- Links that are served one after another, and the report behind them.
use Rattle.std.proofs.Common.{◌≡◌, ℕ, ℤ, List, [], ◌∷◌, ◌++◌, Option, refl, sym, ap, ◌∙◌, subst, append-nil, append_assoc}
use Rattle.std.proofs.lemmas.List.Elements.{All-weaker}
use Rattle.table_model.specs.History.{History}
use Rattle.table_model.specs.Table.{Table}
use Rattle.open_tables.specs.Tables.{TableView, OpenTable}
use Rattle.conn_service.specs.Served.{Planning}
use Rattle.conn_service.specs.Computed.{histories_of}
use Rattle.server.specs.Report.{AreClosed, Reports}
use Rattle.server.specs.Visits.{LinkShows, Visit, IsServed, EachSeesOthers, ServesInTurn}
use Rattle.server.specs.Serving.{DoorShows, Share, IsShare, AreFronts, ServesLinks, ServesDoor, entries_of}
use Rattle.server.specs.Links.{LeavesPasses}
use Rattle.server.proofs.ReportLemmas.{closed_alone}

-- ---- passes

pub sees_none : (passes : List TableView) → EachSeesOthers passes passes
sees_none [] = tt
sees_none (pass ∷ passes) = ((pass.seen, record { more = []; is = sym (append-nil pass.seen); others = refl; none_if_alone = λ alone. refl }, refl), sees_none passes)

pub fronts_then : (a b c : List History) → AreFronts a b → AreFronts b c → AreFronts a c
fronts_then [] [] c first then = then
fronts_then [] (y ∷ b) c first then = absurd first
fronts_then (x ∷ a) [] c first then = absurd first
fronts_then (x ∷ a) (y ∷ b) [] first then = absurd then
fronts_then (x ∷ a) (y ∷ b) (z ∷ c) first then =
    let f = first.0 in
    let t = then.0 in
    ((f.0 ++ t.0, sym (append_assoc x f.0 t.0) ∙ ap (λ l. l ++ t.0) f.1 ∙ t.1), fronts_then a b c first.1 then.1)

-- what the passes have seen begins the histories with which their tables are closed
closed_fronts : (tables : List OpenTable) (passes : List TableView) (engines : List Table) → AreClosed tables passes engines → AreFronts (histories_of passes) (entries_of engines)
closed_fronts [] [] [] closed = tt
closed_fronts [] [] (engine ∷ engines) closed = absurd closed
closed_fronts [] (pass ∷ passes) engines closed = absurd closed
closed_fronts (table ∷ tables) [] engines closed = absurd closed
closed_fronts (table ∷ tables) (pass ∷ passes) [] closed = absurd closed
closed_fronts (table ∷ tables) (pass ∷ passes) (engine ∷ engines) closed =
    let reaches = closed.0.reaches in ((reaches.more, sym reaches.is), closed_fronts tables passes engines closed.1)

-- ---- links

-- one link more, at the end
pub turn_more : {L : Type 0} (shows : L → LinkShows) (asks : Planning) (visits : List (Visit L)) (visit : Visit L) (passes between after : List TableView) (since middle until : Option (List ℤ))
    → ServesInTurn shows asks visits passes between since middle → IsServed shows asks visit between after middle until
    → ServesInTurn shows asks (visits ++ visit ∷ []) passes after since until
turn_more shows asks [] visit passes between after since middle until (sees, same) served =
    (between, after, until, sees, subst (λ r. IsServed shows asks visit between after r until) same served, (sees_none after, refl))
turn_more shows asks (first ∷ visits) visit passes between after since middle until (b, behind, m, sees, is, others) served =
    (b, behind, m, sees, is, turn_more shows asks visits visit behind between after m middle until others served)

-- doors that show the same
pub same_door : {L : Type 0} (a b : DoorShows L) → a.left ≡ b.left → a.handed ≡ b.handed → a.out ≡ b.out → a ≡ b
same_door a b l h o = ap (λ x. record { left = x; handed = a.handed; out = a.out }) l
    ∙ ap (λ x. record { left = b.left; handed = x; out = a.out }) h
    ∙ ap (λ x. record { left = b.left; handed = b.handed; out = x }) o

-- ---- all of them, and the report

module _ {L : Type 0} (shows : L → LinkShows) (clones : Option (List ℤ) → Type 0) (tables : List OpenTable) (workers connections : ℕ) (passes : List TableView)
    (old new : DoorShows L) (before now : Option (List ℤ)) where
  -- a door that began to listen shows the same
  listening : (listens : DoorShows L) (histories : List History) → listens.left ≡ old.left → listens.handed ≡ old.handed → listens.out ≡ old.out
      → ServesLinks shows clones tables workers connections passes listens new before now histories → ServesLinks shows clones tables workers connections passes old new before now histories
  listening listens histories left handed out links =
      subst (λ door. ServesLinks shows clones tables workers connections passes door new before now histories) (same_door listens old left handed out) links

  module _ (after : List TableView) (engines : List Table) (closed : AreClosed tables after engines) where
    further : (gave : List L) (share : Share L) → IsShare shows tables passes gave (histories_of after) share → IsShare shows tables passes gave (entries_of engines) share
    further gave share is = record {
      theirs = is.theirs;
      begins = is.begins;
      among = is.among;
      served = is.served;
      within = fronts_then (histories_of share.after) (histories_of after) (entries_of engines) is.within (closed_fronts tables after engines closed);
    }

    closes : LeavesPasses shows clones tables workers connections passes after old new before now → ServesLinks shows clones tables workers connections passes old new before now (entries_of engines)
    closes leaves =
        let links = leaves.links in
        record {
          gave = links.gave;
          given = links.given;
          enough = links.enough;
          shares = links.shares;
          few = links.few;
          handed = links.handed;
          as_many = links.as_many;
          out = links.out;
          each = All-weaker (IsShare shows tables passes links.gave (histories_of after)) (IsShare shows tables passes links.gave (entries_of engines)) (further links.gave) links.shares links.each;
          differ = links.differ;
          clocks = links.clocks;
          alone = λ few. closed_alone tables after engines closed (leaves.alone few) ∙ links.alone few;
        }

-- the links of a door that began to listen, and the report
pub serves_door : {L : Type 0} (shows : L → LinkShows) (clones : Option (List ℤ) → Type 0) (tables : List OpenTable) (workers connections : ℕ) (passes after : List TableView)
    (old listens new : DoorShows L) (before now : Option (List ℤ)) (taken0 taken : Option (List ℕ)) (engines : List Table) → listens.left ≡ old.left → listens.handed ≡ old.handed → listens.out ≡ old.out
    → LeavesPasses shows clones tables workers connections passes after listens new before now → Reports tables after taken0 taken engines
    → ServesDoor shows clones tables workers connections passes old new before now taken0 taken engines
serves_door shows clones tables workers connections passes after old listens new before now taken0 taken engines left handed out leaves reports = record {
  links = listening shows clones tables workers connections passes old new before now listens (entries_of engines) left handed out
      (closes shows clones tables workers connections passes listens new before now after engines reports.closed leaves);
  last = after;
  reports = reports;
}
