-- The loop's invariant over what a round does: each exit is one law.
use Rattle.std.proofs.Common.{◌≡◌, inl, inr, ℕ, ℤ, ◌+◌, ◌<◌, ◌≤◌, ◌==◌, Bool, true, false, List, [], ◌∷◌, length, Option, None, refl, sym, ◌∙◌, subst, arith}
use Rattle.std.specs.List.{concat}
use Rattle.outside.specs.Faults.{Rose}
use Rattle.links.specs.Told.{more}
use Rattle.links.specs.Link.{Read, Waited, IsSpent}
use Rattle.links.proofs.ToldLemmas.{more-nil}
use Rattle.h2_frames.specs.Held.{Held as ReaderHeld}
use Rattle.h2_frames.specs.Reading.{next_of, need_of, held_with, held_after}
use Rattle.h2_frames.specs.Run.{nothing_held}
use Rattle.h2_frames.specs.declared.frame.Frame.{Frame}
use Rattle.h2_frames.specs.declared.reader.Next.{Next}
use Rattle.h2_frames.specs.declared.reader.Next.TheVariants as answers
use Rattle.h2_conn.specs.Stands.{Stands}
use Rattle.conn_deferral.specs.Deferred.{Dealing}
use Rattle.conn_deferral.specs.Resting.{DealsAll}
use Rattle.open_tables.specs.Tables.{TableView}
use Rattle.conn_record.specs.declared.limits.TheConstants.{MOST_BEHIND}
use Rattle.conn_record.specs.Timeline.{framing_of, timeline_of}
use Rattle.conn_record.proofs.Unfinished.{holds-unfinished}
use Rattle.conn_requests.specs.Decided.{Played}
use Rattle.conn_service.specs.declared.ending.Ending.TheVariants as ending
use Rattle.conn_service.specs.Served.{Planning}
use Rattle.conn_service.specs.Quiet.{IsWritten}
use Rattle.conn_service.specs.Serves.{Shown, Serves}
use Rattle.conn_service.specs.Going.{Kept, Going}
use Rattle.conn_service.specs.Steps.{gone, IsHeard, Heeded, HeededInPart}
use Rattle.conn_service.proofs.GoingLemmas.{going-begins, given_now, quiet-at-rest, done, cut, out-of-memory}
use Rattle.conn_service.proofs.StepLemmas.{writes-go-on, waits-go-on, fault-ends}
use Rattle.conn_service.proofs.ReadLemmas.{reads-go-on, frames-go-on, frames-end}
use Rattle.conn_service.proofs.GoawayLemmas.{parts-end}
use Rattle.conn_loop.specs.Settling.{Went, LeavesNone, WentInPart}
use Rattle.conn_calls.specs.Dealing.{IsDealt}
use Rattle.conn_calls.specs.Heard.{IsAt}
use Rattle.conn_loop.specs.Rounds.{Stays, IsReady, HasHeard}
use Rattle.conn_loop.proofs.NothingLemmas.{heeded-none}

-- where all is written, a frame may begin
pub quiet-is-ready : (plan : Planning) (passes0 passes : List TableView) (old now : Shown) (conn : Dealing) (reader : ReaderHeld) (kept : ℕ → Option Kept) (quiet : Bool) → quiet ≡ true
    → Stays plan passes0 passes old now conn reader kept quiet → IsReady plan passes0 passes old now conn reader kept quiet
quiet-is-ready plan passes0 passes old now conn reader kept quiet is s = record { going = s.going; quiet = s.quiet; ready = inl (s.quiet is) }

-- the connection stands for what was given of what was decided
dealt : {plan : Planning} {passes0 passes : List TableView} {old now : Shown} {conn : Dealing} {reader : ReaderHeld} {kept : ℕ → Option Kept} (g : Going plan passes0 passes old now conn reader kept) → IsDealt conn g.played.marked
dealt g = record { deals = g.deals; sound = g.sound; was_open = g.was_open; was_due = g.was_due }

module _ (plan : Planning) (passes0 passes : List TableView) (old now : Shown) (conn : Dealing) (reader : ReaderHeld) (kept : ℕ → Option Kept) (next : Shown) where
  -- ---- frames are written

  module _ (g : Going plan passes0 passes old now conn reader kept) (readings : next.readings ≡ now.readings) where
    went-on : (behind : Dealing) (w : Went IsDealt conn behind now.log next.log) → next.faults ≡ now.faults
        → (after : Going plan passes0 passes old next behind reader kept) × (after.played ≡ gone g.played w.frames) × ((framing_of after.log).since ≡ (framing_of g.log).since + length (concat w.pieces))
    went-on behind w count =
        writes-go-on plan passes0 passes old now conn reader kept g next w.frames w.pieces (record { due = w.due g.played.marked (dealt g); sendable = w.sendable })
        (record { log = w.told; readings = readings }) behind w.joined count (w.holds g.played.marked (dealt g)).deals (w.left g.played g.left)

    -- until no frame that is due fits
    pub settled-quiet : (behind : Dealing) (w : Went IsDealt conn behind now.log next.log) → next.faults ≡ now.faults
        → LeavesNone IsDealt DealsAll conn behind w.frames → IsReady plan passes0 passes old next behind reader kept true
    settled-quiet behind w count none =
        let after = went-on behind w count in
        let N : Played → Type 0 = λ p. DealsAll behind none.room p.marked in
        let written : IsWritten after.0.played = quiet-at-rest plan passes0 passes old next behind reader kept after.0 none.room none.enough (subst N (sym after.1) (none.none g.played.marked (dealt g))) in
        record { going = after.0; quiet = λ is. written; ready = inl written }

    -- until much was written
    pub settled-behind : (behind : Dealing) (w : Went IsDealt conn behind now.log next.log) → next.faults ≡ now.faults → MOST_BEHIND ≤ length (concat w.pieces)
        → (quiet : Bool) → quiet ≡ false → IsReady plan passes0 passes old next behind reader kept quiet
    settled-behind behind w count much quiet not =
        let after = went-on behind w count in
        let P : ℕ → Type 0 = λ n. MOST_BEHIND ≤ n in
        record { going = after.0; quiet = λ is. absurd cc; ready = inr (subst P (sym after.2) (omega (arith, much))) }

    -- until the link met a fault
    pub settled-fault : WentInPart IsDealt conn now.log next.log → Rose now.faults next.faults → Serves plan passes0 passes old next ending.LinkFault
    settled-fault w rose =
        fault-ends plan passes0 passes old now conn reader kept g next w.frames w.pieces (record { due = w.due g.played.marked (dealt g); sendable = w.sendable })
        (record { log = w.told; readings = readings }) w.left w.joined rose

    nothing-moved : next.log ≡ now.log → next.faults ≡ now.faults → (after : Going plan passes0 passes old next conn reader kept) × (after.played ≡ g.played)
    nothing-moved log count =
        let after = writes-go-on plan passes0 passes old now conn reader kept g next [] [] (record { due = tt; sendable = tt })
        (record { log = log ∙ sym (more-nil now.log); readings = readings }) conn refl count g.deals g.left in
        (after.0, after.1)

    pub moved-nothing : next.log ≡ now.log → next.faults ≡ now.faults → Serves plan passes0 passes old next ending.Memory
    moved-nothing log count = out-of-memory plan passes0 passes old next conn reader kept (nothing-moved log count).0

    -- a read met a fault
    pub read-fault : next.log ≡ now.log → Rose now.faults next.faults → Serves plan passes0 passes old next ending.LinkFault
    read-fault log rose =
        fault-ends plan passes0 passes old now conn reader kept g next [] [] (record { due = tt; sendable = tt }) (record { log = log ∙ sym (more-nil now.log); readings = readings }) [] refl rose

  -- the link waited where all is written
  pub waited : (quiet : Bool) (s : Stays plan passes0 passes old now conn reader kept quiet) → quiet ≡ true → next.readings ≡ now.readings → next.log ≡ more now.log (Waited ∷ []) → next.faults ≡ now.faults
      → Stays plan passes0 passes old next conn reader kept quiet
  waited quiet s is readings log count =
      let after = waits-go-on plan passes0 passes old now conn reader kept s.going next (s.quiet is) (record { log = log; readings = readings }) count in
      record { going = after.0; quiet = λ still. subst IsWritten (sym after.1) (s.quiet still) }

  -- ---- the link is read

  module _ (quiet : Bool) (s : IsReady plan passes0 passes old now conn reader kept quiet) (readings : next.readings ≡ now.readings) where
    -- nothing is there yet, or any more
    pub stayed : (behind : ReaderHeld) → behind ≡ reader → next.log ≡ now.log → next.faults ≡ now.faults → Stays plan passes0 passes old next conn behind kept quiet
    stayed behind same log count =
        let after = nothing-moved s.going readings log count in
        let P : ReaderHeld → Type 0 = λ h. Stays plan passes0 passes old next conn h kept quiet in
        subst P (sym same) (record { going = after.0; quiet = λ is. subst IsWritten (sym after.1) (s.quiet is) })

    module _ (bytes : List ℕ) (few : length bytes ≤ need_of reader) (log : next.log ≡ more now.log (Read bytes ∷ [])) (count : next.faults ≡ now.faults) where
      heard : (answer : Next) → next_of (held_with reader bytes) ≡ answer → IsHeard plan passes0 passes old now conn reader kept s.going bytes answer
      heard answer is = record { few = few; ready = λ begins. s.ready; answers = is }

      pub has-heard : (answer : Next) (behind : ReaderHeld) → next_of (held_with reader bytes) ≡ answer → behind ≡ held_after (held_with reader bytes) answer
          → HasHeard plan passes0 passes old next answer conn behind kept
      has-heard answer behind is held = record {
        before = now;
        held = reader;
        going = s.going;
        bytes = bytes;
        heard = heard answer is;
        log = log;
        readings = readings;
        faults = count;
        reader_is = held;
      }

      -- no frame is whole yet
      pub heard-more : (behind : ReaderHeld) → next_of (held_with reader bytes) ≡ answers.More → behind ≡ held_with reader bytes → Stays plan passes0 passes old next conn behind kept quiet
      heard-more behind is held =
          let after = reads-go-on plan passes0 passes old now conn reader kept s.going next bytes (heard answers.More is) (record { log = log; readings = readings }) count in
          let P : ReaderHeld → Type 0 = λ h. Stays plan passes0 passes old next conn h kept quiet in
          subst P (sym held) (record { going = after.0; quiet = λ still. subst IsWritten (sym after.1) (s.quiet still) })

      -- memory was wanting behind the read
      heard-none : (answer : Next) → next_of (held_with reader bytes) ≡ answer → Serves plan passes0 passes old next ending.Memory
      heard-none (answers.Frame frame) is =
          let g = s.going in
          let H : Option (List ℤ) → Type 0 = λ later. HeededInPart plan frame g.played passes passes now.readings later in
          frames-end plan passes0 passes old now conn reader kept g next bytes frame passes (heard (answers.Frame frame) is)
          (subst H (sym readings) (heeded-none plan frame g.played passes now.readings g.sound g.answered g.was_due (given_now plan passes0 passes old now conn reader kept g)))
          log count
      heard-none answers.More is = out-of-memory plan passes0 passes old next conn (held_with reader bytes) kept (heard-more (held_with reader bytes) is refl).going
      heard-none (answers.Fault fault) is =
          (parts-end plan passes0 passes old now conn reader kept s.going next bytes (answers.Fault fault) (heard (answers.Fault fault) is) fault [] [] [] refl tt tt refl
          (record { log = log; readings = readings })).1 count

      pub heard-memory : Serves plan passes0 passes old next ending.Memory
      heard-memory = heard-none (next_of (held_with reader bytes)) refl

-- ---- a frame is heeded

pub is-at : (plan : Planning) (passes0 passes : List TableView) (old now : Shown) (conn : Dealing) (reader : ReaderHeld) (kept : ℕ → Option Kept) (g : Going plan passes0 passes old now conn reader kept) → IsAt g.played conn kept
is-at plan passes0 passes old now conn reader kept g =
    record { frames = timeline_of g.log; plays = g.plays; deals = g.deals; left = g.left; calls = g.calls; sound = g.sound; answered = g.answered; was_open = g.was_open; was_due = g.was_due }

module _ (plan : Planning) (passes0 passes : List TableView) (old now : Shown) (frame : Frame) (conn : Dealing) (reader : ReaderHeld) (kept : ℕ → Option Kept) (h : HasHeard plan passes0 passes old now (answers.Frame frame) conn reader kept) (next : Shown) (log : next.log ≡ now.log) (count : next.faults ≡ now.faults) where
  pub frame-goes : (after : List TableView) (behind : Dealing) (keeps : ℕ → Option Kept) → Heeded plan frame h.going.played passes after behind keeps now.readings next.readings
      → Stays plan passes0 after old next behind reader keeps false
  frame-goes after behind keeps heeded =
      let H : Option (List ℤ) → Type 0 = λ earlier. Heeded plan frame h.going.played passes after behind keeps earlier next.readings in
      let over = frames-go-on plan passes0 passes old h.before conn h.held kept h.going next h.bytes frame after behind keeps h.heard (subst H h.readings heeded) (log ∙ h.log) (count ∙ h.faults) in
      let P : ReaderHeld → Type 0 = λ r. Stays plan passes0 after old next behind r keeps false in
      subst P (sym h.reader_is) (record { going = over.0; quiet = λ is. absurd cc })

  pub frame-ends : (after : List TableView) → HeededInPart plan frame h.going.played passes after now.readings next.readings → Serves plan passes0 after old next ending.Memory
  frame-ends after part =
      let H : Option (List ℤ) → Type 0 = λ earlier. HeededInPart plan frame h.going.played passes after earlier next.readings in
      frames-end plan passes0 passes old h.before conn h.held kept h.going next h.bytes frame after h.heard (subst H h.readings part) (log ∙ h.log) (count ∙ h.faults)

-- ---- the client's bytes end

module _ (plan : Planning) (passes0 passes : List TableView) (old now : Shown) (conn : Dealing) (reader : ReaderHeld) (kept : ℕ → Option Kept) (quiet : Bool) (s : Stays plan passes0 passes old now conn reader kept quiet) (is : quiet ≡ true) (met : now.ended ≡ true) (spent : IsSpent now.left) where
  pub at-done : (have : ℕ) → have ≡ length reader.bytes → have ≡ 0 → Serves plan passes0 passes old now ending.Done
  at-done have counts none =
      let P : ℕ → Type 0 = λ n. (n == 0) ≡ true in
      done plan passes0 passes old now conn reader kept s.going (s.quiet is) met spent (subst P (sym none ∙ counts) refl)

  pub at-cut : (have need : ℕ) → have ≡ length reader.bytes → need ≡ need_of reader → (have ≡ 0 → ⊥) → Serves plan passes0 passes old now (ending.Cut have need)
  at-cut have need counts needs some =
      let P : ℕ → Type 0 = λ n. 0 < n in
      let C : ℕ → Type 0 = λ n. Serves plan passes0 passes old now (ending.Cut n need) in
      let D : ℕ → Type 0 = λ n. Serves plan passes0 passes old now (ending.Cut (length reader.bytes) n) in
      let more : 0 < have = omega (arith, some) in
      subst C (sym counts) (subst D (sym needs) (cut plan passes0 passes old now conn reader kept s.going (s.quiet is) met spent (subst P counts more)))

-- ---- the first round

pub begins : (plan : Planning) (passes : List TableView) (now : Shown) (conn : Dealing) (reader : ReaderHeld) (kept : ℕ → Option Kept) (quiet : Bool) → Stands conn.conn [] → ((id : ℕ) → conn.left id ≡ []) → reader ≡ nothing_held
    → ((id : ℕ) → kept id ≡ None) → quiet ≡ false → Stays plan passes passes now now conn reader kept quiet
begins plan passes now conn reader kept quiet stands empty nothing none not =
    let P : ReaderHeld → Type 0 = λ h. Stays plan passes passes now now conn h kept quiet in
    subst P (sym nothing) (record { going = going-begins plan passes now conn kept stands empty none; quiet = λ is. absurd cc })

-- bytes are wanted
pub wants : (plan : Planning) (passes0 passes : List TableView) (old now : Shown) (conn : Dealing) (reader : ReaderHeld) (kept : ℕ → Option Kept) (quiet : Bool) → Stays plan passes0 passes old now conn reader kept quiet
    → 0 < need_of reader
wants plan passes0 passes old now conn reader kept quiet s =
    let P : ReaderHeld → Type 0 = λ h. 0 < need_of h in
    subst P s.going.held (holds-unfinished s.going.log).wants
