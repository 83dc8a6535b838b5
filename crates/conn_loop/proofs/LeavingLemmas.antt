-- The end of a connection whose client broke a rule.
use Rattle.std.proofs.Common.{◌≡◌, ℕ, ◌≤◌, List, [], ◌∷◌, ◌++◌, map, Option, Some, None, refl, sym, ap, ◌∙◌, subst}
use Rattle.outside.specs.Faults.{Rose}
use Rattle.links.specs.Told.{more}
use Rattle.links.specs.Link.{Moved, Read, Wrote}
use Rattle.links.proofs.ToldLemmas.{more-more}
use Rattle.h2_frames.specs.Held.{Held as ReaderHeld}
use Rattle.h2_frames.specs.Reading.{held_with}
use Rattle.h2_frames.specs.declared.fault.H2Fault.{H2Fault}
use Rattle.h2_frames.specs.declared.frame.Frame.{Frame}
use Rattle.h2_frames.specs.declared.reader.Next.{Next}
use Rattle.h2_frames.specs.declared.reader.Next.TheVariants as answers
use Rattle.h2_record.specs.Record.{Record, In, Out, Broken}
use Rattle.h2_record.specs.Faults.{first_fault_of, fault_by}
use Rattle.h2_record.specs.Control.{control_of, written_control_of, due_after}
use Rattle.h2_record.specs.Due.{settled_control_of}
use Rattle.open_tables.specs.Tables.{TableView}
use Rattle.conn_record.specs.Timeline.{Framing, framing_of, came}
use Rattle.conn_record.specs.Marks.{unmarked, EachIsFrame}
use Rattle.conn_record.specs.Written.{with_outs}
use Rattle.conn_record.specs.declared.limits.TheConstants.{LEAST_ROOM}
use Rattle.conn_record.proofs.Marks.{timelines-are-spelled}
use Rattle.conn_deferral.specs.Deferred.{Dealing, Deals}
use Rattle.conn_deferral.proofs.Frames.{unmarked-same}
use Rattle.conn_deferral.proofs.Dues.{control-both, settled-both}
use Rattle.conn_deferral.proofs.Rest.{frames-over}
use Rattle.conn_record.proofs.Quiet.{rest-is-said}
use Rattle.conn_service.specs.declared.ending.Ending.TheVariants as ending
use Rattle.conn_service.specs.Served.{Planning}
use Rattle.conn_service.specs.Serves.{Shown, Serves}
use Rattle.conn_service.specs.Going.{Kept}
use Rattle.conn_service.specs.Steps.{Moves, met, Breaks}
use Rattle.conn_service.proofs.GoingLemmas.{frames_now}
use Rattle.conn_service.proofs.ReadLemmas.{framed}
use Rattle.conn_service.proofs.GoawayLemmas.{goaway-ends, parts-end}
use Rattle.conn_deferral.specs.Resting.{SaysAll}
use Rattle.conn_loop.specs.Settling.{Went, LeavesNone, WentInPart}
use Rattle.conn_loop.specs.Rounds.{HasHeard, HasBroken}
use Rattle.conn_loop.proofs.WentLemmas.{quiet-then, part-then, whole-part}

-- ---- the record behind a broken rule

fault-met : (r : Record) (fault : H2Fault) (answer : Next) → first_fault_of r ≡ None → Breaks r answer fault → first_fault_of (met answer r) ≡ Some fault
fault-met r fault (answers.Frame frame) sound breaks = rw (sound, breaks) refl
fault-met r fault answers.More sound breaks = absurd breaks
fault-met r fault (answers.Fault broken) sound breaks = rw (sound, breaks) refl

fault-outs : (r : Record) (frames : List Frame) → first_fault_of (with_outs r frames) ≡ first_fault_of r
fault-outs r [] = refl
fault-outs r (frame ∷ frames) = fault-outs (Out frame ∷ r) frames

unmarked-met : (r : Record) (s : Framing) (held : ReaderHeld) (answer : Next) → unmarked r ≡ s.frames → unmarked (met answer r) ≡ (came s held answer).frames
unmarked-met r s held (answers.Frame frame) same = ap (λ fs. In frame ∷ fs) same
unmarked-met r s held answers.More same = same
unmarked-met r s held (answers.Fault broken) same = ap (λ fs. Broken broken ∷ fs) same

frames-outs : (r : Record) (frames : List Frame) → EachIsFrame r → EachIsFrame (with_outs r frames)
frames-outs r [] each = each
frames-outs r (frame ∷ frames) each = frames-outs (Out frame ∷ r) frames each

-- all control frames are written
all-of-it : (dealing : Dealing) (room : ℕ) (r : Record) → SaysAll dealing room r → EachIsFrame r → LEAST_ROOM ≤ room → written_control_of r ≡ settled_control_of r
all-of-it dealing room r all frames_are wide =
    let given = all.deals.given in
    let same = all.deals.defers.same in
    let frames_same : unmarked r ≡ unmarked given = sym (unmarked-same r) ∙ ap unmarked (sym same) ∙ unmarked-same given in
    sym (control-both given r same) ∙ rest-is-said given room (frames-over r given frames_same frames_are) all.deals.was_due wide all.none ∙ settled-both given r same

-- behind a connection error no credit is due any more
settled-is-control : (r : Record) (fault : H2Fault) → first_fault_of r ≡ Some fault → settled_control_of r ≡ control_of r
settled-is-control r fault met = ap (λ f. due_after (control_of r) [] r f None) met

module _ (plan : Planning) (passes0 passes : List TableView) (old now : Shown) where
  -- what was read breaks the rule by itself
  pub breaks-framing : (fault : H2Fault) (conn behind : Dealing) (reader : ReaderHeld) (kept : ℕ → Option Kept) → HasHeard plan passes0 passes old now (answers.Fault fault) conn reader kept
      → ((r : Record) → Deals conn r → Deals behind (Broken fault ∷ r)) → HasBroken plan passes0 passes old now fault behind
  breaks-framing fault conn behind reader kept h deals = record {
    answer = answers.Fault fault;
    before = conn;
    reader = reader;
    kept = kept;
    read = h;
    breaks = refl;
    deals = deals h.going.played.marked h.going.deals;
  }

  -- memory was wanting before GOAWAY could wait
  pub breaks-memory : (fault : H2Fault) (conn : Dealing) (reader : ReaderHeld) (kept : ℕ → Option Kept) → HasHeard plan passes0 passes old now (answers.Fault fault) conn reader kept
      → Serves plan passes0 passes old now ending.Memory
  breaks-memory fault conn reader kept h =
      (parts-end plan passes0 passes old h.before conn h.held kept h.going now h.bytes (answers.Fault fault) h.heard fault [] [] [] refl tt tt refl
      (record { log = h.log; readings = h.readings })).1 h.faults

  module _ (fault : H2Fault) (conn : Dealing) (b : HasBroken plan passes0 passes old now fault conn) (next : Shown) (readings : next.readings ≡ now.readings) where
    abbrev r : Record
    r = met b.answer b.read.going.played.marked

    moves : (pieces : List (List ℕ)) → next.log ≡ more now.log (map Wrote pieces) → Moves b.read.before next (Read b.read.bytes ∷ map Wrote pieces)
    moves pieces told = record {
      log = told ∙ ap (λ l. more l (map Wrote pieces)) b.read.log ∙ more-more b.read.before.log (Read b.read.bytes ∷ []) (map Wrote pieces);
      readings = readings ∙ b.read.readings;
    }

    each-is-frame : EachIsFrame r
    each-is-frame =
        let g = b.read.going in
        let at = framing_of g.log in
        timelines-are-spelled (g.log ++ Read b.read.bytes ∷ []) r
        (unmarked-met g.played.marked at (held_with b.read.held b.read.bytes) b.answer (frames_now plan passes0 passes old b.read.before b.before b.read.held b.kept g)
        ∙ sym (ap (λ f. f.frames) (framed plan passes0 passes old b.read.before b.before b.read.held b.kept g next b.read.bytes b.answer b.read.heard)))

    -- a part of it is written
    left-in-part : WentInPart Deals conn now.log next.log
        → (Rose b.read.before.faults next.faults → Serves plan passes0 passes old next ending.LinkFault) × (next.faults ≡ b.read.before.faults → Serves plan passes0 passes old next ending.Memory)
    left-in-part w =
        parts-end plan passes0 passes old b.read.before b.before b.read.held b.kept b.read.going next b.read.bytes b.answer b.read.heard fault w.frames w.pieces w.left b.breaks (w.due r b.deals) w.sendable w.joined
        (moves w.pieces w.told)

    all-said : (behind : Dealing) (w : Went Deals conn behind now.log next.log) → LeavesNone Deals SaysAll conn behind w.frames → next.faults ≡ now.faults → Serves plan passes0 passes old next (ending.Goaway fault.code fault.rule)
    all-said behind w none count =
        let g = b.read.going in
        let due = w.due r b.deals in
        let said = all-of-it behind none.room (with_outs r w.frames) (none.none r b.deals) (frames-outs r w.frames each-is-frame) none.enough in
        let met_fault = fault-outs r w.frames ∙ fault-met g.played.marked fault b.answer g.sound b.breaks in
        goaway-ends plan passes0 passes old b.read.before b.before b.read.held b.kept g next b.read.bytes b.answer b.read.heard fault w.frames w.pieces b.breaks due w.sendable w.joined
        (moves w.pieces w.told) (count ∙ b.read.faults) (said ∙ settled-is-control (with_outs r w.frames) fault met_fault)

    module _ (between : Dealing) (log : Option (List Moved)) (faults : ℕ) (so_far : Went Deals conn between now.log log) (same : faults ≡ now.faults) where
      -- all is written, GOAWAY the last of it
      pub left-said : (behind : Dealing) (w : Went Deals between behind log next.log) → LeavesNone Deals SaysAll between behind w.frames → next.faults ≡ faults → Serves plan passes0 passes old next (ending.Goaway fault.code fault.rule)
      left-said behind w none count =
          let both = quiet-then Deals conn between now.log log next.log so_far SaysAll behind w none in
          all-said behind both.0 both.1 (count ∙ same)

      pub left-fault : WentInPart Deals between log next.log → Rose faults next.faults → Serves plan passes0 passes old next ending.LinkFault
      left-fault w rose =
          let C : ℕ → Type 0 = λ n. Rose n next.faults in
          (left-in-part (part-then Deals conn between now.log log next.log so_far w)).0 (subst C (same ∙ b.read.faults) rose)

      pub left-memory : next.log ≡ log → next.faults ≡ faults → Serves plan passes0 passes old next ending.Memory
      left-memory told count =
          let W : Option (List Moved) → Type 0 = λ l. WentInPart Deals conn now.log l in
          (left-in-part (subst W (sym told) (whole-part Deals conn between now.log log so_far))).1 (count ∙ same ∙ b.read.faults)

-- ---- a frame breaks a rule

pub frame-breaks : (plan : Planning) (passes0 passes : List TableView) (old now : Shown) (frame : Frame) (fault : H2Fault) (conn behind : Dealing) (reader : ReaderHeld) (kept : ℕ → Option Kept)
    → (h : HasHeard plan passes0 passes old now (answers.Frame frame) conn reader kept) → fault_by h.going.played.marked frame ≡ Some fault → Deals behind (In frame ∷ h.going.played.marked)
    → HasBroken plan passes0 passes old now fault behind
frame-breaks plan passes0 passes old now frame fault conn behind reader kept h breaks deals = record {
  answer = answers.Frame frame;
  before = conn;
  reader = reader;
  kept = kept;
  read = h;
  breaks = breaks;
  deals = deals;
}
