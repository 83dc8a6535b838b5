-- A client breaks a rule, and GOAWAY is written.
use Rattle.std.proofs.Common.{◌≡◌, inl, ℕ, List, [], ◌∷◌, ◌++◌, map, fold, Option, Some, None, refl, sym, ap, ◌∙◌, subst, append-nil, append_assoc}
use Rattle.std.specs.List.{flat_map, concat, AllByRecursion}
use Rattle.links.specs.Told.{more, GoesOn}
use Rattle.links.specs.Link.{Moved, Read, Wrote}
use Rattle.links.proofs.ToldLemmas.{more-more}
use Rattle.h2_frames.specs.Held.{Held as ReaderHeld}
use Rattle.h2_frames.specs.Reading.{held_with}
use Rattle.h2_frames.specs.Spelling.{spelling}
use Rattle.h2_frames.specs.declared.fault.H2Fault.{H2Fault}
use Rattle.h2_frames.specs.declared.frame.Frame.{Frame}
use Rattle.h2_frames.specs.declared.reader.Next.{Next}
use Rattle.h2_frames.specs.declared.reader.Next.TheVariants as answers
use Rattle.h2_record.specs.Record.{Record, In, Out, Broken}
use Rattle.h2_record.specs.Faults.{first_fault_of, fault_by}
use Rattle.h2_record.specs.Control.{control_of, written_control_of}
use Rattle.h2_record.specs.Events.{events_behind}
use Rattle.h2_record.specs.Texts.{given_text}
use Rattle.h2_record.specs.Written.{EachWasDue}
use Rattle.conn_deferral.specs.Deferred.{Dealing}
use Rattle.open_tables.specs.Tables.{TableView}
use Rattle.conn_record.specs.Timeline.{Framing, framing_of, timeline_of, unframed, came}
use Rattle.conn_record.specs.Places.{HoldsFrom}
use Rattle.conn_record.specs.Written.{with_outs, AreDue}
use Rattle.conn_record.specs.Sending.{IsSendable}
use Rattle.conn_record.proofs.Sending.{all-are-sent, parts-are-sent}
use Rattle.conn_record.proofs.Fronts.{due-goes-on}
use Rattle.conn_record.proofs.Own.{own-stays, own-is-sent}
use Rattle.conn_requests.specs.Decided.{Answered, Played, item_of, play, take_frame, hear, with_record}
use Rattle.conn_requests.specs.Spelled.{spelling_on}
use Rattle.outside.specs.Faults.{Rose}
use Rattle.conn_service.specs.declared.ending.Ending.{Ending}
use Rattle.conn_service.specs.declared.ending.Ending.TheVariants as ending
use Rattle.conn_service.specs.Served.{Planning}
use Rattle.conn_service.specs.Quiet.{SilentAt, ReadyAt}
use Rattle.conn_service.specs.Ends.{Ends, EndCause, IsAsked, StopsAtFault}
use Rattle.conn_service.specs.Serves.{reading_of, Shown, Serves}
use Rattle.conn_service.specs.Going.{Kept, Going, resumed}
use Rattle.conn_service.specs.Steps.{Moves, IsHeard, met, Breaks, gone}
use Rattle.conn_service.proofs.OrderLemmas.{due-in-order}
use Rattle.conn_service.proofs.GoingLemmas.{given_now, plays_now}
use Rattle.conn_service.proofs.StepLemmas.{given-outs, unfinished, due-outs, play-outs, over_writes}
use Rattle.conn_service.proofs.ReadLemmas.{play-in, framed, places_read}

-- ---- a frame that breaks a rule decides nothing

take-fault : (p : Played) (frame : Frame) (fault : H2Fault) → first_fault_of p.marked ≡ None → fault_by p.marked frame ≡ Some fault → take_frame p frame ≡ with_record p (In frame ∷ p.marked)
unfolding take_frame
take-fault p frame fault sound broken =
    ap (λ es. fold hear (with_record p (In frame ∷ p.marked)) es)
    (ap (λ f. events_behind p.marked frame f (fault_by p.marked frame)) sound ∙ ap (λ f. events_behind p.marked frame None f) broken)

play-broken : (answers : List Answered) (fault : H2Fault) (frames : Record) (p : Played) → play answers frames ≡ p → play answers (Broken fault ∷ frames) ≡ with_record p (Broken fault ∷ p.marked)
unfolding play
play-broken answers fault frames p is = ap (λ q. with_record q (Broken fault ∷ q.marked)) is

play-met : (xs : List Answered) (s : Framing) (held : ReaderHeld) (answer : Next) (fault : H2Fault) (p : Played) → first_fault_of p.marked ≡ None → Breaks p.marked answer fault → play xs s.frames ≡ p
    → play xs (came s held answer).frames ≡ with_record p (met answer p.marked)
play-met xs s held (answers.Frame frame) fault p sound breaks is = play-in xs frame s.frames p is ∙ take-fault p frame fault sound breaks
play-met xs s held answers.More fault p sound breaks is = absurd breaks
play-met xs s held (answers.Fault broken) fault p sound breaks is = play-broken xs broken s.frames p is

outflow-met : (s : Framing) (held : ReaderHeld) (answer : Next) → (came s held answer).outflow ≡ s.outflow
outflow-met s held (answers.Frame frame) = refl
outflow-met s held answers.More = refl
outflow-met s held (answers.Fault broken) = refl

-- ---- the record behind it

module _ (r : Record) (fault : H2Fault) (sound : first_fault_of r ≡ None) where
  fault-met : (answer : Next) → Breaks r answer fault → first_fault_of (met answer r) ≡ Some fault
  fault-met (answers.Frame frame) breaks = rw (sound, breaks) refl
  fault-met answers.More breaks = absurd breaks
  fault-met (answers.Fault broken) breaks = rw (sound, breaks) refl

  stops-met : (answer : Next) → Breaks r answer fault → StopsAtFault (met answer r)
  stops-met (answers.Frame frame) breaks = sound
  stops-met answers.More breaks = absurd breaks
  stops-met (answers.Fault broken) breaks = sound

due-met : (r : Record) (answer : Next) → EachWasDue r → EachWasDue (met answer r)
due-met r (answers.Frame frame) each = each
due-met r answers.More each = each
due-met r (answers.Fault broken) each = each

given-met : (r : Record) (answer : Next) (id : ℕ) → given_text (met answer r) id ≡ given_text r id
given-met r (answers.Frame frame) id = refl
given-met r answers.More id = refl
given-met r (answers.Fault broken) id = refl

fault-outs : (r : Record) (frames : List Frame) → first_fault_of (with_outs r frames) ≡ first_fault_of r
fault-outs r [] = refl
fault-outs r (frame ∷ frames) = fault-outs (Out frame ∷ r) frames

stops-outs : (r : Record) (frames : List Frame) → StopsAtFault r → StopsAtFault (with_outs r frames)
stops-outs r [] stops = stops
stops-outs r (frame ∷ frames) stops = stops-outs (Out frame ∷ r) frames stops

module _ (plan : Planning) (passes0 passes : List TableView) (old now : Shown) (conn : Dealing) (reader : ReaderHeld) (kept : ℕ → Option Kept) (g : Going plan passes0 passes old now conn reader kept) (next : Shown) (bytes : List ℕ) (answer : Next) (heard : IsHeard plan passes0 passes old now conn reader kept g bytes answer) where
  pub goaway-ends : (fault : H2Fault) (frames : List Frame) (pieces : List (List ℕ)) → Breaks g.played.marked answer fault → AreDue (met answer g.played.marked) frames → AllByRecursion IsSendable frames
      → concat pieces ≡ flat_map spelling frames → Moves now next (Read bytes ∷ map Wrote pieces) → next.faults ≡ now.faults
      → written_control_of (with_outs (met answer g.played.marked) frames) ≡ control_of (with_outs (met answer g.played.marked) frames)
      → Serves plan passes0 passes old next (ending.Goaway fault.code fault.rule)
  goaway-ends fault frames pieces breaks due sendable joined moves count said =
      let before : List Moved = g.log ++ Read bytes ∷ [] in
      let read_is = framed plan passes0 passes old now conn reader kept g next bytes answer heard in
      let s : Framing = came (framing_of g.log) (held_with reader bytes) answer in
      let whole : (framing_of before).outflow ≡ [] = ap (λ f. f.outflow) read_is ∙ outflow-met (framing_of g.log) (held_with reader bytes) answer ∙ g.whole in
      let now_is = all-are-sent before frames pieces whole sendable joined in
      let p : Played = resumed g.played [] in
      let r : Record = met answer g.played.marked in
      let played_before = ap (λ f. play g.played.used f.frames) read_is
      ∙ play-met g.played.used (framing_of g.log) (held_with reader bytes) answer fault p g.sound breaks (plays_now plan passes0 passes old now conn reader kept g) in
      let each = due-outs r frames (due-met g.played.marked answer g.was_due) due in
      let given : (id : ℕ) → given_text (with_outs r frames) id ≡ spelling_on id g.played.used =
      λ id. given-outs r frames id ∙ given-met g.played.marked answer id ∙ given_now plan passes0 passes old now conn reader kept g id in
      let P : List Answered → Type 0 = λ xs. HoldsFrom (SilentAt xs) (ReadyAt xs) unframed (before ++ map Wrote pieces) in
      record {
        log = before ++ map Wrote pieces;
        answers = g.played.used;
        played = gone (with_record p r) frames;
        moved = moves.log ∙ ap (λ l. more l (Read bytes ∷ map Wrote pieces)) g.moved ∙ more-more old.log g.log (Read bytes ∷ map Wrote pieces)
            ∙ ap (λ l. more old.log l) (sym (append_assoc g.log (Read bytes ∷ []) (map Wrote pieces)));
        plays = ap (λ f. play g.played.used f.frames) now_is ∙ play-outs g.played.used frames (timeline_of before) (with_record p r) played_before;
        asked = g.answered;
        used = refl;
        served = g.served;
        timed = subst (GoesOn old.readings (map reading_of g.played.used)) (sym moves.readings) g.timed;
        in_time = g.in_time;
        own = own-is-sent before frames pieces [] ((own-stays g.log g.own).0 bytes) whole sendable (append-nil (concat pieces) ∙ joined);
        unfinished = inl (ap (λ f. f.outflow) now_is);
        was_due = each;
        in_order = due-in-order (with_outs r frames) (λ id. spelling_on id g.played.used) each given;
        places = subst P (append-nil g.played.used)
            (over_writes (SilentAt (g.played.used ++ [])) (ReadyAt (g.played.used ++ [])) before pieces (places_read plan passes0 passes old now conn reader kept g next bytes answer heard []));
        stops = stops-outs r frames (stops-met g.played.marked fault g.sound answer breaks);
        ends = (fault-outs r frames ∙ fault-met g.played.marked fault g.sound answer breaks, said, ap (λ f. f.outflow) now_is);
        cause = count ∙ g.no_fault;
      }

  -- whatever the ending, where the log is the only cause that is asked
  parts : (end : Ending) (fault : H2Fault) (frames : List Frame) (pieces : List (List ℕ)) (left : List ℕ) → Breaks g.played.marked answer fault → AreDue (met answer g.played.marked) frames
      → AllByRecursion IsSendable frames → concat pieces ++ left ≡ flat_map spelling frames → Moves now next (Read bytes ∷ map Wrote pieces)
      → ((p : Played) → p.decided ≡ g.played.decided → IsAsked end p g.played.used) → ((s : Framing) (p : Played) → Ends end s p next.ended next.left) → EndCause old.faults next.faults end
      → Serves plan passes0 passes old next end
  parts end fault frames pieces left breaks due sendable joined moves asked ends cause =
      let before : List Moved = g.log ++ Read bytes ∷ [] in
      let read_is = framed plan passes0 passes old now conn reader kept g next bytes answer heard in
      let whole : (framing_of before).outflow ≡ [] = ap (λ f. f.outflow) read_is ∙ outflow-met (framing_of g.log) (held_with reader bytes) answer ∙ g.whole in
      let part = parts-are-sent before frames pieces left whole sendable joined in
      let r : Record = met answer g.played.marked in
      let D : List Frame → Type 0 = λ fs. AreDue r fs in
      let both = due-goes-on r part.whole part.others (due-met g.played.marked answer g.was_due) (subst D part.parts due) in
      let played_before = ap (λ f. play g.played.used f.frames) read_is
      ∙ play-met g.played.used (framing_of g.log) (held_with reader bytes) answer fault (resumed g.played []) g.sound breaks (plays_now plan passes0 passes old now conn reader kept g) in
      let given : (id : ℕ) → given_text (with_outs r part.whole) id ≡ spelling_on id g.played.used =
      λ id. given-outs r part.whole id ∙ given-met g.played.marked answer id ∙ given_now plan passes0 passes old now conn reader kept g id in
      let P : List Answered → Type 0 = λ xs. HoldsFrom (SilentAt xs) (ReadyAt xs) unframed (before ++ map Wrote pieces) in
      record {
        log = before ++ map Wrote pieces;
        answers = g.played.used;
        played = gone (with_record (resumed g.played []) r) part.whole;
        moved = moves.log ∙ ap (λ l. more l (Read bytes ∷ map Wrote pieces)) g.moved ∙ more-more old.log g.log (Read bytes ∷ map Wrote pieces)
            ∙ ap (λ l. more old.log l) (sym (append_assoc g.log (Read bytes ∷ []) (map Wrote pieces)));
        plays = ap (λ f. play g.played.used f.frames) part.now_is ∙ play-outs g.played.used part.whole (timeline_of before) (with_record (resumed g.played []) r) played_before;
        asked = asked (gone (with_record (resumed g.played []) r) part.whole) refl;
        used = refl;
        served = g.served;
        timed = subst (GoesOn old.readings (map reading_of g.played.used)) (sym moves.readings) g.timed;
        in_time = g.in_time;
        own = own-is-sent before frames pieces left ((own-stays g.log g.own).0 bytes) whole sendable joined;
        unfinished = unfinished (with_outs r part.whole) (framing_of (before ++ map Wrote pieces)).outflow left part.others both.1 part.held part.within;
        was_due = both.0;
        in_order = due-in-order (with_outs r part.whole) (λ id. spelling_on id g.played.used) both.0 given;
        places = subst P (append-nil g.played.used)
            (over_writes (SilentAt (g.played.used ++ [])) (ReadyAt (g.played.used ++ [])) before pieces (places_read plan passes0 passes old now conn reader kept g next bytes answer heard []));
        stops = stops-outs r part.whole (stops-met g.played.marked fault g.sound answer breaks);
        ends = ends (framing_of (before ++ map Wrote pieces)) (gone (with_record (resumed g.played []) r) part.whole);
        cause = cause;
      }

  pub parts-end : (fault : H2Fault) (frames : List Frame) (pieces : List (List ℕ)) (left : List ℕ) → Breaks g.played.marked answer fault → AreDue (met answer g.played.marked) frames
      → AllByRecursion IsSendable frames → concat pieces ++ left ≡ flat_map spelling frames → Moves now next (Read bytes ∷ map Wrote pieces)
      → (Rose now.faults next.faults → Serves plan passes0 passes old next ending.LinkFault) × (next.faults ≡ now.faults → Serves plan passes0 passes old next ending.Memory)
  parts-end fault frames pieces left breaks due sendable joined moves =
      let C : ℕ → Type 0 = λ count. Rose count next.faults in (
        λ rose. parts ending.LinkFault fault frames pieces left breaks due sendable joined moves (λ p same. g.answered ∙ sym same) (λ s p. tt) (subst C g.no_fault rose),
        λ count. parts ending.Memory fault frames pieces left breaks due sendable joined moves
            (λ p same. ([], append-nil (map item_of g.played.used) ∙ g.answered ∙ sym same)) (λ s p. tt) (count ∙ g.no_fault),
      )
