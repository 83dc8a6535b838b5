-- The loop's invariant over a read of no more than the reader asks for.
use Rattle.std.proofs.Common.{◌≡◌, inl, ℕ, ◌≤◌, true, false, List, [], ◌∷◌, ◌++◌, map, length, Option, refl, sym, ap, ◌∙◌, subst, append_assoc}
use Rattle.std.specs.Prelude.{All}
use Rattle.std.proofs.lemmas.List.Elements.{All-append}
use Rattle.links.specs.Told.{more, GoesOn}
use Rattle.links.specs.Link.{Moved, Read}
use Rattle.links.proofs.ToldLemmas.{more-more, GoesOn-then}
use Rattle.h2_frames.specs.Held.{Held as ReaderHeld}
use Rattle.h2_frames.specs.Reading.{need_of, held_with, held_after}
use Rattle.h2_frames.specs.declared.frame.Frame.{Frame}
use Rattle.h2_frames.specs.declared.reader.Next.{Next}
use Rattle.h2_frames.specs.declared.reader.Next.TheVariants as answers
use Rattle.h2_record.specs.Record.{Record, In}
use Rattle.conn_deferral.specs.Deferred.{Dealing}
use Rattle.open_tables.specs.Tables.{TableView}
use Rattle.conn_record.specs.Timeline.{Framing, framing_of, timeline_of, unframed, is_broken, came, fed}
use Rattle.conn_record.specs.Places.{HoldsFrom, HoldsAtBytes, begins_frame}
use Rattle.conn_record.proofs.Unfinished.{holds-unfinished}
use Rattle.conn_record.proofs.Marks.{sound-is-unbroken}
use Rattle.conn_record.proofs.Places.{places-go-on}
use Rattle.conn_record.proofs.PiecePlaces.{places-piece}
use Rattle.conn_record.proofs.Reading.{pieces-are-framed}
use Rattle.conn_record.proofs.Own.{own-stays}
use Rattle.conn_requests.specs.Decided.{Answered, Played, play, take_frame}
use Rattle.conn_requests.specs.Spelled.{spelling_on}
use Rattle.conn_service.specs.declared.ending.Ending.TheVariants as ending
use Rattle.conn_service.specs.Served.{Planning, Served}
use Rattle.conn_service.specs.Quiet.{IsReady, SilentAt, ReadyAt}
use Rattle.conn_service.specs.Serves.{reading_of, IsInTime, Shown, Serves}
use Rattle.conn_service.specs.Going.{Kept, Going, resumed}
use Rattle.conn_service.specs.Steps.{Moves, Heeded, HeededInPart, IsHeard}
use Rattle.conn_service.proofs.OrderLemmas.{due-in-order}
use Rattle.conn_service.proofs.GoingLemmas.{frames_now}

over_read : (AtWait AtRead : Framing → Type 0) (log : List Moved) (bytes : List ℕ) → HoldsFrom AtWait AtRead unframed log → HoldsAtBytes AtWait AtRead (framing_of log) bytes
    → HoldsFrom AtWait AtRead unframed (log ++ Read bytes ∷ [])
unfolding framing_of
over_read AtWait AtRead log bytes before here = (places-go-on AtWait AtRead unframed log (Read bytes ∷ [])).1 (before, (here, tt))

-- a frame comes
pub play-in : (answers : List Answered) (frame : Frame) (frames : Record) (p : Played) → play answers frames ≡ p → play answers (In frame ∷ frames) ≡ take_frame p frame
unfolding play
play-in answers frame frames p is = ap (λ q. take_frame q frame) is

served-then : (plan : Planning) (passes between after : List TableView) (xs ys : List Answered) → Served plan passes xs between → Served plan between ys after → Served plan passes (xs ++ ys) after
served-then plan passes between after [] ys first then = let P : List TableView → Type 0 = λ ps. Served plan ps ys after in subst P first then
served-then plan passes between after (x ∷ xs) ys (middle, one, others) then = (middle, one, served-then plan middle between after xs ys others then)

readings-then : (xs ys : List Answered) → map reading_of (xs ++ ys) ≡ map reading_of xs ++ map reading_of ys
readings-then [] ys = refl
readings-then (x ∷ xs) ys = ap (λ l. reading_of x ∷ l) (readings-then xs ys)

module _ (plan : Planning) (passes0 passes : List TableView) (old now : Shown) (conn : Dealing) (reader : ReaderHeld) (kept : ℕ → Option Kept) (g : Going plan passes0 passes old now conn reader kept) (next : Shown) (bytes : List ℕ) where
  unbroken : is_broken (timeline_of g.log) ≡ false
  unbroken = ap is_broken (sym (frames_now plan passes0 passes old now conn reader kept g)) ∙ sound-is-unbroken g.played.marked g.sound

  module _ (answer : Next) (heard : IsHeard plan passes0 passes old now conn reader kept g bytes answer) where
    fits : length bytes ≤ need_of (framing_of g.log).inflow
    fits = let P : ReaderHeld → Type 0 = λ h. length bytes ≤ need_of h in subst P (sym g.held) heard.few

    pub framed : framing_of (g.log ++ Read bytes ∷ []) ≡ came (framing_of g.log) (held_with reader bytes) answer
    framed =
        pieces-are-framed g.log bytes unbroken fits ∙ ap (λ h. fed (framing_of g.log) (held_with h bytes)) g.held
        ∙ ap (λ n. came (framing_of g.log) (held_with reader bytes) n) heard.answers

    ready_at : (later : List Answered) → begins_frame (framing_of g.log) ≡ true → ReadyAt (g.played.used ++ later) (framing_of g.log)
    ready_at later begins =
        let P : Played → Type 0 = λ p. IsReady (framing_of g.log) p in
        subst P (sym (g.plays later)) (record { answered = g.answered; written = heard.ready begins; whole = g.whole })

    pub places_read : (later : List Answered) → HoldsFrom (SilentAt (g.played.used ++ later)) (ReadyAt (g.played.used ++ later)) unframed (g.log ++ Read bytes ∷ [])
    places_read later =
        let xs = g.played.used ++ later in
        over_read (SilentAt xs) (ReadyAt xs) g.log bytes (g.places later)
        (places-piece (SilentAt xs) (ReadyAt xs) (framing_of g.log) bytes unbroken (holds-unfinished g.log) fits (ready_at later))

    moved_read : next.log ≡ more now.log (Read bytes ∷ []) → next.log ≡ more old.log (g.log ++ Read bytes ∷ [])
    moved_read moved = moved ∙ ap (λ l. more l (Read bytes ∷ [])) g.moved ∙ more-more old.log g.log (Read bytes ∷ [])

  pub reads-go-on : IsHeard plan passes0 passes old now conn reader kept g bytes answers.More → Moves now next (Read bytes ∷ []) → next.faults ≡ now.faults
      → (after : Going plan passes0 passes old next conn (held_with reader bytes) kept) × (after.played ≡ g.played)
  reads-go-on heard moves count =
      let now_is = framed answers.More heard in (
        record {
          log = g.log ++ Read bytes ∷ [];
          played = g.played;
          moved = moved_read answers.More heard moves.log;
          no_fault = count ∙ g.no_fault;
          plays = λ later. ap (λ s. play (g.played.used ++ later) s.frames) now_is ∙ g.plays later;
          held = ap (λ s. s.inflow) now_is;
          whole = ap (λ s. s.outflow) now_is ∙ g.whole;
          deals = g.deals;
          left = g.left;
          calls = g.calls;
          sound = g.sound;
          answered = g.answered;
          served = g.served;
          timed = subst (GoesOn old.readings (map reading_of g.played.used)) (sym moves.readings) g.timed;
          in_time = g.in_time;
          was_open = g.was_open;
          own = (own-stays g.log g.own).0 bytes;
          was_due = g.was_due;
          places = places_read answers.More heard;
        },
        refl,
      )

  module _ (frame : Frame) (after : List TableView) (behind : Dealing) (keeps : ℕ → Option Kept) (heard : IsHeard plan passes0 passes old now conn reader kept g bytes (answers.Frame frame)) (heeded : Heeded plan frame g.played passes after behind keeps now.readings next.readings) where
    -- the answers so far, and those to come
    order : (later : List Answered) → heeded.behind.used ++ later ≡ g.played.used ++ (heeded.answers ++ later)
    order later = ap (λ l. l ++ later) heeded.used ∙ append_assoc g.played.used heeded.answers later

    plays_frame : (later : List Answered) → play (heeded.behind.used ++ later) (timeline_of (g.log ++ Read bytes ∷ [])) ≡ resumed heeded.behind later
    plays_frame later =
        ap (λ s. play (heeded.behind.used ++ later) s.frames) (framed (answers.Frame frame) heard)
        ∙ ap (λ xs. play xs (In frame ∷ timeline_of g.log)) (order later)
        ∙ play-in (g.played.used ++ (heeded.answers ++ later)) frame (timeline_of g.log) (resumed g.played (heeded.answers ++ later)) (g.plays (heeded.answers ++ later))
        ∙ heeded.takes later

    places_frame : (later : List Answered) → HoldsFrom (SilentAt (heeded.behind.used ++ later)) (ReadyAt (heeded.behind.used ++ later)) unframed (g.log ++ Read bytes ∷ [])
    places_frame later =
        let P : List Answered → Type 0 = λ xs. HoldsFrom (SilentAt xs) (ReadyAt xs) unframed (g.log ++ Read bytes ∷ []) in
        subst P (sym (order later)) (places_read (answers.Frame frame) heard (heeded.answers ++ later))

    timed_frame : GoesOn old.readings (map reading_of heeded.behind.used) next.readings
    timed_frame =
        subst (λ xs. GoesOn old.readings xs next.readings) (sym (ap (λ xs. map reading_of xs) heeded.used ∙ readings-then g.played.used heeded.answers))
        (GoesOn-then old.readings now.readings next.readings (map reading_of g.played.used) (map reading_of heeded.answers) g.timed heeded.timed)

    pub frames-go-on : next.log ≡ more now.log (Read bytes ∷ []) → next.faults ≡ now.faults
        → (over : Going plan passes0 after old next behind (held_after (held_with reader bytes) (answers.Frame frame)) keeps) × (over.played ≡ heeded.behind)
    frames-go-on moved count =
        let now_is = framed (answers.Frame frame) heard in
        let S : List Answered → Type 0 = λ xs. Served plan passes0 xs after in (
          record {
            log = g.log ++ Read bytes ∷ [];
            played = heeded.behind;
            moved = moved_read (answers.Frame frame) heard moved;
            no_fault = count ∙ g.no_fault;
            plays = plays_frame;
            held = ap (λ s. s.inflow) now_is;
            whole = ap (λ s. s.outflow) now_is ∙ g.whole;
            deals = heeded.deals;
            left = heeded.left;
            calls = heeded.calls;
            sound = heeded.sound;
            answered = heeded.answered;
            served = subst S (sym heeded.used) (served-then plan passes0 passes after g.played.used heeded.answers g.served heeded.served);
            timed = timed_frame;
            in_time = subst (All IsInTime) (sym heeded.used) (All-append IsInTime g.played.used heeded.answers g.in_time heeded.in_time);
            was_open = heeded.was_open;
            own = (own-stays g.log g.own).0 bytes;
            was_due = heeded.was_due;
            places = places_frame;
          },
          refl,
        )

  -- ---- memory is wanting while a frame is heeded

  module _ (frame : Frame) (after : List TableView) (heard : IsHeard plan passes0 passes old now conn reader kept g bytes (answers.Frame frame)) (part : HeededInPart plan frame g.played passes after now.readings next.readings) where
    pub frames-end : next.log ≡ more now.log (Read bytes ∷ []) → next.faults ≡ now.faults → Serves plan passes0 after old next ending.Memory
    frames-end moved count =
        let now_is = framed (answers.Frame frame) heard in
        let S : List Answered → Type 0 = λ xs. Served plan passes0 xs after in
        let P : List Answered → Type 0 = λ xs. HoldsFrom (SilentAt xs) (ReadyAt xs) unframed (g.log ++ Read bytes ∷ []) in
        record {
          log = g.log ++ Read bytes ∷ [];
          answers = part.behind.used;
          played = part.behind;
          moved = moved_read (answers.Frame frame) heard moved;
          plays = ap (λ s. play part.behind.used s.frames) now_is ∙ ap (λ xs. play xs (In frame ∷ timeline_of g.log)) part.used
              ∙ play-in (g.played.used ++ part.answers) frame (timeline_of g.log) (resumed g.played part.answers) (g.plays part.answers)
              ∙ part.takes;
          asked = part.asked;
          used = refl;
          served = subst S (sym part.used) (served-then plan passes0 passes after g.played.used part.answers g.served part.served);
          timed = subst (λ xs. GoesOn old.readings xs next.readings) (sym (ap (λ xs. map reading_of xs) part.used ∙ readings-then g.played.used part.answers))
              (GoesOn-then old.readings now.readings next.readings (map reading_of g.played.used) (map reading_of part.answers) g.timed part.timed);
          in_time = subst (All IsInTime) (sym part.used) (All-append IsInTime g.played.used part.answers g.in_time part.in_time);
          own = (own-stays g.log g.own).0 bytes;
          unfinished = inl (ap (λ s. s.outflow) now_is ∙ g.whole);
          was_due = part.was_due;
          in_order = due-in-order part.behind.marked (λ id. spelling_on id part.behind.used) part.was_due part.given;
          places = subst P (sym part.used) (places_read (answers.Frame frame) heard part.answers);
          stops = part.stops;
          ends = tt;
          cause = count ∙ g.no_fault;
        }
