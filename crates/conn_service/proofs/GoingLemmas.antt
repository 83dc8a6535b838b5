-- How the loop's invariant begins, and what it gives where the client's bytes end.
use Rattle.std.proofs.Common.{◌≡◌, ◌⊎◌, inl, inr, ℕ, ◌==◌, ◌<◌, ◌≤◌, true, List, [], ◌∷◌, ◌++◌, map, length, Option, Some, None, refl, sym, ap, ◌∙◌, subst, append-nil}
use Rattle.std.specs.Option.{option_or}
use Rattle.std.proofs.lemmas.List.Elements.{All-nil}
use Rattle.links.specs.Link.{IsSpent}
use Rattle.links.proofs.ToldLemmas.{more-nil, GoesOn-nil}
use Rattle.h2_frames.specs.Held.{Held as ReaderHeld}
use Rattle.h2_frames.specs.Reading.{need_of}
use Rattle.h2_frames.specs.declared.fault.H2Fault.{H2Fault}
use Rattle.h2_record.specs.Record.{Record, In, Out, Given, Whole, Broken}
use Rattle.h2_record.specs.Faults.{first_fault_of, fault_by}
use Rattle.h2_record.specs.Texts.{Token, Fields, Octet, given_text, written_text}
use Rattle.open_tables.specs.Tables.{TableView}
use Rattle.conn_record.specs.declared.limits.TheConstants.{LEAST_ROOM}
use Rattle.conn_record.specs.Timeline.{framing_of, timeline_of, unframed}
use Rattle.conn_record.specs.Places.{HoldsFrom}
use Rattle.conn_record.specs.Marks.{unmarked}
use Rattle.conn_record.proofs.Marks.{timelines-are-unmarked, timelines-are-spelled}
use Rattle.conn_record.specs.Quiet.{IsSettled}
use Rattle.conn_deferral.specs.Deferred.{Dealing}
use Rattle.conn_deferral.specs.Resting.{IsHeldBack, DealsAll}
use Rattle.conn_deferral.proofs.Dealing.{dealing-begins}
use Rattle.conn_deferral.proofs.Rest.{rests-where-blocked}
use Rattle.conn_requests.specs.Decided.{Answered, Played, play, item_of}
use Rattle.conn_requests.specs.Spelled.{spelling_on}
use Rattle.conn_requests.specs.Laws.{frames_in}
use Rattle.conn_requests.proofs.PlayedLemmas.{play-played}
use Rattle.conn_service.specs.declared.ending.Ending.{Ending}
use Rattle.conn_service.specs.declared.ending.Ending.TheVariants as ending
use Rattle.conn_service.specs.Served.{Planning}
use Rattle.conn_service.specs.Quiet.{IsWritten, reads_on, IsHeldAtEnd, SilentAt, ReadyAt}
use Rattle.conn_service.specs.Ends.{Ends, EndCause, IsOver, IsAsked, StopsAtFault}
use Rattle.conn_service.specs.Serves.{IsInTime, Shown, Serves}
use Rattle.conn_service.specs.Going.{Kept, EndsInTrailers, Going, resumed}
use Rattle.conn_service.specs.Laws.{GoingBegins}
use Rattle.conn_service.proofs.OrderLemmas.{due-in-order}

-- ---- the start

nothing_played : (later : List Answered) → play later (timeline_of []) ≡ resumed (play [] []) later
unfolding framing_of play
nothing_played later = refl

pub going-begins : GoingBegins
unfolding framing_of play
going-begins plan passes now conn kept stands empty none = record {
  log = [];
  played = play [] [];
  moved = sym (more-nil now.log);
  no_fault = refl;
  plays = nothing_played;
  held = refl;
  whole = refl;
  deals = dealing-begins conn stands empty;
  left = λ id. inl (empty id);
  calls = none;
  sound = refl;
  answered = refl;
  served = refl;
  timed = GoesOn-nil now.readings;
  in_time = All-nil IsInTime;
  was_open = tt;
  own = refl;
  was_due = tt;
  places = λ later. tt;
}

-- ---- frames without marks

-- the two words for them
frames-unmarked : (r : Record) → frames_in r ≡ unmarked r
frames-unmarked [] = refl
frames-unmarked (In frame ∷ r) = ap (λ fs. In frame ∷ fs) (frames-unmarked r)
frames-unmarked (Out frame ∷ r) = ap (λ fs. Out frame ∷ fs) (frames-unmarked r)
frames-unmarked (Given stream part ∷ r) = frames-unmarked r
frames-unmarked (Whole ∷ r) = frames-unmarked r
frames-unmarked (Broken fault ∷ r) = ap (λ fs. Broken fault ∷ fs) (frames-unmarked r)

earlier_none : (earlier later : Option H2Fault) → option_or earlier later ≡ None → earlier ≡ None
earlier_none None later none = refl
earlier_none (Some fault) later none = absurd cc

-- where no rule is broken, no frame came behind one that broke any
pub sound-stops : (r : Record) → first_fault_of r ≡ None → StopsAtFault r
sound-stops [] sound = tt
sound-stops (In frame ∷ r) sound = earlier_none (first_fault_of r) (fault_by r frame) sound
sound-stops (Out frame ∷ r) sound = sound-stops r sound
sound-stops (Given stream part ∷ r) sound = sound-stops r sound
sound-stops (Whole ∷ r) sound = sound-stops r sound
sound-stops (Broken fault ∷ r) sound = earlier_none (first_fault_of r) (Some fault) sound

-- ---- what is left waits at its trailers, or is held up

module _ (p : Played) (id : ℕ) (left : List Token) where
  held-by : (bytes : List ℕ) (block : List ℕ) → left ≡ map Octet bytes ++ Fields true block ∷ [] → reads_on id p.used ≡ true → IsHeldBack p.marked id left (spelling_on id p.used)
      → IsSettled p.marked id (spelling_on id p.used) ⊎ ((reads_on id p.used ≡ true) × IsHeldAtEnd p.marked id (spelling_on id p.used))
  held-by [] block is reads held = inr (reads, record { block = block; next = ap (λ l. written_text p.marked id ++ l) (sym is) ∙ held.rest; window = held.window })
  held-by (byte ∷ bytes) block is reads held = inl (inr (inr (record {
    octet = byte;
    behind = map Octet bytes ++ Fields true block ∷ [];
    next = ap (λ l. written_text p.marked id ++ l) (sym is) ∙ held.rest;
    window = held.window;
  })))

  left-by : (left ≡ []) ⊎ ((reads_on id p.used ≡ true) × EndsInTrailers left) → IsHeldBack p.marked id left (spelling_on id p.used)
      → IsSettled p.marked id (spelling_on id p.used) ⊎ ((reads_on id p.used ≡ true) × IsHeldAtEnd p.marked id (spelling_on id p.used))
  left-by (inl none) held = absurd (let some = held.some in cc)
  left-by (inr (reads, ends)) held = held-by ends.bytes ends.block ends.is reads held

  written-by : (left ≡ []) ⊎ ((reads_on id p.used ≡ true) × EndsInTrailers left) → given_text p.marked id ≡ spelling_on id p.used
      → IsSettled p.marked id (given_text p.marked id) ⊎ IsHeldBack p.marked id left (given_text p.marked id)
      → IsSettled p.marked id (spelling_on id p.used) ⊎ ((reads_on id p.used ≡ true) × IsHeldAtEnd p.marked id (spelling_on id p.used))
  written-by shape given (inl settled) = inl (subst (IsSettled p.marked id) given settled)
  written-by shape given (inr held) = left-by shape (subst (IsHeldBack p.marked id left) given held)

module _ (plan : Planning) (passes0 passes : List TableView) (old now : Shown) (conn : Dealing) (reader : ReaderHeld) (kept : ℕ → Option Kept) (g : Going plan passes0 passes old now conn reader kept) where
  -- no answer follows
  pub plays_now : play g.played.used (timeline_of g.log) ≡ resumed g.played []
  plays_now = ap (λ xs. play xs (timeline_of g.log)) (sym (append-nil g.played.used)) ∙ g.plays []

  marked_now : (play g.played.used (timeline_of g.log)).marked ≡ g.played.marked
  marked_now = ap (λ p. p.marked) plays_now

  -- the frames of the record with marks are those of the log
  pub frames_now : unmarked g.played.marked ≡ timeline_of g.log
  frames_now =
      sym (frames-unmarked g.played.marked) ∙ ap frames_in (sym marked_now) ∙ (play-played g.played.used (timeline_of g.log)).frames_are
      ∙ frames-unmarked (timeline_of g.log) ∙ timelines-are-unmarked g.log

  -- what was given is the spelling of the answers
  pub given_now : (id : ℕ) → given_text g.played.marked id ≡ spelling_on id g.played.used
  given_now =
      let P : Played → Type 0 = λ p. map item_of p.used ≡ p.decided → (id : ℕ) → given_text p.marked id ≡ spelling_on id p.used in
      subst P plays_now (play-played g.played.used (timeline_of g.log)).spelled g.answered

  pub quiet-at-rest : (room : ℕ) → LEAST_ROOM ≤ room → DealsAll conn room g.played.marked → IsWritten g.played
  quiet-at-rest room wide all =
      let rest = rests-where-blocked conn g.played.marked room all g.sound (timelines-are-spelled g.log g.played.marked frames_now) g.was_open wide in
      record {
        control = rest.control;
        resets = rest.resets;
        texts = λ id. written-by g.played id (conn.left id) (g.left id) (given_now id) (rest.texts id);
      }

  -- ---- the end

  places_now : HoldsFrom (SilentAt g.played.used) (ReadyAt g.played.used) unframed g.log
  places_now = let P : List Answered → Type 0 = λ xs. HoldsFrom (SilentAt xs) (ReadyAt xs) unframed g.log in subst P (append-nil g.played.used) (g.places [])

  over : IsWritten g.played → now.ended ≡ true → IsSpent now.left → IsOver (framing_of g.log) (resumed g.played []) now.ended now.left
  over written met spent = record { met = met; spent = spent; sound = g.sound; silent = record { answered = g.answered; written = written; whole = g.whole } }

  -- all but how it ends
  serves : (end : Ending) → IsAsked end (resumed g.played []) g.played.used → Ends end (framing_of g.log) (resumed g.played []) now.ended now.left → EndCause old.faults now.faults end
      → Serves plan passes0 passes old now end
  serves end asked ends cause = record {
    log = g.log;
    answers = g.played.used;
    played = resumed g.played [];
    moved = g.moved;
    plays = plays_now;
    asked = asked;
    used = refl;
    served = g.served;
    timed = g.timed;
    in_time = g.in_time;
    own = g.own;
    unfinished = inl g.whole;
    was_due = g.was_due;
    in_order = due-in-order g.played.marked (λ id. spelling_on id g.played.used) g.was_due given_now;
    places = places_now;
    stops = sound-stops g.played.marked g.sound;
    ends = ends;
    cause = cause;
  }

  pub done : IsWritten g.played → now.ended ≡ true → IsSpent now.left → (length reader.bytes == 0) ≡ true → Serves plan passes0 passes old now ending.Done
  done written met spent empty = serves ending.Done g.answered (ap (λ h. length h.bytes == 0) g.held ∙ empty, over written met spent) g.no_fault

  pub cut : IsWritten g.played → now.ended ≡ true → IsSpent now.left → 0 < length reader.bytes → Serves plan passes0 passes old now (ending.Cut (length reader.bytes) (need_of reader))
  cut written met spent some =
      serves (ending.Cut (length reader.bytes) (need_of reader)) g.answered (some, ap (λ h. length h.bytes) (sym g.held), ap (λ h. need_of h) (sym g.held), over written met spent) g.no_fault

  pub out-of-memory : Serves plan passes0 passes old now ending.Memory
  out-of-memory = serves ending.Memory ([], append-nil (map item_of g.played.used) ∙ g.answered) tt g.no_fault
