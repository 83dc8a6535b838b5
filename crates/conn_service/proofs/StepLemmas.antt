-- The loop's invariant over writes and waits, and a fault of the link.
use Rattle.std.proofs.Common.{◌≡◌, inl, inr, ℕ, ◌+◌, ◌≤◌, List, [], ◌∷◌, ◌++◌, map, length, Option, None, refl, sym, ap, ◌∙◌, subst, append-nil, arith}
use Rattle.std.specs.List.{flat_map, concat}
use Rattle.outside.specs.Faults.{Rose}
use Rattle.links.specs.Told.{more, GoesOn}
use Rattle.links.specs.Link.{Moved, Wrote, Waited}
use Rattle.links.proofs.ToldLemmas.{more-more}
use Rattle.h2_frames.specs.Held.{Held as ReaderHeld}
use Rattle.h2_frames.specs.Spelling.{spelling}
use Rattle.h2_frames.specs.declared.frame.Frame.{Frame}
use Rattle.h2_record.specs.Record.{Record, Out}
use Rattle.h2_record.specs.Faults.{first_fault_of}
use Rattle.h2_record.specs.Texts.{given_text}
use Rattle.h2_record.specs.Written.{EachWasDue, IsFront}
use Rattle.conn_deferral.specs.Deferred.{Dealing, Deals}
use Rattle.open_tables.specs.Tables.{TableView}
use Rattle.conn_record.specs.Timeline.{Framing, framing_of, timeline_of, framed_from, unframed, moved}
use Rattle.conn_record.specs.Places.{HoldsFrom}
use Rattle.conn_record.specs.Written.{with_outs, AreDue}
use Rattle.conn_record.specs.Sending.{IsWithinFirst}
use Rattle.conn_record.specs.Giving.{EachWasGiven}
use Rattle.conn_record.proofs.Framed.{continued}
use Rattle.conn_record.proofs.Places.{places-go-on}
use Rattle.conn_record.proofs.Sending.{all-are-sent, parts-are-sent}
use Rattle.conn_record.proofs.Own.{own-stays, own-is-sent}
use Rattle.conn_record.proofs.Fronts.{due-goes-on}
use Rattle.conn_requests.specs.Decided.{Answered, Played, play, with_record}
use Rattle.conn_requests.specs.Spelled.{spelling_on}
use Rattle.conn_service.specs.declared.ending.Ending.TheVariants as ending
use Rattle.conn_service.specs.Served.{Planning}
use Rattle.conn_service.specs.Quiet.{IsWritten, IsSilent, SilentAt, ReadyAt}
use Rattle.conn_service.specs.Ends.{EndsInDue}
use Rattle.conn_service.specs.Serves.{reading_of, Shown, Serves}
use Rattle.conn_service.specs.Going.{Kept, IsLeftOf, Going, resumed}
use Rattle.conn_service.specs.Steps.{Moves, AreSent, gone}
use Rattle.conn_service.proofs.OrderLemmas.{due-in-order}
use Rattle.conn_service.proofs.GoingLemmas.{sound-stops, given_now}

-- ---- frames that went

sound-outs : (r : Record) (frames : List Frame) → first_fault_of r ≡ None → first_fault_of (with_outs r frames) ≡ None
sound-outs r [] sound = sound
sound-outs r (frame ∷ frames) sound = sound-outs (Out frame ∷ r) frames sound

open-outs : (r : Record) (frames : List Frame) → EachWasGiven r → EachWasGiven (with_outs r frames)
open-outs r [] each = each
open-outs r (frame ∷ frames) each = open-outs (Out frame ∷ r) frames each

pub given-outs : (r : Record) (frames : List Frame) (id : ℕ) → given_text (with_outs r frames) id ≡ given_text r id
given-outs r [] id = refl
given-outs r (frame ∷ frames) id = given-outs (Out frame ∷ r) frames id

pub due-outs : (r : Record) (frames : List Frame) → EachWasDue r → AreDue r frames → EachWasDue (with_outs r frames)
due-outs r frames each due =
    let P : List Frame → Type 0 = λ fs. AreDue r fs in
    (due-goes-on r frames [] each (subst P (sym (append-nil frames)) due)).0

play-out : (answers : List Answered) (frame : Frame) (frames : Record) (p : Played) → play answers frames ≡ p → play answers (Out frame ∷ frames) ≡ with_record p (Out frame ∷ p.marked)
unfolding play
play-out answers frame frames p is = ap (λ q. with_record q (Out frame ∷ q.marked)) is

pub play-outs : (answers : List Answered) (outs : List Frame) (frames : Record) (p : Played) → play answers frames ≡ p → play answers (with_outs frames outs) ≡ gone p outs
play-outs answers [] frames p is = is
play-outs answers (out ∷ outs) frames p is = play-outs answers outs (Out out ∷ frames) (with_record p (Out out ∷ p.marked)) (play-out answers out frames p is)

-- ---- places

at_writes : (AtWait AtRead : Framing → Type 0) (s : Framing) (pieces : List (List ℕ)) → HoldsFrom AtWait AtRead s (map Wrote pieces)
at_writes AtWait AtRead s [] = tt
at_writes AtWait AtRead s (piece ∷ pieces) = at_writes AtWait AtRead (moved s (Wrote piece)) pieces

pub over_writes : (AtWait AtRead : Framing → Type 0) (log : List Moved) (pieces : List (List ℕ)) → HoldsFrom AtWait AtRead unframed log → HoldsFrom AtWait AtRead unframed (log ++ map Wrote pieces)
over_writes AtWait AtRead log pieces before = (places-go-on AtWait AtRead unframed log (map Wrote pieces)).1 (before, at_writes AtWait AtRead (framed_from unframed log) pieces)

over_wait : (AtWait AtRead : Framing → Type 0) (log : List Moved) → HoldsFrom AtWait AtRead unframed log → AtWait (framing_of log) → HoldsFrom AtWait AtRead unframed (log ++ Waited ∷ [])
unfolding framing_of
over_wait AtWait AtRead log before now = (places-go-on AtWait AtRead unframed log (Waited ∷ [])).1 (before, (now, tt))

waited : (log : List Moved) → framing_of (log ++ Waited ∷ []) ≡ framing_of log
waited log = continued log (Waited ∷ [])

-- ---- a front

front_of : {X : Type 0} (xs ys zs ws : List X) → xs ++ ys ≡ zs ++ ws → length xs ≤ length zs → IsFront xs zs
front_of [] ys zs ws is short = (zs, refl)
front_of (x ∷ xs) ys [] ws is short = absurd (omega (arith, short))
front_of (x ∷ xs) ys (z ∷ zs) ws is short =
    let first : x ≡ z = cc in
    let others : xs ++ ys ≡ zs ++ ws = cc in
    let rest = front_of xs ys zs ws others (omega (arith, short)) in
    (rest.0, ap (λ l. x ∷ l) rest.1 ∙ ap (λ y. y ∷ zs) first)

pub unfinished : (r : Record) (outflow left : List ℕ) (others : List Frame) → AreDue r others → outflow ++ left ≡ flat_map spelling others → IsWithinFirst outflow others → EndsInDue r outflow
unfinished r outflow left [] due is within = inl within
unfinished r outflow left (frame ∷ others) due is within =
    inr (frame, due.0, front_of outflow left (spelling frame) (flat_map spelling others) is (omega (arith, within)))

module _ (plan : Planning) (passes0 passes : List TableView) (old now : Shown) (conn : Dealing) (reader : ReaderHeld) (kept : ℕ → Option Kept) (g : Going plan passes0 passes old now conn reader kept) (next : Shown) where
  moves_on : (entries : List Moved) → Moves now next entries → next.log ≡ more old.log (g.log ++ entries)
  moves_on entries moves = moves.log ∙ ap (λ l. more l entries) g.moved ∙ more-more old.log g.log entries

  timed_on : (entries : List Moved) → Moves now next entries → GoesOn old.readings (map reading_of g.played.used) next.readings
  timed_on entries moves = subst (GoesOn old.readings (map reading_of g.played.used)) (sym moves.readings) g.timed

  pub waits-go-on : IsWritten g.played → Moves now next (Waited ∷ []) → next.faults ≡ now.faults → (after : Going plan passes0 passes old next conn reader kept) × (after.played ≡ g.played)
  waits-go-on written moves count =
      let same = waited g.log in
      let silent : (later : List Answered) → SilentAt (g.played.used ++ later) (framing_of g.log) = λ later.
      let P : Played → Type 0 = λ p. IsSilent (framing_of g.log) p in
      subst P (sym (g.plays later)) (record { answered = g.answered; written = written; whole = g.whole }) in (
        record {
          log = g.log ++ Waited ∷ [];
          played = g.played;
          moved = moves_on (Waited ∷ []) moves;
          no_fault = count ∙ g.no_fault;
          plays = λ later. ap (λ s. play (g.played.used ++ later) s.frames) same ∙ g.plays later;
          held = ap (λ s. s.inflow) same ∙ g.held;
          whole = ap (λ s. s.outflow) same ∙ g.whole;
          deals = g.deals;
          left = g.left;
          calls = g.calls;
          sound = g.sound;
          answered = g.answered;
          served = g.served;
          timed = timed_on (Waited ∷ []) moves;
          in_time = g.in_time;
          was_open = g.was_open;
          own = (own-stays g.log g.own).1;
          was_due = g.was_due;
          places = λ later. over_wait (SilentAt (g.played.used ++ later)) (ReadyAt (g.played.used ++ later)) g.log (g.places later) (silent later);
        },
        refl,
      )

  module _ (frames : List Frame) (pieces : List (List ℕ)) (sent : AreSent g.played frames) (moves : Moves now next (map Wrote pieces)) where
    pub writes-go-on : (behind : Dealing) → concat pieces ≡ flat_map spelling frames → next.faults ≡ now.faults → Deals behind (with_outs g.played.marked frames) → IsLeftOf g.played behind.left
        → (after : Going plan passes0 passes old next behind reader kept) × (after.played ≡ gone g.played frames) × ((framing_of after.log).since ≡ (framing_of g.log).since + length (concat pieces))
    writes-go-on behind joined count deals left =
        let now_is = all-are-sent g.log frames pieces g.whole sent.sendable joined in (
          record {
            log = g.log ++ map Wrote pieces;
            played = gone g.played frames;
            moved = moves_on (map Wrote pieces) moves;
            no_fault = count ∙ g.no_fault;
            plays = λ later. ap (λ s. play (g.played.used ++ later) s.frames) now_is ∙ play-outs (g.played.used ++ later) frames (timeline_of g.log) (resumed g.played later) (g.plays later);
            held = ap (λ s. s.inflow) now_is ∙ g.held;
            whole = ap (λ s. s.outflow) now_is;
            deals = deals;
            left = left;
            calls = g.calls;
            sound = sound-outs g.played.marked frames g.sound;
            answered = g.answered;
            served = g.served;
            timed = timed_on (map Wrote pieces) moves;
            in_time = g.in_time;
            was_open = open-outs g.played.marked frames g.was_open;
            own = own-is-sent g.log frames pieces [] g.own g.whole sent.sendable (append-nil (concat pieces) ∙ joined);
            was_due = due-outs g.played.marked frames g.was_due sent.due;
            places = λ later. over_writes (SilentAt (g.played.used ++ later)) (ReadyAt (g.played.used ++ later)) g.log pieces (g.places later);
          },
          refl,
          ap (λ s. s.since) now_is,
        )

    pub fault-ends : (left : List ℕ) → concat pieces ++ left ≡ flat_map spelling frames → Rose now.faults next.faults → Serves plan passes0 passes old next ending.LinkFault
    fault-ends left joined rose =
        let part = parts-are-sent g.log frames pieces left g.whole sent.sendable joined in
        let D : List Frame → Type 0 = λ fs. AreDue g.played.marked fs in
        let both = due-goes-on g.played.marked part.whole part.others g.was_due (subst D part.parts sent.due) in
        let r = with_outs g.played.marked part.whole in
        let given : (id : ℕ) → given_text r id ≡ spelling_on id g.played.used =
        λ id. given-outs g.played.marked part.whole id ∙ given_now plan passes0 passes old now conn reader kept g id in
        let C : ℕ → Type 0 = λ count. Rose count next.faults in
        let Q : List Answered → Type 0 = λ xs. HoldsFrom (SilentAt xs) (ReadyAt xs) unframed (g.log ++ map Wrote pieces) in
        record {
          log = g.log ++ map Wrote pieces;
          answers = g.played.used;
          played = gone (resumed g.played []) part.whole;
          moved = moves_on (map Wrote pieces) moves;
          plays = ap (λ s. play g.played.used s.frames) part.now_is
              ∙ play-outs g.played.used part.whole (timeline_of g.log) (resumed g.played []) (ap (λ xs. play xs (timeline_of g.log)) (sym (append-nil g.played.used)) ∙ g.plays []);
          asked = g.answered;
          used = refl;
          served = g.served;
          timed = timed_on (map Wrote pieces) moves;
          in_time = g.in_time;
          own = own-is-sent g.log frames pieces left g.own g.whole sent.sendable joined;
          unfinished = unfinished r (framing_of (g.log ++ map Wrote pieces)).outflow left part.others both.1 part.held part.within;
          was_due = both.0;
          in_order = due-in-order r (λ id. spelling_on id g.played.used) both.0 given;
          places = subst Q (append-nil g.played.used) (over_writes (SilentAt (g.played.used ++ [])) (ReadyAt (g.played.used ++ [])) g.log pieces (g.places []));
          stops = sound-stops r (sound-outs g.played.marked part.whole g.sound);
          ends = tt;
          cause = subst C g.no_fault rose;
        }
