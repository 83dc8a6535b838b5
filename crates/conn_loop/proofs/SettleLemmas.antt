-- What fills a buffer and is sent.
use Rattle.std.proofs.Common.{◌≡◌, ℕ, ◌-◌, ◌<◌, ◌≤◌, List, [], ◌∷◌, ◌++◌, length, Option, refl, sym, ap, subst, ◌∙◌, append_assoc, length-append, arith}
use Rattle.std.specs.List.{flat_map, AllByRecursion}
use Rattle.outside.specs.Faults.{Rose}
use Rattle.links.specs.Link.{Moved}
use Rattle.links.specs.Pieces.{TookPieces}
use Rattle.h2_frames.specs.declared.frame.Frame.{Frame}
use Rattle.h2_frames.specs.Spelling.{spelling, frame_len}
use Rattle.h2_record.specs.Record.{Record, Out}
use Rattle.h2_record.specs.Faults.{first_fault_of}
use Rattle.h2_record.specs.Quiet.{NoneFits}
use Rattle.h2_record.specs.Texts.{Token}
use Rattle.h2_record.specs.Written.{EachWasDue}
use Rattle.h2_conn.specs.Held.{Held}
use Rattle.h2_conn.specs.Stands.{Stands}
use Rattle.h2_conn.specs.Appended.{Appended}
use Rattle.h2_conn.specs.Fills.{with_out, AreDue as AreDueWithin, IsReadBack, Fills}
use Rattle.conn_record.specs.declared.limits.TheConstants.{LEAST_ROOM, WRITE_ROOM, MOST_BEHIND}
use Rattle.conn_record.specs.Written.{with_outs, AreDue}
use Rattle.conn_record.specs.Sending.{IsSendable}
use Rattle.conn_record.specs.Giving.{EachWasGiven}
use Rattle.conn_deferral.specs.Deferred.{Dealing, Deals}
use Rattle.conn_deferral.specs.Resting.{DealsAll, SaysAll}
use Rattle.conn_deferral.specs.Laws.{Sends}
use Rattle.conn_deferral.proofs.Dues.{sound-both}
use Rattle.conn_deferral.proofs.Dealing.{deals-on, deals-rest}
use Rattle.conn_requests.specs.Decided.{Played}
use Rattle.conn_service.specs.Going.{IsLeftOf}
use Rattle.conn_calls.specs.Dealing.{Dealt, dealing_of, IsDealt, Polls, NoneReady}
use Rattle.conn_calls.proofs.PollingLemmas.{shape-kept}
use Rattle.conn_loop.specs.declared.settling.Settled.{Settled}
use Rattle.conn_loop.specs.declared.settling.Settled.TheVariants as settled
use Rattle.conn_loop.specs.Settling.{Holding, Resting, TookFirst, Went, LeavesNone, Settles, SendsFilled, Appends, Filled, FillsAll}

-- ---- the same frames, one behind another

outs_are : (r : Record) (frames : List Frame) → with_out r frames ≡ with_outs r frames
outs_are r [] = refl
outs_are r (frame ∷ frames) = outs_are (Out frame ∷ r) frames

dues_are : (r : Record) (room : ℕ) (frames : List Frame) → AreDueWithin r room frames → AreDue r frames
dues_are r room [] due = tt
dues_are r room (frame ∷ frames) due = (due.0, dues_are (Out frame ∷ r) (room - frame_len frame) frames due.2)

sendables : (frames : List Frame) → AllByRecursion IsReadBack frames → AllByRecursion IsSendable frames
sendables [] each = tt
sendables (frame ∷ frames) each = ((each.0.writable, each.0.in_range), sendables frames each.1)

-- ---- frames are appended

module _ (old filled new : Held) (before after : List ℕ) (short : length before ≤ WRITE_ROOM) (appended : Appended before after (λ bytes. Fills old (WRITE_ROOM - length before) bytes filled)) (stands : (r : Record) → Stands filled r → Stands new r) where
  room-left : (bytes : List ℕ) → after ≡ before ++ bytes → WRITE_ROOM - length before - length bytes ≡ WRITE_ROOM - length after
  room-left bytes joined = omega (arith, short, ap length joined, length-append before bytes)

  pub appends : Appends old new before after
  appends =
      let fills = appended.is in
      let N : ℕ → Type 0 = λ room. (r : Record) → Stands old r → NoneFits (with_outs r fills.frames) room in
      let P : Record → Record → Type 0 = λ r q. NoneFits q (WRITE_ROOM - length before - length appended.bytes) in
      record {
        frames = fills.frames;
        bytes = appended.bytes;
        joined = appended.joined;
        spelled = fills.sent.spelled;
        sendable = sendables fills.frames fills.sent.each;
        fits = omega (arith, short, fills.sent.fits, ap length appended.joined, length-append before appended.bytes);
        due = λ r h. dues_are r (WRITE_ROOM - length before) fills.frames (fills.sent.due r h);
        stands = λ r h. subst (Stands new) (outs_are r fills.frames) (stands (with_out r fills.frames) (fills.stands r h));
        none = subst N (room-left appended.bytes appended.joined) (λ r h. subst (P r) (outs_are r fills.frames) (fills.none r h));
      }

-- ---- a buffer is filled

nothing-filled : (Holds : Holding) (conn : Dealing) (bytes : List ℕ) → bytes ≡ [] → Filled Holds conn conn bytes
nothing-filled Holds conn bytes empty = record {
  frames = [];
  spelled = empty;
  sendable = tt;
  due = λ r holds. tt;
  holds = λ r holds. holds;
  left = λ p left. left;
}

pub begins-filled : (conn : Dealing) (bytes : List ℕ) → bytes ≡ [] → Filled IsDealt conn conn bytes
begins-filled conn bytes empty = nothing-filled IsDealt conn bytes empty

-- by what was decided, where they are due by what was given
sends-of : (old new : Held) (before after : List ℕ) (a : Appends old new before after) → Sends old new a.frames
sends-of old new before after a = record { due = a.due; stands = a.stands }

fault-outs : (r : Record) (frames : List Frame) → first_fault_of (with_outs r frames) ≡ first_fault_of r
fault-outs r [] = refl
fault-outs r (frame ∷ frames) = fault-outs (Out frame ∷ r) frames

open-outs : (r : Record) (frames : List Frame) → EachWasGiven r → EachWasGiven (with_outs r frames)
open-outs r [] each = each
open-outs r (frame ∷ frames) each = open-outs (Out frame ∷ r) frames each

due-outs : (r : Record) (frames : List Frame) → EachWasDue r → AreDue r frames → EachWasDue (with_outs r frames)
due-outs r [] each due = each
due-outs r (frame ∷ frames) each due = due-outs (Out frame ∷ r) frames (due.0, each) due.1

-- frames behind frames
outs-then : (r : Record) (first others : List Frame) → with_outs r (first ++ others) ≡ with_outs (with_outs r first) others
outs-then r [] others = refl
outs-then r (frame ∷ first) others = outs-then (Out frame ∷ r) first others

due-then : (r : Record) (first others : List Frame) → AreDue r first → AreDue (with_outs r first) others → AreDue r (first ++ others)
due-then r [] others due then = then
due-then r (frame ∷ first) others due then = (due.0, due-then (Out frame ∷ r) first others due.1 then)

sendable-then : (first others : List Frame) → AllByRecursion IsSendable first → AllByRecursion IsSendable others → AllByRecursion IsSendable (first ++ others)
sendable-then [] others sendable then = then
sendable-then (frame ∷ first) others sendable then = (sendable.0, sendable-then first others sendable.1 then)

spelling-then : (first others : List Frame) → flat_map spelling (first ++ others) ≡ flat_map spelling first ++ flat_map spelling others
spelling-then [] others = refl
spelling-then (frame ∷ first) others = ap (λ l. spelling frame ++ l) (spelling-then first others) ∙ sym (append_assoc (spelling frame) (flat_map spelling first) (flat_map spelling others))

module _ (Holds : Holding) (old mid new : Dealing) (before after : List ℕ) (f : Filled Holds old mid before) (a : Appends mid.conn new.conn before after)
    (due : (r : Record) → Holds mid r → AreDue r a.frames) (holds : (r : Record) → Holds mid r → Holds new (with_outs r a.frames)) (left : (p : Played) → IsLeftOf p mid.left → IsLeftOf p new.left) where
  fills-on : Filled Holds old new after
  fills-on = record {
    frames = f.frames ++ a.frames;
    spelled = a.joined ∙ (λ i. f.spelled i ++ a.spelled i) ∙ sym (spelling-then f.frames a.frames);
    sendable = sendable-then f.frames a.frames f.sendable a.sendable;
    due = λ r h. due-then r f.frames a.frames (f.due r h) (due (with_outs r f.frames) (f.holds r h));
    holds = λ r h. subst (Holds new) (sym (outs-then r f.frames a.frames)) (holds (with_outs r f.frames) (f.holds r h));
    left = λ p l. left p (f.left p l);
  }

-- where the connection goes on
module _ (mid : Dealt) (conn : Held) (before after : List ℕ) (a : Appends mid.conn conn before after) where
  abbrev next : Dealt
  next = record { conn = conn; bodies = mid.bodies }

  due-on : (r : Record) → IsDealt (dealing_of mid) r → AreDue r a.frames
  due-on r d = (deals-on (dealing_of mid) conn a.frames r (sends-of mid.conn conn before after a) d.deals).0

  dealt-on : (r : Record) → IsDealt (dealing_of mid) r → IsDealt (dealing_of next) (with_outs r a.frames)
  dealt-on r d = record {
    deals = (deals-on (dealing_of mid) conn a.frames r (sends-of mid.conn conn before after a) d.deals).1;
    sound = fault-outs r a.frames ∙ d.sound;
    was_open = open-outs r a.frames d.was_open;
    was_due = due-outs r a.frames d.was_due (due-on r d);
  }

  pub filled-on : (old : Dealing) → Filled IsDealt old (dealing_of mid) before → Filled IsDealt old (dealing_of next) after
  filled-on old f = fills-on IsDealt old (dealing_of mid) (dealing_of next) before after f a due-on dealt-on (λ p left. left)

  -- little is left of the buffer
  pub much-filled : (old : Dealing) → Filled IsDealt old (dealing_of mid) before → WRITE_ROOM - length after < LEAST_ROOM → FillsAll IsDealt DealsAll old (dealing_of next) after
  much-filled old f little = record { filled = filled-on old f; fits = a.fits; rests = λ enough. absurd (omega (arith, enough, little)) }

  rests-by : NoneReady next → (r : Record) → IsDealt (dealing_of mid) r → DealsAll (dealing_of next) (WRITE_ROOM - length after) (with_outs r a.frames)
  rests-by ready r d =
      let all = deals-rest (dealing_of mid) conn a.frames r (WRITE_ROOM - length after) (sends-of mid.conn conn before after a) a.none d.deals in
      record {
        deals = all.deals;
        none = all.none;
        blocked = ready all.deals.given all.deals.stands (sound-both all.deals.given (with_outs r a.frames) all.deals.defers.same ∙ fault-outs r a.frames ∙ d.sound);
      }

  -- nothing more is due, and nothing may be given
  pub all-filled : (old : Dealing) → Filled IsDealt old (dealing_of mid) before → NoneReady next → FillsAll IsDealt DealsAll old (dealing_of next) after
  unfolding filled-on fills-on
  all-filled old f ready =
      let D : Record → Type 0 = λ q. DealsAll (dealing_of next) (WRITE_ROOM - length after) q in
      record {
        filled = filled-on old f;
        fits = a.fits;
        rests = λ enough r d. subst D (sym (outs-then r f.frames a.frames)) (rests-by ready (with_outs r f.frames) (f.holds r d));
      }

-- behind a broken rule
module _ (old new : Held) (left : ℕ → List Token) (before after : List ℕ) (empty : before ≡ []) (a : Appends old new before after) where
  abbrev was : Dealing
  was = record { conn = old; left = left }

  abbrev is : Dealing
  is = record { conn = new; left = left }

  pub last-filled : FillsAll Deals SaysAll was is after
  unfolding fills-on nothing-filled
  last-filled = record {
    filled = fills-on Deals was was is before after (nothing-filled Deals was before empty) a
        (λ r d. (deals-on was new a.frames r (sends-of old new before after a) d).0) (λ r d. (deals-on was new a.frames r (sends-of old new before after a) d).1) (λ p l. l);
    fits = a.fits;
    rests = λ enough r d. deals-rest was new a.frames r (WRITE_ROOM - length after) (sends-of old new before after a) a.none d;
  }

-- parts are given between
pub polled-on : (old : Dealing) (mid new : Dealt) (bytes : List ℕ) → Filled IsDealt old (dealing_of mid) bytes → Polls mid new → Filled IsDealt old (dealing_of new) bytes
polled-on old mid new bytes f polls = record {
  frames = f.frames;
  spelled = f.spelled;
  sendable = f.sendable;
  due = f.due;
  holds = λ r h.
      let d = f.holds r h in
      record { deals = polls.deals (with_outs r f.frames) d.sound d.was_open d.deals; sound = d.sound; was_open = d.was_open; was_due = d.was_due };
  left = λ p l. shape-kept mid new polls.kept p (f.left p l);
}

-- ---- a filled buffer, whole and in part

module _ (Holds : Holding) (Rests : Resting) (old new : Dealing) (bytes : List ℕ) (log0 log : Option (List Moved)) (before now : ℕ) (all : FillsAll Holds Rests old new bytes) where
  abbrev went : TookPieces log0 log bytes → Went Holds old new log0 log
  went took = record {
    frames = all.filled.frames;
    pieces = took.pieces;
    told = took.told;
    joined = took.joined ∙ all.filled.spelled;
    sendable = all.filled.sendable;
    due = all.filled.due;
    holds = all.filled.holds;
    left = all.filled.left;
  }

  is_quiet : TookPieces log0 log bytes → now ≡ before → LEAST_ROOM ≤ WRITE_ROOM - length bytes → Settles Holds Rests settled.Quiet old new log0 log before now
  is_quiet took count enough = (went took, record { room = WRITE_ROOM - length bytes; enough = enough; none = all.rests enough }, count)

  is_behind : TookPieces log0 log bytes → now ≡ before → MOST_BEHIND ≤ length bytes → Settles Holds Rests settled.Behind old new log0 log before now
  is_behind took count much = (went took, subst (λ (sent : List ℕ). MOST_BEHIND ≤ length sent) (sym took.joined) much, count)

  is_cut : TookFirst log0 log bytes → Rose before now → Settles Holds Rests settled.LinkFault old new log0 log before now
  is_cut first rose = (
    record {
      frames = all.filled.frames;
      pieces = first.pieces;
      left = first.left;
      told = first.told;
      joined = first.joined ∙ all.filled.spelled;
      sendable = all.filled.sendable;
      due = all.filled.due;
    },
    rose,
  )

  pub settles : (answer : Settled) → SendsFilled answer bytes log0 log before now → Settles Holds Rests answer old new log0 log before now
  settles settled.Quiet sends = is_quiet sends.0 sends.2 sends.1
  settles settled.Behind sends = is_behind sends.0 sends.2 sends.1
  settles settled.LinkFault sends = is_cut sends.0 sends.1
  settles settled.Memory sends = absurd sends
