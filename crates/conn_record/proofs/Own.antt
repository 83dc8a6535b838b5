-- The bytes that went are the server's own spelling of the frames that went.
use Rattle.std.proofs.Common.{◌≡◌, ℕ, Bool, true, false, List, [], ◌∷◌, ◌++◌, map, fold, refl, sym, ap, ◌∙◌, append_assoc, append-nil}
use Rattle.std.specs.List.{flat_map, concat}
use Rattle.std.proofs.lemmas.List.{append_cancel_right}
use Rattle.std.proofs.lemmas.Grind.{flat_map-append}
use Rattle.links.specs.Link.{Moved, Read, Wrote, Waited, bytes_written}
use Rattle.h2_frames.specs.declared.frame.Frame.{Frame}
use Rattle.h2_frames.specs.declared.reader.Next.{Next}
use Rattle.h2_frames.specs.declared.reader.Next.TheVariants as next
use Rattle.h2_frames.specs.Held.{Held}
use Rattle.h2_frames.specs.Reading.{next_of, held_with}
use Rattle.h2_frames.specs.Spelling.{spelling}
use Rattle.h2_record.specs.Record.{Record, Out}
use Rattle.conn_record.specs.Timeline.{Framing, is_broken, came, byte_in, framing_of, timeline_of}
use Rattle.conn_record.specs.Written.{with_outs, spelled_out}
use Rattle.conn_record.specs.Sending.{IsOwn, OwnStays, OwnIsSent}
use Rattle.conn_record.proofs.Framed.{continued}
use Rattle.conn_record.proofs.Sending.{parts-are-sent}

-- ---- what was written

written-append : (log more : List Moved) → bytes_written (log ++ more) ≡ bytes_written log ++ bytes_written more
written-append [] more = refl
written-append (Read bytes ∷ log) more = written-append log more
written-append (Wrote bytes ∷ log) more = ap (λ (xs : List ℕ). bytes ++ xs) (written-append log more) ∙ sym (append_assoc bytes (bytes_written log) (bytes_written more))
written-append (Waited ∷ log) more = written-append log more

written-pieces : (pieces : List (List ℕ)) → bytes_written (map Wrote pieces) ≡ concat pieces
written-pieces [] = refl
written-pieces (piece ∷ pieces) = ap (λ (xs : List ℕ). piece ++ xs) (written-pieces pieces)

spelled-outs : (frames : List Frame) (r : Record) → spelled_out (with_outs r frames) ≡ spelled_out r ++ flat_map spelling frames
spelled-outs [] r = sym (append-nil (spelled_out r))
spelled-outs (frame ∷ frames) r = spelled-outs frames (Out frame ∷ r) ∙ append_assoc (spelled_out r) (spelling frame) (flat_map spelling frames)

-- ---- reads

-- a read changes nothing of what went
record SameOut (s now : Framing) : Type 0 where
  spelled : spelled_out now.frames ≡ spelled_out s.frames
  outflow : now.outflow ≡ s.outflow

out-came : (s : Framing) (held : Held) (n : Next) → SameOut s (came s held n)
out-came s held (next.Frame frame) = record { spelled = refl; outflow = refl }
out-came s held next.More = record { spelled = refl; outflow = refl }
out-came s held (next.Fault fault) = record { spelled = refl; outflow = refl }

out-in : (s : Framing) (byte : ℕ) → SameOut s (byte_in s byte)
unfolding byte_in
out-in s byte = by (is_broken s.frames) refl
  where
    by : (broken : Bool) → is_broken s.frames ≡ broken → SameOut s (byte_in s byte)
    by true e = rw e (record { spelled = refl; outflow = refl })
    by false e = rw e (out-came s (held_with s.inflow (byte ∷ [])) (next_of (held_with s.inflow (byte ∷ []))))

out-reads : (bytes : List ℕ) (s : Framing) → SameOut s (fold byte_in s bytes)
out-reads [] s = record { spelled = refl; outflow = refl }
out-reads (b ∷ bytes) s =
    let first = out-in s b in
    let rest = out-reads bytes (byte_in s b) in
    record { spelled = rest.spelled ∙ first.spelled; outflow = rest.outflow ∙ first.outflow }

own-read : (log : List Moved) → IsOwn log → (bytes : List ℕ) → IsOwn (log ++ Read bytes ∷ [])
own-read log own bytes =
    let same = out-reads bytes (framing_of log) in
    written-append log (Read bytes ∷ []) ∙ append-nil (bytes_written log) ∙ own
    ∙ (λ i. sym same.spelled i ++ sym same.outflow i)
    ∙ sym (ap (λ (s : Framing). spelled_out s.frames ++ s.outflow) (continued log (Read bytes ∷ [])))

own-waited : (log : List Moved) → IsOwn log → IsOwn (log ++ Waited ∷ [])
own-waited log own =
    written-append log (Waited ∷ []) ∙ append-nil (bytes_written log) ∙ own ∙ sym (ap (λ (s : Framing). spelled_out s.frames ++ s.outflow) (continued log (Waited ∷ [])))

pub own-stays : OwnStays
own-stays log own = (own-read log own, own-waited log own)

-- ---- writes

pub own-is-sent : OwnIsSent
own-is-sent log frames pieces left own none sendable same =
    let now : Framing = framing_of (log ++ map Wrote pieces) in
    let s = parts-are-sent log frames pieces left none sendable same in
    let went : concat pieces ≡ flat_map spelling s.whole ++ now.outflow =
    gone (concat pieces) left (flat_map spelling s.whole) now.outflow (flat_map spelling s.others)
    (same ∙ ap (flat_map spelling) s.parts ∙ flat_map-append spelling s.whole s.others) s.held in
    written-append log (map Wrote pieces)
    ∙ (λ i. (own ∙ ap (λ (xs : List ℕ). spelled_out (timeline_of log) ++ xs) none ∙ append-nil (spelled_out (timeline_of log))) i ++ (written-pieces pieces ∙ went) i)
    ∙ sym (append_assoc (spelled_out (timeline_of log)) (flat_map spelling s.whole) now.outflow)
    ∙ ap (λ (xs : List ℕ). xs ++ now.outflow) (sym (spelled-outs s.whole (timeline_of log)) ∙ sym (ap (λ (t : Framing). spelled_out t.frames) s.now_is))
  where
    -- what stands before the same rest is the same
    gone : (bytes left whole held others : List ℕ) → bytes ++ left ≡ whole ++ others → held ++ left ≡ others → bytes ≡ whole ++ held
    gone bytes left whole held others all rest =
        append_cancel_right bytes (whole ++ held) left (all ∙ ap (λ (xs : List ℕ). whole ++ xs) (sym rest) ∙ sym (append_assoc whole held left))
