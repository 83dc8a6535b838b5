-- Frames that go one behind another within a room.
use Rattle.std.proofs.Common.{◌≡◌, ℕ, ◌+◌, ◌-◌, ◌<◌, true, List, [], ◌∷◌, ◌++◌, length, refl, sym, ap, subst, ◌∙◌, arith, append_assoc, length-append}
use Rattle.std.specs.List.{flat_map, AllByRecursion}
use Rattle.std.proofs.lemmas.List.{append-nil}
use Rattle.h2_frames.specs.declared.frame.Frame.{Frame}
use Rattle.h2_frames.specs.Spelling.{spelling, frame_len}
use Rattle.h2_record.specs.Record.{Record, Out}
use Rattle.h2_record.specs.Due.{IsDue, IsLongest}
use Rattle.h2_record.specs.Written.{EachWasDue}
use Rattle.h2_conn.specs.Held.{Held}
use Rattle.h2_conn.specs.Stands.{Stands}
use Rattle.h2_conn.specs.Appended.{Appended}
use Rattle.h2_conn.specs.Produces.{Goes, Rests}
use Rattle.h2_conn.specs.Fills.{with_out, AreDue, IsReadBack, Sends, SendsSome, Fills}
use Rattle.h2_conn.proofs.ProduceSteps.{spelled-some}

-- ---- with one frame more

out-more : (r : Record) (frames : List Frame) (frame : Frame) → with_out r (frames ++ frame ∷ []) ≡ Out frame ∷ with_out r frames
out-more r [] frame = refl
out-more r (x ∷ xs) frame = out-more (Out x ∷ r) xs frame

spelled-more : (frames : List Frame) (frame : Frame) → flat_map spelling (frames ++ frame ∷ []) ≡ flat_map spelling frames ++ spelling frame
spelled-more [] frame = append-nil (spelling frame)
spelled-more (x ∷ xs) frame = ap (λ bytes. spelling x ++ bytes) (spelled-more xs frame) ∙ sym (append_assoc (spelling x) (flat_map spelling xs) (spelling frame))

each-more : (frames : List Frame) (frame : Frame) → AllByRecursion IsReadBack frames → IsReadBack frame → AllByRecursion IsReadBack (frames ++ frame ∷ [])
each-more [] frame all h = (h, tt)
each-more (x ∷ xs) frame all h = (all.0, each-more xs frame all.1 h)

due-more : (r : Record) (room left : ℕ) (frames : List Frame) (frame : Frame) → left + length (flat_map spelling frames) ≡ room → AreDue r room frames
    → IsDue (with_out r frames) frame → IsLongest (with_out r frames) left frame → AreDue r room (frames ++ frame ∷ [])
due-more r room left [] frame is all due longest =
    let same : left ≡ room = omega (arith, is) in
    (due, subst (λ (n : ℕ). IsLongest r n frame) same longest, tt)
due-more r room left (x ∷ xs) frame is all due longest =
    let rest : left + length (flat_map spelling xs) ≡ room - frame_len x = omega (arith, is, length-append (spelling x) (flat_map spelling xs)) in
    (all.0, all.1, due-more (Out x ∷ r) (room - frame_len x) left xs frame rest all.2 due longest)

no-frames : (frames : List Frame) (frame : Frame) → frames ++ frame ∷ [] ≡ [] → ⊥
no-frames frames frame e = omega (arith, ap length e, length-append frames (frame ∷ []))

-- ---- on the way: these frames went, and so much of the room is left

pub record Filling (old : Held) (room : ℕ) (before : List ℕ) (left : ℕ) (now : Held) (after : List ℕ) : Type 0 where
  pub frames : List Frame
  pub bytes : List ℕ
  pub joined : after ≡ before ++ bytes
  pub sent : Sends old room frames bytes
  pub left_is : left + length bytes ≡ room
  pub counted : now.unwritten ≡ old.unwritten + length bytes
  pub stands : (r : Record) → Stands old r → Stands now (with_out r frames)
  pub same : frames ≡ [] → now ≡ old
  pub lost : old.is_lost ≡ true → frames ≡ []

pub filling-none : (old : Held) (room : ℕ) (before : List ℕ) → Filling old room before room old before
filling-none old room before = record {
  frames = [];
  bytes = [];
  joined = sym (append-nil before);
  sent = record { spelled = refl; each = tt; fits = omega arith; due = λ r s. tt };
  left_is = omega arith;
  counted = omega arith;
  stands = λ r s. s;
  same = λ e. refl;
  lost = λ l. refl;
}

-- where a frame goes, or none is due, memory wasn't refused before
pub filling-sound : (old : Held) (room : ℕ) (before : List ℕ) (left : ℕ) (now : Held) (after : List ℕ) → Filling old room before left now after → (now.is_lost ≡ true → ⊥) → old.is_lost ≡ true → ⊥
filling-sound old room before left now after f sound lost = sound (ap (λ (c : Held). c.is_lost) (f.same (f.lost lost)) ∙ lost)

pub filling-more : (old : Held) (room : ℕ) (before : List ℕ) (left : ℕ) (now : Held) (after : List ℕ) (next : Held) (behind : List ℕ)
    → Filling old room before left now after → (a : Appended after behind (λ bytes. Goes now left bytes next)) → (now.is_lost ≡ true → ⊥) → (rest : ℕ) → rest + length a.bytes ≡ left
    → Filling old room before rest next behind
filling-more old room before left now after next behind f a sound rest taken =
    let g = a.is in
    let frame = g.frame in
    let used : left + length (flat_map spelling f.frames) ≡ room = omega (arith, f.left_is, ap length f.sent.spelled) in
    record {
      frames = f.frames ++ frame ∷ [];
      bytes = f.bytes ++ a.bytes;
      joined = a.joined ∙ ap (λ (b : List ℕ). b ++ a.bytes) f.joined ∙ append_assoc before f.bytes a.bytes;
      sent = record {
        spelled = ap (λ (b : List ℕ). b ++ a.bytes) f.sent.spelled ∙ ap (λ (b : List ℕ). flat_map spelling f.frames ++ b) g.spelled ∙ sym (spelled-more f.frames frame);
        each = each-more f.frames frame f.sent.each (record { writable = g.writable; in_range = g.in_range });
        fits = omega (arith, f.left_is, g.fits, length-append f.bytes a.bytes);
        due = λ r s. due-more r room left f.frames frame used (f.sent.due r s) (g.due (with_out r f.frames) (f.stands r s)) (g.longest (with_out r f.frames) (f.stands r s));
      };
      left_is = omega (arith, taken, f.left_is, length-append f.bytes a.bytes);
      counted = omega (arith, g.counted, f.counted, length-append f.bytes a.bytes);
      stands = λ r s. subst (λ (q : Record). Stands next q) (sym (out-more r f.frames frame)) (g.stands (with_out r f.frames) (f.stands r s));
      same = λ e. absurd (no-frames f.frames frame e);
      lost = λ l. absurd (filling-sound old room before left now after f sound l);
    }

-- the room that is left
pub taken-rest : (now : Held) (left : ℕ) (next : Held) (after behind : List ℕ) (n m : ℕ) (a : Appended after behind (λ bytes. Goes now left bytes next)) → n ≡ length after → m ≡ length behind
    → left - (m - n) + length a.bytes ≡ left
taken-rest now left next after behind n m a before now_is = omega (arith, before, now_is, a.is.fits, ap length a.joined, length-append after a.bytes)

-- it shrinks
pub taken-some : (now : Held) (left : ℕ) (next : Held) (after behind : List ℕ) (n m : ℕ) (a : Appended after behind (λ bytes. Goes now left bytes next)) → n ≡ length after → m ≡ length behind
    → left - (m - n) < left
taken-some now left next after behind n m a before now_is =
    let some : 0 < length a.bytes = omega (arith, spelled-some a.is.frame, ap length a.is.spelled) in
    omega (arith, some, taken-rest now left next after behind n m a before now_is)

-- ---- at the end

pub filling-done : (old : Held) (room : ℕ) (before : List ℕ) (left : ℕ) (now : Held) (after : List ℕ) (next : Held) (behind : List ℕ)
    → Filling old room before left now after → Rests now left next → behind ≡ after → Appended before behind (λ bytes. Fills old room bytes next)
filling-done old room before left now after next behind f rests is = record {
  bytes = f.bytes;
  joined = is ∙ f.joined;
  is = record {
    frames = f.frames;
    sent = f.sent;
    counted = ap (λ (c : Held). c.unwritten) rests.same ∙ f.counted;
    stands = λ r s. subst (λ (c : Held). Stands c (with_out r f.frames)) (sym rests.same) (f.stands r s);
    same = λ e. rests.same ∙ f.same e;
    none = λ r s frame due fits. rests.none (with_out r f.frames) (f.stands r s) frame due (omega (arith, fits, f.left_is));
  };
}

-- or where memory is refused
pub filling-cut : (old : Held) (room : ℕ) (before : List ℕ) (left : ℕ) (now : Held) (after behind : List ℕ) → Filling old room before left now after → behind ≡ after
    → Appended before behind (λ bytes. SendsSome old room bytes)
filling-cut old room before left now after behind f is = record {
  bytes = f.bytes;
  joined = is ∙ f.joined;
  is = record { frames = f.frames; sent = f.sent };
}

-- ---- what a caller's record keeps

-- Each frame on the record was due, those that went too.
pub each-was-due : (r : Record) (room : ℕ) (frames : List Frame) → AreDue r room frames → EachWasDue r → EachWasDue (with_out r frames)
each-was-due r room [] due each = each
each-was-due r room (x ∷ xs) due each = each-was-due (Out x ∷ r) (room - frame_len x) xs due.2 (due.0, each)
