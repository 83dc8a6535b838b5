-- Frames on one stream: those that reset it, those on a closed one, and what is left of the connection.
use Rattle.std.proofs.Common.{◌≡◌, ℕ, zero, suc, ◌-◌, length, drop, nat_eq, ◌==◌, Bool, true, false, not, ◌&&◌, ◌||◌, List, [], ◌∷◌, ◌++◌, Option, None, Some, refl, sym, ap, subst, ◌∙◌, true≢false, append_assoc, if◌then◌else◌}
use Rattle.std.specs.List.{list_any}
use Rattle.std.proofs.lemmas.List.Folds.{list_any-append}
use Rattle.h2_frames.specs.declared.frame.Frame.{Frame}
use Rattle.h2_frames.specs.declared.frame.Frame.TheVariants as frames
use Rattle.h2_streams.specs.Book.{Book, without, without_reset, remembering}
use Rattle.h2_answers.specs.Waiting.{Waiting, waiting_on, nothing, with_reset as also_reset, ChangesOnly}
use Rattle.h2_record.specs.Record.{Record, In, any_in, any_out}
use Rattle.h2_record.specs.Live.{Reset, opens, ends, finishes, cancels, is_reset, is_live_with, remembered_in}
use Rattle.h2_record.specs.Resets.{reset_by, with_reset, resets_of, is_live}
use Rattle.h2_record.specs.Credits.{kept_of}
use Rattle.h2_record.specs.Texts.{codes_on, written_codes}
use Rattle.h2_record.specs.Fresh.{is_on}
use Rattle.h2_conn.specs.KeptCredit.{kept_on, KeptOnly}
use Rattle.h2_conn.specs.Stands.{StreamsStand}
use Rattle.h2_conn.specs.Waits.{WaitsBy, WaitsLive, WaitsClosed}
use Rattle.h2_record.specs.Settling.{settled_kept}
use Rattle.h2_record.proofs.BoolLemmas.{and-false, or-true, apart-flip, same-eq, same-self, by-test}
use Rattle.h2_record.proofs.StepLemmas.{kept-in}
use Rattle.h2_conn.proofs.TouchLemmas.{TouchesOne}
use Rattle.h2_record.proofs.ApartLemmas.{IsOf, away-of, open-other}
use Rattle.h2_conn.proofs.CloseLemmas.{OnLive, touch-close}
use Rattle.h2_record.proofs.LiveLaws.{live-unreset, codes-none}

-- what closes stays closed
shut-more : (a b c d e f x y z : Bool) → (a && b && not c && not d && not (e && f)) ≡ false → (a && b && not (x || c) && not (y || d) && not ((z || e) && f)) ≡ false
shut-more false b c d e f x y z h = refl
shut-more true false c d e f x y z h = refl
shut-more true true true d e f true y z h = refl
shut-more true true true d e f false y z h = refl
shut-more true true false d e f true y z h = refl
shut-more true true false true e f false true z h = refl
shut-more true true false true e f false false z h = refl
shut-more true true false false e f false true z h = refl
shut-more true true false false true true false false true h = refl
shut-more true true false false true true false false false h = refl
shut-more true true false false true false false false z h = absurd (true≢false h)
shut-more true true false false false f false false z h = absurd (true≢false h)

pub is_of : Option Reset → ℕ → Bool
is_of None id = false
is_of (Some reset) id = id == reset.stream

pub is_reset-with : (x : Option Reset) (resets : List Reset) (id : ℕ) → is_reset (with_reset resets x) id ≡ (is_of x id || is_reset resets id)
unfolding is_of
is_reset-with None resets id = refl
is_reset-with (Some reset) resets id = refl

pub still-shut : (r : Record) (frame : Frame) (id : ℕ) (x : Option Reset) → reset_by (resets_of r) r frame ≡ x → opens id frame ≡ false → is_live r id ≡ false → is_live (In frame ∷ r) id ≡ false
unfolding is_live_with
still-shut r frame id x made unopened shut =
    (λ i. (unopened i || any_in (opens id) r) && not (0 == id) && not (is_reset (with_reset (resets_of r) (made i)) id) && not (cancels id frame || any_in (cancels id) r)
    && not ((ends id frame || any_in (ends id) r) && any_out (finishes id) r))
    ∙ (λ i. any_in (opens id) r && not (0 == id) && not (is_reset-with x (resets_of r) id i) && not (cancels id frame || any_in (cancels id) r)
    && not ((ends id frame || any_in (ends id) r) && any_out (finishes id) r))
    ∙ shut-more (any_in (opens id) r) (not (0 == id)) (is_reset (resets_of r) id) (any_in (cancels id) r) (any_in (ends id) r) (any_out (finishes id) r)
    (is_of x id) (cancels id frame) (ends id frame) shut

-- a reset by the server closes the stream
pub reset-shut : (r : Record) (frame : Frame) (id code : ℕ) (first : Bool) → reset_by (resets_of r) r frame ≡ Some (record { stream = id; code = code; is_first = first }) → is_live (In frame ∷ r) id ≡ false
unfolding is_live_with
reset-shut r frame id code first made =
    let reset : Reset = record { stream = id; code = code; is_first = first } in
    let a = any_in (opens id) (In frame ∷ r) && not (0 == id) in
    let d = not (any_in (cancels id) (In frame ∷ r)) in
    let e = not (any_in (ends id) (In frame ∷ r) && any_out (finishes id) r) in
    (λ i. a && not (is_reset (with_reset (resets_of r) (made i)) id) && d && e)
    ∙ (λ i. a && not (same-self id i || is_reset (resets_of r) id) && d && e)
    ∙ (λ i. and-false a i && d && e)

-- and so does one by the client
pub cancel-shut : (r : Record) (id code : ℕ) → is_live (In (frames.Reset id code) ∷ r) id ≡ false
unfolding is_live_with
cancel-shut r id code =
    let resets = resets_of (In (frames.Reset id code) ∷ r) in
    let a = any_in (opens id) r && not (0 == id) && not (is_reset resets id) in
    let e = not (any_in (ends id) r && any_out (finishes id) r) in
    (λ i. a && not (same-self id i || any_in (cancels id) r) && e) ∙ (λ i. and-false a i && e)

-- the kept credit, where it is seen to on the frame's stream
pub keep-touch : (r : Record) (frame : Frame) (id : ℕ) (x : Option Reset) (old new : List (ℕ × ℕ)) → reset_by (resets_of r) r frame ≡ x → IsOf x id
    → ((other : ℕ) → (other == id) ≡ false → is_on other frame ≡ false) → ((other : ℕ) → kept_on old other ≡ settled_kept r other)
    → KeptOnly old new id (kept_of (In frame ∷ r) id) → (other : ℕ) → kept_on new other ≡ kept_of (In frame ∷ r) other
keep-touch r frame id x old new made of on settled only other = by-test (id == other)
    (λ same. only other ∙ (λ i. if same i then kept_of (In frame ∷ r) id else kept_on old other) ∙ ap (kept_of (In frame ∷ r)) (same-eq id other same))
    (λ differ. let off = apart-flip id other differ in
    only other ∙ (λ i. if differ i then kept_of (In frame ∷ r) id else kept_on old other) ∙ settled other
    ∙ sym (kept-in r frame other (open-other r frame x made other (on other off) (away-of x id other of off))))

-- nothing is kept of a stream that is closed
pub kept-shut : (r : Record) (frame : Frame) (id : ℕ) → is_live (In frame ∷ r) id ≡ false → kept_of (In frame ∷ r) id ≡ 0
kept-shut r frame id shut = λ i. if shut i && not (any_in (ends id) (In frame ∷ r)) then settled_kept r id else 0

-- what waits elsewhere
pub waits-elsewhere : (old new : List (ℕ × Waiting)) (id : ℕ) (waiting : Waiting) → ChangesOnly old new id waiting
    → (other : ℕ) → (id == other) ≡ false → waiting_on new other ≡ waiting_on old other
waits-elsewhere old new id waiting only other differ = only other ∙ (λ i. if differ i then waiting else waiting_on old other)

pub waits-here : (old new : List (ℕ × Waiting)) (id : ℕ) (waiting : Waiting) → ChangesOnly old new id waiting → waiting_on new id ≡ waiting
waits-here old new id waiting only = only id ∙ (λ i. if same-self id i then waiting else waiting_on old id)

-- the waits of a live stream
pub waits-live : (streams : Book) (answers : List (ℕ × Waiting)) (r : Record) (id : ℕ) → StreamsStand streams answers r → is_live r id ≡ true → WaitsLive r id (waiting_on answers id)
waits-live streams answers r id s live = subst (λ (b : Bool). WaitsBy b r id (waiting_on answers id)) live (s.waits id)

module _ (streams streams' : Book) (answers answers' : List (ℕ × Waiting)) (r : Record) (frame : Frame) (id : ℕ) (s : StreamsStand streams answers r) where
  -- the server resets a live stream
  pub touch-reset : (code : ℕ) → OnLive r frame id (Some (record { stream = id; code = code; is_first = true })) → streams' ≡ without_reset streams id
      → ChangesOnly answers answers' id (record nothing { resets = code ∷ [] })
      → TouchesOne streams streams' answers answers' r frame id (Some (record { stream = id; code = code; is_first = true }))
  touch-reset code o is only =
      let reset : Reset = record { stream = id; code = code; is_first = true } in
      let shut = reset-shut r frame id code true o.made in
      let here = waits-here answers answers' id (record nothing { resets = code ∷ [] }) only in
      let live = waits-live streams answers r id s o.live in
      touch-close streams streams' answers answers' r frame id (Some reset) s o shut (ap (λ (b : Book). b.live) is) (ap (λ (b : Book). b.last) is)
      (ap (λ (b : Book). b.resets) is ∙ ap (λ ids. remembering ids id) s.remembered)
      (record {
        text = here ∙ ap (λ (w : Waiting). record nothing { resets = w.resets }) (sym here);
        resets = (λ i. live.unreset i ++ (here i).resets)
            ∙ sym (ap (λ resets. codes_on resets id) (ap (with_reset (resets_of r)) o.made)
            ∙ (λ i. if same-self id i then codes_on (resets_of r) id ++ code ∷ [] else codes_on (resets_of r) id)
            ∙ ap (λ codes. codes ++ code ∷ []) (codes-none (resets_of r) id (live-unreset (resets_of r) r id o.live)));
      })
      (waits-elsewhere answers answers' id (record nothing { resets = code ∷ [] }) only)

  -- the client resets it
  pub touch-cancel : is_live (In frame ∷ r) id ≡ false → OnLive r frame id None → streams' ≡ without streams id → ChangesOnly answers answers' id nothing
      → TouchesOne streams streams' answers answers' r frame id None
  touch-cancel shut o is only =
      let here = waits-here answers answers' id nothing only in
      let live = waits-live streams answers r id s o.live in
      touch-close streams streams' answers answers' r frame id None s o shut (ap (λ (b : Book). b.live) is) (ap (λ (b : Book). b.last) is)
      (ap (λ (b : Book). b.resets) is ∙ s.remembered)
      (record {
        text = here ∙ ap (λ (w : Waiting). record nothing { resets = w.resets }) (sym here);
        resets = (λ i. live.unreset i ++ (here i).resets)
            ∙ sym (ap (λ resets. codes_on resets id) (ap (with_reset (resets_of r)) o.made) ∙ codes-none (resets_of r) id (live-unreset (resets_of r) r id o.live));
      })
      (waits-elsewhere answers answers' id nothing only)

-- one more reset of a stream that was closed before
pub waits-late : (streams : Book) (answers answers' : List (ℕ × Waiting)) (r : Record) (frame : Frame) (id code : ℕ) → StreamsStand streams answers r → is_live r id ≡ false
    → reset_by (resets_of r) r frame ≡ Some (record { stream = id; code = code; is_first = false })
    → ChangesOnly answers answers' id (also_reset (waiting_on answers id) code) → WaitsClosed (In frame ∷ r) id (waiting_on answers' id)
waits-late streams answers answers' r frame id code s shut made only =
    let w : WaitsClosed r id (waiting_on answers id) = subst (λ (b : Bool). WaitsBy b r id (waiting_on answers id)) shut (s.waits id) in
    let here = waits-here answers answers' id (also_reset (waiting_on answers id) code) only in
    record {
      text = here ∙ (λ i. also_reset (w.text i) code) ∙ ap (λ (w : Waiting). record nothing { resets = w.resets }) (sym here);
      resets = ap (λ (w : Waiting). written_codes r id ++ w.resets) here ∙ sym (append_assoc (written_codes r id) (waiting_on answers id).resets (code ∷ []))
          ∙ ap (λ codes. codes ++ code ∷ []) w.resets
          ∙ sym (ap (λ resets. codes_on resets id) (ap (with_reset (resets_of r)) made) ∙ (λ i. if same-self id i then codes_on (resets_of r) id ++ code ∷ [] else codes_on (resets_of r) id));
    }

-- a remembered reset is one of the resets
any-drop : (test : ℕ → Bool) (n : ℕ) (xs : List ℕ) → list_any test (drop n xs) ≡ true → list_any test xs ≡ true
any-drop test zero xs h = h
any-drop test (suc n) [] h = h
any-drop test (suc n) (x ∷ xs) h = (λ i. test x || any-drop test n xs h i) ∙ or-true (test x)

any-last : (test : ℕ → Bool) (xs : List ℕ) (x : ℕ) → list_any test (xs ++ x ∷ []) ≡ (list_any test xs || (test x || false))
any-last test xs x = list_any-append test xs (x ∷ [])

remembered-first : (b : Bool) (resets : List Reset) (stream id : ℕ) → (list_any (nat_eq id) (remembered_in resets) ≡ true → is_reset resets id ≡ true)
    → list_any (nat_eq id) (if b then remembering (remembered_in resets) stream else remembered_in resets) ≡ true → ((id == stream) || is_reset resets id) ≡ true
remembered-first false resets stream id before h = (λ i. (id == stream) || before h i) ∙ or-true (id == stream)
remembered-first true resets stream id before h =
    let all = sym (any-last (nat_eq id) (remembered_in resets) stream) ∙ any-drop (nat_eq id) (length (remembered_in resets ++ stream ∷ []) - 128) (remembered_in resets ++ stream ∷ []) h in
    by-test (id == stream)
    (λ same. (λ i. same i || is_reset resets id))
    (λ apart. let old = sym (or-none-right (list_any (nat_eq id) (remembered_in resets)) (id == stream) apart) ∙ all in (λ i. (id == stream) || before old i) ∙ or-true (id == stream))
  where
    or-none-right : (a b : Bool) → b ≡ false → (a || (b || false)) ≡ a
    or-none-right true b e = refl
    or-none-right false b e = λ i. e i || false

pub remembered-reset : (resets : List Reset) (id : ℕ) → list_any (nat_eq id) (remembered_in resets) ≡ true → is_reset resets id ≡ true
remembered-reset [] id h = h
remembered-reset (reset ∷ resets) id h = remembered-first reset.is_first resets reset.stream id (remembered-reset resets id) h

-- such a stream is closed, whatever frame comes
pub reset-closed : (r : Record) (frame : Frame) (id : ℕ) → is_reset (resets_of r) id ≡ true → reset_by (resets_of r) r frame ≡ None → is_live (In frame ∷ r) id ≡ false
unfolding is_live_with
reset-closed r frame id was made =
    let a = any_in (opens id) (In frame ∷ r) && not (0 == id) in
    let d = not (any_in (cancels id) (In frame ∷ r)) in
    let e = not (any_in (ends id) (In frame ∷ r) && any_out (finishes id) r) in
    (λ i. a && not (is_reset (with_reset (resets_of r) (made i)) id) && d && e) ∙ (λ i. a && not (was i) && d && e) ∙ (λ i. and-false a i && d && e)
