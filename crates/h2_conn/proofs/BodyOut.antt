-- What DATA that went leave of a connection.
use Rattle.std.proofs.Common.{◌≡◌, ℕ, ◌+◌, nat_eq, nat_lt, ◌==◌, Bool, true, false, not, cond, ◌&&◌, List, [], ◌∷◌, ◌++◌, map, length, take, drop, Option, None, Some, IsSome, ℤ, pos, ◌-ℤ◌, refl, sym, ap, subst, ◌∙◌, arith, append-nil, append_assoc, true≢false, if◌then◌else◌}
use Rattle.std.proofs.lemmas.Int.{ints}
use Rattle.std.proofs.lemmas.Bool.{eqb-true}
use Rattle.std.proofs.lemmas.List.{map-append, take-append-drop, length-take-le}
use Rattle.std.proofs.lemmas.Map.{keys-set_value}
use Rattle.std.specs.Map.{lookup}
use Rattle.h2_frames.specs.declared.frame.Frame.{Frame}
use Rattle.h2_frames.specs.declared.frame.Frame.TheVariants as frames
use Rattle.h2_streams.specs.declared.stream.Stream.{Stream}
use Rattle.h2_streams.specs.Book.{Book, find, with_stream}
use Rattle.h2_answers.specs.declared.part.Part.TheVariants as part
use Rattle.h2_answers.specs.Replies.{drop_bytes}
use Rattle.h2_answers.specs.Waiting.{Waiting, data_of, waiting_on, ChangesOnly}
use Rattle.h2_answers.specs.Due.{IsNext, IsAhead}
use Rattle.h2_answers.proofs.ReplyLemmas.{concat-drop_bytes, drop_bytes-drop_bytes}
use Rattle.h2_record.specs.declared.control.Control.{Control}
use Rattle.h2_record.specs.declared.control.Control.TheVariants as control
use Rattle.h2_record.specs.Record.{Record, Out, sum_in, sum_out}
use Rattle.h2_record.specs.Windows.{connection_window_of, with_increment, with_any_data, initial_of, first_window, data_out}
use Rattle.h2_record.specs.Live.{is_live_with, entry_of}
use Rattle.h2_record.specs.Resets.{reset_behind, is_live, is_open}
use Rattle.h2_record.specs.Replies.{replies_of, unwritten_of}
use Rattle.h2_record.specs.Credits.{is_free, most_waiting, kept_of, credit, freed_by}
use Rattle.h2_record.specs.Control.{frame_of, written_control_of}
use Rattle.h2_record.specs.Texts.{Token, Octet, Aborted, written_text}
use Rattle.h2_conn.specs.KeptCredit.{kept_on}
use Rattle.h2_conn.specs.Latest.{is_free_on}
use Rattle.h2_conn.specs.Held.{Held}
use Rattle.h2_conn.specs.Stands.{StreamsStand, OpenStands}
use Rattle.h2_conn.specs.Waits.{head_text, tail_text, waiting_text, WaitsBy, WaitsLive, WaitsClosed}
use Rattle.h2_record.specs.Settling.{settled_control, settled_kept}
use Rattle.h2_conn.specs.Taking.{Settled}
use Rattle.h2_conn.specs.Parts.{part_frame, PartGoes, FreesBy, is_freed, spent_stream, SpendsBy, Spends}
use Rattle.h2_record.proofs.BoolLemmas.{apart-flip, same-eq, same-self, by-test}
use Rattle.h2_record.proofs.StepLemmas.{controls-more, settled_kept-closed}
use Rattle.h2_record.proofs.LiveLaws.{live-within}
use Rattle.h2_conn.proofs.CloseLemmas.{found-some, found-set}
use Rattle.h2_conn.proofs.ResetLemmas.{waits-live, waits-here, waits-elsewhere}
use Rattle.h2_conn.proofs.WaitingLemmas.{replies-wait}
use Rattle.h2_record.proofs.KeptLaws.{is_keeping, kept-out}
use Rattle.h2_conn.proofs.OutLemmas.{open-out, unwritten-out, GoesOn, streams-out}
use Rattle.h2_conn.proofs.OutSteps.{out_after, stands-out}

-- ---- what waits on the stream

-- the octets that went and those that still wait
text-split : (written tail resets : List Token) (len : ℕ) (bytes : List ℕ)
    → (written ++ map Octet (take len bytes)) ++ ((map Octet (drop len bytes) ++ tail) ++ resets) ≡ written ++ ((map Octet bytes ++ tail) ++ resets)
text-split written tail resets len bytes =
    let went = map Octet (take len bytes) in
    let waits = map Octet (drop len bytes) in
    append_assoc written went ((waits ++ tail) ++ resets)
    ∙ ap (λ text. written ++ text) (sym (append_assoc went (waits ++ tail) resets) ∙ ap (λ text. text ++ resets) (sym (append_assoc went waits tail)))
    ∙ ap (λ text. written ++ ((text ++ tail) ++ resets)) (sym (map-append Octet (take len bytes) (drop len bytes)) ∙ ap (map Octet) (take-append-drop len bytes))

text-sent : (written : List Token) (waiting : Waiting) (len : ℕ) → waiting.head ≡ None
    → (written ++ map Octet (take len (data_of waiting))) ++ waiting_text (record waiting { replies = drop_bytes len waiting.replies }) ≡ written ++ waiting_text waiting
text-sent written waiting len none =
    let tail = tail_text waiting.tail in
    let resets = map Aborted waiting.resets in
    (λ i. (written ++ map Octet (take len (data_of waiting))) ++ (((head_text (none i) ++ map Octet (concat-drop_bytes len waiting.replies i)) ++ tail) ++ resets))
    ∙ text-split written tail resets len (data_of waiting)
    ∙ sym (λ i. written ++ (((head_text (none i) ++ map Octet (data_of waiting)) ++ tail) ++ resets))

module _ (r : Record) (id len : ℕ) (sent : List ℕ) (all : length sent ≡ len) where
  data-sent : data_out (Out (frames.Body id false sent len) ∷ r) id ≡ data_out r id + len
  data-sent = λ i. if same-self id i then data_out r id + all i else data_out r id

  replies-sent : (replies : List (List ℕ)) → is_live r id ≡ true → replies ≡ unwritten_of r id → drop_bytes len replies ≡ unwritten_of (Out (frames.Body id false sent len) ∷ r) id
  unfolding reset_behind is_live_with
  replies-sent replies live waits =
      ap (drop_bytes len) waits ∙ (λ i. drop_bytes len (if live i then drop_bytes (data_out r id) (replies_of r id) else []))
      ∙ drop_bytes-drop_bytes (data_out r id) len (replies_of r id) ∙ ap (λ n. drop_bytes n (replies_of r id)) (sym data-sent)
      ∙ sym (λ i. if live i then drop_bytes (data_out (Out (frames.Body id false sent len) ∷ r) id) (replies_of r id) else [])

  entry-sent : spent_stream (entry_of r id) len ≡ entry_of (Out (frames.Body id false sent len) ∷ r) id
  entry-sent =
      let given = sum_in (with_increment id) (initial_of r) r in
      let went = data_out r id in
      let less : (pos given -ℤ pos went) -ℤ pos len ≡ pos given -ℤ pos (went + len) = omega (arith, ints) in
      (λ i. record (entry_of r id) { send = less i }) ∙ (λ i. record (entry_of r id) { send = pos given -ℤ pos (sym data-sent i) })

  window-sent : (window : ℤ) → window ≡ connection_window_of r → window -ℤ pos len ≡ connection_window_of (Out (frames.Body id false sent len) ∷ r)
  window-sent window is =
      let given = sum_in (with_increment 0) first_window r in
      let went = sum_out with_any_data 0 r in
      let less : (pos given -ℤ pos went) -ℤ pos len ≡ pos given -ℤ pos (went + len) = omega (arith, ints) in
      ap (λ w. w -ℤ pos len) is ∙ less ∙ (λ i. pos given -ℤ pos (went + sym all i))

-- ---- the streams

module _ (streams : Book) (answers answers' : List (ℕ × Waiting)) (r : Record) (id len : ℕ) (s : StreamsStand streams answers r)
    (next : IsNext (waiting_on answers id) (part.Body len)) where
  all-sent : length (take len (data_of (waiting_on answers id))) ≡ len
  all-sent = length-take-le len (data_of (waiting_on answers id)) next.3

  -- bytes wait on live streams alone
  body-live : is_live r id ≡ true
  body-live = by-test (is_live r id) (λ live. live) (λ shut.
      let w : WaitsClosed r id (waiting_on answers id) = subst (λ (b : Bool). WaitsBy b r id (waiting_on answers id)) shut (s.waits id) in
      let none : length (data_of (waiting_on answers id)) ≡ 0 = ap (λ (w : Waiting). length (data_of w)) w.text in
      absurd (omega (arith, none, next.1, next.3)))

  body-found : find streams id ≡ Some (entry_of r id)
  body-found = s.found id ∙ found-some (is_live r id) (entry_of r id) body-live

  waits-sent : WaitsLive (Out (frames.Body id false (take len (data_of (waiting_on answers id))) len) ∷ r) id (record (waiting_on answers id) { replies = drop_bytes len (waiting_on answers id).replies })
  waits-sent =
      let waiting = waiting_on answers id in
      let w = waits-live streams answers r id s body-live in
      record {
        unreset = w.unreset;
        unfinished = w.unfinished;
        text = (λ i. (written_text r id ++ (if same-self id i then map Octet (take len (data_of waiting)) else [])) ++ waiting_text (record waiting { replies = drop_bytes len waiting.replies }))
            ∙ text-sent (written_text r id) waiting len next.0 ∙ w.text;
        replies = replies-sent r id len (take len (data_of waiting)) all-sent waiting.replies body-live w.replies;
      }

  goes-body : ChangesOnly answers answers' id (record (waiting_on answers id) { replies = drop_bytes len (waiting_on answers id).replies })
      → GoesOn streams (with_stream streams id (spent_stream (entry_of r id) len)) answers answers' r (frames.Body id false (take len (data_of (waiting_on answers id))) len) id None
  unfolding reset_behind is_live_with
  goes-body only =
      let waiting = waiting_on answers id in
      let behind : Waiting = record waiting { replies = drop_bytes len waiting.replies } in
      let sent = take len (data_of waiting) in
      let frame : Frame = frames.Body id false sent len in
      let spent = spent_stream (entry_of r id) len in
      let there : IsSome (find streams id) = subst IsSome (sym body-found) refl in
      record {
        made = refl;
        of = tt;
        on = λ other off. off;
        within = live-within r id body-live;
        last = refl;
        remembered = s.remembered;
        here = found-set streams.live id id spent there ∙ ap (λ b. cond b (Some spent) (lookup (nat_eq id) streams.live)) (same-self id)
            ∙ ap Some (entry-sent r id len sent all-sent) ∙ sym (found-some (is_live r id) (entry_of (Out frame ∷ r) id) body-live);
        others = λ other differ. found-set streams.live id other spent there ∙ ap (λ b. cond b (Some spent) (lookup (nat_eq other) streams.live)) differ;
        keys = keys-set_value (nat_eq id) streams.live spent ∙ s.live;
        waits = subst (λ (live : Bool). WaitsBy live (Out frame ∷ r) id (waiting_on answers' id)) (sym body-live)
            (subst (λ (w : Waiting). WaitsLive (Out frame ∷ r) id w) (sym (waits-here answers answers' id behind only)) waits-sent);
        rest = waits-elsewhere answers answers' id behind only;
      }

  streams-body : ChangesOnly answers answers' id (record (waiting_on answers id) { replies = drop_bytes len (waiting_on answers id).replies })
      → StreamsStand (with_stream streams id (spent_stream (entry_of r id) len)) answers' (Out (frames.Body id false (take len (data_of (waiting_on answers id))) len) ∷ r)
  streams-body only = streams-out streams (with_stream streams id (spent_stream (entry_of r id) len)) answers answers' r (frames.Body id false (take len (data_of (waiting_on answers id))) len) id None (goes-body only) s

-- ---- the kept credit

-- what is set free, where nothing is kept of a stream that isn't open
freed-as : (none opened free : Bool) (frame : Frame) → (opened ≡ false → none ≡ true)
    → (if not none && opened && free then frame ∷ [] else []) ≡ (if (if none then false else free) then frame ∷ [] else [])
freed-as true opened free frame closed = refl
freed-as false true free frame closed = refl
freed-as false false free frame closed = absurd (true≢false (sym (closed refl)))

kept-as : (none opened free : Bool) (sum : ℕ) → (none ≡ true → sum ≡ 0) → (opened ≡ false → none ≡ true)
    → (if opened && not free then sum else 0) ≡ (if (if none then false else free) then 0 else sum)
kept-as true true true sum zeroed closed = sym (zeroed refl)
kept-as true true false sum zeroed closed = refl
kept-as true false free sum zeroed closed = sym (zeroed refl)
kept-as false true true sum zeroed closed = refl
kept-as false true false sum zeroed closed = refl
kept-as false false free sum zeroed closed = absurd (true≢false (sym (closed refl)))

module _ (r : Record) (id len : ℕ) (sent : List ℕ) where
  -- whether the kept credit goes
  frees : Bool
  frees = if settled_kept r id == 0 then false else is_free (Out (frames.Body id false sent len) ∷ r) id

  open-body : is_open (Out (frames.Body id false sent len) ∷ r) id ≡ false → (settled_kept r id == 0) ≡ true
  unfolding reset_behind is_live_with
  open-body shut = ap (λ sum. sum == 0) (settled_kept-closed r id shut)

  freed-body : freed_by r (frames.Body id false sent len) ≡ (if frees then credit id (settled_kept r id) ∷ [] else [])
  unfolding frees
  freed-body = freed-as (settled_kept r id == 0) (is_open (Out (frames.Body id false sent len) ∷ r) id) (is_free (Out (frames.Body id false sent len) ∷ r) id) (credit id (settled_kept r id)) open-body

  kept-body : kept_of (Out (frames.Body id false sent len) ∷ r) id ≡ (if frees then 0 else settled_kept r id)
  unfolding frees
  kept-body = kept-as (settled_kept r id == 0) (is_open (Out (frames.Body id false sent len) ∷ r) id) (is_free (Out (frames.Body id false sent len) ∷ r) id) (settled_kept r id) (eqb-true (settled_kept r id) 0) open-body

  kept-apart : (other : ℕ) → (id == other) ≡ false → kept_of (Out (frames.Body id false sent len) ∷ r) other ≡ settled_kept r other
  unfolding reset_behind is_keeping
  kept-apart other differ =
      let off = apart-flip id other differ in
      let frame : Frame = frames.Body id false sent len in
      kept-out r frame other (λ i. open-out r frame None refl other off tt i && not (nat_lt (length (unwritten-out r frame None refl other off tt i)) most_waiting))

-- ---- the whole connection

module _ (old : Held) (r : Record) (id len : ℕ) (answers : List (ℕ × Waiting)) (unwritten : ℕ) (s : Settled old r) (next : IsNext (waiting_on old.answers id) (part.Body len))
    (only : ChangesOnly old.answers answers id (record (waiting_on old.answers id) { replies = drop_bytes len (waiting_on old.answers id).replies })) where
  bytes : List ℕ
  bytes = take len (data_of (waiting_on old.answers id))

  body : Frame
  body = frames.Body id false bytes len

  spent_book : Book
  spent_book = with_stream old.streams id (spent_stream (entry_of r id) len)

  -- behind the DATA, and before any kept credit goes
  spent : Held
  spent = record old { window = old.window -ℤ pos len; streams = spent_book; answers = answers; unwritten = unwritten }

  after : List Control → List (ℕ × ℕ) → Held
  after controls kept = out_after old (old.window -ℤ pos len) spent_book controls kept old.has_headed answers unwritten

  after-body : (controls : List Control) (kept : List (ℕ × ℕ)) → written_control_of r ++ map frame_of controls ≡ settled_control r ++ freed_by r body
      → ((other : ℕ) → kept_on kept other ≡ kept_of (Out body ∷ r) other) → OpenStands (after controls kept) (Out body ∷ r)
  unfolding bytes body spent_book after
  after-body controls kept waiting keeping = stands-out old r body (old.window -ℤ pos len) spent_book controls kept old.has_headed answers unwritten s
      (window-sent r id len bytes (all-sent old.streams old.answers answers r id len s.streams next) old.window s.window)
      (streams-body old.streams old.answers answers r id len s.streams next only) waiting keeping s.headed

  freeing : (freed : Bool) → frees r id len bytes ≡ freed → (new : Held) → FreesBy freed (settled_kept r id) spent id new → OpenStands new (Out body ∷ r)
  unfolding bytes body spent after spent_book
  freeing true now new f =
      subst (λ (c : Held). OpenStands c (Out body ∷ r)) (sym f.1) (after-body (old.control ++ control.Credit id (settled_kept r id) ∷ []) new.kept
      (controls-more (written_control_of r) (settled_control r) old.control (control.Credit id (settled_kept r id) ∷ []) s.controls
      ∙ ap (λ freed. settled_control r ++ freed) (sym (freed-body r id len bytes ∙ (λ i. if now i then credit id (settled_kept r id) ∷ [] else []))))
      (λ other. f.0 other ∙ by-test (id == other)
      (λ same. (λ i. if same i then 0 else kept_on old.kept other) ∙ sym (λ i. if now i then 0 else settled_kept r id) ∙ sym (kept-body r id len bytes) ∙ ap (kept_of (Out body ∷ r)) (same-eq id other same))
      (λ differ. (λ i. if differ i then 0 else kept_on old.kept other) ∙ s.keeping other ∙ sym (kept-apart r id len bytes other differ))))
  freeing false now new same =
      subst (λ (c : Held). OpenStands c (Out body ∷ r)) (sym same) (after-body old.control old.kept
      (s.controls ∙ sym (append-nil (settled_control r)) ∙ ap (λ freed. settled_control r ++ freed) (sym (freed-body r id len bytes ∙ (λ i. if now i then credit id (settled_kept r id) ∷ [] else []))))
      (λ other. s.keeping other ∙ by-test (id == other)
      (λ same. ap (settled_kept r) (sym (same-eq id other same)) ∙ sym (λ i. if now i then 0 else settled_kept r id) ∙ sym (kept-body r id len bytes) ∙ ap (kept_of (Out body ∷ r)) (same-eq id other same))
      (λ differ. sym (kept-apart r id len bytes other differ))))

  spending : (new : Held) → Spends (record old { answers = answers; unwritten = unwritten }) id len new → OpenStands new (Out body ∷ r)
  unfolding bytes body spent spent_book frees
  spending new spends =
      let taken : Held = record old { answers = answers; unwritten = unwritten } in
      let standing = streams-body old.streams old.answers answers r id len s.streams next only in
      let free : is_free_on answers id ≡ is_free (Out body ∷ r) id = ap (λ replies. nat_lt (length replies) most_waiting) (replies-wait spent_book answers (Out body ∷ r) id standing) in
      let found = subst (λ (f : Option Stream). SpendsBy f taken id len new) (body-found old.streams old.answers answers r id len s.streams next) spends in
      let settled = subst (λ (sum : ℕ). FreesBy (is_freed sum spent id) sum spent id new) (s.keeping id) found in
      freeing (frees r id len bytes) refl new (subst (λ (b : Bool). FreesBy (if settled_kept r id == 0 then false else b) (settled_kept r id) spent id new) free settled)

pub body-stands : (old new : Held) (id len : ℕ) (bytes : List ℕ) (r : Record) → Settled old r → IsAhead old.answers (record { stream = id; part = part.Body len })
    → PartGoes old (record { stream = id; part = part.Body len }) bytes new → OpenStands new (Out (part_frame old (record { stream = id; part = part.Body len })) ∷ r)
unfolding bytes body
body-stands old new id len bytes r s next goes =
    spending old r id len goes.taken.answers (old.unwritten + length bytes) s next goes.takes.answers new
    (subst (λ (taken : Held). Spends taken id len new) goes.takes.rest goes.leaves)
