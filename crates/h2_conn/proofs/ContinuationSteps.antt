-- What CONTINUATION leaves of a connection.
use Rattle.std.proofs.Common.{◌≡◌, ℕ, Bool, true, false, not, ◌&&◌, List, [], ◌∷◌, ◌++◌, map, Option, None, Some, option_map, refl, sym, ap, subst, ◌∙◌, append-nil, if◌then◌else◌}
use Rattle.std.specs.Option.{option_or}
use Rattle.hpack_blocks.specs.Answers.{Standing}
use Rattle.h2_frames.specs.declared.frame.Frame.TheVariants as frames
use Rattle.h2_streams.specs.Book.{Book}
use Rattle.h2_answers.specs.Waiting.{Waiting, waiting_on}
use Rattle.h2_record.specs.declared.block.OpenBlock.{OpenBlock}
use Rattle.h2_record.specs.declared.event.Event.{Event}
use Rattle.h2_record.specs.declared.event.Event.TheVariants as event
use Rattle.h2_conn.specs.declared.whole_block.BlockTold.{BlockTold}
use Rattle.h2_conn.specs.declared.whole_block.BlockTold.TheVariants as heard
use Rattle.h2_record.specs.Record.{Record, In}
use Rattle.h2_record.specs.Ids.{begun_of}
use Rattle.h2_record.specs.Blocks.{continued, open_of, whole_block, reading_of}
use Rattle.h2_record.specs.Live.{Reset, remembered_in}
use Rattle.h2_record.specs.Resets.{reset_by, with_reset, resets_of, is_live}
use Rattle.h2_record.specs.Refusals.{malformed_block, first_reset}
use Rattle.h2_record.specs.Rules.{broken, code_if, block_code, reading_code, size_code, is_large}
use Rattle.h2_record.specs.Control.{frame_of, written_control_of}
use Rattle.h2_record.specs.Events.{event_by, served_event, whole_event, is_request}
use Rattle.h2_conn.specs.KeptCredit.{KeptOnly}
use Rattle.h2_conn.specs.WholeBlock.{ReadsBlock, Tells}
use Rattle.h2_conn.specs.Held.{Held}
use Rattle.h2_conn.specs.Stands.{StreamsStand}
use Rattle.h2_conn.specs.Counting.{Counted, CountedBlock}
use Rattle.h2_conn.specs.Taking.{Settled, early_of, Fails, Takes, Refuses}
use Rattle.h2_record.specs.Early.{late_fault}
use Rattle.h2_conn.proofs.SettledFaults.{breaks-late}
use Rattle.h2_record.proofs.StepLemmas.{sound-in, controls-in, kept-in}
use Rattle.h2_record.proofs.LiveLemmas.{filter-same}
use Rattle.h2_record.proofs.ApartLemmas.{live-other, open-other, found-other, is_reset-other}
use Rattle.h2_conn.proofs.TouchLemmas.{waits-other}
use Rattle.h2_conn.proofs.CloseLemmas.{OnLive}
use Rattle.h2_conn.proofs.ResetLemmas.{reset-shut, kept-shut, touch-reset}
use Rattle.h2_conn.proofs.BodySteps.{counted-stands}
use Rattle.h2_conn.proofs.WholeBlockLemmas.{Telling, fine-reset, fine-event, bad-reset}
use Rattle.h2_conn.proofs.BlockSteps.{tells-of}

module _ (r : Record) (stream : ℕ) (whole : Bool) (fragment : List ℕ) where
  -- no stream is changed
  pub streams-still : (streams : Book) (answers : List (ℕ × Waiting)) → reset_by (resets_of r) r (frames.Continuation stream whole fragment) ≡ None → StreamsStand streams answers r
      → StreamsStand streams answers (In (frames.Continuation stream whole fragment) ∷ r)
  streams-still streams answers made s =
      let frame = frames.Continuation stream whole fragment in
      record {
        last = s.last;
        remembered = s.remembered ∙ sym (ap remembered_in (ap (with_reset (resets_of r)) made));
        found = λ other. s.found other ∙ sym (found-other r frame None made other refl tt refl);
        live = s.live ∙ filter-same (is_live r) (is_live (In frame ∷ r)) (begun_of r) (λ other. sym (live-other r frame None made other refl tt));
        waits = λ other. waits-other r frame None made other refl tt (waiting_on answers other) (s.waits other);
        fresh = λ other above. let f = s.fresh other above in (f.0, is_reset-other r frame None made other refl tt ∙ f.1);
      }

  pub takes-still : (c : Held) (e : Option Event) → CountedBlock c r (frames.Continuation stream whole fragment) → reset_by (resets_of r) r (frames.Continuation stream whole fragment) ≡ None
      → served_event r (frames.Continuation stream whole fragment) ≡ e → Takes r (frames.Continuation stream whole fragment) e c
  takes-still c e b made tells =
      let frame = frames.Continuation stream whole fragment in
      let s = b.counted in
      record {
        breaks = s.breaks;
        tells = ap (event_by r frame) made ∙ tells;
        stands = record {
          sound = sound-in r frame s.sound s.breaks;
          begun = s.begun;
          window = s.window;
          initial = s.initial;
          streams = streams-still c.streams c.answers made s.streams;
          block = b.block;
          table = b.table;
          controls = s.controls;
          owing = b.owing;
          keeping = λ other. s.keeping other ∙ sym (kept-in r frame other (open-other r frame None made other refl tt));
          flood = s.flood;
          headed = s.headed;
        };
      }

  served-by : (live : Bool) (x : Option Reset) → is_live r stream ≡ live → malformed_block r (whole_block r (frames.Continuation stream whole fragment)) ≡ x
      → reset_by (resets_of r) r (frames.Continuation stream whole fragment) ≡ (if live then x else None)
  unfolding reset_by
  served-by live x is same = λ i. if is i then same i else None

  -- on a closed stream
  pub takes-closed : (c : Held) → CountedBlock c r (frames.Continuation stream whole fragment) → is_live r stream ≡ false → Takes r (frames.Continuation stream whole fragment) None c
  takes-closed c b shut =
      let frame = frames.Continuation stream whole fragment in
      takes-still c None b (served-by false (malformed_block r (whole_block r frame)) shut refl) (λ i. if shut i then whole_event r (whole_block r frame) else None)

-- a fragment that makes nothing whole
pub takes-part : (c : Held) (r : Record) (stream : ℕ) (fragment : List ℕ) → CountedBlock c r (frames.Continuation stream false fragment) → Takes r (frames.Continuation stream false fragment) None c
takes-part c r stream fragment b =
    takes-still r stream false fragment c None b (served-by r stream false fragment (is_live r stream) None refl refl ∙ both (is_live r stream)) (both-event (is_live r stream))
  where
    both : (live : Bool) → ◌≡◌ {A = Option Reset} (if live then None else None) None
    both true = refl
    both false = refl

    both-event : (live : Bool) → ◌≡◌ {A = Option Event} (if live then None else None) None
    both-event true = refl
    both-event false = refl

module _ (r : Record) (stream : ℕ) (fragment : List ℕ) (block : OpenBlock) (whole : whole_block r (frames.Continuation stream true fragment) ≡ Some block) (same : block.stream ≡ stream) where
  -- a whole block of a live stream
  pub takes-told : (c : Held) (event : Event) → CountedBlock c r (frames.Continuation stream true fragment) → is_live r stream ≡ true
      → Tells r (frames.Continuation stream true fragment) (Some (heard.Tells event)) → Takes r (frames.Continuation stream true fragment) (Some event) c
  takes-told c event b live tells =
      let frame = frames.Continuation stream true fragment in
      takes-still r stream true fragment c (Some event) b (served-by r stream true fragment true None live (fine-reset r frame (Some (heard.Tells event)) (Telling event) tells))
      ((λ i. if live i then whole_event r (whole_block r frame) else None) ∙ fine-event r frame (Some (heard.Tells event)) (Telling event) tells)

  told-reset : Bool → Option Event
  told-reset late = if late then Some (event.Reset stream 1) else None

  -- a malformed one
  pub takes-bad : (c c' : Held) → CountedBlock c r (frames.Continuation stream true fragment) → is_live r stream ≡ true → Tells r (frames.Continuation stream true fragment) (Some heard.Malformed)
      → Refuses c stream 1 c' → Takes r (frames.Continuation stream true fragment) (if block.is_late then Some (event.Reset stream 1) else None) c'
  takes-bad c c' b live tells refuses =
      let frame = frames.Continuation stream true fragment in
      let s = b.counted in
      let reset : Reset = record { stream = stream; code = 1; is_first = true } in
      let found : tells.0 ≡ block = (let both : Some (tells.0) ≡ Some block = sym tells.1 ∙ whole in cc) in
      let made = served-by r stream true fragment true (first_reset stream 1) live (bad-reset r frame tells ∙ ap (λ (b : OpenBlock). first_reset b.stream 1) found ∙ ap (λ n. first_reset n 1) same) in
      let shut = reset-shut r frame stream 1 true made in
      let o : OnLive r frame stream (Some reset) = record { live = live; made = made; of = refl; on = λ other off. refl; steady = refl; begun = refl; last = refl } in
      subst (λ (h : Held). Takes r frame (if block.is_late then Some (event.Reset stream 1) else None) h) (sym refuses.rest) (record {
        breaks = s.breaks;
        tells = ap (event_by r frame) made ∙ (λ i. if live i && not (is_request (whole i)) then Some (event.Reset stream 1) else None) ∙ flip block.is_late;
        stands = counted-stands c r frame stream (Some reset) c'.streams c'.answers c'.kept c.owed c.block c.decoder s
            (touch-reset c.streams c'.streams c.answers c'.answers r frame stream s.streams 1 o refuses.streams refuses.answers)
            refl b.block b.table b.owing (subst (λ (sum : ℕ). KeptOnly c.kept c'.kept stream sum) (sym (kept-shut r frame stream shut)) refuses.kept);
      })
    where
      flip : (late : Bool) → ◌≡◌ {A = Option Event} (if true && not (not late) then Some (event.Reset stream 1) else None) (if late then Some (event.Reset stream 1) else None)
      flip true = refl
      flip false = refl

-- the rules and the block behind the frame
module _ (c : Held) (r : Record) (stream : ℕ) (fragment : List ℕ) (open_block : OpenBlock) (s : Settled c r) (here : c.block ≡ Some open_block) where
  opens : open_of r ≡ Some open_block
  opens = sym s.block ∙ here

  late-of : (whole : Bool) (code : Option ℕ) (large : Bool) → block_code r (whole_block r (frames.Continuation stream whole fragment)) ≡ code → is_large (continued fragment open_block) ≡ large
      → late_fault r (frames.Continuation stream whole fragment) ≡ option_or (broken 15 code) (option_or (broken 16 (code_if large 11)) None)
  unfolding late_fault
  late-of whole code large read size = (λ i. option_or (broken 15 (read i)) (option_or (broken 16 (size_code (option_map (continued fragment) (opens i)))) None)) ∙ (λ i. option_or (broken 15 code) (option_or (broken 16 (code_if (size i) 11)) None))

  pub whole-of : whole_block r (frames.Continuation stream true fragment) ≡ Some (continued fragment open_block)
  whole-of = ap (option_map (continued fragment)) opens

  pub fails-large : (whole : Bool) (decoder : Standing) → early_of c (frames.Continuation stream whole fragment) ≡ None → block_code r (whole_block r (frames.Continuation stream whole fragment)) ≡ None
      → is_large (continued fragment open_block) ≡ true → Fails r (frames.Continuation stream whole fragment) (record { code = 11; rule = 16 }) (record c { has_begun = true; block = None; decoder = decoder })
  fails-large whole decoder early read large = record {
    breaks = breaks-late c r (frames.Continuation stream whole fragment) s early ∙ late-of whole None true read large;
    controls = s.controls;
    last = s.streams.last;
    headed = s.headed;
  }

  pub fails-reading : (decoder : Standing) → early_of c (frames.Continuation stream true fragment) ≡ None → reading_of r (continued fragment open_block) ≡ None
      → Fails r (frames.Continuation stream true fragment) (record { code = 9; rule = 15 }) (record c { has_begun = true; block = None; decoder = decoder })
  fails-reading decoder early bad = record {
    breaks = breaks-late c r (frames.Continuation stream true fragment) s early
        ∙ late-of true (Some 9) (is_large (continued fragment open_block)) (ap (block_code r) whole-of ∙ ap reading_code bad) refl;
    controls = s.controls;
    last = s.streams.last;
    headed = s.headed;
  }

  counted-of : (whole : Bool) (block : Option OpenBlock) (decoder : Standing) → early_of c (frames.Continuation stream whole fragment) ≡ None
      → block_code r (whole_block r (frames.Continuation stream whole fragment)) ≡ None → is_large (continued fragment open_block) ≡ false
      → Counted (record c { has_begun = true; block = block; decoder = decoder }) r (frames.Continuation stream whole fragment)
  counted-of whole block decoder early read small =
      let frame = frames.Continuation stream whole fragment in
      let none = breaks-late c r frame s early ∙ late-of whole None false read small in
      record {
        sound = s.sound;
        breaks = none;
        begun = refl;
        window = s.window;
        initial = s.initial;
        streams = s.streams;
        controls = ap (λ waiting. written_control_of r ++ map frame_of waiting) (sym (append-nil c.control)) ∙ controls-in r frame c.control [] s.sound none s.controls refl;
        keeping = s.keeping;
        flood = s.flood;
        headed = s.headed;
      }

  pub counts-more : early_of c (frames.Continuation stream false fragment) ≡ None → is_large (continued fragment open_block) ≡ false
      → CountedBlock (record c { has_begun = true; block = Some (continued fragment open_block) }) r (frames.Continuation stream false fragment)
  counts-more early small = record {
    counted = counted-of false (Some (continued fragment open_block)) c.decoder early refl small;
    owing = s.owing;
    block = sym (ap (option_map (continued fragment)) opens);
    table = s.table;
  }

  pub counts-last : (decoder : Standing) (heard : BlockTold) → early_of c (frames.Continuation stream true fragment) ≡ None → is_large (continued fragment open_block) ≡ false
      → ReadsBlock (continued fragment open_block) (reading_of r (continued fragment open_block)) (Some heard) decoder
      → CountedBlock (record c { has_begun = true; block = None; decoder = decoder }) r (frames.Continuation stream true fragment)
  counts-last decoder heard early small hears =
      let frame = frames.Continuation stream true fragment in
      let told = tells-of r frame (continued fragment open_block) heard decoder whole-of hears in
      record { counted = counted-of true None decoder early (ap (block_code r) whole-of ∙ told.2) small; owing = s.owing; block = refl; table = told.1 }
