-- What each frame tells in such a record.
use Rattle.std.proofs.Common.{◌≡◌, ℕ, ◌<◌, ◌≤◌, Bool, true, false, not, List, [], ◌∷◌, length, Option, Some, None, refl, sym, ap, ◌∙◌, true≢false, arith, if◌then◌else◌}
use Rattle.std.specs.Prelude.{nat_le, option_to_list, Ok}
use Rattle.hpack_blocks.specs.Answers.{MAX}
use Rattle.hpack_blocks.specs.Spelling.{BlockReadsBack}
use Rattle.hpack_blocks.specs.Table.{Table, list_size}
use Rattle.hpack_blocks.specs.declared.fields.Field.{Field}
use Rattle.grpc_meta.specs.Request.{is_malformed, method_in}
use Rattle.grpc_meta.specs.declared.methods.Method.{Method}
use Rattle.h2_frames.specs.declared.frame.Frame.{Frame}
use Rattle.h2_frames.specs.declared.frame.Frame.TheVariants as frames
use Rattle.h2_record.specs.declared.event.Event.TheVariants as event
use Rattle.h2_record.specs.Record.{Record, any_in, has_begun}
use Rattle.h2_record.specs.Ids.{last_of}
use Rattle.h2_record.specs.Blocks.{open_of, table_of}
use Rattle.h2_record.specs.Live.{ends}
use Rattle.h2_record.specs.Refusals.{most_streams}
use Rattle.h2_record.specs.Resets.{reset_by, resets_of, live_of, is_live}
use Rattle.h2_record.specs.Faults.{fault_by, first_fault_of}
use Rattle.h2_record.specs.Events.{events_of, events_behind, event_by}
use Rattle.h2_record.proofs.BoolLemmas.{and-first, and-second, and-false, lt-yes, lt-no}
use Rattle.client_calls.specs.Frames.{settings_frame}
use Rattle.client_calls.specs.Told.{Tells, TellEach}
use Rattle.client_calls.proofs.Going.{IsNext, IsAsked, IsData, Goes}
use Rattle.client_calls.proofs.Standing.{Stands, Unbegun, Begun, standing, sound-settings, sound-request, sound-data}

-- where no rule is broken, a frame tells what its event is
unbroken-events : (r : Record) (frame : Frame) → first_fault_of r ≡ None → fault_by r frame ≡ None → events_of r frame ≡ option_to_list (event_by r frame (reset_by (resets_of r) r frame))
unbroken-events r frame sound none = ap (λ earlier. events_behind r frame earlier (fault_by r frame)) sound ∙ ap (events_behind r frame None) none

tells-settings : (r : Record) → first_fault_of r ≡ None → fault_by r settings_frame ≡ None → events_of r settings_frame ≡ []
unfolding reset_by
tells-settings r sound none = unbroken-events r settings_frame sound none

-- fields that ask for a method are well formed
well-formed : (m : Method) (fields : List Field) → method_in fields ≡ Ok m → is_malformed fields ≡ false
well-formed m fields names = by (is_malformed fields) refl
  where
    by : (b : Bool) → is_malformed fields ≡ b → is_malformed fields ≡ false
    by false e = e
    by true e = absurd (let h = rw e at names in cc)

abbrev first_in : Option (List Field × Table) → List Field
first_in None = []
first_in (Some read) = read.0

-- a block reads as one list of fields
one-reading : (block : List ℕ) (a b : List Field) → BlockReadsBack false a block → BlockReadsBack false b block → (t : Table) → a ≡ b
one-reading block a b p q t = ap first_in (sym (p t) ∙ q t)

module _ (r : Record) (last id : ℕ) (block : List ℕ) (latest : last_of r ≡ last) (next : IsNext last id) (fields : List Field) (reads : BlockReadsBack false fields block) where
  request-kept : length (live_of r) < most_streams → is_malformed fields ≡ false → reset_by (resets_of r) r (frames.Headers id false true block) ≡ None
  unfolding reset_by
  request-kept fewer formed =
      rw (next.odd, latest, lt-yes last id next.above, lt-yes (length (live_of r)) most_streams fewer, reads (table_of r), formed, and-false (nat_le (list_size fields) MAX)) refl

  request-told : list_size fields ≤ MAX → event_by r (frames.Headers id false true block) None ≡ Some (event.Opened id fields false)
  request-told small = rw (next.odd, latest, lt-yes last id next.above, reads (table_of r), lt-no MAX (list_size fields) small) refl

tells-request : (r : Record) (last id : ℕ) (block : List ℕ) → last_of r ≡ last → first_fault_of r ≡ None → fault_by r (frames.Headers id false true block) ≡ None
    → IsAsked last id block → Tells r (frames.Headers id false true block)
tells-request r last id block latest sound none asked fewer fields reads =
    let request = asked.request in
    let same : request.fields ≡ fields = one-reading block request.fields fields request.reads reads (table_of r) in
    let formed : is_malformed fields ≡ false = rw (sym same) (well-formed asked.m request.fields request.names) in
    let small : list_size fields ≤ MAX = rw (sym same) request.small in
    unbroken-events r (frames.Headers id false true block) sound none
    ∙ ap (λ reset. option_to_list (event_by r (frames.Headers id false true block) reset)) (request-kept r last id block latest asked.next fields reads fewer formed)
    ∙ ap option_to_list (request-told r last id block latest asked.next fields reads small)

tells-data : (r : Record) (last stream : ℕ) (end : Bool) (payload : List ℕ) (counted : ℕ) → last_of r ≡ last → first_fault_of r ≡ None → fault_by r (frames.Body stream end payload counted) ≡ None
    → IsData last stream end payload counted → Tells r (frames.Body stream end payload counted)
unfolding reset_by
tells-data r last stream end payload counted latest sound none d opened window =
    let live : is_live r stream ≡ true = and-first (is_live r stream) (not (any_in (ends stream) r)) opened in
    let going : any_in (ends stream) r ≡ false = not-true (any_in (ends stream) r) (and-second (is_live r stream) (not (any_in (ends stream) r)) opened) in
    unbroken-events r (frames.Body stream end payload counted) sound none
    ∙ rw (d.odd, latest, lt-no last stream (omega (arith, d.same)), live, going, window) (ap (λ lives. option_to_list (if lives then Some (event.Body stream payload end) else None)) live)
  where
    not-true : (b : Bool) → not b ≡ true → b ≡ false
    not-true false e = refl
    not-true true e = absurd (true≢false (sym e))

-- ---- each frame at its place

module _ (sent : List Frame) (go : Goes 0 sent) where
  tells-next : (r : Record) (frame : Frame) (later : List Frame) (last : ℕ) → has_begun r ≡ true → open_of r ≡ None → last_of r ≡ last → first_fault_of r ≡ None
      → Goes last (frame ∷ later) → Tells r frame
  tells-next r (frames.Headers id false true block) later last begun shut latest sound goes =
      tells-request r last id block latest sound (sound-request r last id block begun shut goes.0) goes.0
  tells-next r (frames.Headers id true whole block) later last begun shut latest sound goes = absurd goes
  tells-next r (frames.Headers id false false block) later last begun shut latest sound goes = absurd goes
  tells-next r (frames.Body stream end payload counted) later last begun shut latest sound goes =
      tells-data r last stream end payload counted latest sound (sound-data r last stream end payload counted begun shut latest goes.0) goes.0
  tells-next r (frames.Priority stream) later last begun shut latest sound goes = absurd goes
  tells-next r (frames.Reset stream code) later last begun shut latest sound goes = absurd goes
  tells-next r (frames.Settings acked pairs) later last begun shut latest sound goes = absurd goes
  tells-next r (frames.Push stream) later last begun shut latest sound goes = absurd goes
  tells-next r (frames.Ping acked octets) later last begun shut latest sound goes = absurd goes
  tells-next r (frames.Goaway id code) later last begun shut latest sound goes = absurd goes
  tells-next r (frames.Window stream add) later last begun shut latest sound goes = absurd goes
  tells-next r (frames.Continuation stream whole block) later last begun shut latest sound goes = absurd goes
  tells-next r (frames.Unknown kind stream) later last begun shut latest sound goes = absurd goes

  tells : (r : Record) (frame : Frame) (later : List Frame) → Stands r (settings_frame ∷ sent) (frame ∷ later) → Tells r frame
  tells r frame later (Unbegun begun shut latest flood sound is) =
      let first : frame ≡ settings_frame = cc in
      rw first (tells-settings r sound (sound-settings r begun shut flood))
  tells r frame later (Begun last begun shut latest sound goes) = tells-next r frame later last begun shut latest sound goes

  pub tell-each : TellEach (settings_frame ∷ sent)
  tell-each r frame later at = tells r frame later (standing sent go r (frame ∷ later) at.unbroken at.came)
