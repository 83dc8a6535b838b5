-- A request is told once, so nothing was answered on its stream before.
use Rattle.std.proofs.Common.{◌≡◌, ℕ, ◌==◌, ◌<◌, ◌≤◌, Bool, true, false, not, ◌||◌, List, [], ◌∷◌, ◌++◌, map, Option, None, Some, Result, Ok, Err, refl, sym, ap, subst, ◌∙◌, true≢false, arith, if◌then◌else◌}
use Rattle.std.specs.Prelude.{nat_lt, is_some, fold, option_map, option_to_list}
use Rattle.std.proofs.lemmas.Bool.{ltb-true, ltb-false, eqb-true}
use Rattle.hpack_blocks.specs.declared.fields.Field.{Field}
use Rattle.hpack_blocks.specs.Answers.{MAX}
use Rattle.hpack_blocks.specs.Block.{Block}
use Rattle.hpack_blocks.specs.Table.{list_size}
use Rattle.h2_frames.specs.declared.fault.H2Fault.{H2Fault}
use Rattle.h2_frames.specs.declared.frame.Frame.{Frame}
use Rattle.h2_frames.specs.declared.frame.Frame.TheVariants as frames
use Rattle.grpc_meta.specs.declared.methods.Method.{Method}
use Rattle.grpc_meta.specs.declared.requests.MetaFault.{MetaFault}
use Rattle.h2_record.specs.declared.block.OpenBlock.{OpenBlock}
use Rattle.h2_record.specs.declared.event.Event.{Event}
use Rattle.h2_record.specs.declared.event.Event.TheVariants as event
use Rattle.h2_record.specs.Record.{AnswerPart, Record, In, Out, Given, Whole, Broken}
use Rattle.h2_record.specs.Blocks.{open_of, begun_block, continued, whole_block, reading_of}
use Rattle.h2_record.specs.Events.{block_event, read_event, whole_event, served_event, event_by, events_behind, events_of}
use Rattle.h2_record.specs.Faults.{fault_by, first_fault_of}
use Rattle.h2_record.specs.Ids.{last_of}
use Rattle.h2_record.specs.Live.{Reset}
use Rattle.h2_record.specs.Refusals.{is_served}
use Rattle.h2_record.specs.Resets.{reset_by, resets_of, is_live}
use Rattle.conn_requests.specs.declared.asks.Ask.{Ask}
use Rattle.conn_requests.specs.declared.asks.Ask.TheVariants as ask
use Rattle.conn_requests.specs.declared.asks.Over.TheVariants as over
use Rattle.grpc_meta.specs.Request.{method_in}
use Rattle.conn_requests.specs.Names.{Named, nothing_named, named_after}
use Rattle.conn_requests.specs.Body.{Body, asks_of, body_after}
use Rattle.conn_requests.specs.Ends.{over_of}
use Rattle.conn_requests.specs.Given.{with_parts, parts_of}
use Rattle.conn_requests.specs.Decided.{Item, Answered, Played, Call, new_call, item_of, has_answer, with_record, set_call, answer_next, is_next_lost, ends_call, item_for, decide, with_whole, decide_all, hear_body, hear_request, hear, take_frame, play}

-- ---- the ids whose requests were told

-- Its HEADERS came, and the block of its request isn't open.
pub record WasTold (r : Record) (id : ℕ) : Type 0 where
  pub begun : id ≤ last_of r
  pub whole : (b : OpenBlock) → open_of r ≡ Some b → b.is_late ≡ false → b.stream ≡ id → ⊥

-- a whole block on a stream that wasn't begun before it
pub record Requests (r : Record) (frame : Frame) (id : ℕ) : Type 0 where
  pub block : OpenBlock
  pub whole : whole_block r frame ≡ Some block
  pub early : block.is_late ≡ false
  pub stream : block.stream ≡ id

not-late : (b : Bool) → not b ≡ false → b ≡ true
not-late true is = refl
not-late false is = absurd (true≢false is)

greater : (last stream : ℕ) → not (nat_lt last stream) ≡ false → last < stream
greater last stream early = ltb-true last stream (not-late (nat_lt last stream) early)

rises : (b : Bool) (last stream id : ℕ) → (b ≡ true → last < stream) → id ≤ last → id ≤ (if b then stream else last)
rises true last stream id above within = omega (arith, above refl, within)
rises false last stream id above within = within

reaches : (b : Bool) (last stream : ℕ) → (b ≡ false → stream ≤ last) → stream ≤ (if b then stream else last)
reaches true last stream below = omega arith
reaches false last stream below = below refl

least : (b : Bool) (last stream : ℕ) → b ≡ true → stream ≤ (if b then stream else last)
least true last stream is = omega arith
least false last stream is = absurd (true≢false (sym is))

below-or : (last stream : ℕ) → nat_lt last stream ≡ false → stream ≤ last
below-or last stream is = ltb-false last stream is

continues : (fragment : List ℕ) (found : Option OpenBlock) (b : OpenBlock) → option_map (continued fragment) found ≡ Some b → (first : OpenBlock) × (found ≡ Some first) × (b.is_late ≡ first.is_late) × (b.stream ≡ first.stream)
continues fragment None b is = absurd cc
continues fragment (Some first) b is =
    let same : continued fragment first ≡ b = cc in
    (first, refl, ap (λ x. x.is_late) (sym same), ap (λ x. x.stream) (sym same))

module _ (r : Record) (id : ℕ) (t : WasTold r id) where
  told-continues : (fragment : List ℕ) (b : OpenBlock) → option_map (continued fragment) (open_of r) ≡ Some b → b.is_late ≡ false → b.stream ≡ id → ⊥
  told-continues fragment b is early stream =
      let first = continues fragment (open_of r) b is in
      t.whole first.0 first.1 (sym first.2 ∙ early) (sym first.3 ∙ stream)

  told-begins : (stream : ℕ) (ended : Bool) (fragment : List ℕ) (b : OpenBlock) → Some (begun_block r stream ended fragment) ≡ Some b → b.is_late ≡ false → b.stream ≡ id → ⊥
  told-begins stream ended fragment b is early same =
      let block : begun_block r stream ended fragment ≡ b = cc in
      let above : last_of r < stream = greater (last_of r) stream (ap (λ x. x.is_late) block ∙ early) in
      let at : stream ≡ id = ap (λ x. x.stream) block ∙ same in
      absurd (omega (arith, above, at, t.begun))

  pub told-stays : (frame : Frame) → WasTold (In frame ∷ r) id
  told-stays (frames.Body stream ended bytes counted) = record { begun = t.begun; whole = t.whole }
  told-stays (frames.Headers stream ended false fragment) =
      record { begun = rises (nat_lt (last_of r) stream) (last_of r) stream id (ltb-true (last_of r) stream) t.begun; whole = told-begins stream ended fragment }
  told-stays (frames.Headers stream ended true fragment) =
      record { begun = rises (nat_lt (last_of r) stream) (last_of r) stream id (ltb-true (last_of r) stream) t.begun; whole = λ b is early same. absurd cc }
  told-stays (frames.Priority stream) = record { begun = t.begun; whole = t.whole }
  told-stays (frames.Reset stream code) = record { begun = t.begun; whole = t.whole }
  told-stays (frames.Settings acked pairs) = record { begun = t.begun; whole = t.whole }
  told-stays (frames.Push stream) = record { begun = t.begun; whole = t.whole }
  told-stays (frames.Ping acked octets) = record { begun = t.begun; whole = t.whole }
  told-stays (frames.Goaway last code) = record { begun = t.begun; whole = t.whole }
  told-stays (frames.Window stream add) = record { begun = t.begun; whole = t.whole }
  told-stays (frames.Continuation stream false fragment) = record { begun = t.begun; whole = told-continues fragment }
  told-stays (frames.Continuation stream true fragment) = record { begun = t.begun; whole = λ b is early same. absurd cc }
  told-stays (frames.Unknown kind stream) = record { begun = t.begun; whole = t.whole }

-- an open block's stream was begun
open-began : (r : Record) (b : OpenBlock) → open_of r ≡ Some b → b.stream ≤ last_of r
open-began [] b is = absurd cc
open-began (In (frames.Headers stream ended false fragment) ∷ r) b is =
    let block : begun_block r stream ended fragment ≡ b = cc in
    let at : stream ≡ b.stream = ap (λ x. x.stream) block in
    subst (λ n. n ≤ last_of (In (frames.Headers stream ended false fragment) ∷ r)) at (reaches (nat_lt (last_of r) stream) (last_of r) stream (below-or (last_of r) stream))
open-began (In (frames.Headers stream ended true fragment) ∷ r) b is = absurd cc
open-began (In (frames.Continuation stream false fragment) ∷ r) b is =
    let first = continues fragment (open_of r) b is in
    subst (λ n. n ≤ last_of r) (sym first.3) (open-began r first.0 first.1)
open-began (In (frames.Continuation stream true fragment) ∷ r) b is = absurd cc
open-began (In (frames.Body stream ended bytes counted) ∷ r) b is = open-began r b is
open-began (In (frames.Priority stream) ∷ r) b is = open-began r b is
open-began (In (frames.Reset stream code) ∷ r) b is = open-began r b is
open-began (In (frames.Settings acked pairs) ∷ r) b is = open-began r b is
open-began (In (frames.Push stream) ∷ r) b is = open-began r b is
open-began (In (frames.Ping acked octets) ∷ r) b is = open-began r b is
open-began (In (frames.Goaway last code) ∷ r) b is = open-began r b is
open-began (In (frames.Window stream add) ∷ r) b is = open-began r b is
open-began (In (frames.Unknown kind stream) ∷ r) b is = open-began r b is
open-began (Out frame ∷ r) b is = open-began r b is
open-began (Given stream part ∷ r) b is = open-began r b is
open-began (Whole ∷ r) b is = open-began r b is
open-began (Broken fault ∷ r) b is = open-began r b is

-- the request of a stream comes once
pub told-once : (r : Record) (frame : Frame) (id : ℕ) → Requests r frame id → WasTold r id → ⊥
told-once r (frames.Headers stream ended true fragment) id q t = told-begins r id t stream ended fragment q.block q.whole q.early q.stream
told-once r (frames.Continuation stream true fragment) id q t = told-continues r id t fragment q.block q.whole q.early q.stream
told-once r (frames.Headers stream ended false fragment) id q t = let w : None ≡ Some q.block = q.whole in absurd cc
told-once r (frames.Continuation stream false fragment) id q t = let w : None ≡ Some q.block = q.whole in absurd cc
told-once r (frames.Body stream ended bytes counted) id q t = let w : None ≡ Some q.block = q.whole in absurd cc
told-once r (frames.Priority stream) id q t = let w : None ≡ Some q.block = q.whole in absurd cc
told-once r (frames.Reset stream code) id q t = let w : None ≡ Some q.block = q.whole in absurd cc
told-once r (frames.Settings acked pairs) id q t = let w : None ≡ Some q.block = q.whole in absurd cc
told-once r (frames.Push stream) id q t = let w : None ≡ Some q.block = q.whole in absurd cc
told-once r (frames.Ping acked octets) id q t = let w : None ≡ Some q.block = q.whole in absurd cc
told-once r (frames.Goaway last code) id q t = let w : None ≡ Some q.block = q.whole in absurd cc
told-once r (frames.Window stream add) id q t = let w : None ≡ Some q.block = q.whole in absurd cc
told-once r (frames.Unknown kind stream) id q t = let w : None ≡ Some q.block = q.whole in absurd cc

-- and then it was told
told-now : (r : Record) (frame : Frame) (id : ℕ) → Requests r frame id → WasTold (In frame ∷ r) id
told-now r (frames.Headers stream ended true fragment) id q =
    let block : begun_block r stream ended fragment ≡ q.block = let w = q.whole in cc in
    let at : stream ≡ id = ap (λ x. x.stream) block ∙ q.stream in
    let late : nat_lt (last_of r) stream ≡ true = not-late (nat_lt (last_of r) stream) (ap (λ x. x.is_late) block ∙ q.early) in
    record {
      begun = subst (λ n. n ≤ last_of (In (frames.Headers stream ended true fragment) ∷ r)) at (least (nat_lt (last_of r) stream) (last_of r) stream late);
      whole = λ b is early same. absurd cc;
    }
told-now r (frames.Continuation stream true fragment) id q =
    let first = continues fragment (open_of r) q.block q.whole in
    record {
      begun = subst (λ n. n ≤ last_of r) (sym first.3 ∙ q.stream) (open-began r first.0 first.1);
      whole = λ b is early same. absurd cc;
    }
told-now r (frames.Headers stream ended false fragment) id q = let w : None ≡ Some q.block = q.whole in absurd cc
told-now r (frames.Continuation stream false fragment) id q = let w : None ≡ Some q.block = q.whole in absurd cc
told-now r (frames.Body stream ended bytes counted) id q = let w : None ≡ Some q.block = q.whole in absurd cc
told-now r (frames.Priority stream) id q = let w : None ≡ Some q.block = q.whole in absurd cc
told-now r (frames.Reset stream code) id q = let w : None ≡ Some q.block = q.whole in absurd cc
told-now r (frames.Settings acked pairs) id q = let w : None ≡ Some q.block = q.whole in absurd cc
told-now r (frames.Push stream) id q = let w : None ≡ Some q.block = q.whole in absurd cc
told-now r (frames.Ping acked octets) id q = let w : None ≡ Some q.block = q.whole in absurd cc
told-now r (frames.Goaway last code) id q = let w : None ≡ Some q.block = q.whole in absurd cc
told-now r (frames.Window stream add) id q = let w : None ≡ Some q.block = q.whole in absurd cc
told-now r (frames.Unknown kind stream) id q = let w : None ≡ Some q.block = q.whole in absurd cc

-- ---- events

-- the event tells the request of the stream
abbrev pub IsRequest : ℕ → Event → Type 0
IsRequest id (event.Opened stream fields ended) = stream ≡ id
IsRequest id (event.TooLarge stream) = stream ≡ id
IsRequest id _ = ⊥

if-some : {A : Type 0} (b : Bool) (x : Option A) (y : A) → (if b then x else None) ≡ Some y → x ≡ Some y
if-some true x y is = is
if-some false x y is = absurd cc

some-same : {A : Type 0} (x y : A) → Some x ≡ Some y → x ≡ y
some-same x y is = cc

not-this : (id : ℕ) (told other : Event) → Some other ≡ Some told → IsRequest id told → IsRequest id other
not-this id told other is request = subst (IsRequest id) (sym (some-same other told is)) request

tested : (id : ℕ) (late big : Bool) (block : OpenBlock) (fields : List Field) (told : Event) → (if late then event.Ended block.stream else if big then event.TooLarge block.stream else event.Opened block.stream fields block.ended) ≡ told → IsRequest id told → (late ≡ false) × (block.stream ≡ id)
tested id true big block fields told is request = absurd (subst (IsRequest id) (sym is) request)
tested id false true block fields told is request = (refl, subst (IsRequest id) (sym is) request)
tested id false false block fields told is request = (refl, subst (IsRequest id) (sym is) request)

of-read : (id : ℕ) (block : OpenBlock) (read : Block) (told : Event) → read_event block read ≡ Some told → IsRequest id told → (block.is_late ≡ false) × (block.stream ≡ id)
of-read id block None told is request = absurd cc
of-read id block (Some read) told is request =
    tested id block.is_late (nat_lt MAX (list_size read.0)) block read.0 told (some-same (block_event block read.0) told is) request

of-whole : (r : Record) (frame : Frame) (id : ℕ) (found : Option OpenBlock) (told : Event) → whole_block r frame ≡ found → whole_event r found ≡ Some told → IsRequest id told → Requests r frame id
of-whole r frame id None told found is request = absurd cc
of-whole r frame id (Some block) told found is request =
    let both : (block.is_late ≡ false) × (block.stream ≡ id) = of-read id block (reading_of r block) told is request in
    record { block = block; whole = found; early = both.0; stream = both.1 }

module _ (r : Record) (id : ℕ) (told : Event) (request : IsRequest id told) where
  of-served : (frame : Frame) → (if is_served (resets_of r) r frame then whole_event r (whole_block r frame) else None) ≡ Some told → Requests r frame id
  of-served frame is = of-whole r frame id (whole_block r frame) told refl (if-some (is_served (resets_of r) r frame) _ told is) request

  of-any : (frame : Frame) → served_event r frame ≡ Some told → Requests r frame id
  of-any (frames.Body stream ended bytes counted) is = absurd (not-this id told _ (if-some (is_live r stream) (Some (event.Body stream bytes ended)) told is) request)
  of-any (frames.Reset stream code) is = absurd (not-this id told _ (if-some (is_live r stream) (Some (event.Reset stream code)) told is) request)
  of-any (frames.Headers stream ended whole fragment) is = of-served (frames.Headers stream ended whole fragment) is
  of-any (frames.Continuation stream whole fragment) is = of-served (frames.Continuation stream whole fragment) is
  of-any (frames.Priority stream) is = of-served (frames.Priority stream) is
  of-any (frames.Settings acked pairs) is = of-served (frames.Settings acked pairs) is
  of-any (frames.Push stream) is = of-served (frames.Push stream) is
  of-any (frames.Ping acked octets) is = of-served (frames.Ping acked octets) is
  of-any (frames.Goaway last code) is = of-served (frames.Goaway last code) is
  of-any (frames.Window stream add) is = of-served (frames.Window stream add) is
  of-any (frames.Unknown kind stream) is = of-served (frames.Unknown kind stream) is

  of-reset : (frame : Frame) (reset : Option Reset) → event_by r frame reset ≡ Some told → Requests r frame id
  of-reset frame None is = of-any frame is
  of-reset frame (Some reset) is = absurd (not-this id told (event.Reset reset.stream reset.code) (if-some _ (Some (event.Reset reset.stream reset.code)) told is) request)

-- each request that is told stands
abbrev pub EachRequest : (ℕ → Type 0) → List Event → Type 0
EachRequest T [] = Unit {0}
EachRequest T (told ∷ events) = ((id : ℕ) → IsRequest id told → T id) × EachRequest T events

of-option : (T : ℕ → Type 0) (found : Option Event) → ((told : Event) → found ≡ Some told → (id : ℕ) → IsRequest id told → T id) → EachRequest T (option_to_list found)
of-option T None each = tt
of-option T (Some told) each = (each told refl, tt)

of-behind : (r : Record) (frame : Frame) (earlier fault : Option H2Fault) → EachRequest (Requests r frame) (events_behind r frame earlier fault)
of-behind r frame (Some earlier) fault = tt
of-behind r frame None (Some fault) = (λ id bad. absurd bad, tt)
of-behind r frame None None =
    of-option (Requests r frame) (event_by r frame (reset_by (resets_of r) r frame)) (λ told is id request. of-reset r id told request frame (reset_by (resets_of r) r frame) is)

pub requests-in : (r : Record) (frame : Frame) → EachRequest (Requests r frame) (events_of r frame)
requests-in r frame = of-behind r frame (first_fault_of r) (fault_by r frame)

each-of : (S T : ℕ → Type 0) (events : List Event) → ((id : ℕ) → S id → T id) → EachRequest S events → EachRequest T events
each-of S T [] f each = tt
each-of S T (told ∷ events) f each = (λ id request. f id (each.0 id request), each-of S T events f each.1)

-- ---- what was decided

abbrev pub Each : (ℕ → Type 0) → List Item → Type 0
Each T [] = Unit {0}
Each T (item ∷ items) = T item.stream × Each T items

each-more : (T : ℕ → Type 0) (items : List Item) (item : Item) → Each T items → T item.stream → Each T (items ++ item ∷ [])
each-more T [] item each here = (here, tt)
each-more T (i ∷ items) item each here = (each.0, each-more T items item each.1 here)

each-map : (S T : ℕ → Type 0) (items : List Item) → ((id : ℕ) → S id → T id) → Each S items → Each T items
each-map S T [] f each = tt
each-map S T (item ∷ items) f each = (f item.stream each.0, each-map S T items f each.1)

-- what was decided, and each call that goes on, is on a stream whose request was told; the marks keep that
pub record IsTold (T : ℕ → Type 0) (p : Played) : Type 0 where
  pub decided : Each T p.decided
  pub calls : (id : ℕ) → is_some (p.calls id) ≡ true → T id
  pub marks : (id : ℕ) → T id → WasTold p.marked id

told-parts : (r : Record) (stream : ℕ) (parts : List AnswerPart) (id : ℕ) → WasTold r id → WasTold (with_parts r stream parts) id
told-parts r stream [] id t = t
told-parts r stream (part ∷ parts) id t = told-parts (Given stream part ∷ r) stream parts id (record { begun = t.begun; whole = t.whole })

module _ (T : ℕ → Type 0) where
  some-call : (b : Bool) (id other : ℕ) (call kept : Option Call) → (b ≡ true → id ≡ other) → (is_some call ≡ true → T id) → (is_some kept ≡ true → T other) → is_some (if b then call else kept) ≡ true → T other
  some-call true id other call kept same first second is = subst T (same refl) (first is)
  some-call false id other call kept same first second is = second is

  set-told : (p : Played) (id : ℕ) (call : Option Call) → (is_some call ≡ true → T id) → IsTold T p → IsTold T (set_call p id call)
  set-told p id call here t =
      record { decided = t.decided; calls = λ other is. some-call (id == other) id other call (p.calls other) (eqb-true id other) here (t.calls other) is; marks = t.marks }

  next-told : (p : Played) (item : Item) (l : List Answered) → T item.stream → IsTold T p → IsTold T (answer_next p item l)
  next-told p item [] here t = record { decided = each-more T p.decided item t.decided here; calls = t.calls; marks = t.marks }
  next-told p item (x ∷ xs) here t =
      record { decided = each-more T p.decided item t.decided here; calls = t.calls; marks = λ id told. told-parts p.marked item.stream (parts_of (has_answer p.used item.stream) x.answer) id (t.marks id told) }

  decide-told : (p : Played) (id : ℕ) (named : Named) (asks : List Ask) (body : Option Body) → T id → IsTold T p → IsTold T (decide p id named asks body)
  decide-told p id named [] body here t = set-told p id _ (λ some. here) t
  decide-told p id named (wanted ∷ asks) body here t =
      let next : Played = answer_next p (item_for id named wanted) p.later in
      let after : IsTold T next = next-told p (item_for id named wanted) p.later here t in
      elim (ends_call wanted || is_next_lost p.later) as (λ b. IsTold T (if b then set_call next id None else decide next id (named_after named wanted) asks body)) [
        | true ↦ set-told next id None (λ some. here) after
        | false ↦ decide-told next id (named_after named wanted) asks body here after
      ]

  whole-told : (p : Played) (asks : List Ask) → IsTold T p → IsTold T (with_whole p asks)
  whole-told p [] t = t
  whole-told p (wanted ∷ asks) t =
      record { decided = t.decided; calls = t.calls; marks = λ id told. record { begun = (t.marks id told).begun; whole = (t.marks id told).whole } }

  decide_all-told : (p : Played) (id : ℕ) (named : Named) (asks : List Ask) (body : Option Body) → T id → IsTold T p → IsTold T (decide_all p id named asks body)
  decide_all-told p id named asks body here t = decide-told (with_whole p asks) id named asks body here (whole-told p asks t)

  body-told : (p : Played) (id : ℕ) (bytes : List ℕ) (ended : Bool) (call : Option Call) → (is_some call ≡ true → T id) → IsTold T p → IsTold T (hear_body p id bytes ended call)
  body-told p id bytes ended None here t = t
  body-told p id bytes ended (Some call) here t = decide_all-told p id call.named (asks_of call.body bytes ended) (Some (body_after call.body bytes)) (here refl) t

  request-told : (p : Played) (id : ℕ) (fields : List Field) (ended : Bool) (m : Result Method MetaFault) → T id → IsTold T p → IsTold T (hear_request p id fields ended m)
  request-told p id fields ended (Ok m) here t = body-told p id [] ended (Some (new_call m fields)) (λ some. here) t
  request-told p id fields ended (Err refused) here t = decide_all-told p id nothing_named (map ask.Ends (option_to_list (over_of refused))) None here t

  hear-told : (p : Played) (told : Event) → ((id : ℕ) → IsRequest id told → T id) → IsTold T p → IsTold T (hear p told)
  hear-told p (event.Opened id fields ended) here t = request-told p id fields ended (method_in fields) (here id refl) t
  hear-told p (event.TooLarge id) here t = decide_all-told p id nothing_named (ask.Ends over.ListTooLarge ∷ []) None (here id refl) t
  hear-told p (event.Body id bytes ended) here t = body-told p id bytes ended (p.calls id) (t.calls id) t
  hear-told p (event.Ended id) here t = body-told p id [] true (p.calls id) (t.calls id) t
  hear-told p (event.Reset id code) here t = set-told p id None (λ some. absurd (true≢false (sym some))) t
  hear-told p (event.Fault code rule) here t = t

  hear_all-told : (p : Played) (events : List Event) → EachRequest T events → IsTold T p → IsTold T (fold hear p events)
  hear_all-told p [] each t = t
  hear_all-told p (told ∷ events) each t = hear_all-told (hear p told) events each.1 (hear-told p told each.0 t)

-- ---- frames

abbrev Tells : Played → Type 0
Tells p = IsTold (WasTold p.marked) p

tells-by : (T : ℕ → Type 0) (p : Played) → IsTold T p → Tells p
tells-by T p t = record { decided = each-map T (WasTold p.marked) p.decided t.marks t.decided; calls = λ id is. t.marks id (t.calls id is); marks = λ id told. told }

take_frame-told : (p : Played) (frame : Frame) → Tells p → Tells (take_frame p frame)
unfolding take_frame
take_frame-told p frame t =
    let T : ℕ → Type 0 = WasTold (In frame ∷ p.marked) in
    let stays : (id : ℕ) → WasTold p.marked id → T id = λ id told. told-stays p.marked id told frame in
    let first : IsTold T (with_record p (In frame ∷ p.marked)) =
    record { decided = each-map (WasTold p.marked) T p.decided stays t.decided; calls = λ id is. stays id (t.calls id is); marks = λ id told. told }
    in
    tells-by T _ (hear_all-told T (with_record p (In frame ∷ p.marked)) (events_of p.marked frame) (each-of (Requests p.marked frame) T (events_of p.marked frame) (told-now p.marked frame) (requests-in p.marked frame)) first)

marked-told : (p : Played) (r : Record) → ((id : ℕ) → WasTold p.marked id → WasTold r id) → Tells p → Tells (with_record p r)
marked-told p r stays t =
    record { decided = each-map (WasTold p.marked) (WasTold r) p.decided stays t.decided; calls = λ id is. stays id (t.calls id is); marks = λ id told. told }

play-told : (answers : List Answered) (frames : Record) → Tells (play answers frames)
unfolding play
play-told answers [] = record { decided = tt; calls = λ id is. absurd (true≢false (sym is)); marks = λ id told. told }
play-told answers (In frame ∷ r) = take_frame-told (play answers r) frame (play-told answers r)
play-told answers (Out frame ∷ r) =
    let p : Played = play answers r in
    marked-told p (Out frame ∷ p.marked) (λ id t. record { begun = t.begun; whole = t.whole }) (play-told answers r)
play-told answers (Broken fault ∷ r) =
    let p : Played = play answers r in
    marked-told p (Broken fault ∷ p.marked) (λ id t. record { begun = t.begun; whole = t.whole }) (play-told answers r)
play-told answers (Given stream part ∷ r) = play-told answers r
play-told answers (Whole ∷ r) = play-told answers r

-- ---- before a request

first-or-later : (T : ℕ → Type 0) (b later : Bool) (id stream : ℕ) → (b ≡ true → id ≡ stream) → T stream → (later ≡ true → T id) → (b || later) ≡ true → T id
first-or-later T true later id stream same here others is = subst T (sym (same refl)) here
first-or-later T false later id stream same here others is = others is

answered-told : (T : ℕ → Type 0) (used : List Answered) (id : ℕ) → Each T (map item_of used) → has_answer used id ≡ true → T id
answered-told T [] id each has = absurd (true≢false (sym has))
answered-told T (x ∷ used) id each has =
    first-or-later T (id == x.item.stream) (has_answer used id) id x.item.stream (eqb-true id x.item.stream) each.0 (answered-told T used id each.1) has

by-bool : (b : Bool) → (b ≡ true → ⊥) → b ≡ false
by-bool true never = absurd (never refl)
by-bool false never = refl

-- on the stream of a request nothing was answered before it
pub nothing-before : (answers : List Answered) (frames : Record) (p : Played) → play answers frames ≡ p → map item_of p.used ≡ p.decided → (frame : Frame) (id : ℕ) → Requests p.marked frame id → has_answer p.used id ≡ false
nothing-before answers frames p is all frame id request =
    let t : Tells p = subst Tells is (play-told answers frames) in
    let each : Each (WasTold p.marked) (map item_of p.used) = subst (Each (WasTold p.marked)) (sym all) t.decided in
    by-bool (has_answer p.used id) (λ has. told-once p.marked frame id request (answered-told (WasTold p.marked) p.used id each has))
