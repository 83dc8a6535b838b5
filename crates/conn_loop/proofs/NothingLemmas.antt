-- A frame is taken, and nothing is answered: memory was wanting before.
use Rattle.std.proofs.Common.{◌≡◌, inl, ℕ, ℤ, ◌||◌, Bool, true, false, List, [], ◌∷◌, ◌++◌, map, fold, Option, Some, None, Result, Ok, Err, refl, sym, ap, ◌∙◌, subst, append-nil, append_assoc, if◌then◌else◌}
use Rattle.std.specs.Prelude.{option_to_list}
use Rattle.std.proofs.lemmas.List.Elements.{All-nil}
use Rattle.links.proofs.ToldLemmas.{more-nil, GoesOn-nil}
use Rattle.hpack_blocks.specs.declared.fields.Field.{Field}
use Rattle.grpc_meta.specs.declared.methods.Method.{Method}
use Rattle.grpc_meta.specs.declared.requests.MetaFault.{MetaFault}
use Rattle.h2_frames.specs.declared.frame.Frame.{Frame}
use Rattle.h2_record.specs.declared.event.Event.{Event}
use Rattle.h2_record.specs.declared.event.Event.TheVariants as event
use Rattle.h2_record.specs.Record.{In}
use Rattle.h2_record.specs.Events.{events_of}
use Rattle.h2_record.specs.Faults.{first_fault_of}
use Rattle.h2_record.specs.Texts.{given_text}
use Rattle.h2_record.specs.Written.{EachWasDue, IsFront}
use Rattle.open_tables.specs.Tables.{TableView}
use Rattle.conn_requests.specs.declared.asks.Ask.{Ask}
use Rattle.conn_requests.specs.declared.asks.Ask.TheVariants as ask
use Rattle.conn_requests.specs.declared.asks.Over.TheVariants as over
use Rattle.grpc_meta.specs.Request.{method_in}
use Rattle.conn_requests.specs.Names.{Named, nothing_named, named_after}
use Rattle.conn_requests.specs.Body.{Body, asks_of, body_after}
use Rattle.conn_requests.specs.Ends.{over_of}
use Rattle.conn_requests.specs.Decided.{Item, Answered, Played, Call, new_call, item_of, with_record, set_call, answer_next, is_next_lost, ends_call, item_for, decide, with_whole, decide_all, hear_body, hear_request, hear, take_frame}
use Rattle.conn_requests.specs.Spelled.{spelling_on}
use Rattle.conn_service.specs.declared.ending.Ending.TheVariants as ending
use Rattle.conn_service.specs.Served.{Planning}
use Rattle.conn_service.specs.Quiet.{IsAnswered}
use Rattle.conn_service.specs.Ends.{StopsAtFault}
use Rattle.conn_service.specs.Serves.{IsInTime, Shown, Serves}
use Rattle.conn_service.specs.Going.{resumed}
use Rattle.conn_service.specs.Steps.{HeededInPart}
use Rattle.conn_requests.specs.Decided.{play}
use Rattle.conn_service.proofs.OrderLemmas.{due-in-order}
use Rattle.conn_record.specs.Timeline.{framing_of}

-- The frame's items are decided, and none is answered.
record IsUnanswered (p q : Played) : Type 0 where
  pub used : q.used ≡ p.used
  pub later : q.later ≡ []
  pub decided : IsFront p.decided q.decided
  pub given : (id : ℕ) → given_text q.marked id ≡ given_text p.marked id
  pub due : EachWasDue p.marked → EachWasDue q.marked
  pub stops : StopsAtFault p.marked → StopsAtFault q.marked

front-snoc : (xs ys : List Item) (item : Item) → IsFront xs ys → IsFront xs (ys ++ item ∷ [])
front-snoc xs ys item front = (front.0 ++ item ∷ [], sym (append_assoc xs front.0 (item ∷ [])) ∙ ap (λ l. l ++ item ∷ []) front.1)

module _ (p : Played) where
  answer-none : (q : Played) (item : Item) (l : List Answered) → q.later ≡ l → IsUnanswered p q → IsUnanswered p (answer_next q item l)
  answer-none q item [] left none = record {
    used = none.used;
    later = refl;
    decided = front-snoc p.decided q.decided item none.decided;
    given = none.given;
    due = none.due;
    stops = none.stops;
  }
  answer-none q item (x ∷ xs) left none = let wrong : [] ≡ x ∷ xs = sym none.later ∙ left in absurd cc

  set-none : (q : Played) (id : ℕ) (call : Option Call) → IsUnanswered p q → IsUnanswered p (set_call q id call)
  set-none q id call none = record { used = none.used; later = none.later; decided = none.decided; given = none.given; due = none.due; stops = none.stops }

  whole-none : (q : Played) (asks : List Ask) → IsUnanswered p q → IsUnanswered p (with_whole q asks)
  whole-none q [] none = none
  whole-none q (asked ∷ asks) none = record { used = none.used; later = none.later; decided = none.decided; given = none.given; due = none.due; stops = none.stops }

  decide-none : (q : Played) (id : ℕ) (named : Named) (asks : List Ask) (body : Option Body) → IsUnanswered p q → IsUnanswered p (decide q id named asks body)
  decide-none q id named [] body none = set-none q id _ none
  decide-none q id named (asked ∷ asks) body none =
      let next : Played = answer_next q (item_for id named asked) q.later in
      let after : IsUnanswered p next = answer-none q (item_for id named asked) q.later refl none in
      elim (ends_call asked || is_next_lost q.later) as (λ b. IsUnanswered p (if b then set_call next id None else decide next id (named_after named asked) asks body)) [
        | true ↦ set-none next id None after
        | false ↦ decide-none next id (named_after named asked) asks body after
      ]

  decide-all-none : (q : Played) (id : ℕ) (named : Named) (asks : List Ask) (body : Option Body) → IsUnanswered p q → IsUnanswered p (decide_all q id named asks body)
  decide-all-none q id named asks body none = decide-none (with_whole q asks) id named asks body (whole-none q asks none)

  body-none : (q : Played) (id : ℕ) (bytes : List ℕ) (ended : Bool) (call : Option Call) → IsUnanswered p q → IsUnanswered p (hear_body q id bytes ended call)
  body-none q id bytes ended None none = none
  body-none q id bytes ended (Some call) none = decide-all-none q id call.named (asks_of call.body bytes ended) (Some (body_after call.body bytes)) none

  request-none : (q : Played) (id : ℕ) (fields : List Field) (ended : Bool) (m : Result Method MetaFault) → IsUnanswered p q → IsUnanswered p (hear_request q id fields ended m)
  request-none q id fields ended (Ok m) none = body-none q id [] ended (Some (new_call m fields)) none
  request-none q id fields ended (Err refused) none = decide-all-none q id nothing_named (map ask.Ends (option_to_list (over_of refused))) None none

  hear-none : (q : Played) (e : Event) → IsUnanswered p q → IsUnanswered p (hear q e)
  hear-none q (event.Opened id fields ended) none = request-none q id fields ended (method_in fields) none
  hear-none q (event.TooLarge id) none = decide-all-none q id nothing_named (ask.Ends over.ListTooLarge ∷ []) None none
  hear-none q (event.Body id bytes ended) none = body-none q id bytes ended (q.calls id) none
  hear-none q (event.Ended id) none = body-none q id [] true (q.calls id) none
  hear-none q (event.Reset id code) none = set-none q id None none
  hear-none q (event.Fault code rule) none = none

  hear-all-none : (q : Played) (events : List Event) → IsUnanswered p q → IsUnanswered p (fold hear q events)
  hear-all-none q [] none = none
  hear-all-none q (e ∷ events) none = hear-all-none (hear q e) events (hear-none q e none)

unanswered : (p : Played) → p.later ≡ [] → IsUnanswered p p
unanswered p none = record { used = refl; later = none; decided = ([], append-nil p.decided); given = λ id. refl; due = λ due. due; stops = λ stops. stops }

take-none : (p : Played) (frame : Frame) → let q = with_record (resumed p []) (In frame ∷ p.marked) in IsUnanswered q (take_frame (resumed p []) frame)
unfolding take_frame
take-none p frame =
    let q : Played = with_record (resumed p []) (In frame ∷ p.marked) in
    hear-all-none q q (events_of p.marked frame) (unanswered q refl)

-- Memory was wanting before anything of a frame was answered.
pub heeded-none : (plan : Planning) (frame : Frame) (p : Played) (passes : List TableView) (readings : Option (List ℤ)) → first_fault_of p.marked ≡ None → IsAnswered p → EachWasDue p.marked
    → ((id : ℕ) → given_text p.marked id ≡ spelling_on id p.used) → HeededInPart plan frame p passes passes readings readings
heeded-none plan frame p passes readings sound answered due given =
    let none = take-none p frame in
    let behind : Played = take_frame (resumed p []) frame in
    let F : List Item → Type 0 = λ items. IsFront items behind.decided in
    let S : List Answered → Type 0 = λ xs. (id : ℕ) → given_text behind.marked id ≡ spelling_on id xs in
    record {
      answers = [];
      behind = behind;
      takes = refl;
      used = none.used ∙ sym (append-nil p.used);
      asked = subst F (sym answered ∙ ap (λ xs. map item_of xs) (sym none.used)) none.decided;
      served = refl;
      timed = GoesOn-nil readings;
      in_time = All-nil IsInTime;
      given = subst S (sym none.used) (λ id. none.given id ∙ given id);
      was_due = none.due due;
      stops = none.stops sound;
    }

-- ---- memory was wanting before anything moved

pub nothing-served : (plan : Planning) (passes : List TableView) (now : Shown) → Serves plan passes passes now now ending.Memory
unfolding framing_of play spelling_on
nothing-served plan passes now = record {
  log = [];
  answers = [];
  played = play [] [];
  moved = sym (more-nil now.log);
  plays = refl;
  asked = ([], refl);
  used = refl;
  served = refl;
  timed = GoesOn-nil now.readings;
  in_time = All-nil IsInTime;
  own = refl;
  unfinished = inl refl;
  was_due = tt;
  in_order = due-in-order [] (λ id. spelling_on id []) tt (λ id. refl);
  places = tt;
  stops = tt;
  ends = tt;
  cause = refl;
}
