-- What a frame decides is answered, from its coming to the calls that are kept behind it.
use Rattle.std.proofs.Common.{◌≡◌, ℕ, ◌==◌, ℤ, Bool, true, false, List, [], ◌∷◌, ◌++◌, map, Option, None, Some, Result, Ok, Err, refl, sym, ap, subst, ◌∙◌, true≢false, append-nil, if◌then◌else◌}
use Rattle.std.specs.Prelude.{nat_eq, fold, option_map, option_to_list}
use Rattle.std.specs.Option.{option_or}
use Rattle.std.proofs.lemmas.List.Elements.{All-nil}
use Rattle.std.proofs.lemmas.Bool.{eqb-true, eqb-false, ne_eqb}
use Rattle.hpack_blocks.specs.declared.fields.Field.{Field}
use Rattle.grpc_meta.specs.declared.methods.Method.{Method}
use Rattle.grpc_meta.specs.declared.requests.MetaFault.{MetaFault}
use Rattle.h2_frames.specs.declared.fault.H2Fault.{H2Fault}
use Rattle.h2_frames.specs.declared.frame.Frame.{Frame}
use Rattle.links.proofs.ToldLemmas.{GoesOn-nil}
use Rattle.h2_record.specs.declared.event.Event.{Event}
use Rattle.h2_record.specs.declared.event.Event.TheVariants as event
use Rattle.h2_record.specs.Record.{Record, In, Whole}
use Rattle.h2_record.specs.Events.{events_of}
use Rattle.h2_record.specs.Faults.{first_fault_of, fault_by}
use Rattle.h2_record.specs.Texts.{given_text}
use Rattle.conn_deferral.specs.Deferred.{Dealing, Deals}
use Rattle.open_tables.specs.Tables.{TableView}
use Rattle.conn_requests.specs.declared.asks.Ask.{Ask}
use Rattle.conn_requests.specs.declared.asks.Ask.TheVariants as ask
use Rattle.conn_requests.specs.declared.asks.Over.{Over}
use Rattle.grpc_meta.specs.Request.{method_in}
use Rattle.conn_requests.specs.Names.{Named, nothing_named}
use Rattle.conn_requests.specs.Body.{Body, asks_of, body_after}
use Rattle.conn_requests.specs.Ends.{over_of}
use Rattle.conn_requests.specs.Held.{Held as CallHeld, held_by, new_held}
use Rattle.conn_requests.specs.Decided.{Answered, Played, Call, item_of, has_answer, with_record, set_call, item_for, decide_all, refuse, hear_body, hear_request, hear, take_frame}
use Rattle.conn_requests.specs.Spelled.{spelling_on}
use Rattle.conn_requests.proofs.EndedLemmas.{decide_all-ended}
use Rattle.conn_requests.proofs.PlayedLemmas.{play-played}
use Rattle.conn_service.specs.Served.{Planning}
use Rattle.conn_service.specs.Serves.{IsInTime}
use Rattle.conn_service.specs.Going.{Kept, kept_of, resumed}
use Rattle.conn_service.specs.Steps.{Heeded, HeededInPart}
use Rattle.conn_calls.specs.declared.asked.Asked.TheVariants as asked
use Rattle.conn_calls.specs.Giving.{marked_by}
use Rattle.conn_calls.specs.Dealing.{IsDealt, MarksOn}
use Rattle.conn_calls.proofs.DealingLemmas.{left-same}
use Rattle.conn_calls.specs.Heard.{IsAt}
use Rattle.conn_calls.specs.Answering.{AsksOne, Start, Answering, rest, over, bodies, bodies_on, requests, refuses, IsFresh, KeepsAll, KeepsOthers, Hearing}
use Rattle.conn_calls.proofs.AskingLemmas.{Unanswered, decide-unanswered, body-unanswered, hear_all-unanswered, in-part, answering-over, lost-in-part}
use Rattle.conn_calls.proofs.FreshLemmas.{Requests, IsRequest, EachRequest, requests-in, nothing-before}

-- ---- the calls that are kept

abbrev pub kept_with : (begun : Bool) → Option Call → Option Kept
kept_with begun call = option_map (λ c. record { call = c; begun = begun }) call

pub put-kept : (b : Bool) (kept before mine old : Option Kept) → kept ≡ (if b then mine else before) → before ≡ (if b then None else old) → kept ≡ (if b then mine else old)
put-kept true kept before mine old first second = first
put-kept false kept before mine old first second = first ∙ second

-- nothing is taken out where nothing was
taken-none : (other : ℕ) (b : Bool) (kept before : Option Kept) → (b ≡ true → None ≡ before) → kept ≡ (if b then None else before) → kept ≡ before
taken-none other true kept before none taken = taken ∙ none refl
taken-none other false kept before none taken = taken

unlike : (id other : ℕ) → (id == other) ≡ false → (other == id) ≡ false
unlike id other is = ne_eqb other id (λ same. eqb-false id other is (sym same))

module _ (plan : Planning) (s : Start) (id : ℕ) (after : List TableView) (readings : Option (List ℤ)) (conn : Dealing) (begun : Bool) where
  kept-by : (other : ℕ) (b : Bool) (call : Option Call) (used : List Answered) (calls : ℕ → Option Call) (kept : Option Kept)
      → has_answer used id ≡ begun → calls ≡ s.played.calls
      → ((o : ℕ) → (o == id) ≡ false → has_answer used o ≡ has_answer s.played.used o)
      → (b ≡ true → id ≡ other) → (b ≡ false → (other == id) ≡ false)
      → kept ≡ (if b then kept_with begun call else kept_of s.played.used other (s.played.calls other)) → kept ≡ kept_of used other (if b then call else calls other)
  kept-by other true call used calls kept begun_is same others at off is =
      is ∙ ap (λ x. kept_with x call) (sym begun_is ∙ ap (has_answer used) (at refl))
  kept-by other false call used calls kept begun_is same others at off is =
      is ∙ ap (λ x. kept_with x (s.played.calls other)) (sym (others other (off refl))) ∙ ap (λ (f : ℕ → Option Call). kept_of used other (f other)) (sym same)

  -- the call goes on so, or is over
  pub heeded : (call : Option Call) (kept : ℕ → Option Kept) → Answering plan s id after readings conn begun (λ q. set_call q id call)
      → ((other : ℕ) → kept other ≡ (if nat_eq id other then kept_with begun call else kept_of s.played.used other (s.played.calls other)))
      → Heeded plan s.frame s.played s.passes after conn kept s.readings readings
  heeded call kept w keeps = record {
    answers = w.deciding.answers;
    behind = set_call w.deciding.behind id call;
    takes = w.deciding.takes;
    used = w.deciding.used;
    deals = w.stands.deals;
    left = w.left;
    calls = λ other. kept-by other (id == other) call w.deciding.behind.used w.deciding.behind.calls (kept other) w.begun_is w.deciding.calls w.deciding.others (eqb-true id other) (unlike id other) (keeps other);
    sound = w.deciding.sound;
    answered = w.deciding.answered;
    served = w.deciding.served;
    timed = w.deciding.timed;
    in_time = w.deciding.in_time;
    was_open = w.stands.was_open;
    was_due = w.deciding.was_due;
  }

  pub heeded-put : (named : Named) (body : Body) (before kept : ℕ → Option Kept) → Answering plan s id after readings conn begun (rest id named (Some body) []) → KeepsOthers before s id
      → ((other : ℕ) → kept other ≡ (if nat_eq id other then Some (record { call = record { body = body; named = named }; begun = begun }) else before other))
      → Heeded plan s.frame s.played s.passes after conn kept s.readings readings
  heeded-put named body before kept w others puts =
      heeded (Some (record { body = body; named = named })) kept w (λ other. put-kept (nat_eq id other) (kept other) (before other) _ _ (puts other) (others other))

  pub heeded-over : (kept : ℕ → Option Kept) → Answering plan s id after readings conn begun (over id) → KeepsOthers kept s id → Heeded plan s.frame s.played s.passes after conn kept s.readings readings
  heeded-over kept w others = heeded None kept w others

  pub not-kept : (named : Named) (body : Option Body) → Answering plan s id after readings conn begun (rest id named body []) → HeededInPart plan s.frame s.played s.passes after s.readings readings
  not-kept named body w = in-part plan s id after readings (rest id named body []) w.deciding (λ q none. decide-unanswered q id named [] body none)

  pub answering-by : (decides leaves : Played → Played) → Answering plan s id after readings conn begun decides → ((q : Played) → q.calls ≡ s.played.calls → decides q ≡ leaves q) → Answering plan s id after readings conn begun leaves
  answering-by decides leaves w same = record {
    deciding = record {
      answers = w.deciding.answers;
      behind = w.deciding.behind;
      takes = λ later. w.deciding.takes later ∙ same (resumed w.deciding.behind later) w.deciding.calls;
      used = w.deciding.used;
      calls = w.deciding.calls;
      others = w.deciding.others;
      answered = w.deciding.answered;
      given = w.deciding.given;
      served = w.deciding.served;
      timed = w.deciding.timed;
      in_time = w.deciding.in_time;
      sound = w.deciding.sound;
      was_due = w.deciding.was_due;
    };
    stands = w.stands;
    left = w.left;
    begun_is = w.begun_is;
  }

  -- ---- the mark of a whole request

  pub answering-marked : (marked : Dealing) (decides : Played → Played) (named : Named) (asks : List Ask) (body : Option Body) → Answering plan s id after readings conn begun decides
      → ((q : Played) → decides q ≡ decide_all q id named asks body) → MarksOn conn marked asks → Answering plan s id after readings marked begun (rest id named body asks)
  answering-marked marked decides named [] body w same marks = record {
    deciding = record {
      answers = w.deciding.answers;
      behind = w.deciding.behind;
      takes = λ later. w.deciding.takes later ∙ same (resumed w.deciding.behind later);
      used = w.deciding.used;
      calls = w.deciding.calls;
      others = w.deciding.others;
      answered = w.deciding.answered;
      given = w.deciding.given;
      served = w.deciding.served;
      timed = w.deciding.timed;
      in_time = w.deciding.in_time;
      sound = w.deciding.sound;
      was_due = w.deciding.was_due;
    };
    stands = marks.dealt w.deciding.behind.marked w.stands;
    left = left-same conn.left marked.left w.deciding.behind.used marks.left w.left;
    begun_is = w.begun_is;
  }
  answering-marked marked decides named (wanted ∷ asks) body w same marks = record {
    deciding = record {
      answers = w.deciding.answers;
      behind = with_record w.deciding.behind (Whole ∷ w.deciding.behind.marked);
      takes = λ later. w.deciding.takes later ∙ same (resumed w.deciding.behind later);
      used = w.deciding.used;
      calls = w.deciding.calls;
      others = w.deciding.others;
      answered = w.deciding.answered;
      given = w.deciding.given;
      served = w.deciding.served;
      timed = w.deciding.timed;
      in_time = w.deciding.in_time;
      sound = w.deciding.sound;
      was_due = w.deciding.was_due;
    };
    stands = marks.dealt w.deciding.behind.marked w.stands;
    left = left-same conn.left marked.left w.deciding.behind.used marks.left w.left;
    begun_is = w.begun_is;
  }

  -- ---- bytes of a body

  body-same : (ended : Bool) (q : Played) (named : Named) (body next : Body) (bytes : List ℕ) → (ended ≡ false → next ≡ body_after body bytes)
      → decide_all q id named (asks_of body bytes ended) (Some (body_after body bytes)) ≡ decide_all q id named (asks_of body bytes ended) (Some next)
  body-same true q named body next bytes goes = decide_all-ended q id named body bytes (Some (body_after body bytes)) (Some next)
  body-same false q named body next bytes goes = ap (λ b. decide_all q id named (asks_of body bytes false) (Some b)) (sym (goes refl))

  pub body-asked : (marked : Dealing) (named : Named) (body next : Body) (bytes : List ℕ) (ended : Bool) (asks : List Ask)
      → Answering plan s id after readings conn begun (bodies id bytes ended (record { body = body; named = named }))
      → asks ≡ asks_of body bytes ended → (ended ≡ false → next ≡ body_after body bytes) → MarksOn conn marked asks
      → Answering plan s id after readings marked begun (rest id named (Some next) asks)
  body-asked marked named body next bytes ended asks w asks_are next_is marks =
      answering-marked marked (bodies id bytes ended (record { body = body; named = named })) named asks (Some next) w
      (λ q. body-same ended q named body next bytes next_is ∙ ap (λ l. decide_all q id named l (Some next)) (sym asks_are)) marks

  pub body-lost : (named : Named) (body : Body) (bytes : List ℕ) (ended : Bool) → Answering plan s id after readings conn begun (bodies id bytes ended (record { body = body; named = named }))
      → HeededInPart plan s.frame s.played s.passes after s.readings readings
  body-lost named body bytes ended w =
      in-part plan s id after readings (bodies id bytes ended (record { body = body; named = named })) w.deciding (λ q none. body-unanswered q id bytes ended (Some (record { body = body; named = named })) none)

  -- ---- requests

  opened : (fields : List Field) (m : Result Method MetaFault) (call : CallHeld) (ended : Bool) (q : Played) → held_by fields m ≡ Ok call
      → hear_request q id fields ended m ≡ hear_body q id [] ended (Some (record { body = call.body; named = nothing_named }))
  opened fields (Ok m) call ended q is =
      let same : new_held m fields ≡ call = cc in
      ap (λ (h : CallHeld). hear_body q id [] ended (Some (record { body = h.body; named = nothing_named }))) same
  opened fields (Err refused) call ended q is = absurd cc

  pub request-opened : (fields : List Field) (ended : Bool) (call : CallHeld) (named : Named) → held_by fields (method_in fields) ≡ Ok call → named ≡ nothing_named
      → Answering plan s id after readings conn begun (requests id fields ended) → Answering plan s id after readings conn begun (bodies id [] ended (record { body = call.body; named = named }))
  request-opened fields ended call named is none w =
      answering-by (requests id fields ended) (bodies id [] ended (record { body = call.body; named = named })) w
      (λ q calls. opened fields (method_in fields) call ended q is ∙ ap (λ n. hear_body q id [] ended (Some (record { body = call.body; named = n }))) (sym none))

  refused : (fields : List Field) (m : Result Method MetaFault) (fault : MetaFault) (ended : Bool) (q : Played) → held_by fields m ≡ Err fault
      → hear_request q id fields ended m ≡ refuse q id (map ask.Ends (option_to_list (over_of fault)))
  refused fields (Ok m) fault ended q is = absurd cc
  refused fields (Err f) fault ended q is =
      let same : f ≡ fault = cc in
      ap (λ x. refuse q id (map ask.Ends (option_to_list (over_of x)))) same

  pub request-refused : (fields : List Field) (ended : Bool) (fault : MetaFault) (found : Option Over) → held_by fields (method_in fields) ≡ Err fault → over_of fault ≡ found
      → Answering plan s id after readings conn begun (requests id fields ended) → Answering plan s id after readings conn begun (refuses id (map ask.Ends (option_to_list found)))
  request-refused fields ended fault found is over_is w =
      answering-by (requests id fields ended) (refuses id (map ask.Ends (option_to_list found))) w
      (λ q calls. refused fields (method_in fields) fault ended q is ∙ ap (λ x. refuse q id (map ask.Ends (option_to_list x))) over_is)

pub opened-begun : (fields : List Field) (m : Result Method MetaFault) (call : CallHeld) → held_by fields m ≡ Ok call → call.begun ≡ false
opened-begun fields (Ok m) call is = let same : new_held m fields ≡ call = cc in ap (λ (h : CallHeld). h.begun) (sym same)
opened-begun fields (Err refused) call is = absurd cc

-- a call goes on on the stream, or none does
pub kept-some : (kept : Kept) (used : List Answered) (id : ℕ) (call : Option Call) → Some kept ≡ kept_of used id call → (call ≡ Some kept.call) × (kept.begun ≡ has_answer used id)
kept-some kept used id None is = absurd cc
kept-some kept used id (Some c) is =
    let same : kept ≡ record { call = c; begun = has_answer used id } = cc in
    (ap (λ k. Some k.call) (sym same), ap (λ k. k.begun) same)

pub kept-none : (used : List Answered) (id : ℕ) (call : Option Call) → None ≡ kept_of used id call → call ≡ None
kept-none used id None is = refl
kept-none used id (Some c) is = absurd cc

module _ (plan : Planning) (s : Start) (id : ℕ) (after : List TableView) (readings : Option (List ℤ)) (conn : Dealing) where
  pub body-goes : (kept : Kept) (bytes : List ℕ) (ended : Bool) → Some kept ≡ kept_of s.played.used id (s.played.calls id)
      → Answering plan s id after readings conn (has_answer s.played.used id) (bodies_on id bytes ended)
      → Answering plan s id after readings conn kept.begun (bodies id bytes ended kept.call)
  body-goes kept bytes ended is w =
      let both : (s.played.calls id ≡ Some kept.call) × (kept.begun ≡ has_answer s.played.used id) = kept-some kept s.played.used id (s.played.calls id) is in
      subst (λ b. Answering plan s id after readings conn b (bodies id bytes ended kept.call)) (sym both.1)
      (answering-by plan s id after readings conn (has_answer s.played.used id) (bodies_on id bytes ended) (bodies id bytes ended kept.call) w
      (λ q calls. ap (λ (f : ℕ → Option Call). hear_body q id bytes ended (f id)) calls ∙ ap (λ c. hear_body q id bytes ended c) both.0))

  same-kept : (other : ℕ) (b : Bool) (used : List Answered) (calls : ℕ → Option Call) (kept : Option Kept)
      → has_answer used id ≡ has_answer s.played.used id → calls ≡ s.played.calls
      → ((o : ℕ) → (o == id) ≡ false → has_answer used o ≡ has_answer s.played.used o)
      → (b ≡ true → id ≡ other) → (b ≡ false → (other == id) ≡ false)
      → kept ≡ kept_of s.played.used other (s.played.calls other) → kept ≡ kept_of used other (calls other)
  same-kept other true used calls kept begun_is same others at off is =
      is ∙ ap (λ x. kept_with x (s.played.calls other)) (ap (has_answer s.played.used) (sym (at refl)) ∙ sym begun_is ∙ ap (has_answer used) (at refl)) ∙ ap (λ (f : ℕ → Option Call). kept_of used other (f other)) (sym same)
  same-kept other false used calls kept begun_is same others at off is =
      is ∙ ap (λ x. kept_with x (s.played.calls other)) (sym (others other (off refl))) ∙ ap (λ (f : ℕ → Option Call). kept_of used other (f other)) (sym same)

  -- nothing is decided
  pub heeded-same : (kept : ℕ → Option Kept) → Answering plan s id after readings conn (has_answer s.played.used id) (λ q. q) → KeepsAll kept s
      → Heeded plan s.frame s.played s.passes after conn kept s.readings readings
  heeded-same kept w keeps = record {
    answers = w.deciding.answers;
    behind = w.deciding.behind;
    takes = w.deciding.takes;
    used = w.deciding.used;
    deals = w.stands.deals;
    left = w.left;
    calls = λ other. same-kept other (id == other) w.deciding.behind.used w.deciding.behind.calls (kept other) w.begun_is w.deciding.calls w.deciding.others (eqb-true id other) (unlike id other) (keeps other);
    sound = w.deciding.sound;
    answered = w.deciding.answered;
    served = w.deciding.served;
    timed = w.deciding.timed;
    in_time = w.deciding.in_time;
    was_open = w.stands.was_open;
    was_due = w.deciding.was_due;
  }

  pub nothing-asked : (kept before : ℕ → Option Kept) (bytes : List ℕ) (ended : Bool) → None ≡ before id → KeepsAll before s → ((other : ℕ) → kept other ≡ (if nat_eq id other then None else before other))
      → Answering plan s id after readings conn (has_answer s.played.used id) (bodies_on id bytes ended) → Heeded plan s.frame s.played s.passes after conn kept s.readings readings
  nothing-asked kept before bytes ended none keeps taken w =
      let gone : s.played.calls id ≡ None = kept-none s.played.used id (s.played.calls id) (none ∙ keeps id) in
      heeded-same kept
      (answering-by plan s id after readings conn (has_answer s.played.used id) (bodies_on id bytes ended) (λ q. q) w (λ q calls. ap (λ (f : ℕ → Option Call). hear_body q id bytes ended (f id)) calls ∙ ap (λ c. hear_body q id bytes ended c) gone))
      (λ other. taken-none other (nat_eq id other) (kept other) (before other) (λ is. none ∙ ap before (eqb-true id other is)) (taken other) ∙ keeps other)

  pub taken-others : (kept before : ℕ → Option Kept) → KeepsAll before s → ((other : ℕ) → kept other ≡ (if nat_eq id other then None else before other)) → KeepsOthers kept s id
  taken-others kept before keeps taken other = taken other ∙ ap (λ k. if nat_eq id other then None else k) (keeps other)

  -- ---- a request that is refused

  refuse-asked : (before mid : Dealing) (readings0 : Option (List ℤ)) (passes : List TableView) (named : Named) (reason : Over) → Answering plan s id passes readings0 before false (refuses id (ask.Ends reason ∷ [])) → MarksOn before mid (ask.Ends reason ∷ []) → named ≡ nothing_named
      → Answering plan s id passes readings0 mid false (rest id named None (ask.Ends reason ∷ []))
  refuse-asked before mid readings0 passes named reason w marks none =
      answering-marked plan s id passes readings0 before false mid (refuses id (ask.Ends reason ∷ [])) named (ask.Ends reason ∷ []) None w
      (λ q. ap (λ n. decide_all q id n (ask.Ends reason ∷ []) None) (sym none)) marks

  module _ (before mid : Dealing) (readings0 : Option (List ℤ)) (passes : List TableView) (named : Named) (reason : Over) (w : Answering plan s id passes readings0 before false (refuses id (ask.Ends reason ∷ []))) (marks : MarksOn before mid (ask.Ends reason ∷ [])) (none : named ≡ nothing_named) where
    pub refused-over : (kept : ℕ → Option Kept) → KeepsOthers kept s id → AsksOne asked.Over plan (item_for id named (ask.Ends reason)) false passes after readings0 readings mid conn → Heeded plan s.frame s.played s.passes after conn kept s.readings readings
    refused-over kept others one =
        heeded-over plan s id after readings conn true kept
        (answering-over plan s id passes after readings0 readings named (ask.Ends reason) [] None one.0 mid conn false (refuse-asked before mid readings0 passes named reason w marks none) one.1 one.2) others

    pub refused-goes : (kept : ℕ → Option Kept) → KeepsOthers kept s id → AsksOne asked.Goes plan (item_for id named (ask.Ends reason)) false passes after readings0 readings mid conn → Heeded plan s.frame s.played s.passes after conn kept s.readings readings
    refused-goes kept others one = absurd (true≢false one.1)

    pub refused-lost : AsksOne asked.Memory plan (item_for id named (ask.Ends reason)) false passes after readings0 readings mid conn → HeededInPart plan s.frame s.played s.passes after s.readings readings
    refused-lost one = lost-in-part plan s id passes after readings0 readings named (ask.Ends reason) [] None (refuse-asked before mid readings0 passes named reason w marks none).deciding one

-- ---- the mark of a request

pub marks-none : (conn : Dealing) (asks : List Ask) → asks ≡ [] → MarksOn conn conn asks
marks-none conn asks is = record { dealt = λ r d. subst (λ l. IsDealt conn (marked_by l r)) (sym is) d; left = λ id. refl }

pub marks-some : (old new : Dealing) (asks : List Ask) → ((asked : Ask) (others : List Ask) → MarksOn old new (asked ∷ others)) → (asks ≡ [] → ⊥) → MarksOn old new asks
marks-some old new [] marks some = absurd (some refl)
marks-some old new (asked ∷ others) marks some = marks asked others

-- ---- a frame comes

takes-first : (p : Played) (frame : Frame) (events : List Event) (later : List Answered) → events ≡ events_of p.marked frame → take_frame (resumed p later) frame ≡ fold hear (resumed (with_record p (In frame ∷ p.marked)) later) events
unfolding take_frame
takes-first p frame events later is = ap (fold hear (resumed (with_record p (In frame ∷ p.marked)) later)) (sym is)

given-now : (p : Played) (conn : Dealing) (kept : ℕ → Option Kept) → IsAt p conn kept → (id : ℕ) → given_text p.marked id ≡ spelling_on id p.used
given-now p conn kept a =
    let P : Played → Type 0 = λ q. map item_of q.used ≡ q.decided → (id : ℕ) → given_text q.marked id ≡ spelling_on id q.used in
    subst P (a.plays []) (play-played (p.used ++ []) a.frames).spelled a.answered

module _ (plan : Planning) (s : Start) (old conn : Dealing) (before : ℕ → Option Kept) (a : IsAt s.played old before) where
  -- nothing is answered yet
  pub first-answering : (events : List Event) → events ≡ events_of s.played.marked s.frame → Deals conn (In s.frame ∷ s.played.marked) → ((id : ℕ) → conn.left id ≡ old.left id) → first_fault_of (In s.frame ∷ s.played.marked) ≡ None
      → (id : ℕ) → Answering plan s id s.passes s.readings conn (has_answer s.played.used id) (λ q. fold hear q events)
  first-answering events is deals same sound id = record {
    deciding = record {
      answers = [];
      behind = with_record s.played (In s.frame ∷ s.played.marked);
      takes = λ later. takes-first s.played s.frame events later is;
      used = sym (append-nil s.played.used);
      calls = refl;
      others = λ other off. refl;
      answered = a.answered;
      given = given-now s.played old before a;
      served = refl;
      timed = GoesOn-nil s.readings;
      in_time = All-nil IsInTime;
      sound = sound;
      was_due = a.was_due;
    };
    stands = record { deals = deals; sound = sound; was_open = a.was_open; was_due = a.was_due };
    left = left-same old.left conn.left s.played.used same a.left;
    begun_is = refl;
  }

  -- memory was wanting for the frame
  pub not-taken : HeededInPart plan s.frame s.played s.passes s.passes s.readings s.readings
  not-taken =
      let first : Played = resumed (with_record s.played (In s.frame ∷ s.played.marked)) [] in
      let u : Unanswered first (fold hear first (events_of s.played.marked s.frame)) = hear_all-unanswered first (events_of s.played.marked s.frame) refl in
      record {
        answers = [];
        behind = fold hear first (events_of s.played.marked s.frame);
        takes = takes-first s.played s.frame (events_of s.played.marked s.frame) [] refl;
        used = u.used ∙ sym (append-nil s.played.used);
        asked = (u.asked.0, ap (λ l. l ++ u.asked.0) (ap (map item_of) u.used ∙ a.answered) ∙ u.asked.1);
        served = refl;
        timed = GoesOn-nil s.readings;
        in_time = All-nil IsInTime;
        given = λ id. u.given id ∙ given-now s.played old before a id ∙ ap (spelling_on id) (sym u.used);
        was_due = u.due a.was_due;
        stops = u.stops a.sound;
      }

  fresh-by : (told : Event) → ((id : ℕ) → IsRequest id told → has_answer s.played.used id ≡ false) → IsFresh s.played.used told
  fresh-by (event.Opened id fields ended) each = each id refl
  fresh-by (event.TooLarge id) each = each id refl
  fresh-by (event.Body id bytes ended) each = tt
  fresh-by (event.Ended id) each = tt
  fresh-by (event.Reset id code) each = tt
  fresh-by (event.Fault code rule) each = tt

  -- a frame tells this
  pub first-hearing : (told : Event) → told ∷ [] ≡ events_of s.played.marked s.frame → Deals conn (In s.frame ∷ s.played.marked) → ((id : ℕ) → conn.left id ≡ old.left id) → first_fault_of (In s.frame ∷ s.played.marked) ≡ None
      → Hearing plan s s.passes s.readings conn before told
  first-hearing told is deals same sound =
      let each : EachRequest (Requests s.played.marked s.frame) (told ∷ []) =
      subst (EachRequest (Requests s.played.marked s.frame)) (sym is) (requests-in s.played.marked s.frame)
      in
      record {
        answering = first-answering (told ∷ []) is deals same sound;
        kept_are = a.calls;
        fresh = fresh-by told (λ id request. nothing-before (s.played.used ++ []) a.frames (resumed s.played []) (a.plays []) a.answered s.frame id (each.0 id request));
      }

earlier-none : (first second found : Option H2Fault) → option_or first second ≡ found → first ≡ None → second ≡ found
earlier-none None second found is none = is
earlier-none (Some fault) second found is none = absurd cc

-- the fault that is met is that of the frame
pub fault-now : (r : Record) (frame : Frame) (fault : H2Fault) → first_fault_of r ≡ None → Some fault ≡ first_fault_of (In frame ∷ r) → fault_by r frame ≡ Some fault
fault-now r frame fault sound met = earlier-none (first_fault_of r) (fault_by r frame) (Some fault) (sym met) sound
