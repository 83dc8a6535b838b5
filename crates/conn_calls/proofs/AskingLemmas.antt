-- One answer more, and what is left where memory is wanting.
use Rattle.std.proofs.Common.{◌≡◌, inl, inr, ℕ, ◌==◌, ℤ, ◌≤ℤ◌, pos, Bool, true, false, ◌||◌, List, [], ◌∷◌, ◌++◌, map, Option, None, Some, Result, Ok, Err, refl, sym, ap, subst, ◌∙◌, append-nil, append_assoc, ◌<◌, ◌≤◌, ◌+◌, zero, suc, arith, length, drop, get_or, drop-cons, add-one, if◌then◌else◌}
use Rattle.std.specs.Prelude.{IfOk, OnErr, option_to_list, fold}
use Rattle.std.proofs.lemmas.List.{map-append}
use Rattle.std.proofs.lemmas.List.Elements.{All-push}
use Rattle.std.proofs.lemmas.List.Folds.{list_any-append}
use Rattle.std.proofs.lemmas.Bool.{eq-eqb}
use Rattle.hpack_blocks.specs.declared.fields.Field.{Field}
use Rattle.grpc_meta.specs.declared.methods.Method.{Method}
use Rattle.grpc_meta.specs.declared.requests.MetaFault.{MetaFault}
use Rattle.links.specs.Told.{GoesOn}
use Rattle.links.specs.declared.clocks.TheConstants.{LATEST_READING}
use Rattle.links.proofs.ToldLemmas.{GoesOn-then}
use Rattle.outside.specs.declared.wants.Memory.{Memory}
use Rattle.h2_record.specs.declared.event.Event.{Event}
use Rattle.h2_record.specs.declared.event.Event.TheVariants as event
use Rattle.h2_record.specs.Record.{AnswerPart, Record, Given}
use Rattle.h2_record.specs.Faults.{first_fault_of}
use Rattle.h2_record.specs.Texts.{given_text}
use Rattle.h2_record.specs.Written.{EachWasDue, IsFront}
use Rattle.conn_deferral.specs.Deferred.{Dealing}
use Rattle.table_spec.specs.declared.spec.TableSpec.{TableSpec}
use Rattle.open_tables.specs.Tables.{TableView}
use Rattle.open_tables.specs.Plans.{Plan, Fixed, At, Gets, Loses}
use Rattle.conn_requests.specs.declared.asks.Ask.{Ask}
use Rattle.conn_requests.specs.declared.asks.Ask.TheVariants as ask
use Rattle.conn_requests.specs.declared.asks.Over.TheVariants as over_by
use Rattle.conn_requests.specs.declared.answers.Answer.{Answer}
use Rattle.conn_requests.specs.declared.answers.Answer.TheVariants as answer
use Rattle.grpc_meta.specs.Request.{method_in}
use Rattle.conn_requests.specs.Names.{Named, nothing_named, named_after}
use Rattle.conn_requests.specs.Body.{Body, asks_of, body_after}
use Rattle.conn_requests.specs.Ends.{over_of, lost_answer}
use Rattle.conn_requests.specs.Given.{with_parts, with_answer, parts_of, is_lost}
use Rattle.conn_requests.specs.Decided.{Item, Answered, Played, Call, new_call, item_of, has_answer, set_call, answer_next, is_next_lost, ends_call, item_for, decide, with_whole, decide_all, hear_body, hear_request, hear, take_frame}
use Rattle.conn_requests.specs.Spelled.{spelling_on}
use Rattle.conn_requests.proofs.SpelledLemmas.{given_text-with_answer}
use Rattle.call_plans.specs.Laws.{Answers, ends}
use Rattle.call_plans.specs.Plans.{plan as plan_in}
use Rattle.call_plans.proofs.PlanLemmas.{plan-sound}
use Rattle.call_read.specs.declared.bodies.RowsAnswer.{RowsAnswer}
use Rattle.call_read.specs.Items.{told}
use Rattle.conn_service.specs.Served.{Planning, Served, AnswersOne}
use Rattle.conn_service.specs.Serves.{reading_of, IsInTime}
use Rattle.conn_service.specs.Ends.{StopsAtFault}
use Rattle.conn_service.specs.Going.{resumed}
use Rattle.conn_service.specs.Steps.{HeededInPart}
use Rattle.conn_service.proofs.GoingLemmas.{sound-stops}
use Rattle.conn_calls.specs.declared.asked.Asked.{Asked}
use Rattle.conn_calls.specs.declared.asked.Asked.TheVariants as asked
use Rattle.conn_calls.specs.Dealing.{IsDealt, Decides}
use Rattle.conn_calls.proofs.DealingLemmas.{fault-parts, due-parts, left-more}
use Rattle.conn_calls.specs.Answering.{AnswersBy, answered_by, is_last, OneAnswer, AsksOne, GivesOne, told_by, Start, Deciding, Answering, rest, over}

-- ---- one answer

-- an answer that is lost before its table was asked
pub untouched : {A : Type 0} (passes : List TableView) (plan : Plan A) (now : ℤ) → Loses passes plan now passes
untouched passes (Fixed due) now = refl
untouched passes (At place turn) now = inl refl

-- what is told by what a call gave
pub told-so : (rows : Result RowsAnswer Memory) (P : Answer → Type 0) → IfOk rows (λ x. P (told x)) → IfOk (told_by rows) P
told-so (Ok rows) P so = so
told-so (Err memory) P so = so

pub told-lost : (rows : Result RowsAnswer Memory) (P : Type 0) → OnErr rows P → OnErr (told_by rows) P
told-lost (Ok rows) P lost = lost
told-lost (Err memory) P lost = lost

-- where the call goes on, its answer doesn't end it
pub goes-named : (became : Asked) (rows : Result RowsAnswer Memory) (P : Type 0) (id : ℕ) (wanted : Ask) (begun : Bool) (old new : Dealing) → GivesOne became (told_by rows) id wanted begun old new
    → IfOk rows (λ x. ends (told x) ≡ false → P) → became ≡ asked.Goes → P
goes-named asked.Goes (Ok rows) P id wanted begun old new gives named goes = named gives.0
goes-named asked.Goes (Err memory) P id wanted begun old new gives named goes = absurd gives
goes-named asked.Over rows P id wanted begun old new gives named goes = absurd cc
goes-named asked.Memory rows P id wanted begun old new gives named goes = absurd cc

pub or-false : (b : Bool) → (b || false) ≡ b
or-false true = refl
or-false false = refl

pub or-true : (b : Bool) → (b || true) ≡ true
or-true true = refl
or-true false = refl

got-ends : (plan : Plan Answer) (ended : Bool) (passes : List TableView) (now : ℤ) (given : Answer) (after : List TableView) → Answers (λ a. ends a ≡ ended) plan → Gets passes plan now given after → ends given ≡ ended
got-ends (Fixed due) ended passes now given after all gets = ap ends gets.0 ∙ all
got-ends (At place turn) ended passes now given after all gets = ap ends gets.is ∙ all gets.point gets.view.number now

last-by-end : (wanted : Ask) (given : Answer) → ends given ≡ ends_call wanted → is_last wanted given ≡ ends given
last-by-end wanted (answer.Goes message) same = or-false (ends_call wanted) ∙ sym same
last-by-end wanted (answer.Ends messages status) same = ap (λ b. b || is_lost (answer.Ends messages status)) (sym same)
last-by-end wanted (answer.Http status) same = ap (λ b. b || false) (sym same)

-- the answer ends the call exactly where the rule says that the call is over
pub ends-as-asked : (specs : List TableSpec) (named : Named) (wanted : Ask) (passes : List TableView) (now : ℤ) (given : Answer) (after : List TableView) → AnswersBy (plan_in specs named wanted) passes now given after → is_last wanted given ≡ ends given
ends-as-asked specs named wanted passes now given after (inl gets) =
    last-by-end wanted given (got-ends (plan_in specs named wanted) (ends_call wanted) passes now given after (plan-sound specs named wanted).answers gets)
ends-as-asked specs named wanted passes now given after (inr lost) =
    subst (λ a. is_last wanted a ≡ ends a) (sym lost.0) (or-true (ends_call wanted))

pub one-answer : (specs : List TableSpec) (item : Item) (begun : Bool) (passes after : List TableView) (readings0 readings : Option (List ℤ)) (old new : Dealing) (now : ℤ) (result : Result Answer Memory) (became : Asked)
    → IfOk result (λ a. AnswersBy (plan_in specs item.named item.asked) passes now a after)
    → OnErr result (Loses passes (plan_in specs item.named item.asked) now after)
    → GoesOn readings0 (now ∷ []) readings → pos 0 ≤ℤ now → now ≤ℤ LATEST_READING → GivesOne became result item.stream item.asked begun old new
    → AsksOne became (plan_in specs) item begun passes after readings0 readings old new
one-answer specs item begun passes after readings0 readings old new now (Ok given) asked.Goes answers loses timed least greatest gives = (
  record { answer = given; now = now; answers = answers; timed = timed; in_time = (least, greatest) },
  ends-as-asked specs item.named item.asked passes now given after answers ∙ gives.0,
  gives.1,
)
one-answer specs item begun passes after readings0 readings old new now (Ok given) asked.Over answers loses timed least greatest gives = (
  record { answer = given; now = now; answers = answers; timed = timed; in_time = (least, greatest) },
  ends-as-asked specs item.named item.asked passes now given after answers ∙ gives.0,
  gives.1,
)
one-answer specs item begun passes after readings0 readings old new now (Ok given) asked.Memory answers loses timed least greatest gives =
    record { answer = given; now = now; answers = answers; timed = timed; in_time = (least, greatest) }
one-answer specs item begun passes after readings0 readings old new now (Err memory) asked.Goes answers loses timed least greatest gives = absurd gives
one-answer specs item begun passes after readings0 readings old new now (Err memory) asked.Over answers loses timed least greatest gives = absurd gives
one-answer specs item begun passes after readings0 readings old new now (Err memory) asked.Memory answers loses timed least greatest gives =
    record { answer = lost_answer; now = now; answers = inr (refl, loses); timed = timed; in_time = (least, greatest) }

-- ---- one answer more

pub served-more : (plan : Planning) (passes between after : List TableView) (xs : List Answered) (x : Answered) → Served plan passes xs between → AnswersOne plan between x after → Served plan passes (xs ++ x ∷ []) after
served-more plan passes between after [] x served one = (after, subst (λ p. AnswersOne plan p x after) served one, refl)
served-more plan passes between after (y ∷ xs) x (mid, first, others) one = (mid, first, served-more plan mid between after xs x others one)

pub has-more : (xs : List Answered) (x : Answered) (other : ℕ) → has_answer (xs ++ x ∷ []) other ≡ (has_answer xs other || (other == x.item.stream))
has-more xs x other =
    list_any-append (λ (y : Answered). other == y.item.stream) xs (x ∷ []) ∙ ap (λ b. has_answer xs other || b) (or-false (other == x.item.stream))

module _ (plan : Planning) (s : Start) (id : ℕ) (passes after : List TableView) (readings0 readings : Option (List ℤ)) (named : Named) (wanted : Ask) (asks : List Ask) (body : Option Body) where
  -- what is left to be decided behind an answer
  abbrev pub branch : Answer → Played → Played
  branch given q = if is_last wanted given then set_call q id None else decide q id (named_after named wanted) asks body

  module _ (a : OneAnswer plan (item_for id named wanted) passes after readings0 readings) (leaves : Played → Played) where
    abbrev pub x : Answered
    x = answered_by (item_for id named wanted) a.answer a.now

    abbrev pub deciding-more : Deciding plan s id passes readings0 (rest id named body (wanted ∷ asks)) → ((q : Played) → branch a.answer q ≡ leaves q) → Deciding plan s id after readings leaves
    deciding-more d goes = record {
      answers = d.answers ++ x ∷ [];
      behind = record {
        marked = with_answer d.behind.marked id (has_answer d.behind.used id) a.answer;
        calls = d.behind.calls;
        decided = d.behind.decided ++ item_for id named wanted ∷ [];
        used = d.behind.used ++ x ∷ [];
        later = [];
      };
      takes = λ later.
          ap (λ xs. take_frame (resumed s.played xs) s.frame) (append_assoc d.answers (x ∷ []) later)
          ∙ d.takes (x ∷ later)
          ∙ goes (record {
            marked = with_answer d.behind.marked id (has_answer d.behind.used id) a.answer;
            calls = d.behind.calls;
            decided = d.behind.decided ++ item_for id named wanted ∷ [];
            used = d.behind.used ++ x ∷ [];
            later = later;
          });
      used = ap (λ l. l ++ x ∷ []) d.used ∙ append_assoc s.played.used d.answers (x ∷ []);
      calls = d.calls;
      others = λ other unlike.
          has-more d.behind.used x other ∙ ap (λ b. has_answer d.behind.used other || b) unlike ∙ or-false (has_answer d.behind.used other) ∙ d.others other unlike;
      answered = map-append item_of d.behind.used (x ∷ []) ∙ ap (λ l. l ++ item_for id named wanted ∷ []) d.answered;
      given = given_text-with_answer d.behind.marked d.behind.used x d.given;
      served = served-more plan s.passes passes after d.answers x d.served a.answers;
      timed = subst (λ l. GoesOn s.readings l readings) (sym (map-append reading_of d.answers (x ∷ []))) (GoesOn-then s.readings readings0 readings (map reading_of d.answers) (a.now ∷ []) d.timed a.timed);
      in_time = All-push IsInTime d.answers x d.in_time a.in_time;
      sound = fault-parts d.behind.marked id (parts_of (has_answer d.behind.used id) a.answer) ∙ d.sound;
      was_due = due-parts d.behind.marked id (parts_of (has_answer d.behind.used id) a.answer) d.was_due;
    }

    answering-more : (old new : Dealing) (begun : Bool) → Answering plan s id passes readings0 old begun (rest id named body (wanted ∷ asks)) → ((q : Played) → branch a.answer q ≡ leaves q) → Decides old new id wanted (parts_of begun a.answer) → Answering plan s id after readings new true leaves
    answering-more old new begun w goes gives = record {
      deciding = deciding-more w.deciding goes;
      stands = subst (λ b. IsDealt new (with_parts w.deciding.behind.marked id (parts_of b a.answer))) (sym w.begun_is) (gives.dealt w.deciding.behind.marked w.stands);
      left = left-more old.left new.left w.deciding.behind.used x gives.left w.left;
      begun_is = has-more w.deciding.behind.used x id ∙ ap (λ b. has_answer w.deciding.behind.used id || b) (eq-eqb id id refl) ∙ or-true (has_answer w.deciding.behind.used id);
    }

  pub answering-goes : (a : OneAnswer plan (item_for id named wanted) passes after readings0 readings) (old new : Dealing) (begun : Bool) → Answering plan s id passes readings0 old begun (rest id named body (wanted ∷ asks)) → is_last wanted a.answer ≡ false → Decides old new id wanted (parts_of begun a.answer) → Answering plan s id after readings new true (rest id (named_after named wanted) body asks)
  answering-goes a old new begun w goes gives =
      answering-more a (rest id (named_after named wanted) body asks) old new begun w (λ q. ap (λ b. if b then set_call q id None else decide q id (named_after named wanted) asks body) goes) gives

  pub answering-over : (a : OneAnswer plan (item_for id named wanted) passes after readings0 readings) (old new : Dealing) (begun : Bool) → Answering plan s id passes readings0 old begun (rest id named body (wanted ∷ asks)) → is_last wanted a.answer ≡ true → Decides old new id wanted (parts_of begun a.answer) → Answering plan s id after readings new true (over id)
  answering-over a old new begun w ended gives =
      answering-more a (over id) old new begun w (λ q. ap (λ b. if b then set_call q id None else decide q id (named_after named wanted) asks body) ended) gives

-- ---- what is decided and not answered

pub record Unanswered (old new : Played) : Type 0 where
  pub used : new.used ≡ old.used
  pub later : new.later ≡ []
  pub asked : IsFront old.decided new.decided
  pub given : (id : ℕ) → given_text new.marked id ≡ given_text old.marked id
  pub due : EachWasDue old.marked → EachWasDue new.marked
  pub stops : StopsAtFault old.marked → StopsAtFault new.marked

same-unanswered : (q : Played) → q.later ≡ [] → Unanswered q q
same-unanswered q none = record { used = refl; later = none; asked = ([], append-nil q.decided); given = λ id. refl; due = λ d. d; stops = λ d. d }

set-unanswered : (old new : Played) (id : ℕ) (call : Option Call) → Unanswered old new → Unanswered old (set_call new id call)
set-unanswered old new id call u = record { used = u.used; later = u.later; asked = u.asked; given = u.given; due = u.due; stops = u.stops }

then-unanswered : (a b c : Played) → Unanswered a b → Unanswered b c → Unanswered a c
then-unanswered a b c u v = record {
  used = v.used ∙ u.used;
  later = v.later;
  asked = (u.asked.0 ++ v.asked.0, sym (append_assoc a.decided u.asked.0 v.asked.0) ∙ ap (λ l. l ++ v.asked.0) u.asked.1 ∙ v.asked.1);
  given = λ id. v.given id ∙ u.given id;
  due = λ d. v.due (u.due d);
  stops = λ d. v.stops (u.stops d);
}

next-unanswered : (q : Played) (item : Item) (l : List Answered) → l ≡ [] → Unanswered q (answer_next q item l)
next-unanswered q item [] none = record { used = refl; later = refl; asked = (item ∷ [], refl); given = λ id. refl; due = λ d. d; stops = λ d. d }
next-unanswered q item (x ∷ xs) none = absurd cc

pub decide-unanswered : (q : Played) (id : ℕ) (named : Named) (asks : List Ask) (body : Option Body) → q.later ≡ [] → Unanswered q (decide q id named asks body)
decide-unanswered q id named [] body none = set-unanswered q q id _ (same-unanswered q none)
decide-unanswered q id named (wanted ∷ asks) body none =
    let next : Played = answer_next q (item_for id named wanted) q.later in
    let u : Unanswered q next = next-unanswered q (item_for id named wanted) q.later none in
    elim (ends_call wanted || is_next_lost q.later) as (λ b. Unanswered q (if b then set_call next id None else decide next id (named_after named wanted) asks body)) [
      | true ↦ set-unanswered q next id None u
      | false ↦ then-unanswered q next _ u (decide-unanswered next id (named_after named wanted) asks body u.later)
    ]

whole-unanswered : (q : Played) (asks : List Ask) → q.later ≡ [] → Unanswered q (with_whole q asks)
whole-unanswered q [] none = same-unanswered q none
whole-unanswered q (wanted ∷ asks) none = record { used = refl; later = none; asked = ([], append-nil q.decided); given = λ id. refl; due = λ d. d; stops = λ d. d }

decide_all-unanswered : (q : Played) (id : ℕ) (named : Named) (asks : List Ask) (body : Option Body) → q.later ≡ [] → Unanswered q (decide_all q id named asks body)
decide_all-unanswered q id named asks body none =
    let u : Unanswered q (with_whole q asks) = whole-unanswered q asks none in
    then-unanswered q (with_whole q asks) _ u (decide-unanswered (with_whole q asks) id named asks body u.later)

pub body-unanswered : (q : Played) (id : ℕ) (bytes : List ℕ) (ended : Bool) (call : Option Call) → q.later ≡ [] → Unanswered q (hear_body q id bytes ended call)
body-unanswered q id bytes ended None none = same-unanswered q none
body-unanswered q id bytes ended (Some call) none = decide_all-unanswered q id call.named (asks_of call.body bytes ended) (Some (body_after call.body bytes)) none

request-unanswered : (q : Played) (id : ℕ) (fields : List Field) (ended : Bool) (m : Result Method MetaFault) → q.later ≡ [] → Unanswered q (hear_request q id fields ended m)
request-unanswered q id fields ended (Ok m) none = body-unanswered q id [] ended (Some (new_call m fields)) none
request-unanswered q id fields ended (Err refused) none = decide_all-unanswered q id nothing_named (map ask.Ends (option_to_list (over_of refused))) None none

pub hear-unanswered : (q : Played) (told : Event) → q.later ≡ [] → Unanswered q (hear q told)
hear-unanswered q (event.Opened id fields ended) none = request-unanswered q id fields ended (method_in fields) none
hear-unanswered q (event.TooLarge id) none = decide_all-unanswered q id nothing_named (ask.Ends over_by.ListTooLarge ∷ []) None none
hear-unanswered q (event.Body id bytes ended) none = body-unanswered q id bytes ended (q.calls id) none
hear-unanswered q (event.Ended id) none = body-unanswered q id [] true (q.calls id) none
hear-unanswered q (event.Reset id code) none = set-unanswered q q id None (same-unanswered q none)
hear-unanswered q (event.Fault code rule) none = same-unanswered q none

pub hear_all-unanswered : (q : Played) (events : List Event) → q.later ≡ [] → Unanswered q (fold hear q events)
hear_all-unanswered q [] none = same-unanswered q none
hear_all-unanswered q (told ∷ events) none =
    let u : Unanswered q (hear q told) = hear-unanswered q told none in
    then-unanswered q (hear q told) _ u (hear_all-unanswered (hear q told) events u.later)

-- ---- where memory was wanting

pub in-part : (plan : Planning) (s : Start) (id : ℕ) (after : List TableView) (readings : Option (List ℤ)) (decides : Played → Played) → Deciding plan s id after readings decides → ((q : Played) → q.later ≡ [] → Unanswered q (decides q)) → HeededInPart plan s.frame s.played s.passes after s.readings readings
in-part plan s id after readings decides d leaves =
    let u : Unanswered (resumed d.behind []) (decides (resumed d.behind [])) = leaves (resumed d.behind []) refl in
    record {
      answers = d.answers;
      behind = decides (resumed d.behind []);
      takes = ap (λ xs. take_frame (resumed s.played xs) s.frame) (sym (append-nil d.answers)) ∙ d.takes [];
      used = u.used ∙ d.used;
      asked = (u.asked.0, ap (λ l. l ++ u.asked.0) (ap (map item_of) u.used ∙ d.answered) ∙ u.asked.1);
      served = d.served;
      timed = d.timed;
      in_time = d.in_time;
      given = λ other. u.given other ∙ d.given other ∙ ap (spelling_on other) (sym u.used);
      was_due = u.due d.was_due;
      stops = u.stops (sound-stops d.behind.marked d.sound);
    }

-- it was wanting while the latest answer was given
pub lost-in-part : (plan : Planning) (s : Start) (id : ℕ) (passes after : List TableView) (readings0 readings : Option (List ℤ)) (named : Named) (wanted : Ask) (asks : List Ask) (body : Option Body) → Deciding plan s id passes readings0 (rest id named body (wanted ∷ asks)) → OneAnswer plan (item_for id named wanted) passes after readings0 readings → HeededInPart plan s.frame s.played s.passes after s.readings readings
lost-in-part plan s id passes after readings0 readings named wanted asks body d a =
    let behind : Played → Played = branch plan s id passes after readings0 readings named wanted asks body a.answer in
    in-part plan s id after readings behind (deciding-more plan s id passes after readings0 readings named wanted asks body a behind d (λ q. refl)) (λ q none.
    elim (is_last wanted a.answer) as (λ b. Unanswered q (if b then set_call q id None else decide q id (named_after named wanted) asks body)) [
      | true ↦ set-unanswered q q id None (same-unanswered q none)
      | false ↦ decide-unanswered q id (named_after named wanted) asks body none
    ])

-- ---- the next of several

drop-next : (asks : List Ask) (i : ℕ) (wanted : Ask) → i < length asks → wanted ≡ get_or asks i wanted → drop i asks ≡ wanted ∷ drop (i + 1) asks
drop-next asks i wanted within is =
    drop-cons asks i wanted within ∙ ap (λ y. y ∷ drop (suc i) asks) (sym is) ∙ ap (λ n. wanted ∷ drop n asks) (sym (add-one i))

module _ (plan : Planning) (s : Start) (id : ℕ) (passes after : List TableView) (readings0 readings : Option (List ℤ)) (named : Named) (wanted : Ask) (asks : List Ask) (i : ℕ) (body : Option Body) (old new : Dealing) (begun told : Bool) (within : i < length asks) (is : wanted ≡ get_or asks i wanted) (same : told ≡ begun) (w : Answering plan s id passes readings0 old begun (rest id named body (drop i asks))) where
  here : Answering plan s id passes readings0 old told (rest id named body (wanted ∷ drop (i + 1) asks))
  here =
      let w' : Answering plan s id passes readings0 old begun (rest id named body (wanted ∷ drop (i + 1) asks)) =
      subst (λ l. Answering plan s id passes readings0 old begun (rest id named body l)) (drop-next asks i wanted within is) w
      in
      subst (λ b. Answering plan s id passes readings0 old b (rest id named body (wanted ∷ drop (i + 1) asks))) (sym same) w'

  pub all-goes : (next : Bool) (names : Named) → next ≡ true → names ≡ named_after named wanted → AsksOne asked.Goes plan (item_for id named wanted) told passes after readings0 readings old new → Answering plan s id after readings new next (rest id names body (drop (i + 1) asks))
  all-goes next names next_is names_are one =
      let w' : Answering plan s id after readings new true (rest id (named_after named wanted) body (drop (i + 1) asks)) =
      answering-goes plan s id passes after readings0 readings named wanted (drop (i + 1) asks) body one.0 old new told here one.1 one.2
      in
      let v : Answering plan s id after readings new next (rest id (named_after named wanted) body (drop (i + 1) asks)) =
      subst (λ b. Answering plan s id after readings new b (rest id (named_after named wanted) body (drop (i + 1) asks))) (sym next_is) w'
      in
      subst (λ n. Answering plan s id after readings new next (rest id n body (drop (i + 1) asks))) (sym names_are) v

  pub all-over : AsksOne asked.Over plan (item_for id named wanted) told passes after readings0 readings old new → (next : Bool) × Answering plan s id after readings new next (over id)
  all-over one = (true, answering-over plan s id passes after readings0 readings named wanted (drop (i + 1) asks) body one.0 old new told here one.1 one.2)

  pub all-lost : AsksOne asked.Memory plan (item_for id named wanted) told passes after readings0 readings old new → HeededInPart plan s.frame s.played s.passes after s.readings readings
  all-lost one = lost-in-part plan s id passes after readings0 readings named wanted (drop (i + 1) asks) body here.deciding one

drop-nil : (i : ℕ) → drop {A = Ask} i [] ≡ []
drop-nil zero = refl
drop-nil (suc i) = refl

pub none-left : (asks : List Ask) (i : ℕ) → length asks ≤ i → drop i asks ≡ []
none-left [] i all = drop-nil i
none-left (x ∷ xs) zero all = absurd (omega (arith, all))
none-left (x ∷ xs) (suc i) all = none-left xs i (omega (arith, all))
