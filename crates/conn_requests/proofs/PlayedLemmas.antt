-- What every play of answers keeps.
use Rattle.std.proofs.Common.{◌≡◌, ℕ, ◌+◌, ◌≤◌, suc, Bool, true, false, ◌||◌, List, [], ◌∷◌, ◌++◌, length, map, fold, Option, Some, None, Result, Ok, Err, subst, refl, sym, ap, ◌∙◌, append-nil, append_assoc, length-append, arith, if◌then◌else◌}
use Rattle.std.specs.Prelude.{option_to_list}
use Rattle.hpack_blocks.specs.declared.fields.Field.{Field}
use Rattle.grpc_meta.specs.declared.methods.Method.{Method}
use Rattle.grpc_meta.specs.declared.requests.MetaFault.{MetaFault}
use Rattle.h2_frames.specs.declared.frame.Frame.{Frame}
use Rattle.h2_record.specs.declared.event.Event.{Event}
use Rattle.h2_record.specs.declared.event.Event.TheVariants as event
use Rattle.h2_record.specs.Record.{AnswerPart, Record, In, Out, Given, Whole, Broken}
use Rattle.h2_record.specs.Events.{events_of}
use Rattle.h2_record.specs.Texts.{given_text}
use Rattle.conn_requests.specs.declared.asks.Ask.{Ask}
use Rattle.conn_requests.specs.declared.asks.Ask.TheVariants as ask
use Rattle.conn_requests.specs.declared.asks.Over.TheVariants as over
use Rattle.grpc_meta.specs.Request.{method_in}
use Rattle.conn_requests.specs.Names.{Named, nothing_named, named_after}
use Rattle.conn_requests.specs.Body.{Body, asks_of, body_after}
use Rattle.conn_requests.specs.Ends.{over_of}
use Rattle.conn_requests.specs.Given.{with_parts, with_answer, parts_of}
use Rattle.conn_requests.specs.Decided.{Item, Answered, Played, Call, new_call, item_of, at_first, has_answer, with_record, set_call, answer_next, is_next_lost, ends_call, item_for, decide, with_whole, decide_all, refuse, hear_body, hear_request, hear, take_frame, play}
use Rattle.conn_requests.specs.Spelled.{spelling_on}
use Rattle.conn_requests.specs.Laws.{frames_in}
use Rattle.conn_requests.proofs.SpelledLemmas.{given_text-with_answer}

pub record IsPlayed (answers : List Answered) (frames : Record) (p : Played) : Type 0 where
  pub used_are : p.used ++ p.later ≡ answers
  pub frames_are : frames_in p.marked ≡ frames
  -- what was used was decided before
  pub few : length p.used ≤ length p.decided
  pub spelled : map item_of p.used ≡ p.decided → (id : ℕ) → given_text p.marked id ≡ spelling_on id p.used

-- ---- answers

frames_in-with_parts : (r : Record) (stream : ℕ) (parts : List AnswerPart) → frames_in (with_parts r stream parts) ≡ frames_in r
frames_in-with_parts r stream [] = refl
frames_in-with_parts r stream (part ∷ parts) = frames_in-with_parts (Given stream part ∷ r) stream parts

length-snoc : {A : Type 0} (xs : List A) (x : A) → length (xs ++ x ∷ []) ≡ length xs + 1
length-snoc xs x = length-append xs (x ∷ [])

map-snoc : (xs : List Answered) (x : Answered) → map item_of (xs ++ x ∷ []) ≡ map item_of xs ++ x.item ∷ []
map-snoc [] x = refl
map-snoc (y ∷ xs) x = ap (λ l. y.item ∷ l) (map-snoc xs x)

length-map : (xs : List Answered) → length (map item_of xs) ≡ length xs
length-map [] = refl
length-map (x ∷ xs) = ap suc (length-map xs)

snoc-left : (xs ys : List Item) (x y : Item) → xs ++ x ∷ [] ≡ ys ++ y ∷ [] → xs ≡ ys
snoc-left [] [] x y is = refl
snoc-left [] (b ∷ []) x y is = absurd (omega (arith, ap length is))
snoc-left [] (b ∷ c ∷ ys) x y is = absurd (omega (arith, ap length is))
snoc-left (a ∷ []) [] x y is = absurd (omega (arith, ap length is))
snoc-left (a ∷ c ∷ xs) [] x y is = absurd (omega (arith, ap length is))
snoc-left (a ∷ xs) (b ∷ ys) x y is =
    let first : a ≡ b = cc in
    let others : xs ++ x ∷ [] ≡ ys ++ y ∷ [] = cc in
    let behind : xs ≡ ys = snoc-left xs ys x y others in
    cc

snoc-last : (xs ys : List Item) (x y : Item) → xs ++ x ∷ [] ≡ ys ++ y ∷ [] → x ≡ y
snoc-last [] [] x y is = cc
snoc-last [] (b ∷ []) x y is = absurd (omega (arith, ap length is))
snoc-last [] (b ∷ c ∷ ys) x y is = absurd (omega (arith, ap length is))
snoc-last (a ∷ []) [] x y is = absurd (omega (arith, ap length is))
snoc-last (a ∷ c ∷ xs) [] x y is = absurd (omega (arith, ap length is))
snoc-last (a ∷ xs) (b ∷ ys) x y is = let others : xs ++ x ∷ [] ≡ ys ++ y ∷ [] = cc in snoc-last xs ys x y others

module _ (answers : List Answered) (frames : Record) where
  answer_next-played : (p : Played) (item : Item) (l : List Answered) → p.later ≡ l → IsPlayed answers frames p → IsPlayed answers frames (answer_next p item l)
  answer_next-played p item [] left played = record {
    used_are = ap (λ l. p.used ++ l) (sym left) ∙ played.used_are;
    frames_are = played.frames_are;
    few = omega (arith, played.few, length-snoc p.decided item);
    spelled = λ all. absurd (omega (arith, played.few, ap length all, length-map p.used, length-snoc p.decided item));
  }
  answer_next-played p item (x ∷ xs) left played = record {
    used_are = append_assoc p.used (x ∷ []) xs ∙ ap (λ l. p.used ++ l) (sym left) ∙ played.used_are;
    frames_are = frames_in-with_parts p.marked item.stream (parts_of (has_answer p.used item.stream) x.answer) ∙ played.frames_are;
    few = omega (arith, played.few, length-snoc p.decided item, length-snoc p.used x);
    spelled = λ all.
        let both : map item_of p.used ++ x.item ∷ [] ≡ p.decided ++ item ∷ [] = sym (map-snoc p.used x) ∙ all in
        let same : x.item ≡ item = snoc-last (map item_of p.used) p.decided x.item item both in
        let before : map item_of p.used ≡ p.decided = snoc-left (map item_of p.used) p.decided x.item item both in
        let P : Item → Type 0 = λ i. (id : ℕ) → given_text (with_answer p.marked i.stream (has_answer p.used i.stream) x.answer) id ≡ spelling_on id (p.used ++ x ∷ []) in
        subst P same (given_text-with_answer p.marked p.used x (played.spelled before));
  }

  set_call-played : (p : Played) (id : ℕ) (call : Option Call) → IsPlayed answers frames p → IsPlayed answers frames (set_call p id call)
  set_call-played p id call played =
      record { used_are = played.used_are; frames_are = played.frames_are; few = played.few; spelled = played.spelled }

  -- the mark of a whole request
  with_whole-played : (p : Played) (asks : List Ask) → IsPlayed answers frames p → IsPlayed answers frames (with_whole p asks)
  with_whole-played p [] played = played
  with_whole-played p (asked ∷ asks) played =
      record { used_are = played.used_are; frames_are = played.frames_are; few = played.few; spelled = played.spelled }

  -- ---- what is asked

  decide-played : (p : Played) (id : ℕ) (named : Named) (asks : List Ask) (body : Option Body) → IsPlayed answers frames p → IsPlayed answers frames (decide p id named asks body)
  decide-played p id named [] body played = set_call-played p id _ played
  decide-played p id named (asked ∷ asks) body played =
      let next : Played = answer_next p (item_for id named asked) p.later in
      let after : IsPlayed answers frames next = answer_next-played p (item_for id named asked) p.later refl played in
      elim (ends_call asked || is_next_lost p.later) as (λ b. IsPlayed answers frames (if b then set_call next id None else decide next id (named_after named asked) asks body)) [
        | true ↦ set_call-played next id None after
        | false ↦ decide-played next id (named_after named asked) asks body after
      ]

  decide_all-played : (p : Played) (id : ℕ) (named : Named) (asks : List Ask) (body : Option Body) → IsPlayed answers frames p → IsPlayed answers frames (decide_all p id named asks body)
  decide_all-played p id named asks body played = decide-played (with_whole p asks) id named asks body (with_whole-played p asks played)

  hear_body-played : (p : Played) (id : ℕ) (bytes : List ℕ) (ended : Bool) (call : Option Call) → IsPlayed answers frames p → IsPlayed answers frames (hear_body p id bytes ended call)
  hear_body-played p id bytes ended None played = played
  hear_body-played p id bytes ended (Some call) played =
      decide_all-played p id call.named (asks_of call.body bytes ended) (Some (body_after call.body bytes)) played

  hear_request-played : (p : Played) (id : ℕ) (fields : List Field) (ended : Bool) (m : Result Method MetaFault) → IsPlayed answers frames p → IsPlayed answers frames (hear_request p id fields ended m)
  hear_request-played p id fields ended (Ok m) played = hear_body-played p id [] ended (Some (new_call m fields)) played
  hear_request-played p id fields ended (Err refused) played =
      decide_all-played p id nothing_named (map ask.Ends (option_to_list (over_of refused))) None played

  hear-played : (p : Played) (e : Event) → IsPlayed answers frames p → IsPlayed answers frames (hear p e)
  hear-played p (event.Opened id fields ended) played = hear_request-played p id fields ended (method_in fields) played
  hear-played p (event.TooLarge id) played = decide_all-played p id nothing_named (ask.Ends over.ListTooLarge ∷ []) None played
  hear-played p (event.Body id bytes ended) played = hear_body-played p id bytes ended (p.calls id) played
  hear-played p (event.Ended id) played = hear_body-played p id [] true (p.calls id) played
  hear-played p (event.Reset id code) played = set_call-played p id None played
  hear-played p (event.Fault code rule) played = played

  hear_all-played : (p : Played) (events : List Event) → IsPlayed answers frames p → IsPlayed answers frames (fold hear p events)
  hear_all-played p [] played = played
  hear_all-played p (e ∷ events) played = hear_all-played (hear p e) events (hear-played p e played)

-- ---- frames

take_frame-played : (answers : List Answered) (frames : Record) (p : Played) (frame : Frame) → IsPlayed answers frames p → IsPlayed answers (In frame ∷ frames) (take_frame p frame)
unfolding take_frame
take_frame-played answers frames p frame played =
    hear_all-played answers (In frame ∷ frames) (with_record p (In frame ∷ p.marked)) (events_of p.marked frame) (record {
      used_are = played.used_are;
      frames_are = ap (λ r. In frame ∷ r) played.frames_are;
      few = played.few;
      spelled = played.spelled;
    })

nothing_spelled : (id : ℕ) → [] ≡ spelling_on id []
unfolding spelling_on
nothing_spelled id = refl

pub play-played : (answers : List Answered) (frames : Record) → IsPlayed answers (frames_in frames) (play answers frames)
unfolding play
play-played answers [] = record { used_are = refl; frames_are = refl; few = omega arith; spelled = λ all. nothing_spelled }
play-played answers (In frame ∷ frames) = take_frame-played answers (frames_in frames) (play answers frames) frame (play-played answers frames)
play-played answers (Out frame ∷ frames) =
    let played = play-played answers frames in
    record { used_are = played.used_are; frames_are = ap (λ r. Out frame ∷ r) played.frames_are; few = played.few; spelled = played.spelled }
play-played answers (Broken fault ∷ frames) =
    let played = play-played answers frames in
    record { used_are = played.used_are; frames_are = ap (λ r. Broken fault ∷ r) played.frames_are; few = played.few; spelled = played.spelled }
play-played answers (Given stream part ∷ frames) = play-played answers frames
play-played answers (Whole ∷ frames) = play-played answers frames
