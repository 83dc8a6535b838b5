-- Where the client has ended a body, what it asks last ends the call, so no call stands behind it.
use Rattle.std.proofs.Common.{◌≡◌, ℕ, Bool, true, false, ◌||◌, List, [], ◌∷◌, ◌++◌, Option, Some, None, subst, refl, sym, ap, ◌∙◌, if◌then◌else◌}
use Rattle.grpc_frame.specs.Part.{part_of}
use Rattle.grpc_frame.specs.Split.{split_of}
use Rattle.grpc_frame.specs.declared.limits.TheConstants.{MESSAGE_LIMIT}
use Rattle.grpc_frame.specs.declared.part.Part.{Part}
use Rattle.grpc_frame.specs.declared.part.Part.TheVariants as part
use Rattle.conn_requests.specs.declared.asks.Ask.{Ask}
use Rattle.conn_requests.specs.declared.asks.Ask.TheVariants as ask
use Rattle.conn_requests.specs.declared.asks.Over.TheVariants as over
use Rattle.conn_requests.specs.declared.kinds.Kind.{Kind}
use Rattle.conn_requests.specs.declared.kinds.Kind.TheVariants as kind
use Rattle.conn_requests.specs.declared.kinds.Sole.TheVariants as sole
use Rattle.conn_requests.specs.Names.{Named, named_after}
use Rattle.conn_requests.specs.Body.{Body, kind_after, messages_asked, compressed, end_asked, whole_asked, rest_asked, asks_of}
use Rattle.conn_requests.specs.Decided.{Played, answer_next, is_next_lost, ends_call, item_for, set_call, decide, with_whole, decide_all}

-- one thing, which ends the call
abbrev pub EndsAlone : List Ask → Type 0
EndsAlone asks = (last : Ask) × (asks ≡ last ∷ []) × (ends_call last ≡ true)

whole_asked-ends : (k : Kind) → ends_call (whole_asked k) ≡ true
whole_asked-ends kind.Appending = refl
whole_asked-ends (kind.Collecting m sole.Empty) = refl
whole_asked-ends (kind.Collecting m (sole.One message)) = refl
whole_asked-ends (kind.Collecting m sole.Many) = refl

end_asked-ends : (k : Kind) (rest : List ℕ) → ends_call (end_asked k rest) ≡ true
end_asked-ends k [] = whole_asked-ends k
end_asked-ends k (byte ∷ rest) = refl

rest_asked-ends : (k : Kind) (is_coded : Bool) (p : Part) (rest : List ℕ) → EndsAlone (rest_asked k is_coded p rest true)
rest_asked-ends k is_coded (part.Compressed flag) rest = (ask.Ends (compressed is_coded), refl, refl)
rest_asked-ends k is_coded (part.TooLong len) rest = (ask.Ends over.TooLong, refl, refl)
rest_asked-ends k is_coded (part.Message message) rest = (end_asked k rest, refl, end_asked-ends k rest)
rest_asked-ends k is_coded part.More rest = (end_asked k rest, refl, end_asked-ends k rest)

decide-last : (p : Played) (id : ℕ) (named : Named) (asks : List Ask) (last : Ask) (a b : Option Body) → ends_call last ≡ true → decide p id named (asks ++ last ∷ []) a ≡ decide p id named (asks ++ last ∷ []) b
decide-last p id named [] last a b ends =
    let next : Played = answer_next p (item_for id named last) p.later in
    let P : Bool → Type 0 = λ t. (if t || is_next_lost p.later then set_call next id None else decide next id (named_after named last) [] a) ≡ (if t || is_next_lost p.later then set_call next id None else decide next id (named_after named last) [] b) in
    subst P (sym ends) refl
decide-last p id named (asked ∷ asks) last a b ends =
    let next : Played = answer_next p (item_for id named asked) p.later in
    elim (ends_call asked || is_next_lost p.later) as (λ t. (if t then set_call next id None else decide next id (named_after named asked) (asks ++ last ∷ []) a) ≡ (if t then set_call next id None else decide next id (named_after named asked) (asks ++ last ∷ []) b)) [
      | true ↦ refl
      | false ↦ decide-last next id (named_after named asked) asks last a b ends
    ]

decide-alone : (p : Played) (id : ℕ) (named : Named) (asks ends : List Ask) (a b : Option Body) → EndsAlone ends → decide_all p id named (asks ++ ends) a ≡ decide_all p id named (asks ++ ends) b
decide-alone p id named asks ends a b alone =
    let P : List Ask → Type 0 = λ l. decide_all p id named (asks ++ l) a ≡ decide_all p id named (asks ++ l) b in
    subst P (sym alone.1) (decide-last (with_whole p (asks ++ alone.0 ∷ [])) id named asks alone.0 a b alone.2)

pub decide_all-ended : (p : Played) (id : ℕ) (named : Named) (body : Body) (bytes : List ℕ) (a b : Option Body) → decide_all p id named (asks_of body bytes true) a ≡ decide_all p id named (asks_of body bytes true) b
unfolding asks_of
decide_all-ended p id named body bytes a b =
    decide-alone p id named (messages_asked body.kind (split_of MESSAGE_LIMIT (body.rest ++ bytes)).messages) _ a b
    (rest_asked-ends (kind_after body.kind (split_of MESSAGE_LIMIT (body.rest ++ bytes)).messages) body.is_coded (part_of MESSAGE_LIMIT (split_of MESSAGE_LIMIT (body.rest ++ bytes)).rest) (split_of MESSAGE_LIMIT (body.rest ++ bytes)).rest)
