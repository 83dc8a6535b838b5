-- Whole messages are taken one after another, until none is left.
use Rattle.std.proofs.Common.{◌≡◌, ◌≢◌, ◌≤◌, ◌<◌, ◌+◌, ◌^◌, ℕ, Bool, IsTrue, ◌↔◌, List, [], ◌∷◌, ◌++◌, length, map, subst, refl, sym, ap, ◌∙◌, append-nil, append_assoc, lit<, arith}
use Rattle.std.specs.List.{AllByRecursion}
use Rattle.grpc_frame.specs.Frame.{frame, framed}
use Rattle.grpc_frame.specs.Part.{part_of}
use Rattle.grpc_frame.specs.Messages.{IsMessage, IsWithin, Takes}
use Rattle.grpc_frame.specs.Split.{Split, split_of}
use Rattle.grpc_frame.specs.declared.limits.TheConstants.{MESSAGE_LIMIT}
use Rattle.grpc_frame.specs.declared.part.Part.{Part}
use Rattle.grpc_frame.specs.declared.part.Part.TheVariants as part
use Rattle.grpc_frame.proofs.MessagesLemmas.{framed-snoc, length-frame}
use Rattle.grpc_frame.proofs.SplitLemmas.{split_of-is}
use Rattle.conn_requests.specs.declared.asks.Ask.{Ask}
use Rattle.conn_requests.specs.declared.asks.Ask.TheVariants as ask
use Rattle.conn_requests.specs.declared.kinds.Kind.{Kind}
use Rattle.conn_requests.specs.declared.kinds.Kind.TheVariants as kind
use Rattle.conn_requests.specs.Body.{Body, with_sole, kind_with, kind_after, messages_asked, rest_asked, split_asks, split_after, asks_of, body_after}
use Rattle.conn_requests.specs.Taken.{message_asked, TakesAll, Tells}

-- some whole messages were taken
pub record Taking (held left : List ℕ) (old new : Kind) (asked asks : List Ask) : Type 0 where
  pub messages : List (List ℕ)
  pub whole : held ≡ framed messages ++ left
  pub each : AllByRecursion (IsWithin MESSAGE_LIMIT) messages
  pub kind_is : new ≡ kind_after old messages
  pub asks_are : asks ≡ asked ++ messages_asked old messages

none_asked : (k : Kind) → messages_asked k [] ≡ []
none_asked kind.Appending = refl
none_asked (kind.Collecting m so_far) = refl

pub Taking-none : (held : List ℕ) (k : Kind) (asked : List Ask) → Taking held held k k asked asked
Taking-none held k asked =
    record { messages = []; whole = refl; each = tt; kind_is = refl; asks_are = sym (ap (λ l. asked ++ l) (none_asked k) ∙ append-nil asked) }

kind_after-snoc : (k : Kind) (messages : List (List ℕ)) (message : List ℕ) → kind_after k (messages ++ message ∷ []) ≡ kind_with (kind_after k messages) message
kind_after-snoc k [] message = refl
kind_after-snoc k (m ∷ messages) message = kind_after-snoc (kind_with k m) messages message

-- later messages of a call are asked as its first
same_asked : (k : Kind) (messages : List (List ℕ)) (message : List ℕ) → message_asked (kind_after k messages) message ≡ message_asked k message
same_asked k [] message = refl
same_asked kind.Appending (m ∷ messages) message = same_asked kind.Appending messages message
same_asked (kind.Collecting a so_far) (m ∷ messages) message = same_asked (kind.Collecting a (with_sole so_far m)) messages message

map-snoc : (messages : List (List ℕ)) (message : List ℕ) → map ask.Append (messages ++ message ∷ []) ≡ map ask.Append messages ++ ask.Append message ∷ []
map-snoc [] message = refl
map-snoc (m ∷ messages) message = ap (λ l. ask.Append m ∷ l) (map-snoc messages message)

messages_asked-snoc : (k : Kind) (messages : List (List ℕ)) (message : List ℕ) → messages_asked k (messages ++ message ∷ []) ≡ messages_asked k messages ++ message_asked k message
messages_asked-snoc kind.Appending messages message = map-snoc messages message
messages_asked-snoc (kind.Collecting a so_far) messages message = refl

within-snoc : (messages : List (List ℕ)) (message : List ℕ) → AllByRecursion (IsWithin MESSAGE_LIMIT) messages → length message ≤ MESSAGE_LIMIT → AllByRecursion (IsWithin MESSAGE_LIMIT) (messages ++ message ∷ [])
within-snoc [] message each within = (within, tt)
within-snoc (m ∷ messages) message each within = (each.0, within-snoc messages message each.1 within)

-- one message more
pub Taking-more : (held left next message : List ℕ) (old mid new : Kind) (asked before asks : List Ask) → Taking held left old mid asked before → left ≡ frame message ++ next → length message ≤ MESSAGE_LIMIT → new ≡ kind_with mid message → asks ≡ before ++ message_asked mid message → Taking held next old new asked asks
Taking-more held left next message old mid new asked before asks taking spelled within kind_is asks_are =
    let same : message_asked mid message ≡ message_asked old message =
    ap (λ k. message_asked k message) taking.kind_is ∙ same_asked old taking.messages message
    in
    record {
      messages = taking.messages ++ message ∷ [];
      whole = taking.whole ∙ ap (λ l. framed taking.messages ++ l) spelled ∙ sym (framed-snoc taking.messages message next);
      each = within-snoc taking.messages message taking.each within;
      kind_is = kind_is ∙ ap (λ k. kind_with k message) taking.kind_is ∙ sym (kind_after-snoc old taking.messages message);
      asks_are = asks_are
          ∙ ap (λ l. l ++ message_asked mid message) taking.asks_are
          ∙ append_assoc asked (messages_asked old taking.messages) (message_asked mid message)
          ∙ ap (λ l. asked ++ (messages_asked old taking.messages ++ l)) same
          ∙ ap (λ l. asked ++ l) (sym (messages_asked-snoc old taking.messages message));
    }

-- nothing else is taken
pub kept_by : (limit : ℕ) (old new : List ℕ) (p : Part) → Takes limit old new p → (IsMessage p → ⊥) → new ≡ old
kept_by limit old new (part.Message message) takes none = absurd (none tt)
kept_by limit old new part.More takes none = takes
kept_by limit old new (part.Compressed flag) takes none = takes
kept_by limit old new (part.TooLong len) takes none = takes

-- none is left
pub Taking-all : (held left : List ℕ) (old new : Kind) (asked asks : List Ask) → Taking held left old new asked asks → (IsMessage (part_of MESSAGE_LIMIT left) → ⊥) → TakesAll held left old new asked asks
Taking-all held left old new asked asks taking none =
    let split : split_of MESSAGE_LIMIT held ≡ record { messages = taking.messages; rest = left } =
    split_of-is MESSAGE_LIMIT held taking.messages left (lit< tt) (record { whole = taking.whole; each = taking.each; ends = none })
    in
    record {
      left_is = sym (ap (λ (s : Split). s.rest) split);
      none_left = none;
      kind_is = taking.kind_is ∙ sym (ap (λ (s : Split). kind_after old s.messages) split);
      asks_are = taking.asks_are ∙ sym (ap (λ (s : Split). asked ++ messages_asked old s.messages) split);
    }

-- a message has bytes
pub shorter : (message old new : List ℕ) → old ≡ frame message ++ new → length new < length old
shorter message old new spelled = omega (arith, ap length spelled, length-frame message new)

pub no_message : (p : Part) → ((message : List ℕ) → p ≡ part.Message message → ⊥) → IsMessage p → ⊥
no_message (part.Message message) none is = none message refl
no_message part.More none is = is
no_message (part.Compressed flag) none is = is
no_message (part.TooLong len) none is = is

-- what a deframer says of being inside is told of the rest
pub tells : (p : Part) (is_inside : Bool) (left : List ℕ) (limit : ℕ) → p ≡ part_of MESSAGE_LIMIT left → (IsMessage (part_of MESSAGE_LIMIT left) → ⊥) → limit ≡ MESSAGE_LIMIT → (part_of limit left ≡ part.More → (IsTrue is_inside ↔ (left ≢ []))) → Tells p is_inside left
tells (part.Message message) is_inside left limit is none same inside = none (subst IsMessage is tt)
tells part.More is_inside left limit is none same inside = inside (ap (λ n. part_of n left) same ∙ sym is)
tells (part.Compressed flag) is_inside left limit is none same inside = tt
tells (part.TooLong len) is_inside left limit is none same inside = tt

-- the messages that were taken, and what stands behind them, are all that is asked
pub asked_all : (body : Body) (bytes fed left : List ℕ) (new : Kind) (before asks : List Ask) (p : Part) (ended : Bool) → fed ≡ body.rest ++ bytes → TakesAll fed left body.kind new [] before → p ≡ part_of MESSAGE_LIMIT left → asks ≡ before ++ rest_asked new body.is_coded p left ended → asks ≡ asks_of body bytes ended
unfolding asks_of
asked_all body bytes fed left new before asks p ended fed_is taken part_is asks_are =
    asks_are
    ∙ ap (λ q. before ++ rest_asked new body.is_coded q left ended) part_is
    ∙ ap (λ l. l ++ rest_asked new body.is_coded (part_of MESSAGE_LIMIT left) left ended) taken.asks_are
    ∙ ap (λ k. messages_asked body.kind (split_of MESSAGE_LIMIT fed).messages ++ rest_asked k body.is_coded (part_of MESSAGE_LIMIT left) left ended) taken.kind_is
    ∙ ap (λ l. messages_asked body.kind (split_of MESSAGE_LIMIT fed).messages ++ rest_asked (kind_after body.kind (split_of MESSAGE_LIMIT fed).messages) body.is_coded (part_of MESSAGE_LIMIT l) l ended) taken.left_is
    ∙ ap (λ l. split_asks body (split_of MESSAGE_LIMIT l) ended) fed_is

abbrev pub body_of : Kind → Bool → List ℕ → Body
body_of k coded left = record { kind = k; is_coded = coded; rest = left }

pub body_behind : (body : Body) (bytes fed left : List ℕ) (new last : Kind) (asks : List Ask) → fed ≡ body.rest ++ bytes → TakesAll fed left body.kind new [] asks → last ≡ new → body_of last body.is_coded left ≡ body_after body bytes
unfolding body_after
body_behind body bytes fed left new last asks fed_is taken last_is =
    ap (λ k. body_of k body.is_coded left) (last_is ∙ taken.kind_is)
    ∙ ap (λ l. body_of (kind_after body.kind (split_of MESSAGE_LIMIT fed).messages) body.is_coded l) taken.left_is
    ∙ ap (λ l. split_after body (split_of MESSAGE_LIMIT l)) fed_is
