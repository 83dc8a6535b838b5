-- Reading on: messages in a row, more bytes behind, one message more.
use Rattle.std.proofs.Common.{◌≡◌, ℕ, ◌+◌, ◌-◌, ◌≤◌, Bool, IsTrue, List, [], ◌∷◌, ◌++◌, length, take, refl, sym, ap, subst, ◌∙◌, arith, append_assoc, append-nil}
use Rattle.std.specs.List.{AllByRecursion}
use Rattle.std.proofs.Math.Seq.{take-append-add}
use Rattle.std.proofs.lemmas.Grind.{flat_map-append}
use Rattle.std.proofs.lemmas.List.Concat.{flat_map-cons}
use Rattle.grpc_frame.specs.Frame.{frame, framed}
use Rattle.grpc_frame.specs.Messages.{IsWithin}
use Rattle.grpc_frame.specs.Part.{part_of}
use Rattle.grpc_frame.specs.declared.part.Part.{Part}
use Rattle.grpc_frame.specs.declared.part.Part.TheVariants as part
use Rattle.grpc_frame.proofs.PartLemmas.{part_of-stays}
use Rattle.grpc_frame.specs.declared.limits.TheConstants.{MESSAGE_LIMIT}
use Rattle.call_body.specs.Answers.{Answered}
use Rattle.call_body.specs.Reading.{Reads, IsStop, IsStopAt}
use Rattle.call_body.specs.Ends.{ReadsPartly}

pub framed-append : (a b : List (List ℕ)) → framed (a ++ b) ≡ framed a ++ framed b
framed-append a b = flat_map-append frame a b

pub framed-one : (message : List ℕ) → framed (message ∷ []) ≡ frame message
framed-one message = flat_map-cons frame message [] ∙ append-nil (frame message)

pub All-append : {X : Type 0} (P : X → Type 0) (a b : List X) → AllByRecursion P a → AllByRecursion P b → AllByRecursion P (a ++ b)
All-append P [] b each more = more
All-append P (x ∷ a) b each more = (each.0, All-append P a b each.1 more)

module _ {S : Type 0} (readable : List ℕ → Bool) (answers : S → List ℕ → List ℕ → S → Type 0) where
  pub Answered-append : (m r n q : List (List ℕ)) (old mid new : S) → Answered readable answers m r old mid → Answered readable answers n q mid new
      → Answered readable answers (m ++ n) (r ++ q) old new
  Answered-append [] [] n q old mid new first second = let P : S → Type 0 = λ s. Answered readable answers n q s new in subst P first second
  Answered-append [] (reply ∷ r) n q old mid new first second = absurd first
  Answered-append (message ∷ m) [] n q old mid new first second = absurd first
  Answered-append (message ∷ m) (reply ∷ r) n q old mid new first second =
      (first.0, (first.1.0, first.1.1, Answered-append m r n q first.1.0 mid new first.1.2 second))

  pub Reads-none : (bytes : List ℕ) (s : S) → Reads readable answers bytes bytes [] s s
  Reads-none bytes s = record { messages = []; replies = []; whole = refl; within = tt; answered = refl; spelled = refl }

  -- what is read of a beginning, and then of its rest
  pub Reads-append : (bytes rest end r q : List ℕ) (old mid new : S) → Reads readable answers bytes rest r old mid → Reads readable answers rest end q mid new
      → Reads readable answers bytes end (r ++ q) old new
  Reads-append bytes rest end r q old mid new first second = record {
    messages = first.messages ++ second.messages;
    replies = first.replies ++ second.replies;
    whole = first.whole ∙ ap (λ l. framed first.messages ++ l) second.whole ∙ sym (append_assoc (framed first.messages) (framed second.messages) end)
        ∙ ap (λ l. l ++ end) (sym (framed-append first.messages second.messages));
    within = All-append (IsWithin MESSAGE_LIMIT) first.messages second.messages first.within second.within;
    answered = Answered-append first.messages first.replies second.messages second.replies old mid new first.answered second.answered;
    spelled = ap (λ l. l ++ q) first.spelled ∙ ap (λ l. framed first.replies ++ l) second.spelled ∙ sym (framed-append first.replies second.replies);
  }

  -- bytes that follow stand behind the rest
  pub Reads-behind : (bytes rest r more : List ℕ) (old new : S) → Reads readable answers bytes rest r old new
      → Reads readable answers (bytes ++ more) (rest ++ more) r old new
  Reads-behind bytes rest r more old new first = record {
    messages = first.messages;
    replies = first.replies;
    whole = ap (λ l. l ++ more) first.whole ∙ append_assoc (framed first.messages) rest more;
    within = first.within;
    answered = first.answered;
    spelled = first.spelled;
  }

  -- one message that is answered
  pub Reads-one : (message reply rest : List ℕ) (old new : S) → length message ≤ MESSAGE_LIMIT → IsTrue (readable message) → answers old message reply new
      → Reads readable answers (frame message ++ rest) rest (frame reply) old new
  Reads-one message reply rest old new short good answer = record {
    messages = message ∷ [];
    replies = reply ∷ [];
    whole = ap (λ l. l ++ rest) (sym (framed-one message));
    within = (short, tt);
    answered = (good, (new, answer, refl));
    spelled = sym (framed-one reply);
  }

  -- all replies that are due were written
  pub ReadsPartly-all : (bytes rest r : List ℕ) (old new : S) → Reads readable answers bytes rest r old new → ReadsPartly readable answers bytes r old new
  ReadsPartly-all bytes rest r old new first = (rest, r, [], first, sym (append-nil r))

  pub ReadsPartly-append : (bytes rest r q : List ℕ) (old mid new : S) → Reads readable answers bytes rest r old mid → ReadsPartly readable answers rest q mid new
      → ReadsPartly readable answers bytes (r ++ q) old new
  ReadsPartly-append bytes rest r q old mid new first second = (
    second.0,
    r ++ second.1,
    second.2,
    Reads-append bytes rest second.0 r second.1 old mid new first second.3,
    ap (λ l. r ++ l) second.4 ∙ sym (append_assoc r q second.2),
  )

  pub ReadsPartly-behind : (bytes r more : List ℕ) (old new : S) → ReadsPartly readable answers bytes r old new → ReadsPartly readable answers (bytes ++ more) r old new
  ReadsPartly-behind bytes r more old new first =
      (first.0 ++ more, first.1, first.2, Reads-behind bytes first.0 first.1 more old new first.3, first.4)

  -- what a body stops at stays when bytes follow
  pub IsStop-behind : (rest more : List ℕ) → IsStop readable rest → IsStop readable (rest ++ more)
  IsStop-behind rest more stop =
      let P : Part → Type 0 = λ p. IsStopAt readable p in
      subst P (sym (part_of-stays MESSAGE_LIMIT rest more (λ none. not_more (part_of MESSAGE_LIMIT rest) none stop))) stop
    where
      not_more : (p : Part) → p ≡ part.More → IsStopAt readable p → ⊥
      not_more (part.Message message) none here = absurd (cc)
      not_more part.More none here = here
      not_more (part.Compressed flag) none here = absurd (cc)
      not_more (part.TooLong len) none here = absurd (cc)

-- the first `n` of a list and what follows it
pub take-append : {X : Type 0} (n : ℕ) (xs ys : List X) → length xs ≤ n → take n (xs ++ ys) ≡ xs ++ take (n - length xs) ys
take-append n xs ys short =
    let parts : n ≡ length xs + (n - length xs) = omega arith in
    ap (λ k. take k (xs ++ ys)) parts ∙ take-append-add xs ys (n - length xs)
