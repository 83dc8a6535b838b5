-- How the messages of one call are answered, one after another, whatever answers them: some messages can be read, and
-- each of these has its reply at the state that the earlier ones left.
use Rattle.std.specs.Prelude.{◌≡◌, ℕ, ◌<◌, ◌^◌, Bool, false, IsTrue, List, [], ◌∷◌, length}
use Rattle.std.proofs.Common.{◌⊎◌}
use Rattle.call_body.specs.declared.answering.Answer.{Answer}
use Rattle.call_body.specs.declared.answering.Answer.TheVariants as answer

-- one message's answer; at want of memory the message was not answered, or its reply is lost
abbrev pub AnswersOne : {S : Type 0} → (List ℕ → Bool) → (S → List ℕ → List ℕ → S → Type 0) → S → S → List ℕ → Answer → Type 0
AnswersOne readable answers old new message (answer.Reply reply) =
    IsTrue (readable message) × answers old message reply new × (length reply < 2 ^ 32)
AnswersOne readable answers old new message answer.Unreadable = (readable message ≡ false) × (new ≡ old)
AnswersOne readable answers old new message answer.Memory =
    (new ≡ old) ⊎ ((reply : List ℕ) × IsTrue (readable message) × answers old message reply new)

-- the messages can be read, and the replies answer them in order, from a state to the one behind the last
abbrev pub Answered : {S : Type 0} → (List ℕ → Bool) → (S → List ℕ → List ℕ → S → Type 0) → List (List ℕ) → List (List ℕ) → S → S → Type 0
Answered readable answers [] [] old new = new ≡ old
Answered readable answers [] (reply ∷ replies) old new = ⊥
Answered readable answers (message ∷ messages) [] old new = ⊥
Answered {S} readable answers (message ∷ messages) (reply ∷ replies) old new =
    IsTrue (readable message) × ((next : S) × answers old message reply next × Answered readable answers messages replies next new)
