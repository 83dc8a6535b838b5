-- What the items of a body come to, one after another.
use Rattle.std.proofs.Common.{◌≡◌, ℕ, ℤ, List, [], ◌∷◌, ◌++◌, Option, Result, Ok, Err, IfOk, OnErr, refl, ap, sym, subst, ◌∙◌, append_assoc}
use Rattle.std.proofs.lemmas.List.{append-nil}
use Rattle.outside.specs.declared.wants.Memory.{Memory}
use Rattle.grpc_meta.specs.declared.answers.Status.{Status}
use Rattle.table_model.specs.declared.reasons.Why.TheVariants as why
use Rattle.conn_requests.specs.declared.answers.Answer.{Answer}
use Rattle.conn_requests.specs.declared.answers.Answer.TheVariants as answers
use Rattle.rows_body.specs.declared.body.RowsEnd.TheVariants as rows_end
use Rattle.futures.specs.declared.task.Poll.{Poll}
use Rattle.futures.specs.declared.task.Poll.TheVariants.{Ready}
use Rattle.rows_body.specs.Rows.{Item, Rows, Polls, Takes}
use Rattle.call_read.specs.Items.{messages_of, status_of, status_for, told_items}

pub taken_by : (old new : Rows) (result : Poll (Option Item)) (answer : Option Item) → Polls old new result → result ≡ Ready answer → Takes old.left new.left answer × (new.room ≡ old.room)
taken_by old new result answer polls is =
    let taken = subst (Polls old new) is polls in (taken.1, ap (λ (rows : Rows). rows.room) taken.2)

-- These messages were given of a body's items, and others are left.
pub record Told (first left : List Item) (messages : List (List ℕ)) : Type 0 where
  pub messages_are : messages ++ messages_of left ≡ messages_of first
  pub status_is : status_of left ≡ status_of first

pub told_more : (first old new : List Item) (messages all : List (List ℕ)) (message : List ℕ) → Told first old messages → old ≡ Ok message ∷ new → all ≡ messages ++ message ∷ [] → Told first new all
unfolding messages_of status_of
told_more first old new messages all message told is more = record {
  messages_are = ap (λ given. given ++ messages_of new) more ∙ append_assoc messages (message ∷ []) (messages_of new) ∙ ap (λ left. messages ++ messages_of left) (sym is) ∙ told.messages_are;
  status_is = ap status_of (sym is) ∙ told.status_is;
}

told_by : (first : List Item) (messages : List (List ℕ)) (status : Status) → messages ++ [] ≡ messages_of first → status ≡ status_of first → answers.Ends messages status ≡ told_items first
told_by first messages status are is = ap (λ given. answers.Ends given status) (sym (append-nil messages) ∙ are) ∙ ap (answers.Ends (messages_of first)) is

-- behind the last response the status is 0
pub told_end : (first left : List Item) (messages : List (List ℕ)) → Told first left messages → left ≡ [] → answers.Ends messages (record { code = 0; text = [] }) ≡ told_items first
unfolding messages_of status_of
told_end first left messages told none =
    told_by first messages (record { code = 0; text = [] }) (ap (λ rest. messages ++ messages_of rest) (sym none) ∙ told.messages_are) (ap status_of (sym none) ∙ told.status_is)

pub told_past : (first left : List Item) (messages : List (List ℕ)) (matched : ℕ) → Told first left messages → left ≡ Err (rows_end.PastEnd matched) ∷ []
    → answers.Ends messages (status_for why.PastEnd) ≡ told_items first
unfolding messages_of status_of
told_past first left messages matched told last =
    told_by first messages (status_for why.PastEnd) (ap (λ rest. messages ++ messages_of rest) (sym last) ∙ told.messages_are) (ap status_of (sym last) ∙ told.status_is)
