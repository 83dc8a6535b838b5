-- Where each frame was due, what was written is in order.
use Rattle.std.proofs.Common.{◌≡◌, ℕ, List, sym, subst}
use Rattle.h2_record.specs.Record.{Record}
use Rattle.h2_record.specs.Texts.{Token, given_text, written_text}
use Rattle.h2_record.specs.Written.{EachWasDue, IsFront}
use Rattle.conn_record.proofs.Fronts.{texts-are-fronts, control-is-front, resets-are-fronts, data-within-windows}
use Rattle.conn_record.proofs.ControlKinds.{only-server-frames}
use Rattle.conn_requests.specs.Decided.{Answered, play}
use Rattle.conn_requests.specs.Spelled.{spelling_on}
use Rattle.conn_requests.proofs.PlayedLemmas.{play-played}
use Rattle.conn_service.specs.Quiet.{IsAnswered}
use Rattle.conn_service.specs.Serves.{IsInOrder}

pub due-in-order : (r : Record) (text_of : ℕ → List Token) → EachWasDue r → ((id : ℕ) → given_text r id ≡ text_of id) → IsInOrder r text_of
due-in-order r text_of due given = record {
  spelled = λ id. let P : List Token → Type 0 = λ text. IsFront (written_text r id) text in subst P (given id) (texts-are-fronts r id due);
  control = control-is-front r due;
  resets = λ id. resets-are-fronts r id due;
  windows = λ newer older stream counted ended bytes is. data-within-windows newer older stream counted ended bytes (subst EachWasDue (sym is) due);
  kinds = λ newer older frame is. only-server-frames newer older frame (subst EachWasDue (sym is) due);
}

pub answers-in-order : (answers : List Answered) (frames : Record) → IsAnswered (play answers frames) → EachWasDue (play answers frames).marked
    → IsInOrder (play answers frames).marked (λ id. spelling_on id (play answers frames).used)
answers-in-order answers frames all due =
    due-in-order (play answers frames).marked (λ id. spelling_on id (play answers frames).used) due ((play-played answers frames).spelled all)
