-- What waits to be written on one stream, in the order of an answer: HEADERS, DATA, trailers (RFC 9113 section 8.1),
-- and the resets of the stream (section 6.4).
use Rattle.std.specs.Prelude.{◌≡◌, ℕ, nat_eq, Bool, false, List, [], ◌∷◌, ◌++◌, drop, Option, None, Some, unwrap_or, if◌then◌else◌}
use Rattle.std.specs.List.{concat}
use Rattle.std.specs.Map.{lookup}
use Rattle.h2_answers.specs.declared.part.Head.{Head}
use Rattle.h2_answers.specs.declared.part.Part.{Part}
use Rattle.h2_answers.specs.declared.part.Part.TheVariants as part
use Rattle.h2_answers.specs.declared.part.Given.{Given}
use Rattle.h2_answers.specs.declared.part.Given.TheVariants as given
use Rattle.h2_answers.specs.Replies.{adding_reply, drop_bytes}

-- The HEADERS that begin the answer, with END_STREAM where they are all of it; the replies, each by its bytes that
-- wait; the block of the trailers; and the codes of RST_STREAM.
pub record Waiting : Type 0 where
  pub head : Option Head
  pub replies : List (List ℕ)
  pub tail : Option (List ℕ)
  pub resets : List ℕ

abbrev pub nothing : Waiting
nothing = record { head = None; replies = []; tail = None; resets = [] }

-- the bytes that wait to be written in DATA
abbrev pub data_of : Waiting → List ℕ
data_of waiting = concat waiting.replies

-- Nothing that waits ends the stream, so that more of the answer may follow.
pub record IsOpenEnded (waiting : Waiting) : Type 0 where
  pub head : (h : Head) → waiting.head ≡ Some h → h.end ≡ false
  pub tail : waiting.tail ≡ None
  pub resets : waiting.resets ≡ []

-- with one part more
abbrev pub with_head : Waiting → (block : List ℕ) (end : Bool) → Waiting
with_head waiting block end = record waiting { head = Some (record { block = block; end = end }) }

abbrev pub with_reply : Waiting → List ℕ → Waiting
with_reply waiting reply = record waiting { replies = adding_reply waiting.replies reply }

abbrev pub with_tail : Waiting → (block : List ℕ) → Waiting
with_tail waiting block = record waiting { tail = Some block }

abbrev pub with_reset : Waiting → (code : ℕ) → Waiting
with_reset waiting code = record waiting { resets = waiting.resets ++ code ∷ [] }

abbrev pub with_given : Waiting → Given → Waiting
with_given waiting (given.Head head) = with_head waiting head.block head.end
with_given waiting (given.Reply reply) = with_reply waiting reply
with_given waiting (given.Tail block) = with_tail waiting block
with_given waiting (given.Reset code) = with_reset waiting code

-- without a part that was written
abbrev pub without : Waiting → Part → Waiting
without waiting (part.Head end) = record waiting { head = None }
without waiting (part.Body len) = record waiting { replies = drop_bytes len waiting.replies }
without waiting part.Tail = record waiting { tail = None }
without waiting (part.Reset code) = record waiting { resets = drop 1 waiting.resets }

-- what waits on the stream of this id, of those on which something waits
abbrev pub waiting_on : List (ℕ × Waiting) → (id : ℕ) → Waiting
waiting_on queues id = unwrap_or (lookup (nat_eq id) queues) nothing

-- this now waits on the stream, and on every other what waited before
abbrev pub ChangesOnly : (old new : List (ℕ × Waiting)) (id : ℕ) → Waiting → Type 0
ChangesOnly old new id waiting = (other : ℕ) → waiting_on new other ≡ (if nat_eq id other then waiting else waiting_on old other)

-- the same of what is kept
abbrev pub Sets : (old new : List (ℕ × Waiting)) (id : ℕ) → Option Waiting → Type 0
Sets old new id kept = (other : ℕ) → lookup (nat_eq other) new ≡ (if nat_eq id other then kept else lookup (nat_eq other) old)
