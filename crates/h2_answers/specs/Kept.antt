-- What holds of the kept parts at every moment.
use Rattle.std.specs.Prelude.{◌≡◌, ℕ, ◌^◌, ◌<◌, ◌≤◌, nat_eq, List, [], ◌∷◌, length, drop, Option, Some, IsSome}
use Rattle.std.specs.List.{AllByRecursion, concat}
use Rattle.std.specs.Map.{lookup}
use Rattle.h2_frames.specs.Sound.{IsStreamId}
use Rattle.h2_frames.specs.Header.{max_frame_size}
use Rattle.h2_answers.specs.declared.part.Head.{Head}
use Rattle.h2_answers.specs.declared.part.Given.{Given}
use Rattle.h2_answers.specs.declared.part.Given.TheVariants as given
use Rattle.h2_answers.specs.Replies.{IsUnwritten}
use Rattle.h2_answers.specs.Waiting.{Waiting, nothing}

-- kept replies, of the first of which so many bytes are written
abbrev pub unwritten : (at : ℕ) → List (List ℕ) → List (List ℕ)
unwritten at [] = []
unwritten at (reply ∷ replies) = drop at reply ∷ replies

-- each kept reply waits, and their bytes are counted
pub record AreReplies (at : ℕ) (kept : List (List ℕ)) (waiting : ℕ) : Type 0 where
  pub each : AllByRecursion IsUnwritten (unwritten at kept)
  pub none : kept ≡ [] → at ≡ 0
  pub counted : waiting ≡ length (concat (unwritten at kept))
  pub few : waiting ≤ 2 ^ 62

-- a block that fits a frame, also behind one octet more
abbrev pub IsShortBlock : List ℕ → Type 0
IsShortBlock block = length block < max_frame_size

-- the blocks that wait on a stream are short
pub record AreShort (front : Option Head) (trailers : Option (List ℕ)) : Type 0 where
  pub head : (h : Head) → front ≡ Some h → IsShortBlock h.block
  pub tail : (block : List ℕ) → trailers ≡ Some block → IsShortBlock block

abbrev pub IsShortGiven : Given → Type 0
IsShortGiven (given.Head head) = IsShortBlock head.block
IsShortGiven (given.Tail block) = IsShortBlock block
IsShortGiven _ = Unit {0}

-- something waits on each kept stream
pub record AreQueues (queues : List (ℕ × Waiting)) : Type 0 where
  pub ids : (id : ℕ) → IsSome (lookup (nat_eq id) queues) → IsStreamId id
  pub some : (id : ℕ) → lookup (nat_eq id) queues ≡ Some nothing → ⊥
