-- Which frame of a stream is due, by what waits on it.
use Rattle.std.proofs.Common.{◌≡◌, ℕ, ◌+◌, ◌<◌, ◌≤◌, ℤ, Bool, true, false, List, [], ◌∷◌, length, take, drop, get_or, None, Some, refl, sym, ap, ◌∙◌, arith, length-take, lit<, lit≤}
use Rattle.std.specs.Prelude.{unwrap_or}
use Rattle.std.specs.Bool.{then_some}
use Rattle.std.proofs.lemmas.Int.{ints}
use Rattle.h2_frames.specs.declared.frame.Frame.TheVariants as frames
use Rattle.h2_frames.specs.Spelling.{spelling, frame_len}
use Rattle.h2_answers.specs.declared.part.Head.{Head}
use Rattle.h2_answers.specs.declared.part.Part.{Part}
use Rattle.h2_answers.specs.declared.part.Part.TheVariants as part
use Rattle.h2_answers.specs.Bounds.{Bounds}
use Rattle.h2_answers.specs.Waiting.{Waiting, data_of}
use Rattle.h2_answers.specs.Due.{IsBest, block_of, head_block, frame_of, NoneFits, IsNextPart}
use Rattle.h2_answers.specs.Search.{IsGreatestLen}
use Rattle.h2_answers.specs.Laws.{CanCarryData, MayCarryData}

-- ---- how long a frame is

pub frame_len-headers : (id : ℕ) (end : Bool) (block : List ℕ) → frame_len (frames.Headers id end true block) ≡ 9 + length block
unfolding spelling
frame_len-headers id end block = omega arith

pub frame_len-body : (id : ℕ) (bytes : List ℕ) (n : ℕ) → frame_len (frames.Body id false bytes n) ≡ 9 + length bytes
unfolding spelling
frame_len-body id bytes n = omega arith

pub frame_len-reset : (id code : ℕ) → frame_len (frames.Reset id code) ≡ 13
unfolding spelling
frame_len-reset id code = refl

module _ (bounds : Bounds) (id : ℕ) (waiting : Waiting) where
  -- ---- HEADERS wait first

  head-len : (end : Bool) (head : Head) → waiting.head ≡ Some head → frame_len (frame_of bounds.first id waiting (part.Head end)) ≡ 9 + length (block_of bounds.first head.block)
  head-len end head e =
      frame_len-headers id end (block_of bounds.first (head_block waiting.head)) ∙ ap (λ h. 9 + length (block_of bounds.first (head_block h))) e

  pub none-head : (head : Head) → waiting.head ≡ Some head → bounds.room < 9 + length (block_of bounds.first head.block) → NoneFits bounds id waiting
  none-head head e small (part.Head end) due fits = omega (arith, head-len end head e)
  none-head head e small (part.Body len) due fits = let none = due.0.0 in cc
  none-head head e small part.Tail due fits = let none = due.0.0 in cc
  none-head head e small (part.Reset code) due fits = let none = due.0.0 in cc

  pub best-head : (head : Head) → waiting.head ≡ Some head → 9 + length (block_of bounds.first head.block) ≤ bounds.room → IsBest bounds id waiting (part.Head head.end)
  best-head head e room = record {
    due = ((head, e, refl), tt);
    fits = omega (arith, head-len head.end head e);
    full = tt;
  }

  -- ---- DATA wait first

  body-len : (len : ℕ) → len ≤ length (data_of waiting) → frame_len (frame_of bounds.first id waiting (part.Body len)) ≡ 9 + len
  body-len len h = omega (arith, frame_len-body id (take len (data_of waiting)) len, length-take len (data_of waiting))

  data-some : 0 < length (data_of waiting) → data_of waiting ≡ [] → ⊥
  data-some some e = omega (arith, ap length e)

  pub none-body : waiting.head ≡ None → 0 < length (data_of waiting) → IsGreatestLen bounds.room bounds.connection (bounds.send_window id) (length (data_of waiting)) 0 → NoneFits bounds id waiting
  none-body e some greatest (part.Head end) due fits = let other = due.0.1 in cc
  none-body e some greatest (part.Body len) due fits =
      let past = greatest.greatest len due.0.1 due.0.2 due.0.3 due.1.0 due.1.1 in
      omega (arith, body-len len due.0.3)
  none-body e some greatest part.Tail due fits = data-some some due.0.1
  none-body e some greatest (part.Reset code) due fits = data-some some due.0.1

  pub best-body : (len : ℕ) → 0 < len → waiting.head ≡ None → IsGreatestLen bounds.room bounds.connection (bounds.send_window id) (length (data_of waiting)) len → IsBest bounds id waiting (part.Body len)
  best-body len some e g = record {
    due = ((e, some, g.in_frame, g.in_waiting), (g.in_window some, g.in_connection some));
    fits = omega (arith, body-len len g.in_waiting, g.in_room some);
    full = λ more larger small there free. g.greatest more larger small there free.0 free.1;
  }

  -- DATA go where a byte of them does
  pub CanCarryData-parts : CanCarryData bounds id waiting → MayCarryData bounds id waiting
  CanCarryData-parts can = record {
    head = can.due.0.0;
    some = omega (arith, can.due.0.1, can.due.0.3);
    stream = omega (arith, ints, can.due.0.1, can.due.1.0);
    connection = omega (arith, ints, can.due.0.1, can.due.1.1);
    room = omega (arith, can.due.0.1, can.fits, body-len can.len can.due.0.3);
  }

  pub MayCarryData-one : MayCarryData bounds id waiting → CanCarryData bounds id waiting
  MayCarryData-one may = record {
    len = 1;
    due = ((may.head, lit< tt, lit≤ tt, may.some), (omega (arith, ints, may.stream), omega (arith, ints, may.connection)));
    fits = omega (arith, may.room, body-len 1 may.some);
  }

  -- ---- trailers wait first

  tail-len : (block : List ℕ) → waiting.tail ≡ Some block → frame_len (frame_of bounds.first id waiting part.Tail) ≡ 9 + length (block_of bounds.first block)
  tail-len block e =
      frame_len-headers id true (block_of bounds.first (unwrap_or waiting.tail [])) ∙ ap (λ t. 9 + length (block_of bounds.first (unwrap_or t []))) e

  data-none : data_of waiting ≡ [] → (len : ℕ) → 0 < len → len ≤ length (data_of waiting) → ⊥
  data-none none len some there = omega (arith, ap length none)

  pub none-tail : (block : List ℕ) → waiting.head ≡ None → data_of waiting ≡ [] → waiting.tail ≡ Some block → bounds.room < 9 + length (block_of bounds.first block) → NoneFits bounds id waiting
  none-tail block e none t small (part.Head end) due fits = let other = due.0.1 in cc
  none-tail block e none t small (part.Body len) due fits = data-none none len due.0.1 due.0.3
  none-tail block e none t small part.Tail due fits = omega (arith, tail-len block t)
  none-tail block e none t small (part.Reset code) due fits = let other = due.0.2 in cc

  pub best-tail : (block : List ℕ) → waiting.head ≡ None → data_of waiting ≡ [] → waiting.tail ≡ Some block → 9 + length (block_of bounds.first block) ≤ bounds.room → IsBest bounds id waiting part.Tail
  best-tail block e none t room = record {
    due = ((e, none, rw t refl), tt);
    fits = omega (arith, tail-len block t);
    full = tt;
  }

  -- ---- resets alone wait

  pub none-reset : waiting.head ≡ None → data_of waiting ≡ [] → waiting.tail ≡ None
      → ((code : ℕ) → waiting.resets ≡ code ∷ drop 1 waiting.resets → bounds.is_held id ≡ false → 13 ≤ bounds.room → ⊥) → NoneFits bounds id waiting
  none-reset e none t unfit (part.Head end) due fits = let other = due.0.1 in cc
  none-reset e none t unfit (part.Body len) due fits = data-none none len due.0.1 due.0.3
  none-reset e none t unfit part.Tail due fits = let some = due.0.2 in cc
  none-reset e none t unfit (part.Reset code) due fits = unfit code due.0.3 due.1 (omega (arith, frame_len-reset id code))

  pub best-reset : (code : ℕ) → waiting.head ≡ None → data_of waiting ≡ [] → waiting.tail ≡ None → waiting.resets ≡ code ∷ drop 1 waiting.resets
      → bounds.is_held id ≡ false → 13 ≤ bounds.room → IsBest bounds id waiting (part.Reset code)
  best-reset code e none t first free room = record {
    due = ((e, none, t, first), free);
    fits = omega (arith, frame_len-reset id code);
    full = tt;
  }

-- ---- as the code counts

pub IsGreatestLen-same : {room : ℕ} {connection connection' window window' : ℤ} {waiting waiting' len : ℕ} → IsGreatestLen room connection' window' waiting' len → connection' ≡ connection → window' ≡ window → waiting' ≡ waiting
    → IsGreatestLen room connection window waiting len
IsGreatestLen-same h a b c = rw (← a, ← b, ← c) h

-- a list that has a first item begins with it
pub begins-with : (codes : List ℕ) (code : ℕ) → 0 < length codes → code ≡ get_or codes 0 code → codes ≡ code ∷ drop 1 codes
begins-with [] code some e = absurd (omega arith)
begins-with (x ∷ xs) code some e = ap (λ y. y ∷ xs) (sym e)

-- the part where a test holds
pub IsNextPart-then_some : (bounds : Bounds) (id : ℕ) (waiting : Waiting) (test : Bool) (p : Part) → (test ≡ true → IsBest bounds id waiting p) → (test ≡ false → NoneFits bounds id waiting)
    → IsNextPart bounds id waiting (then_some test p)
IsNextPart-then_some bounds id waiting true p best none = best refl
IsNextPart-then_some bounds id waiting false p best none = none refl
