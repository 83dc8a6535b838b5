-- Bytes that go in turns, with waits between them.
use Rattle.std.proofs.Common.{◌≡◌, ℕ, ◌+◌, ◌-◌, ◌<◌, Bool, true, false, List, ◌++◌, length, take, drop, Option, Ok, sym, ap, subst, ◌∙◌, arith, length-drop}
use Rattle.std.proofs.lemmas.List.{take-append-drop}
use Rattle.std.proofs.Math.Seq.{take-add, take-length}
use Rattle.links.specs.Link.{Moved, Waits}
use Rattle.links.specs.declared.link.LinkFailed.{LinkFailed}
use Rattle.links.specs.Pieces.{TookPieces}
use Rattle.links.proofs.PieceLemmas.{took_more}
use Rattle.conn_loop.specs.Settling.{TookFirst}

rest_is : (at : ℕ) (bytes : List ℕ) → take (length bytes - at) (drop at bytes) ≡ drop at bytes
rest_is at bytes = ap (λ n. take n (drop at bytes)) (sym (length-drop at bytes)) ∙ take-length (drop at bytes)

-- some of the rest went
pub sent_more : (log0 between log : Option (List Moved)) (bytes : List ℕ) (at n : ℕ) → TookPieces log0 between (take at bytes)
    → TookPieces between log (take n (take (length bytes - at) (drop at bytes))) → TookPieces log0 log (take (at + n) bytes)
sent_more log0 between log bytes at n first then =
    let P : List ℕ → Type 0 = λ rest. TookPieces between log (take n rest) in
    let next : TookPieces between log (take n (drop at bytes)) = subst P (rest_is at bytes) then in
    rw (take-add at n bytes) (took_more log0 between log (take at bytes) (take n (drop at bytes)) first next)

-- all of the rest went
pub sent_all : (log0 between log : Option (List Moved)) (bytes : List ℕ) (at : ℕ) → TookPieces log0 between (take at bytes)
    → TookPieces between log (take (length bytes - at) (drop at bytes)) → TookPieces log0 log bytes
sent_all log0 between log bytes at first then =
    let next : TookPieces between log (drop at bytes) = subst (TookPieces between log) (rest_is at bytes) then in
    subst (TookPieces log0 log) (take-append-drop at bytes) (took_more log0 between log (take at bytes) (drop at bytes) first next)

pub sent_first : (log0 log : Option (List Moved)) (bytes : List ℕ) (at : ℕ) → TookPieces log0 log (take at bytes) → TookFirst log0 log bytes
sent_first log0 log bytes at took =
    record { pieces = took.pieces; left = drop at bytes; told = took.told; joined = ap (λ front. front ++ drop at bytes) took.joined ∙ take-append-drop at bytes }

pub within_more : (bytes : List ℕ) (at n : ℕ) → at < length bytes → n < length (take (length bytes - at) (drop at bytes)) → at + n < length bytes
within_more bytes at n within some = omega (arith, within, some, ap length (rest_is at bytes), length-drop at bytes)

-- a wait behind a write that wasn't ready isn't told
pub untold : (blocked : Bool) (log0 log : Option (List Moved)) (before now : ℕ) → blocked ≡ true
    → Waits {U = Unit {0}} {E = LinkFailed} (Ok tt) blocked log0 log before now → (log ≡ log0) × (now ≡ before)
untold true log0 log before now is waits = waits
untold false log0 log before now is waits = absurd cc
