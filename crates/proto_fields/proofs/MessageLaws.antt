-- A message is its first record, and the message behind it.
use Rattle.std.proofs.Common.{◌≡◌, ℕ, zero, suc, ◌+◌, ◌-◌, List, [], ◌∷◌, length, Option, Some, None, Result, Ok, Err, refl, sym, ap, ◌∙◌, arith}
use Rattle.proto_fields.specs.Record.{Record, record_at}
use Rattle.proto_fields.specs.Message.{Placed, with_first, first_and_others, placed_from, contents, fields_of}
use Rattle.proto_fields.proofs.MessageLemmas.{placed_from-record, placed_from-bad}

-- the same records at places further on
moved : ℕ → Result (List Record) ℕ → Result (List Record) ℕ
moved by (Ok records) = Ok records
moved by (Err at) = Err (at + by)

moved-with_first : (by : ℕ) (r : Record) (others : Result (List Record) ℕ) → with_first r (moved by others) ≡ moved by (with_first r others)
unfolding moved
moved-with_first by r (Ok others) = refl
moved-with_first by r (Err at) = refl

pub contents-with_first : (p : Placed) (others : Result (List Placed) ℕ) → contents (with_first p others) ≡ with_first p.content (contents others)
contents-with_first p (Ok placed) = refl
contents-with_first p (Err at) = refl

moved-first : (by at : ℕ) (bytes : List ℕ) (read : Option (Record × List ℕ)) (there here : ℕ → Result (List Placed) ℕ) → ((held : ℕ) → contents (there held) ≡ moved by (contents (here held)))
    → contents (first_and_others (at + by) bytes read there) ≡ moved by (contents (first_and_others at bytes read here))
unfolding moved
moved-first by at bytes None there here h = refl
moved-first by at bytes (Some read) there here h =
    let held : ℕ = length bytes - length read.1 in
    contents-with_first (record { tag = at + by; end = at + by + 1 + held; content = read.0 }) (there held)
    ∙ ap (with_first read.0) (h held)
    ∙ moved-with_first by read.0 (contents (here held))
    ∙ sym (ap (moved by) (contents-with_first (record { tag = at; end = at + 1 + held; content = read.0 }) (here held)))

placed_from-moved : (by at : ℕ) (bytes : List ℕ) (held : ℕ) → contents (placed_from (at + by) bytes held) ≡ moved by (contents (placed_from at bytes held))
unfolding moved placed_from
placed_from-moved by at [] held = refl
placed_from-moved by at (b ∷ bytes) (suc held) =
    let e : at + by + 1 ≡ at + 1 + by = omega arith in
    rw e (placed_from-moved by (at + 1) bytes held)
placed_from-moved by at (b ∷ bytes) zero =
    let e : at + by + 1 ≡ at + 1 + by = omega arith in
    moved-first by at bytes (record_at (b ∷ bytes)) (placed_from (at + by + 1) bytes) (placed_from (at + 1) bytes) (λ held. rw e (placed_from-moved by (at + 1) bytes held))

fields_of-read : (bytes rest : List ℕ) (first : Record) → record_at bytes ≡ Some (first, rest) → fields_of bytes ≡ with_first first (moved (length bytes - length rest) (fields_of rest))
fields_of-read bytes rest first e =
    let next : ℕ = length bytes - length rest in
    let place : 0 + next ≡ next = omega arith in
    let one : placed_from 0 bytes 0 ≡ with_first (record { tag = 0; end = next; content = first }) (placed_from next rest 0) = rw place at (placed_from-record 0 bytes first rest e) in
    let others : contents (placed_from next rest 0) ≡ moved next (fields_of rest) = rw place at (placed_from-moved next 0 rest 0) in
    ap contents one ∙ contents-with_first (record { tag = 0; end = next; content = first }) (placed_from next rest 0) ∙ ap (with_first first) others

pub fields_of-record : (bytes rest : List ℕ) (first : Record) (others : List Record) → record_at bytes ≡ Some (first, rest) → fields_of rest ≡ Ok others → fields_of bytes ≡ Ok (first ∷ others)
unfolding moved
fields_of-record bytes rest first others e behind = fields_of-read bytes rest first e ∙ ap (λ read. with_first first (moved (length bytes - length rest) read)) behind

pub fields_of-bad_behind : (bytes rest : List ℕ) (first : Record) (at : ℕ) → record_at bytes ≡ Some (first, rest) → fields_of rest ≡ Err at → fields_of bytes ≡ Err (at + (length bytes - length rest))
unfolding moved
fields_of-bad_behind bytes rest first at e behind = fields_of-read bytes rest first e ∙ ap (λ read. with_first first (moved (length bytes - length rest) read)) behind

pub fields_of-bad : (b : ℕ) (bytes : List ℕ) → record_at (b ∷ bytes) ≡ None → fields_of (b ∷ bytes) ≡ Err 0
fields_of-bad b bytes e = ap contents (placed_from-bad 0 (b ∷ bytes) (omega arith) e)
