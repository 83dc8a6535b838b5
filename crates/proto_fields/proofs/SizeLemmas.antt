-- The payloads of a message are shorter than the message, since each has its tag.
use Rattle.std.proofs.Common.{◌≡◌, ℕ, zero, suc, ◌+◌, ◌-◌, ◌<◌, ◌≤◌, Bool, true, false, cond, List, [], ◌∷◌, length, map, Option, Some, None, Result, Ok, Err, refl, ap, subst, ◌∙◌, sum_by, arith}
use Rattle.std.specs.Prelude.{◌==◌, if◌then◌else◌}
use Rattle.std.specs.List.{filter_map, cons_option}
use Rattle.std.proofs.lemmas.List.Sums.{sum_by-cons}
use Rattle.proto_fields.specs.Record.{Payload, Varint, Fixed64, Len, Fixed32, Record, record_at}
use Rattle.proto_fields.specs.Message.{Placed, with_first, first_and_others, placed_from, placed_of, contents, fields_of}
use Rattle.proto_fields.specs.Selection.{bytes_in, bytes_for, payloads_of}
use Rattle.proto_fields.proofs.RecordLemmas.{content, record_at-lies, length-lies}

-- a record, with one byte for its tag
abbrev pub room : Record → ℕ
room r = length (content r.payload) + 1

abbrev placed_room : Placed → ℕ
placed_room p = room p.content

room_first : (p : Placed) (others : Result (List Placed) ℕ) (ps : List Placed) (n m : ℕ) → with_first p others ≡ Ok ps → ((qs : List Placed) → others ≡ Ok qs → sum_by placed_room qs ≤ n) → placed_room p + n ≤ m
    → sum_by placed_room ps ≤ m
room_first p (Ok qs) ps n m e behind fits =
    let same : p ∷ qs ≡ ps = cc in
    subst (λ (xs : List Placed). sum_by placed_room xs ≤ m) same (omega (arith, sum_by-cons placed_room p qs, behind qs refl))
room_first p (Err at) ps n m e behind fits = absurd cc

room_read : (at b : ℕ) (bytes : List ℕ) (read : Option (Record × List ℕ)) (others : ℕ → Result (List Placed) ℕ) (ps : List Placed) → record_at (b ∷ bytes) ≡ read
    → ((held : ℕ) (qs : List Placed) → held ≤ length bytes → others held ≡ Ok qs → sum_by placed_room qs ≤ length bytes - held) → first_and_others at bytes read others ≡ Ok ps
    → sum_by placed_room ps ≤ length (b ∷ bytes)
room_read at b bytes None others ps is behind e = absurd cc
room_read at b bytes (Some read) others ps is behind e =
    let lies = record_at-lies (b ∷ bytes) read.0 read.1 is in
    let size = length-lies (b ∷ bytes) read.0.payload read.1 0 lies in
    let held : ℕ = length bytes - length read.1 in
    let p : Placed = record { tag = at; end = at + 1 + held; content = read.0 } in
    room_first p (others held) ps (length bytes - held) (length (b ∷ bytes)) e (λ qs. behind held qs (omega arith)) (omega (arith, size, lies.more))

room_from : (at : ℕ) (bytes : List ℕ) (held : ℕ) (ps : List Placed) → held ≤ length bytes → placed_from at bytes held ≡ Ok ps → sum_by placed_room ps ≤ length bytes - held
unfolding placed_from
room_from at [] held ps h e =
    let same : [] ≡ ps = cc in
    subst (λ (xs : List Placed). sum_by placed_room xs ≤ 0 - held) same (omega arith)
room_from at (b ∷ bytes) (suc held) ps h e = omega (arith, room_from (at + 1) bytes held ps (omega arith) e)
room_from at (b ∷ bytes) zero ps h e =
    omega (arith, room_read at b bytes (record_at (b ∷ bytes)) (placed_from (at + 1) bytes) ps refl (λ held qs. room_from (at + 1) bytes held qs) e)

-- bytes, with one more for their tag
abbrev pub tagged : List ℕ → ℕ
tagged bytes = length bytes + 1

tagged_in : (p : Payload) (others : List (List ℕ)) (n : ℕ) → sum_by tagged others ≤ n → sum_by tagged (cons_option (bytes_in p) others) ≤ length (content p) + 1 + n
tagged_in (Varint x) others n h = omega (arith, h)
tagged_in (Fixed64 x) others n h = omega (arith, h)
tagged_in (Len bytes) others n h = omega (arith, h, sum_by-cons tagged bytes others)
tagged_in (Fixed32 x) others n h = omega (arith, h)

tagged_for : (same : Bool) (p : Payload) (others : List (List ℕ)) (n : ℕ) → sum_by tagged others ≤ n → sum_by tagged (cons_option (if same then bytes_in p else None) others) ≤ length (content p) + 1 + n
tagged_for true p others n h = tagged_in p others n h
tagged_for false p others n h = omega (arith, h)

tagged_room : (number : ℕ) (ps : List Placed) → sum_by tagged (payloads_of number (map (λ p. p.content) ps)) ≤ sum_by placed_room ps
tagged_room number [] = omega arith
tagged_room number (p ∷ ps) =
    let here = tagged_for (p.content.number == number) p.content.payload (payloads_of number (map (λ (q : Placed). q.content) ps)) (sum_by placed_room ps) (tagged_room number ps) in
    omega (arith, here, sum_by-cons placed_room p ps)

payloads_within : (bytes : List ℕ) (records : List Record) (placed : Result (List Placed) ℕ) (number : ℕ) → placed_of bytes ≡ placed → contents placed ≡ Ok records
    → sum_by tagged (payloads_of number records) ≤ length bytes
payloads_within bytes records (Ok ps) number is e =
    let same : map (λ (p : Placed). p.content) ps ≡ records = cc in
    subst (λ (rs : List Record). sum_by tagged (payloads_of number rs) ≤ length bytes) same (omega (arith, tagged_room number ps, room_from 0 bytes 0 ps (omega arith) is))
payloads_within bytes records (Err at) number is e = absurd cc

pub payloads_are_shorter : (bytes : List ℕ) (records : List Record) (number : ℕ) → fields_of bytes ≡ Ok records → sum_by (λ (p : List ℕ). length p + 1) (payloads_of number records) ≤ length bytes
payloads_are_shorter bytes records number e = payloads_within bytes records (placed_of bytes) number refl e
