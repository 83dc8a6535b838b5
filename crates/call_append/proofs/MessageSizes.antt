-- The payloads of a message's fields together have fewer bytes than the message.
use Rattle.std.proofs.Common.{◌≡◌, ℕ, zero, suc, ◌+◌, ◌-◌, ◌≤◌, ◌<◌, Bool, true, false, cond, eqb, List, [], ◌∷◌, ◌++◌, length, map, sum_by, Option, Some, None, Result, Ok, Err, IfOk, IfSome, refl, sym, ap, ◌∙◌, length-append, arith}
use Rattle.std.specs.List.{concat, cons_option}
use Rattle.std.proofs.lemmas.List.Sums.{sum_by-cons}
use Rattle.proto_fields.specs.Record.{Payload, Varint, Fixed64, Len, Fixed32, Record, record_at}
use Rattle.proto_fields.specs.Message.{Placed, with_first, first_and_others, placed_from, placed_of, contents, fields_of}
use Rattle.proto_fields.specs.Selection.{bytes_in, bytes_for, payloads_of, merged_of}
use Rattle.proto_fields.proofs.RecordLemmas.{content, record_at-lies}

-- a record takes its tag, which has a byte at least, and the bytes of its payload
abbrev pub cost : Record → ℕ
cost r = 1 + length (content r.payload)

abbrev placed_cost : Placed → ℕ
placed_cost p = cost p.content

record_costs : (bytes rest : List ℕ) (r : Record) → record_at bytes ≡ Some (r, rest) → cost r + length rest ≤ length bytes
record_costs bytes rest r e =
    let h = record_at-lies bytes r rest e in
    let size : length bytes ≡ length h.before + (length (content r.payload) + length rest) =
    ap length h.whole ∙ length-append h.before (content r.payload ++ rest) ∙ ap (λ (n : ℕ). length h.before + n) (length-append (content r.payload) rest) in
    omega (arith, h.more, size)

-- one byte more stands in front
later : (held size : ℕ) (r : Result (List Placed) ℕ) → IfOk r (λ placed. held + sum_by placed_cost placed ≤ size) → IfOk r (λ placed. suc held + sum_by placed_cost placed ≤ suc size)
later held size (Ok placed) fits = omega (arith, fits)
later held size (Err at) fits = tt

in_front : (p : Placed) (held size : ℕ) (r : Result (List Placed) ℕ) → placed_cost p ≤ suc held → IfOk r (λ placed. held + sum_by placed_cost placed ≤ size) → IfOk (with_first p r) (λ placed. zero + sum_by placed_cost placed ≤ suc size)
in_front p held size (Ok placed) small fits = omega (arith, small, fits, sum_by-cons placed_cost p placed)
in_front p held size (Err at) small fits = tt

abbrev Fits : ℕ → List ℕ → Type 0
Fits at bytes = (held : ℕ) → held ≤ length bytes → IfOk (placed_from at bytes held) (λ placed. held + sum_by placed_cost placed ≤ length bytes)

first : (at b : ℕ) (bytes : List ℕ) (o : Option (Record × List ℕ)) → record_at (b ∷ bytes) ≡ o → Fits (at + 1) bytes
    → IfOk (first_and_others at bytes o (placed_from (at + 1) bytes)) (λ placed. zero + sum_by placed_cost placed ≤ suc (length bytes))
first at b bytes None e others = tt
first at b bytes (Some (r, rest)) e others =
    let held : ℕ = length bytes - length rest in
    let size = record_costs (b ∷ bytes) rest r e in
    in_front (record { tag = at; end = at + 1 + held; content = r }) held (length bytes) (placed_from (at + 1) bytes held) (omega (arith, size)) (others held (omega arith))

fits : (at : ℕ) (bytes : List ℕ) → Fits at bytes
unfolding placed_from
fits at [] zero inside = omega arith
fits at [] (suc held) inside = absurd (omega (arith, inside))
fits at (b ∷ bytes) zero inside = first at b bytes (record_at (b ∷ bytes)) refl (fits (at + 1) bytes)
fits at (b ∷ bytes) (suc held) inside = later held (length bytes) (placed_from (at + 1) bytes held) (fits (at + 1) bytes held (omega (arith, inside)))

sum-contents : (placed : List Placed) → sum_by cost (map (λ p. p.content) placed) ≡ sum_by placed_cost placed
sum-contents [] = refl
sum-contents (p ∷ placed) = sum_by-cons cost p.content (map (λ p. p.content) placed) ∙ ap (λ (n : ℕ). placed_cost p + n) (sum-contents placed) ∙ sym (sum_by-cons placed_cost p placed)

in_contents : (size : ℕ) (r : Result (List Placed) ℕ) → IfOk r (λ placed. zero + sum_by placed_cost placed ≤ size) → IfOk (contents r) (λ records. sum_by cost records ≤ size)
in_contents size (Ok placed) fits = omega (arith, fits, sum-contents placed)
in_contents size (Err at) fits = tt

pub fields_fit : (bytes : List ℕ) → IfOk (fields_of bytes) (λ records. sum_by cost records ≤ length bytes)
fields_fit bytes = in_contents (length bytes) (placed_of bytes) (fits 0 bytes zero (omega arith))

-- the payloads of one field
payload_costs : (number : ℕ) (r : Record) (o : Option (List ℕ)) → bytes_for number r ≡ o → IfSome o (λ bytes. 1 + length bytes ≤ cost r)
payload_costs number r o e = of r.payload (eqb r.number number) o e
  where
    of : (p : Payload) (same : Bool) (o : Option (List ℕ)) → cond same (bytes_in p) None ≡ o → IfSome o (λ bytes. 1 + length bytes ≤ 1 + length (content p))
    of p same None e = tt
    of (Len bytes) true (Some found) e = omega (arith, ap (λ (x : Option (List ℕ)). length (some_or x)) e)
      where
        some_or : Option (List ℕ) → List ℕ
        some_or (Some x) = x
        some_or None = []
    of (Varint n) true (Some found) e = absurd cc
    of (Fixed64 n) true (Some found) e = absurd cc
    of (Fixed32 n) true (Some found) e = absurd cc
    of p false (Some found) e = absurd cc

with_one : (number : ℕ) (r : Record) (o : Option (List ℕ)) (more : List (List ℕ)) (rest : ℕ) → bytes_for number r ≡ o → length more + sum_by length more ≤ rest
    → length (cons_option o more) + sum_by length (cons_option o more) ≤ cost r + rest
with_one number r (Some bytes) more rest e small = omega (arith, payload_costs number r (Some bytes) e, small, sum_by-cons length bytes more)
with_one number r None more rest e small = omega (arith, small)

pub payloads_fit : (number : ℕ) (records : List Record) → length (payloads_of number records) + sum_by length (payloads_of number records) ≤ sum_by cost records
payloads_fit number [] = omega arith
payloads_fit number (r ∷ records) =
    rw (sum_by-cons cost r records) (with_one number r (bytes_for number r) (payloads_of number records) (sum_by cost records) refl (payloads_fit number records))

length-concat : (parts : List (List ℕ)) → length (concat parts) ≡ sum_by length parts
length-concat [] = refl
length-concat (x ∷ parts) = length-append x (concat parts) ∙ ap (λ (n : ℕ). length x + n) (length-concat parts) ∙ sym (sum_by-cons length x parts)

merged_size : (parts : List (List ℕ)) → IfSome (merged_of parts) (λ whole. length whole ≤ sum_by length parts)
merged_size [] = tt
merged_size (x ∷ parts) = omega (arith, length-concat (x ∷ parts))

-- a message within a message is smaller
pub merged_fits : (number : ℕ) (records : List Record) → IfSome (merged_of (payloads_of number records)) (λ whole. length whole ≤ sum_by cost records)
merged_fits number records = smaller (merged_of (payloads_of number records)) (merged_size (payloads_of number records))
  where
    smaller : (o : Option (List ℕ)) → IfSome o (λ whole. length whole ≤ sum_by length (payloads_of number records)) → IfSome o (λ whole. length whole ≤ sum_by cost records)
    smaller (Some whole) small = omega (arith, small, payloads_fit number records)
    smaller None small = tt
