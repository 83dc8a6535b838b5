-- The function that reads a block answers exactly where the grammar holds.
use Rattle.std.proofs.Common.{◌≡◌, ℕ, zero, suc, ◌+◌, ◌<◌, ◌≤◌, true, false, leb, ltb, List, [], ◌∷◌, ◌++◌, length, drop, get_or, Option, Some, None, Ok, Err, inl, inr, ◌⊎◌, refl, sym, ap, subst, ◌∙◌, append_assoc, arith}
use Rattle.std.specs.Prelude.{Result, option_map}
use Rattle.std.proofs.lemmas.Bool.{cases_lt, cases_Bool, and_parts, leb-true, ltb-true, le-leb, lt-leb, lt-ltb, le-ltb}
use Rattle.std.proofs.lemmas.List.{length-append, drop_at, drop-drop}
use Rattle.hpack_codes.specs.Integers.{int_of}
use Rattle.hpack_blocks.specs.declared.fields.Field.{Field}
use Rattle.hpack_blocks.specs.declared.faults.BlockFault.{BlockFault}
use Rattle.hpack_blocks.specs.declared.faults.BlockFault.TheVariants.{Memory, BadBlock, TooLarge}
use Rattle.hpack_blocks.specs.Table.{Table, entry_at, added, resized}
use Rattle.hpack_blocks.specs.Reading.{number_at, string_at, name_at, literal_at, indexed_at, field_at, update_at}
use Rattle.hpack_blocks.specs.Block.{Block, fields_from, block_from, block_of, is_update}
use Rattle.hpack_blocks.specs.Grammar.{AreOctets, IsInteger, IsString, IsName, IsLiteral, IsRepresentation, Indexed, WithIndexing, WithoutIndexing, NeverIndexed, AreFields, NoMore, More, IsBlock, Fields, Update}
use Rattle.hpack_blocks.specs.Answers.{Standing, Open, Answers, Follows, Decodes}
use Rattle.hpack_blocks.proofs.FieldLemmas.{literal_parts, field_at-indexed, field_at-added, field_at-literal}
use Rattle.hpack_blocks.proofs.PartLemmas.{bind_some, map_some, some_is, octets_rest, first_of_front, IsFront, number_front, front_rest, front_is, integer_some, integer_again, HasFront, front_behind, string_found, string_again, name_found, name_again}
use Rattle.hpack_blocks.proofs.BlockLemmas.{with_fields, fields_head, fields_bad, fields_end, update_head, update_refused, update_none}

-- ---- literals

literal_joined : (entries : List Field) (prefix from below : ℕ) (bytes : List ℕ) (f : Field) (n : ℕ) (index : ℕ × ℕ) (name value : List ℕ × ℕ) (i : IsFront (int_of prefix) bytes index)
    (p : HasFront (λ front. IsName entries index.0 front name.0) i.rest name.1) (q : HasFront (λ front. IsString front value.0) p.rest value.1)
    → IsInteger prefix from below i.front index.0 → (let g : Field = record { name = name.0; value = value.0 } in let made : Field × ℕ = (g, index.1 + name.1 + value.1) in made ≡ (f, n))
    → HasFront (λ front. IsLiteral entries prefix from below front f) bytes n
literal_joined entries prefix from below bytes f n index name value i p q is ends =
    let g : Field = record { name = name.0; value = value.0 } in
    let same : g ≡ f = ap (λ (y : Field × ℕ). y.0) ends in
    let front = i.front ++ (p.front ++ q.front) in
    let made : IsLiteral entries prefix from below front g = record { index = index.0; head = i.front; name = p.front; value = q.front; joined = refl; is_index = is; is_name = p.is; is_value = q.is } in
    let count : index.1 + name.1 + value.1 ≡ length front = omega (arith, i.len, p.is_len, q.is_len, length-append i.front (p.front ++ q.front), length-append p.front q.front) in
    record {
      front = front;
      rest = q.rest;
      split = i.split ∙ ap (λ (xs : List ℕ). i.front ++ xs) (p.split ∙ ap (λ (xs : List ℕ). p.front ++ xs) q.split ∙ sym (append_assoc p.front q.front q.rest)) ∙ sym (append_assoc i.front (p.front ++ q.front) q.rest);
      is_len = sym (ap (λ (y : Field × ℕ). y.1) ends) ∙ count;
      is = subst (λ h. IsLiteral entries prefix from below front h) same made;
    }

literal_found : (entries : List Field) (prefix from below : ℕ) (bytes : List ℕ) (f : Field) (n : ℕ) → AreOctets bytes → from ≤ get_or bytes 0 0 → get_or bytes 0 0 < below → literal_at entries prefix bytes ≡ Some (f, n)
    → HasFront (λ front. IsLiteral entries prefix from below front f) bytes n
unfolding literal_at
literal_found entries prefix from below bytes f n are low high e =
    let p = bind_some (number_at prefix bytes) _ (f, n) e in
    let q = bind_some (name_at entries p.0.0 (drop p.0.1 bytes)) _ (f, n) p.2 in
    let r = bind_some (string_at (drop (p.0.1 + q.0.1) bytes)) _ (f, n) q.2 in
    let i = number_front prefix bytes p.0 p.1 in
    let behind = front_rest (int_of prefix) bytes p.0 i in
    let are_rest : AreOctets i.rest = octets_rest i.front i.rest (subst AreOctets i.split are) in
    let name : name_at entries p.0.0 i.rest ≡ Some (q.0.0, q.0.1) = ap (name_at entries p.0.0) (sym behind) ∙ q.1 in
    let named = name_found entries p.0.0 i.rest q.0.0 q.0.1 are_rest name in
    let are_last : AreOctets named.rest = octets_rest named.front named.rest (subst AreOctets named.split are_rest) in
    let last : drop (p.0.1 + q.0.1) bytes ≡ named.rest = sym (drop-drop q.0.1 p.0.1 bytes) ∙ ap (drop q.0.1) behind ∙ front_behind (λ front. IsName entries p.0.0 front q.0.0) i.rest q.0.1 named in
    let value : string_at named.rest ≡ Some (r.0.0, r.0.1) = ap string_at (sym last) ∙ r.1 in
    let valued = string_found named.rest r.0.0 r.0.1 are_last value in
    literal_joined entries prefix from below bytes f n p.0 q.0 r.0 i named valued (front_is prefix from below bytes p.0 i low high) (some_is r.2)

literal_again : (entries : List Field) (prefix from below : ℕ) (octets more : List ℕ) (f : Field) → IsLiteral entries prefix from below octets f → literal_at entries prefix (octets ++ more) ≡ Some (f, length octets)
literal_again entries prefix from below octets more f p =
    let split : octets ++ more ≡ p.head ++ (p.name ++ (p.value ++ more)) = ap (λ (xs : List ℕ). xs ++ more) p.joined ∙ append_assoc p.head (p.name ++ p.value) more ∙ ap (λ (xs : List ℕ). p.head ++ xs) (append_assoc p.name p.value more) in
    let number : number_at prefix (octets ++ more) ≡ Some (p.index, length p.head) = ap (number_at prefix) split ∙ integer_again prefix from below p.head p.index (p.name ++ (p.value ++ more)) p.is_index in
    let count : length p.head + length p.name + length p.value ≡ length octets = omega (arith, ap length p.joined, length-append p.head (p.name ++ p.value), length-append p.name p.value) in
    literal_parts entries prefix (octets ++ more) p.head p.name p.value more f p.index split number (name_again entries p.index p.name f.name (p.value ++ more) p.is_name) (string_again p.value f.value more p.is_value) ∙ ap (λ k. Some (f, k)) count

literal_some : (entries : List Field) (prefix from below : ℕ) (octets : List ℕ) (f : Field) → IsLiteral entries prefix from below octets f → 1 ≤ length octets
literal_some entries prefix from below octets f p = omega (arith, integer_some prefix from below p.head p.index p.is_index, ap length p.joined, length-append p.head (p.name ++ p.value))

literal_first : (entries : List Field) (prefix from below : ℕ) (octets more : List ℕ) (f : Field) → IsLiteral entries prefix from below octets f → (from ≤ get_or (octets ++ more) 0 0) × (get_or (octets ++ more) 0 0 < below)
literal_first entries prefix from below octets more f p =
    let split : octets ++ more ≡ p.head ++ ((p.name ++ p.value) ++ more) = ap (λ (xs : List ℕ). xs ++ more) p.joined ∙ append_assoc p.head (p.name ++ p.value) more in
    let at : get_or (octets ++ more) 0 0 ≡ get_or p.head 0 0 = ap (λ (xs : List ℕ). get_or xs 0 0) split ∙ first_of_front p.head ((p.name ++ p.value) ++ more) (integer_some prefix from below p.head p.index p.is_index) in
    (omega (arith, at, p.is_index.first_from), omega (arith, at, p.is_index.first_below))

-- ---- indexed fields

indexed_found : (entries : List Field) (bytes : List ℕ) (f : Field) (n : ℕ) → AreOctets bytes → 128 ≤ get_or bytes 0 0 → indexed_at entries bytes ≡ Some (f, n)
    → HasFront (λ front. (index : ℕ) × IsInteger 7 128 256 front index × (entry_at entries index ≡ Some f)) bytes n
unfolding indexed_at
indexed_found entries bytes f n are high e =
    let p = bind_some (number_at 7 bytes) _ (f, n) e in
    let q = bind_some (entry_at entries p.0.0) _ (f, n) p.2 in
    let i = number_front 7 bytes p.0 p.1 in
    let made : Field × ℕ = (q.0, p.0.1) in
    let want : Field × ℕ = (f, n) in
    let ends : made ≡ want = some_is q.2 in
    record {
      front = i.front;
      rest = i.rest;
      split = i.split;
      is_len = sym (ap (λ (y : Field × ℕ). y.1) ends) ∙ i.len;
      is = (p.0.0, front_is 7 128 256 bytes p.0 i high (are 0), q.1 ∙ ap (λ (g : Field). Some g) (ap (λ (y : Field × ℕ). y.0) ends));
    }

indexed_again : (entries : List Field) (octets more : List ℕ) (index : ℕ) (f : Field) → IsInteger 7 128 256 octets index → entry_at entries index ≡ Some f → indexed_at entries (octets ++ more) ≡ Some (f, length octets)
unfolding indexed_at
indexed_again entries octets more index f p e = rw (integer_again 7 128 256 octets index more p, e) refl

-- ---- representations

pub record IsField (t : Table) (bytes : List ℕ) (f : Field) (after : Table) (n : ℕ) : Type 0 where
  pub some : 1 ≤ n
  pub has : HasFront (λ front. IsRepresentation t front f after) bytes n

field_ends : (t : Table) (bytes : List ℕ) (n : ℕ) (f g : Field) (t' after : Table) (m : ℕ) → (let made : Field × Table × ℕ = (g, t', m) in made ≡ (f, after, n)) → IsField t bytes g t' m → IsField t bytes f after n
field_ends t bytes n f g t' after m e p = subst (λ (x : Field × Table × ℕ). IsField t bytes x.0 x.1 x.2) e p

field_literal : (t : Table) (bytes : List ℕ) (f : Field) (n prefix from below : ℕ) (after : Table) → ((front : List ℕ) → IsLiteral t.entries prefix from below front f → IsRepresentation t front f after)
    → HasFront (λ front. IsLiteral t.entries prefix from below front f) bytes n → IsField t bytes f after n
field_literal t bytes f n prefix from below after gives p = record {
  some = omega (arith, p.is_len, literal_some t.entries prefix from below p.front f p.is);
  has = record { front = p.front; rest = p.rest; split = p.split; is_len = p.is_len; is = gives p.front p.is };
}

field_high : (t : Table) (bytes : List ℕ) → 128 ≤ get_or bytes 0 0 → field_at t bytes ≡ option_map (λ x. (x.0, t, x.1)) (indexed_at t.entries bytes)
unfolding field_at
field_high t bytes h = rw (le-leb 128 (get_or bytes 0 0) h) refl

field_middle : (t : Table) (bytes : List ℕ) → 64 ≤ get_or bytes 0 0 → get_or bytes 0 0 < 128 → field_at t bytes ≡ option_map (λ x. (x.0, added t x.0, x.1)) (literal_at t.entries 6 bytes)
unfolding field_at
field_middle t bytes from below = rw (lt-leb 128 (get_or bytes 0 0) below, le-leb 64 (get_or bytes 0 0) from) refl

field_update : (t : Table) (bytes : List ℕ) → 32 ≤ get_or bytes 0 0 → get_or bytes 0 0 < 64 → field_at t bytes ≡ None
unfolding field_at
field_update t bytes from below = rw (lt-leb 128 (get_or bytes 0 0) (omega arith), lt-leb 64 (get_or bytes 0 0) below, le-leb 32 (get_or bytes 0 0) from) refl

field_low : (t : Table) (bytes : List ℕ) → get_or bytes 0 0 < 32 → field_at t bytes ≡ option_map (λ x. (x.0, t, x.1)) (literal_at t.entries 4 bytes)
unfolding field_at
field_low t bytes below = rw (lt-leb 128 (get_or bytes 0 0) (omega arith), lt-leb 64 (get_or bytes 0 0) (omega arith), lt-leb 32 (get_or bytes 0 0) below) refl

found_high : (t : Table) (bytes : List ℕ) (f : Field) (after : Table) (n : ℕ) → AreOctets bytes → 128 ≤ get_or bytes 0 0 → field_at t bytes ≡ Some (f, after, n) → IsField t bytes f after n
found_high t bytes f after n are high e =
    let p = map_some (indexed_at t.entries bytes) (λ x. (x.0, t, x.1)) (f, after, n) (sym (field_high t bytes high) ∙ e) in
    let q = indexed_found t.entries bytes p.0.0 p.0.1 are high p.1 in
    let made : IsField t bytes p.0.0 t p.0.1 = record {
      some = omega (arith, q.is_len, integer_some 7 128 256 q.front q.is.0 q.is.1);
      has = record { front = q.front; rest = q.rest; split = q.split; is_len = q.is_len; is = Indexed q.is.0 q.is.1 q.is.2 refl };
    } in
    field_ends t bytes n f p.0.0 t after p.0.1 p.2 made

found_middle : (t : Table) (bytes : List ℕ) (f : Field) (after : Table) (n : ℕ) → AreOctets bytes → 64 ≤ get_or bytes 0 0 → get_or bytes 0 0 < 128 → field_at t bytes ≡ Some (f, after, n) → IsField t bytes f after n
found_middle t bytes f after n are from below e =
    let p = map_some (literal_at t.entries 6 bytes) (λ x. (x.0, added t x.0, x.1)) (f, after, n) (sym (field_middle t bytes from below) ∙ e) in
    let q = literal_found t.entries 6 64 128 bytes p.0.0 p.0.1 are from below p.1 in
    field_ends t bytes n f p.0.0 (added t p.0.0) after p.0.1 p.2 (field_literal t bytes p.0.0 p.0.1 6 64 128 (added t p.0.0) (λ front is. WithIndexing is refl) q)

found_low : (t : Table) (bytes : List ℕ) (f : Field) (after : Table) (n : ℕ) → AreOctets bytes → get_or bytes 0 0 < 32 → field_at t bytes ≡ Some (f, after, n) → IsField t bytes f after n
found_low t bytes f after n are below e =
    let p = map_some (literal_at t.entries 4 bytes) (λ x. (x.0, t, x.1)) (f, after, n) (sym (field_low t bytes below) ∙ e) in
    field_ends t bytes n f p.0.0 t after p.0.1 p.2 (elim (cases_lt (get_or bytes 0 0) 16) [
      | inl lt ↦ field_literal t bytes p.0.0 p.0.1 4 0 16 t (λ front is. WithoutIndexing is refl) (literal_found t.entries 4 0 16 bytes p.0.0 p.0.1 are (omega arith) lt p.1)
      | inr le ↦ field_literal t bytes p.0.0 p.0.1 4 16 32 t (λ front is. NeverIndexed is refl) (literal_found t.entries 4 16 32 bytes p.0.0 p.0.1 are le below p.1)
    ])

none_is : (x : Field × Table × ℕ) → (let none : Option (Field × Table × ℕ) = None in none ≡ Some x) → ⊥
none_is x e = cc

field_found : (t : Table) (bytes : List ℕ) (f : Field) (after : Table) (n : ℕ) → AreOctets bytes → field_at t bytes ≡ Some (f, after, n) → IsField t bytes f after n
field_found t bytes f after n are e =
    elim (cases_lt (get_or bytes 0 0) 128) [
      | inl below ↦ elim (cases_lt (get_or bytes 0 0) 64) [
        | inl low ↦ elim (cases_lt (get_or bytes 0 0) 32) [
          | inl least ↦ found_low t bytes f after n are least e
          | inr update ↦ absurd (none_is (f, after, n) (sym (field_update t bytes update low) ∙ e))
        ]
        | inr from ↦ found_middle t bytes f after n are from below e
      ]
      | inr high ↦ found_high t bytes f after n are high e
    ]

pub record IsAgain (t : Table) (octets : List ℕ) (f : Field) (after : Table) (more : List ℕ) : Type 0 where
  pub some : 1 ≤ length octets
  pub no_update : is_update (get_or (octets ++ more) 0 0) ≡ false
  pub reads : field_at t (octets ++ more) ≡ Some (f, after, length octets)

update_low : (first : ℕ) → first < 32 → is_update first ≡ false
update_low first low = rw (lt-leb 32 first low) refl

update_high : (first : ℕ) → 64 ≤ first → is_update first ≡ false
update_high first high = rw (le-leb 32 first (omega arith), le-ltb first 64 high) refl

update_is : (first : ℕ) → 32 ≤ first → first < 64 → is_update first ≡ true
update_is first from below = rw (le-leb 32 first from, lt-ltb first 64 below) refl

again_low : (t : Table) (octets more : List ℕ) (f : Field) (from below : ℕ) → below ≤ 32 → IsLiteral t.entries 4 from below octets f → IsAgain t octets f t more
again_low t octets more f from below low p =
    let first = literal_first t.entries 4 from below octets more f p in
    record {
      some = literal_some t.entries 4 from below octets f p;
      no_update = update_low (get_or (octets ++ more) 0 0) (omega (arith, first.1));
      reads = field_at-literal t (octets ++ more) f (length octets) (omega (arith, first.1)) (literal_again t.entries 4 from below octets more f p);
    }

field_again : (t : Table) (octets more : List ℕ) (f : Field) (after : Table) → IsRepresentation t octets f after → IsAgain t octets f after more
field_again t octets more f after (Indexed index p e is) =
    let some = integer_some 7 128 256 octets index p in
    let first : get_or (octets ++ more) 0 0 ≡ get_or octets 0 0 = first_of_front octets more some in
    let high : 128 ≤ get_or (octets ++ more) 0 0 = omega (arith, first, p.first_from) in
    rw is (record { some = some; no_update = update_high (get_or (octets ++ more) 0 0) (omega arith); reads = field_at-indexed t (octets ++ more) f (length octets) high (indexed_again t.entries octets more index f p e) })
field_again t octets more f after (WithIndexing p is) =
    let first = literal_first t.entries 6 64 128 octets more f p in
    rw is (record { some = literal_some t.entries 6 64 128 octets f p; no_update = update_high (get_or (octets ++ more) 0 0) first.0; reads = field_at-added t (octets ++ more) f (length octets) first.0 first.1 (literal_again t.entries 6 64 128 octets more f p) })
field_again t octets more f after (WithoutIndexing p is) = rw is (again_low t octets more f 0 16 (omega arith) p)
field_again t octets more f after (NeverIndexed p is) = rw is (again_low t octets more f 16 32 (omega arith) p)

-- ---- fields

with_some : (f : Field) (read : Block) (fields : List Field) (after : Table) → with_fields (f ∷ []) read ≡ Some (fields, after) → (others : List Field) × (read ≡ Some (others, after)) × (fields ≡ f ∷ others)
with_some f (Some x) fields after e =
    let made : List Field × Table = (f ∷ x.0, x.1) in
    let want : List Field × Table = (fields, after) in
    let ends : made ≡ want = some_is e in
    (x.0, ap (λ (y : List Field × Table). Some (x.0, y.1)) ends, sym (ap (λ (y : List Field × Table). y.0) ends))
with_some f None fields after e = absurd cc

fields_again : (t : Table) (octets : List ℕ) (fields : List Field) (after : Table) → AreFields t octets fields after → fields_from t 0 octets ≡ Some (fields, after)
fields_again t octets fields after (NoMore _) = fields_end t
fields_again t octets fields after (More _ between _ front rest f others p others_are) =
    let again = field_again t front rest f between p in
    let all : length (front ++ rest) ≡ length front + length rest = length-append front rest in
    let head = fields_head (front ++ rest) t between f (length front) (omega (arith, all, again.some)) again.some (omega (arith, all)) again.reads in
    let behind : drop (length front) (front ++ rest) ≡ rest = drop_at front rest (length front) refl in
    head ∙ ap (λ (xs : List ℕ). with_fields (f ∷ []) (fields_from between 0 xs)) behind ∙ ap (with_fields (f ∷ [])) (fields_again between rest others after others_are)

field_cases : (o : Option (Field × Table × ℕ)) → (o ≡ None) ⊎ ((x : Field × Table × ℕ) × (o ≡ Some x))
field_cases None = inl refl
field_cases (Some x) = inr (x, refl)

no_block : (x : List Field × Table) → (let none : Block = None in none ≡ Some x) → ⊥
no_block x e = cc

end_found : (t : Table) (bytes : List ℕ) (fields : List Field) (after : Table) → bytes ≡ [] → fields_from t 0 bytes ≡ Some (fields, after) → AreFields t bytes fields after
end_found t bytes fields after none e =
    let made : List Field × Table = ([], t) in
    let want : List Field × Table = (fields, after) in
    let ends : made ≡ want = some_is (sym (fields_end t) ∙ (rw none at e)) in
    rw none (subst (λ (x : List Field × Table). AreFields t [] x.0 x.1) ends (NoMore t))

fields_found : (most : ℕ) (t : Table) (bytes : List ℕ) (fields : List Field) (after : Table) → length bytes ≤ most → AreOctets bytes → fields_from t 0 bytes ≡ Some (fields, after) → AreFields t bytes fields after
fields_found most t [] fields after short are e = end_found t [] fields after refl e
fields_found zero t (b ∷ bytes) fields after short are e = absurd (omega arith)
fields_found (suc most) t (b ∷ bytes) fields after short are e =
    elim (field_cases (field_at t (b ∷ bytes))) [
      | inl none ↦ absurd (no_block (fields, after) (sym (fields_bad (b ∷ bytes) t (omega arith) none) ∙ e))
      | inr (x, is) ↦
          let p = field_found t (b ∷ bytes) x.0 x.1 x.2 are is in
          let h = p.has in
          let count : length (b ∷ bytes) ≡ length h.front + length h.rest = ap length h.split ∙ length-append h.front h.rest in
          let head = fields_head (b ∷ bytes) t x.1 x.0 x.2 (omega arith) p.some (omega (arith, count, h.is_len)) is in
          let behind = front_behind (λ front. IsRepresentation t front x.0 x.1) (b ∷ bytes) x.2 h in
          let q = with_some x.0 (fields_from x.1 0 (drop x.2 (b ∷ bytes))) fields after (sym head ∙ e) in
          let left : fields_from x.1 0 h.rest ≡ Some (q.0, after) = ap (fields_from x.1 0) (sym behind) ∙ q.1 in
          let later = fields_found most x.1 h.rest q.0 after (omega (arith, count, h.is_len, p.some, short)) (octets_rest h.front h.rest (subst AreOctets h.split are)) left in
          rw (h.split, q.2) (More t x.1 after h.front h.rest x.0 q.0 h.is later)
    ]

-- ---- blocks

update_found : (t t' : Table) (bytes : List ℕ) (n : ℕ) → 32 ≤ get_or bytes 0 0 → get_or bytes 0 0 < 64 → update_at t bytes ≡ Some (t', n)
    → HasFront (λ front. (max : ℕ) × IsInteger 5 32 64 front max × (max ≤ 4096) × (resized t max ≡ t')) bytes n
unfolding update_at
update_found t t' bytes n from below e =
    let p = bind_some (number_at 5 bytes) _ (t', n) e in
    let i = number_front 5 bytes p.0 p.1 in
    elim (cases_lt 4096 p.0.0) [
      | inl large ↦ absurd (let none = rw (lt-leb p.0.0 4096 large) at p.2 in cc)
      | inr most ↦
          let made : Table × ℕ = (resized t p.0.0, p.0.1) in
          let want : Table × ℕ = (t', n) in
          let ends : made ≡ want = some_is (rw (le-leb p.0.0 4096 most) at p.2) in
          record {
            front = i.front;
            rest = i.rest;
            split = i.split;
            is_len = sym (ap (λ (y : Table × ℕ). y.1) ends) ∙ i.len;
            is = (p.0.0, front_is 5 32 64 bytes p.0 i from below, most, ap (λ (y : Table × ℕ). y.0) ends);
          }
    ]

update_again : (t : Table) (octets more : List ℕ) (max : ℕ) → IsInteger 5 32 64 octets max → max ≤ 4096 → update_at t (octets ++ more) ≡ Some (resized t max, length octets)
unfolding update_at
update_again t octets more max p most = rw (integer_again 5 32 64 octets max more p, le-leb max 4096 most) refl

fields_no_update : (t : Table) (octets : List ℕ) (fields : List Field) (after : Table) → AreFields t octets fields after → is_update (get_or octets 0 0) ≡ false
fields_no_update t octets fields after (NoMore _) = refl
fields_no_update t octets fields after (More _ between _ front rest f others p others_are) = (field_again t front rest f between p).no_update

pub block_again : (t : Table) (octets : List ℕ) (fields : List Field) (after : Table) → IsBlock t octets fields after → block_of t octets ≡ Some (fields, after)
block_again t octets fields after (Fields _ _ _ _ p) = update_none octets t (fields_no_update t octets fields after p) ∙ fields_again t octets fields after p
block_again t octets fields after (Update _ _ front rest max _ p most q) =
    let some = integer_some 5 32 64 front max p in
    let first : get_or (front ++ rest) 0 0 ≡ get_or front 0 0 = first_of_front front rest some in
    let all : length (front ++ rest) ≡ length front + length rest = length-append front rest in
    let is : is_update (get_or (front ++ rest) 0 0) ≡ true = update_is (get_or (front ++ rest) 0 0) (omega (arith, first, p.first_from)) (omega (arith, first, p.first_below)) in
    let behind : drop (length front) (front ++ rest) ≡ rest = drop_at front rest (length front) refl in
    update_head (front ++ rest) t (resized t max) (length front) (omega (arith, all, some)) is some (omega (arith, all)) (update_again t front rest max p most)
    ∙ ap (block_from (resized t max) 0) behind ∙ block_again (resized t max) rest fields after q

table_cases : (o : Option (Table × ℕ)) → (o ≡ None) ⊎ ((x : Table × ℕ) × (o ≡ Some x))
table_cases None = inl refl
table_cases (Some x) = inr (x, refl)

block_ends : (t : Table) (bytes : List ℕ) (fields : List Field) (after : Table) → block_from t 0 bytes ≡ Some (fields, after) → is_update (get_or bytes 0 0) ≡ false → AreOctets bytes → IsBlock t bytes fields after
block_ends t bytes fields after e is are = Fields t after bytes fields (fields_found (length bytes) t bytes fields after (omega arith) are (sym (update_none bytes t is) ∙ e))

block_found_from : (most : ℕ) (t : Table) (bytes : List ℕ) (fields : List Field) (after : Table) → length bytes ≤ most → AreOctets bytes → block_from t 0 bytes ≡ Some (fields, after) → IsBlock t bytes fields after
block_found_from most t [] fields after short are e = block_ends t [] fields after e refl are
block_found_from zero t (b ∷ bytes) fields after short are e = absurd (omega arith)
block_found_from (suc most) t (b ∷ bytes) fields after short are e =
    elim (cases_Bool (is_update b)) [
      | inl is ↦ elim (table_cases (update_at t (b ∷ bytes))) [
        | inl none ↦ absurd (no_block (fields, after) (sym (update_refused (b ∷ bytes) t (omega arith) is none) ∙ e))
        | inr (x, made) ↦
            let bounds = and_parts (leb 32 b) (ltb b 64) is in
            let h = update_found t x.0 (b ∷ bytes) x.1 (leb-true 32 b bounds.0) (ltb-true b 64 bounds.1) made in
            let some = integer_some 5 32 64 h.front h.is.0 h.is.1 in
            let count : length (b ∷ bytes) ≡ length h.front + length h.rest = ap length h.split ∙ length-append h.front h.rest in
            let head = update_head (b ∷ bytes) t x.0 x.1 (omega arith) is (omega (arith, h.is_len, some)) (omega (arith, count, h.is_len)) made in
            let behind : drop x.1 (b ∷ bytes) ≡ h.rest = front_behind _ (b ∷ bytes) x.1 h in
            let left : block_from (resized t h.is.0) 0 h.rest ≡ Some (fields, after) = ap (λ (u : Table). block_from u 0 h.rest) h.is.3 ∙ ap (block_from x.0 0) (sym behind) ∙ sym head ∙ e in
            let later = block_found_from most (resized t h.is.0) h.rest fields after (omega (arith, count, some, short)) (octets_rest h.front h.rest (subst AreOctets h.split are)) left in
            rw h.split (Update t after h.front h.rest h.is.0 fields h.is.1 h.is.2 later)
      ]
      | inr not ↦ block_ends t (b ∷ bytes) fields after e not are
    ]

pub block_found : (t : Table) (octets : List ℕ) (fields : List Field) (after : Table) → AreOctets octets → block_of t octets ≡ Some (fields, after) → IsBlock t octets fields after
block_found t octets fields after are e = block_found_from (length octets) t octets fields after (omega arith) are e

-- ---- what a decoder answers

follows : (t : Table) (block : List ℕ) (r : Result (List Field) BlockFault) (new : Standing) → AreOctets block → Answers r (block_of t block) new → Follows r t block new
follows t block (Ok fields) new are p = (p.0, block_found t block fields p.0 are p.1, p.2, p.3)
follows t block (Err (TooLarge size)) new are p = (p.0, p.1, block_found t block p.0 p.1 are p.2, p.3, p.4, p.5)
follows t block (Err BadBlock) new are p = (λ fields after is. no_block (fields, after) (sym p.0 ∙ block_again t block fields after is), p.1)
follows t block (Err Memory) new are p = p

pub follows_grammar : (t : Table) (old : Standing) (block : List ℕ) (r : Result (List Field) BlockFault) (new : Standing) → AreOctets block → Decodes old block r new → old ≡ Open t → Follows r t block new
follows_grammar t old block r new are p is = follows t block r new are (subst (λ (s : Standing). Decodes s block r new) is p)
