-- Integers, strings and names: what is read is spelled so, and what is spelled so is read.
use Rattle.std.proofs.Common.{◌≡◌, ℕ, zero, suc, ◌+◌, ◌-◌, ◌*◌, ◌%◌, ◌^◌, ◌<◌, ◌≤◌, Bool, true, false, ltb, List, [], ◌∷◌, ◌++◌, length, take, drop, get_or, Option, Some, None, Ok, Err, inl, inr, refl, sym, ap, subst, ◌∙◌, append_assoc, cond, arith}
use Rattle.std.specs.Prelude.{Result, option_and_then, option_map}
use Rattle.std.specs.Result.{result_ok}
use Rattle.std.proofs.Math.Seq.{take-length}
use Rattle.std.proofs.lemmas.Bool.{cases_lt, lt-ltb, le-ltb, ltb-false}
use Rattle.std.proofs.lemmas.List.{append-nil, length-append, length-take, take_at, drop_at, take-append-drop}
use Rattle.hpack_codes.specs.Integers.{Number, with_octet, groups_of, above, int_of}
use Rattle.hpack_codes.specs.Huffman.{huffman_of}
use Rattle.hpack_codes.specs.declared.faults.IntFault.{IntFault}
use Rattle.hpack_codes.proofs.LawLemmas.{huffman_found, huffman_only}
use Rattle.hpack_blocks.specs.declared.fields.Field.{Field}
use Rattle.hpack_blocks.specs.Table.{entry_at}
use Rattle.hpack_blocks.specs.Reading.{number_at, octets_of, string_at, name_at}
use Rattle.hpack_blocks.specs.Grammar.{AreOctets, IsInteger, IsString, Plain, Coded, IsName, OfEntry, New}

-- ---- steps of a reading

pub bind_some : {A B : Type 0} (o : Option A) (f : A → Option B) (y : B) → option_and_then f o ≡ Some y → (x : A) × (o ≡ Some x) × (f x ≡ Some y)
bind_some (Some x) f y e = (x, refl, e)
bind_some None f y e = absurd cc

pub map_some : {A B : Type 0} (o : Option A) (f : A → B) (y : B) → option_map f o ≡ Some y → (x : A) × (o ≡ Some x) × (f x ≡ y)
map_some (Some x) f y e = (x, refl, cc)
map_some None f y e = absurd cc

pub unless_some : {A : Type 0} (b : Bool) (o : Option A) (y : A) → cond b None o ≡ Some y → (b ≡ false) × (o ≡ Some y)
unless_some false o y e = (refl, e)
unless_some true o y e = absurd cc

pub some_is : {A : Type 0} {x y : A} → Some x ≡ Some y → x ≡ y
some_is e = cc

length_take : (n : ℕ) (xs : List ℕ) → n ≤ length xs → length (take n xs) ≡ n
length_take n xs h = omega (arith, length-take n xs)

ok_some : {A E : Type 0} (r : Result A E) (x : A) → result_ok r ≡ Some x → r ≡ Ok x
ok_some (Ok y) x e = cc
ok_some (Err fault) x e = absurd cc

pub octets_rest : (front rest : List ℕ) → AreOctets (front ++ rest) → AreOctets rest
octets_rest [] rest h = h
octets_rest (b ∷ front) rest h = octets_rest front rest (λ i. h (suc i))

pub first_of_front : (front rest : List ℕ) → 1 ≤ length front → get_or (front ++ rest) 0 0 ≡ get_or front 0 0
first_of_front [] rest h = absurd (omega arith)
first_of_front (b ∷ front) rest h = refl

-- ---- integers

-- a number at the head of bytes: its octets, which say the same whatever follows them
pub record IsFront (read : List ℕ → Number) (bytes : List ℕ) (x : ℕ × ℕ) : Type 0 where
  pub front : List ℕ
  pub rest : List ℕ
  pub split : bytes ≡ front ++ rest
  pub len : x.1 ≡ length front
  pub some : 1 ≤ length front
  pub again : (more : List ℕ) → read (front ++ more) ≡ Ok x

ok_is : (x y : ℕ × ℕ) → (let r : Number = Ok x in r ≡ Ok y) → x ≡ y
ok_is x y e = cc

with_octet_ok : (b : ℕ) (r : Number) (x : ℕ × ℕ) → with_octet b r ≡ Ok x → (y : ℕ × ℕ) × (r ≡ Ok y) × ((b % 128 + 128 * y.0, y.1 + 1) ≡ x)
with_octet_ok b (Ok y) x e = (y, refl, ok_is (b % 128 + 128 * y.0, y.1 + 1) x e)
with_octet_ok b (Err fault) x e = absurd cc

group_last : (most b : ℕ) (bytes : List ℕ) → b < 128 → groups_of (suc most) (b ∷ bytes) ≡ Ok (b, 1)
unfolding groups_of
group_last most b bytes lt = rw (lt-ltb b 128 lt) refl

group_more : (most b : ℕ) (bytes : List ℕ) → 128 ≤ b → groups_of (suc most) (b ∷ bytes) ≡ with_octet b (groups_of most bytes)
unfolding groups_of
group_more most b bytes le = rw (le-ltb b 128 le) refl

groups_none : (most : ℕ) (x : ℕ × ℕ) → groups_of most [] ≡ Ok x → ⊥
unfolding groups_of
groups_none most x e = cc

groups_most : (b : ℕ) (bytes : List ℕ) (x : ℕ × ℕ) → groups_of 0 (b ∷ bytes) ≡ Ok x → ⊥
unfolding groups_of
groups_most b bytes x e = cc

front_one : (read : List ℕ → Number) (b : ℕ) (bytes : List ℕ) (x y : ℕ × ℕ) → x ≡ y → x.1 ≡ 1 → ((more : List ℕ) → read (b ∷ more) ≡ Ok x) → IsFront read (b ∷ bytes) y
front_one read b bytes x y same one again = rw (← same) (record { front = b ∷ []; rest = bytes; split = refl; len = omega (arith, one); some = omega arith; again = again })

groups_front : (most : ℕ) (bytes : List ℕ) (x : ℕ × ℕ) → groups_of most bytes ≡ Ok x → IsFront (groups_of most) bytes x
groups_front most [] x e = absurd (groups_none most x e)
groups_front zero (b ∷ bytes) x e = absurd (groups_most b bytes x e)
groups_front (suc most) (b ∷ bytes) x e =
    elim (cases_lt b 128) [
      | inl lt ↦ front_one (groups_of (suc most)) b bytes (b, 1) x (ok_is (b, 1) x (sym (group_last most b bytes lt) ∙ e)) refl (λ more. group_last most b more lt)
      | inr le ↦
          let p = with_octet_ok b (groups_of most bytes) x (sym (group_more most b bytes le) ∙ e) in
          let q = groups_front most bytes p.0 p.1 in
          let made : IsFront (groups_of (suc most)) (b ∷ bytes) (b % 128 + 128 * p.0.0, p.0.1 + 1) = record {
            front = b ∷ q.front;
            rest = q.rest;
            split = ap (λ (xs : List ℕ). b ∷ xs) q.split;
            len = omega (arith, q.len);
            some = omega arith;
            again = λ more. group_more most b (q.front ++ more) le ∙ ap (with_octet b) (q.again more);
          } in
          rw (← p.2) made
    ]

above_ok : (full : ℕ) (r : Number) (x : ℕ × ℕ) → above full r ≡ Ok x → (y : ℕ × ℕ) × (r ≡ Ok y) × (above full (Ok y) ≡ Ok x)
above_ok full (Ok y) x e = (y, refl, e)
above_ok full (Err fault) x e = absurd cc

above_len_by : (b : Bool) (y x : ℕ × ℕ) (fault : IntFault) → (let r : Number = cond b (Ok y) (Err fault) in r ≡ Ok x) → y ≡ x
above_len_by true y x fault e = ok_is y x e
above_len_by false y x fault e = absurd cc

above_len : (full : ℕ) (y x : ℕ × ℕ) → above full (Ok y) ≡ Ok x → (full + y.0, y.1 + 1) ≡ x
above_len full y x e = above_len_by (ltb (full + y.0) (2 ^ 32)) (full + y.0, y.1 + 1) x _ e

int_low : (prefix b : ℕ) (bytes : List ℕ) → b % 2 ^ prefix < 2 ^ prefix - 1 → int_of prefix (b ∷ bytes) ≡ Ok (b % 2 ^ prefix, 1)
int_low prefix b bytes lt = rw (lt-ltb (b % 2 ^ prefix) (2 ^ prefix - 1) lt) refl

int_full : (prefix b : ℕ) (bytes : List ℕ) → 2 ^ prefix - 1 ≤ b % 2 ^ prefix → int_of prefix (b ∷ bytes) ≡ above (2 ^ prefix - 1) (groups_of 5 bytes)
int_full prefix b bytes le = rw (le-ltb (b % 2 ^ prefix) (2 ^ prefix - 1) le) refl

pub int_front : (prefix : ℕ) (bytes : List ℕ) (x : ℕ × ℕ) → int_of prefix bytes ≡ Ok x → IsFront (int_of prefix) bytes x
int_front prefix [] x e = absurd cc
int_front prefix (b ∷ bytes) x e =
    elim (cases_lt (b % 2 ^ prefix) (2 ^ prefix - 1)) [
      | inl lt ↦ front_one (int_of prefix) b bytes (b % 2 ^ prefix, 1) x (ok_is (b % 2 ^ prefix, 1) x (sym (int_low prefix b bytes lt) ∙ e)) refl (λ more. int_low prefix b more lt)
      | inr le ↦
          let p = above_ok (2 ^ prefix - 1) (groups_of 5 bytes) x (sym (int_full prefix b bytes le) ∙ e) in
          let q = groups_front 5 bytes p.0 p.1 in
          let is = above_len (2 ^ prefix - 1) p.0 x p.2 in
          record {
            front = b ∷ q.front;
            rest = q.rest;
            split = ap (λ (xs : List ℕ). b ∷ xs) q.split;
            len = sym (ap (λ (y : ℕ × ℕ). y.1) is) ∙ (let n : p.0.1 + 1 ≡ length (b ∷ q.front) = omega (arith, q.len) in n);
            some = omega arith;
            again = λ more. int_full prefix b (q.front ++ more) le ∙ ap (above (2 ^ prefix - 1)) (q.again more) ∙ p.2;
          }
    ]

pub number_front : (prefix : ℕ) (bytes : List ℕ) (x : ℕ × ℕ) → number_at prefix bytes ≡ Some x → IsFront (int_of prefix) bytes x
number_front prefix bytes x e = int_front prefix bytes x (ok_some (int_of prefix bytes) x e)

-- what is left behind the number
pub front_rest : (read : List ℕ → Number) (bytes : List ℕ) (x : ℕ × ℕ) (p : IsFront read bytes x) → drop x.1 bytes ≡ p.rest
front_rest read bytes x p = rw p.split (drop_at p.front p.rest x.1 (sym p.len))

pub front_is : (prefix from below : ℕ) (bytes : List ℕ) (x : ℕ × ℕ) (p : IsFront (int_of prefix) bytes x) → from ≤ get_or bytes 0 0 → get_or bytes 0 0 < below → IsInteger prefix from below p.front x.0
front_is prefix from below bytes x p low high =
    let first : get_or bytes 0 0 ≡ get_or p.front 0 0 = ap (λ (xs : List ℕ). get_or xs 0 0) p.split ∙ first_of_front p.front p.rest p.some in
    let alone : int_of prefix p.front ≡ Ok x = ap (int_of prefix) (sym (append-nil p.front)) ∙ p.again [] in
    record { first_from = omega (arith, first); first_below = omega (arith, first); whole = alone ∙ ap (λ n. Ok (x.0, n)) p.len }

pub integer_some : (prefix from below : ℕ) (head : List ℕ) (v : ℕ) → IsInteger prefix from below head v → 1 ≤ length head
integer_some prefix from below [] v p = absurd (let e = p.whole in cc)
integer_some prefix from below (b ∷ head) v p = omega arith

pub integer_again : (prefix from below : ℕ) (head : List ℕ) (v : ℕ) (more : List ℕ) → IsInteger prefix from below head v → number_at prefix (head ++ more) ≡ Some (v, length head)
integer_again prefix from below head v more p =
    let q = int_front prefix head (v, length head) p.whole in
    let all : q.front ≡ head = sym (take_at q.front q.rest (length head) (sym q.len)) ∙ sym (ap (take (length head)) q.split) ∙ take-length head in
    ap result_ok (ap (λ (xs : List ℕ). int_of prefix (xs ++ more)) (sym all) ∙ q.again more)

-- ---- strings

-- a part at the head of bytes
pub record HasFront (Is : List ℕ → Type 0) (bytes : List ℕ) (len : ℕ) : Type 0 where
  pub front : List ℕ
  pub rest : List ℕ
  pub split : bytes ≡ front ++ rest
  pub is_len : len ≡ length front
  pub is : Is front

pub front_behind : (Is : List ℕ → Type 0) (bytes : List ℕ) (len : ℕ) (p : HasFront Is bytes len) → drop len bytes ≡ p.rest
front_behind Is bytes len p = rw p.split (drop_at p.front p.rest len (sym p.is_len))

octets_plain : (first : ℕ) (payload text : List ℕ) → first < 128 → octets_of first payload ≡ Some text → payload ≡ text
octets_plain first payload text lt e = let same : octets_of first payload ≡ Some payload = rw (lt-ltb first 128 lt) refl in cc

octets_coded : (first : ℕ) (payload text : List ℕ) → 128 ≤ first → octets_of first payload ≡ Some text → huffman_of payload ≡ Ok text
octets_coded first payload text le e = ok_some (huffman_of payload) text (let same : octets_of first payload ≡ result_ok (huffman_of payload) = rw (le-ltb first 128 le) refl in sym same ∙ e)

string_is : (head payload text : List ℕ) (len first : ℕ) → first ≡ get_or head 0 0 → length payload ≡ len → IsInteger 7 0 256 head len → octets_of first payload ≡ Some text → IsString (head ++ payload) text
string_is head payload text len first is count p e =
    elim (cases_lt first 128) [
      | inl lt ↦
          let same : payload ≡ text = octets_plain first payload text lt e in
          let whole : int_of 7 head ≡ Ok (length text, length head) = rw (← same, count) p.whole in
          Plain head (ap (λ (xs : List ℕ). head ++ xs) same) (record { first_from = omega arith; first_below = omega (arith, is); whole = whole })
      | inr le ↦
          let whole : int_of 7 head ≡ Ok (length payload, length head) = rw count p.whole in
          Coded head payload refl (record { first_from = omega (arith, is); first_below = p.first_below; whole = whole }) (huffman_found payload text (octets_coded first payload text le e))
    ]

pub string_found : (bytes text : List ℕ) (n : ℕ) → AreOctets bytes → string_at bytes ≡ Some (text, n) → HasFront (λ front. IsString front text) bytes n
unfolding string_at
string_found bytes text n are e =
    let p = bind_some (number_at 7 bytes) _ (text, n) e in
    let q = bind_some _ _ (text, n) p.2 in
    let i = number_front 7 bytes p.0 p.1 in
    let behind = front_rest (int_of 7) bytes p.0 i in
    let r = unless_some (ltb (length (drop p.0.1 bytes)) p.0.0) (octets_of (get_or bytes 0 0) (take p.0.0 (drop p.0.1 bytes))) q.0 q.1 in
    let enough : p.0.0 ≤ length i.rest = rw (← behind) (ltb-false (length (drop p.0.1 bytes)) p.0.0 r.0) in
    let payload = take p.0.0 i.rest in
    let octets : octets_of (get_or bytes 0 0) payload ≡ Some q.0 = rw (← behind) r.1 in
    let first : get_or bytes 0 0 ≡ get_or i.front 0 0 = ap (λ (xs : List ℕ). get_or xs 0 0) i.split ∙ first_of_front i.front i.rest i.some in
    let count : length payload ≡ p.0.0 = length_take p.0.0 i.rest enough in
    let is : IsString (i.front ++ payload) q.0 = string_is i.front payload q.0 p.0.0 (get_or bytes 0 0) first count (front_is 7 0 256 bytes p.0 i (omega arith) (are 0)) octets in
    let total : p.0.1 + p.0.0 ≡ length (i.front ++ payload) = omega (arith, i.len, count, length-append i.front payload) in
    let made : List ℕ × ℕ = (q.0, p.0.1 + p.0.0) in
    let want : List ℕ × ℕ = (text, n) in
    let ends : made ≡ want = some_is q.2 in
    record {
      front = i.front ++ payload;
      rest = drop p.0.0 i.rest;
      split = i.split ∙ ap (λ (xs : List ℕ). i.front ++ xs) (sym (take-append-drop p.0.0 i.rest)) ∙ sym (append_assoc i.front payload (drop p.0.0 i.rest));
      is_len = sym (ap (λ (y : List ℕ × ℕ). y.1) ends) ∙ total;
      is = subst (λ t. IsString (i.front ++ payload) t) (ap (λ (y : List ℕ × ℕ). y.0) ends) is;
    }

string_again_by : (head payload text more : List ℕ) (first : ℕ) → get_or head 0 0 ≡ first → IsInteger 7 0 256 head (length payload) → octets_of first payload ≡ Some text → string_at ((head ++ payload) ++ more) ≡ Some (text, length (head ++ payload))
unfolding string_at
string_again_by head payload text more first is p octets =
    let regrouped : (head ++ payload) ++ more ≡ head ++ (payload ++ more) = append_assoc head payload more in
    let len = integer_again 7 0 256 head (length payload) (payload ++ more) p in
    let behind : drop (length head) (head ++ (payload ++ more)) ≡ payload ++ more = drop_at head (payload ++ more) (length head) refl in
    let enough : ltb (length (payload ++ more)) (length payload) ≡ false = le-ltb (length (payload ++ more)) (length payload) (omega (arith, length-append payload more)) in
    let front : take (length payload) (payload ++ more) ≡ payload = take_at payload more (length payload) refl in
    let at : get_or (head ++ (payload ++ more)) 0 0 ≡ first = first_of_front head (payload ++ more) (integer_some 7 0 256 head (length payload) p) ∙ is in
    let total : length head + length payload ≡ length (head ++ payload) = omega (arith, length-append head payload) in
    rw (regrouped, len, behind, enough, at, front, octets, total) refl

pub string_again : (octets text more : List ℕ) → IsString octets text → string_at (octets ++ more) ≡ Some (text, length octets)
string_again octets text more (Plain head split p) =
    let wide : IsInteger 7 0 256 head (length text) = record { first_from = omega arith; first_below = omega (arith, p.first_below); whole = p.whole } in
    let plain : octets_of (get_or head 0 0) text ≡ Some text = rw (lt-ltb (get_or head 0 0) 128 p.first_below) refl in
    rw split (string_again_by head text text more (get_or head 0 0) refl wide plain)
string_again octets text more (Coded head code split p coded) =
    let wide : IsInteger 7 0 256 head (length code) = record { first_from = omega arith; first_below = p.first_below; whole = p.whole } in
    let decoded : octets_of (get_or head 0 0) code ≡ Some text = rw (le-ltb (get_or head 0 0) 128 p.first_from, huffman_only code text coded) refl in
    rw split (string_again_by head code text more (get_or head 0 0) refl wide decoded)

-- ---- names

name_entry : (entries : List Field) (index : ℕ) (bytes : List ℕ) (name : List ℕ) (n : ℕ) (f : Field) → entry_at entries index ≡ Some f → (let made : List ℕ × ℕ = (f.name, 0) in made ≡ (name, n)) → HasFront (λ front. IsName entries index front name) bytes n
name_entry entries index bytes name n f e is =
    let named : f.name ≡ name = ap (λ (y : List ℕ × ℕ). y.0) is in
    let none : 0 ≡ n = ap (λ (y : List ℕ × ℕ). y.1) is in
    record { front = []; rest = bytes; split = refl; is_len = omega (arith, none); is = OfEntry f e refl (sym named) }

pub name_found : (entries : List Field) (index : ℕ) (bytes name : List ℕ) (n : ℕ) → AreOctets bytes → name_at entries index bytes ≡ Some (name, n) → HasFront (λ front. IsName entries index front name) bytes n
unfolding name_at
name_found entries zero bytes name n are e =
    let p = string_found bytes name n are e in
    record { front = p.front; rest = p.rest; split = p.split; is_len = p.is_len; is = New refl p.is }
name_found entries (suc i) bytes name n are e =
    let p = map_some (entry_at entries (suc i)) (λ f. (f.name, 0)) (name, n) e in
    name_entry entries (suc i) bytes name n p.0 p.1 p.2

no_entry : (entries : List Field) (f : Field) → entry_at entries 0 ≡ Some f → ⊥
unfolding entry_at
no_entry entries f e = cc

name_again_entry : (entries : List Field) (index : ℕ) (more : List ℕ) (f : Field) → entry_at entries index ≡ Some f → name_at entries index more ≡ Some (f.name, 0)
unfolding name_at
name_again_entry entries zero more f e = absurd (no_entry entries f e)
name_again_entry entries (suc i) more f e = rw e refl

name_again_new : (entries : List Field) (index : ℕ) (octets name more : List ℕ) → index ≡ 0 → IsString octets name → name_at entries index (octets ++ more) ≡ Some (name, length octets)
unfolding name_at
name_again_new entries index octets name more is p = rw is (string_again octets name more p)

pub name_again : (entries : List Field) (index : ℕ) (octets name more : List ℕ) → IsName entries index octets name → name_at entries index (octets ++ more) ≡ Some (name, length octets)
name_again entries index octets name more (OfEntry f e none is) = rw (none, is) (name_again_entry entries index more f e)
name_again entries index octets name more (New is p) = name_again_new entries index octets name more is p
