-- What is spelled reads back.
use Rattle.std.proofs.Common.{◌≡◌, ℕ, suc, ◌+◌, ◌-◌, ◌%◌, ◌^◌, ◌<◌, ◌≤◌, Bool, true, false, ltb, leb, List, [], ◌∷◌, ◌++◌, length, take, drop, get_or, Option, Some, None, Ok, Err, inl, inr, refl, sym, ap, ◌∙◌, append_assoc, add-one, arith, All}
use Rattle.outside.specs.declared.wants.Memory.{Memory}
use Rattle.std.specs.Prelude.{IfOk, Result, ◌&&◌, slice_get}
use Rattle.std.specs.List.{flat_map, AllByRecursion, position_from}
use Rattle.std.specs.Result.{result_ok}
use Rattle.std.specs.Str.{bytes_eq}
use Rattle.std.proofs.lemmas.Bool.{cases_lt, cases_Bool, and_parts, and_right, lt-ltb, le-ltb, lt-leb}
use Rattle.std.proofs.lemmas.List.{length-append, take_at, drop_at}
use Rattle.std.proofs.lemmas.List.Concat.{flat_map-cons}
use Rattle.std.proofs.lemmas.List.Elements.{recursion_from_All}
use Rattle.std.proofs.lemmas.Slice.Eq.{bytes_eq-Decides}
use Rattle.std.proofs.lemmas.Option.{slice_get_within}
use Rattle.hpack_blocks.proofs.StaticLemmas.{static_len}
use Rattle.hpack_codes.specs.Integers.{int_spelling}
use Rattle.hpack_codes.proofs.IntegerLemmas.{int_back}
use Rattle.hpack_blocks.specs.declared.fields.Field.{Field}
use Rattle.hpack_blocks.specs.Static.{static_table}
use Rattle.hpack_blocks.specs.Table.{Table, entry_at, resized}
use Rattle.hpack_blocks.specs.Reading.{number_at, string_at, name_at, literal_at, indexed_at, field_at, update_at}
use Rattle.hpack_blocks.specs.Block.{fields_from, block_from, block_of, is_update}
use Rattle.hpack_blocks.specs.Spelling.{Fits, string_spelling, literal_spelling, spelling_at, field_spelling, block_spelling, place_of_field, place_of_name, BlockReadsBack}
use Rattle.hpack_blocks.proofs.TableLemmas.{entry_at-static}
use Rattle.hpack_blocks.proofs.FieldLemmas.{literal_parts, field_at-indexed, field_at-literal}
use Rattle.hpack_blocks.proofs.BlockLemmas.{with_fields, fields_head, fields_end, update_head, update_none}

-- an integer
number_back : (first prefix v : ℕ) (rest : List ℕ) → first % 2 ^ prefix ≡ 0 → v < 2 ^ 32 → number_at prefix (int_spelling first prefix v ++ rest) ≡ Some (v, length (int_spelling first prefix v))
number_back first prefix v rest clear fits = ap result_ok (int_back first prefix v rest clear fits)

-- its first octet
head_small : (first prefix v : ℕ) (rest : List ℕ) → v < 2 ^ prefix - 1 → get_or (int_spelling first prefix v ++ rest) 0 0 ≡ first + v
unfolding int_spelling
head_small first prefix v rest lt = rw (lt-ltb v (2 ^ prefix - 1) lt) refl

head_full : (first prefix v : ℕ) (rest : List ℕ) → 2 ^ prefix - 1 ≤ v → get_or (int_spelling first prefix v ++ rest) 0 0 ≡ first + (2 ^ prefix - 1)
unfolding int_spelling
head_full first prefix v rest le = rw (le-ltb v (2 ^ prefix - 1) le) refl

head_most : (first prefix v : ℕ) (rest : List ℕ) → get_or (int_spelling first prefix v ++ rest) 0 0 ≤ first + (2 ^ prefix - 1)
head_most first prefix v rest =
    elim (cases_lt v (2 ^ prefix - 1)) [
      | inl lt ↦ omega (arith, head_small first prefix v rest lt)
      | inr le ↦ omega (arith, head_full first prefix v rest le)
    ]

-- a string
string_back : (octets rest : List ℕ) → length octets < 2 ^ 32 → string_at (string_spelling octets ++ rest) ≡ Some (octets, length (string_spelling octets))
unfolding string_at string_spelling
string_back octets rest fits =
    let head = int_spelling 0 7 (length octets) in
    let regrouped : (head ++ octets) ++ rest ≡ head ++ (octets ++ rest) = append_assoc head octets rest in
    let len = number_back 0 7 (length octets) (octets ++ rest) refl fits in
    let behind : drop (length head) (head ++ (octets ++ rest)) ≡ octets ++ rest = drop_at head (octets ++ rest) (length head) refl in
    let enough : ltb (length (octets ++ rest)) (length octets) ≡ false = le-ltb (length (octets ++ rest)) (length octets) (omega (arith, length-append octets rest)) in
    let front : take (length octets) (octets ++ rest) ≡ octets = take_at octets rest (length octets) refl in
    let plain : ltb (get_or (head ++ (octets ++ rest)) 0 0) 128 ≡ true = lt-ltb _ 128 (omega (arith, head_most 0 7 (length octets) (octets ++ rest))) in
    let total : length head + length octets ≡ length (head ++ octets) = omega (arith, length-append head octets) in
    rw (regrouped, len, behind, enough, plain, front, total) refl

-- what a static place says
pub record IsStatic (place : ℕ) (f : Field) : Type 0 where
  pub within : place < 61
  pub here : slice_get static_table place ≡ Some f

-- where a search ends
pub record IsFound (p : Field → Bool) (xs : List Field) (n place : ℕ) : Type 0 where
  pub i : ℕ
  pub x : Field
  pub is : place ≡ n + i
  pub here : slice_get xs i ≡ Some x
  pub passes : p x ≡ true

some_is : (a b : ℕ) → Some a ≡ Some b → a ≡ b
some_is a b e = cc

nothing_is : (s : ℕ) → (let none : Option ℕ = None in none ≡ Some s) → ⊥
nothing_is s e = absurd cc

first_passes : (p : Field → Bool) (n : ℕ) (x : Field) (xs : List Field) → p x ≡ true → position_from p n (x ∷ xs) ≡ Some n
first_passes p n x xs passes = rw passes refl

first_fails : (p : Field → Bool) (n : ℕ) (x : Field) (xs : List Field) → p x ≡ false → position_from p n (x ∷ xs) ≡ position_from p (n + 1) xs
first_fails p n x xs fails = rw fails refl

found : (p : Field → Bool) (xs : List Field) (n place : ℕ) → position_from p n xs ≡ Some place → IsFound p xs n place
found p [] n place e = absurd (nothing_is place e)
found p (x ∷ xs) n place e =
    elim (cases_Bool (p x)) [
      | inl passes ↦
          let same = some_is n place (sym (first_passes p n x xs passes) ∙ e) in
          record { i = 0; x = x; is = omega (arith, same); here = refl; passes = passes }
      | inr fails ↦
          let later = found p xs (n + 1) place (sym (first_fails p n x xs fails) ∙ e) in
          record { i = suc later.i; x = later.x; is = omega (arith, later.is); here = later.here; passes = later.passes }
    ]

bytes_same : (xs ys : List ℕ) → bytes_eq xs ys ≡ true → xs ≡ ys
bytes_same xs ys e = (bytes_eq-Decides xs ys).0 e

same_field : (e f : Field) → (bytes_eq e.name f.name && bytes_eq e.value f.value) ≡ true → e ≡ f
same_field e f both =
    let parts = and_parts (bytes_eq e.name f.name) (bytes_eq e.value f.value) both in
    let name : e.name ≡ f.name = bytes_same e.name f.name parts.0 in
    let value : e.value ≡ f.value = bytes_same e.value f.value parts.1 in
    ap (λ (n : List ℕ). let g : Field = record { name = n; value = e.value } in g) name ∙ ap (λ (v : List ℕ). let g : Field = record { name = f.name; value = v } in g) value

static_field : (f : Field) (place : ℕ) → place_of_field f ≡ Some place → IsStatic place f
unfolding place_of_field
static_field f place e =
    let p = found (λ x. bytes_eq x.name f.name && bytes_eq x.value f.value) static_table 0 place e in
    let at : p.i ≡ place = omega (arith, p.is) in
    let same : p.x ≡ f = same_field p.x f p.passes in
    let here : slice_get static_table place ≡ Some f = ap (λ i. slice_get static_table i) (sym at) ∙ p.here ∙ ap (λ (x : Field). Some x) same in
    record { within = omega (arith, static_len, slice_get_within static_table place f here); here = here }

static_name : (name : List ℕ) (place : ℕ) → place_of_name name ≡ Some place → (e : Field) × IsStatic place e × (e.name ≡ name)
unfolding place_of_name
static_name name place e =
    let p = found (λ x. bytes_eq x.name name) static_table 0 place e in
    let at : p.i ≡ place = omega (arith, p.is) in
    let here : slice_get static_table place ≡ Some p.x = ap (λ i. slice_get static_table i) (sym at) ∙ p.here in
    (p.x, record { within = omega (arith, static_len, slice_get_within static_table place p.x here); here = here }, bytes_same p.x.name name p.passes)

entry_back : (entries : List Field) (place : ℕ) (f : Field) → IsStatic place f → entry_at entries (place + 1) ≡ Some f
entry_back entries place f p =
    let index : place + 1 - 1 ≡ place = omega arith in
    entry_at-static entries (place + 1) f (λ z. absurd (omega arith)) (rw index p.within) (rw index p.here)

-- an indexed field
indexed_back : (entries : List Field) (place : ℕ) (f : Field) (rest : List ℕ) → IsStatic place f → indexed_at entries (int_spelling 128 7 (place + 1) ++ rest) ≡ Some (f, length (int_spelling 128 7 (place + 1)))
unfolding indexed_at
indexed_back entries place f rest p =
    rw (number_back 128 7 (place + 1) rest refl (omega (arith, p.within)), entry_back entries place f p) refl

name_at-zero : (entries : List Field) (bytes : List ℕ) → name_at entries 0 bytes ≡ string_at bytes
unfolding name_at
name_at-zero entries bytes = refl

name_at-entry : (entries : List Field) (place : ℕ) (e : Field) (bytes : List ℕ) → entry_at entries (place + 1) ≡ Some e → name_at entries (place + 1) bytes ≡ Some (e.name, 0)
unfolding name_at
name_at-entry entries place e bytes found = rw add-one (rw (rw add-one at found) refl)

-- a literal field
literal_back : (entries : List Field) (place : Option ℕ) (f : Field) (rest : List ℕ) → place_of_name f.name ≡ place → Fits f
    → literal_at entries 4 (literal_spelling place f ++ rest) ≡ Some (f, length (literal_spelling place f))
unfolding literal_spelling
literal_back entries None f rest is fits =
    let h = int_spelling 0 4 0 in
    let n = string_spelling f.name in
    let v = string_spelling f.value in
    let split : ((h ++ n) ++ v) ++ rest ≡ h ++ (n ++ (v ++ rest)) = append_assoc (h ++ n) v rest ∙ append_assoc h n (v ++ rest) in
    let number : number_at 4 (((h ++ n) ++ v) ++ rest) ≡ Some (0, length h) = ap (number_at 4) split ∙ number_back 0 4 0 (n ++ (v ++ rest)) refl (omega arith) in
    let name = name_at-zero entries (n ++ (v ++ rest)) ∙ string_back f.name (v ++ rest) fits.name in
    let total : length h + length n + length v ≡ length ((h ++ n) ++ v) = omega (arith, length-append (h ++ n) v, length-append h n) in
    literal_parts entries 4 (((h ++ n) ++ v) ++ rest) h n v rest f 0 split number name (string_back f.value rest fits.value) ∙ ap (λ k. Some (f, k)) total
literal_back entries (Some place) f rest is fits =
    let h = int_spelling 0 4 (place + 1) in
    let v = string_spelling f.value in
    let p = static_name f.name place is in
    let split : (h ++ v) ++ rest ≡ h ++ ([] ++ (v ++ rest)) = append_assoc h v rest in
    let number : number_at 4 ((h ++ v) ++ rest) ≡ Some (place + 1, length h) = ap (number_at 4) split ∙ number_back 0 4 (place + 1) (v ++ rest) refl (omega (arith, p.1.within)) in
    let name : name_at entries (place + 1) (v ++ rest) ≡ Some (f.name, 0) = name_at-entry entries place p.0 (v ++ rest) (entry_back entries place p.0 p.1) ∙ ap (λ (n : List ℕ). Some (n, 0)) p.2 in
    let total : length h + 0 + length v ≡ length (h ++ v) = omega (arith, length-append h v) in
    literal_parts entries 4 ((h ++ v) ++ rest) h [] v rest f (place + 1) split number name (string_back f.value rest fits.value) ∙ ap (λ k. Some (f, k)) total

-- ---- fields

int_some : (first prefix v : ℕ) → 1 ≤ length (int_spelling first prefix v)
unfolding int_spelling
int_some first prefix v =
    elim (cases_lt v (2 ^ prefix - 1)) [
      | inl lt ↦ rw (lt-ltb v (2 ^ prefix - 1) lt) (omega arith)
      | inr le ↦ rw (le-ltb v (2 ^ prefix - 1) le) (omega arith)
    ]

literal_low : (place : Option ℕ) (f : Field) (rest : List ℕ) → (get_or (literal_spelling place f ++ rest) 0 0 < 32) × (1 ≤ length (literal_spelling place f))
unfolding literal_spelling
literal_low None f rest =
    let h = int_spelling 0 4 0 in
    let n = string_spelling f.name in
    let v = string_spelling f.value in
    let split : ((h ++ n) ++ v) ++ rest ≡ h ++ (n ++ (v ++ rest)) = append_assoc (h ++ n) v rest ∙ append_assoc h n (v ++ rest) in
    (rw split (omega (arith, head_most 0 4 0 (n ++ (v ++ rest)))), omega (arith, length-append (h ++ n) v, length-append h n, int_some 0 4 0))
literal_low (Some place) f rest =
    let h = int_spelling 0 4 (place + 1) in
    let v = string_spelling f.value in
    (rw (append_assoc h v rest) (omega (arith, head_most 0 4 (place + 1) (v ++ rest))), omega (arith, length-append h v, int_some 0 4 (place + 1)))

-- a spelling, and what it reads as
pub record IsBack (f : Field) (bytes : List ℕ) : Type 0 where
  pub some : 1 ≤ length bytes
  pub reads : (t : Table) (rest : List ℕ) → field_at t (bytes ++ rest) ≡ Some (f, t, length bytes)
  pub no_update : (rest : List ℕ) → is_update (get_or (bytes ++ rest) 0 0) ≡ false

no_update_low : (first : ℕ) → first < 32 → is_update first ≡ false
no_update_low first low = rw (lt-leb 32 first low) refl

no_update_high : (first : ℕ) → 128 ≤ first → is_update first ≡ false
no_update_high first high = and_right (leb 32 first) (ltb first 64) (le-ltb first 64 (omega arith))

back_at : (place : Option ℕ) (f : Field) → place_of_field f ≡ place → Fits f → IsBack f (spelling_at place f)
unfolding spelling_at
back_at None f is fits =
    let name = place_of_name f.name in
    record {
      some = (literal_low name f []).1;
      reads = λ t rest. field_at-literal t (literal_spelling name f ++ rest) f (length (literal_spelling name f)) (literal_low name f rest).0 (literal_back t.entries name f rest refl fits);
      no_update = λ rest. no_update_low (get_or (literal_spelling name f ++ rest) 0 0) (literal_low name f rest).0;
    }
back_at (Some place) f is fits =
    let p = static_field f place is in
    let s = int_spelling 128 7 (place + 1) in
    let head = λ (rest : List ℕ). head_small 128 7 (place + 1) rest (omega (arith, p.within)) in
    record {
      some = int_some 128 7 (place + 1);
      reads = λ t rest. field_at-indexed t (s ++ rest) f (length s) (omega (arith, head rest)) (indexed_back t.entries place f rest p);
      no_update = λ rest. no_update_high (get_or (s ++ rest) 0 0) (omega (arith, head rest));
    }

field_back : (f : Field) → Fits f → IsBack f (field_spelling f)
unfolding field_spelling
field_back f fits = back_at (place_of_field f) f refl fits

fields_back : (fields : List Field) (t : Table) → AllByRecursion Fits fields → fields_from t 0 (flat_map field_spelling fields) ≡ Some (fields, t)
fields_back [] t fits = fields_end t
fields_back (f ∷ fields) t fits =
    let s = field_spelling f in
    let rest = flat_map field_spelling fields in
    let back = field_back f fits.0 in
    let all : length (s ++ rest) ≡ length s + length rest = length-append s rest in
    let head = fields_head (s ++ rest) t t f (length s) (omega (arith, all, back.some)) back.some (omega (arith, all)) (back.reads t rest) in
    let behind : drop (length s) (s ++ rest) ≡ rest = drop_at s rest (length s) refl in
    let tail : with_fields (f ∷ []) (fields_from t 0 (drop (length s) (s ++ rest))) ≡ Some (f ∷ fields, t) = rw (behind, fields_back fields t fits.1) refl in
    rw flat_map-cons (head ∙ tail)

fields_no_update : (fields : List Field) → AllByRecursion Fits fields → is_update (get_or (flat_map field_spelling fields) 0 0) ≡ false
fields_no_update [] fits = refl
fields_no_update (f ∷ fields) fits = rw flat_map-cons ((field_back f fits.0).no_update (flat_map field_spelling fields))

rest_back : (fields : List Field) (t : Table) → AllByRecursion Fits fields → block_from t 0 (flat_map field_spelling fields) ≡ Some (fields, t)
rest_back fields t fits = update_none (flat_map field_spelling fields) t (fields_no_update fields fits) ∙ fields_back fields t fits

to_zero : (t : Table) (rest : List ℕ) → update_at t (32 ∷ rest) ≡ Some (resized t 0, 1)
unfolding update_at
to_zero t rest = refl

-- the block that is written reads back
pub block_back : (first : Bool) (fields : List Field) → All Fits fields → BlockReadsBack first fields (block_spelling first fields)
block_back false fields fits t = rest_back fields t (recursion_from_All Fits fields fits)
block_back true fields fits t =
    let rest = flat_map field_spelling fields in
    update_head (32 ∷ rest) t (resized t 0) 1 (omega arith) refl (omega arith) (omega arith) (to_zero t rest) ∙ rest_back fields (resized t 0) (recursion_from_All Fits fields fits)

pub block_back-result : (first : Bool) (fields : List Field) (r : Result (List ℕ) Memory) → All Fits fields → IfOk r (λ b. b ≡ block_spelling first fields) → IfOk r (λ b. BlockReadsBack first fields b)
block_back-result first fields (Ok b) fits is = λ t. ap (block_of t) is ∙ block_back first fields fits t
block_back-result first fields (Err e) fits is = tt
