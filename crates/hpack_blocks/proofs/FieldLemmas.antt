-- A field by its first octet, and a literal by its parts.
use Rattle.std.proofs.Common.{◌≡◌, ℕ, ◌+◌, ◌<◌, ◌≤◌, List, ◌++◌, length, drop, get_or, Some, refl, sym, ap, ◌∙◌, arith}
use Rattle.std.proofs.lemmas.Bool.{le-leb, lt-leb}
use Rattle.std.proofs.lemmas.List.{drop_at, drop-drop}
use Rattle.hpack_blocks.specs.declared.fields.Field.{Field}
use Rattle.hpack_blocks.specs.Table.{Table, added}
use Rattle.hpack_blocks.specs.Reading.{number_at, string_at, name_at, literal_at, indexed_at, field_at}

pub field_at-indexed : (t : Table) (bytes : List ℕ) (f : Field) (used : ℕ) → 128 ≤ get_or bytes 0 0 → indexed_at t.entries bytes ≡ Some (f, used) → field_at t bytes ≡ Some (f, t, used)
unfolding field_at
field_at-indexed t bytes f used high e = rw (le-leb 128 (get_or bytes 0 0) high, e) refl

pub field_at-added : (t : Table) (bytes : List ℕ) (f : Field) (used : ℕ) → 64 ≤ get_or bytes 0 0 → get_or bytes 0 0 < 128 → literal_at t.entries 6 bytes ≡ Some (f, used) → field_at t bytes ≡ Some (f, added t f, used)
unfolding field_at
field_at-added t bytes f used from below e = rw (lt-leb 128 (get_or bytes 0 0) below, le-leb 64 (get_or bytes 0 0) from, e) refl

pub field_at-literal : (t : Table) (bytes : List ℕ) (f : Field) (used : ℕ) → get_or bytes 0 0 < 32 → literal_at t.entries 4 bytes ≡ Some (f, used) → field_at t bytes ≡ Some (f, t, used)
unfolding field_at
field_at-literal t bytes f used low e =
    rw (lt-leb 128 (get_or bytes 0 0) (omega arith), lt-leb 64 (get_or bytes 0 0) (omega arith), lt-leb 32 (get_or bytes 0 0) low, e) refl

pub literal_parts : (entries : List Field) (prefix : ℕ) (bytes h n v rest : List ℕ) (f : Field) (index : ℕ) → bytes ≡ h ++ (n ++ (v ++ rest)) → number_at prefix bytes ≡ Some (index, length h)
    → name_at entries index (n ++ (v ++ rest)) ≡ Some (f.name, length n) → string_at (v ++ rest) ≡ Some (f.value, length v)
    → literal_at entries prefix bytes ≡ Some (f, length h + length n + length v)
unfolding literal_at
literal_parts entries prefix bytes h n v rest f index split number name value =
    let behind : drop (length h) bytes ≡ n ++ (v ++ rest) = rw split (drop_at h (n ++ (v ++ rest)) (length h) refl) in
    let last : drop (length h + length n) bytes ≡ v ++ rest = sym (drop-drop (length n) (length h) bytes) ∙ ap (drop (length n)) behind ∙ drop_at n (v ++ rest) (length n) refl in
    rw (number, behind, name, last, value) refl
