-- The names of read streams, and the nodes that they can be.
use Rattle.std.proofs.Common.{◌≡◌, inl, inr, ℕ, zero, suc, ◌<◌, ◌≤◌, ◌+◌, ◌^◌, Bool, true, false, List, [], ◌∷◌, ◌++◌, length, length-append, take, drop, get_or, map, Bor, IsTrue, Option, Some, None, Result, refl, sym, ap, subst, ◌∙◌, arith, append_assoc, decimal, lit≤}
use Rattle.std.specs.Prelude.{◌==◌, ◌&&◌, if◌then◌else◌, codes}
use Rattle.std.specs.List.{AllByRecursion, join_with_byte, before_first, after_first, position_or_len}
use Rattle.std.specs.Str.{bytes_eq}
use Rattle.std.proofs.Math.Seq.{get_or-append_seam, take-append_seam, drop-append-add}
use Rattle.std.proofs.Math.ListN.{get_or-append}
use Rattle.std.proofs.lemmas.Bool.{and_parts, and_from, cases_lt, eqb-true, ne_eqb, eq-eqb}
use Rattle.std.proofs.lemmas.List.{drop_all}
use Rattle.std.proofs.lemmas.List.Elements.{All-weaker, All-get_or, All-cons, All-append}
use Rattle.std.proofs.lemmas.List.Sums.{split_at_first, passes_at_first, position_or_len_is}
use Rattle.std.proofs.lemmas.Slice.Eq.{bytes_eq-Decides}
use Rattle.resource_names.specs.declared.faults.NameFault.{NameFault}
use Rattle.resource_names.specs.declared.read_streams.ReadName.{ReadName}
use Rattle.resource_names.specs.declared.read_streams.ReadPlace.{ReadPlace}
use Rattle.resource_names.specs.Part.{is_part, is_part_byte, is_named, parts_of}
use Rattle.resource_names.specs.Number.{number_of}
use Rattle.resource_names.specs.Reads.{Reads}
use Rattle.resource_names.specs.Read.{name_text, IsRead, read_in, read_name_of, session_id, read_text, IsPlace, is_dash, place_by, place_behind, place_in, place_of}
use Rattle.resource_names.specs.Laws.{node_name, IsSmall}
use Rattle.resource_names.proofs.PartLemmas.{if_some, if_true, some_same, none_if, NoSlash, part_has_none, word_has_none, parts_joined, part_most, joined_most, named_parts, named_from}
use Rattle.resource_names.proofs.NumberLemmas.{IsDigit, all_digits, digit_is_no_dash, number_spelled, spelled_number, number_of-nil, wide, decimal_bytes, decimal_short, decimal_is_part, part_from}
use Rattle.resource_names.proofs.TableLemmas.{joined}

-- ---- names

abbrev pub read_parts : ReadName → List (List ℕ)
read_parts name = codes "projects" ∷ name.project ∷ codes "locations" ∷ name.location ∷ codes "sessions" ∷ name.session ∷ codes "streams" ∷ name.stream ∷ []

record Has (name : ReadName) : Type 0 where
  project : IsTrue (is_part name.project)
  location : IsTrue (is_part name.location)
  session : IsTrue (is_part name.session)
  stream : IsTrue (is_part name.stream)

four : (a b c d : Bool) → (a && b && c && d) ≡ true → (a ≡ true) × (b ≡ true) × (c ≡ true) × (d ≡ true)
four a b c d e =
    let last = and_parts (a && b && c) d e in
    let left = and_parts (a && b) c last.0 in
    let first = and_parts a b left.0 in
    (first.0, first.1, left.1, last.1)

eight : (a p b l c s d n : List ℕ) (name : ReadName) → read_in (a ∷ p ∷ b ∷ l ∷ c ∷ s ∷ d ∷ n ∷ []) ≡ Some name
    → ((a ∷ p ∷ b ∷ l ∷ c ∷ s ∷ d ∷ n ∷ []) ≡ read_parts name) × Has name
eight a p b l c s d n name e =
    let read : ReadName = record { project = p; location = l; session = s; stream = n } in
    let got = if_some (is_named (codes "projects") a p && is_named (codes "locations") b l && is_named (codes "sessions") c s && is_named (codes "streams") d n) (Some read) name e in
    let same = some_same read name got.1 in
    let each = four (is_named (codes "projects") a p) (is_named (codes "locations") b l) (is_named (codes "sessions") c s) (is_named (codes "streams") d n) got.0 in
    let project = named_parts (codes "projects") a p each.0 in
    let location = named_parts (codes "locations") b l each.1 in
    let session = named_parts (codes "sessions") c s each.2 in
    let stream = named_parts (codes "streams") d n each.3 in (
      ap (λ (w : List ℕ). w ∷ p ∷ b ∷ l ∷ c ∷ s ∷ d ∷ n ∷ []) project.0
          ∙ ap (λ (w : List ℕ). codes "projects" ∷ p ∷ w ∷ l ∷ c ∷ s ∷ d ∷ n ∷ []) location.0
          ∙ ap (λ (w : List ℕ). codes "projects" ∷ p ∷ codes "locations" ∷ l ∷ w ∷ s ∷ d ∷ n ∷ []) session.0
          ∙ ap (λ (w : List ℕ). codes "projects" ∷ p ∷ codes "locations" ∷ l ∷ codes "sessions" ∷ s ∷ w ∷ n ∷ []) stream.0
          ∙ ap read_parts same,
      subst Has same (record { project = project.1; location = location.1; session = session.1; stream = stream.1 }),
    )

read_found : (parts : List (List ℕ)) (name : ReadName) → read_in parts ≡ Some name → (parts ≡ read_parts name) × Has name
read_found [] name e = absurd cc
read_found (a ∷ []) name e = absurd cc
read_found (a ∷ p ∷ []) name e = absurd cc
read_found (a ∷ p ∷ b ∷ []) name e = absurd cc
read_found (a ∷ p ∷ b ∷ l ∷ []) name e = absurd cc
read_found (a ∷ p ∷ b ∷ l ∷ c ∷ []) name e = absurd cc
read_found (a ∷ p ∷ b ∷ l ∷ c ∷ s ∷ []) name e = absurd cc
read_found (a ∷ p ∷ b ∷ l ∷ c ∷ s ∷ d ∷ []) name e = absurd cc
read_found (a ∷ p ∷ b ∷ l ∷ c ∷ s ∷ d ∷ n ∷ []) name e = eight a p b l c s d n name e
read_found (a ∷ p ∷ b ∷ l ∷ c ∷ s ∷ d ∷ n ∷ other ∷ more) name e = absurd cc

apart : (a p b l c s d n : List ℕ) → a ++ p ++ b ++ l ++ c ++ s ++ d ++ n ≡ a ++ (p ++ (b ++ (l ++ (c ++ (s ++ (d ++ n))))))
apart a p b l c s d n =
    append_assoc (a ++ p ++ b ++ l ++ c ++ s) d n
    ∙ append_assoc (a ++ p ++ b ++ l ++ c) s (d ++ n)
    ∙ append_assoc (a ++ p ++ b ++ l) c (s ++ (d ++ n))
    ∙ append_assoc (a ++ p ++ b) l (c ++ (s ++ (d ++ n)))
    ∙ append_assoc (a ++ p) b (l ++ (c ++ (s ++ (d ++ n))))
    ∙ append_assoc a p (b ++ (l ++ (c ++ (s ++ (d ++ n)))))

read_joined : (name : ReadName) → join_with_byte 47 (read_parts name) ≡ name_text name
read_joined name = sym (apart (codes "projects/") name.project (codes "/locations/") name.location (codes "/sessions/") name.session (codes "/streams/") name.stream)

pub read_spelled : (text : List ℕ) (name : ReadName) → read_name_of text ≡ Some name → IsRead text name
unfolding read_name_of
read_spelled text name e =
    let found = read_found (parts_of text) name e in
    record { project = found.1.project; location = found.1.location; session = found.1.session; stream = found.1.stream; spelled = joined text (read_parts name) found.0 ∙ read_joined name }

nones : (name : ReadName) (text : List ℕ) → IsRead text name
    → AllByRecursion NoSlash (name.project ∷ codes "locations" ∷ name.location ∷ codes "sessions" ∷ name.session ∷ codes "streams" ∷ name.stream ∷ [])
nones name text is =
    (part_has_none name.project is.project, (word_has_none (codes "locations") refl, (part_has_none name.location is.location, (word_has_none (codes "sessions") refl, (part_has_none name.session is.session, (word_has_none (codes "streams") refl, (part_has_none name.stream is.stream, tt)))))))

of_parts : (name : ReadName) (text : List ℕ) → IsRead text name → read_in (read_parts name) ≡ Some name
of_parts name text is =
    let p = is_named (codes "projects") (codes "projects") name.project in
    let l = is_named (codes "locations") (codes "locations") name.location in
    let s = is_named (codes "sessions") (codes "sessions") name.session in
    let n = is_named (codes "streams") (codes "streams") name.stream in
    if_true (p && l && s && n) (Some name)
    (and_from (p && l && s) n (and_from (p && l) s (and_from p l (named_from (codes "projects") name.project is.project) (named_from (codes "locations") name.location is.location)) (named_from (codes "sessions") name.session is.session)) (named_from (codes "streams") name.stream is.stream))

pub read_read : (text : List ℕ) (name : ReadName) → IsRead text name → read_name_of text ≡ Some name
unfolding read_name_of
read_read text name is =
    ap (λ (t : List ℕ). read_in (parts_of t)) (is.spelled ∙ sym (read_joined name))
    ∙ ap read_in (parts_joined (codes "projects") (name.project ∷ codes "locations" ∷ name.location ∷ codes "sessions" ∷ name.session ∷ codes "streams" ∷ name.stream ∷ []) (word_has_none (codes "projects") refl) (nones name text is))
    ∙ of_parts name text is

read_most : (name : ReadName) (text : List ℕ) → IsRead text name → length (join_with_byte 47 (read_parts name)) ≤ 551
read_most name text is =
    joined_most (codes "projects") name.project (codes "locations" ∷ name.location ∷ codes "sessions" ∷ name.session ∷ codes "streams" ∷ name.stream ∷ []) 8 542 (lit≤ tt) (
    joined_most name.project (codes "locations") (name.location ∷ codes "sessions" ∷ name.session ∷ codes "streams" ∷ name.stream ∷ []) 128 413 (part_most name.project is.project) (
    joined_most (codes "locations") name.location (codes "sessions" ∷ name.session ∷ codes "streams" ∷ name.stream ∷ []) 9 403 (lit≤ tt) (
    joined_most name.location (codes "sessions") (name.session ∷ codes "streams" ∷ name.stream ∷ []) 128 274 (part_most name.location is.location) (
    joined_most (codes "sessions") name.session (codes "streams" ∷ name.stream ∷ []) 8 265 (lit≤ tt) (
    joined_most name.session (codes "streams") (name.stream ∷ []) 128 136 (part_most name.session is.session) (
    joined_most (codes "streams") name.stream [] 7 128 (lit≤ tt) (part_most name.stream is.stream)))))))

pub read_short : (text : List ℕ) → 551 < length text → read_name_of text ≡ None
read_short text long =
    none_if (read_name_of text) (λ name e.
    let is = read_spelled text name e in
    omega (arith, long, read_most name text is, ap length (is.spelled ∙ sym (read_joined name))))

-- ---- nodes

place_parts : (table session node : Option ℕ) (place : ReadPlace) → place_by table session node ≡ Some place
    → (table ≡ Some place.table) × (session ≡ Some place.session) × (node ≡ Some place.node) × (0 < place.session)
place_parts None _ _ place e = absurd cc
place_parts (Some table) None _ place e = absurd cc
place_parts (Some table) (Some zero) _ place e = absurd cc
place_parts (Some table) (Some (suc session)) None place e = absurd cc
place_parts (Some table) (Some (suc session)) (Some node) place e =
    let same = some_same (record { table = table; session = suc session; node = node }) place e in
    let some : 0 < suc session = omega arith in
    (ap (λ (p : ReadPlace). Some p.table) same, ap (λ (p : ReadPlace). Some p.session) same, ap (λ (p : ReadPlace). Some p.node) same, subst (λ (p : ReadPlace). 0 < p.session) same some)

none_some : (n : ℕ) (o : Option ℕ) → o ≡ None → o ≡ Some n → ⊥
none_some n o none some = absurd cc

no_end : (numbers : List ℕ) (n : ℕ) → length numbers ≤ position_or_len is_dash numbers → number_of (after_first is_dash numbers) ≡ Some n → ⊥
no_end numbers n past e =
    none_some n (number_of (after_first is_dash numbers)) (ap number_of (drop_all (position_or_len is_dash numbers + 1) numbers (omega (arith, past))) ∙ number_of-nil) e

dash_in : (numbers : List ℕ) (n : ℕ) → number_of (after_first is_dash numbers) ≡ Some n → numbers ≡ before_first is_dash numbers ++ (45 ∷ after_first is_dash numbers)
dash_in numbers n e =
    elim (cases_lt (position_or_len is_dash numbers) (length numbers)) [
      | inl within ↦
          split_at_first is_dash numbers 0 within
          ∙ ap (λ (b : ℕ). before_first is_dash numbers ++ (b ∷ after_first is_dash numbers)) (eqb-true (get_or numbers (position_or_len is_dash numbers) 0) 45 (passes_at_first is_dash numbers 0 within))
      | inr past ↦ absurd (no_end numbers n past e)
    ]

-- the ids of a session and a stream that are a node
record Ids (session stream : List ℕ) (place : ReadPlace) : Type 0 where
  session_is : session ≡ session_id place.table place.session
  stream_is : stream ≡ decimal place.node
  table_small : place.table < 2 ^ 32
  session_some : 0 < place.session
  session_small : place.session < 2 ^ 32
  node_small : place.node < 2 ^ 32

ids_found : (session stream : List ℕ) (place : ReadPlace) → place_in session stream ≡ Some place → Ids session stream place
ids_found [] stream place e = absurd cc
ids_found (first ∷ numbers) stream place e =
    let before = before_first is_dash numbers in
    let after = after_first is_dash numbers in
    let got = if_some (first == 116) (place_by (number_of before) (number_of after) (number_of stream)) place e in
    let parts = place_parts (number_of before) (number_of after) (number_of stream) place got.1 in
    let table = number_spelled before place.table parts.0 in
    let session = number_spelled after place.session parts.1 in
    let node = number_spelled stream place.node parts.2 in
    record {
      session_is =
          ap (λ (b : ℕ). b ∷ numbers) (eqb-true first 116 got.0)
          ∙ ap (λ (l : List ℕ). 116 ∷ l) (
          dash_in numbers place.session parts.1
          ∙ ap (λ (l : List ℕ). l ++ (45 ∷ after)) table.0
          ∙ ap (λ (l : List ℕ). decimal place.table ++ (45 ∷ l)) session.0
          ∙ sym (append_assoc (decimal place.table) (45 ∷ []) (decimal place.session)));
      stream_is = node.0;
      table_small = table.1;
      session_some = parts.3;
      session_small = session.1;
      node_small = node.1;
    }

pub place_spelled : (name : ReadName) (place : ReadPlace) → place_of name ≡ Some place → IsPlace name place
unfolding place_of
place_spelled name place e =
    let got = if_some (bytes_eq name.location (codes "local")) (place_in name.session name.stream) place e in
    let ids = ids_found name.session name.stream place got.1 in
    record {
      location = (bytes_eq-Decides name.location (codes "local")).0 got.0;
      session = ids.session_is;
      stream = ids.stream_is;
      table_small = ids.table_small;
      session_some = ids.session_some;
      session_small = ids.session_small;
      node_small = ids.node_small;
    }

-- a number, a dash and what stands behind it
dash_at : (n : ℕ) (rest : List ℕ) → n < 2 ^ 64 → position_or_len is_dash (decimal n ++ (45 ∷ rest)) ≡ length (decimal n)
dash_at n rest small =
    let digits = decimal n in
    let all = All-weaker IsDigit (λ b. is_dash b ≡ false) digit_is_no_dash digits (all_digits n small) in
    position_or_len_is is_dash (digits ++ (45 ∷ rest)) (length digits) 0
    (omega (arith, length-append digits (45 ∷ rest)))
    (λ k below. ap is_dash (get_or-append digits (45 ∷ rest) 0 k below) ∙ All-get_or (λ b. is_dash b ≡ false) digits k 0 below all)
    (λ within. eq-eqb (get_or (digits ++ (45 ∷ rest)) (length digits) 0) 45 (get_or-append_seam digits 45 rest 0))

before_dash : (n : ℕ) (rest : List ℕ) → n < 2 ^ 64 → before_first is_dash (decimal n ++ (45 ∷ rest)) ≡ decimal n
before_dash n rest small = ap (λ (at : ℕ). take at (decimal n ++ (45 ∷ rest))) (dash_at n rest small) ∙ take-append_seam (decimal n) (45 ∷ rest)

after_dash : (n : ℕ) (rest : List ℕ) → n < 2 ^ 64 → after_first is_dash (decimal n ++ (45 ∷ rest)) ≡ rest
after_dash n rest small = ap (λ (at : ℕ). drop (at + 1) (decimal n ++ (45 ∷ rest))) (dash_at n rest small) ∙ drop-append-add (decimal n) (45 ∷ rest) 1

place_from : (place : ReadPlace) (session : ℕ) → place.session ≡ session → 0 < session → place_by (Some place.table) (Some session) (Some place.node) ≡ Some place
place_from place zero e some = absurd (omega (arith, some))
place_from place (suc session) e some = ap (λ (s : ℕ). Some (record { table = place.table; session = s; node = place.node })) (sym e)

pub place_read : (name : ReadName) (place : ReadPlace) → IsPlace name place → place_of name ≡ Some place
unfolding place_of
place_read name place is =
    let table = decimal place.table in
    let session = decimal place.session in
    let node = decimal place.node in
    if_true (bytes_eq name.location (codes "local")) (place_in name.session name.stream) ((bytes_eq-Decides name.location (codes "local")).1 is.location)
    ∙ ap (λ (s : List ℕ). place_in s name.stream) (is.session ∙ ap (λ (l : List ℕ). 116 ∷ l) (append_assoc table (45 ∷ []) session))
    ∙ ap (λ (n : List ℕ). place_in (116 ∷ (table ++ (45 ∷ session))) n) is.stream
    ∙ ap (λ (t : List ℕ). place_by (number_of t) (number_of (after_first is_dash (table ++ (45 ∷ session)))) (number_of node)) (before_dash place.table session (wide place.table is.table_small))
    ∙ ap (λ (s : List ℕ). place_by (number_of table) (number_of s) (number_of node)) (after_dash place.table session (wide place.table is.table_small))
    ∙ ap (λ (t : Option ℕ). place_by t (number_of session) (number_of node)) (spelled_number table place.table is.table_small refl)
    ∙ ap (λ (s : Option ℕ). place_by (Some place.table) s (number_of node)) (spelled_number session place.session is.session_small refl)
    ∙ ap (λ (n : Option ℕ). place_by (Some place.table) (Some place.session) n) (spelled_number node place.node is.node_small refl)
    ∙ place_from place place.session refl is.session_some

-- ---- what is written

session_is_part : (place : ReadPlace) → IsSmall place → IsTrue (is_part (session_id place.table place.session))
session_is_part place small =
    let table = decimal place.table in
    let session = decimal place.session in
    let IsByte : ℕ → Type 0 = λ b. is_part_byte b ≡ true in
    part_from (session_id place.table place.session)
    (omega (arith, length-append (table ++ (45 ∷ [])) session))
    (omega (arith, length-append (table ++ (45 ∷ [])) session, length-append table (45 ∷ []), decimal_short place.table small.table, decimal_short place.session small.session))
    (All-cons IsByte 116 ((table ++ (45 ∷ [])) ++ session) refl
    (All-append IsByte (table ++ (45 ∷ [])) session
    (All-append IsByte table (45 ∷ []) (decimal_bytes place.table small.table) (All-cons IsByte 45 [] refl (λ k d none. absurd (omega (arith, none)))))
    (decimal_bytes place.session small.session)))

text_of_node : (project : List ℕ) (place : ReadPlace) → read_text project place.table place.session place.node ≡ name_text (node_name project place)
text_of_node project place =
    ap (λ (front : List ℕ). front ++ codes "/streams/" ++ decimal place.node)
    (ap (λ (front : List ℕ). front ++ session_id place.table place.session) (
    sym (append_assoc (codes "projects/" ++ project ++ codes "/locations/") (codes "local") (codes "/sessions/")
    ∙ append_assoc (codes "projects/" ++ project) (codes "/locations/") (codes "local" ++ codes "/sessions/"))))

pub node_read : (project : List ℕ) (place : ReadPlace) → IsTrue (is_part project) → IsSmall place
    → (read_name_of (read_text project place.table place.session place.node) ≡ Some (node_name project place)) × (place_of (node_name project place) ≡ Some place)
node_read project place part small = (
  read_read (read_text project place.table place.session place.node) (node_name project place)
      (record { project = part; location = refl; session = session_is_part place small; stream = decimal_is_part place.node small.node; spelled = text_of_node project place }),
  place_read (node_name project place) place
      (record { location = refl; session = refl; stream = refl; table_small = small.table; session_some = small.session_some; session_small = small.session; node_small = small.node }),
)

-- ---- for the code

pub no_t : (session stream : List ℕ) → ((rest : List ℕ) → session ≡ 116 ∷ rest → ⊥) → None ≡ place_in session stream
no_t [] stream other = refl
no_t (first ∷ numbers) stream other =
    sym (ap (λ (same : Bool). if same then place_behind numbers stream else None)
    (ne_eqb first 116 (λ e. other numbers (ap (λ (b : ℕ). b ∷ numbers) e))))

no_session : (table node : Option ℕ) → place_by table None node ≡ None
no_session None _ = refl
no_session (Some table) _ = refl

pub no_dash : (numbers stream : List ℕ) → position_or_len is_dash numbers ≡ length numbers → None ≡ place_behind numbers stream
no_dash numbers stream end =
    sym (ap (λ (o : Option ℕ). place_by (number_of (before_first is_dash numbers)) o (number_of stream))
    (ap number_of (drop_all (position_or_len is_dash numbers + 1) numbers (omega (arith, end))) ∙ number_of-nil)
    ∙ no_session (number_of (before_first is_dash numbers)) (number_of stream))

-- a text of eight words and parts
pub eight_read : (parts : List (Bor (List ℕ))) (d : Bor (List ℕ)) (read : Result ReadName NameFault) (p l s n all : Bool) → 8 ≤ length parts → length parts < 9
    → p ≡ is_named (codes "projects") (get_or parts 0 d).now (get_or parts 1 d).now
    → l ≡ is_named (codes "locations") (get_or parts 2 d).now (get_or parts 3 d).now
    → s ≡ is_named (codes "sessions") (get_or parts 4 d).now (get_or parts 5 d).now
    → n ≡ is_named (codes "streams") (get_or parts 6 d).now (get_or parts 7 d).now
    → all ≡ (p && l && s && n)
    → Reads (if all then Some (record { project = (get_or parts 1 d).now; location = (get_or parts 3 d).now; session = (get_or parts 5 d).now; stream = (get_or parts 7 d).now }) else None) read
    → Reads (read_in (map (λ x. x.now) parts)) read
eight_read [] d read p l s n all least most ep el es en e h = absurd (omega (arith, least))
eight_read (_ ∷ []) d read p l s n all least most ep el es en e h = absurd (omega (arith, least))
eight_read (_ ∷ _ ∷ []) d read p l s n all least most ep el es en e h = absurd (omega (arith, least))
eight_read (_ ∷ _ ∷ _ ∷ []) d read p l s n all least most ep el es en e h = absurd (omega (arith, least))
eight_read (_ ∷ _ ∷ _ ∷ _ ∷ []) d read p l s n all least most ep el es en e h = absurd (omega (arith, least))
eight_read (_ ∷ _ ∷ _ ∷ _ ∷ _ ∷ []) d read p l s n all least most ep el es en e h = absurd (omega (arith, least))
eight_read (_ ∷ _ ∷ _ ∷ _ ∷ _ ∷ _ ∷ []) d read p l s n all least most ep el es en e h = absurd (omega (arith, least))
eight_read (_ ∷ _ ∷ _ ∷ _ ∷ _ ∷ _ ∷ _ ∷ []) d read p l s n all least most ep el es en e h = absurd (omega (arith, least))
eight_read (a ∷ b ∷ f ∷ g ∷ i ∷ j ∷ k ∷ m ∷ []) d read p l s n all least most ep el es en e h =
    subst (λ (named : Bool). Reads (if named then Some (record { project = b.now; location = g.now; session = j.now; stream = m.now }) else None) read)
    (e ∙ ap (λ (x : Bool). x && l && s && n) ep ∙ ap (λ (x : Bool). is_named (codes "projects") a.now b.now && x && s && n) el
    ∙ ap (λ (x : Bool). is_named (codes "projects") a.now b.now && is_named (codes "locations") f.now g.now && x && n) es
    ∙ ap (λ (x : Bool). is_named (codes "projects") a.now b.now && is_named (codes "locations") f.now g.now && is_named (codes "sessions") i.now j.now && x) en) h
eight_read (_ ∷ _ ∷ _ ∷ _ ∷ _ ∷ _ ∷ _ ∷ _ ∷ _ ∷ _) d read p l s n all least most ep el es en e h = absurd (omega (arith, most))

-- one of another number
pub other_number : (parts : List (List ℕ)) → (length parts ≡ 8 → ⊥) → read_in parts ≡ None
other_number parts other = none_if (read_in parts) (λ name e. other (ap length (read_found parts name e).0))
