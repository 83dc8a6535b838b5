-- The write streams that texts name, one after another.
use Rattle.std.proofs.Common.{◌≡◌, ℕ, suc, ◌+◌, ◌<◌, Bool, true, false, ◌||◌, List, [], ◌∷◌, ◌++◌, map, length, get_or, take, drop, Option, Some, None, refl, sym, ap, ◌∙◌, drop-cons}
use Rattle.std.specs.Prelude.{not, option_and_then}
use Rattle.std.proofs.lemmas.List.{take_more, take-append-drop, map-append, length-map}
use Rattle.std.proofs.lemmas.List.Folds.{list_any-append}
use Rattle.resource_names.specs.declared.tables.TableName.{TableName}
use Rattle.resource_names.specs.declared.write_streams.WriteName.{WriteName}
use Rattle.resource_names.specs.Write.{write_name_of}
use Rattle.table_spec.specs.Columns.{all_of}
use Rattle.table_model.specs.declared.streams.StreamRef.{StreamRef}
use Rattle.call_plans.specs.Names.{is_one_table, ref_of}
use Rattle.call_plans.specs.Committing.{has_other_table}
use Rattle.call_read.specs.Streams.{AreNamed}

push_behind : {A : Type 0} (x y : A) (xs : List (Option A)) (ys : List A) (rest : Option (List A)) → all_of xs ≡ rest
    → ((zs : List A) → all_of xs ≡ Some zs → all_of (xs ++ Some y ∷ []) ≡ Some (zs ++ y ∷ []))
    → option_and_then (λ xs. Some (x ∷ xs)) rest ≡ Some ys → option_and_then (λ xs. Some (x ∷ xs)) (all_of (xs ++ Some y ∷ [])) ≡ Some (ys ++ y ∷ [])
push_behind x y xs ys None is more all = absurd cc
push_behind x y xs ys (Some zs) is more all =
    ap (option_and_then (λ xs. Some (x ∷ xs))) (more zs is) ∙ ap (option_and_then (λ zs. Some (zs ++ y ∷ []))) all

-- one more at the end
all_of-push : {A : Type 0} (xs : List (Option A)) (ys : List A) (y : A) → all_of xs ≡ Some ys → all_of (xs ++ Some y ∷ []) ≡ Some (ys ++ y ∷ [])
all_of-push [] ys y all = ap (option_and_then (λ zs. Some (zs ++ y ∷ []))) all
all_of-push (None ∷ xs) ys y all = absurd cc
all_of-push (Some x ∷ xs) ys y all = push_behind x y xs ys (all_of xs) refl (λ zs is. all_of-push xs zs y is) all

-- where one is missing, all are
all_of-missing : {A : Type 0} (xs ys : List (Option A)) → all_of (xs ++ None ∷ ys) ≡ None
all_of-missing [] ys = refl
all_of-missing (None ∷ xs) ys = refl
all_of-missing (Some x ∷ xs) ys = ap (option_and_then (λ xs. Some (x ∷ xs))) (all_of-missing xs ys)

-- a text names no write stream
pub none_named : (texts : List (List ℕ)) (i : ℕ) (text : List ℕ) → i < length texts → text ≡ get_or texts i text → write_name_of text ≡ None → all_of (map write_name_of texts) ≡ None
none_named texts i text within here none =
    let behind : drop i texts ≡ text ∷ drop (suc i) texts = drop-cons texts i text within ∙ ap (λ y. y ∷ drop (suc i) texts) (sym here) in
    let whole : texts ≡ take i texts ++ text ∷ drop (suc i) texts = sym (take-append-drop i texts) ∙ ap (λ t. take i texts ++ t) behind in
    ap (λ (ts : List (List ℕ)). all_of (map write_name_of ts)) whole
    ∙ ap all_of (map-append write_name_of (take i texts) (text ∷ drop (suc i) texts))
    ∙ ap (λ name. all_of (map write_name_of (take i texts) ++ name ∷ map write_name_of (drop (suc i) texts))) none
    ∙ all_of-missing (map write_name_of (take i texts)) (map write_name_of (drop (suc i) texts))

-- one write stream more
pub one_read : (table : TableName) (texts : List (List ℕ)) (i : ℕ) (text : List ℕ) (name : WriteName) (refs refs' : List StreamRef) (other other' : Bool)
    → i < length texts → text ≡ get_or texts i text → write_name_of text ≡ Some name → AreNamed table (take i texts) refs other
    → refs' ≡ refs ++ ref_of name.stream ∷ [] → other' ≡ (other || not (is_one_table table name.table)) → AreNamed table (take (i + 1) texts) refs' other'
one_read table texts i text name refs refs' other other' within here is named refs_are other_is = record {
  names = named.names ++ name ∷ [];
  read =
      ap (λ (ts : List (List ℕ)). all_of (map write_name_of ts)) (take_more texts i text within ∙ ap (λ t. take i texts ++ t ∷ []) (sym here))
      ∙ ap all_of (map-append write_name_of (take i texts) (text ∷ []))
      ∙ ap (λ name. all_of (map write_name_of (take i texts) ++ name ∷ [])) is
      ∙ all_of-push (map write_name_of (take i texts)) named.names name named.read;
  refs_are = refs_are ∙ ap (λ refs. refs ++ ref_of name.stream ∷ []) named.refs_are ∙ sym (map-append (λ (n : WriteName). ref_of n.stream) named.names (name ∷ []));
  other_is =
      other_is ∙ ap (λ had. had || not (is_one_table table name.table)) named.other_is
      ∙ ap (λ last. has_other_table table named.names || last) (or_false (not (is_one_table table name.table)))
      ∙ sym (list_any-append (λ (n : WriteName). not (is_one_table table n.table)) named.names (name ∷ []));
}
  where
    or_false : (b : Bool) → b ≡ (b || false)
    or_false true = refl
    or_false false = refl

length_behind : {A : Type 0} (x : A) (xs : List (Option A)) (ys : List A) (rest : Option (List A)) → all_of xs ≡ rest → ((zs : List A) → all_of xs ≡ Some zs → length zs ≡ length xs)
    → option_and_then (λ xs. Some (x ∷ xs)) rest ≡ Some ys → length ys ≡ suc (length xs)
length_behind x xs ys None is same all = absurd cc
length_behind x xs ys (Some zs) is same all = let here : x ∷ zs ≡ ys = cc in ap length (sym here) ∙ ap suc (same zs is)

all_of-length : {A : Type 0} (xs : List (Option A)) (ys : List A) → all_of xs ≡ Some ys → length ys ≡ length xs
all_of-length [] ys all = let nil : [] ≡ ys = cc in ap length (sym nil)
all_of-length (None ∷ xs) ys all = absurd cc
all_of-length (Some x ∷ xs) ys all = length_behind x xs ys (all_of xs) refl (λ zs is. all_of-length xs zs is) all

-- there are as many streams as texts
pub as_many : (table : TableName) (texts : List (List ℕ)) (refs : List StreamRef) (other : Bool) → AreNamed table texts refs other → length texts ≡ length refs
as_many table texts refs other named =
    sym (ap length named.refs_are ∙ length-map named.names (λ (n : WriteName). ref_of n.stream) ∙ all_of-length (map write_name_of texts) named.names named.read ∙ length-map texts write_name_of)
