-- A message is spelled part by part.
use Rattle.std.proofs.Common.{◌≡◌, ◌≤◌, ℕ, List, ◌++◌, length, take, map, sym, ap, subst, ◌∙◌}
use Rattle.std.proofs.lemmas.List.{take_all}
use Rattle.std.specs.List.{flat_map}
use Rattle.std.proofs.lemmas.List.Concat.{flat_map-append}
use Rattle.std.proofs.lemmas.List.Folds.{flat_map-map}
use Rattle.proto_fields.specs.Record.{Record, record_bytes}
use Rattle.proto_fields.specs.Message.{message_of}
use Rattle.write_msgs.specs.declared.response_parts.RowError.{RowError}
use Rattle.write_msgs.specs.Writing.{bytes_field, repeated_field}
use Rattle.write_msgs.specs.ResponseBytes.{row_error_bytes}

pub message_joins : (xs ys : List Record) → message_of (xs ++ ys) ≡ message_of xs ++ message_of ys
message_joins xs ys = flat_map-append record_bytes xs ys

pub items_written : (number : ℕ) (items : List (List ℕ)) → message_of (repeated_field number items) ≡ flat_map (λ item. record_bytes (bytes_field number item)) items
items_written number items = flat_map-map record_bytes (bytes_field number) items

pub row_errors_written : (number : ℕ) (errors : List RowError)
    → message_of (repeated_field number (map row_error_bytes errors)) ≡ flat_map (λ error. record_bytes (bytes_field number (row_error_bytes error))) errors
row_errors_written number errors = items_written number (map row_error_bytes errors) ∙ flat_map-map (λ item. record_bytes (bytes_field number item)) row_error_bytes errors

-- the same at the end of a loop
pub row_errors_done : (number n : ℕ) (errors : List RowError) (before out : List ℕ)
    → out ≡ before ++ flat_map (λ error. record_bytes (bytes_field number (row_error_bytes error))) (take n errors) → length errors ≤ n
    → out ≡ before ++ message_of (repeated_field number (map row_error_bytes errors))
row_errors_done number n errors before out written all =
    let g : RowError → List ℕ = λ error. record_bytes (bytes_field number (row_error_bytes error)) in
    written ∙ ap (λ some. before ++ flat_map g some) (take_all n errors all) ∙ ap (λ bytes. before ++ bytes) (sym (row_errors_written number errors))

pub items_done : (number n : ℕ) (items blobs : List (List ℕ)) (out : List ℕ) → out ≡ flat_map (λ item. record_bytes (bytes_field number item)) (take n items) → blobs ≡ items
    → length blobs ≤ n → out ≡ message_of (repeated_field number items)
items_done number n items blobs out written same all =
    let g : List ℕ → List ℕ = λ item. record_bytes (bytes_field number item) in
    let whole : length items ≤ n = subst (λ (xs : List (List ℕ)). length xs ≤ n) same all in
    written ∙ ap (flat_map g) (take_all n items whole) ∙ sym (items_written number items)

-- a repeated field at the end of a loop
pub all_written : {X : Type 0} (write : X → List ℕ) (number n : ℕ) (items : List X) (before out : List ℕ)
    → out ≡ before ++ flat_map (λ item. record_bytes (bytes_field number (write item))) (take n items) → length items ≤ n → out ≡ before ++ message_of (repeated_field number (map write items))
all_written {X} write number n items before out written all =
    let g : X → List ℕ = λ item. record_bytes (bytes_field number (write item)) in
    let whole : message_of (repeated_field number (map write items)) ≡ flat_map g items =
    items_written number (map write items) ∙ flat_map-map (λ item. record_bytes (bytes_field number item)) write items in
    written ∙ ap (λ some. before ++ flat_map g some) (take_all n items all) ∙ ap (λ bytes. before ++ bytes) (sym whole)

pub texts_written : (number n : ℕ) (items : List (List ℕ)) (before out : List ℕ) → out ≡ before ++ flat_map (λ item. record_bytes (bytes_field number item)) (take n items) → length items ≤ n
    → out ≡ before ++ message_of (repeated_field number items)
texts_written number n items before out written all =
    let g : List ℕ → List ℕ = λ item. record_bytes (bytes_field number item) in
    written ∙ ap (λ some. before ++ flat_map g some) (take_all n items all) ∙ ap (λ bytes. before ++ bytes) (sym (items_written number items))
