-- The rows of an interval, cut in two or followed by others.
use Rattle.std.proofs.Common.{◌≡◌, ℕ, ◌+◌, ◌-◌, ◌≤◌, List, ◌++◌, length, map, take, drop, ap, sym, ◌∙◌, arith}
use Rattle.std.specs.Prelude.{filter}
use Rattle.std.proofs.lemmas.List.{map-append, take-append-drop, take-take, drop-take, drop-drop, drop-append-le, drop-map, take-append-le, length-drop}
use Rattle.std.proofs.lemmas.List.Elements.{filter-append}
use Rattle.column_types.specs.declared.cell.Cell.{Cell}
use Rattle.column_types.specs.declared.predicate.Pred.{Pred}
use Rattle.column_types.specs.Fields.{projected}
use Rattle.row_groups.specs.Places.{joined}
use Rattle.read_cursor.specs.Lease.{Leased, between, keeps, matching, shown}
use Rattle.read_cursor.specs.Reading.{rows_left}

take_parts : {A : Type 0} (n k : ℕ) (items : List A) → take n items ++ take k (drop n items) ≡ take (n + k) items
take_parts n k items =
    ap (λ (front : List _). front ++ take k (drop n items)) (sym (take-take n (n + k) items (omega arith)))
    ∙ ap (λ (rest : List _). take n (take (n + k) items) ++ rest) (sym (drop-take n k items)) ∙ take-append-drop n (take (n + k) items)

between_parts : {A : Type 0} (lo cut hi : ℕ) (items : List A) → lo ≤ cut → cut ≤ hi → between lo cut items ++ between cut hi items ≡ between lo hi items
between_parts lo cut hi items low high =
    let place : lo + (cut - lo) ≡ cut = omega arith in
    let size : (cut - lo) + (hi - cut) ≡ hi - lo = omega arith in
    let behind : drop cut items ≡ drop (cut - lo) (drop lo items) = sym (drop-drop (cut - lo) lo items ∙ ap (λ (n : ℕ). drop n items) place) in
    ap (λ (rest : List _). between lo cut items ++ take (hi - cut) rest) behind ∙ take_parts (cut - lo) (hi - cut) (drop lo items)
    ∙ ap (λ (n : ℕ). take n (drop lo items)) size

pub shown_parts : (pred : Pred) (fields : List ℕ) (lo cut hi : ℕ) (rows : List (List Cell)) → lo ≤ cut → cut ≤ hi →
    shown pred fields lo cut rows ++ shown pred fields cut hi rows ≡ shown pred fields lo hi rows
shown_parts pred fields lo cut hi rows low high =
    sym (map-append (projected fields) (filter (keeps pred) (between lo cut rows)) (filter (keeps pred) (between cut hi rows)))
    ∙ ap (map (projected fields)) (sym (filter-append (keeps pred) (between lo cut rows) (between cut hi rows)) ∙ ap (filter (keeps pred)) (between_parts lo cut hi rows low high))

pub shown_later : (pred : Pred) (fields : List ℕ) (lo hi : ℕ) (rows more : List (List Cell)) → lo ≤ hi → hi ≤ length rows →
    shown pred fields lo hi (rows ++ more) ≡ shown pred fields lo hi rows
shown_later pred fields lo hi rows more low high =
    let behind : drop lo (rows ++ more) ≡ drop lo rows ++ more = drop-append-le lo rows more (omega arith) in
    let front : take (hi - lo) (drop lo rows ++ more) ≡ take (hi - lo) (drop lo rows) = take-append-le (hi - lo) (drop lo rows) more (omega (arith, length-drop lo rows)) in
    ap (λ (items : List (List Cell)). map (projected fields) (filter (keeps pred) items)) (ap (take (hi - lo)) behind ∙ front)

pub shown_behind : (lease : Leased) (at : ℕ) → rows_left (record { lease = lease; at = at }) ≡ drop at (shown lease.pred lease.fields lease.lo lease.hi (joined lease.groups))
shown_behind lease at = sym (drop-map (projected lease.fields) at (matching lease))
