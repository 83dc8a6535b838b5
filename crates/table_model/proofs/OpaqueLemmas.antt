-- What an append of opaque rows is answered, and what a store keeps.
use Rattle.std.proofs.Common.{◌≡◌, ℕ, ◌+◌, ◌-◌, ◌≤◌, ◌<◌, ℤ, List, [], ◌∷◌, None, Some, Ok, Err, sym, ap, ◌∙◌, arith, length}
use Rattle.std.specs.Prelude.{Option, nat_lt, nat_le, if◌then◌else◌}
use Rattle.std.proofs.lemmas.List.Sums.{sum_by-cons}
use Rattle.std.proofs.lemmas.Bool.Decides.{nat_tests}
use Rattle.table_model.specs.declared.limits.TheConstants.{MAX_ENTRIES, MAX_WEIGHT}
use Rattle.table_model.specs.declared.reasons.Why.{Why}
use Rattle.table_model.specs.declared.reasons.Why.TheVariants as why
use Rattle.table_model.specs.declared.opaque_rows.OpaqueEntry.{OpaqueEntry}
use Rattle.table_model.specs.Reasons.{refusal_of}
use Rattle.table_model.specs.Opaque.{answer_of, content_of, end_of, entry_of, place_refusal_of, place_rules, room_rules, size_of, weight_of}
use Rattle.table_model.specs.OpaqueKept.{IsKept}
use Rattle.table_model.proofs.RuleLemmas.{unless-first, unless-none}

-- a wrong place is refused
pub answer_of-place : (history : List OpaqueEntry) (offset : Option ℤ) (rows : List (List ℕ)) (end : ℕ) (w : Why)
    → end ≡ end_of history → Some w ≡ place_refusal_of end offset (length rows)
    → answer_of history offset rows ≡ Err (refusal_of w)
answer_of-place history offset rows end w here refused =
    unless-first (place_rules (end_of history) offset (length rows)) (room_rules history rows) (entry_of history rows) w
    (ap (λ n. place_refusal_of n offset (length rows)) (sym here) ∙ sym refused)

-- a row weighs more than nothing
pub length-le-weight_of : (rows : List (List ℕ)) → length rows ≤ weight_of rows
length-le-weight_of [] = omega arith
length-le-weight_of (row ∷ rows) = rw (sum_by-cons size_of row rows) (omega (arith, length-le-weight_of rows))

-- rows that fit, at the right place, are accepted at the end
pub answer_of-room : (history : List OpaqueEntry) (offset : Option ℤ) (rows : List (List ℕ)) (end weight more : ℕ)
    → IsKept history end weight → None ≡ place_refusal_of end offset (length rows)
    → more ≡ weight_of rows → more ≤ MAX_WEIGHT - weight → length history < MAX_ENTRIES
    → answer_of history offset rows ≡ Ok (record { offset = end; rows = rows })
answer_of-room history offset rows end weight more kept placed heavy light short =
    unless-none (place_rules (end_of history) offset (length rows)) (room_rules history rows) (entry_of history rows)
    (ap (λ n. place_refusal_of n offset (length rows)) (sym kept.end_is) ∙ sym placed)
    ∙ roomy (weight_of (content_of history)) (weight_of rows) (length history) (entry_of history rows)
    (let same : weight ≡ weight_of (content_of history) = kept.weight_is in let most : weight ≤ MAX_WEIGHT = kept.light in omega arith) short
    ∙ ap (λ n. Ok (record { offset = n; rows = rows })) (sym kept.end_is)
  where
    roomy : (had more many : ℕ) (entry : OpaqueEntry) → had + more ≤ MAX_WEIGHT → many < MAX_ENTRIES
        → (if nat_lt MAX_WEIGHT (had + more) then Err (refusal_of why.FullRows) else (if nat_le MAX_ENTRIES many then Err (refusal_of why.FullEntries) else Ok entry)) ≡ Ok entry
    roomy had more many entry fits few = grind (arith, nat_tests)

-- offsets are far below 2^64
pub end-light : (history : List OpaqueEntry) (rows : List (List ℕ)) (end weight more : ℕ)
    → IsKept history end weight → more ≡ weight_of rows → more ≤ MAX_WEIGHT - weight → end + length rows ≤ MAX_WEIGHT
end-light history rows end weight more kept heavy light =
    let there : end ≤ weight = rw (kept.end_is, kept.weight_is) (length-le-weight_of (content_of history)) in
    let here : length rows ≤ more = rw heavy (length-le-weight_of rows) in
    let most : weight ≤ MAX_WEIGHT = kept.light in
    omega arith
