-- A table of opaque rows in one stream: its history is the list of the accepted appends.
use Rattle.std.specs.Prelude.{◌≡◌, ℕ, ◌+◌, ℤ, Option, List, [], ◌∷◌, ◌++◌, length, sum_by, nat_lt, nat_le, ◌==◌, Result, Ok, Err}
use Rattle.std.specs.List.{flat_map}
use Rattle.table_model.specs.declared.limits.TheConstants.{MAX_ENTRIES, MAX_WEIGHT, ROW_OVERHEAD}
use Rattle.table_model.specs.declared.reasons.Refusal.{Refusal}
use Rattle.table_model.specs.declared.reasons.Why.{Why}
use Rattle.table_model.specs.declared.reasons.Why.TheVariants as why
use Rattle.table_model.specs.declared.opaque_rows.OpaqueEntry.{OpaqueEntry}
use Rattle.table_model.specs.declared.opaque_rows.AppendFault.{AppendFault}
use Rattle.table_model.specs.declared.opaque_rows.AppendFault.TheVariants as fault
use Rattle.table_model.specs.Rules.{Rule, first_refusal, unless}
use Rattle.table_model.specs.Offsets.{offset_rules}

-- the rows of all appends, joined in order
abbrev pub content_of : List OpaqueEntry → List (List ℕ)
content_of history = flat_map (λ e. e.rows) history

-- where the next row stands
abbrev pub end_of : List OpaqueEntry → ℕ
end_of history = length (content_of history)

-- a row's size: it has no columns
abbrev pub size_of : List ℕ → ℕ
size_of row = ROW_OVERHEAD + length row

abbrev pub weight_of : List (List ℕ) → ℕ
weight_of rows = sum_by size_of rows

-- the refusals of an append of some rows at an offset, in a stream with this end
abbrev pub place_rules : ℕ → Option ℤ → ℕ → List Rule
place_rules end offset count = (count == 0, why.NoRows) ∷ offset_rules end offset

-- the refusals of an append where its place is right
abbrev pub room_rules : List OpaqueEntry → List (List ℕ) → List Rule
room_rules history rows =
    (nat_lt MAX_WEIGHT (weight_of (content_of history) + weight_of rows), why.FullRows)
    ∷ (nat_le MAX_ENTRIES (length history), why.FullEntries)
    ∷ []

-- all refusals of an append, in their order
abbrev pub append_rules : List OpaqueEntry → Option ℤ → List (List ℕ) → List Rule
append_rules history offset rows = place_rules (end_of history) offset (length rows) ++ room_rules history rows

-- an accepted append stands at the end
abbrev pub entry_of : List OpaqueEntry → List (List ℕ) → OpaqueEntry
entry_of history rows = record { offset = end_of history; rows = rows }

-- the cause for which the place of an append is wrong
abbrev pub place_refusal_of : ℕ → Option ℤ → ℕ → Option Why
place_refusal_of end offset count = first_refusal (place_rules end offset count)

-- what an append is answered at a history: its entry, or the refusal
abbrev pub answer_of : List OpaqueEntry → Option ℤ → List (List ℕ) → Result OpaqueEntry Refusal
answer_of history offset rows = unless (append_rules history offset rows) (entry_of history rows)

-- the history behind an answer
abbrev pub history_after : List OpaqueEntry → Result OpaqueEntry Refusal → List OpaqueEntry
history_after history (Ok entry) = history ++ entry ∷ []
history_after history (Err refusal) = history

-- what an append gave, from a history to the one behind it
abbrev pub Appended : List OpaqueEntry → List OpaqueEntry → Option ℤ → List (List ℕ) → Result ℕ AppendFault → Type 0
Appended old new offset rows (Ok first) =
    (answer_of old offset rows ≡ Ok (record { offset = first; rows = rows })) × (new ≡ old ++ record { offset = first; rows = rows } ∷ [])
Appended old new offset rows (Err (fault.Refused refusal)) = (answer_of old offset rows ≡ Err refusal) × (new ≡ old)
Appended old new offset rows (Err fault.Memory) = new ≡ old
