-- What is told of a node that a table holds, from an offset on, to one who reads it at a moment.
use Rattle.std.specs.Prelude.{ℤ, pos, nat_abs, int_le, int_lt, List, [], ◌∷◌, length, drop, map, Result}
use Rattle.std.specs.Int.{int_max}
use Rattle.column_types.specs.declared.column.Column.{Column}
use Rattle.column_types.specs.declared.row.Row.{Row}
use Rattle.column_types.specs.Fields.{projected}
use Rattle.read_cursor.specs.Lease.{matching}
use Rattle.table_engine.specs.declared.looks.Held.{Held}
use Rattle.table_model.specs.declared.reasons.Refusal.{Refusal}
use Rattle.table_model.specs.declared.reasons.Why.TheVariants as why
use Rattle.table_model.specs.Rules.{Rule, unless}
use Rattle.conn_requests.specs.declared.answers.Answer.{Answer}
use Rattle.call_plans.specs.Reading.{told_rows}

abbrev pub held_rules : Held → (offset now : ℤ) → List Rule
held_rules held offset now =
    (int_le held.expires (int_max held.moment now), why.Expired)
    ∷ (int_lt offset (pos 0), why.NegativeOffset)
    ∷ (int_lt (pos (length (matching held.lease))) offset, why.PastEnd)
    ∷ []

abbrev pub held_rows : Held → (offset now : ℤ) → Result (List Row) Refusal
held_rows held offset now = unless (held_rules held offset now) (map (projected held.lease.fields) (drop (nat_abs offset) (matching held.lease)))

abbrev pub held_answer : List Column → Held → (offset now : ℤ) → Answer
held_answer columns held offset now = told_rows columns held.lease.fields (held_rows held offset now)
