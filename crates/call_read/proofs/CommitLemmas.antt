-- What a commit asks, by what was read of its streams.
use Rattle.std.proofs.Common.{◌≡◌, inl, inr, ℕ, suc, ◌+◌, ◌<◌, ◌≤◌, ℤ, Bool, true, false, List, [], ◌∷◌, map, length, Option, Some, None, Result, Ok, Err, refl, sym, ap, ◌∙◌, subst, arith, sum_by}
use Rattle.std.specs.Prelude.{slice_get, if◌then◌else◌, IfOk, OnErr}
use Rattle.outside.specs.declared.wants.Memory.{Memory}
use Rattle.std.proofs.lemmas.List.Sums.{sum_by-cons}
use Rattle.column_types.specs.declared.column.Column.{Column}
use Rattle.resource_names.specs.declared.tables.TableName.{TableName}
use Rattle.resource_names.specs.declared.write_streams.WriteName.{WriteName}
use Rattle.resource_names.specs.Table.{table_name_of, table_text}
use Rattle.resource_names.specs.Write.{write_name_of}
use Rattle.table_spec.specs.declared.spec.TableSpec.{TableSpec}
use Rattle.table_spec.specs.Columns.{all_of}
use Rattle.table_model.specs.declared.commands.Command.{Command}
use Rattle.table_model.specs.declared.commands.Command.TheVariants as command
use Rattle.table_model.specs.declared.reasons.Why.{Why}
use Rattle.table_model.specs.declared.reasons.Why.TheVariants as why
use Rattle.table_model.specs.declared.replies.Reply.{Reply}
use Rattle.table_model.specs.declared.streams.StreamRef.{StreamRef}
use Rattle.table_model.specs.Checks.{is_empty}
use Rattle.proto_fields.specs.Record.{Record}
use Rattle.proto_fields.specs.Message.{fields_of}
use Rattle.proto_fields.specs.Selection.{payloads_of}
use Rattle.proto_fields.proofs.SizeLemmas.{payloads_are_shorter}
use Rattle.write_msgs.specs.declared.faults.MsgFault.{MsgFault}
use Rattle.write_msgs.specs.declared.commits.BatchCommitWriteStreamsRequest.{BatchCommitWriteStreamsRequest}
use Rattle.write_msgs.specs.declared.numbers.TheConstants.{PARENT, WRITE_STREAMS}
use Rattle.write_msgs.specs.Faults.{both}
use Rattle.write_msgs.specs.Reading.{◌>>=◌, refused_at, text_in}
use Rattle.write_msgs.specs.Repeated.{items_from, joined, located, placed_items, repeated}
use Rattle.write_msgs.specs.Commits.{text_item, batch_commit_write_streams_request_of}
use Rattle.open_tables.specs.Tables.{OpenTable, TableView, place_of, specs_of}
use Rattle.open_tables.specs.Plans.{Plan, Fixed, At, GetsAt, Loses, on_command}
use Rattle.conn_requests.specs.declared.answers.Answer.{Answer}
use Rattle.call_plans.specs.Endings.{refused_for}
use Rattle.call_plans.specs.Committed.{told_committed}
use Rattle.call_plans.specs.Committing.{commit_by, commit_of, commit_on, has_other_table, is_none_named}
use Rattle.call_plans.specs.Twice.{repeats, repeats_unknown}
use Rattle.call_read.specs.Deciding.{IsAsked}
use Rattle.call_read.specs.Streams.{AreNamed, hindrance, refs_of}
use Rattle.call_read.specs.Codes.{HasCodes}
use Rattle.call_read.proofs.CodeLemmas.{replies_have_codes}
use Rattle.call_read.proofs.StreamLemmas.{as_many}
use Rattle.call_names.proofs.TableLemmas.{on_table-there, spec_there}
use Rattle.call_read.proofs.UnknownLemmas.{unknown_among-is}

-- ---- a reply told otherwise

module _ {A : Type 0} (passes : List TableView) (place : ℕ) (columns : List Column) (asked : Command) (now : ℤ) (after : List TableView) (told : Reply → A) where
  pub gets_told : (given : Reply) → GetsAt passes place (on_command columns asked (λ (r : Reply). r)) now given after → GetsAt passes place (on_command columns asked told) now (told given) after
  gets_told given gets = record { view = gets.view; point = gets.point; found = gets.found; reaches = gets.reaches; is = ap told gets.is; behind = gets.behind }

  pub loses_told : Loses passes (At place (on_command columns asked (λ (r : Reply). r))) now after → Loses passes (At place (on_command columns asked told)) now after
  loses_told (inl none) = inl none
  loses_told (inr loses) = inr (record { view = loses.view; point = loses.point; found = loses.found; reaches = loses.reaches; behind = loses.behind })

-- the reply of a turn, as the turn tells it
pub turn_replies : (specs : List TableSpec) (passes : List TableView) (place : ℕ) (asked : Command) (n now : ℤ) (after : List TableView) (result : Result Reply Memory) (given : Reply)
    → IfOk result (λ reply. (spec : TableSpec) → slice_get specs place ≡ Some spec → (told : Reply → Reply) → GetsAt passes place (on_command spec.schema asked told) n (told reply) after)
    → result ≡ Ok given → n ≡ now → (spec : TableSpec) → slice_get specs place ≡ Some spec → GetsAt passes place (on_command spec.schema asked (λ (r : Reply). r)) now given after
turn_replies specs passes place asked n now after (Ok reply) given gets is same spec at =
    let e : reply ≡ given = cc in
    let P : ℤ → Reply → Type 0 = λ m r. GetsAt passes place (on_command spec.schema asked (λ (r : Reply). r)) m r after in
    subst (λ m. P m given) same (subst (P n) e (gets spec at (λ r. r)))
turn_replies specs passes place asked n now after (Err memory) given gets is same spec at = absurd cc

-- its codes are those of a commit
pub turn_codes : (passes : List TableView) (place : ℕ) (columns : List Column) (streams : List StreamRef) (now : ℤ) (after : List TableView) (given : Reply)
    → GetsAt passes place (on_command columns (command.Commit streams) (λ (r : Reply). r)) now given after → HasCodes given
turn_codes passes place columns streams now after given gets = subst HasCodes (sym gets.is) (replies_have_codes (length columns) gets.point gets.view.number streams now)

-- the answer that tells it
pub turn_told : (passes : List TableView) (place : ℕ) (columns : List Column) (asked : Command) (now : ℤ) (after : List TableView) (told : Reply → Answer) (given : Reply) (result : Result Answer Memory)
    → GetsAt passes place (on_command columns asked (λ (r : Reply). r)) now given after → IfOk result (λ answer. answer ≡ told given)
    → IfOk result (λ answer. GetsAt passes place (on_command columns asked told) now answer after)
turn_told passes place columns asked now after told given (Ok answer) gets is =
    subst (λ a. GetsAt passes place (on_command columns asked told) now a after) (sym is) (gets_told passes place columns asked now after told given gets)
turn_told passes place columns asked now after told given (Err memory) gets is = tt

-- the answer that is lost
pub turn_lost : (passes : List TableView) (place : ℕ) (columns : List Column) (asked : Command) (n now : ℤ) (after : List TableView) (told : Reply → Answer) (result : Result Answer Memory)
    → Loses passes (At place (on_command columns asked (λ (r : Reply). r))) n after → n ≡ now → OnErr result (Loses passes (At place (on_command columns asked told)) now after)
turn_lost passes place columns asked n now after told (Ok answer) loses same = tt
turn_lost passes place columns asked n now after told (Err memory) loses same =
    subst (λ m. Loses passes (At place (on_command columns asked told)) m after) same (loses_told passes place columns asked n after told loses)

-- ---- the plan

-- the first cause that holds, or what is asked of the table
abbrev pub by_hindrance : Option Why → Plan Answer → Plan Answer
by_hindrance None asks = asks
by_hindrance (Some cause) asks = Fixed (refused_for cause)

-- the plan of a commit of these streams
abbrev pub asked_at : (texts : List (List ℕ)) → List StreamRef → (place : ℕ) → List Column → Plan Answer
asked_at texts refs place columns = At place (on_command columns (command.Commit refs) (told_committed texts))

hindered : (a b c : Bool) (asks : Plan Answer)
    → (if a then Fixed (refused_for why.NoStreams) else if b then Fixed (refused_for why.OtherTable) else if c then Fixed (refused_for why.Twice) else asks)
    ≡ by_hindrance (if a then Some why.NoStreams else if b then Some why.OtherTable else if c then Some why.Twice else None) asks
hindered true b c asks = refl
hindered false true c asks = refl
hindered false false true asks = refl
hindered false false false asks = refl

is_empty-is : (names : List WriteName) → is_none_named names ≡ is_empty (refs_of names)
is_empty-is [] = refl
is_empty-is (name ∷ names) = refl

commit_of-is : (table : TableName) (texts : List (List ℕ)) (names : List WriteName) (place : ℕ) (spec : TableSpec)
    → commit_of table texts names place spec ≡ by_hindrance (hindrance texts (refs_of names) (has_other_table table names)) (asked_at texts (refs_of names) place spec.schema)
commit_of-is table texts names place spec =
    let asks : Plan Answer = asked_at texts (refs_of names) place spec.schema in
    hindered (is_none_named names) (has_other_table table names) (repeats_unknown texts names) asks
    ∙ ap (λ a. by_hindrance (if a then Some why.NoStreams else if has_other_table table names then Some why.OtherTable else if repeats_unknown texts names then Some why.Twice else None) asks) (is_empty-is names)
    ∙ ap (λ unknown. by_hindrance (if is_empty (refs_of names) then Some why.NoStreams else if has_other_table table names then Some why.OtherTable else if repeats unknown then Some why.Twice else None) asks) (sym (unknown_among-is texts names))

-- what a commit asks whose table is there
pub commit_on-there : (specs : List TableSpec) (texts : List (List ℕ)) (table : TableName) (refs : List StreamRef) (other : Bool) (place : ℕ) (spec : TableSpec)
    → Some place ≡ place_of specs (table_text table) → slice_get specs place ≡ Some spec → AreNamed table texts refs other
    → commit_on specs texts (Some table) (all_of (map write_name_of texts)) ≡ by_hindrance (hindrance texts refs other) (asked_at texts refs place spec.schema)
commit_on-there specs texts table refs other place spec at there named =
    ap (commit_on specs texts (Some table)) named.read
    ∙ on_table-there specs (refused_for why.NoTable) table (commit_of table texts named.names) place spec at there
    ∙ commit_of-is table texts named.names place spec
    ∙ ap (λ (rs : List StreamRef). by_hindrance (hindrance texts rs (has_other_table table named.names)) (asked_at texts rs place spec.schema)) (sym named.refs_are)
    ∙ ap (λ o. by_hindrance (hindrance texts refs o) (asked_at texts refs place spec.schema)) (sym named.other_is)

-- what is decided of a request whose table is there
module _ (tables : List OpenTable) (request : BatchCommitWriteStreamsRequest) (table : TableName) (refs : List StreamRef) (other : Bool) (place : ℕ) (parent : table_name_of request.parent ≡ Some table) (at : Some place ≡ place_of (specs_of tables) (table_text table)) (within : place < length tables) (named : AreNamed table request.write_streams refs other) where
  plan_there : (spec : TableSpec) → slice_get (specs_of tables) place ≡ Some spec
      → commit_by (specs_of tables) (Ok request) ≡ by_hindrance (hindrance request.write_streams refs other) (asked_at request.write_streams refs place spec.schema)
  plan_there spec found =
      ap (λ name. commit_on (specs_of tables) request.write_streams name (all_of (map write_name_of request.write_streams))) parent
      ∙ commit_on-there (specs_of tables) request.write_streams table refs other place spec at found named

  pub decided_refuses : (cause : Why) → hindrance request.write_streams refs other ≡ Some cause → commit_by (specs_of tables) (Ok request) ≡ Fixed (refused_for cause)
  decided_refuses cause hinders =
      let there = spec_there tables place within in
      plan_there there.0 there.1 ∙ ap (λ cause. by_hindrance cause (asked_at request.write_streams refs place there.0.schema)) hinders

  pub decided_asks : hindrance request.write_streams refs other ≡ None → IsAsked tables request place refs
  decided_asks free =
      let there = spec_there tables place within in
      record {
        spec = there.0;
        found = there.1;
        within = within;
        each = sym (as_many table request.write_streams refs other named);
        plan = plan_there there.0 there.1 ∙ ap (λ cause. by_hindrance cause (asked_at request.write_streams refs place there.0.schema)) free;
      }

-- ---- how many streams a message names

joined-length : {X : Type 0} (one : Result X MsgFault) (others : Result (List X) MsgFault) (count : ℕ) (xs : List X) → ((ys : List X) → others ≡ Ok ys → length ys ≡ count)
    → joined (both one others) ≡ Ok xs → length xs ≡ suc count
joined-length (Ok x) (Ok ys) count xs same e = let all : x ∷ ys ≡ xs = cc in ap length (sym all) ∙ ap suc (same ys refl)
joined-length (Ok x) (Err fault) count xs same e = absurd cc
joined-length (Err fault) (Ok ys) count xs same e = absurd cc
joined-length (Err fault) (Err other) count xs same e = absurd cc

items_from-length : {X : Type 0} (read : List ℕ → Result X MsgFault) (n : ℕ) (payloads : List (List ℕ)) (xs : List X) → items_from read n payloads ≡ Ok xs → length xs ≡ length payloads
unfolding items_from
items_from-length read n [] xs e = let nil : [] ≡ xs = cc in ap length (sym nil)
items_from-length read n (payload ∷ payloads) xs e =
    joined-length (located n (read payload)) (items_from read (n + 1) payloads) (length payloads) xs (λ ys is. items_from-length read (n + 1) payloads ys is) e

placed-ok : {X : Type 0} (number : ℕ) (bytes : List ℕ) (items : Result (List X) MsgFault) (xs : List X) → placed_items number bytes items ≡ Ok xs → items ≡ Ok xs
placed-ok number bytes (Ok ys) xs e = e
placed-ok number bytes (Err fault) xs e = absurd cc

repeated-length : {X : Type 0} (read : List ℕ → Result X MsgFault) (number : ℕ) (bytes : List ℕ) (records : List Record) (xs : List X) → repeated read number bytes records ≡ Ok xs
    → length xs ≡ length (payloads_of number records)
repeated-length read number bytes records xs e =
    items_from-length read 0 (payloads_of number records) xs (placed-ok number bytes (items_from read 0 (payloads_of number records)) xs e)

length-le-sum : (payloads : List (List ℕ)) → length payloads ≤ sum_by (λ (p : List ℕ). length p + 1) payloads
length-le-sum [] = omega arith
length-le-sum (p ∷ payloads) = omega (arith, sum_by-cons (λ (p : List ℕ). length p + 1) p payloads, length-le-sum payloads)

pub names_are_few : (message : List ℕ) (request : BatchCommitWriteStreamsRequest) → batch_commit_write_streams_request_of message ≡ Ok request → length request.write_streams ≤ length message
unfolding batch_commit_write_streams_request_of
names_are_few message request e = by_records (fields_of message) refl e
  where
    by_parts : (records : List Record) → fields_of message ≡ Ok records → (parent : Result (List ℕ) MsgFault) (names : Result (List (List ℕ)) MsgFault)
        → repeated (text_item WRITE_STREAMS) WRITE_STREAMS message records ≡ names
        → (both parent names >>= λ parts. Ok (record { parent = parts.0; write_streams = parts.1 })) ≡ Ok request → length request.write_streams ≤ length message
    by_parts records read (Ok parent) (Ok names) is e =
        let same : names ≡ request.write_streams = cc in
        omega (arith, ap length same, repeated-length (text_item WRITE_STREAMS) WRITE_STREAMS message records names is, length-le-sum (payloads_of WRITE_STREAMS records), payloads_are_shorter message records WRITE_STREAMS read)
    by_parts records read (Ok parent) (Err fault) is e = absurd cc
    by_parts records read (Err fault) (Ok names) is e = absurd cc
    by_parts records read (Err fault) (Err other) is e = absurd cc

    by_records : (records : Result (List Record) ℕ) → fields_of message ≡ records
        → (refused_at records >>= λ records. both (text_in PARENT records) (repeated (text_item WRITE_STREAMS) WRITE_STREAMS message records) >>= λ parts. Ok (record { parent = parts.0; write_streams = parts.1 })) ≡ Ok request
        → length request.write_streams ≤ length message
    by_records (Ok records) read e = by_parts records read (text_in PARENT records) (repeated (text_item WRITE_STREAMS) WRITE_STREAMS message records) refl e
    by_records (Err at) read e = absurd cc
