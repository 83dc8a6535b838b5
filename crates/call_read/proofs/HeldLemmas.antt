-- What is told of a node that a table holds is what its history says.
use Rattle.std.proofs.Common.{◌≡◌, ℕ, ◌≤◌, ℤ, pos, negsuc, Bool, true, false, List, [], ◌∷◌, length, map, drop, filter, Option, Some, None, Result, Ok, Err, arith, if◌then◌else◌, refl, sym, ap, ◌∙◌, subst}
use Rattle.std.proofs.lemmas.Bool.Decides.{nat_tests}
use Rattle.std.proofs.lemmas.List.{length-map, drop-map}
use Rattle.std.proofs.lemmas.List.Elements.{recursion_from_All}
use Rattle.std.specs.Prelude.{int_le, int_lt, nat_abs, nat_lt, slice_get, option_map}
use Rattle.std.specs.Int.{int_max}
use Rattle.std.specs.Result.{IfOk, OnErr}
use Rattle.outside.specs.declared.wants.Memory.{Memory}
use Rattle.resource_names.specs.declared.read_streams.ReadPlace.{ReadPlace}
use Rattle.table_spec.specs.declared.spec.TableSpec.{TableSpec}
use Rattle.open_tables.specs.Tables.{OpenTable, TableView, specs_of}
use Rattle.open_tables.specs.Plans.{At, Gets, Loses}
use Rattle.open_tables.specs.Looked.{LooksAt}
use Rattle.open_tables.proofs.LookLemmas.{gets-looked, loses-seen, seen-looked}
use Rattle.std.specs.List.{AllByRecursion}
use Rattle.column_types.specs.declared.column.Column.{Column}
use Rattle.column_types.specs.declared.row.Row.{Row}
use Rattle.column_types.specs.Fields.{projected, IsMadeFor}
use Rattle.column_types.specs.Row.{Fits}
use Rattle.read_cursor.specs.Lease.{between, keeps, matching}
use Rattle.row_groups.specs.Places.{joined}
use Rattle.row_responses.specs.Body.{IsOf}
use Rattle.row_responses.specs.Responses.{responses_of}
use Rattle.rows_body.specs.declared.body.RowsEnd.TheVariants as rows_end
use Rattle.rows_body.specs.Rows.{Item, items_of}
use Rattle.table_engine.specs.declared.looks.Key.{Key}
use Rattle.table_engine.specs.declared.looks.Held.{Held}
use Rattle.table_engine.specs.Looks.{Holds, Looks}
use Rattle.table_model.specs.declared.reasons.Why.TheVariants as why
use Rattle.table_model.specs.History.{History, moment_of}
use Rattle.table_model.specs.Reasons.{refusal_of}
use Rattle.table_model.specs.Rules.{unless}
use Rattle.split_tree.specs.declared.node.Node.{Node}
use Rattle.table_model.specs.declared.sessions.ReadNode.{ReadNode}
use Rattle.table_model.specs.Sessions.{Opened, session_of, expiry_of, node_in, read_node_of}
use Rattle.table_model.specs.Visible.{visible_of}
use Rattle.conn_requests.specs.declared.answers.Answer.{Answer}
use Rattle.conn_requests.specs.declared.answers.Answer.TheVariants as answers
use Rattle.call_plans.specs.Endings.{refused_for}
use Rattle.call_plans.specs.Reading.{told_rows, read_node, read_session, read_answer, read_turn}
use Rattle.call_read.specs.Held.{held_answer}
use Rattle.call_read.specs.Items.{messages_of, status_of, told_items}

-- an offset that isn't below 0 is above a number where its value is
same_end : (n : ℕ) (offset : ℤ) → nat_lt n (nat_abs offset) ≡ true → int_lt (pos n) offset ≡ false → int_lt offset (pos 0) ≡ false → ⊥
same_end n (pos at) beyond past sign = absurd (grind (arith, nat_tests))
same_end n (negsuc at) beyond past sign = absurd cc

other_end : (n : ℕ) (offset : ℤ) → nat_lt n (nat_abs offset) ≡ false → int_lt (pos n) offset ≡ true → int_lt offset (pos 0) ≡ false → ⊥
other_end n (pos at) beyond past sign = absurd (grind (arith, nat_tests))
other_end n (negsuc at) beyond past sign = absurd cc

module _ (columns : List Column) (history : History) (key : Key) (held : Held) (holds : Holds columns history key held) where
  -- the lease's rows are read by the columns
  pub is_of : IsOf columns held.lease
  is_of = record {
    fit = subst (AllByRecursion (Fits columns)) (sym holds.rows) (recursion_from_All (Fits columns) (visible_of history) holds.fit);
    made = subst (IsMadeFor columns) (sym holds.fields) holds.made;
  }

  rows_there : matching held.lease ≡ filter (keeps holds.session.pred) (between holds.node.interval.from holds.node.interval.upto (visible_of history))
  rows_there =
      ap (λ p. filter (keeps p) (between held.lease.lo held.lease.hi (joined held.lease.groups))) holds.pred
      ∙ ap (λ rows. filter (keeps holds.session.pred) (between held.lease.lo held.lease.hi rows)) holds.rows
      ∙ ap (λ lo. filter (keeps holds.session.pred) (between lo held.lease.hi (visible_of history))) holds.from
      ∙ ap (λ hi. filter (keeps holds.session.pred) (between holds.node.interval.from hi (visible_of history))) holds.upto

  module _ (offset now : ℤ) where
    told : (expires moment : ℤ) (count : ℕ) (rows : List Row) (fields : List ℕ) → Answer
    told expires moment count rows fields =
        told_rows columns fields
        (unless ((int_le expires (int_max moment now), why.Expired) ∷ (int_lt offset (pos 0), why.NegativeOffset) ∷ (int_lt (pos count) offset, why.PastEnd) ∷ []) rows)

    from : List Row → (fields : List ℕ) → List Row
    from rows fields = map (projected fields) (drop (nat_abs offset) rows)

    told_held : told (expiry_of holds.session.moment) (moment_of history) (length (map (projected holds.session.fields) (filter (keeps holds.session.pred) (between holds.node.interval.from holds.node.interval.upto (visible_of history)))))
        (drop (nat_abs offset) (map (projected holds.session.fields) (filter (keeps holds.session.pred) (between holds.node.interval.from holds.node.interval.upto (visible_of history))))) holds.session.fields
        ≡ held_answer columns held offset now
    unfolding told from
    told_held =
        let fields = holds.session.fields in
        let expires = expiry_of holds.session.moment in
        let moment = moment_of history in
        let rows = filter (keeps holds.session.pred) (between holds.node.interval.from holds.node.interval.upto (visible_of history)) in
        let mine = matching held.lease in
        ap (λ count. told expires moment count (drop (nat_abs offset) (map (projected fields) rows)) fields) (length-map rows (projected fields))
        ∙ ap (λ given. told expires moment (length rows) given fields) (drop-map (projected fields) (nat_abs offset) rows)
        ∙ ap (λ (all : List Row). told expires moment (length all) (from all fields) fields) (sym rows_there)
        ∙ ap (λ (chosen : List ℕ). told expires moment (length mine) (from mine chosen) chosen) (sym holds.fields)
        ∙ ap (λ e. told e moment (length mine) (from mine held.lease.fields) held.lease.fields) (sym holds.expires)
        ∙ ap (λ m. told held.expires m (length mine) (from mine held.lease.fields) held.lease.fields) (sym holds.moment)

    -- the answer of the definition
    pub read_answer-held : read_answer columns key.session key.node offset history now ≡ held_answer columns held offset now
    unfolding read_answer told
    read_answer-held =
        ap (λ found. read_session columns offset found key.node history now) holds.opened
        ∙ ap (λ found. read_node columns offset holds.session found history now) holds.there
        ∙ told_held

-- what a body comes to that is to give all rows from the offset on
messages-all : (messages : List (List ℕ)) → messages_of (map Ok messages) ≡ messages
unfolding messages_of
messages-all [] = refl
messages-all (message ∷ messages) = ap (λ rest. message ∷ rest) (messages-all messages)

status-all : (messages : List (List ℕ)) → status_of (map Ok messages) ≡ record { code = 0; text = [] }
unfolding status_of
status-all [] = refl
status-all (message ∷ messages) = status-all messages

told-all : (messages : List (List ℕ)) → told_items (map Ok messages) ≡ answers.Ends messages (record { code = 0; text = [] })
told-all messages =
    ap (λ all. answers.Ends all (status_of (map Ok messages))) (messages-all messages) ∙ ap (answers.Ends messages) (status-all messages)

told-past : (matched : ℕ) → told_items (Err (rows_end.PastEnd matched) ∷ []) ≡ refused_for why.PastEnd
unfolding messages_of status_of
told-past matched = refl

module _ (columns : List Column) (held : Held) (offset now : ℤ) where
  abbrev matched : ℕ
  matched = length (matching held.lease)

  abbrev rows : List Row
  rows = map (projected held.lease.fields) (drop (nat_abs offset) (matching held.lease))

  by_end : (beyond past : Bool) → nat_lt matched (nat_abs offset) ≡ beyond → int_lt (pos matched) offset ≡ past → int_lt offset (pos 0) ≡ false
      → told_items (if beyond then Err (rows_end.PastEnd matched) ∷ [] else map Ok (responses_of columns held.lease.fields rows))
      ≡ told_rows columns held.lease.fields (if past then Err (refusal_of why.PastEnd) else Ok rows)
  by_end true true b p sign = told-past matched
  by_end false false b p sign = told-all (responses_of columns held.lease.fields rows)
  by_end true false b p sign = absurd (same_end matched offset b p sign)
  by_end false true b p sign = absurd (other_end matched offset b p sign)

  pub held-items : (items : List Item) → int_le held.expires (int_max held.moment now) ≡ false → int_lt offset (pos 0) ≡ false
      → items ≡ items_of columns (record { lease = held.lease; at = nat_abs offset }) → told_items items ≡ held_answer columns held offset now
  held-items items fresh sign are =
      let beyond = nat_lt matched (nat_abs offset) in
      let past = int_lt (pos matched) offset in
      let tests : Bool → Bool → Answer = λ expired negative. told_rows columns held.lease.fields
      (if expired then Err (refusal_of why.Expired) else if negative then Err (refusal_of why.NegativeOffset) else if past then Err (refusal_of why.PastEnd) else Ok rows) in
      ap told_items are
      ∙ by_end beyond past refl refl sign
      ∙ ap (λ negative. tests false negative) (sym sign)
      ∙ ap (λ expired. tests expired (int_lt offset (pos 0))) (sym fresh)

-- where there is no such node, it is refused
module _ (columns : List Column) (history : History) (key : Key) (offset now : ℤ) where
  pub read_answer-none : read_node_of history key.session key.node ≡ None → read_answer columns key.session key.node offset history now ≡ refused_for why.NoRead
  unfolding read_answer
  read_answer-none none = by_session (session_of history key.session) none
    where
      by_session : (session : Option Opened) → node_in session key.node ≡ None → read_session columns offset session key.node history now ≡ refused_for why.NoRead
      by_session None none = refl
      by_session (Some session) none = by_node (slice_get session.nodes.list key.node) none
        where
          by_node : (node : Option Node) → option_map {U = ReadNode} (λ n. record { moment = session.moment; node = n; nodes = length session.nodes.list }) node ≡ None
              → read_node columns offset session node history now ≡ refused_for why.NoRead
          by_node None none = refl
          by_node (Some node) none = absurd cc

-- ---- a look

pub looked_at : (tables : List OpenTable) (passes after : List TableView) (place : ℕ) (key : Key) (result : Result (Option Held) Memory) (spec : TableSpec) (look : Option Held)
    → IfOk result (λ look. (spec : TableSpec) → slice_get (specs_of tables) place ≡ Some spec → LooksAt passes place spec.schema key look after)
    → result ≡ Ok look → slice_get (specs_of tables) place ≡ Some spec → LooksAt passes place spec.schema key look after
looked_at tables passes after place key result spec look looks is there =
    subst (λ r. IfOk r (λ look. (spec : TableSpec) → slice_get (specs_of tables) place ≡ Some spec → LooksAt passes place spec.schema key look after)) is looks spec there

-- the lease that a look gives is read by the table's columns
pub is_of-looked : (tables : List OpenTable) (passes after : List TableView) (place : ℕ) (key : Key) (result : Result (Option Held) Memory) (spec : TableSpec) (look : Option Held) (held : Held)
    → IfOk result (λ look. (spec : TableSpec) → slice_get (specs_of tables) place ≡ Some spec → LooksAt passes place spec.schema key look after)
    → result ≡ Ok look → look ≡ Some held → slice_get (specs_of tables) place ≡ Some spec → IsOf spec.schema held.lease
is_of-looked tables passes after place key result spec look held looks is some there =
    let looked = looked_at tables passes after place key result spec look looks is there in
    is_of spec.schema looked.point key held (subst (Looks spec.schema looked.point key) some looked.looks)

module _ (tables : List OpenTable) (passes after : List TableView) (node : ReadPlace) (offset now : ℤ) {X : Type 0} (tell : X → Answer) (answer : Result X Memory) (spec : TableSpec) where
  abbrev key_of : Key
  key_of = record { session = node.session; node = node.node }

  -- who looked has seen a point
  pub loses-looked : (look : Option Held) → LooksAt passes node.table spec.schema key_of look after → OnErr answer (Loses passes (At node.table (read_turn node offset spec.schema)) now after)
  loses-looked look looked = by_answer answer
    where
      by_answer : (a : Result X Memory) → OnErr a (Loses passes (At node.table (read_turn node offset spec.schema)) now after)
      by_answer (Ok given) = tt
      by_answer (Err memory) =
          loses-seen passes after node.table now (read_answer spec.schema node.session node.node offset) (seen-looked passes after node.table spec.schema key_of look looked)

  pub gets-held : (look : Option Held) (held : Held) (n : ℤ) → LooksAt passes node.table spec.schema key_of look after → look ≡ Some held → n ≡ now
      → IfOk answer (λ told. tell told ≡ held_answer spec.schema held offset n)
      → IfOk answer (λ told. Gets passes (At node.table (read_turn node offset spec.schema)) now (tell told) after)
  gets-held look held n looked some same told = by_answer answer told
    where
      by_answer : (a : Result X Memory) → IfOk a (λ told. tell told ≡ held_answer spec.schema held offset n)
          → IfOk a (λ told. Gets passes (At node.table (read_turn node offset spec.schema)) now (tell told) after)
      by_answer (Ok given) is =
          let holds = subst (Looks spec.schema looked.point key_of) some looked.looks in
          gets-looked passes after node.table now (read_answer spec.schema node.session node.node offset) spec.schema key_of look (tell given) looked
          (is ∙ ap (held_answer spec.schema held offset) same ∙ sym (read_answer-held spec.schema looked.point key_of held holds offset now))
      by_answer (Err memory) is = tt

  -- the same of the columns under which it was told
  pub gets-told : (look : Option Held) (held : Held) (other : TableSpec) (slot : Option TableSpec) (o n : ℤ) → LooksAt passes node.table spec.schema key_of look after → look ≡ Some held
      → o ≡ offset → n ≡ now → slot ≡ Some spec → slot ≡ Some other → IfOk answer (λ told. tell told ≡ held_answer other.schema held o n)
      → IfOk answer (λ told. Gets passes (At node.table (read_turn node offset spec.schema)) now (tell told) after)
  gets-told look held other slot o n looked some from same mine theirs told =
      let one : other ≡ spec = one_spec (sym theirs ∙ mine) in
      let here = subst (λ (s : TableSpec). IfOk answer (λ told. tell told ≡ held_answer s.schema held o n)) one told in
      gets-held look held n looked some same (subst (λ at. IfOk answer (λ told. tell told ≡ held_answer spec.schema held at n)) from here)
    where
      one_spec : {a b : TableSpec} → Some a ≡ Some b → a ≡ b
      one_spec e = cc

  pub gets-none : (look : Option Held) → LooksAt passes node.table spec.schema key_of look after → look ≡ None
      → IfOk answer (λ told. tell told ≡ refused_for why.NoRead)
      → IfOk answer (λ told. Gets passes (At node.table (read_turn node offset spec.schema)) now (tell told) after)
  gets-none look looked none told = by_answer answer told
    where
      by_answer : (a : Result X Memory) → IfOk a (λ told. tell told ≡ refused_for why.NoRead)
          → IfOk a (λ told. Gets passes (At node.table (read_turn node offset spec.schema)) now (tell told) after)
      by_answer (Ok given) is =
          let missing = subst (Looks spec.schema looked.point key_of) none looked.looks in
          gets-looked passes after node.table now (read_answer spec.schema node.session node.node offset) spec.schema key_of look (tell given) looked
          (is ∙ sym (read_answer-none spec.schema looked.point key_of offset now missing))
      by_answer (Err memory) is = tt
