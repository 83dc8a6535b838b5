-- What the history answers the split of a node.
use Rattle.std.proofs.Common.{◌≡◌, inl, inr, ℕ, ◌+◌, ◌<◌, ◌≤◌, nat_lt, pos, Bool, true, false, List, [], ◌∷◌, ◌++◌, length, Option, Some, None, refl, sym, ap, ◌∙◌, subst, arith, eq-eqb}
use Rattle.std.specs.Prelude.{nat_le, slice_get, option_map, Result, Ok, Err, if◌then◌else◌}
use Rattle.std.proofs.lemmas.Bool.Decides.{nat_tests}
use Rattle.std.proofs.lemmas.Option.{same_Some, get_or_from_slice_get}
use Rattle.outside.specs.declared.wants.Memory.{Memory}
use Rattle.column_types.specs.declared.column.Column.{Column}
use Rattle.split_tree.specs.declared.node.Node.{Node}
use Rattle.split_tree.specs.declared.node.Cut.TheVariants as cut
use Rattle.split_tree.specs.declared.node.TheConstants.{MOST_NODES}
use Rattle.split_tree.specs.Intervals.{size}
use Rattle.split_tree.specs.Nodes.{interval_of, children_of, node_of, cut_open}
use Rattle.split_tree.proofs.Halves.{node_of-same, interval_of-split}
use Rattle.table_model.specs.declared.limits.TheConstants.{MAX_ENTRIES}
use Rattle.table_model.specs.declared.commands.Command.TheVariants as command
use Rattle.table_model.specs.declared.entries.Entry.{Entry}
use Rattle.table_model.specs.declared.entries.Change.TheVariants as change
use Rattle.table_model.specs.declared.facts.Facts.{Facts}
use Rattle.table_model.specs.declared.replies.Answer.{Answer}
use Rattle.table_model.specs.declared.replies.Answer.TheVariants.{Accept, Same, Refuse}
use Rattle.table_model.specs.declared.replies.Reply.{Reply}
use Rattle.table_model.specs.declared.replies.Reply.TheVariants as reply
use Rattle.table_model.specs.declared.reasons.Why.{Why}
use Rattle.table_model.specs.declared.reasons.Why.TheVariants as why
use Rattle.table_model.specs.declared.sessions.ReadNode.{ReadNode}
use Rattle.table_model.specs.Answer.{answer_by, answer_of, or_refuse, entry_of, moment_at, cut_answer, split_answer}
use Rattle.table_model.specs.Checks.{read_check}
use Rattle.table_model.specs.Facts.{facts_of}
use Rattle.table_model.specs.History.{History}
use Rattle.table_model.specs.Legal.{IsLegal}
use Rattle.table_model.specs.Reasons.{refusal_of}
use Rattle.table_model.specs.Sessions.{Opened, session_of, node_in, read_node_of, split_at, is_expired}
use Rattle.table_model.specs.Table.{reply_of}
use Rattle.table_model.proofs.SessionLemmas.{session_of-push}
use Rattle.table_engine.specs.Turns.{Allows, entry_added}
use Rattle.turn_table.specs.Turn.{with_entry}
use Rattle.turn_table.specs.View.{ActsBy}
use Rattle.drill.specs.declared.drained.DrainFault.{DrainFault}
use Rattle.drill.specs.declared.drain_parts.Part.{Part}
use Rattle.drill.specs.declared.drain_steps.Split.{Split}
use Rattle.drill.specs.declared.moves.Move.{Move}
use Rattle.drill.specs.Drains.{IsSplit, RefusesSplit, Went}
use Rattle.drill.specs.Parts.{Stands}
use Rattle.drill.specs.Steps.{ToldSplit, SaysSplit, split_by, split_in}
use Rattle.drill.proofs.LookLemmas.{slice_some}
use Rattle.drill.proofs.SessionLemmas.{legal_front, stands_later, parts_there}
use Rattle.drill.proofs.PartLemmas.{all_get}
use Rattle.drill.proofs.WentLemmas.{TableView, caller_in, went_to, went_on}

small_size : (n : ℕ) → nat_lt n 2 ≡ true → n < 2
small_size n e = grind (arith, nat_tests)

large_size : (n : ℕ) → nat_lt n 2 ≡ false → 2 ≤ n
large_size n e = grind (arith, nat_tests)

module _ (columns : List Column) (caller : ℕ) (history : History) (number node : ℕ) (session : Opened) (begun : session_of history number ≡ Some session) (here : node < length session.nodes.list) where
  abbrev facts : Facts
  facts = facts_of (length columns) history caller

  abbrev answer : Answer
  answer = answer_of (length columns) history caller (command.Split number node) (pos 0)

  abbrev Told : Reply → Option Entry → Type 0
  Told told added = ToldSplit columns caller (with_entry history added) number node told

  answer_is : answer ≡ split_answer facts number node (read_check (read_node_of history number node) (moment_at facts (pos 0))) (pos 0)
  unfolding answer_by
  answer_is = refl

  refused : (cause : Why) → RefusesSplit cause → answer ≡ Refuse (refusal_of cause) → Told (reply.Refused (refusal_of cause)) None
  refused cause refuses e = record { session = session; begun = begun; node = node; cause = cause; refuses = refuses; answer = e; told_is = refl }

  -- by the node and the tests of the answer
  module _ (found : Node) (is : slice_get session.nodes.list node ≡ Some found) where
    abbrev count : ℕ
    count = length session.nodes.list

    abbrev state : ReadNode
    state = record { moment = session.moment; node = found; nodes = count }

    at : node_of session.nodes node ≡ found
    at = get_or_from_slice_get session.nodes.list node found _ is

    looked_up : read_node_of history number node ≡ Some state
    looked_up =
        ap (λ o. node_in o node) begun
        ∙ ap (option_map (λ (n : Node). let made : ReadNode = record { moment = session.moment; node = n; nodes = count } in made)) is

    children_here : (children : Option (ℕ × ℕ)) → found.children ≡ children → children_of session.nodes node ≡ children
    children_here children e = ap (λ (n : Node). n.children) at ∙ e

    size_here : (P : ℕ → Type 0) → P (size found.interval) → P (size (interval_of session.nodes node))
    size_here P p = subst (λ (n : Node). P (size n.interval)) (sym at) p

    -- the entry of a split that is accepted
    abbrev entry : Entry
    entry = entry_of facts (moment_at facts (pos 0)) (change.Split number node count (count + 1))

    accepted : 2 ≤ size found.interval → Told (reply.Children count (count + 1)) (Some entry)
    accepted rows = record {
      session = split_at node session;
      begun = session_of-push history entry number
          ∙ ap (λ b. if b then option_map (split_at node) (session_of history number) else session_of history number) (eq-eqb number number refl)
          ∙ ap (option_map (split_at node)) begun;
      rows = subst (λ i. 2 ≤ size i) (sym (interval_of-split session.nodes node node here)) (size_here (λ n. 2 ≤ n) rows);
      children = ap (λ (n : Node). n.children) (node_of-same session.nodes node here);
    }

    -- each answer of a split
    abbrev Answers : Answer → Type 0
    Answers a = answer ≡ a → Told (reply_of a) (entry_added a)

    by_room : (full : Bool) → 2 ≤ size found.interval
        → Answers (or_refuse (if full then Err (refusal_of why.FullEntries) else Ok (moment_at facts (pos 0)))
        (λ moment. Accept (entry_of facts moment (change.Split number node count (count + 1))) (reply.Children count (count + 1))))
    by_room true rows e = refused why.FullEntries (inr (inr refl)) e
    by_room false rows e = accepted rows

    by_nodes : (full : Bool) → 2 ≤ size found.interval → Answers (cut_answer facts number node (if full then cut.Full count else cut.Made count (count + 1)) (pos 0))
    by_nodes true rows e = refused why.FullNodes (inr (inl refl)) e
    by_nodes false rows e = by_room (nat_le MAX_ENTRIES facts.entries) rows e

    by_children : (children : Option (ℕ × ℕ)) → found.children ≡ children → 2 ≤ size found.interval → Answers (cut_answer facts number node (cut_open children count) (pos 0))
    by_children (Some both) are rows e = record {
      session = session;
      begun = begun;
      rows = size_here (λ n. 2 ≤ n) rows;
      children = children_here (Some both) are;
    }
    by_children None are rows e = by_nodes (nat_lt MOST_NODES (count + 2)) rows e

    by_size : (small : Bool) → nat_lt (size found.interval) 2 ≡ small → Answers (cut_answer facts number node (if small then cut.Small else cut_open found.children count) (pos 0))
    by_size true few e = record { session = session; begun = begun; rows = size_here (λ n. n < 2) (small_size (size found.interval) few) }
    by_size false few e = by_children found.children refl (large_size (size found.interval) few) e

    by_expiry : (expired : Bool) → Answers (split_answer facts number node (if expired then Err (refusal_of why.Expired) else Ok state) (pos 0))
    by_expiry true e = refused why.Expired (inl refl) e
    by_expiry false e = by_size (nat_lt (size found.interval) 2) refl e

    told_at : Told (reply_of answer) (entry_added answer)
    told_at =
        let a = split_answer facts number node (read_check (Some state) (moment_at facts (pos 0))) (pos 0) in
        let e : answer ≡ a = answer_is ∙ ap (λ o. split_answer facts number node (read_check o (moment_at facts (pos 0))) (pos 0)) looked_up in
        let told : Told (reply_of a) (entry_added a) = by_expiry (is_expired session.moment (moment_at facts (pos 0))) e in
        subst (λ (x : Answer). Told (reply_of x) (entry_added x)) (sym e) told

  -- what the reply says of the history behind it
  pub split_told : (told : Reply) (added : Option Entry) → Allows columns history caller (command.Split number node) (pos 0) told added → Told told added
  split_told told added allows =
      let found = slice_some session.nodes.list node here in
      subst (λ t. Told t added) (sym allows.0) (subst (λ x. Told (reply_of answer) x) (sym allows.1) (told_at found.0 found.1))

-- ---- an act

-- an entry that was added is the split
added_split : (columns : List Column) (history : History) (caller number node : ℕ) (entry : Entry) → Some entry ≡ entry_added (answer_of (length columns) history caller (command.Split number node) (pos 0))
    → entry.caller ≡ caller → IsSplit columns number history entry
added_split columns history caller number node entry is carries = either (answer_of (length columns) history caller (command.Split number node) (pos 0)) refl is
  where
    either : (a : Answer) → answer_of (length columns) history caller (command.Split number node) (pos 0) ≡ a → Some entry ≡ entry_added a → IsSplit columns number history entry
    either (Accept new told) e some = record {
      node = node;
      told = told;
      accepted = ap (λ c. answer_of (length columns) history c (command.Split number node) (pos 0)) carries ∙ e ∙ ap (λ x. Accept x told) (sym (same_Some _ _ some));
    }
    either (Same told) e some = absurd (cc)
    either (Refuse refusal) e some = absurd (cc)

-- what the pass gains
pub acted_went : (number node : ℕ) (old new : TableView) (result : Result Reply Memory) → ActsBy caller_in Allows old (command.Split number node) (pos 0) result new → Went number old new
acted_went number node old new (Err memory) (point, reaches, is) = went_to number old new point reaches is
acted_went number node old new (Ok told) (point, None, reaches, allows, carries, is) = went_to number old new point reaches is
acted_went number node old new (Ok told) (point, Some entry, reaches, allows, carries, is) =
    went_on number old new point entry reaches (added_split old.fixed point old.number number node entry allows.1 carries) is

-- The cut stands behind a split, and what it came to says what became of the node.
pub record IsDone (old new : TableView) (number : ℕ) (moves : List Move) (parts : List Part) (node : ℕ) (split : Result Split DrainFault) : Type 0 where
  pub stands : Stands new.seen number moves parts
  pub says : SaysSplit old.fixed old.number new.seen number node split

-- what a reply tells is what it comes to
says_by : (columns : List Column) (caller : ℕ) (history : History) (number node : ℕ) (told : Reply) → ToldSplit columns caller history number node told
    → SaysSplit columns caller history number node (split_by told)
says_by columns caller history number node (reply.Children left right) says = says
says_by columns caller history number node reply.NoSplit says = says
says_by columns caller history number node (reply.Refused refusal) says = says
says_by columns caller history number node (reply.Created stream moment) says = absurd says
says_by columns caller history number node (reply.Appended offset) says = absurd says
says_by columns caller history number node (reply.Flushed offset) says = absurd says
says_by columns caller history number node (reply.Finalised rows) says = absurd says
says_by columns caller history number node (reply.Committed moment) says = absurd says
says_by columns caller history number node (reply.NotCommitted errors) says = absurd says
says_by columns caller history number node (reply.Stream kind created committed) says = absurd says
says_by columns caller history number node (reply.Session session roots expires) says = absurd says

legal_point : (columns : List Column) (point : History) (added : Option Entry) → IsLegal columns (with_entry point added) → IsLegal columns point
legal_point columns point None legal = legal
legal_point columns point (Some entry) legal = legal_front columns point (entry ∷ []) legal

stands_entered : (columns : List Column) (point : History) (added : Option Entry) (number : ℕ) (moves : List Move) (parts : List Part) → IsLegal columns (with_entry point added)
    → Stands point number moves parts → Stands (with_entry point added) number moves parts
stands_entered columns point None number moves parts legal stands = stands
stands_entered columns point (Some entry) number moves parts legal stands = stands_later columns point (entry ∷ []) number moves parts legal stands

stands_there : (columns : List Column) (old point : History) (reaches_more : History) (number : ℕ) (moves : List Move) (parts : List Part) → point ≡ old ++ reaches_more → IsLegal columns point
    → Stands old number moves parts → Stands point number moves parts
stands_there columns old point more number moves parts is legal stands =
    subst (λ h. Stands h number moves parts) (sym is) (stands_later columns old more number moves parts (subst (IsLegal columns) is legal) stands)

pub acted_done : (number : ℕ) (moves : List Move) (parts : List Part) (place : ℕ) (part : Part) (old new : TableView) (result : Result Reply Memory) → IsLegal old.fixed new.seen
    → Stands old.seen number moves parts → slice_get parts place ≡ Some part → ActsBy caller_in Allows old (command.Split number part.node) (pos 0) result new
    → IsDone old new number moves parts part.node (split_in result)
acted_done number moves parts place part old new (Err memory) legal stands there (point, reaches, is) =
    let now : new.seen ≡ point = ap (λ (v : TableView). v.seen) is in
    record {
      stands = subst (λ h. Stands h number moves parts) (sym now)
          (stands_there old.fixed old.seen point reaches.more number moves parts reaches.is (subst (IsLegal old.fixed) now legal) stands);
      says = tt;
    }
acted_done number moves parts place part old new (Ok told) legal stands there (point, added, reaches, allows, carries, is) =
    let now : new.seen ≡ with_entry point added = ap (λ (v : TableView). v.seen) is in
    let legal_now : IsLegal old.fixed (with_entry point added) = subst (IsLegal old.fixed) now legal in
    let legal_here : IsLegal old.fixed point = legal_point old.fixed point added legal_now in
    let at : Stands point number moves parts = stands_there old.fixed old.seen point reaches.more number moves parts reaches.is legal_here stands in
    let here = all_get (λ (p : Part). p.node < length at.session.nodes.list) parts place part (parts_there old.fixed point number moves parts legal_here at) there in
    record {
      stands = subst (λ h. Stands h number moves parts) (sym now) (stands_entered old.fixed point added number moves parts legal_now at);
      says = subst (λ h. SaysSplit old.fixed old.number h number part.node (split_by told)) (sym now)
          (says_by old.fixed old.number (with_entry point added) number part.node told
          (split_told old.fixed old.number point number part.node at.session at.begun here told added allows));
    }
