-- Which splits the moves of a drain ask for.
use Rattle.std.proofs.Common.{◌≡◌, ℕ, pos, ◌+◌, Bool, true, cond, List, [], ◌∷◌, ◌++◌, append_assoc, length, map, Option, Some, None, refl, sym, ap, ◌∙◌, subst, arith, eq-eqb}
use Rattle.std.specs.Prelude.{◌==◌, ◌%◌, count_by, slice_get, option_map, option_and_then, Result, Ok, Err}
use Rattle.std.proofs.lemmas.List.{append-nil, length-map}
use Rattle.std.proofs.lemmas.List.Sums.{sum_by-cons}
use Rattle.std.proofs.lemmas.Option.{same_Some, slice_get-map}
use Rattle.outside.specs.declared.wants.Memory.{Memory}
use Rattle.column_types.specs.declared.column.Column.{Column}
use Rattle.table_model.specs.declared.commands.Command.TheVariants as command
use Rattle.table_model.specs.declared.entries.Entry.{Entry}
use Rattle.table_model.specs.declared.replies.Answer.{Answer}
use Rattle.table_model.specs.declared.replies.Answer.TheVariants.{Accept, Same, Refuse}
use Rattle.table_model.specs.declared.replies.Reply.{Reply}
use Rattle.table_model.specs.Answer.{answer_of}
use Rattle.table_model.specs.History.{History}
use Rattle.table_model.specs.Legal.{IsLegal}
use Rattle.table_model.specs.Sessions.{Opened, session_of}
use Rattle.table_engine.specs.Turns.{Allows, entry_added}
use Rattle.turn_table.specs.View.{Reaches, ActsBy, LooksBy, seeing}
use Rattle.table_engine.specs.declared.looks.Held.{Held}
use Rattle.table_engine.specs.declared.looks.Key.{Key}
use Rattle.table_engine.specs.Looks.{Looks}
use Rattle.drill.specs.declared.drain_parts.Part.{Part}
use Rattle.drill.specs.declared.moves.Move.{Move}
use Rattle.drill.specs.declared.moves.Move.TheVariants as move
use Rattle.drill.specs.Drains.{IsSplit, IsAsked, OwnAreAsked, Asked}
use Rattle.drill.specs.Moves.{cut_in, cut_of}
use Rattle.drill.specs.Parts.{Stands, node_in}
use Rattle.drill.proofs.CutLemmas.{moves_stay}
use Rattle.drill.proofs.SessionLemmas.{later, legal_front, tree_of}
use Rattle.drill.proofs.SplitLemmas.{acted_done}
use Rattle.drill.proofs.WentLemmas.{TableView, caller_in}

-- ---- what is asked for

-- without a move nothing is
none_asked : (history : History) (number node : ℕ) → IsAsked history number [] node → ⊥
none_asked history number node asked = no_move asked.before asked.moves_are
  where
    no_move : (before : List Move) → [] ≡ before ++ move.Split asked.place ∷ asked.after → ⊥
    no_move [] e = absurd (cc)
    no_move (step ∷ before) e = absurd (cc)

cut_later : (columns : List Column) (history more : History) (number : ℕ) (moves : List Move) (cut : List ℕ) → IsLegal columns (history ++ more)
    → cut_of history number moves ≡ Some cut → cut_of (history ++ more) number moves ≡ Some cut
cut_later columns history more number moves cut legal is = either (session_of history number) refl is
  where
    either : (found : Option Opened) → session_of history number ≡ found → option_and_then (λ (s : Opened). cut_in s.nodes moves) found ≡ Some cut
        → cut_of (history ++ more) number moves ≡ Some cut
    either None are e = absurd (cc)
    either (Some session) are e =
        let after = later columns history more number session legal are in
        ap (option_and_then (λ (s : Opened). cut_in s.nodes moves)) after.begun
        ∙ moves_stay session.nodes after.now.nodes moves cut (tree_of columns history number session (legal_front columns history more legal) are) after.grown e

-- what was asked for is, behind more entries and more moves
pub asked_later : (columns : List Column) (history more : History) (number : ℕ) (moves extra : List Move) (node : ℕ) → IsLegal columns (history ++ more)
    → IsAsked history number moves node → IsAsked (history ++ more) number (moves ++ extra) node
asked_later columns history more number moves extra node legal asked = record {
  before = asked.before;
  place = asked.place;
  after = asked.after ++ extra;
  moves_are = ap (λ l. l ++ extra) asked.moves_are ∙ append_assoc asked.before (move.Split asked.place ∷ asked.after) extra;
  cut = asked.cut;
  cut_is = cut_later columns history more number asked.before asked.cut legal asked.cut_is;
  there = asked.there;
}

-- the split at a place of the cut that stands
pub asked_here : (history : History) (number : ℕ) (moves : List Move) (at place : ℕ) (parts : List Part) (part : Part) → Stands history number moves parts → slice_get parts place ≡ Some part
    → at % length parts ≡ place → IsAsked history number (moves ++ move.Split at ∷ []) part.node
asked_here history number moves at place parts part stands there here = record {
  before = moves;
  place = at;
  after = [];
  moves_are = refl;
  cut = map node_in parts;
  cut_is = ap (option_and_then (λ (s : Opened). cut_in s.nodes moves)) stands.begun ∙ stands.cut;
  there = ap (λ n. slice_get (map node_in parts) (at % n)) (length-map parts node_in) ∙ ap (slice_get (map node_in parts)) here
      ∙ slice_get-map node_in parts place ∙ ap (option_map node_in) there;
}

-- ---- entries of the pass's own

own_none : (columns : List Column) (caller number : ℕ) (asked : ℕ → Type 0) (before more : History) → count_by (λ entry. caller_in entry == caller) more ≡ 0 → OwnAreAsked columns caller number asked before more
own_none columns caller number asked before [] none = tt
own_none columns caller number asked before (entry ∷ more) none =
    let total : cond (caller_in entry == caller) 1 0 + count_by (λ (e : Entry). caller_in e == caller) more ≡ 0 =
    sym (sum_by-cons (λ (e : Entry). cond (caller_in e == caller) 1 0) entry more) ∙ none in
    let rest : count_by (λ (e : Entry). caller_in e == caller) more ≡ 0 = omega (arith, total) in (
      (λ own.
          let count : Bool → ℕ = λ b. cond b 1 0 in
          let one : count (caller_in entry == caller) ≡ count true = ap count (eq-eqb (caller_in entry) caller own) in
          absurd (omega (arith, total, one))),
      own_none columns caller number asked (before ++ entry ∷ []) more rest,
    )

own-append : (columns : List Column) (caller number : ℕ) (asked : ℕ → Type 0) (before one two : History) → OwnAreAsked columns caller number asked before one
    → OwnAreAsked columns caller number asked (before ++ one) two → OwnAreAsked columns caller number asked before (one ++ two)
own-append columns caller number asked before [] two first second = subst (λ h. OwnAreAsked columns caller number asked h two) (append-nil before) second
own-append columns caller number asked before (entry ∷ one) two first second = (
  first.0,
  own-append columns caller number asked (before ++ entry ∷ []) one two first.1
      (subst (λ h. OwnAreAsked columns caller number asked h two) (sym (append_assoc before (entry ∷ []) one)) second),
)

own_map : (columns : List Column) (caller number : ℕ) (asked other : ℕ → Type 0) → ((node : ℕ) → asked node → other node) → (before more : History)
    → OwnAreAsked columns caller number asked before more → OwnAreAsked columns caller number other before more
own_map columns caller number asked other f before [] own = tt
own_map columns caller number asked other f before (entry ∷ more) own = (
  (λ is. let split = own.0 is in (split.0, f split.0.node split.1)),
  own_map columns caller number asked other f (before ++ entry ∷ []) more own.1,
)

-- ---- passes

asked_to : (number : ℕ) (moves : List Move) (old new : TableView) (point : History) → Reaches caller_in old point → new ≡ seeing old point → Asked number moves old new
asked_to number moves old new point reaches is = record {
  more = reaches.more;
  is = is ∙ ap (seeing old) reaches.is;
  own = own_none old.fixed old.number number (IsAsked new.seen number moves) old.seen reaches.more reaches.others;
}

-- further on
pub asked_further : (number : ℕ) (one two moves : List Move) (old mid new : TableView) → ((node : ℕ) → IsAsked mid.seen number one node → IsAsked new.seen number moves node)
    → ((node : ℕ) → IsAsked new.seen number two node → IsAsked new.seen number moves node) → Asked number one old mid → Asked number two mid new → Asked number moves old new
asked_further number one two moves old mid new f g first second =
    let own : OwnAreAsked old.fixed old.number number (IsAsked new.seen number two) (old.seen ++ first.more) second.more =
    subst (λ (v : TableView). OwnAreAsked v.fixed v.number number (IsAsked new.seen number two) v.seen second.more) first.is second.own in
    record {
      more = first.more ++ second.more;
      is = second.is ∙ ap (λ (v : TableView). seeing v (v.seen ++ second.more)) first.is ∙ ap (seeing old) (append_assoc old.seen first.more second.more);
      own = own-append old.fixed old.number number (IsAsked new.seen number moves) old.seen first.more second.more
          (own_map old.fixed old.number number (IsAsked mid.seen number one) (IsAsked new.seen number moves) f old.seen first.more first.own)
          (own_map old.fixed old.number number (IsAsked new.seen number two) (IsAsked new.seen number moves) g (old.seen ++ first.more) second.more own);
    }

-- behind a pass that asked for nothing
pub asked_then : (number : ℕ) (moves : List Move) (old mid new : TableView) → Asked number [] old mid → Asked number moves mid new → Asked number moves old new
asked_then number moves old mid new first second =
    asked_further number [] moves moves old mid new (λ node none. absurd (none_asked mid.seen number node none)) (λ node asked. asked) first second

-- more may be asked for than was
pub asked_none : (number : ℕ) (moves : List Move) (old new : TableView) → Asked number [] old new → Asked number moves old new
asked_none number moves old new first = record {
  more = first.more;
  is = first.is;
  own = own_map old.fixed old.number number (IsAsked new.seen number []) (IsAsked new.seen number moves) (λ node none. absurd (none_asked new.seen number node none)) old.seen first.more first.own;
}

pub asked_nowhere : (number : ℕ) (moves : List Move) (old : TableView) → Asked number moves old old
asked_nowhere number moves old = record { more = []; is = ap (seeing old) (sym (append-nil old.seen)); own = tt }

-- moves more
pub asked_on : (number : ℕ) (one extra two : List Move) (old mid new : TableView) → IsLegal old.fixed new.seen → ((node : ℕ) → IsAsked new.seen number two node → IsAsked new.seen number (one ++ extra) node)
    → Asked number one old mid → Asked number two mid new → Asked number (one ++ extra) old new
asked_on number one extra two old mid new legal g first second =
    let now : new.seen ≡ mid.seen ++ second.more = ap (λ (v : TableView). v.seen) second.is in
    asked_further number one two (one ++ extra) old mid new
    (λ node asked. subst (λ h. IsAsked h number (one ++ extra) node) (sym now) (asked_later old.fixed mid.seen second.more number one extra node (subst (IsLegal old.fixed) now legal) asked)) g first second

-- a look asks for nothing
pub look_asked : (number : ℕ) (key : Key) (old new : TableView) (result : Result (Option Held) Memory) → LooksBy caller_in Looks old key result new → Asked number [] old new
look_asked number key old new (Ok look) (point, reaches, looks, is) = asked_to number [] old new point reaches is
look_asked number key old new (Err memory) (point, reaches, is) = asked_to number [] old new point reaches is

added_asked : (columns : List Column) (history : History) (caller number node : ℕ) (entry : Entry) → Some entry ≡ entry_added (answer_of (length columns) history caller (command.Split number node) (pos 0))
    → entry.caller ≡ caller → (split : IsSplit columns number history entry) × (split.node ≡ node)
added_asked columns history caller number node entry is carries = either (answer_of (length columns) history caller (command.Split number node) (pos 0)) refl is
  where
    either : (a : Answer) → answer_of (length columns) history caller (command.Split number node) (pos 0) ≡ a → Some entry ≡ entry_added a
        → (split : IsSplit columns number history entry) × (split.node ≡ node)
    either (Accept new told) e some = (
      record {
        node = node;
        told = told;
        accepted = ap (λ c. answer_of (length columns) history c (command.Split number node) (pos 0)) carries ∙ e ∙ ap (λ x. Accept x told) (sym (same_Some _ _ some));
      },
      refl,
    )
    either (Same told) e some = absurd (cc)
    either (Refuse refusal) e some = absurd (cc)

-- a split asks for its node alone
pub acted_asked : (number node : ℕ) (moves : List Move) (old new : TableView) (result : Result Reply Memory) → IsAsked new.seen number moves node
    → ActsBy caller_in Allows old (command.Split number node) (pos 0) result new → Asked number moves old new
acted_asked number node moves old new (Err memory) asked (point, reaches, is) = asked_to number moves old new point reaches is
acted_asked number node moves old new (Ok told) asked (point, None, reaches, allows, carries, is) = asked_to number moves old new point reaches is
acted_asked number node moves old new (Ok told) asked (point, Some entry, reaches, allows, carries, is) =
    let added = added_asked old.fixed point old.number number node entry allows.1 carries in
    let here : IsAsked new.seen number moves added.0.node = subst (IsAsked new.seen number moves) (sym added.1) asked in
    record {
      more = reaches.more ++ entry ∷ [];
      is = is ∙ ap (λ h. seeing old (h ++ entry ∷ [])) reaches.is ∙ ap (seeing old) (append_assoc old.seen reaches.more (entry ∷ []));
      own = own-append old.fixed old.number number (IsAsked new.seen number moves) old.seen reaches.more (entry ∷ [])
          (own_none old.fixed old.number number (IsAsked new.seen number moves) old.seen reaches.more reaches.others)
          ((λ own. subst (λ h. (split : IsSplit old.fixed number h entry) × IsAsked new.seen number moves split.node) reaches.is (added.0, here)), tt);
    }

-- a split at a place of the cut that stands
pub split_asked : (number : ℕ) (moves : List Move) (at place : ℕ) (parts : List Part) (part : Part) (old new : TableView) (result : Result Reply Memory) → IsLegal old.fixed new.seen
    → Stands old.seen number moves parts → slice_get parts place ≡ Some part → at % length parts ≡ place
    → ActsBy caller_in Allows old (command.Split number part.node) (pos 0) result new → Asked number (moves ++ move.Split at ∷ []) old new
split_asked number moves at place parts part old new result legal stands there here acts =
    let done = acted_done number moves parts place part old new result legal stands there acts in
    acted_asked number part.node (moves ++ move.Split at ∷ []) old new result (asked_here new.seen number moves at place parts part done.stands there here) acts

-- behind it nothing was asked for
pub asked_kept : (number : ℕ) (moves : List Move) (old mid new : TableView) → IsLegal old.fixed new.seen → Asked number moves old mid → Asked number [] mid new → Asked number moves old new
asked_kept number moves old mid new legal first second =
    subst (λ m. Asked number m old new) (append-nil moves)
    (asked_on number moves [] [] old mid new legal (λ node none. absurd (none_asked new.seen number node none)) first second)

asked_longer : (history : History) (number : ℕ) (moves extra : List Move) (node : ℕ) → IsAsked history number moves node → IsAsked history number (moves ++ extra) node
asked_longer history number moves extra node asked = record {
  before = asked.before;
  place = asked.place;
  after = asked.after ++ extra;
  moves_are = ap (λ l. l ++ extra) asked.moves_are ∙ append_assoc asked.before (move.Split asked.place ∷ asked.after) extra;
  cut = asked.cut;
  cut_is = asked.cut_is;
  there = asked.there;
}

-- moves that weren't taken
pub asked_extra : (number : ℕ) (moves extra : List Move) (old new : TableView) → Asked number moves old new → Asked number (moves ++ extra) old new
asked_extra number moves extra old new asked = record {
  more = asked.more;
  is = asked.is;
  own = own_map old.fixed old.number number (IsAsked new.seen number moves) (IsAsked new.seen number (moves ++ extra)) (asked_longer new.seen number moves extra) old.seen asked.more asked.own;
}
