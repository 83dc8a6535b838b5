-- The steps of a drain, at what its pass has then seen.
use Rattle.std.proofs.Common.{◌≡◌, ℕ, ◌<◌, ◌≤◌, List, [], ◌∷◌, ◌++◌, length, get_or, Some, sym, ap, ◌∙◌, subst}
use Rattle.std.specs.Prelude.{◌%◌, slice_get, Result, Ok, Err, IfOk, IfErr}
use Rattle.std.proofs.lemmas.Option.{same_Some, slice_get-get_or}
use Rattle.column_types.specs.declared.column.Column.{Column}
use Rattle.split_tree.specs.Intervals.{size}
use Rattle.split_tree.proofs.Halves.{split_there}
use Rattle.read_cursor.specs.Lease.{Leased}
use Rattle.table_model.specs.History.{History}
use Rattle.table_model.specs.Legal.{IsLegal}
use Rattle.drill.specs.declared.drained.DrainFault.{DrainFault}
use Rattle.drill.specs.declared.drain_parts.Part.{Part}
use Rattle.drill.specs.declared.moves.Move.{Move}
use Rattle.drill.specs.declared.moves.Move.TheVariants as move
use Rattle.drill.specs.Drains.{Fails, Went}
use Rattle.drill.specs.Parts.{Stands, ReadsOn, Divides}
use Rattle.drill.specs.Steps.{IsOpen, IsParent, LookFails, ReadsAll}
use Rattle.column_types.specs.declared.row.Row.{Row}
use Rattle.drill.specs.Reads.{rows_behind}
use Rattle.drill.specs.Parts.{rows_in}
use Rattle.drill.proofs.SessionLemmas.{later, stands_later, parts_there, tree_of}
use Rattle.drill.proofs.PartLemmas.{all_get, reads_on, read_stands, divided}
use Rattle.drill.proofs.LookLemmas.{look_fails}
use Rattle.drill.proofs.EndLemmas.{one_read, next_there}
use Rattle.drill.proofs.WentLemmas.{TableView}

-- the fixed part stays
pub fixed_kept : (number : ℕ) (old new : TableView) → Went number old new → new.fixed ≡ old.fixed
fixed_kept number old new went = ap (λ (v : TableView). v.fixed) went.is

pub number_kept : (number : ℕ) (old new : TableView) → Went number old new → new.number ≡ old.number
number_kept number old new went = ap (λ (v : TableView). v.number) went.is

-- what was seen is legal by the columns of the pass before
pub legal_went : (number : ℕ) (old new : TableView) → Went number old new → IsLegal new.fixed new.seen → IsLegal old.fixed new.seen
legal_went number old new went legal = subst (λ columns. IsLegal columns new.seen) (fixed_kept number old new went) legal

seen_now : (number : ℕ) (old new : TableView) → (went : Went number old new) → new.seen ≡ old.seen ++ went.more
seen_now number old new went = ap (λ (v : TableView). v.seen) went.is

-- what an index gives
pub indexed : (parts : List Part) (place : ℕ) (part : Part) → place < length parts → part ≡ get_or parts place part → slice_get parts place ≡ Some part
indexed parts place part inside is = slice_get-get_or parts place part inside ∙ ap Some (sym is)

pub stands_went : (number : ℕ) (moves : List Move) (parts : List Part) (old new : TableView) → Went number old new → IsLegal old.fixed new.seen
    → Stands old.seen number moves parts → Stands new.seen number moves parts
stands_went number moves parts old new went legal stands =
    let now = seen_now number old new went in
    subst (λ h. Stands h number moves parts) (sym now)
    (stands_later old.fixed old.seen went.more number moves parts (subst (IsLegal old.fixed) now legal) stands)

part_there : (columns : List Column) (history : History) (number : ℕ) (moves : List Move) (parts : List Part) (place : ℕ) (part : Part) → IsLegal columns history
    → (stands : Stands history number moves parts) → slice_get parts place ≡ Some part → part.node < length stands.session.nodes.list
part_there columns history number moves parts place part legal stands there =
    all_get (λ (p : Part). p.node < length stands.session.nodes.list) parts place part (parts_there columns history number moves parts legal stands) there

-- ---- a read

pub read_step : (number : ℕ) (moves : List Move) (parts after : List Part) (place : ℕ) (part : Part) (lease : Leased) (old new : TableView) → Went number old new → IsLegal old.fixed new.seen
    → slice_get parts place ≡ Some part → IsOpen new.seen number part.node lease → ReadsOn lease parts place after → Stands old.seen number moves parts → Stands new.seen number moves after
read_step number moves parts after place part lease old new went legal there held reads stands =
    reads_on new.seen number moves parts after place lease part.node (stands_went number moves parts old new went legal stands) reads
    (ap (λ (p : Part). p.node) (same_Some _ _ (sym reads.there ∙ there))) held

pub read_fails : (number : ℕ) (moves : List Move) (parts : List Part) (place : ℕ) (part : Part) (why : DrainFault) (old new : TableView) → Went number old new → IsLegal old.fixed new.seen
    → slice_get parts place ≡ Some part → LookFails new.seen number part.node why → Stands old.seen number moves parts → Fails old.fixed old.number new.seen number why
read_fails number moves parts place part why old new went legal there fails stands =
    let now = stands_went number moves parts old new went legal stands in
    look_fails old.fixed old.number new.seen number part.node now.session why now.begun (part_there old.fixed new.seen number moves parts place part legal now there) fails

-- ---- the children of a node

parent_later : (columns : List Column) (history more : History) (number node left right : ℕ) → IsLegal columns (history ++ more) → IsParent history number node left right
    → IsParent (history ++ more) number node left right
parent_later columns history more number node left right legal parent =
    let after = later columns history more number parent.session legal parent.begun in
    let here = split_there parent.session.nodes node left right parent.children in
    record {
      session = after.now;
      begun = after.begun;
      rows = subst (λ i. 2 ≤ size i) (sym (after.grown.intervals node here)) parent.rows;
      children = after.grown.children node left right parent.children;
    }

parent_went : (number node left right : ℕ) (old new : TableView) → Went number old new → IsLegal old.fixed new.seen → IsParent old.seen number node left right → IsParent new.seen number node left right
parent_went number node left right old new went legal parent =
    let now = seen_now number old new went in
    subst (λ h. IsParent h number node left right) (sym now) (parent_later old.fixed old.seen went.more number node left right (subst (IsLegal old.fixed) now legal) parent)

pub open_step : (number : ℕ) (moves : List Move) (at : ℕ) (parts after : List Part) (place left right : ℕ) (part : Part) (lease : Leased) (old new : TableView) → Went number old new
    → IsLegal old.fixed new.seen → IsOpen new.seen number left lease → Divides lease parts place left right after → Stands old.seen number moves parts → slice_get parts place ≡ Some part
    → IsParent old.seen number part.node left right → at % length parts ≡ place → Stands new.seen number (moves ++ move.Split at ∷ []) after
open_step number moves at parts after place left right part lease old new went legal held divides stands there parent here =
    divided old.fixed new.seen number moves at parts after place left right lease part legal (stands_went number moves parts old new went legal stands) there
    (parent_went number part.node left right old new went legal parent) here held divides

pub open_fails : (number node left right : ℕ) (why : DrainFault) (old new : TableView) → Went number old new → IsLegal old.fixed new.seen
    → LookFails new.seen number left why → IsParent old.seen number node left right → Fails old.fixed old.number new.seen number why
open_fails number node left right why old new went legal fails parent =
    let now = parent_went number node left right old new went legal parent in
    let tree = tree_of old.fixed new.seen number now.session legal now.begun in
    look_fails old.fixed old.number new.seen number left now.session why now.begun (tree.halved node left right now.children).left_there fails

-- ---- the end

pub end_step : (number : ℕ) (moves : List Move) (parts : List Part) (part : Part) (rest : List Part) (rows rows' : List Row) (lease : Leased) (old new : TableView) → Went number old new
    → IsLegal old.fixed new.seen → IsOpen new.seen number part.node lease → rows' ≡ rows ++ (rows_in part ++ rows_behind lease (length (rows_in part)))
    → ReadsAll old.seen number moves parts (part ∷ rest) rows → ReadsAll new.seen number moves parts rest rows'
end_step number moves parts part rest rows rows' lease old new went legal held is reads =
    let now = seen_now number old new went in
    subst (λ h. ReadsAll h number moves parts rest rows') (sym now)
    (one_read old.fixed old.seen went.more number moves parts part rest rows rows' lease (subst (IsLegal old.fixed) now legal) reads (subst (λ h. IsOpen h number part.node lease) now held) is)

pub end_fails : (number : ℕ) (moves : List Move) (parts : List Part) (part : Part) (rest : List Part) (rows : List Row) (why : DrainFault) (old new : TableView) → Went number old new
    → IsLegal old.fixed new.seen → LookFails new.seen number part.node why → ReadsAll old.seen number moves parts (part ∷ rest) rows → Fails old.fixed old.number new.seen number why
end_fails number moves parts part rest rows why old new went legal fails reads =
    let now = stands_went number moves parts old new went legal reads.stands in
    look_fails old.fixed old.number new.seen number part.node now.session why now.begun
    (next_there old.fixed new.seen number moves parts part reads.done rest legal now reads.parts_are) fails

-- ---- moves

-- a read is a move
pub then_read : {V E : Type 0} (history : History) (number : ℕ) (moves : List Move) (place count : ℕ) (parts_of : V → List Part) (result : Result V E)
    → IfOk result (λ v. Stands history number moves (parts_of v)) → IfOk result (λ v. Stands history number (moves ++ move.Read place count ∷ []) (parts_of v))
then_read history number moves place count parts_of (Ok v) stands = read_stands history number moves place count (parts_of v) stands
then_read history number moves place count parts_of (Err e) stands = tt

-- a later fault is one of the pass before
pub fails_kept : {V : Type 0} (number : ℕ) (old mid : TableView) (history : History) (result : Result V DrainFault) → Went number old mid
    → IfErr result (Fails mid.fixed mid.number history number) → IfErr result (Fails old.fixed old.number history number)
fails_kept number old mid history result went fails = subst (λ (v : TableView). IfErr result (Fails v.fixed v.number history number)) went.is fails
