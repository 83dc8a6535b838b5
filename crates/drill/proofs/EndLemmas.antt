-- Each node of the cut is read to its end.
use Rattle.std.proofs.Common.{◌≡◌, ℕ, ◌<◌, ◌<ℤ◌, List, [], ◌∷◌, ◌++◌, append_assoc, length, map, drop, reverse, Some, refl, sym, ap, ◌∙◌, subst, arith}
use Rattle.std.specs.Prelude.{option_and_then, Result, Ok, Err, IfOk, IfErr}
use Rattle.std.specs.List.{AllByRecursion, flat_map}
use Rattle.std.proofs.lemmas.List.{append-nil, reverse-append, reverse-reverse}
use Rattle.std.proofs.lemmas.List.Concat.{flat_map-append}
use Rattle.std.proofs.lemmas.List.Folds.{flat_map-map}
use Rattle.std.proofs.lemmas.Option.{same_Some}
use Rattle.outside.specs.declared.wants.Memory.{Memory}
use Rattle.column_types.specs.declared.column.Column.{Column}
use Rattle.column_types.specs.declared.row.Row.{Row}
use Rattle.column_types.specs.Fields.{projected}
use Rattle.read_cursor.specs.Lease.{Leased, keeps}
use Rattle.table_model.specs.History.{History, moment_of}
use Rattle.table_model.specs.Legal.{IsLegal}
use Rattle.table_model.specs.Sessions.{Opened, expiry_of}
use Rattle.table_model.proofs.SessionLemmas.{nodes_join}
use Rattle.drill.specs.declared.drained.Drained.{Drained}
use Rattle.drill.specs.declared.drained.DrainFault.{DrainFault}
use Rattle.drill.specs.declared.drain_parts.Part.{Part}
use Rattle.drill.specs.declared.moves.Move.{Move}
use Rattle.drill.specs.Drains.{Drains, Fails, IsDrained, node_rows}
use Rattle.drill.specs.Moves.{cut_in}
use Rattle.drill.specs.Parts.{Stands, AreFirst, node_in, rows_in}
use Rattle.drill.specs.Reads.{rows_behind}
use Rattle.drill.specs.Steps.{IsOpen, ReadsAll, drained_by}
use Rattle.drill.proofs.CutLemmas.{moves_cut}
use Rattle.drill.proofs.SessionLemmas.{Later, later, legal_front, parts_there, stands_later}
use Rattle.drill.proofs.PartLemmas.{rest_behind}

-- before a node was read to its end
pub none_read : (history : History) (number : ℕ) (moves : List Move) (parts : List Part) → Stands history number moves parts → ReadsAll history number moves parts parts []
none_read history number moves parts stands = record {
  stands = stands;
  done = [];
  parts_are = refl;
  rows_are = refl;
  early = λ some. absurd (omega (arith, some));
}

module _ {A : Type 0} (P : A → Type 0) where
  all_mid : (done : List A) (x : A) (rest : List A) → AllByRecursion P (done ++ x ∷ rest) → P x
  all_mid [] x rest all = all.0
  all_mid (y ∷ done) x rest all = all_mid done x rest all.1

  all_front : (done rest : List A) → AllByRecursion P (done ++ rest) → AllByRecursion P done
  all_front [] rest all = tt
  all_front (y ∷ done) rest all = (all.0, all_front done rest all.1)

-- rows of nodes that were there are the same
rows_stay : (old new : History) (number : ℕ) (session : Opened) (after : Later old new number session) (done : List Part)
    → AllByRecursion (λ (part : Part). part.node < length session.nodes.list) done
    → flat_map (λ (part : Part). node_rows after.now new part.node) done ≡ flat_map (λ (part : Part). node_rows session old part.node) done
rows_stay old new number session after [] all = refl
rows_stay old new number session after (part ∷ done) all =
    ap (λ rows. rows ++ flat_map (λ (part : Part). node_rows after.now new part.node) done) (after.rows part.node all.0)
    ∙ ap (λ rows. node_rows session old part.node ++ rows) (rows_stay old new number session after done all.1)

-- the node that is read next is there
pub next_there : (columns : List Column) (history : History) (number : ℕ) (moves : List Move) (parts : List Part) (part : Part) (done rest : List Part) → IsLegal columns history
    → (stands : Stands history number moves parts) → parts ≡ done ++ part ∷ rest → part.node < length stands.session.nodes.list
next_there columns history number moves parts part done rest legal stands split =
    all_mid (λ (part : Part). part.node < length stands.session.nodes.list) done part rest
    (subst (AllByRecursion (λ (part : Part). part.node < length stands.session.nodes.list)) split (parts_there columns history number moves parts legal stands))

-- one node more is read to its end
pub one_read : (columns : List Column) (history more : History) (number : ℕ) (moves : List Move) (parts : List Part) (part : Part) (rest : List Part) (rows rows' : List Row) (lease : Leased)
    → IsLegal columns (history ++ more) → ReadsAll history number moves parts (part ∷ rest) rows → IsOpen (history ++ more) number part.node lease
    → rows' ≡ rows ++ (rows_in part ++ rows_behind lease (length (rows_in part))) → ReadsAll (history ++ more) number moves parts rest rows'
one_read columns history more number moves parts part rest rows rows' lease legal reads held is =
    let new = history ++ more in
    let before = legal_front columns history more legal in
    let stands = stands_later columns history more number moves parts legal reads.stands in
    let session = stands.session in
    let after = later columns history more number reads.stands.session legal reads.stands.begun in
    let same : after.now ≡ session = same_Some _ _ (sym after.begun ∙ stands.begun) in
    let other : held.session ≡ session = same_Some _ _ (sym held.begun ∙ stands.begun) in
    let there = all_front (λ (p : Part). p.node < length reads.stands.session.nodes.list) reads.done (part ∷ rest)
    (subst (AllByRecursion (λ (p : Part). p.node < length reads.stands.session.nodes.list)) reads.parts_are (parts_there columns history number moves parts before reads.stands)) in
    let so_far : rows ≡ flat_map (λ (p : Part). node_rows session new p.node) reads.done =
    reads.rows_are ∙ sym (rows_stay history new number reads.stands.session after reads.done there)
    ∙ ap (λ (s : Opened). flat_map (λ (p : Part). node_rows s new p.node) reads.done) same in
    let first : AreFirst (rows_in part) (node_rows session new part.node) =
    all_mid (λ (p : Part). AreFirst (rows_in p) (node_rows session new p.node)) reads.done part rest
    (subst (AllByRecursion (λ (p : Part). AreFirst (rows_in p) (node_rows session new p.node))) reads.parts_are stands.first) in
    let behind : rows_behind lease (length (rows_in part)) ≡ drop (length (rows_in part)) (node_rows session new part.node) =
    held.rows (length (rows_in part)) ∙ ap (λ (s : Opened). drop (length (rows_in part)) (node_rows s new part.node)) other in
    let all : rows_in part ++ rows_behind lease (length (rows_in part)) ≡ node_rows session new part.node =
    ap (λ l. rows_in part ++ l) behind ∙ rest_behind (rows_in part) first.0 (node_rows session new part.node) first.1 in
    record {
      stands = stands;
      done = reads.done ++ part ∷ [];
      parts_are = reads.parts_are ∙ sym (append_assoc reads.done (part ∷ []) rest);
      rows_are = is ∙ ap (λ l. rows ++ l) all ∙ ap (λ l. l ++ node_rows session new part.node) so_far
          ∙ ap (λ l. flat_map (λ (p : Part). node_rows session new p.node) reads.done ++ l) (sym (append-nil (node_rows session new part.node)))
          ∙ sym (flat_map-append (λ (p : Part). node_rows session new p.node) reads.done (part ∷ []));
      early = λ some. subst (λ (s : Opened). moment_of new <ℤ expiry_of s.moment) other held.early;
    }

-- all were read to their ends
pub all_read : (columns : List Column) (history : History) (number : ℕ) (moves : List Move) (parts : List Part) (drained : Drained) → IsLegal columns history
    → ReadsAll history number moves parts [] drained.rows → drained.nodes ≡ map node_in parts → IsDrained history number moves drained
all_read columns history number moves parts drained legal reads nodes =
    let stands = reads.stands in
    let session = stands.session in
    let done : parts ≡ reads.done = reads.parts_are ∙ append-nil reads.done in
    let cut = moves_cut session.nodes moves (map node_in parts) stands.cut in
    let f : ℕ → List Row = λ node. node_rows session history node in
    record {
      session = session;
      begun = stands.begun;
      early = reads.early (subst (λ l. 0 < length l) done stands.some);
      nodes = ap (option_and_then (λ (s : Opened). cut_in s.nodes moves)) stands.begun ∙ stands.cut ∙ ap Some (sym nodes);
      rows = reads.rows_are ∙ ap (flat_map (λ (p : Part). f p.node)) (sym done) ∙ sym (flat_map-map f node_in parts)
          ∙ (nodes_join columns history number session legal stands.begun).cuts (map node_in parts) cut (keeps session.pred) (projected session.fields);
    }

-- what was drained, or why nothing was
pub drains_by : (columns : List Column) (caller : ℕ) (history : History) (number : ℕ) (moves : List Move) (parts : List Part) (nodes : Result (List ℕ) Memory) (rows : Result (List Row) DrainFault)
    → IsLegal columns history → IfOk nodes (λ n. n ≡ map node_in parts) → IfOk rows (ReadsAll history number moves parts []) → IfErr rows (Fails columns caller history number)
    → Drains columns caller number moves history (drained_by nodes rows)
drains_by columns caller history number moves parts nodes (Err fault) legal are reads fails = fails
drains_by columns caller history number moves parts (Err memory) (Ok rows) legal are reads fails = tt
drains_by columns caller history number moves parts (Ok nodes) (Ok rows) legal are reads fails =
    all_read columns history number moves parts (record { nodes = nodes; rows = rows }) legal reads are

-- one part more is taken out
pub taken_out : (old new : List Part) (part : Part) → old ≡ new ++ part ∷ [] → reverse old ≡ part ∷ reverse new
taken_out old new part e = ap reverse e ∙ reverse-append new (part ∷ [])

-- before a part was taken out
pub starts : (history : History) (number : ℕ) (moves : List Move) (parts rest : List Part) (rows : List Row) → rest ≡ reverse parts → rows ≡ []
    → Stands history number moves parts → ReadsAll history number moves parts (reverse rest) rows
starts history number moves parts rest rows turned none stands =
    subst (λ l. ReadsAll history number moves parts l rows) (sym (ap reverse turned ∙ reverse-reverse parts))
    (subst (ReadsAll history number moves parts parts) (sym none) (none_read history number moves parts stands))
