-- Rows of intervals that follow one another.
use Rattle.std.proofs.Common.{◌≡◌, ℕ, ◌+◌, ◌-◌, ◌/◌, ◌≤◌, Bool, List, [], ◌∷◌, ◌++◌, map, filter, take, drop, Some, sym, ◌∙◌, ap, arith}
use Rattle.std.proofs.Math.Seq.{take-add}
use Rattle.std.proofs.Math.Nat.{sub-zero}
use Rattle.std.proofs.lemmas.List.{drop-drop, map-append}
use Rattle.std.proofs.lemmas.List.Elements.{filter-append}
use Rattle.std.proofs.lemmas.List.Concat.{flat_map-cons}
use Rattle.std.specs.List.{between, flat_map}
use Rattle.split_tree.specs.declared.node.Interval.{Interval}
use Rattle.split_tree.specs.Intervals.{Follow, middle, first_half}
use Rattle.split_tree.specs.Nodes.{Nodes, interval_of, children_of, IsSplitTree}
use Rattle.split_tree.specs.Cuts.{IsCut}
use Rattle.split_tree.specs.Parts.{rows_in, read, rows_of_node, rows_of_session}
use Rattle.split_tree.proofs.Halves.{split_there}
use Rattle.split_tree.proofs.CutLemmas.{cut_follows}

between-join : {X : Type 0} (a b c : ℕ) (rows : List X) → a ≤ b → b ≤ c → between a b rows ++ between b c rows ≡ between a c rows
between-join a b c rows first second =
    let whole : c - a ≡ (b - a) + (c - b) = omega arith in
    let start : a + (b - a) ≡ b = omega arith in
    sym (
    ap (λ n. take n (drop a rows)) whole
    ∙ take-add (b - a) (c - b) (drop a rows)
    ∙ ap (λ more. take (b - a) (drop a rows) ++ take (c - b) more) (drop-drop (b - a) a rows ∙ ap (λ n. drop n rows) start))

between-none : {X : Type 0} (a : ℕ) (rows : List X) → between a a rows ≡ []
between-none a rows =
    let none : a - a ≡ 0 = omega arith in
    ap (λ n. take n (drop a rows)) none

read-append : {X Y : Type 0} (keep : X → Bool) (shape : X → Y) (xs ys : List X) → read keep shape (xs ++ ys) ≡ read keep shape xs ++ read keep shape ys
read-append keep shape xs ys = ap (map shape) (filter-append keep xs ys) ∙ map-append shape (filter keep xs) (filter keep ys)

read_between : {X Y : Type 0} (keep : X → Bool) (shape : X → Y) (a b c : ℕ) (rows : List X) → a ≤ b → b ≤ c
    → read keep shape (between a b rows) ++ read keep shape (between b c rows) ≡ read keep shape (between a c rows)
read_between keep shape a b c rows first second = sym (read-append keep shape (between a b rows) (between b c rows)) ∙ ap (read keep shape) (between-join a b c rows first second)

middle_of : (a b : ℕ) → a ≤ b → (a ≤ (a + b) / 2) × ((a + b) / 2 ≤ b)
middle_of a b order = (omega arith, omega arith)

pub children_join : {X Y : Type 0} (nodes : Nodes) (number left right : ℕ) → IsSplitTree nodes → children_of nodes number ≡ Some (left, right)
    → (keep : X → Bool) (shape : X → Y) (rows : List X)
    → rows_of_node keep shape nodes left rows ++ rows_of_node keep shape nodes right rows ≡ rows_of_node keep shape nodes number rows
children_join nodes number left right tree is keep shape rows =
    let halved = tree.halved number left right is in
    let here = interval_of nodes number in
    let half = middle_of here.from here.upto (tree.within number (split_there nodes number left right is)).order in
    ap (λ i. read keep shape (rows_in i rows) ++ rows_of_node keep shape nodes right rows) halved.first
    ∙ ap (λ i. read keep shape (rows_in (first_half here) rows) ++ read keep shape (rows_in i rows)) halved.second
    ∙ read_between keep shape here.from (middle here) here.upto rows half.0 half.1

follow_order : (intervals : List Interval) (from upto : ℕ) → Follow intervals from upto → from ≤ upto
follow_order [] from upto follow = omega (arith, follow)
follow_order (interval ∷ more) from upto follow = omega (arith, follow.0, follow.1, follow_order more interval.upto upto follow.2)

join_follow : {X Y : Type 0} (nodes : Nodes) (keep : X → Bool) (shape : X → Y) (rows : List X) (cut : List ℕ) (from upto : ℕ)
    → Follow (map (interval_of nodes) cut) from upto
    → flat_map (λ number. rows_of_node keep shape nodes number rows) cut ≡ read keep shape (between from upto rows)
join_follow nodes keep shape rows [] from upto follow =
    sym (ap (λ n. read keep shape (between from n rows)) (sym follow) ∙ ap (read keep shape) (between-none from rows))
join_follow nodes keep shape rows (number ∷ cut) from upto follow =
    let here = interval_of nodes number in
    flat_map-cons (λ number. rows_of_node keep shape nodes number rows) number cut
    ∙ ap (λ more. rows_of_node keep shape nodes number rows ++ more) (join_follow nodes keep shape rows cut here.upto upto follow.2)
    ∙ read_between keep shape here.from here.upto upto rows follow.1 (follow_order (map (interval_of nodes) cut) here.upto upto follow.2)
    ∙ ap (λ n. read keep shape (between n upto rows)) follow.0

pub cuts_join : {X Y : Type 0} (nodes : Nodes) (cut : List ℕ) → IsSplitTree nodes → IsCut nodes cut → (keep : X → Bool) (shape : X → Y) (rows : List X)
    → flat_map (λ number. rows_of_node keep shape nodes number rows) cut ≡ rows_of_session keep shape nodes rows
cuts_join nodes cut tree is keep shape rows =
    join_follow nodes keep shape rows cut 0 nodes.at (cut_follows nodes cut tree is)
    ∙ ap (λ n. read keep shape (take n rows)) (sub-zero nodes.at)
