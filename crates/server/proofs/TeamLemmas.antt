-- The passes of several workers: split from the given ones, used, and joined again.
use Rattle.std.proofs.Common.{◌≡◌, ◌≤◌, max, ℤ, ◌==◌, cond, false, List, [], ◌∷◌, ◌++◌, Option, refl, sym, ap, ◌∙◌, subst, append_assoc, length-append, arith}
use Rattle.std.specs.Prelude.{All}
use Rattle.std.proofs.lemmas.List.Elements.{All-nil, All-cons, All-head, All-tail, All-push, All-weaker}
use Rattle.std.proofs.lemmas.List.Sums.{sum_by-append}
use Rattle.turn_table.specs.View.{Reaches, Joins, seeing}
use Rattle.open_tables.specs.Tables.{TableView, OpenTable, AreTheirs}
use Rattle.open_tables.specs.Plans.{caller_in}
use Rattle.conn_service.specs.Served.{Planning, EachGoesOn}
use Rattle.conn_service.specs.Computed.{histories_of}
use Rattle.conn_service.proofs.PassLemmas.{served-goes-on}
use Rattle.server.specs.Visits.{LinkShows, Visit, SeesOthers, EachSeesOthers, ServesInTurn}
use Rattle.server.specs.Serving.{AreFronts, Differ}
use Rattle.server.specs.Splits.{AreSplit, AreJoined, AreGathered}
use Rattle.server.specs.Crew.{TeamsDiffer, AreBeside, AreTeams}
use Rattle.server.proofs.ServeLemmas.{sees_none, fronts_then}

-- ---- a split

split_seen : (passes left right : List TableView) → AreSplit passes left right → (histories_of left ≡ histories_of passes) × (histories_of right ≡ histories_of passes)
split_seen [] [] [] are = (refl, refl)
split_seen [] [] (r ∷ right) are = absurd are
split_seen [] (l ∷ left) right are = absurd are
split_seen (p ∷ passes) [] right are = absurd are
split_seen (p ∷ passes) (l ∷ left) [] are = absurd are
split_seen (p ∷ passes) (l ∷ left) (r ∷ right) are =
    let rest = split_seen passes left right are.2 in (
      ap (λ h. h ∷ histories_of left) (ap (λ v. v.seen) are.0.kept) ∙ ap (λ hs. p.seen ∷ hs) rest.0,
      ap (λ h. h ∷ histories_of right) (ap (λ v. v.seen) are.0.new) ∙ ap (λ hs. p.seen ∷ hs) rest.1,
    )

split_beside : (passes left right : List TableView) → AreSplit passes left right → AreBeside left right
split_beside [] [] [] are = tt
split_beside [] [] (r ∷ right) are = absurd are
split_beside [] (l ∷ left) right are = absurd are
split_beside (p ∷ passes) [] right are = absurd are
split_beside (p ∷ passes) (l ∷ left) [] are = absurd are
split_beside (p ∷ passes) (l ∷ left) (r ∷ right) are =
    let bound = ap (λ v. v.bound) are.0.kept in
    let number = ap (λ v. v.number) are.0.kept in
    let new = ap (λ v. v.bound) are.0.new in (
      ap (λ v. v.alone) are.0.kept,
      (λ same. absurd (omega (arith, number, same, are.0.above, are.1))),
      omega (arith, bound),
      omega (arith, bound, new),
      split_beside passes left right are.2,
    )

still_beside : (passes left right other : List TableView) → AreSplit passes left right → AreBeside passes other → AreBeside left other × Differ other right
still_beside [] [] [] [] are is = (tt, tt)
still_beside [] [] [] (o ∷ other) are is = absurd is
still_beside [] [] (r ∷ right) other are is = absurd are
still_beside [] (l ∷ left) right other are is = absurd are
still_beside (p ∷ passes) [] right other are is = absurd are
still_beside (p ∷ passes) (l ∷ left) [] other are is = absurd are
still_beside (p ∷ passes) (l ∷ left) (r ∷ right) [] are is = absurd is
still_beside (p ∷ passes) (l ∷ left) (r ∷ right) (o ∷ other) are is =
    let bound = ap (λ v. v.bound) are.0.kept in
    let number = ap (λ v. v.number) are.0.kept in
    let above = are.0.above in
    let rest = still_beside passes left right other are.2 is.4 in (
      (
        ap (λ v. v.alone) are.0.kept,
        (λ same. is.1 (sym number ∙ same)),
        omega (arith, bound, above, is.2),
        omega (arith, bound, above, is.3),
        rest.0,
      ),
      ((λ same. absurd (omega (arith, same, above, is.2))), rest.1),
    )

differ_more : (teams : List (List TableView)) (team : List TableView) → All (λ other. Differ other team) teams → TeamsDiffer teams → TeamsDiffer (teams ++ team ∷ [])
differ_more [] team all differ = (All-nil _, tt)
differ_more (first ∷ teams) team all differ = (
  All-push (λ other. Differ first other) teams team differ.0 (All-head (λ other. Differ other team) first teams all),
  differ_more teams team (All-tail (λ other. Differ other team) first teams all) differ.1,
)

pub one_team : (tables : List OpenTable) (passes : List TableView) → AreTheirs tables passes → AreTeams tables passes passes []
one_team tables passes theirs = record { theirs = theirs; begins = refl; each = All-nil _; differ = tt; one = λ none. refl }

module _ (tables : List OpenTable) (passes first left right : List TableView) (others : List (List TableView)) where
  pub more_teams : AreSplit first left right → AreTheirs tables left → AreTheirs tables right → AreTeams tables passes first others → AreTeams tables passes left (others ++ right ∷ [])
  more_teams are mine theirs teams =
      let Was : List TableView → Type 0 = λ other. AreTheirs tables other × (histories_of other ≡ histories_of passes) × AreBeside first other in
      let Is : List TableView → Type 0 = λ other. AreTheirs tables other × (histories_of other ≡ histories_of passes) × AreBeside left other in
      let seen = split_seen first left right are in
      record {
        theirs = mine;
        begins = seen.0 ∙ teams.begins;
        each = All-push Is others right (All-weaker Was Is (λ other is. (is.0, is.1, (still_beside first left right other are is.2).0)) others teams.each)
            (theirs, seen.1 ∙ teams.begins, split_beside first left right are);
        differ = differ_more others right (All-weaker Was (λ other. Differ other right) (λ other is. (still_beside first left right other are is.2).1) others teams.each) teams.differ;
        one = λ none. absurd (omega (arith, none, length-append others (right ∷ [])));
      }

-- ---- passes go on

goes_then : (olds betweens news : List TableView) → EachGoesOn olds betweens → EachGoesOn betweens news → EachGoesOn olds news
goes_then [] [] news first then = then
goes_then [] (b ∷ betweens) news first then = absurd first
goes_then (a ∷ olds) [] news first then = absurd first
goes_then (a ∷ olds) (b ∷ betweens) [] first then = absurd then
goes_then (a ∷ olds) (b ∷ betweens) (c ∷ news) first then =
    let f = first.0 in
    let t = then.0 in (
      record {
        number = t.number ∙ f.number;
        bound = t.bound ∙ f.bound;
        alone = t.alone ∙ f.alone;
        fixed = t.fixed ∙ f.fixed;
        seen = (f.seen.0 ++ t.seen.0, sym (append_assoc a.seen f.seen.0 t.seen.0) ∙ ap (λ l. l ++ t.seen.0) f.seen.1 ∙ t.seen.1);
      },
      goes_then olds betweens news first.1 then.1,
    )

sees_goes : (olds news : List TableView) → EachSeesOthers olds news → EachGoesOn olds news
sees_goes [] [] sees = tt
sees_goes [] (b ∷ news) sees = absurd sees
sees_goes (a ∷ olds) [] sees = absurd sees
sees_goes (a ∷ olds) (b ∷ news) sees =
    let is = sees.0.2 in (
      record {
        number = ap (λ v. v.number) is;
        bound = ap (λ v. v.bound) is;
        alone = ap (λ v. v.alone) is;
        fixed = ap (λ v. v.fixed) is;
        seen = (sees.0.1.more, sym (ap (λ v. v.seen) is ∙ sees.0.1.is));
      },
      sees_goes olds news sees.1,
    )

pub turn_goes : {L : Type 0} (shows : L → LinkShows) (asks : Planning) (visits : List (Visit L)) (passes after : List TableView) (since until : Option (List ℤ))
    → ServesInTurn shows asks visits passes after since until → EachGoesOn passes after
turn_goes shows asks [] passes after since until turn = sees_goes passes after turn.0
turn_goes shows asks (visit ∷ visits) passes after since until (before, behind, between, sees, is, others) =
    goes_then passes before after (sees_goes passes before sees)
    (goes_then before behind after (served-goes-on asks before behind _ is.served.served) (turn_goes shows asks visits behind after between until others))

sees_then_one : (a b c : TableView) → SeesOthers a b → SeesOthers b c → SeesOthers a c
sees_then_one a b c (point, reaches, is) (last, goes, then) =
    let on : Reaches caller_in (seeing a point) last = subst (λ v. Reaches caller_in v last) is goes in
    let count = sum_by-append (λ entry. cond (caller_in entry == a.number) 1 0) reaches.more on.more in (
      last,
      record {
        more = reaches.more ++ on.more;
        is = on.is ∙ ap (λ h. h ++ on.more) reaches.is ∙ append_assoc a.seen reaches.more on.more;
        others = omega (arith, count, reaches.others, on.others);
        none_if_alone = λ alone. ap (λ xs. xs ++ on.more) (reaches.none_if_alone alone) ∙ on.none_if_alone alone;
      },
      then ∙ ap (λ v. seeing v last) is,
    )

sees_then : (olds betweens news : List TableView) → EachSeesOthers olds betweens → EachSeesOthers betweens news → EachSeesOthers olds news
sees_then [] [] news first then = then
sees_then [] (b ∷ betweens) news first then = absurd first
sees_then (a ∷ olds) [] news first then = absurd first
sees_then (a ∷ olds) (b ∷ betweens) [] first then = absurd then
sees_then (a ∷ olds) (b ∷ betweens) (c ∷ news) first then = (sees_then_one a b c first.0 then.0, sees_then olds betweens news first.1 then.1)

-- what others added was seen between two runs of links
module _ {L : Type 0} (shows : L → LinkShows) (asks : Planning) where
  sees_turn : (visits : List (Visit L)) (passes between after : List TableView) (since until : Option (List ℤ))
      → EachSeesOthers passes between → ServesInTurn shows asks visits between after since until → ServesInTurn shows asks visits passes after since until
  sees_turn [] passes between after since until sees turn = (sees_then passes between after sees turn.0, turn.1)
  sees_turn (visit ∷ visits) passes between after since until sees (before, behind, middle, saw, is, others) =
      (before, behind, middle, sees_then passes between before sees saw, is, others)

  pub turn_then : (visits more : List (Visit L)) (passes behind joined after : List TableView) (since middle until : Option (List ℤ))
      → ServesInTurn shows asks visits passes behind since middle → EachSeesOthers behind joined → ServesInTurn shows asks more joined after middle until
      → ServesInTurn shows asks (visits ++ more) passes after since until
  turn_then [] more passes behind joined after since middle until turn sees then =
      subst (λ told. ServesInTurn shows asks more passes after told until) turn.1 (sees_turn more passes joined after middle until (sees_then passes behind joined turn.0 sees) then)
  turn_then (visit ∷ visits) more passes behind joined after since middle until (b, h, m, saw, is, others) sees then =
      (b, h, m, saw, is, turn_then visits more h behind joined after m middle until others sees then)

-- ---- fronts

pub goes_fronts : (olds news : List TableView) → EachGoesOn olds news → AreFronts (histories_of olds) (histories_of news)
goes_fronts [] [] goes = tt
goes_fronts [] (b ∷ news) goes = absurd goes
goes_fronts (a ∷ olds) [] goes = absurd goes
goes_fronts (a ∷ olds) (b ∷ news) goes = (goes.0.seen, goes_fronts olds news goes.1)

-- ---- joins

pub goes_beside : (first first' other other' : List TableView) → EachGoesOn first first' → EachGoesOn other other' → AreBeside first other → AreBeside first' other'
goes_beside [] [] [] [] f o is = tt
goes_beside [] [] [] (y ∷ other') f o is = absurd o
goes_beside [] [] (x ∷ other) other' f o is = absurd is
goes_beside [] (y ∷ first') other other' f o is = absurd f
goes_beside (x ∷ first) [] other other' f o is = absurd f
goes_beside (x ∷ first) (x' ∷ first') [] other' f o is = absurd is
goes_beside (x ∷ first) (x' ∷ first') (y ∷ other) [] f o is = absurd o
goes_beside (x ∷ first) (x' ∷ first') (y ∷ other) (y' ∷ other') f o is =
    let mine = f.0 in
    let theirs = o.0 in (
      mine.alone ∙ is.0,
      (λ same. is.1 (sym mine.number ∙ same ∙ theirs.number)),
      omega (arith, is.2, mine.bound, theirs.number),
      omega (arith, is.3, mine.bound, theirs.bound),
      goes_beside first first' other other' f.1 o.1 is.4,
    )

same_goes : (passes : List TableView) → EachGoesOn passes passes
same_goes passes = sees_goes passes passes (sees_none passes)

join_one : (keep give after : TableView) → keep.alone ≡ false → give.bound ≤ keep.bound → Joins caller_in keep give after → SeesOthers keep after
join_one keep give after alone within joins =
    let most : max keep.bound give.bound ≡ keep.bound = omega (arith, within) in (
      after.seen,
      joins.keeps,
      joins.is ∙ ap (λ n. record keep { bound = n; alone = false; seen = after.seen }) most ∙ ap (λ a. record keep { alone = a; seen = after.seen }) (sym alone),
    )

join_sees : (keep give after : List TableView) → AreBeside keep give → AreJoined keep give after → EachSeesOthers keep after × AreFronts (histories_of give) (histories_of after)
join_sees [] [] [] is are = (tt, tt)
join_sees [] [] (a ∷ after) is are = absurd are
join_sees [] (g ∷ give) after is are = absurd are
join_sees (k ∷ keep) [] after is are = absurd are
join_sees (k ∷ keep) (g ∷ give) [] is are = absurd are
join_sees (k ∷ keep) (g ∷ give) (a ∷ after) is are =
    let rest = join_sees keep give after is.4 are.1 in
    let gives = are.0.gives in
    ((join_one k g a is.0 is.3 are.0, rest.0), ((gives.more, sym gives.is), rest.1))

-- the first's passes have seen more of the others' entries, and the others' stand in what they have seen
pub gathered_sees : (first : List TableView) (others : List (List TableView)) (after : List TableView) → All (AreBeside first) others → AreGathered first others after
    → EachSeesOthers first after × All (λ other. AreFronts (histories_of other) (histories_of after)) others
gathered_sees first [] after beside is = (subst (EachSeesOthers first) (sym is) (sees_none first), All-nil _)
gathered_sees first (other ∷ others) after beside (between, joined, are) =
    let join = join_sees first other between (All-head (AreBeside first) other others beside) joined in
    let goes = sees_goes first between join.0 in
    let still = All-weaker (AreBeside first) (AreBeside between) (λ x is. goes_beside first between x x goes (same_goes x) is) others (All-tail (AreBeside first) other others beside) in
    let rest = gathered_sees between others after still are in (
      sees_then first between after join.0 rest.0,
      All-cons (λ x. AreFronts (histories_of x) (histories_of after)) other others
          (fronts_then (histories_of other) (histories_of between) (histories_of after) join.1 (goes_fronts between after (sees_goes between after rest.0))) rest.1,
    )
