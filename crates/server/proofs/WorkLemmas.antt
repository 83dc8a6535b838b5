-- Jobs that a worker takes one after another.
use Rattle.std.proofs.Common.{◌≡◌, ℤ, List, [], ◌∷◌, ◌++◌, map, length, Option, Some, None, refl, sym, ap, ◌∙◌, append_assoc, append-nil, arith, unwrap_or}
use Rattle.std.proofs.lemmas.List.{map-append}
use Rattle.links.specs.Told.{Tells}
use Rattle.open_tables.specs.Tables.{TableView}
use Rattle.conn_service.specs.Served.{Planning}
use Rattle.server.specs.Visits.{LinkShows, Visit, IsServed}
use Rattle.server.specs.Works.{HasWorked}
use Rattle.server.proofs.ServeLemmas.{sees_none, turn_more}

-- ---- an empty log

none_of : {X : Type 0} (xs : List X) → length xs ≡ 0 → xs ≡ []
none_of [] none = refl
none_of (x ∷ xs) none = absurd (omega (arith, none))

pub empty_told : {X : Type 0} (told : Option (List X)) → Tells told [] → length (unwrap_or told []) ≡ 0
empty_told None tells = refl
empty_told (Some xs) tells = ap length tells

pub told_empty : {X : Type 0} (told : Option (List X)) → length (unwrap_or told []) ≡ 0 → Tells told []
told_empty None none = tt
told_empty (Some xs) none = none_of xs none

-- ---- one job more

module _ {L J : Type 0} (shows : L → LinkShows) (link_of : J → L) (plan : Planning) where
  pub no_work : (passes : List TableView) (readings : Option (List ℤ)) (served : List L) (taken : List J)
      → HasWorked shows link_of plan passes passes readings readings served served taken taken
  no_work passes readings served taken = record {
    jobs = [];
    took = sym (append-nil taken);
    visits = [];
    given = refl;
    back = sym (append-nil served);
    in_turn = (sees_none passes, refl);
  }

  pub more_work : (passes between after : List TableView) (since middle until : Option (List ℤ)) (served0 served served' : List L) (taken0 taken taken' : List J) (job : J) (back : L)
      → served' ≡ served ++ back ∷ [] → taken' ≡ taken ++ job ∷ [] → IsServed shows plan (record { given = link_of job; back = back }) between after middle until
      → HasWorked shows link_of plan passes between since middle served0 served taken0 taken → HasWorked shows link_of plan passes after since until served0 served' taken0 taken'
  more_work passes between after since middle until served0 served served' taken0 taken taken' job back served_is taken_is is so_far =
      let visit : Visit L = record { given = link_of job; back = back } in
      let visits = so_far.visits in
      record {
        jobs = so_far.jobs ++ job ∷ [];
        took = taken_is ∙ ap (λ t. t ++ job ∷ []) so_far.took ∙ append_assoc taken0 so_far.jobs (job ∷ []);
        visits = visits ++ visit ∷ [];
        given = map-append (λ v. v.given) visits (visit ∷ []) ∙ ap (λ g. g ++ link_of job ∷ []) so_far.given ∙ sym (map-append link_of so_far.jobs (job ∷ []));
        back = served_is ∙ ap (λ s. s ++ back ∷ []) so_far.back ∙ append_assoc served0 (map (λ v. v.back) visits) (back ∷ [])
            ∙ ap (λ s. served0 ++ s) (sym (map-append (λ v. v.back) visits (visit ∷ [])));
        in_turn = turn_more shows plan visits visit passes between after since middle until so_far.in_turn is;
      }
