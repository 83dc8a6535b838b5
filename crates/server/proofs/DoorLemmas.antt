-- What all workers did is what serving the links of the door leaves.
use Rattle.std.proofs.Common.{◌≡◌, ◌⊎◌, inl, inr, ℕ, ℤ, List, [], ◌∷◌, ◌++◌, map, length, Option, Some, refl, sym, ap, ◌∙◌, subst, append-nil, length-append, arith}
use Rattle.std.specs.Prelude.{All, flat_map, Ok}
use Rattle.std.proofs.lemmas.List.{length-map, map-append}
use Rattle.std.proofs.lemmas.List.Elements.{All-cons, All-append, All-map, All-pop, All-weaker}
use Rattle.std.proofs.lemmas.List.Concat.{flat_map-cons}
use Rattle.links.specs.Told.{more, Tells}
use Rattle.job_queue.specs.declared.hands.Known.{Known}
use Rattle.job_queue.specs.Queue.{AreOf}
use Rattle.open_tables.specs.Tables.{TableView, OpenTable, AreTheirs, specs_of}
use Rattle.call_plans.specs.Plans.{plan}
use Rattle.conn_service.specs.Served.{EachGoesOn}
use Rattle.conn_service.specs.Computed.{AreAlone, histories_of}
use Rattle.server.specs.Visits.{LinkShows, Visit, EachSeesOthers}
use Rattle.server.specs.Serving.{DoorShows, Share, IsShare, IsAmong, AreFronts, Differ, EachDiffers, HaveClocks, ServesLinks, links_back, led}
use Rattle.server.specs.Links.{LeavesPasses}
use Rattle.server.specs.Splits.{AreGathered}
use Rattle.server.specs.Crew.{Pairs, AreBeside, joined_hand}
use Rattle.server.specs.Asks.{AsksAll}
use Rattle.server.specs.Finish.{IsCrew, HasFinished}
use Rattle.server.proofs.TeamLemmas.{turn_goes, turn_then, goes_beside, goes_fronts, gathered_sees}
use Rattle.server.proofs.ServeLemmas.{fronts_then}
use Rattle.server.proofs.FinishLemmas.{all_of_map}
use Rattle.server.proofs.ShareLemmas.{IsFresh, Worked, are_left, are_right, as_many_links, jobs_are, links_are, pairs_last, pairs_length, pairs_new, put_joined, same_lengths, shares_are, shares_back, shares_count, shares_differ, shares_first, shares_of, shares_since, taken_joined, visits_among}

beside_differs : (first other : List TableView) → AreBeside first other → Differ first other
beside_differs [] [] is = tt
beside_differs [] (o ∷ other) is = absurd is
beside_differs (f ∷ first) [] is = absurd is
beside_differs (f ∷ first) (o ∷ other) is = (is.1, beside_differs first other is.4)

none_gathered : (first : List TableView) (others : List (List TableView)) (after : List TableView) → length others ≡ 0 → AreGathered first others after → after ≡ first
none_gathered first [] after none is = is
none_gathered first (other ∷ others) after none is = absurd (omega (arith, none))

module _ {W L J C : Type 0} (shows : L → LinkShows) (link_of : J → L) (tables : List OpenTable) (passes_of : W → List TableView) (hand_of : W → Known J) (links_of : W → List L)
    (clock_of : W → C) (readings : C → Option (List ℤ)) (is_clone : C → C → Type 0) (given : C) (workers connections : ℕ) (passes after : List TableView)
    (old between new : DoorShows L) (now : Option (List ℤ)) (hand : Known J) (crew crew' : List W) where
  abbrev readings_of : W → Option (List ℤ)
  readings_of w = readings (clock_of w)

  abbrev Did : W → W → Type 0
  Did = Worked shows link_of tables passes_of hand_of links_of readings_of

  abbrev Fresh : W → Type 0
  Fresh = IsFresh shows link_of tables passes_of hand_of links_of readings_of

  abbrev Clones : Option (List ℤ) → Type 0
  Clones told = (clone : C) × is_clone given clone × (told ≡ readings clone)

  module _ (made : IsCrew passes_of hand_of links_of clock_of is_clone given tables workers passes crew) (did : Pairs Did crew crew')
      (asks : AsksAll link_of old between [] hand.put connections (Ok tt)) (took_none : hand.taken ≡ [])
      (fin : HasFinished passes_of hand_of links_of readings_of shows link_of (plan (specs_of tables)) crew' after between new now hand) where
    each_did : Pairs Did made.others fin.others × Did made.first fin.first
    each_did = pairs_last Did made.others made.first fin.others fin.first
        (subst (λ news. Pairs Did (made.others ++ made.first ∷ []) news) fin.is (subst (λ olds. Pairs Did olds crew') made.is did))

    others_did : Pairs Did made.others fin.others
    others_did = each_did.0

    first_did : Did made.first fin.first
    first_did = each_did.1

    fresh : All Fresh made.others × Fresh made.first
    fresh = All-pop Fresh crew made.others (Some made.first) made.is made.new

    -- ---- passes

    goes : (a b : W) → Did a b → EachGoesOn (passes_of a) (passes_of b)
    goes a b w = turn_goes shows (plan (specs_of tables)) w.1.visits (passes_of a) (passes_of b) (readings_of a) (readings_of b) w.1.in_turn

    beside : All (AreBeside (passes_of fin.first)) (map passes_of fin.others)
    beside =
        let Was : List TableView → Type 0 = λ team. AreTheirs tables team × (histories_of team ≡ histories_of passes) × AreBeside (passes_of made.first) team in
        All-map (AreBeside (passes_of fin.first)) passes_of fin.others (pairs_new Did (λ w. Was (passes_of w)) (λ w. AreBeside (passes_of fin.first) (passes_of w))
        (λ a b was w. goes_beside (passes_of made.first) (passes_of fin.first) (passes_of a) (passes_of b) (goes made.first fin.first first_did) (goes a b w) was.2)
        made.others fin.others (all_of_map Was passes_of made.others made.teams.each) others_did)

    sees : EachSeesOthers (passes_of fin.first) fin.joined × All (λ other. AreFronts (histories_of other) (histories_of fin.joined)) (map passes_of fin.others)
    sees = gathered_sees (passes_of fin.first) (map passes_of fin.others) fin.joined beside fin.gathered

    within : All (λ team. AreFronts (histories_of team) (histories_of after)) (map passes_of fin.others)
    within =
        let last = goes_fronts fin.joined after (turn_goes shows (plan (specs_of tables)) fin.worked.visits fin.joined after (readings_of fin.first) now fin.worked.in_turn) in
        All-weaker (λ team. AreFronts (histories_of team) (histories_of fin.joined)) (λ team. AreFronts (histories_of team) (histories_of after))
        (λ team is. fronts_then (histories_of team) (histories_of fin.joined) (histories_of after) is last) (map passes_of fin.others) sees.1

    -- ---- jobs

    put_is : (joined_hand hand (map hand_of fin.others)).put ≡ hand.put
    put_is = put_joined hand_of hand fin.others

    taken_is : (joined_hand hand (map hand_of fin.others)).taken ≡ flat_map (λ w. (hand_of w).taken) fin.others
    taken_is = taken_joined hand_of hand fin.others ∙ ap (λ t. t ++ flat_map (λ w. (hand_of w).taken) fin.others) took_none

    all_of : AreOf (flat_map (λ w. (hand_of w).taken) fin.others ++ fin.last.taken) hand.put
    all_of = subst (AreOf (flat_map (λ w. (hand_of w).taken) fin.others ++ fin.last.taken)) put_is
        (subst (λ jobs. AreOf (jobs ++ fin.last.taken) (joined_hand hand (map hand_of fin.others)).put) taken_is fin.settles.among)

    others_of : AreOf (flat_map (λ w. (hand_of w).taken) fin.others) hand.put
    others_of = are_left (flat_map (λ w. (hand_of w).taken) fin.others) fin.last.taken hand.put all_of

    first_of : AreOf ((hand_of fin.first).taken ++ fin.worked.jobs) hand.put
    first_of = subst (λ jobs. AreOf jobs hand.put) fin.worked.took (are_right (flat_map (λ w. (hand_of w).taken) fin.others) fin.last.taken hand.put all_of)

    jobs_is : asks.asked.jobs ≡ hand.put
    jobs_is = sym asks.asked.puts

    -- ---- shares

    abbrev first_share : Share L
    first_share = record {
      visits = first_did.1.visits ++ fin.worked.visits;
      passes = passes_of made.first;
      after = after;
      since = readings_of made.first;
      until = now;
    }

    abbrev shares : List (Share L)
    shares = shares_of shows link_of tables passes_of hand_of links_of readings_of made.others fin.others others_did

    count : length shares ≡ length made.others
    count = shares_count shows link_of tables passes_of hand_of links_of readings_of made.others fin.others others_did

    first_links : links_back first_share ≡ fin.links
    first_links = map-append (λ (v : Visit L). v.back) first_did.1.visits fin.worked.visits
        ∙ ap (λ ls. ls ++ map (λ (v : Visit L). v.back) fin.worked.visits)
        (sym (links_are shows link_of tables passes_of hand_of links_of readings_of made.first fin.first fresh.1 first_did)) ∙ sym fin.worked.back

    all_links : flat_map links_back (first_share ∷ shares) ≡ fin.links ++ flat_map links_of fin.others
    all_links = flat_map-cons links_back first_share shares ∙ ap (λ ls. ls ++ flat_map links_back shares) first_links
        ∙ ap (λ ls. fin.links ++ ls) (shares_back shows link_of tables passes_of hand_of links_of readings_of made.others fin.others others_did fresh.0)

    links_count : length (fin.links ++ flat_map links_of fin.others) ≡ length hand.put
    links_count =
        let many : (a b : W) → Fresh a → Did a b → length (links_of b) ≡ length (hand_of b).taken =
        as_many_links shows link_of tables passes_of hand_of links_of readings_of in
        let flat = same_lengths hand_of links_of fin.others
        (pairs_new Did Fresh (λ w. length (links_of w) ≡ length (hand_of w).taken) many made.others fin.others fresh.0 others_did) in
        let mine = many made.first fin.first fresh.1 first_did in
        let links = ap length fin.worked.back ∙ length-append (links_of fin.first) (map (λ (v : Visit L). v.back) fin.worked.visits) in
        let back = length-map fin.worked.visits (λ (v : Visit L). v.back) in
        let jobs = sym (length-map fin.worked.visits (λ (v : Visit L). v.given)) ∙ ap length fin.worked.given ∙ length-map fin.worked.jobs link_of in
        let took = ap length fin.worked.took ∙ length-append (hand_of fin.first).taken fin.worked.jobs in
        let put = ap length put_is in
        let taken = ap length taken_is in
        let both = length-append (joined_hand hand (map hand_of fin.others)).taken fin.last.taken in
        let whole = length-append fin.links (flat_map links_of fin.others) in
        omega (arith, whole, flat, mine, links, back, jobs, took, put, taken, both, fin.settles.count)

    first_is : IsShare shows tables passes (map link_of hand.put) (histories_of after) first_share
    first_is =
        let taken_first = jobs_are shows link_of tables passes_of hand_of links_of readings_of made.first fin.first fresh.1 first_did in
        record {
          theirs = made.teams.theirs;
          begins = made.teams.begins;
          among = All-append (λ visit. IsAmong visit.given (map link_of hand.put)) first_did.1.visits fin.worked.visits
              (visits_among link_of first_did.1.visits first_did.1.jobs hand.put first_did.1.given
              (subst (λ jobs. AreOf jobs hand.put) taken_first (are_left (hand_of fin.first).taken fin.worked.jobs hand.put first_of)))
              (visits_among link_of fin.worked.visits fin.worked.jobs hand.put fin.worked.given (are_right (hand_of fin.first).taken fin.worked.jobs hand.put first_of));
          served = turn_then shows (plan (specs_of tables)) first_did.1.visits fin.worked.visits (passes_of made.first) (passes_of fin.first) fin.joined after
              (readings_of made.first) (readings_of fin.first) now first_did.1.in_turn sees.0 fin.worked.in_turn;
          within = goes_fronts after after (same after);
        }
      where
        same : (views : List TableView) → EachGoesOn views views
        same [] = tt
        same (view ∷ views) = (record { number = refl; bound = refl; alone = refl; fixed = refl; seen = ([], append-nil view.seen) }, same views)

    are : All (IsShare shows tables passes (map link_of hand.put) (histories_of after)) (first_share ∷ shares)
    are =
        let Was : List TableView → Type 0 = λ team. AreTheirs tables team × (histories_of team ≡ histories_of passes) × AreBeside (passes_of made.first) team in
        All-cons (IsShare shows tables passes (map link_of hand.put) (histories_of after)) first_share shares first_is
        (shares_are shows link_of tables passes_of hand_of links_of readings_of passes hand.put (histories_of after) made.others fin.others others_did fresh.0
        (All-weaker Was (λ team. AreTheirs tables team × (histories_of team ≡ histories_of passes)) (λ team is. (is.0, is.1)) (map passes_of made.others) made.teams.each) within others_of)

    differ : EachDiffers (first_share ∷ shares)
    differ =
        let Was : List TableView → Type 0 = λ team. AreTheirs tables team × (histories_of team ≡ histories_of passes) × AreBeside (passes_of made.first) team in (
          shares_first shows link_of tables passes_of hand_of links_of readings_of (Differ (passes_of made.first)) made.others fin.others others_did
              (All-weaker Was (Differ (passes_of made.first)) (λ team is. beside_differs (passes_of made.first) team is.2) (map passes_of made.others) made.teams.each),
          shares_differ shows link_of tables passes_of hand_of links_of readings_of made.others fin.others others_did made.teams.differ,
        )

    clocks : HaveClocks Clones (readings given) now (first_share ∷ shares)
    clocks = (
      ap readings made.clock,
      refl,
      shares_since shows link_of tables passes_of hand_of links_of readings_of Clones made.others fin.others others_did
          (All-weaker (λ w. is_clone given (clock_of w)) (λ w. Clones (readings_of w)) (λ w is. (clock_of w, is, refl)) made.others made.clones),
    )

    abbrev serves_all : ServesLinks shows Clones tables workers connections passes old new (readings given) now (histories_of after)
    serves_all = record {
      gave = map link_of hand.put;
      given = asks.asked.left ∙ ap (λ jobs. led (map link_of jobs) between.left) jobs_is ∙ ap (led (map link_of hand.put)) (sym fin.left);
      enough = by_number asks.enough;
      shares = first_share ∷ shares;
      few = omega (arith, count, made.count);
      handed = fin.handed ∙ ap (λ told. more told (fin.links ++ flat_map links_of fin.others)) asks.asked.handed ∙ ap (more old.handed) (sym all_links);
      as_many = ap length all_links ∙ links_count ∙ sym (length-map hand.put link_of);
      out = omega (arith, fin.out, links_count, asks.asked.out, asks.asked.count, ap length jobs_is);
      each = are;
      differ = differ;
      clocks = clocks;
      alone = λ few. refl;
    }
      where
        by_number : (asks.number ≡ connections) ⊎ Tells between.left [] → (length (map link_of hand.put) ≡ connections) ⊎ Tells new.left []
        by_number (inl is) = inl (length-map hand.put link_of ∙ sym (ap length jobs_is) ∙ asks.asked.count ∙ is)
        by_number (inr none) = inr (subst (λ told. Tells told []) (sym fin.left) none)

    pub leaves : AreAlone passes → LeavesPasses shows Clones tables workers connections passes after old new (readings given) now
    leaves alone = record {
      links = serves_all;
      alone = λ few.
          let none : length made.others ≡ 0 = omega (arith, few, count) in
          let teams : length (map passes_of made.others) ≡ 0 = length-map made.others passes_of ∙ none in
          let others : length (map passes_of fin.others) ≡ 0 = length-map fin.others passes_of ∙ pairs_length Did made.others fin.others others_did ∙ none in
          let first = first_did.0 (subst AreAlone (sym (made.teams.one teams)) alone) in
          fin.alone (subst AreAlone (sym (none_gathered (passes_of fin.first) (map passes_of fin.others) fin.joined others fin.gathered)) first);
    }
