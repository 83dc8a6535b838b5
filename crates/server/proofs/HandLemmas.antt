-- Links that are handed back, and workers that are joined, one after another.
use Rattle.std.proofs.Common.{◌≡◌, ℕ, ◌+◌, ◌≤◌, List, [], ◌∷◌, ◌++◌, map, length, Option, refl, sym, ap, ◌∙◌, subst, append_assoc, append-nil, length-append, arith}
use Rattle.std.specs.Prelude.{flat_map}
use Rattle.std.proofs.lemmas.List.{map-append}
use Rattle.std.proofs.lemmas.List.Concat.{flat_map-cons}
use Rattle.links.specs.Told.{more}
use Rattle.links.proofs.ToldLemmas.{more-nil, more-more}
use Rattle.job_queue.specs.declared.hands.Known.{Known}
use Rattle.job_queue.specs.Queue.{both}
use Rattle.open_tables.specs.Tables.{TableView, OpenTable, AreTheirs}
use Rattle.server.specs.Splits.{AreSplit, AreJoined, AreGathered}
use Rattle.server.specs.Crew.{AreTeams, joined_hand}
use Rattle.server.proofs.TeamLemmas.{one_team, more_teams}

-- ---- links that are handed back

-- Of these links some were handed back: the rest would be handed back behind them.
pub record Handing {L : Type 0} (links rest : List L) (left0 left handed0 handed : Option (List L)) (out0 out faults0 faults : ℕ) : Type 0 where
  pub same_left : left ≡ left0
  pub then : more handed rest ≡ more handed0 links
  pub count : out + length links ≡ out0 + length rest
  pub within : length links ≤ out0
  pub same_faults : faults ≡ faults0

module _ {L : Type 0} (links : List L) (left0 handed0 : Option (List L)) (out0 faults0 : ℕ) where
  pub none_handed : (rest : List L) → rest ≡ links → length links ≤ out0 → Handing links rest left0 left0 handed0 handed0 out0 out0 faults0 faults0
  none_handed rest same within = record { same_left = refl; then = ap (more handed0) same; count = omega (arith, ap length same); within = within; same_faults = refl }

  module _ (rest : List L) (left handed : Option (List L)) (out faults : ℕ) (some rest' : List L) (rest_is : rest ≡ some ++ rest') where
    pub room_for : Handing links rest left0 left handed0 handed out0 out faults0 faults → length some ≤ out
    room_for h = let l = ap length rest_is ∙ length-append some rest' in omega (arith, h.count, h.within, l)

    pub some_handed : (left' handed' : Option (List L)) (out' faults' : ℕ) → left' ≡ left → handed' ≡ more handed some → out' + length some ≡ out → faults' ≡ faults
        → Handing links rest left0 left handed0 handed out0 out faults0 faults → Handing links rest' left0 left' handed0 handed' out0 out' faults0 faults'
    some_handed left' handed' out' faults' left_is handed_is out_is faults_is h =
        let l = ap length rest_is ∙ length-append some rest' in
        record {
          same_left = left_is ∙ h.same_left;
          then = ap (λ told. more told rest') handed_is ∙ more-more handed some rest' ∙ ap (more handed) (sym rest_is) ∙ h.then;
          count = omega (arith, l, h.count, out_is);
          within = h.within;
          same_faults = faults_is ∙ h.same_faults;
        }

  pub all_handed : (rest : List L) (left handed : Option (List L)) (out faults : ℕ) → rest ≡ [] → Handing links rest left0 left handed0 handed out0 out faults0 faults
      → (left ≡ left0) × (handed ≡ more handed0 links) × (out + length links ≡ out0) × (faults ≡ faults0)
  all_handed rest left handed out faults none h =
      (h.same_left, sym (more-nil handed) ∙ ap (more handed) (sym none) ∙ h.then, omega (arith, h.count, ap length none), h.same_faults)

-- the first of several lists, and the rest
pub first_list : {V L : Type 0} (items : V → List L) (lists : List V) (list : V) (rest : List V) → lists ≡ list ∷ rest → flat_map items lists ≡ items list ++ flat_map items rest
first_list items lists list rest is = ap (flat_map items) is ∙ flat_map-cons items list rest

pub no_lists : {V L : Type 0} (items : V → List L) (lists : List V) → length lists ≡ 0 → flat_map items lists ≡ []
no_lists items [] none = refl
no_lists items (x ∷ lists) none = absurd (omega (arith, none))

pub no_rest : {X : Type 0} (xs : List X) → length xs ≡ 0 → xs ≡ []
no_rest [] none = refl
no_rest (x ∷ xs) none = absurd (omega (arith, none))

-- ---- workers that are joined

module _ {W V L J : Type 0} (passes_of : W → List TableView) (hand_of : W → Known J) (links_of : W → List L) (items : V → List L) where
  -- Some of the others were joined to the first: whatever the rest makes of that, all make of the first.
  pub record Gathering (first : List TableView) (others rest : List W) (passes : List TableView) (lists : List V) (hand0 hand : Known J) : Type 0 where
    pub joins : (after : List TableView) → AreGathered passes (map passes_of rest) after → AreGathered first (map passes_of others) after
    pub kept : map items lists ++ map links_of rest ≡ map links_of others
    pub hands : joined_hand hand (map hand_of rest) ≡ joined_hand hand0 (map hand_of others)

  pub none_gathered : (first : List TableView) (others rest : List W) (lists : List V) (hand : Known J) → rest ≡ others → lists ≡ [] → Gathering first others rest first lists hand hand
  none_gathered first others rest lists hand same none =
      let begun : Gathering first others others first [] hand hand = record { joins = λ after are. are; kept = refl; hands = refl } in
      subst (λ r. Gathering first others r first lists hand hand) (sym same) (subst (λ ls. Gathering first others others first ls hand hand) (sym none) begun)

  pub one_gathered : (first : List TableView) (others rest : List W) (passes : List TableView) (lists : List V) (hand0 hand : Known J) (worker : W) (rest' : List W) → rest ≡ worker ∷ rest'
      → (passes' : List TableView) (list : V) (lists' : List V) (hand' : Known J) → AreJoined passes (passes_of worker) passes' → items list ≡ links_of worker → lists' ≡ lists ++ list ∷ []
      → hand' ≡ both hand (hand_of worker) → Gathering first others rest passes lists hand0 hand → Gathering first others rest' passes' lists' hand0 hand'
  one_gathered first others rest passes lists hand0 hand worker rest' rest_is passes' list lists' hand' joined list_is lists_is hand_is g = record {
    joins = λ after are. g.joins after (subst (λ ws. AreGathered passes (map passes_of ws) after) (sym rest_is) (passes', joined, are));
    kept = ap (λ ls. map items ls ++ map links_of rest') lists_is ∙ ap (λ ls. ls ++ map links_of rest') (map-append items lists (list ∷ []))
        ∙ append_assoc (map items lists) (items list ∷ []) (map links_of rest') ∙ ap (λ l. map items lists ++ l ∷ map links_of rest') list_is
        ∙ ap (λ ws. map items lists ++ map links_of ws) (sym rest_is) ∙ g.kept;
    hands = ap (λ h. joined_hand h (map hand_of rest')) hand_is ∙ ap (λ ws. joined_hand hand (map hand_of ws)) (sym rest_is) ∙ g.hands;
  }

  pub all_gathered : (first : List TableView) (others rest : List W) (passes : List TableView) (lists : List V) (hand0 hand : Known J) → rest ≡ []
      → Gathering first others rest passes lists hand0 hand
      → AreGathered first (map passes_of others) passes × (map items lists ≡ map links_of others) × (hand ≡ joined_hand hand0 (map hand_of others))
  all_gathered first others rest passes lists hand0 hand none g = (
    g.joins passes (subst (λ ws. AreGathered passes (map passes_of ws) passes) (sym none) refl),
    sym (append-nil (map items lists)) ∙ ap (λ ws. map items lists ++ map links_of ws) (sym none) ∙ g.kept,
    ap (λ ws. joined_hand hand (map hand_of ws)) (sym none) ∙ g.hands,
  )

-- ---- workers that are made

pub one_maker : {W : Type 0} (passes_of : W → List TableView) (tables : List OpenTable) (passes : List TableView) (others : List W) → others ≡ [] → AreTheirs tables passes
    → AreTeams tables passes passes (map passes_of others)
one_maker passes_of tables passes others none theirs = subst (λ ws. AreTeams tables passes passes (map passes_of ws)) (sym none) (one_team tables passes theirs)

pub more_made : {W : Type 0} (passes_of : W → List TableView) (tables : List OpenTable) (passes first left right : List TableView) (others others' : List W) (worker : W)
    → others' ≡ others ++ worker ∷ [] → passes_of worker ≡ right → AreSplit first left right → AreTheirs tables left → AreTheirs tables right
    → AreTeams tables passes first (map passes_of others) → AreTeams tables passes left (map passes_of others')
more_made passes_of tables passes first left right others others' worker is mine split l r teams =
    subst (AreTeams tables passes left) (sym (ap (map passes_of) is ∙ map-append passes_of others (worker ∷ []) ∙ ap (λ team. map passes_of others ++ team ∷ []) mine))
    (more_teams tables passes first left right (map passes_of others) split l r teams)
