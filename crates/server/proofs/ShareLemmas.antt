-- What each worker did is its share of the links of the door.
use Rattle.std.proofs.Common.{◌≡◌, inl, inr, suc, ◌+◌, ℤ, List, [], ◌∷◌, ◌++◌, map, length, Option, refl, sym, ap, ◌∙◌, subst, append_assoc, append-nil, length-append, arith}
use Rattle.std.specs.Prelude.{All, flat_map}
use Rattle.std.proofs.lemmas.List.{length-map}
use Rattle.std.proofs.lemmas.List.Elements.{All-nil, All-cons, All-head, All-tail}
use Rattle.std.proofs.lemmas.List.Concat.{flat_map-cons}
use Rattle.table_model.specs.History.{History}
use Rattle.job_queue.specs.declared.hands.Known.{Known}
use Rattle.job_queue.specs.Queue.{both, taker, AreOf, IsOneOf}
use Rattle.open_tables.specs.Tables.{TableView, OpenTable, AreTheirs, specs_of}
use Rattle.call_plans.specs.Plans.{plan}
use Rattle.conn_service.specs.Computed.{AreAlone, histories_of}
use Rattle.server.specs.Visits.{LinkShows, Visit}
use Rattle.server.specs.Serving.{Share, IsShare, IsAmong, AreFronts, Differ, EachDiffers, links_back}
use Rattle.server.specs.Crew.{Pairs, TeamsDiffer, joined_hand}
use Rattle.server.specs.Works.{HasWorked}

-- ---- jobs

are_split : {J : Type 0} (xs ys gave : List J) → AreOf (xs ++ ys) gave → AreOf xs gave × AreOf ys gave
are_split [] ys gave are = (tt, are)
are_split (x ∷ xs) ys gave are = let rest = are_split xs ys gave are.1 in ((are.0, rest.0), rest.1)

pub are_left : {J : Type 0} (xs ys gave : List J) → AreOf (xs ++ ys) gave → AreOf xs gave
are_left xs ys gave are = (are_split xs ys gave are).0

pub are_right : {J : Type 0} (xs ys gave : List J) → AreOf (xs ++ ys) gave → AreOf ys gave
are_right xs ys gave are = (are_split xs ys gave are).1

module _ {L J : Type 0} (link_of : J → L) where
  one_among : (job : J) (gave : List J) → IsOneOf job gave → IsAmong (link_of job) (map link_of gave)
  one_among job [] is = absurd is
  one_among job (first ∷ gave) (inl same) = inl (ap link_of same)
  one_among job (first ∷ gave) (inr is) = inr (one_among job gave is)

  pub visits_among : (visits : List (Visit L)) (jobs gave : List J) → map (λ visit. visit.given) visits ≡ map link_of jobs → AreOf jobs gave
      → All (λ visit. IsAmong visit.given (map link_of gave)) visits
  visits_among [] jobs gave same are = All-nil _
  visits_among (visit ∷ visits) [] gave same are = absurd (omega (arith, ap length same))
  visits_among (visit ∷ visits) (job ∷ jobs) gave same are =
      All-cons (λ v. IsAmong v.given (map link_of gave)) visit visits (subst (λ link. IsAmong link (map link_of gave)) (sym (head_same (ap head_of same))) (one_among job gave are.0))
      (visits_among visits jobs gave (ap tail_of same) are.1)
    where
      head_of : List L → List L
      head_of [] = []
      head_of (x ∷ xs) = x ∷ []

      tail_of : List L → List L
      tail_of [] = []
      tail_of (x ∷ xs) = xs

      head_same : {x y : L} → x ∷ [] ≡ y ∷ [] → x ≡ y
      head_same is = cc

-- ---- hands

module _ {W J : Type 0} (hand_of : W → Known J) where
  -- how many parts, by a hand each
  pub parts_joined : (v : Known J) (ws : List W) → All (λ w. (hand_of w).parts ≡ 1) ws → (joined_hand v (map hand_of ws)).parts ≡ v.parts + length ws
  parts_joined v [] each = omega arith
  parts_joined v (w ∷ ws) each =
      let rest = parts_joined (both v (hand_of w)) ws (All-tail (λ w. (hand_of w).parts ≡ 1) w ws each) in
      omega (arith, rest, All-head (λ w. (hand_of w).parts ≡ 1) w ws each)

  pub puts_joined : (v : Known J) (ws : List W) → (joined_hand v (map hand_of ws)).puts ≡ v.puts
  puts_joined v [] = refl
  puts_joined v (w ∷ ws) = puts_joined (both v (hand_of w)) ws

  pub put_joined : (v : Known J) (ws : List W) → (joined_hand v (map hand_of ws)).put ≡ v.put
  put_joined v [] = refl
  put_joined v (w ∷ ws) = put_joined (both v (hand_of w)) ws

  pub taken_joined : (v : Known J) (ws : List W) → (joined_hand v (map hand_of ws)).taken ≡ v.taken ++ flat_map (λ w. (hand_of w).taken) ws
  taken_joined v [] = sym (append-nil v.taken)
  taken_joined v (w ∷ ws) =
      taken_joined (both v (hand_of w)) ws ∙ append_assoc v.taken (hand_of w).taken (flat_map (λ w. (hand_of w).taken) ws)
      ∙ ap (λ t. v.taken ++ t) (sym (flat_map-cons (λ w. (hand_of w).taken) w ws))

  pub same_lengths : {L : Type 0} (links_of : W → List L) (ws : List W) → All (λ w. length (links_of w) ≡ length (hand_of w).taken) ws
      → length (flat_map links_of ws) ≡ length (flat_map (λ w. (hand_of w).taken) ws)
  same_lengths links_of [] each = refl
  same_lengths links_of (w ∷ ws) each =
      let rest = same_lengths links_of ws (All-tail (λ w. length (links_of w) ≡ length (hand_of w).taken) w ws each) in
      let head = All-head (λ w. length (links_of w) ≡ length (hand_of w).taken) w ws each in
      ap length (flat_map-cons links_of w ws) ∙ length-append (links_of w) (flat_map links_of ws) ∙ ap (λ n. n + length (flat_map links_of ws)) head
      ∙ ap (λ n. length (hand_of w).taken + n) rest
      ∙ sym (ap length (flat_map-cons (λ w. (hand_of w).taken) w ws) ∙ length-append (hand_of w).taken (flat_map (λ w. (hand_of w).taken) ws))

-- ---- pairs

module _ {A B : Type 0} (P : A → B → Type 0) where
  pub pairs_weaker : (Q : A → B → Type 0) → ((a : A) (b : B) → P a b → Q a b) → (olds : List A) (news : List B) → Pairs P olds news → Pairs Q olds news
  pairs_weaker Q to [] [] ps = tt
  pairs_weaker Q to [] (b ∷ news) ps = absurd ps
  pairs_weaker Q to (a ∷ olds) [] ps = absurd ps
  pairs_weaker Q to (a ∷ olds) (b ∷ news) ps = (to a b ps.0, pairs_weaker Q to olds news ps.1)

  -- what the new ones have, where the old ones have it
  pub pairs_new : (R : A → Type 0) (S : B → Type 0) → ((a : A) (b : B) → R a → P a b → S b) → (olds : List A) (news : List B) → All R olds → Pairs P olds news → All S news
  pairs_new R S to [] [] all ps = All-nil S
  pairs_new R S to [] (b ∷ news) all ps = absurd ps
  pairs_new R S to (a ∷ olds) [] all ps = absurd ps
  pairs_new R S to (a ∷ olds) (b ∷ news) all ps = All-cons S b news (to a b (All-head R a olds all) ps.0) (pairs_new R S to olds news (All-tail R a olds all) ps.1)

  pub pairs_length : (olds : List A) (news : List B) → Pairs P olds news → length news ≡ length olds
  pairs_length [] [] ps = refl
  pairs_length [] (b ∷ news) ps = absurd ps
  pairs_length (a ∷ olds) [] ps = absurd ps
  pairs_length (a ∷ olds) (b ∷ news) ps = ap suc (pairs_length olds news ps.1)

  no_pairs : (news : List B) (b : B) → Pairs P [] (news ++ b ∷ []) → ⊥
  no_pairs [] b ps = ps
  no_pairs (x ∷ news) b ps = ps

  few_pairs : (olds : List A) (a : A) → Pairs P (olds ++ a ∷ []) [] → ⊥
  few_pairs [] a ps = ps
  few_pairs (x ∷ olds) a ps = ps

  pub pairs_last : (olds : List A) (a : A) (news : List B) (b : B) → Pairs P (olds ++ a ∷ []) (news ++ b ∷ []) → Pairs P olds news × P a b
  pairs_last [] a [] b ps = (tt, ps.0)
  pairs_last [] a (x ∷ news) b ps = absurd (no_pairs news b ps.1)
  pairs_last (x ∷ olds) a [] b ps = absurd (few_pairs olds a ps.1)
  pairs_last (x ∷ olds) a (y ∷ news) b ps = let rest = pairs_last olds a news b ps.1 in ((ps.0, rest.0), rest.1)

-- ---- shares

module _ {W L J : Type 0} (shows : L → LinkShows) (link_of : J → L) (tables : List OpenTable) (passes_of : W → List TableView) (hand_of : W → Known J) (links_of : W → List L)
    (readings_of : W → Option (List ℤ)) where
  -- what a worker did on its thread
  abbrev pub Worked : W → W → Type 0
  Worked old new = (AreAlone (passes_of old) → AreAlone (passes_of new))
      × HasWorked shows link_of (plan (specs_of tables)) (passes_of old) (passes_of new) (readings_of old) (readings_of new) (links_of old) (links_of new) (hand_of old).taken (hand_of new).taken

  -- a worker that did nothing yet
  abbrev pub IsFresh : W → Type 0
  IsFresh worker = (hand_of worker ≡ taker) × (links_of worker ≡ [])

  pub links_are : (old new : W) → IsFresh old → (w : Worked old new) → links_of new ≡ map (λ (v : Visit L). v.back) w.1.visits
  links_are old new fresh w = w.1.back ∙ ap (λ ls. ls ++ map (λ (v : Visit L). v.back) w.1.visits) fresh.1

  pub jobs_are : (old new : W) → IsFresh old → (w : Worked old new) → (hand_of new).taken ≡ w.1.jobs
  jobs_are old new fresh w = w.1.took ∙ ap (λ h. h.taken ++ w.1.jobs) fresh.0

  pub as_many_links : (old new : W) → IsFresh old → Worked old new → length (links_of new) ≡ length (hand_of new).taken
  as_many_links old new fresh w =
      ap length (links_are old new fresh w) ∙ length-map w.1.visits (λ (v : Visit L). v.back) ∙ sym (length-map w.1.visits (λ (v : Visit L). v.given)) ∙ ap length w.1.given
      ∙ length-map w.1.jobs link_of ∙ sym (ap length (jobs_are old new fresh w))

  abbrev pub shares_of : (olds news : List W) → Pairs Worked olds news → List (Share L)
  shares_of [] [] ps = []
  shares_of [] (new ∷ news) ps = []
  shares_of (old ∷ olds) [] ps = []
  shares_of (old ∷ olds) (new ∷ news) ps =
      record { visits = ps.0.1.visits; passes = passes_of old; after = passes_of new; since = readings_of old; until = readings_of new } ∷ shares_of olds news ps.1

  pub shares_count : (olds news : List W) (ps : Pairs Worked olds news) → length (shares_of olds news ps) ≡ length olds
  shares_count [] [] ps = refl
  shares_count [] (new ∷ news) ps = absurd ps
  shares_count (old ∷ olds) [] ps = absurd ps
  shares_count (old ∷ olds) (new ∷ news) ps = ap suc (shares_count olds news ps.1)

  pub shares_back : (olds news : List W) (ps : Pairs Worked olds news) → All IsFresh olds → flat_map links_back (shares_of olds news ps) ≡ flat_map links_of news
  shares_back [] [] ps fresh = refl
  shares_back [] (new ∷ news) ps fresh = absurd ps
  shares_back (old ∷ olds) [] ps fresh = absurd ps
  shares_back (old ∷ olds) (new ∷ news) ps fresh =
      let share : Share L = record { visits = ps.0.1.visits; passes = passes_of old; after = passes_of new; since = readings_of old; until = readings_of new } in
      flat_map-cons links_back share (shares_of olds news ps.1)
      ∙ ap (λ ls. ls ++ flat_map links_back (shares_of olds news ps.1)) (sym (links_are old new (All-head IsFresh old olds fresh) ps.0))
      ∙ ap (λ ls. links_of new ++ ls) (shares_back olds news ps.1 (All-tail IsFresh old olds fresh))
      ∙ sym (flat_map-cons links_of new news)

  -- what holds of the passes and readings at first of each
  pub shares_first : (P : List TableView → Type 0) (olds news : List W) (ps : Pairs Worked olds news) → All P (map passes_of olds) → All (λ share. P share.passes) (shares_of olds news ps)
  shares_first P [] [] ps all = All-nil _
  shares_first P [] (new ∷ news) ps all = absurd ps
  shares_first P (old ∷ olds) [] ps all = absurd ps
  shares_first P (old ∷ olds) (new ∷ news) ps all =
      let share : Share L = record { visits = ps.0.1.visits; passes = passes_of old; after = passes_of new; since = readings_of old; until = readings_of new } in
      All-cons (λ s. P s.passes) share (shares_of olds news ps.1) (All-head P (passes_of old) (map passes_of olds) all)
      (shares_first P olds news ps.1 (All-tail P (passes_of old) (map passes_of olds) all))

  pub shares_since : (P : Option (List ℤ) → Type 0) (olds news : List W) (ps : Pairs Worked olds news) → All (λ old. P (readings_of old)) olds → All (λ share. P share.since) (shares_of olds news ps)
  shares_since P [] [] ps all = All-nil _
  shares_since P [] (new ∷ news) ps all = absurd ps
  shares_since P (old ∷ olds) [] ps all = absurd ps
  shares_since P (old ∷ olds) (new ∷ news) ps all =
      let share : Share L = record { visits = ps.0.1.visits; passes = passes_of old; after = passes_of new; since = readings_of old; until = readings_of new } in
      All-cons (λ s. P s.since) share (shares_of olds news ps.1) (All-head (λ old. P (readings_of old)) old olds all)
      (shares_since P olds news ps.1 (All-tail (λ old. P (readings_of old)) old olds all))

  pub shares_differ : (olds news : List W) (ps : Pairs Worked olds news) → TeamsDiffer (map passes_of olds) → EachDiffers (shares_of olds news ps)
  shares_differ [] [] ps differ = tt
  shares_differ [] (new ∷ news) ps differ = absurd ps
  shares_differ (old ∷ olds) [] ps differ = absurd ps
  shares_differ (old ∷ olds) (new ∷ news) ps differ = (shares_first (Differ (passes_of old)) olds news ps.1 differ.0, shares_differ olds news ps.1 differ.1)

  module _ (passes : List TableView) (gave : List J) (histories : List History) where
    pub shares_are : (olds news : List W) (ps : Pairs Worked olds news) → All IsFresh olds → All (λ team. AreTheirs tables team × (histories_of team ≡ histories_of passes)) (map passes_of olds)
        → All (λ team. AreFronts (histories_of team) histories) (map passes_of news) → AreOf (flat_map (λ new. (hand_of new).taken) news) gave
        → All (IsShare shows tables passes (map link_of gave) histories) (shares_of olds news ps)
    shares_are [] [] ps fresh begins within are = All-nil _
    shares_are [] (new ∷ news) ps fresh begins within are = absurd ps
    shares_are (old ∷ olds) [] ps fresh begins within are = absurd ps
    shares_are (old ∷ olds) (new ∷ news) ps fresh begins within are =
        let Begins : List TableView → Type 0 = λ team. AreTheirs tables team × (histories_of team ≡ histories_of passes) in
        let Within : List TableView → Type 0 = λ team. AreFronts (histories_of team) histories in
        let share : Share L = record { visits = ps.0.1.visits; passes = passes_of old; after = passes_of new; since = readings_of old; until = readings_of new } in
        let mine = All-head IsFresh old olds fresh in
        let begun = All-head Begins (passes_of old) (map passes_of olds) begins in
        let split = subst (λ jobs. AreOf jobs gave) (flat_map-cons (λ new. (hand_of new).taken) new news) are in
        let taken = flat_map (λ (n : W). (hand_of n).taken) news in
        let is : IsShare shows tables passes (map link_of gave) histories share = record {
          theirs = begun.0;
          begins = begun.1;
          among = visits_among link_of ps.0.1.visits ps.0.1.jobs gave ps.0.1.given (subst (λ jobs. AreOf jobs gave) (jobs_are old new mine ps.0) (are_left (hand_of new).taken taken gave split));
          served = ps.0.1.in_turn;
          within = All-head Within (passes_of new) (map passes_of news) within;
        } in
        All-cons (IsShare shows tables passes (map link_of gave) histories) share (shares_of olds news ps.1) is
        (shares_are olds news ps.1 (All-tail IsFresh old olds fresh) (All-tail Begins (passes_of old) (map passes_of olds) begins)
        (All-tail Within (passes_of new) (map passes_of news) within) (are_right (hand_of new).taken taken gave split))
