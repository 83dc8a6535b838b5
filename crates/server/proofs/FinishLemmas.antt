-- The workers that are made, and what they and their hands count once they have stopped.
use Rattle.std.proofs.Common.{◌≡◌, ℕ, ◌+◌, ◌-◌, ◌<◌, ◌≤◌, ℤ, true, false, List, [], ◌∷◌, ◌++◌, map, length, Option, refl, sym, ap, ◌∙◌, subst, length-append, arith}
use Rattle.std.specs.Prelude.{All, flat_map, Result, Ok, IfOk}
use Rattle.std.proofs.lemmas.List.{length-map}
use Rattle.std.proofs.lemmas.List.Elements.{All-nil, All-cons, All-head, All-tail, All-push, All-same, All-weaker}
use Rattle.std.proofs.lemmas.List.Concat.{flat_map-cons}
use Rattle.job_queue.specs.declared.hands.Known.{Known}
use Rattle.job_queue.specs.Queue.{both, taker, Settles}
use Rattle.open_tables.specs.Tables.{TableView, OpenTable, AreTheirs, specs_of}
use Rattle.call_plans.specs.Plans.{plan}
use Rattle.conn_service.specs.Computed.{AreAlone, histories_of}
use Rattle.conn_service.specs.Served.{Planning}
use Rattle.server.specs.Visits.{LinkShows, Visit}
use Rattle.server.specs.declared.faults.ServeFault.{ServeFault}
use Rattle.server.specs.Serving.{DoorShows}
use Rattle.server.specs.Asks.{AsksAll}
use Rattle.server.specs.Works.{HasWorked}
use Rattle.server.specs.Crew.{Pairs, AreBeside, AreTeams, joined_hand}
use Rattle.server.specs.Finish.{IsCrew}
use Rattle.server.proofs.ShareLemmas.{Worked, IsFresh, as_many_links, pairs_new, pairs_length, pairs_weaker, parts_joined, puts_joined, put_joined, taken_joined, same_lengths}

-- ---- lists

pub all_both : {X : Type 0} (P Q : X → Type 0) (xs : List X) → All P xs → All Q xs → All (λ x. P x × Q x) xs
all_both P Q [] p q = All-nil _
all_both P Q (x ∷ xs) p q = All-cons (λ x. P x × Q x) x xs (All-head P x xs p, All-head Q x xs q) (all_both P Q xs (All-tail P x xs p) (All-tail Q x xs q))

pub all_of_map : {X Y : Type 0} (P : Y → Type 0) (f : X → Y) (xs : List X) → All P (map f xs) → All (λ x. P (f x)) xs
all_of_map P f [] all = All-nil _
all_of_map P f (x ∷ xs) all = All-cons (λ x. P (f x)) x xs (All-head P (f x) (map f xs) all) (all_of_map P f xs (All-tail P (f x) (map f xs) all))

flat_is : {X L : Type 0} (f : X → List L) (xs : List X) → flat_map f xs ≡ flat_map (λ l. l) (map f xs)
flat_is f [] = refl
flat_is f (x ∷ xs) = flat_map-cons f x xs ∙ ap (λ ls. f x ++ ls) (flat_is f xs) ∙ sym (flat_map-cons (λ l. l) (f x) (map f xs))

pub same_flat : {X Y L : Type 0} (f : X → List L) (g : Y → List L) (xs : List X) (ys : List Y) → map f xs ≡ map g ys → flat_map f xs ≡ flat_map g ys
same_flat f g xs ys same = flat_is f xs ∙ ap (flat_map (λ l. l)) same ∙ sym (flat_is g ys)

-- ---- workers that are made

module _ {W L J C : Type 0} (passes_of : W → List TableView) (hand_of : W → Known J) (links_of : W → List L) (clock_of : W → C) (is_clone : C → C → Type 0) (given : C) (tables : List OpenTable)
    (workers : ℕ) (passes : List TableView) (crew : List W) where
  pub made_crew : (others : List W) (first : W) (count : ℕ) → crew ≡ others ++ first ∷ [] → 0 < workers → count ≡ workers - 1 → count ≡ length others
      → AreTeams tables passes (passes_of first) (map passes_of others) → clock_of first ≡ given → All (λ w. is_clone given (clock_of w)) others
      → All (λ w. (hand_of w ≡ taker) × (links_of w ≡ [])) others → hand_of first ≡ taker → links_of first ≡ []
      → IsCrew passes_of hand_of links_of clock_of is_clone given tables workers passes crew
  made_crew others first count is some count_is length_is teams clock clones fresh hand links = record {
    others = others;
    first = first;
    is = is;
    count = omega (arith, some, count_is, length_is);
    teams = teams;
    clock = clock;
    clones = clones;
    new = All-same (λ w. (hand_of w ≡ taker) × (links_of w ≡ [])) crew (others ++ first ∷ []) is (All-push (λ w. (hand_of w ≡ taker) × (links_of w ≡ [])) others first fresh (hand, links));
  }

  module _ (made : IsCrew passes_of hand_of links_of clock_of is_clone given tables workers passes crew) where
    pub crew_length : length crew ≡ workers
    crew_length = ap length made.is ∙ length-append made.others (made.first ∷ []) ∙ made.count

    crew_theirs : All (λ w. AreTheirs tables (passes_of w)) crew
    crew_theirs =
        let P : W → Type 0 = λ w. AreTheirs tables (passes_of w) in
        let Was : List TableView → Type 0 = λ team. AreTheirs tables team × (histories_of team ≡ histories_of passes) × AreBeside (passes_of made.first) team in
        All-same P crew (made.others ++ made.first ∷ []) made.is (All-push P made.others made.first
        (All-weaker (λ w. Was (passes_of w)) P (λ w was. was.0) made.others (all_of_map Was passes_of made.others made.teams.each)) made.teams.theirs)

    pub crew_ready : (Q : W → Type 0) → All Q crew → All (λ w. AreTheirs tables (passes_of w) × Q w × (0 < (hand_of w).parts)) crew
    crew_ready Q mine =
        let Fresh : W → Type 0 = λ w. (hand_of w ≡ taker) × (links_of w ≡ []) in
        let Theirs : W → Type 0 = λ w. AreTheirs tables (passes_of w) in
        let one : (w : W) → hand_of w ≡ taker → 0 < (hand_of w).parts = λ w is. let parts = ap (λ (h : Known J). h.parts) is in omega (arith, parts) in
        let Both : W → Type 0 = λ w. Q w × (0 < (hand_of w).parts) in
        All-weaker (λ w. Theirs w × Both w) (λ w. Theirs w × Q w × (0 < (hand_of w).parts)) (λ w is. (is.0, is.1.0, is.1.1)) crew
        (all_both Theirs Both crew crew_theirs (all_both Q (λ w. 0 < (hand_of w).parts) crew mine (All-weaker Fresh (λ w. 0 < (hand_of w).parts) (λ w is. one w is.0) crew made.new)))

-- ---- workers that have stopped

pub ok_of : {X E : Type 0} (r : Result X E) (P : X → Type 0) (x : X) → r ≡ Ok x → IfOk r P → P x
ok_of r P x is holds = subst (λ q. IfOk q P) is holds

pub asks_ok : {L J : Type 0} (link_of : J → L) (old new : DoorShows L) (put0 put : List J) (connections : ℕ) (r : Result (Unit {0}) ServeFault) (x : Unit {0}) → r ≡ Ok x → put0 ≡ []
    → AsksAll link_of old new put0 put connections r → AsksAll link_of old new [] put connections (Ok tt)
asks_ok link_of old new put0 put connections r x is none asks =
    subst (λ q. AsksAll link_of old new [] put connections q) is (subst (λ p. AsksAll link_of old new p put connections r) none asks)

module _ {W L J C : Type 0} (shows : L → LinkShows) (link_of : J → L) (passes_of : W → List TableView) (hand_of : W → Known J) (links_of : W → List L) (clock_of : W → C) (readings : C → Option (List ℤ))
    (is_clone : C → C → Type 0) (given : C) (tables : List OpenTable) (workers : ℕ) (passes : List TableView) (crew crew' : List W) (Q : W → Type 0)
    (made : IsCrew passes_of hand_of links_of clock_of is_clone given tables workers passes crew) where
  abbrev Stopped : W → W → Type 0
  Stopped old new = AreTheirs tables (passes_of new) × Q new × ((hand_of new).parts ≡ (hand_of old).parts) × ((hand_of new).puts ≡ (hand_of old).puts)
      × (AreAlone (passes_of old) → AreAlone (passes_of new))
      × HasWorked shows link_of (plan (specs_of tables)) (passes_of old) (passes_of new) (readings (clock_of old)) (readings (clock_of new)) (links_of old) (links_of new)
      (hand_of old).taken (hand_of new).taken

  abbrev Fresh : W → Type 0
  Fresh = IsFresh shows link_of tables passes_of hand_of links_of (λ w. readings (clock_of w))

  abbrev Did : W → W → Type 0
  Did = Worked shows link_of tables passes_of hand_of links_of (λ w. readings (clock_of w))

  module _ (stopped : Pairs Stopped crew crew') where
    after_all : (S : W → Type 0) → ((a b : W) → Fresh a → Stopped a b → S b) → All S crew'
    after_all S to = pairs_new Stopped Fresh S to crew crew' made.new stopped

    pub after_theirs : All (λ w. AreTheirs tables (passes_of w)) crew'
    after_theirs = after_all (λ w. AreTheirs tables (passes_of w)) (λ a b fresh is. is.0)

    pub after_hands : All Q crew'
    after_hands = after_all Q (λ a b fresh is. is.1)

    pub after_takers : All (λ w. (hand_of w).puts ≡ false) crew'
    after_takers = after_all (λ w. (hand_of w).puts ≡ false) (λ a b fresh is. is.3 ∙ ap (λ (h : Known J). h.puts) fresh.0)

    pub after_parts : All (λ w. (hand_of w).parts ≡ 1) crew'
    after_parts = after_all (λ w. (hand_of w).parts ≡ 1) (λ a b fresh is. is.2 ∙ ap (λ (h : Known J). h.parts) fresh.0)

    pub after_links : All (λ w. length (links_of w) ≡ length (hand_of w).taken) crew'
    after_links = after_all (λ w. length (links_of w) ≡ length (hand_of w).taken)
        (λ a b fresh is. as_many_links shows link_of tables passes_of hand_of links_of (λ w. readings (clock_of w)) a b fresh (is.4, is.5))

    pub after_length : length crew' ≡ workers
    after_length = pairs_length Stopped crew crew' stopped ∙ crew_length passes_of hand_of links_of clock_of is_clone given tables workers passes crew made

    pub after_did : Pairs Did crew crew'
    after_did = pairs_weaker Stopped Did (λ a b is. (is.4, is.5)) crew crew' stopped

-- ---- what is counted

pub worked_length : {L J : Type 0} (shows : L → LinkShows) (link_of : J → L) (plan : Planning) (passes after : List TableView) (since until : Option (List ℤ)) (links0 links : List L) (taken0 taken : List J)
    → HasWorked shows link_of plan passes after since until links0 links taken0 taken → length links0 ≡ length taken0 → length links ≡ length taken
worked_length {L} shows link_of plan passes after since until links0 links taken0 taken w same =
    let back = ap length w.back ∙ length-append links0 (map (λ (v : Visit L). v.back) w.visits) in
    let visits = length-map w.visits (λ (v : Visit L). v.back) in
    let jobs = sym (length-map w.visits (λ (v : Visit L). v.given)) ∙ ap length w.given ∙ length-map w.jobs link_of in
    let took = ap length w.took ∙ length-append taken0 w.jobs in
    omega (arith, same, back, visits, jobs, took)

module _ {W J : Type 0} (hand_of : W → Known J) (others : List W) (hand joined : Known J) where
  module _ (joined_is : joined ≡ joined_hand hand (map hand_of others)) where
    pub some_parts : All (λ w. (hand_of w).parts ≡ 1) others → 0 < hand.parts → 0 < joined.parts
    some_parts each some = let parts = ap (λ (h : Known J). h.parts) joined_is ∙ parts_joined hand_of hand others each in omega (arith, parts, some)

  module _ (last whole : Known J) (joined_is : joined ≡ joined_hand hand (map hand_of others)) (whole_is : whole ≡ both joined last) where
    pub whole_parts : (n m : ℕ) → All (λ w. (hand_of w).parts ≡ 1) others → last.parts ≡ 1 → n ≡ length others + 1 → m ≡ hand.parts + n → whole.parts ≡ m
    whole_parts n m each one n_is m_is =
        let parts = ap (λ (h : Known J). h.parts) joined_is ∙ parts_joined hand_of hand others each in
        let all = ap (λ (h : Known J). h.parts) whole_is in
        omega (arith, parts, all, one, n_is, m_is)

    pub whole_puts : hand.puts ≡ true → whole.puts ≡ true
    whole_puts may = ap (λ (h : Known J). h.puts) whole_is ∙ ap (λ (h : Known J). h.puts) joined_is ∙ puts_joined hand_of hand others ∙ may

    pub whole_links : {L : Type 0} (links_of : W → List L) (links : List L) (left : ℕ) → hand.taken ≡ [] → length links ≡ length last.taken
        → All (λ w. length (links_of w) ≡ length (hand_of w).taken) others → Settles whole left → length links + length (flat_map links_of others) ≤ length hand.put
    whole_links links_of links left none mine each settles =
        let put = ap (λ (h : Known J). length h.put) whole_is ∙ ap (λ (h : Known J). length h.put) joined_is ∙ ap length (put_joined hand_of hand others) in
        let taken = ap (λ (h : Known J). length h.taken) whole_is ∙ length-append joined.taken last.taken in
        let gathered = ap (λ (h : Known J). length h.taken) joined_is ∙ ap length (taken_joined hand_of hand others) ∙ ap (λ (t : List J). length (t ++ flat_map (λ w. (hand_of w).taken) others)) none in
        let flat = same_lengths hand_of links_of others each in
        omega (arith, put, taken, gathered, flat, mine, settles.count)

    pub whole_settles : (left : ℕ) → left ≡ 0 → Settles whole left → Settles (both (joined_hand hand (map hand_of others)) last) 0
    whole_settles left none settles =
        subst (λ (h : Known J). Settles h 0) (whole_is ∙ ap (λ (h : Known J). both h last) joined_is) (subst (Settles whole) none settles)
