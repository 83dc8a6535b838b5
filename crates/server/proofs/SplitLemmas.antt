-- The passes of all tables, split or joined one after another.
use Rattle.std.proofs.Common.{◌≡◌, ◌⊎◌, inl, inr, ℕ, zero, suc, ◌+◌, ◌<◌, List, [], ◌∷◌, ◌++◌, length, refl, sym, ap, ◌∙◌, subst, append_assoc, append-nil, length-append, arith, IfSome}
use Rattle.std.specs.Prelude.{slice_get}
use Rattle.column_types.specs.declared.column.Column.{Column}
use Rattle.turn_table.specs.View.{Home, IsOf, Splits, Joins}
use Rattle.open_tables.specs.Tables.{TableView, OpenTable, AreTheirs}
use Rattle.open_tables.specs.Plans.{caller_in}
use Rattle.server.specs.Splits.{AreSplit, AreJoined}

-- ---- the table at a place

at_place : (front rest : List OpenTable) (table : OpenTable) (turn : Home (List Column)) (n : ℕ) → n ≡ length front
    → IfSome (slice_get (front ++ table ∷ rest) n) (λ t. t.1 ≡ turn) → table.1 ≡ turn
at_place [] rest table turn zero is has = has
at_place [] rest table turn (suc n) is has = absurd (omega (arith, is))
at_place (x ∷ front) rest table turn zero is has = absurd (omega (arith, is))
at_place (x ∷ front) rest table turn (suc n) is has = at_place front rest table turn n (omega (arith, is)) has

-- the tables that are left, of which the first is the pass's
pub record Next (rest : List OpenTable) (pass : TableView) (others : List TableView) : Type 0 where
  pub table : OpenTable
  pub then : List OpenTable
  pub is : rest ≡ table ∷ then
  pub mine : IsOf table.1 pass
  pub theirs : AreTheirs then others

next_of : (rest : List OpenTable) (pass : TableView) (others : List TableView) → AreTheirs rest (pass ∷ others) → Next rest pass others
next_of [] pass others theirs = absurd theirs
next_of (table ∷ rest) pass others theirs = record { table = table; then = rest; is = refl; mine = theirs.0; theirs = theirs.1 }

-- so many tables are done
pub record Standing (tables : List OpenTable) (others : List TableView) (count : ℕ) : Type 0 where
  pub front : List OpenTable
  pub rest : List OpenTable
  pub is : tables ≡ front ++ rest
  pub done : count ≡ length front
  pub theirs : AreTheirs rest others

stands_none : (tables : List OpenTable) (passes : List TableView) → AreTheirs tables passes → Standing tables passes 0
stands_none tables passes theirs = record { front = []; rest = tables; is = refl; done = refl; theirs = theirs }

module _ (tables : List OpenTable) (others : List TableView) (count : ℕ) (pass : TableView) (others' : List TableView) (others_is : others ≡ pass ∷ others') where
  next : (s : Standing tables others count) → Next s.rest pass others'
  next s = next_of s.rest pass others' (subst (AreTheirs s.rest) others_is s.theirs)

  tables_are : (s : Standing tables others count) → tables ≡ s.front ++ (next s).table ∷ (next s).then
  tables_are s = s.is ∙ ap (λ r. s.front ++ r) (next s).is

  inside : Standing tables others count → count < length tables
  inside s = let l = ap length (tables_are s) ∙ length-append s.front ((next s).table ∷ (next s).then) in omega (arith, l, s.done)

  has_turn : (turn : Home (List Column)) → Standing tables others count → IfSome (slice_get tables count) (λ t. t.1 ≡ turn) → IsOf turn pass
  has_turn turn s has =
      let n = next s in
      let same = at_place s.front n.then n.table turn count s.done (subst (λ ts. IfSome (slice_get ts count) (λ t. t.1 ≡ turn)) (tables_are s) has) in
      subst (λ t. IsOf t pass) same n.mine

  stands_more : Standing tables others count → Standing tables others' (count + 1)
  stands_more s =
      let n = next s in
      record {
        front = s.front ++ n.table ∷ [];
        rest = n.then;
        is = tables_are s ∙ sym (append_assoc s.front (n.table ∷ []) n.then);
        done = ap (λ m. m + 1) s.done ∙ sym (length-append s.front (n.table ∷ []));
        theirs = n.theirs;
      }

none_left : (tables : List OpenTable) (others : List TableView) → length others ≡ 0 → others ≡ []
none_left tables [] none = refl
none_left tables (pass ∷ others) none = absurd (omega (arith, none))

-- ---- splits

pub record Splitting (tables : List OpenTable) (passes others left right : List TableView) : Type 0 where
  pub stands : Standing tables others (length left)
  pub splits : (ls rs : List TableView) → AreSplit others ls rs → AreSplit passes (left ++ ls) (right ++ rs)

pub none_split : (tables : List OpenTable) (passes others left right : List TableView) → others ≡ passes → left ≡ [] → right ≡ [] → AreTheirs tables passes → Splitting tables passes others left right
none_split tables passes others left right same no_left no_right theirs =
    let begun : Splitting tables passes passes [] [] = record { stands = stands_none tables passes theirs; splits = λ ls rs are. are } in
    subst (λ os. Splitting tables passes os left right) (sym same)
    (subst (λ ls. Splitting tables passes passes ls right) (sym no_left) (subst (λ rs. Splitting tables passes passes [] rs) (sym no_right) begun))

module _ (tables : List OpenTable) (passes others left right : List TableView) (pass : TableView) (others' : List TableView) (others_is : others ≡ pass ∷ others') where
  pub split_place : (n : ℕ) → n ≡ length left → Splitting tables passes others left right → n < length tables
  split_place n is s = let i = inside tables others (length left) pass others' others_is s.stands in omega (arith, is, i)

  pub split_turn : (n : ℕ) (turn : Home (List Column)) → n ≡ length left → Splitting tables passes others left right → IfSome (slice_get tables n) (λ t. t.1 ≡ turn) → IsOf turn pass
  split_turn n turn is s has = has_turn tables others (length left) pass others' others_is turn s.stands (subst (λ m. IfSome (slice_get tables m) (λ t. t.1 ≡ turn)) is has)

  pub one_split : (l r : TableView) (left' right' : List TableView) → left' ≡ left ++ l ∷ [] → right' ≡ right ++ r ∷ [] → Splits caller_in pass l r → pass.number < pass.bound
      → Splitting tables passes others left right → Splitting tables passes others' left' right'
  one_split l r left' right' left_is right_is splits below s = record {
    stands = subst (Standing tables others') (sym (ap length left_is ∙ length-append left (l ∷ []))) (stands_more tables others (length left) pass others' others_is s.stands);
    splits = λ ls rs are.
        subst (λ x. AreSplit passes x (right' ++ rs)) (sym (ap (λ z. z ++ ls) left_is ∙ append_assoc left (l ∷ []) ls))
        (subst (λ x. AreSplit passes (left ++ l ∷ ls) x) (sym (ap (λ z. z ++ rs) right_is ∙ append_assoc right (r ∷ []) rs))
        (s.splits (l ∷ ls) (r ∷ rs) (subst (λ os. AreSplit os (l ∷ ls) (r ∷ rs)) (sym others_is) (splits, below, are))));
  }

pub all_split : (tables : List OpenTable) (passes others left right : List TableView) → length others ≡ 0 → Splitting tables passes others left right → AreSplit passes left right
all_split tables passes others left right none s =
    let is = none_left tables others none in
    subst (λ x. AreSplit passes x right) (append-nil left) (subst (λ x. AreSplit passes (left ++ []) x) (append-nil right) (s.splits [] [] (subst (λ os. AreSplit os [] []) (sym is) tt)))

-- ---- joins

pub record Joining (tables : List OpenTable) (keep give keeps gives joined : List TableView) : Type 0 where
  pub mine : Standing tables keeps (length joined)
  pub other : Standing tables gives (length joined)
  pub joins : (after : List TableView) → AreJoined keeps gives after → AreJoined keep give (joined ++ after)

pub none_joined : (tables : List OpenTable) (keep give keeps gives joined : List TableView) → keeps ≡ keep → gives ≡ give → joined ≡ [] → AreTheirs tables keep → AreTheirs tables give
    → Joining tables keep give keeps gives joined
none_joined tables keep give keeps gives joined same too none k g =
    let begun : Joining tables keep give keep give [] = record { mine = stands_none tables keep k; other = stands_none tables give g; joins = λ after are. are } in
    subst (λ ks. Joining tables keep give ks gives joined) (sym same)
    (subst (λ gs. Joining tables keep give keep gs joined) (sym too) (subst (λ js. Joining tables keep give keep give js) (sym none) begun))

module _ (tables : List OpenTable) (keep give keeps gives joined : List TableView) (k : TableView) (keeps' : List TableView) (keeps_is : keeps ≡ k ∷ keeps')
    (g : TableView) (gives' : List TableView) (gives_is : gives ≡ g ∷ gives') where
  pub join_place : (n : ℕ) → n ≡ length joined → Joining tables keep give keeps gives joined → n < length tables
  join_place n is s = let i = inside tables keeps (length joined) k keeps' keeps_is s.mine in omega (arith, is, i)

  pub keep_turn : (n : ℕ) (turn : Home (List Column)) → n ≡ length joined → Joining tables keep give keeps gives joined → IfSome (slice_get tables n) (λ t. t.1 ≡ turn) → IsOf turn k
  keep_turn n turn is s has = has_turn tables keeps (length joined) k keeps' keeps_is turn s.mine (subst (λ m. IfSome (slice_get tables m) (λ t. t.1 ≡ turn)) is has)

  pub give_turn : (n : ℕ) (turn : Home (List Column)) → n ≡ length joined → Joining tables keep give keeps gives joined → IfSome (slice_get tables n) (λ t. t.1 ≡ turn) → IsOf turn g
  give_turn n turn is s has = has_turn tables gives (length joined) g gives' gives_is turn s.other (subst (λ m. IfSome (slice_get tables m) (λ t. t.1 ≡ turn)) is has)

  pub one_joined : (a : TableView) (joined' : List TableView) → joined' ≡ joined ++ a ∷ [] → Joins caller_in k g a → Joining tables keep give keeps gives joined
      → Joining tables keep give keeps' gives' joined'
  one_joined a joined' joined_is joins s =
      let count = sym (ap length joined_is ∙ length-append joined (a ∷ [])) in
      record {
        mine = subst (Standing tables keeps') count (stands_more tables keeps (length joined) k keeps' keeps_is s.mine);
        other = subst (Standing tables gives') count (stands_more tables gives (length joined) g gives' gives_is s.other);
        joins = λ after are.
            subst (λ x. AreJoined keep give x) (sym (ap (λ z. z ++ after) joined_is ∙ append_assoc joined (a ∷ []) after))
            (s.joins (a ∷ after) (subst (λ ks. AreJoined ks gives (a ∷ after)) (sym keeps_is) (subst (λ gs. AreJoined (k ∷ keeps') gs (a ∷ after)) (sym gives_is) (joins, are))));
      }

both_none : (rest : List OpenTable) (keeps gives : List TableView) → AreTheirs rest keeps → AreTheirs rest gives → (length keeps ≡ 0) ⊎ (length gives ≡ 0) → (keeps ≡ []) × (gives ≡ [])
both_none [] [] [] k g none = (refl, refl)
both_none [] [] (x ∷ gives) k g none = absurd g
both_none [] (x ∷ keeps) gives k g none = absurd k
both_none (t ∷ rest) [] gives k g none = absurd k
both_none (t ∷ rest) (x ∷ keeps) [] k g none = absurd g
both_none (t ∷ rest) (x ∷ keeps) (y ∷ gives) k g (inl none) = absurd (omega (arith, none))
both_none (t ∷ rest) (x ∷ keeps) (y ∷ gives) k g (inr none) = absurd (omega (arith, none))

same_rest : (a b c d : List OpenTable) → a ++ b ≡ c ++ d → length a ≡ length c → b ≡ d
same_rest [] b [] d same count = same
same_rest [] b (y ∷ c) d same count = absurd (omega (arith, count))
same_rest (x ∷ a) b [] d same count = absurd (omega (arith, count))
same_rest (x ∷ a) b (y ∷ c) d same count = same_rest a b c d (ap tail_of same) (omega (arith, count))
  where
    tail_of : List OpenTable → List OpenTable
    tail_of [] = []
    tail_of (z ∷ zs) = zs

pub all_joined : (tables : List OpenTable) (keep give keeps gives joined : List TableView) → (length keeps ≡ 0) ⊎ (length gives ≡ 0) → Joining tables keep give keeps gives joined
    → AreJoined keep give joined
all_joined tables keep give keeps gives joined none s =
    let rest = same_rest s.other.front s.other.rest s.mine.front s.mine.rest (sym s.other.is ∙ s.mine.is) (sym s.other.done ∙ s.mine.done) in
    let are = both_none s.mine.rest keeps gives s.mine.theirs (subst (λ r. AreTheirs r gives) rest s.other.theirs) none in
    subst (λ x. AreJoined keep give x) (append-nil joined) (s.joins [] (subst (λ ks. AreJoined ks gives []) (sym are.0) (subst (λ gs. AreJoined [] gs []) (sym are.1) tt)))

-- ---- whose the passes are

pub split_theirs : (tables : List OpenTable) (passes left right : List TableView) → AreTheirs tables passes → AreSplit passes left right → AreTheirs tables left × AreTheirs tables right
split_theirs [] [] [] [] theirs are = (tt, tt)
split_theirs [] [] [] (r ∷ right) theirs are = absurd are
split_theirs [] [] (l ∷ left) right theirs are = absurd are
split_theirs [] (p ∷ passes) left right theirs are = absurd theirs
split_theirs (t ∷ tables) [] left right theirs are = absurd theirs
split_theirs (t ∷ tables) (p ∷ passes) [] right theirs are = absurd are
split_theirs (t ∷ tables) (p ∷ passes) (l ∷ left) [] theirs are = absurd are
split_theirs (t ∷ tables) (p ∷ passes) (l ∷ left) (r ∷ right) theirs are =
    let rest = split_theirs tables passes left right theirs.1 are.2 in
    let mine = theirs.0 in
    let kept = are.0.kept in
    let new = are.0.new in (
      (record { table = ap (λ v. v.table) kept ∙ mine.table; same = ap (λ v. v.fixed) kept ∙ mine.same }, rest.0),
      (record { table = ap (λ v. v.table) new ∙ mine.table; same = ap (λ v. v.fixed) new ∙ mine.same }, rest.1),
    )

pub joined_theirs : (tables : List OpenTable) (keep give after : List TableView) → AreTheirs tables keep → AreJoined keep give after → AreTheirs tables after
joined_theirs [] [] [] [] theirs are = tt
joined_theirs [] [] [] (a ∷ after) theirs are = absurd are
joined_theirs [] [] (g ∷ give) after theirs are = absurd are
joined_theirs [] (k ∷ keep) give after theirs are = absurd theirs
joined_theirs (t ∷ tables) [] give after theirs are = absurd theirs
joined_theirs (t ∷ tables) (k ∷ keep) [] after theirs are = absurd are
joined_theirs (t ∷ tables) (k ∷ keep) (g ∷ give) [] theirs are = absurd are
joined_theirs (t ∷ tables) (k ∷ keep) (g ∷ give) (a ∷ after) theirs are =
    let mine = theirs.0 in
    (record { table = ap (λ v. v.table) are.0.is ∙ mine.table; same = ap (λ v. v.fixed) are.0.is ∙ mine.same }, joined_theirs tables keep give after theirs.1 are.1)
