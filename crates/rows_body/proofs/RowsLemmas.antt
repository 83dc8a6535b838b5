-- What polls take of the items that are left.
use Rattle.std.proofs.Common.{◌≡◌, ◌≢◌, ◌⊎◌, inl, inr, List, [], ◌∷◌, ◌++◌, Option, Some, None, Ok, Err, IfSome, refl, ap, sym, subst, ◌∙◌}
use Rattle.futures.specs.Runs.{After}
use Rattle.rows_body.specs.declared.body.RowsEnd.TheVariants as rows_end
use Rattle.rows_body.specs.Rows.{Item, AreTaken, Breaks, MayGive, Takes}

not_empty : (front more : List Item) (lost : Item) → [] ≡ front ++ lost ∷ more → ⊥
not_empty [] more lost e = absurd (cc)
not_empty (item ∷ front) more lost e = absurd (cc)

not_front : (items more : List Item) (item : Item) → [] ≡ (items ++ item ∷ []) ++ more → ⊥
not_front [] more item e = absurd (cc)
not_front (first ∷ items) more item e = absurd (cc)

breaks_first : (old : List Item) → old ≢ [] → Breaks old (Err rows_end.Memory ∷ [])
breaks_first [] some = absurd (some refl)
breaks_first (item ∷ more) some = record { front = []; lost = item; more = more; last = refl; was = refl }

-- what one poll answers may be given first
pub given_first : (old new : List Item) (answer : Option Item) → Takes old new answer → MayGive old [] answer
given_first old new None takes = inl takes.0
given_first old new (Some (Ok message)) takes = inl (new, takes)
given_first old new (Some (Err (rows_end.PastEnd matched))) takes = inl ([], takes.0)
given_first old new (Some (Err rows_end.Memory)) takes = inr (breaks_first old takes.0)

breaks_on : (old new items : List Item) (item : Item) → old ≡ item ∷ new → Breaks new items → Breaks old (item ∷ items)
breaks_on old new items item is breaks = record {
  front = item ∷ breaks.front;
  lost = breaks.lost;
  more = breaks.more;
  last = ap (λ (rest : List Item). item ∷ rest) breaks.last;
  was = is ∙ ap (λ (rest : List Item). item ∷ rest) breaks.was;
}

goes_on : (old new items : List Item) (item : Item) (last : Option Item) → old ≡ item ∷ new → MayGive new items last → MayGive old (item ∷ items) last
goes_on old new items item None is (inl all) = inl (is ∙ ap (λ (rest : List Item). item ∷ rest) all)
goes_on old new items item None is (inr breaks) = inr (breaks_on old new items item is breaks)
goes_on old new items item (Some x) is (inl front) = inl (front.0, is ∙ ap (λ (rest : List Item). item ∷ rest) front.1)
goes_on old new items item (Some x) is (inr breaks) = inr (breaks_on old new (items ++ x ∷ []) item is breaks)

-- behind the last item comes the end alone
over : (items : List Item) (last : Option Item) → MayGive [] items last → (items ≡ []) × (last ≡ None)
over items None (inl all) = (sym all, refl)
over items None (inr breaks) = absurd (not_empty breaks.front breaks.more breaks.lost breaks.was)
over items (Some x) (inl front) = absurd (not_front items front.0 x front.1)
over items (Some x) (inr breaks) = absurd (not_empty breaks.front breaks.more breaks.lost breaks.was)

ends_so : (old new items : List Item) (item : Item) (last : Option Item) → new ≡ [] → MayGive old (item ∷ []) None → MayGive new items last → MayGive old (item ∷ items) last
ends_so old new items item last none may given =
    let end : (items ≡ []) × (last ≡ None) = over items last (subst (λ (left : List Item). MayGive left items last) none given) in
    subst (λ (answer : Option Item). MayGive old (item ∷ items) answer) (sym end.1) (subst (λ (xs : List Item). MayGive old (item ∷ xs) None) (sym end.0) may)

given_next : (old new items : List Item) (item : Item) (last : Option Item) → Takes old new (Some item) → MayGive new items last → MayGive old (item ∷ items) last
given_next old new items (Ok message) last takes given = goes_on old new items (Ok message) last takes given
given_next old new items (Err (rows_end.PastEnd matched)) last takes given = ends_so old new items (Err (rows_end.PastEnd matched)) last takes.1 (inl takes.0) given
given_next old new items (Err rows_end.Memory) last takes given = ends_so old new items (Err rows_end.Memory) last takes.1 (inr (breaks_first old takes.0)) given

-- what comes behind it may come behind it
pub given_behind : (old new : List Item) (answer : Option Item) → Takes old new answer → IfSome answer (λ item. After (MayGive old) item (MayGive new))
given_behind old new None takes = tt
given_behind old new (Some item) takes = λ items last given. given_next old new items item last takes given

empty_both : (items new : List Item) → items ≡ [] → new ≡ [] → [] ≡ items ++ new
empty_both items new none empty = rw (none, empty) refl

-- Polls of any number.

none_taken : (items new : List Item) → AreTaken [] items new → (items ≡ []) × (new ≡ [])
none_taken [] new taken = (refl, taken)
none_taken (Ok message ∷ items) new taken = absurd (no_first (Ok message) taken.0 taken.1)
  where
    no_first : (item : Item) (mid : List Item) → [] ≡ item ∷ mid → ⊥
    no_first item mid e = absurd (cc)
none_taken (Err (rows_end.PastEnd matched) ∷ items) new taken = absurd (no_last (Err (rows_end.PastEnd matched)) taken.1.0)
  where
    no_last : (item : Item) → [] ≡ item ∷ [] → ⊥
    no_last item e = absurd (cc)
none_taken (Err rows_end.Memory ∷ items) new taken = absurd (taken.1.0 refl)

-- the items given are the first ones, unless want of memory is the last
pub in_order : (old items new : List Item) → AreTaken old items new → (old ≡ items ++ new) ⊎ (Breaks old items × (new ≡ []))
in_order old [] new taken = inl (sym taken)
in_order old (Ok message ∷ items) new taken = behind (in_order taken.0 items new taken.2)
  where
    behind : (taken.0 ≡ items ++ new) ⊎ (Breaks taken.0 items × (new ≡ [])) → (old ≡ Ok message ∷ items ++ new) ⊎ (Breaks old (Ok message ∷ items) × (new ≡ []))
    behind (inl all) = inl (taken.1 ∙ ap (λ (rest : List Item). Ok message ∷ rest) all)
    behind (inr lost) = inr (breaks_on old taken.0 items (Ok message) taken.1 lost.0, lost.1)
in_order old (Err (rows_end.PastEnd matched) ∷ items) new taken =
    let none = none_taken items new (subst (λ (mid : List Item). AreTaken mid items new) taken.1.1 taken.2) in
    inl (taken.1.0 ∙ ap (λ (rest : List Item). Err (rows_end.PastEnd matched) ∷ rest) (empty_both items new none.0 none.1))
in_order old (Err rows_end.Memory ∷ items) new taken =
    let none = none_taken items new (subst (λ (mid : List Item). AreTaken mid items new) taken.1.1 taken.2) in
    inr (subst (λ (rest : List Item). Breaks old (Err rows_end.Memory ∷ rest)) (sym none.0) (breaks_first old taken.1.0), none.1)
