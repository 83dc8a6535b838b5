-- What the pass of a drain gains.
use Rattle.std.proofs.Common.{◌≡◌, ℕ, ◌+◌, Bool, true, cond, List, [], ◌∷◌, ◌++◌, append_assoc, sym, ap, ◌∙◌, subst, arith, eq-eqb}
use Rattle.std.specs.Prelude.{◌==◌, count_by}
use Rattle.std.proofs.lemmas.List.{append-nil}
use Rattle.std.proofs.lemmas.List.Sums.{sum_by-cons}
use Rattle.column_types.specs.declared.column.Column.{Column}
use Rattle.table_model.specs.declared.entries.Entry.{Entry}
use Rattle.table_model.specs.History.{History}
use Rattle.turn_table.specs.View.{View, Reaches, seeing}
use Rattle.drill.specs.Drains.{IsSplit, OwnAreSplits, Went}

abbrev pub TableView : Type 0
TableView = View Entry (List Column)

abbrev pub caller_in : Entry → ℕ
caller_in entry = entry.caller

-- where no entry is the caller's, all of its entries are splits
own_none : (columns : List Column) (caller number : ℕ) (before more : History) → count_by (λ entry. caller_in entry == caller) more ≡ 0 → OwnAreSplits columns caller number before more
own_none columns caller number before [] none = tt
own_none columns caller number before (entry ∷ more) none =
    let total : cond (caller_in entry == caller) 1 0 + count_by (λ (e : Entry). caller_in e == caller) more ≡ 0 =
    sym (sum_by-cons (λ (e : Entry). cond (caller_in e == caller) 1 0) entry more) ∙ none in
    let rest : count_by (λ (e : Entry). caller_in e == caller) more ≡ 0 = omega (arith, total) in (
      (λ own.
          let count : Bool → ℕ = λ b. cond b 1 0 in
          let one : count (caller_in entry == caller) ≡ count true = ap count (eq-eqb (caller_in entry) caller own) in
          absurd (omega (arith, total, one))),
      own_none columns caller number (before ++ entry ∷ []) more rest,
    )

own-append : (columns : List Column) (caller number : ℕ) (before one two : History) → OwnAreSplits columns caller number before one
    → OwnAreSplits columns caller number (before ++ one) two → OwnAreSplits columns caller number before (one ++ two)
own-append columns caller number before [] two first second = subst (λ h. OwnAreSplits columns caller number h two) (append-nil before) second
own-append columns caller number before (entry ∷ one) two first second = (
  first.0,
  own-append columns caller number (before ++ entry ∷ []) one two first.1
      (subst (λ h. OwnAreSplits columns caller number h two) (sym (append_assoc before (entry ∷ []) one)) second),
)

-- a pass that has seen a point went there
pub went_to : (number : ℕ) (old new : TableView) (point : History) → Reaches caller_in old point → new ≡ seeing old point → Went number old new
went_to number old new point reaches is = record {
  more = reaches.more;
  is = is ∙ ap (seeing old) reaches.is;
  own = own_none old.fixed old.number number old.seen reaches.more reaches.others;
}

-- and with a split there
pub went_on : (number : ℕ) (old new : TableView) (point : History) (entry : Entry) → Reaches caller_in old point → IsSplit old.fixed number point entry
    → new ≡ seeing old (point ++ entry ∷ []) → Went number old new
went_on number old new point entry reaches split is = record {
  more = reaches.more ++ entry ∷ [];
  is = is ∙ ap (λ h. seeing old (h ++ entry ∷ [])) reaches.is ∙ ap (seeing old) (append_assoc old.seen reaches.more (entry ∷ []));
  own = own-append old.fixed old.number number old.seen reaches.more (entry ∷ []) (own_none old.fixed old.number number old.seen reaches.more reaches.others)
      ((λ own. subst (λ h. IsSplit old.fixed number h entry) reaches.is split), tt);
}

-- further on
pub went_further : (number : ℕ) (old mid new : TableView) → Went number old mid → Went number mid new → Went number old new
went_further number old mid new first second =
    let own : OwnAreSplits old.fixed old.number number (old.seen ++ first.more) second.more =
    subst (λ (v : TableView). OwnAreSplits v.fixed v.number number v.seen second.more) first.is second.own in
    record {
      more = first.more ++ second.more;
      is = second.is ∙ ap (λ (v : TableView). seeing v (v.seen ++ second.more)) first.is ∙ ap (seeing old) (append_assoc old.seen first.more second.more);
      own = own-append old.fixed old.number number old.seen first.more second.more first.own own;
    }

-- nowhere
pub went_nowhere : (number : ℕ) (old : TableView) → Went number old old
went_nowhere number old = record { more = []; is = ap (seeing old) (sym (append-nil old.seen)); own = tt }
