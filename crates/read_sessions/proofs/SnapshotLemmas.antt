-- What snapshots say where a search stops, and behind one more.
use Rattle.std.proofs.Common.{◌≡◌, ℕ, zero, suc, ◌+◌, ◌-◌, ◌≤◌, ◌<◌, ℤ, ◌≤ℤ◌, Bool, true, false, cond, List, [], ◌∷◌, ◌++◌, length, get_or, refl, sym, ap, ◌∙◌, subst, arith, pos}
use Rattle.std.specs.Prelude.{int_le, if◌then◌else◌, All}
use Rattle.std.specs.Int.{int_max}
use Rattle.std.specs.List.{fold, AllWithin}
use Rattle.std.specs.List.Sorted.{IsPartitionedBy}
use Rattle.std.proofs.lemmas.Int.{ints}
use Rattle.std.proofs.lemmas.List.Elements.{All-nil, All-head, All-tail, All-push, All-weaker}
use Rattle.std.proofs.lemmas.List.Sums.{fold_push}
use Rattle.table_model.specs.declared.entries.Entry.{Entry}
use Rattle.table_model.specs.History.{History, moment_of}
use Rattle.table_model.specs.Visible.{visible_of}
use Rattle.table_model.specs.Sessions.{visible_by}
use Rattle.read_sessions.specs.declared.snapshots.Snapshot.{Snapshot}
use Rattle.read_sessions.specs.Snapshots.{visible_at, IsPast, Rise, IsNext, Tells}
use Rattle.read_sessions.proofs.HistoryLemmas.{visible_by-push, visible_by-all}

abbrev step : ℤ → ℕ → Snapshot → ℕ
step moment before s = if int_le s.moment moment then s.visible else before

-- ---- where a search stops

earlier : (a b m : ℤ) → a ≤ℤ b → int_le b m ≡ true → int_le a m ≡ true
earlier a b m p q = grind (arith, ints)

-- those that aren't later than a moment come first
pub parted : (snapshots : List Snapshot) (moment : ℤ) → Rise snapshots → IsPartitionedBy (λ s. int_le s.moment moment) snapshots
parted [] moment rise i j d before there passes = absurd (omega arith)
parted (s ∷ more) moment rise zero zero d before there passes = passes
parted (s ∷ more) moment rise zero (suc j) d before there passes = earlier s.moment (get_or more j d).moment moment (rise.0 j d (omega arith)) passes
parted (s ∷ more) moment rise (suc i) zero d before there passes = absurd (omega arith)
parted (s ∷ more) moment rise (suc i) (suc j) d before there passes = parted more moment rise.1 i j d (omega arith) (omega arith) passes

all_later : (snapshots : List Snapshot) (moment : ℤ) (before : ℕ) → AllWithin (λ s. int_le s.moment moment ≡ false) snapshots 0 (length snapshots)
    → fold (step moment) before snapshots ≡ before
all_later [] moment before late = refl
all_later (s ∷ more) moment before late =
    ap (λ b. fold (step moment) (if b then s.visible else before) more) (late 0 s (omega arith) (omega arith))
    ∙ all_later more moment before (λ k d low high. late (suc k) d (omega arith) (omega arith))

last_early : (snapshots : List Snapshot) (moment : ℤ) (before i : ℕ) (d : Snapshot) → i < length snapshots
    → int_le (get_or snapshots i d).moment moment ≡ true → AllWithin (λ s. int_le s.moment moment ≡ false) snapshots (suc i) (length snapshots)
    → fold (step moment) before snapshots ≡ (get_or snapshots i d).visible
last_early [] moment before i d there early late = absurd (omega arith)
last_early (s ∷ more) moment before zero d there early late =
    ap (λ b. fold (step moment) (if b then s.visible else before) more) early
    ∙ all_later more moment s.visible (λ k e low high. late (suc k) e (omega arith) (omega arith))
last_early (s ∷ more) moment before (suc i) d there early late =
    last_early more moment (step moment before s) i d (omega arith) early (λ k e low high. late (suc k) e (omega arith) (omega arith))

pub none_early : (snapshots : List Snapshot) (moment : ℤ) (count : ℕ) → count ≡ 0
    → AllWithin (λ s. int_le s.moment moment ≡ false) snapshots count (length snapshots) → 0 ≡ visible_at snapshots moment
none_early snapshots moment count none late = sym (all_later snapshots moment 0 (subst (λ n. AllWithin (λ s. int_le s.moment moment ≡ false) snapshots n (length snapshots)) none late))

pub some_early : (snapshots : List Snapshot) (moment : ℤ) (count : ℕ) (s : Snapshot) → (count ≡ 0 → ⊥) → count ≤ length snapshots → s ≡ get_or snapshots (count - 1) s
    → AllWithin (λ s. int_le s.moment moment ≡ true) snapshots 0 count
    → AllWithin (λ s. int_le s.moment moment ≡ false) snapshots count (length snapshots) → s.visible ≡ visible_at snapshots moment
some_early snapshots moment count s some few read early late =
    let is : count ≡ suc (count - 1) = omega (arith, some) in
    let later : AllWithin (λ s. int_le s.moment moment ≡ false) snapshots (suc (count - 1)) (length snapshots) = subst (λ n. AllWithin (λ s. int_le s.moment moment ≡ false) snapshots n (length snapshots)) is late in
    ap (λ x. x.visible) read ∙ sym (last_early snapshots moment 0 (count - 1) s (omega (arith, is)) (early (count - 1) s (omega arith) (omega (arith, is))) later)

-- ---- one more

pub Rise-push : (snapshots : List Snapshot) (s : Snapshot) → Rise snapshots → IsPast s.moment snapshots → Rise (snapshots ++ s ∷ [])
Rise-push [] s rise past = (All-nil (λ x. s.moment ≤ℤ x.moment), tt)
Rise-push (first ∷ more) s rise past = (
  All-push (λ x. first.moment ≤ℤ x.moment) more s rise.0 (All-head (λ x. x.moment ≤ℤ s.moment) first more past),
  Rise-push more s rise.1 (All-tail (λ x. x.moment ≤ℤ s.moment) first more past),
)

max_first : (a b m : ℤ) → m ≤ℤ a → m ≤ℤ int_max a b
max_first a b m p = grind (arith, ints)

max_second : (a b : ℤ) → b ≤ℤ int_max a b
max_second a b = grind (arith, ints)

moment_of-push : (history : History) (entry : Entry) → moment_of (history ++ entry ∷ []) ≡ int_max (moment_of history) entry.moment
moment_of-push history entry = fold_push (λ latest e. int_max latest e.moment) (pos 0) history entry

still_past : (snapshots : List Snapshot) (history : History) (entry : Entry) → IsPast (moment_of history) snapshots → IsPast (moment_of (history ++ entry ∷ [])) snapshots
still_past snapshots history entry past =
    subst (λ m. IsPast m snapshots) (sym (moment_of-push history entry))
    (All-weaker (λ s. s.moment ≤ℤ moment_of history) (λ s. s.moment ≤ℤ int_max (moment_of history) entry.moment) (λ s p. max_first (moment_of history) entry.moment s.moment p) snapshots past)

-- behind an entry with its snapshot
pub Tells-push : (snapshots : List Snapshot) (s : Snapshot) (history : History) (entry : Entry) → Tells snapshots history → IsNext history entry
    → entry.moment ≡ s.moment → s.visible ≡ length (visible_of (history ++ entry ∷ [])) → Tells (snapshots ++ s ∷ []) (history ++ entry ∷ [])
Tells-push snapshots s history entry tells next at count = record {
  told = λ moment.
      fold_push (step moment) 0 snapshots s
      ∙ ap (λ m. if int_le m moment then s.visible else visible_at snapshots moment) (sym at)
      ∙ ap (λ n. if int_le entry.moment moment then n else visible_at snapshots moment) count
      ∙ ap (λ n. if int_le entry.moment moment then length (visible_of (history ++ entry ∷ [])) else n) (tells.told moment)
      ∙ sym (visible_by-push history entry moment (pos 0) next);
  past = All-push (λ x. x.moment ≤ℤ moment_of (history ++ entry ∷ [])) snapshots s (still_past snapshots history entry tells.past)
      (subst (λ m. s.moment ≤ℤ m) (sym (moment_of-push history entry)) (subst (λ m. m ≤ℤ int_max (moment_of history) entry.moment) at (max_second (moment_of history) entry.moment)));
}

-- behind an entry that shows no row
pub Tells-quiet : (snapshots : List Snapshot) (history : History) (entry : Entry) → Tells snapshots history → IsNext history entry
    → length (visible_of (history ++ entry ∷ [])) ≡ length (visible_of history) → Tells snapshots (history ++ entry ∷ [])
Tells-quiet snapshots history entry tells next same = record {
  told = λ moment. tells.told moment ∙ sym (visible_by-push history entry moment (pos 0) next ∙ either moment (int_le entry.moment moment) refl);
  past = still_past snapshots history entry tells.past;
}
  where
    either : (moment : ℤ) (b : Bool) → int_le entry.moment moment ≡ b → (if b then length (visible_of (history ++ entry ∷ [])) else visible_by history moment) ≡ visible_by history moment
    either moment true is = same ∙ sym (visible_by-all history entry moment (pos 0) next is)
    either moment false is = refl
