-- What holds of the kept parts, once a stream is closed or changed.
use Rattle.std.proofs.Common.{◌≡◌, ℕ, ◌^◌, ◌-◌, ◌<◌, ◌≤◌, ◌==◌, if◌then◌else◌, nat_eq, Bool, true, false, cond, List, [], ◌∷◌, ◌++◌, Option, None, Some, pos, ◌+ℤ◌, ◌-ℤ◌, ◌≤ℤ◌, Ok, is_some, IfSome, true≢false, arith, refl, sym, ap, subst}
use Rattle.std.proofs.lemmas.Int.{ints}
use Rattle.std.specs.List.{AllByRecursion}
use Rattle.std.specs.Map.{lookup, remove_entry, set_value}
use Rattle.h2_streams.specs.declared.stream.Stream.{Stream}
use Rattle.h2_streams.specs.Book.{Book, find}
use Rattle.h2_streams.specs.Calls.{Grants}
use Rattle.h2_record.specs.declared.block.OpenBlock.{OpenBlock}
use Rattle.h2_record.specs.declared.block.OwedCredit.{OwedCredit}
use Rattle.h2_record.specs.declared.control.Control.{Control}
use Rattle.h2_record.specs.Faults.{most_flood}
use Rattle.h2_record.specs.Rules.{pairs_code}
use Rattle.h2_conn.specs.Within.{IsWithin, IsNearInitial, IsSmallOwed, FitsFrame}
use Rattle.h2_conn.specs.Counting.{owed_if}
use Rattle.h2_frames.specs.declared.pairs.Pair.{Pair}
use Rattle.h2_streams.specs.Shifts.{shifted}
use Rattle.h2_record.specs.Windows.{initial_after}
use Rattle.h2_conn.proofs.ShiftLemmas.{last-small, near-shifted}

pub near-removed : (initial id : ℕ) (es : List (ℕ × Stream)) → AllByRecursion (IsNearInitial initial) es → AllByRecursion (IsNearInitial initial) (remove_entry (nat_eq id) es)
near-removed initial id [] all = tt
near-removed initial id (e ∷ es) all = by (nat_eq id e.0) (near-removed initial id es all.1)
  where
    by : (b : Bool) → AllByRecursion (IsNearInitial initial) (remove_entry (nat_eq id) es) → AllByRecursion (IsNearInitial initial) (cond b es (e ∷ remove_entry (nat_eq id) es))
    by true rest = all.1
    by false rest = (all.0, rest)

pub near-set : (initial id : ℕ) (stream : Stream) (es : List (ℕ × Stream)) → pos initial ≤ℤ (stream.send +ℤ pos (2 ^ 31 - 1)) → AllByRecursion (IsNearInitial initial) es
    → AllByRecursion (IsNearInitial initial) (set_value (nat_eq id) es stream)
near-set initial id stream [] near all = tt
near-set initial id stream (e ∷ es) near all = by (nat_eq id e.0) (near-set initial id stream es near all.1)
  where
    by : (b : Bool) → AllByRecursion (IsNearInitial initial) (set_value (nat_eq id) es stream)
        → AllByRecursion (IsNearInitial initial) (cond b ((e.0, stream) ∷ es) (e ∷ set_value (nat_eq id) es stream))
    by true rest = (near, all.1)
    by false rest = (all.0, rest)

module _ (initial flood : ℕ) (streams streams' : Book) (waiting : List Control) (block : Option OpenBlock) (owed : Option OwedCredit) (w : IsWithin initial streams waiting block owed flood) where
  pub within-removed : (id : ℕ) → streams'.live ≡ remove_entry (nat_eq id) streams.live → streams'.last ≡ streams.last → IsWithin initial streams' waiting block owed flood
  within-removed id removed last = record {
    small = w.small;
    near = subst (λ (live : List (ℕ × Stream)). AllByRecursion (IsNearInitial initial) live) (sym removed) (near-removed initial id streams.live w.near);
    last = subst (λ (n : ℕ). n < 2 ^ 31) (sym last) w.last;
    fit = w.fit;
    open_block = w.open_block;
    credit = w.credit;
    few = w.few;
  }

  pub within-set : (id : ℕ) (stream : Stream) → streams'.live ≡ set_value (nat_eq id) streams.live stream → streams'.last ≡ streams.last
      → pos initial ≤ℤ (stream.send +ℤ pos (2 ^ 31 - 1)) → IsWithin initial streams' waiting block owed flood
  within-set id stream set last near = record {
    small = w.small;
    near = subst (λ (live : List (ℕ × Stream)). AllByRecursion (IsNearInitial initial) live) (sym set) (near-set initial id stream streams.live near w.near);
    last = subst (λ (n : ℕ). n < 2 ^ 31) (sym last) w.last;
    fit = w.fit;
    open_block = w.open_block;
    credit = w.credit;
    few = w.few;
  }

-- another count
pub within-flood : (initial flood more : ℕ) (streams : Book) (waiting : List Control) (block : Option OpenBlock) (owed : Option OwedCredit) → IsWithin initial streams waiting block owed flood
    → more ≤ most_flood → IsWithin initial streams waiting block owed more
within-flood initial flood more streams waiting block owed w few = record {
  small = w.small;
  near = w.near;
  last = w.last;
  fit = w.fit;
  open_block = w.open_block;
  credit = w.credit;
  few = few;
}

-- each live stream's window is near
found-near : (b : Bool) (initial : ℕ) (e : ℕ × Stream) (rest : Option Stream) (stream : Stream) → IsNearInitial initial e
    → (rest ≡ Some stream → pos initial ≤ℤ (stream.send +ℤ pos (2 ^ 31 - 1))) → cond b (Some e.1) rest ≡ Some stream → pos initial ≤ℤ (stream.send +ℤ pos (2 ^ 31 - 1))
found-near true initial e rest stream near more found = let same : e.1 ≡ stream = cc in subst (λ (s : Stream). pos initial ≤ℤ (s.send +ℤ pos (2 ^ 31 - 1))) same near
found-near false initial e rest stream near more found = more found

pub near-found : (initial id : ℕ) (es : List (ℕ × Stream)) (stream : Stream) → AllByRecursion (IsNearInitial initial) es → lookup (nat_eq id) es ≡ Some stream
    → pos initial ≤ℤ (stream.send +ℤ pos (2 ^ 31 - 1))
near-found initial id [] stream all found = absurd (cc)
near-found initial id (e ∷ es) stream all found = found-near (nat_eq id e.0) initial e (lookup (nat_eq id) es) stream all.0 (near-found initial id es stream all.1) found

module _ (initial flood id add : ℕ) (streams streams' : Book) (waiting : List Control) (block : Option OpenBlock) (owed : Option OwedCredit) (w : IsWithin initial streams waiting block owed flood) where
  within-grant-of : (o : Option Stream) → find streams id ≡ o → is_some o ≡ true → IfSome o (Grants streams id add (Ok tt) streams') → IsWithin initial streams' waiting block owed flood
  within-grant-of None found there grants = absurd (true≢false (sym there))
  within-grant-of (Some stream) found there grants =
      let near = near-found initial id streams.live stream w.near found in
      within-set initial flood streams streams' waiting block owed w id (record stream { send = stream.send +ℤ pos add })
      (ap (λ (b : Book). b.live) grants.1) (ap (λ (b : Book). b.last) grants.1) (omega (arith, ints, near))

  -- a stream's window that grew
  pub within-grant : is_some (find streams id) ≡ true → IfSome (find streams id) (Grants streams id add (Ok tt) streams') → IsWithin initial streams' waiting block owed flood
  within-grant there grants = within-grant-of (find streams id) refl there grants

-- shifted windows, where the pairs of SETTINGS are good
pub within-shift : (initial last flood flood' : ℕ) (pairs : List Pair) (streams streams' : Book) (waiting waiting' : List Control) (block : Option OpenBlock) (owed : Option OwedCredit)
    → IsWithin initial streams waiting block owed flood → pairs_code pairs ≡ None → last ≡ initial_after initial pairs → streams' ≡ shifted streams (pos last -ℤ pos initial)
    → AllByRecursion FitsFrame waiting' → flood' ≤ most_flood → IsWithin last streams' waiting' block owed flood'
within-shift initial last flood flood' pairs streams streams' waiting waiting' block owed w good is same fit few = record {
  small = subst (λ (n : ℕ). n < 2 ^ 31) (sym is) (last-small initial pairs good w.small);
  near = subst (λ (b : Book). AllByRecursion (IsNearInitial last) b.live) (sym same) (near-shifted initial last streams.live w.near);
  last = subst (λ (b : Book). b.last < 2 ^ 31) (sym same) w.last;
  fit = fit;
  open_block = w.open_block;
  credit = w.credit;
  few = few;
}

-- one control frame more
pub fit-push : (waiting : List Control) (one : Control) → AllByRecursion FitsFrame waiting → FitsFrame one → AllByRecursion FitsFrame (waiting ++ one ∷ [])
fit-push [] one fit fits = (fits, tt)
fit-push (x ∷ waiting) one fit fits = (fit.0, fit-push waiting one fit.1 fits)

-- other streams, whose windows are near
pub within-streams : (initial flood : ℕ) (streams streams' : Book) (waiting : List Control) (block : Option OpenBlock) (owed owed' : Option OwedCredit) → IsWithin initial streams waiting block owed flood
    → AllByRecursion (IsNearInitial initial) streams'.live → streams'.last ≡ streams.last → IsSmallOwed owed' → IsWithin initial streams' waiting block owed' flood
within-streams initial flood streams streams' waiting block owed owed' w near last credit = record {
  small = w.small;
  near = near;
  last = subst (λ (n : ℕ). n < 2 ^ 31) (sym last) w.last;
  fit = w.fit;
  open_block = w.open_block;
  credit = credit;
  few = w.few;
}

pub owed-small : (stream counted : ℕ) (owed : Option OwedCredit) → owed ≡ owed_if stream counted → stream < 2 ^ 31 → counted ≤ 16384 → IsSmallOwed owed
owed-small stream counted owed is small few = subst IsSmallOwed (sym is) (by (counted == 0))
  where
    by : (b : Bool) → IsSmallOwed (if b then None else Some (record { stream = stream; bytes = counted }))
    by true = tt
    by false = (small, omega (arith, few))

-- a new id
pub within-begun : (initial flood id : ℕ) (streams streams' : Book) (waiting : List Control) (block : Option OpenBlock) (owed : Option OwedCredit) → IsWithin initial streams waiting block owed flood
    → (AllByRecursion (IsNearInitial initial) streams.live → AllByRecursion (IsNearInitial initial) streams'.live) → (streams.last < 2 ^ 31 → streams'.last < 2 ^ 31)
    → IsWithin initial streams' waiting block owed flood
within-begun initial flood id streams streams' waiting block owed w near last = record {
  small = w.small;
  near = near w.near;
  last = last w.last;
  fit = w.fit;
  open_block = w.open_block;
  credit = w.credit;
  few = w.few;
}
