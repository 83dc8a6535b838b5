-- What holds of the kept parts, once a frame went.
use Rattle.std.proofs.Common.{◌≡◌, ℕ, Bool, true, false, List, ◌∷◌, Option, None, Some, IfSome, is_some, pos, ◌+ℤ◌, ◌-ℤ◌, ◌≤ℤ◌, ◌++◌, ◌||◌, inl, inr, ◌∙◌, true≢false, arith, refl, sym, ap, subst}
use Rattle.std.proofs.lemmas.Int.{ints}
use Rattle.std.specs.Prelude.{option_map, unwrap_or}
use Rattle.std.specs.List.{AllByRecursion}
use Rattle.std.proofs.lemmas.List.Folds.{list_any-append}
use Rattle.h2_streams.specs.declared.stream.Stream.{Stream}
use Rattle.h2_streams.specs.Book.{Book, find, with_stream}
use Rattle.h2_streams.specs.Calls.{reset_in}
use Rattle.h2_record.specs.declared.block.OpenBlock.{OpenBlock}
use Rattle.h2_record.specs.declared.block.OwedCredit.{OwedCredit}
use Rattle.h2_record.specs.declared.control.Control.{Control}
use Rattle.h2_record.specs.declared.control.Control.TheVariants as control
use Rattle.h2_conn.specs.Within.{IsWithin, FitsFrame}
use Rattle.h2_conn.specs.Producing.{CreditedBy, Leaves, send_on, is_credit_on, is_held_by}
use Rattle.h2_conn.proofs.WithinLemmas.{within-set, within-removed, near-found}

-- other control frames wait
pub within-controls : (initial flood : ℕ) (streams : Book) (waiting waiting' : List Control) (block : Option OpenBlock) (owed : Option OwedCredit) → IsWithin initial streams waiting block owed flood
    → AllByRecursion FitsFrame waiting' → IsWithin initial streams waiting' block owed flood
within-controls initial flood streams waiting waiting' block owed w fit = record {
  small = w.small;
  near = w.near;
  last = w.last;
  fit = fit;
  open_block = w.open_block;
  credit = w.credit;
  few = w.few;
}

pub all-popped : (waiting : List Control) (x : Control) (rest : List Control) → waiting ≡ x ∷ rest → AllByRecursion FitsFrame waiting → FitsFrame x × AllByRecursion FitsFrame rest
all-popped waiting x rest first fit = subst (λ (list : List Control). AllByRecursion FitsFrame list) first fit

module _ (initial flood : ℕ) (streams streams' : Book) (waiting : List Control) (block : Option OpenBlock) (owed : Option OwedCredit) (w : IsWithin initial streams waiting block owed flood) where
  credited-by : (stream add : ℕ) (found : Option Stream) → find streams stream ≡ found → CreditedBy found streams stream add streams' → IsWithin initial streams' waiting block owed flood
  credited-by stream add None e same = subst (λ (b : Book). IsWithin initial b waiting block owed flood) (sym same) w
  credited-by stream add (Some s) e (inl (fits, set)) =
      within-set initial flood streams streams' waiting block owed w stream (record s { receive = s.receive +ℤ pos add }) (ap (λ (b : Book). b.live) set) (ap (λ (b : Book). b.last) set)
      (near-found initial stream streams.live s w.near e)
  credited-by stream add (Some s) e (inr (above, same)) = subst (λ (b : Book). IsWithin initial b waiting block owed flood) (sym same) w

  within-left : (x : Control) → Leaves x streams streams' → IsWithin initial streams' waiting block owed flood
  within-left control.Settings same = subst (λ (b : Book). IsWithin initial b waiting block owed flood) (sym same) w
  within-left control.SettingsAck same = subst (λ (b : Book). IsWithin initial b waiting block owed flood) (sym same) w
  within-left (control.Pong octets) same = subst (λ (b : Book). IsWithin initial b waiting block owed flood) (sym same) w
  within-left (control.Goaway last code) same = subst (λ (b : Book). IsWithin initial b waiting block owed flood) (sym same) w
  within-left (control.Credit stream add) credited = credited-by stream add (find streams stream) refl credited

  -- the first control frame went
  pub within-gone : (x : Control) (rest : List Control) → waiting ≡ x ∷ rest → Leaves x streams streams' → IsWithin initial streams' rest block owed flood
  within-gone x rest first leaves = within-controls initial flood streams' waiting rest block owed (within-left x leaves) (all-popped waiting x rest first w.fit).1

  -- a stream is closed
  pub within-closed : (id : ℕ) (by_server : Bool) → streams' ≡ reset_in streams id by_server → IsWithin initial streams' waiting block owed flood
  within-closed id true same = within-removed initial flood streams streams' waiting block owed w id (ap (λ (b : Book). b.live) same) (ap (λ (b : Book). b.last) same)
  within-closed id false same = within-removed initial flood streams streams' waiting block owed w id (ap (λ (b : Book). b.live) same) (ap (λ (b : Book). b.last) same)

  spent-by : (id len : ℕ) (found : Option Stream) → find streams id ≡ found → is_some found ≡ true → pos len ≤ℤ unwrap_or (option_map (λ (stream : Stream). stream.send) found) (pos 0)
      → IfSome found (λ stream. streams' ≡ with_stream streams id (record stream { send = stream.send -ℤ pos len })) → IsWithin initial streams' waiting block owed flood
  spent-by id len None e there within set = absurd (true≢false (sym there))
  spent-by id len (Some stream) e there within set =
      within-set initial flood streams streams' waiting block owed w id (record stream { send = stream.send -ℤ pos len }) (ap (λ (b : Book). b.live) set) (ap (λ (b : Book). b.last) set)
      (let small = w.small in omega (arith, ints, small, within))

  -- DATA went on it, within its window
  pub within-spent : (id len : ℕ) → is_some (find streams id) ≡ true → pos len ≤ℤ send_on streams id
      → IfSome (find streams id) (λ stream. streams' ≡ with_stream streams id (record stream { send = stream.send -ℤ pos len })) → IsWithin initial streams' waiting block owed flood
  within-spent id len there within set = spent-by id len (find streams id) refl there within set

-- ---- a control frame of a stream waits among these or those

pub held-first : (waiting more : List Control) (id : ℕ) → is_held_by waiting id ≡ true → is_held_by (waiting ++ more) id ≡ true
held-first waiting more id held = list_any-append (is_credit_on id) waiting more ∙ ap (λ b. b || is_held_by more id) held

pub held-latest : (waiting more : List Control) (id : ℕ) → is_held_by waiting id ≡ false → is_held_by (waiting ++ more) id ≡ is_held_by more id
held-latest waiting more id none = list_any-append (is_credit_on id) waiting more ∙ ap (λ b. b || is_held_by more id) none
