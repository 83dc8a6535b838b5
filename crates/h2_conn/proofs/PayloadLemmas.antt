-- A payload that is taken from a live stream's window.
use Rattle.std.proofs.Common.{◌≡◌, ℕ, nat_eq, Bool, true, false, cond, List, [], ◌∷◌, Option, None, Some, Ok, is_some, IfSome, pos, ◌-ℤ◌, refl, sym, ap, subst, ◌∙◌, true≢false, if◌then◌else◌}
use Rattle.std.specs.List.{AllByRecursion}
use Rattle.std.specs.Map.{lookup, set_value}
use Rattle.h2_streams.specs.declared.stream.Stream.{Stream}
use Rattle.h2_streams.specs.Book.{Book, find, with_stream, without}
use Rattle.h2_streams.specs.Calls.{Receives, settled}
use Rattle.h2_conn.specs.Payload.{Pays}
use Rattle.h2_conn.specs.Trailing.{EndsTo}
use Rattle.h2_conn.specs.Within.{IsNearInitial}
use Rattle.h2_record.proofs.BoolLemmas.{same-self, by-test}
use Rattle.h2_conn.proofs.CloseLemmas.{found-set}
use Rattle.h2_conn.proofs.WithinLemmas.{near-set, near-removed, near-found}

set-twice : (id : ℕ) (es : List (ℕ × Stream)) (one two : Stream) → set_value (nat_eq id) (set_value (nat_eq id) es one) two ≡ set_value (nat_eq id) es two
set-twice id [] one two = refl
set-twice id (e ∷ es) one two = by-test (nat_eq id e.0)
    (λ same. (λ i. set_value (nat_eq id) (cond (same i) ((e.0, one) ∷ es) (e ∷ set_value (nat_eq id) es one)) two) ∙ (λ i. cond (same i) ((e.0, two) ∷ es) ((e.0, one) ∷ set_value (nat_eq id) es two))
    ∙ sym (λ i. cond (same i) ((e.0, two) ∷ es) (e ∷ set_value (nat_eq id) es two)))
    (λ apart. (λ i. set_value (nat_eq id) (cond (apart i) ((e.0, one) ∷ es) (e ∷ set_value (nat_eq id) es one)) two)
    ∙ (λ i. cond (apart i) ((e.0, two) ∷ set_value (nat_eq id) es one) (e ∷ set_value (nat_eq id) (set_value (nat_eq id) es one) two))
    ∙ ap (λ rest. e ∷ rest) (set-twice id es one two) ∙ sym (λ i. cond (apart i) ((e.0, two) ∷ es) (e ∷ set_value (nat_eq id) es two)))

pub with-twice : (book : Book) (id : ℕ) (one two : Stream) → with_stream (with_stream book id one) id two ≡ with_stream book id two
with-twice book id one two = λ i. record book { live = set-twice id book.live one two i }

-- the stream that was written is found
pub found-with : (book : Book) (id : ℕ) (stream : Stream) → is_some (find book id) ≡ true → find (with_stream book id stream) id ≡ Some stream
found-with book id stream there = found-set book.live id id stream there ∙ ap (λ b. cond b (Some stream) (lookup (nat_eq id) book.live)) (same-self id)

module _ (old between new : Book) (id counted : ℕ) where
  -- DATA that end the stream
  ending : (o : Option Stream) (u : Unit {0}) → find old id ≡ o → Receives old id counted o (Ok u) between
      → IfSome (find between id) (λ stream. new ≡ settled between id (record stream { ended = true })) → IfSome o (Pays old id true counted true new)
  ending None u found takes ends = absurd (cc (takes.0))
  ending (Some stream) u found takes ends =
      let one : Stream = record stream { receive = stream.receive -ℤ pos counted } in
      let there = ap is_some found in
      let here : find between id ≡ Some one = ap (λ (b : Book). find b id) takes.2 ∙ found-with old id one there in
      let after : new ≡ settled between id (record one { ended = true }) = subst (λ (o : Option Stream). IfSome o (λ stream. new ≡ settled between id (record stream { ended = true }))) here ends in (
        takes.1,
        λ open_side. after ∙ (λ i. if open_side i then without between id else with_stream between id (record one { ended = true }))
            ∙ ap (λ (b : Book). with_stream b id (record one { ended = true })) takes.2 ∙ with-twice old id one (record one { ended = true }),
      )

  pub pays-ending : (u : Unit {0}) → Receives old id counted (find old id) (Ok u) between
      → IfSome (find between id) (λ stream. new ≡ settled between id (record stream { ended = true })) → IfSome (find old id) (Pays old id true counted true new)
  pays-ending u takes ends = ending (find old id) u refl takes ends

  -- the stream is there
  pub there-received : (u : Unit {0}) → Receives old id counted (find old id) (Ok u) between → is_some (find between id) ≡ true
  there-received u takes = by (find old id) refl takes
    where
      by : (o : Option Stream) → find old id ≡ o → Receives old id counted o (Ok u) between → is_some (find between id) ≡ true
      by None found takes = absurd (cc (takes.0))
      by (Some stream) found takes = ap (λ (b : Book). is_some (find b id)) takes.2 ∙ ap is_some (found-with old id (record stream { receive = stream.receive -ℤ pos counted }) (ap is_some found))

  pub near-received : (initial : ℕ) (u : Unit {0}) → Receives old id counted (find old id) (Ok u) between → AllByRecursion (IsNearInitial initial) old.live → AllByRecursion (IsNearInitial initial) between.live
  near-received initial u takes near = by (find old id) refl takes
    where
      by : (o : Option Stream) → find old id ≡ o → Receives old id counted o (Ok u) between → AllByRecursion (IsNearInitial initial) between.live
      by None found takes = absurd (cc (takes.0))
      by (Some stream) found takes = subst (λ (b : Book). AllByRecursion (IsNearInitial initial) b.live) (sym takes.2)
          (near-set initial id (record stream { receive = stream.receive -ℤ pos counted }) old.live (near-found initial id old.live stream near found) near)

  pub last-received : (u : Unit {0}) → Receives old id counted (find old id) (Ok u) between → between.last ≡ old.last
  last-received u takes = by (find old id) takes
    where
      by : (o : Option Stream) → Receives old id counted o (Ok u) between → between.last ≡ old.last
      by None takes = absurd (cc (takes.0))
      by (Some stream) takes = ap (λ (b : Book). b.last) takes.2

-- a side that has ended
near-settled-by : (initial id : ℕ) (book : Book) (stream : Stream) → find book id ≡ Some stream → AllByRecursion (IsNearInitial initial) book.live
    → (b : Bool) → AllByRecursion (IsNearInitial initial) (if b then without book id else with_stream book id (record stream { ended = true })).live
near-settled-by initial id book stream found near true = near-removed initial id book.live near
near-settled-by initial id book stream found near false = near-set initial id (record stream { ended = true }) book.live (near-found initial id book.live stream near found) near

last-settled-by : (id : ℕ) (book : Book) (stream : Stream) (b : Bool) → (if b then without book id else with_stream book id stream).last ≡ book.last
last-settled-by id book stream true = refl
last-settled-by id book stream false = refl

pub near-settled : (initial id : ℕ) (book new : Book) → is_some (find book id) ≡ true → IfSome (find book id) (λ stream. new ≡ settled book id (record stream { ended = true }))
    → AllByRecursion (IsNearInitial initial) book.live → AllByRecursion (IsNearInitial initial) new.live
near-settled initial id book new there ends near = by (find book id) refl there ends
  where
    by : (o : Option Stream) → find book id ≡ o → is_some o ≡ true → IfSome o (λ stream. new ≡ settled book id (record stream { ended = true })) → AllByRecursion (IsNearInitial initial) new.live
    by None found there ends = absurd (true≢false (sym there))
    by (Some stream) found there ends = subst (λ (b : Book). AllByRecursion (IsNearInitial initial) b.live) (sym ends) (near-settled-by initial id book stream found near stream.answered)

pub last-settled : (id : ℕ) (book new : Book) → is_some (find book id) ≡ true → IfSome (find book id) (λ stream. new ≡ settled book id (record stream { ended = true })) → new.last ≡ book.last
last-settled id book new there ends = by (find book id) there ends
  where
    by : (o : Option Stream) → is_some o ≡ true → IfSome o (λ stream. new ≡ settled book id (record stream { ended = true })) → new.last ≡ book.last
    by None there ends = absurd (true≢false (sym there))
    by (Some stream) there ends = ap (λ (b : Book). b.last) ends ∙ last-settled-by id book (record stream { ended = true }) stream.answered

-- a stream that is written as it was
set-same : (id : ℕ) (es : List (ℕ × Stream)) (stream : Stream) → lookup (nat_eq id) es ≡ Some stream → set_value (nat_eq id) es stream ≡ es
set-same id [] stream found = refl
set-same id (e ∷ es) stream found = by (nat_eq id e.0) found (set-same id es stream)
  where
    by : (b : Bool) → cond b (Some e.1) (lookup (nat_eq id) es) ≡ Some stream → (lookup (nat_eq id) es ≡ Some stream → set_value (nat_eq id) es stream ≡ es)
        → cond b ((e.0, stream) ∷ es) (e ∷ set_value (nat_eq id) es stream) ≡ e ∷ es
    by true found rest = let same : e.1 ≡ stream = cc in λ i. (e.0, sym same i) ∷ es
    by false found rest = ap (λ l. e ∷ l) (rest found)

pub ends-nothing : (book : Book) (id : ℕ) (ended : Bool) → ended ≡ false → IfSome (find book id) (EndsTo book id ended book)
ends-nothing book id ended going = by (find book id) refl
  where
    by : (o : Option Stream) → find book id ≡ o → IfSome o (EndsTo book id ended book)
    by None found = tt
    by (Some stream) found = λ open_side unanswered.
        let same : record stream { ended = ended } ≡ stream = λ i. record stream { ended = (going ∙ sym open_side) i } in
        sym ((λ i. with_stream book id (same i)) ∙ (λ i. record book { live = set-same id book.live stream found i }))
