-- Credit is kept of open streams on which many replies wait, and of no others.
use Rattle.std.proofs.Common.{◌≡◌, ℕ, ◌+◌, ◌-◌, ◌<◌, ◌≤◌, ◌==◌, nat_lt, Bool, true, false, not, ◌&&◌, List, [], ◌∷◌, ◌++◌, length, drop, Option, None, Some, refl, sym, ap, ◌∙◌, arith, length-append, true≢false, if◌then◌else◌}
use Rattle.h2_frames.specs.declared.frame.Frame.{Frame}
use Rattle.h2_answers.specs.Replies.{adding_reply, drop_bytes}
use Rattle.h2_record.specs.declared.block.OwedCredit.{OwedCredit}
use Rattle.h2_record.specs.Record.{Record, AnswerPart, In, Out, Given, Whole, Broken, Head, Reply, Tail, Abort}
use Rattle.h2_record.specs.Windows.{data_out}
use Rattle.h2_record.specs.Live.{is_live_with}
use Rattle.h2_record.specs.Resets.{is_live, is_open}
use Rattle.h2_record.specs.Replies.{replies_of, waiting_of}
use Rattle.h2_record.specs.Credits.{owed_of, is_free, most_waiting, kept_by, kept_of}
use Rattle.h2_record.specs.Settling.{settled_kept}
use Rattle.h2_record.proofs.BoolLemmas.{and-first, and-false, lt-true, lt-yes, same-eq, by-test}
use Rattle.h2_record.proofs.StepLemmas.{owed-open, kept-closed, keep-by}

-- credit may be kept of the stream
unfoldable pub is_keeping : Record → ℕ → Bool
is_keeping r id = is_open r id && not (is_free r id)

-- ---- a reply more doesn't let fewer wait

longer-by : (b : Bool) (x y : List ℕ) (xs ys : List (List ℕ)) (m : ℕ) → (length (drop_bytes m xs) ≤ length (drop_bytes m ys)) → length xs ≤ length ys
    → length (if b then x ∷ xs else drop_bytes m xs) ≤ length (if b then x ∷ ys else drop_bytes m ys)
longer-by true x y xs ys m rest more = omega (arith, more)
longer-by false x y xs ys m rest more = rest

longer : (n : ℕ) (replies more : List (List ℕ)) → length (drop_bytes n replies) ≤ length (drop_bytes n (replies ++ more))
longer n [] more = omega arith
longer n (x ∷ xs) more = longer-by (nat_lt n (length x)) (drop n x) (drop n x) xs (xs ++ more) (n - length x) (longer (n - length x) xs more) (omega (arith, length-append xs more))

adding-longer : (n : ℕ) (replies : List (List ℕ)) (reply : List ℕ) → length (drop_bytes n replies) ≤ length (drop_bytes n (adding_reply replies reply))
adding-longer n replies [] = omega arith
adding-longer n replies (byte ∷ bytes) = longer n replies ((byte ∷ bytes) ∷ [])

waits-by : (live b : Bool) (n : ℕ) (replies : List (List ℕ)) (reply : List ℕ)
    → length (if live then drop_bytes n replies else []) ≤ length (if live then drop_bytes n (if b then adding_reply replies reply else replies) else [])
waits-by true true n replies reply = adding-longer n replies reply
waits-by true false n replies reply = omega arith
waits-by false b n replies reply = omega arith

waits-given : (r : Record) (stream : ℕ) (part : AnswerPart) (id : ℕ) → waiting_of r id ≤ waiting_of (Given stream part ∷ r) id
unfolding is_live_with
waits-given r stream (Head fields end) id = omega arith
waits-given r stream (Reply bytes) id = waits-by (is_live r id) (id == stream) (data_out r id) (replies_of r id) bytes
waits-given r stream (Tail fields) id = omega arith
waits-given r stream (Abort code) id = omega arith

-- ---- a frame that came leaves at most as many waiting, and as many where the stream lives

waits-open : (live : Bool) (replies : List (List ℕ)) (now : ℕ) → now ≡ length replies → length (if live then replies else []) ≤ now
waits-open true replies now e = omega (arith, e)
waits-open false replies now e = omega arith

free-less : (less more : ℕ) → less ≤ more → nat_lt more most_waiting ≡ true → nat_lt less most_waiting ≡ true
free-less less more h free = let few : more < most_waiting = lt-true more most_waiting free in lt-yes less most_waiting (omega (arith, h, few))

not-both : (a b : Bool) → (a && not b) ≡ false → a ≡ true → b ≡ true
not-both true true h e = refl
not-both true false h e = absurd (true≢false h)
not-both false b h e = absurd (true≢false (sym e))

not-keeping : (a b : Bool) → b ≡ true → (a && not b) ≡ false
not-keeping a b free = ap (λ b. a && not b) free ∙ and-false a

-- ---- nothing else is kept

kept_by-none : (r : Record) (owed : Option OwedCredit) (id : ℕ) → owed_of r ≡ owed → is_keeping r id ≡ false → kept_by r owed id ≡ 0
unfolding is_keeping
kept_by-none r None id e none = refl
kept_by-none r (Some owed) id e none = by-test (id == owed.stream)
    (λ same.
    let at = same-eq id owed.stream same in
    let free : is_free r owed.stream ≡ true = ap (is_free r) (sym at) ∙ not-both (is_open r id) (is_free r id) none (ap (is_open r) at ∙ owed-open r owed e) in
    (λ i. if same i && not (free i) then owed.bytes else 0))
    (λ apart. ap (λ b. if b && not (is_free r owed.stream) then owed.bytes else 0) apart)

settled-none : (r : Record) (id : ℕ) → kept_of r id ≡ 0 → is_keeping r id ≡ false → settled_kept r id ≡ 0
settled-none r id kept none = (λ i. kept i + kept_by-none r (owed_of r) id refl none i)

came-by : (b : Bool) (kept : ℕ) → (b ≡ true → kept ≡ 0) → (if b then kept else 0) ≡ 0
came-by true kept none = none refl
came-by false kept none = refl

free-came : (r : Record) (frame : Frame) (id : ℕ) → is_open (In frame ∷ r) id ≡ true → is_free (In frame ∷ r) id ≡ true → is_free r id ≡ true
unfolding is_live_with
free-came r frame id opened free =
    let live = and-first _ _ opened in
    let same : waiting_of (In frame ∷ r) id ≡ length (drop_bytes (data_out r id) (replies_of r id)) = ap (λ b. length (if b then drop_bytes (data_out r id) (replies_of r id) else [])) live in
    free-less (waiting_of r id) (waiting_of (In frame ∷ r) id) (waits-open (is_live r id) (drop_bytes (data_out r id) (replies_of r id)) (waiting_of (In frame ∷ r) id) same) free

pub kept-none : (r : Record) (id : ℕ) → is_keeping r id ≡ false → kept_of r id ≡ 0
unfolding is_live_with is_keeping
kept-none [] id none = refl
kept-none (In frame ∷ r) id none = came-by (is_open (In frame ∷ r) id) (settled_kept r id)
    (λ opened.
    let free = free-came r frame id opened (not-both (is_open (In frame ∷ r) id) (is_free (In frame ∷ r) id) none opened) in
    let was = not-keeping (is_open r id) (is_free r id) free in
    settled-none r id (kept-none r id was) was)
kept-none (Out frame ∷ r) id none = ap (λ b. if b then settled_kept r id else 0) none
kept-none (Given stream part ∷ r) id none = by-test (is_open r id)
    (λ opened.
    let free = free-less (waiting_of r id) (waiting_of (Given stream part ∷ r) id) (waits-given r stream part id) (not-both (is_open r id) (is_free (Given stream part ∷ r) id) none opened) in
    kept-none r id (not-keeping (is_open r id) (is_free r id) free))
    (λ shut. kept-closed r id shut)
kept-none (Whole ∷ r) id none = kept-none r id none
kept-none (Broken fault ∷ r) id none = kept-none r id none

pub settled_kept-none : (r : Record) (id : ℕ) → is_keeping r id ≡ false → settled_kept r id ≡ 0
settled_kept-none r id none = settled-none r id (kept-none r id none) none

-- so what is kept of a stream stays, where a frame that went leaves it keeping as it was
pub kept-out : (r : Record) (frame : Frame) (id : ℕ) → is_keeping (Out frame ∷ r) id ≡ is_keeping r id → kept_of (Out frame ∷ r) id ≡ settled_kept r id
unfolding is_keeping
kept-out r frame id same = keep-by (is_keeping r id) (is_keeping (Out frame ∷ r) id) (settled_kept r id) same (settled_kept-none r id)
