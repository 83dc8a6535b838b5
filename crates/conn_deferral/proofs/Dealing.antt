-- A connection and what its caller has left to give.
use Rattle.std.proofs.Common.{◌≡◌, ◌⊎◌, inl, inr, ℕ, ◌==◌, Bool, true, false, not, ◌&&◌, ◌||◌, List, [], ◌∷◌, ◌++◌, length, Option, None, Some, refl, sym, ap, subst, ◌∙◌, true≢false, length-append, arith, if◌then◌else◌}
use Rattle.h2_frames.specs.declared.frame.Frame.{Frame}
use Rattle.h2_record.specs.Record.{Record, AnswerPart, In, Out, Given, any_in, any_out}
use Rattle.h2_record.specs.Live.{Reset, opens, cancels, ends, finishes, is_reset, is_live_with}
use Rattle.h2_record.specs.Resets.{reset_by, reset_behind, with_reset, resets_of, is_live}
use Rattle.h2_record.specs.Faults.{first_fault_of}
use Rattle.h2_record.specs.Texts.{Token, part_text, given_text}
use Rattle.h2_record.specs.Written.{EachWasDue}
use Rattle.h2_record.proofs.BoolLemmas.{or-second, or-true, and-first, and-second, same-self, same-eq, by-test}
use Rattle.h2_conn.specs.Held.{Held}
use Rattle.h2_conn.specs.Stands.{Stands}
use Rattle.conn_record.specs.Written.{with_outs, AreDue}
use Rattle.conn_record.specs.Giving.{EachWasGiven}
use Rattle.conn_record.proofs.Giving.{unopened-nothing}
use Rattle.conn_deferral.specs.Deferred.{Dealing, IsClosed, Deals}
use Rattle.conn_deferral.specs.Laws.{DealingBegins, DealsOn, DealsRest, GivesPart, LeavesLess, DealsPart, LetsGo, DealsLess, DealsIn}
use Rattle.conn_deferral.proofs.Dues.{sound-both, came-both, defers-in, defers-late, defers-outs, all-due-over}

pub dealing-begins : DealingBegins
dealing-begins dealing stands none = record {
  given = [];
  left = dealing.left;
  stands = stands;
  defers = record { same = refl; text = none; ended = λ id. inl (none id) };
  has = λ id. inl refl;
  was_open = tt;
  was_due = tt;
}

-- ---- a closed stream stays closed

unreset : (resets : List Reset) (reset : Option Reset) (id : ℕ) → is_reset (with_reset resets reset) id ≡ false → is_reset resets id ≡ false
unreset resets None id e = e
unreset resets (Some reset) id e = or-second (id == reset.stream) (is_reset resets id) e

not-true : (b : Bool) → not b ≡ true → b ≡ false
not-true true e = absurd (true≢false (sym e))
not-true false e = refl

both-less : (more ended more' done : Bool) → ((more || ended) && (more' || done)) ≡ false → (ended && done) ≡ false
both-less more true more' true e = absurd (true≢false (sym (λ i. or-true more i && or-true more' i) ∙ e))
both-less more true more' false e = refl
both-less more false more' done e = refl

-- a stream that was open before and lives behind a frame lived before it
module _ (resets : List Reset) (reset : Option Reset) (r now : Record) (id : ℕ) (was : any_in (opens id) r ≡ true) where
  lived : (cancelled ended finished : Bool) → any_in (cancels id) now ≡ (cancelled || any_in (cancels id) r) → any_in (ends id) now ≡ (ended || any_in (ends id) r) → any_out (finishes id) now ≡ (finished || any_out (finishes id) r)
      → is_live_with (with_reset resets reset) now id ≡ true → is_live_with resets r id ≡ true
  unfolding is_live_with
  lived cancelled ended finished cancels_are ends_are finishes_are live =
      let a = any_in (opens id) now in
      let b = not (0 == id) in
      let c = not (is_reset (with_reset resets reset) id) in
      let d = not (any_in (cancels id) now) in
      let e = not (any_in (ends id) now && any_out (finishes id) now) in
      let some : not (0 == id) ≡ true = and-second a b (and-first (a && b) c (and-first (a && b && c) d (and-first (a && b && c && d) e live))) in
      let kept : is_reset resets id ≡ false = unreset resets reset id (not-true (is_reset (with_reset resets reset) id) (and-second (a && b) c (and-first (a && b && c) d (and-first (a && b && c && d) e live)))) in
      let going : any_in (cancels id) r ≡ false = or-second cancelled (any_in (cancels id) r) (sym cancels_are ∙ not-true (any_in (cancels id) now) (and-second (a && b && c) d (and-first (a && b && c && d) e live))) in
      let unended : (any_in (ends id) r && any_out (finishes id) r) ≡ false =
      both-less ended (any_in (ends id) r) finished (any_out (finishes id) r)
      ((λ i. sym ends_are i && sym finishes_are i) ∙ not-true (any_in (ends id) now && any_out (finishes id) now) (and-second (a && b && c && d) e live)) in
      (λ i. was i && some i && not (kept i) && not (going i) && not (unended i))

still-shut : (b now : Bool) → (now ≡ true → b ≡ true) → b ≡ false → now ≡ false
still-shut b true lives shut = absurd (true≢false (sym (lives refl) ∙ shut))
still-shut b false lives shut = refl

pub closed-in : (r : Record) (frame : Frame) (id : ℕ) → IsClosed r id → IsClosed (In frame ∷ r) id
closed-in r frame id closed = (
  ap (λ (b : Bool). opens id frame || b) closed.0 ∙ or-true (opens id frame),
  still-shut (is_live r id) (is_live (In frame ∷ r) id)
      (lived (resets_of r) (reset_by (resets_of r) r frame) r (In frame ∷ r) id closed.0 (cancels id frame) (ends id frame) false refl refl refl) closed.1,
)

pub closed-out : (r : Record) (frame : Frame) (id : ℕ) → IsClosed r id → IsClosed (Out frame ∷ r) id
closed-out r frame id closed = (
  closed.0,
  still-shut (is_live r id) (is_live (Out frame ∷ r) id)
      (lived (resets_of r) (reset_behind (resets_of r) r frame) r (Out frame ∷ r) id closed.0 false false (finishes id frame) refl refl refl) closed.1,
)

pub closed-given : (r : Record) (stream : ℕ) (part : AnswerPart) (id : ℕ) → IsClosed r id → IsClosed (Given stream part ∷ r) id
unfolding is_live_with
closed-given r stream part id closed = closed

closed-outs : (r : Record) (frames : List Frame) (id : ℕ) → IsClosed r id → IsClosed (with_outs r frames) id
closed-outs r [] id closed = closed
closed-outs r (frame ∷ frames) id closed = closed-outs (Out frame ∷ r) frames id (closed-out r frame id closed)

-- ---- frames go

open-outs : (r : Record) (frames : List Frame) → EachWasGiven r → EachWasGiven (with_outs r frames)
open-outs r [] each = each
open-outs r (frame ∷ frames) each = open-outs (Out frame ∷ r) frames each

due-outs : (r : Record) (frames : List Frame) → EachWasDue r → AreDue r frames → EachWasDue (with_outs r frames)
due-outs r [] each due = each
due-outs r (frame ∷ frames) each due = due-outs (Out frame ∷ r) frames (due.0, each) due.1

has-outs : (r : Record) (frames : List Frame) (left kept : ℕ → List Token) (id : ℕ) → (left id ≡ kept id) ⊎ IsClosed r id → (left id ≡ kept id) ⊎ IsClosed (with_outs r frames) id
has-outs r frames left kept id (inl same) = inl same
has-outs r frames left kept id (inr closed) = inr (closed-outs r frames id closed)

pub deals-on : DealsOn
deals-on old new frames decided sends d = (
  all-due-over d.given decided d.left frames d.defers (sends.due d.given d.stands),
  record {
    given = with_outs d.given frames;
    left = d.left;
    stands = sends.stands d.given d.stands;
    defers = defers-outs d.given decided d.left frames d.defers;
    has = λ id. has-outs d.given frames old.left d.left id (d.has id);
    was_open = open-outs d.given frames d.was_open;
    was_due = due-outs d.given frames d.was_due (sends.due d.given d.stands);
  },
)

pub deals-rest : DealsRest
unfolding deals-on
deals-rest old new frames decided room sends none d = record { deals = (deals-on old new frames decided sends d).1; none = none d.given d.stands }

-- ---- a frame comes

has-in : (r : Record) (frame : Frame) (old new kept : List Token) (id : ℕ) → new ≡ old → (old ≡ kept) ⊎ IsClosed r id → (new ≡ kept) ⊎ IsClosed (In frame ∷ r) id
has-in r frame old new kept id same (inl is) = inl (same ∙ is)
has-in r frame old new kept id same (inr closed) = inr (closed-in r frame id closed)

pub deals-in : DealsIn
deals-in old new frame decided stands same d = record {
  given = In frame ∷ d.given;
  left = d.left;
  stands = stands d.given d.stands;
  defers = defers-in d.given decided d.left d.defers frame;
  has = λ id. has-in d.given frame (old.left id) (new.left id) (d.left id) id (same id) (d.has id);
  was_open = d.was_open;
  was_due = d.was_due;
}

-- ---- a part is given

module _ (old new : Dealing) (stream : ℕ) (part : AnswerPart) (decided : Record) (less : LeavesLess old new stream part) (d : Deals old decided) (live : is_live d.given stream ≡ true) where
  -- what the caller has on a live stream is what is left on it
  has-all : (dealing_left kept : List Token) (id : ℕ) → is_live d.given id ≡ true → (dealing_left ≡ kept) ⊎ IsClosed d.given id → dealing_left ≡ kept
  has-all dealing_left kept id live (inl is) = is
  has-all dealing_left kept id live (inr closed) = absurd (true≢false (sym live ∙ closed.1))

  -- and afterwards
  abbrev after : ℕ → List Token
  after id = if id == stream then new.left id else d.left id

  next : d.left stream ≡ part_text part ++ after stream
  next = sym (has-all (old.left stream) (d.left stream) stream live (d.has stream)) ∙ less.next ∙ ap (λ (b : Bool). part_text part ++ (if b then new.left stream else d.left stream)) (sym (same-self stream))

  others : (id : ℕ) → (id == stream) ≡ false → after id ≡ d.left id
  others id apart = ap (λ (b : Bool). if b then new.left id else d.left id) apart

  ended-there : (d.left stream ≡ []) ⊎ (any_in (ends stream) d.given ≡ true) → any_in (ends stream) d.given ≡ true
  ended-there (inl none) = absurd (less.some (has-all (old.left stream) (d.left stream) stream live (d.has stream) ∙ none))
  ended-there (inr ended) = ended

  has-after : (id : ℕ) (b : Bool) → (id == stream) ≡ b → (old.left id ≡ d.left id) ⊎ IsClosed d.given id → (new.left id ≡ (if b then new.left id else d.left id)) ⊎ IsClosed (Given stream part ∷ d.given) id
  has-after id true here has = inl refl
  has-after id false apart (inl is) = inl (less.others id apart ∙ is)
  has-after id false apart (inr closed) = inr (closed-given d.given stream part id closed)

  given-part : GivesPart old.conn new.conn stream part → first_fault_of d.given ≡ None → Deals new decided
  given-part gives sound = record {
    given = Given stream part ∷ d.given;
    left = after;
    stands = (gives d.given d.stands sound d.was_open d.was_due).0;
    defers = defers-late d.given decided d.left d.defers stream part after (ended-there (d.defers.ended stream)) others next;
    has = λ id. has-after id (id == stream) refl (d.has id);
    was_open = ((gives d.given d.stands sound d.was_open d.was_due).1, d.was_open);
    was_due = d.was_due;
  }

pub deals-part : DealsPart
deals-part old new stream part decided gives less sound d =
    let given_sound : first_fault_of d.given ≡ None = sound-both d.given decided d.defers.same ∙ sound in
    given-part old new stream part decided less d (gives d.given d.stands given_sound d.was_open d.was_due).1.live gives given_sound

-- ---- what is left on a closed stream is let go

module _ (old new : Dealing) (stream : ℕ) (decided : Record) (goes : LetsGo old new stream) (some : old.left stream ≡ [] → ⊥) (d : Deals old decided) (opened : EachWasGiven decided) where
  -- something was decided on it, so that it was opened
  was-opened : (dealing_left kept : List Token) → (dealing_left ≡ [] → ⊥) → (dealing_left ≡ kept) ⊎ IsClosed d.given stream → given_text d.given stream ++ kept ≡ given_text decided stream → any_in (opens stream) d.given ≡ true
  was-opened dealing_left kept some (inr closed) text = closed.0
  was-opened dealing_left [] some (inl is) text = absurd (some is)
  was-opened dealing_left (token ∷ behind) some (inl is) text = by-test (any_in (opens stream) decided && not (0 == stream))
      (λ begun. came-both d.given decided d.defers.same (opens stream) ∙ and-first (any_in (opens stream) decided) (not (0 == stream)) begun)
      (λ unbegun. absurd (omega (arith, ap length (text ∙ unopened-nothing decided stream opened unbegun), length-append (given_text d.given stream) (token ∷ behind))))

  has-less : (id : ℕ) (b : Bool) → (id == stream) ≡ b → is_live d.given stream ≡ false → (new.left id ≡ d.left id) ⊎ IsClosed d.given id
  has-less id true here shut =
      subst (λ (n : ℕ). (new.left n ≡ d.left n) ⊎ IsClosed d.given n) (sym (same-eq id stream here))
      (inr (was-opened (old.left stream) (d.left stream) some (d.has stream) (d.defers.text stream), shut))
  has-less id false apart shut = subst (λ (l : List Token). (l ≡ d.left id) ⊎ IsClosed d.given id) (sym (goes.others id apart)) (d.has id)

pub deals-less : DealsLess
deals-less old new stream decided goes some shut sound opened d =
    let given_sound : first_fault_of d.given ≡ None = sound-both d.given decided d.defers.same ∙ sound in
    record {
      given = d.given;
      left = d.left;
      stands = subst (λ (c : Held). Stands c d.given) (sym goes.conn) d.stands;
      defers = d.defers;
      has = λ id. has-less old new stream decided goes some d opened id (id == stream) refl (shut d.given d.stands given_sound);
      was_open = d.was_open;
      was_due = d.was_due;
    }
