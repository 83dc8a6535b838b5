-- Where the tags of the fields of one number stand.
use Rattle.std.proofs.Common.{◌≡◌, ℕ, ◌+◌, ◌-◌, ◌<◌, ◌≤◌, true, false, cond, List, [], ◌∷◌, ◌++◌, length, drop, Option, Some, None, is_some, Result, Ok, Err, IfOk, refl, sym, ap, ◌∙◌, append_assoc, length-append, arith}
use Rattle.std.specs.Prelude.{slice_get}
use Rattle.std.specs.Option.{option_map}
use Rattle.std.proofs.lemmas.List.{append-nil}
use Rattle.std.proofs.lemmas.Option.{slice_get_past, slice_get-get_or}
use Rattle.std.proofs.Math.Seq.{get_or-append_seam}
use Rattle.std.proofs.lemmas.List.Elements.{filter_map-append}
use Rattle.outside.specs.declared.blobs.Span.{Span}
use Rattle.proto_fields.specs.declared.field.Field.{Field}
use Rattle.proto_fields.specs.Record.{record_at}
use Rattle.proto_fields.specs.Message.{Placed, placed_from, placed_of}
use Rattle.proto_fields.specs.Selection.{last_of, tag_for, tags_of}
use Rattle.proto_fields.specs.Spans.{part, record_in, span_for}
use Rattle.proto_fields.proofs.MessageLemmas.{HasSeen, HasSeen-none, HasSeen-more, HasSeen-all, with_front}
use Rattle.proto_fields.proofs.SelectionLemmas.{bytes_for-record_in, last_of-push}

-- a field of the message where it stands
abbrev stands : List ℕ → ℕ → ℕ → Field → Placed
stands message at next field = record { tag = at; end = next; content = record_in message field }

tag_of_span : (at : ℕ) (bytes : List ℕ) (span : Option Span) → option_map (λ _. at) (option_map (part bytes) span) ≡ cond (is_some span) (Some at) None
tag_of_span at bytes None = refl
tag_of_span at bytes (Some span) = refl

tag_for-stands : (message : List ℕ) (number at next : ℕ) (field : Field) → tag_for number (stands message at next field) ≡ cond (is_some (span_for number field)) (Some at) None
tag_for-stands message number at next field = ap (option_map (λ _. at)) (bytes_for-record_in message number field) ∙ tag_of_span at message (span_for number field)

tags_of-some : (message : List ℕ) (number at next : ℕ) (field : Field) (seen : List Placed) → is_some (span_for number field) ≡ true → tags_of number (seen ++ stands message at next field ∷ []) ≡ tags_of number seen ++ at ∷ []
tags_of-some message number at next field seen h = rw (filter_map-append (tag_for number) seen (stands message at next field ∷ []), tag_for-stands message number at next field, h) refl

tags_of-none : (message : List ℕ) (number at next : ℕ) (field : Field) (seen : List Placed) → is_some (span_for number field) ≡ false → tags_of number (seen ++ stands message at next field ∷ []) ≡ tags_of number seen
tags_of-none message number at next field seen h = rw (filter_map-append (tag_for number) seen (stands message at next field ∷ []), tag_for-stands message number at next field, h) (append-nil (tags_of number seen))

-- the last tag up to a place
pub record HasLast (message : List ℕ) (number at : ℕ) (last : Option ℕ) : Type 0 where
  pub seen : List Placed
  pub so_far : HasSeen message seen at
  pub last_is : last ≡ last_of (tags_of number seen)

pub HasLast-none : (message : List ℕ) (number : ℕ) → HasLast message number 0 None
HasLast-none message number = record { seen = []; so_far = HasSeen-none message; last_is = refl }

pub HasLast-some : (message : List ℕ) (number at next : ℕ) (field : Field) (last : Option ℕ) → HasLast message number at last → at < next → next ≤ length message → record_at (drop at message) ≡ Some (record_in message field, drop next message) → is_some (span_for number field) ≡ true → HasLast message number next (Some at)
HasLast-some message number at next field last h further ends e found =
    record {
      seen = h.seen ++ stands message at next field ∷ [];
      so_far = HasSeen-more message h.seen at next (record_in message field) h.so_far further ends e;
      last_is = sym (ap last_of (tags_of-some message number at next field h.seen found) ∙ last_of-push (tags_of number h.seen) at);
    }

pub HasLast-same : (message : List ℕ) (number at next : ℕ) (field : Field) (last : Option ℕ) → HasLast message number at last → at < next → next ≤ length message → record_at (drop at message) ≡ Some (record_in message field, drop next message) → is_some (span_for number field) ≡ false → HasLast message number next last
HasLast-same message number at next field last h further ends e found =
    record {
      seen = h.seen ++ stands message at next field ∷ [];
      so_far = HasSeen-more message h.seen at next (record_in message field) h.so_far further ends e;
      last_is = h.last_is ∙ sym (ap last_of (tags_of-none message number at next field h.seen found));
    }

pub HasLast-all : (message : List ℕ) (number at : ℕ) (last : Option ℕ) → HasLast message number at last → length message ≤ at → IfOk (placed_of message) (λ placed. last ≡ last_of (tags_of number placed))
HasLast-all message number at last h past = rw (HasSeen-all message h.seen at h.so_far past) h.last_is

-- What can't be read has no fields to speak of.
pub IfOk-bad : (message : List ℕ) (at : ℕ) (P : List Placed → Type 0) → placed_of message ≡ Err at → IfOk (placed_of message) P
IfOk-bad message at P e = rw e tt

-- how many tags were passed up to a place
pub record HasPassed (message : List ℕ) (number n at left : ℕ) : Type 0 where
  pub seen : List Placed
  pub so_far : HasSeen message seen at
  pub passed : length (tags_of number seen) + left ≡ n

pub HasPassed-none : (message : List ℕ) (number n : ℕ) → HasPassed message number n 0 n
HasPassed-none message number n = record { seen = []; so_far = HasSeen-none message; passed = omega arith }

pub HasPassed-some : (message : List ℕ) (number n at next left : ℕ) (field : Field) → HasPassed message number n at left → at < next → next ≤ length message → record_at (drop at message) ≡ Some (record_in message field, drop next message) → is_some (span_for number field) ≡ true → 0 < left → HasPassed message number n next (left - 1)
HasPassed-some message number n at next left field h further ends e found more =
    let size : length (tags_of number (h.seen ++ stands message at next field ∷ [])) ≡ length (tags_of number h.seen) + 1 = ap length (tags_of-some message number at next field h.seen found) ∙ length-append (tags_of number h.seen) (at ∷ []) in
    record {
      seen = h.seen ++ stands message at next field ∷ [];
      so_far = HasSeen-more message h.seen at next (record_in message field) h.so_far further ends e;
      passed = omega (arith, size, h.passed);
    }

pub HasPassed-same : (message : List ℕ) (number n at next left : ℕ) (field : Field) → HasPassed message number n at left → at < next → next ≤ length message → record_at (drop at message) ≡ Some (record_in message field, drop next message) → is_some (span_for number field) ≡ false → HasPassed message number n next left
HasPassed-same message number n at next left field h further ends e found =
    record {
      seen = h.seen ++ stands message at next field ∷ [];
      so_far = HasSeen-more message h.seen at next (record_in message field) h.so_far further ends e;
      passed = ap (λ (tags : List ℕ). length tags + left) (tags_of-none message number at next field h.seen found) ∙ h.passed;
    }

-- the element behind a front
slice_get-front : (xs ys : List ℕ) (x : ℕ) → slice_get (xs ++ x ∷ ys) (length xs) ≡ Some x
slice_get-front xs ys x =
    slice_get-get_or (xs ++ x ∷ ys) (length xs) 0 (omega (arith, length-append xs (x ∷ ys))) ∙ ap (λ (y : ℕ). Some y) (get_or-append_seam xs x ys 0)

-- the tag behind those that were passed, whatever follows it
tag-here : (number at : ℕ) (seen : List Placed) (p : Placed) (others : Result (List Placed) ℕ) → tags_of number (seen ++ p ∷ []) ≡ tags_of number seen ++ at ∷ []
    → IfOk (with_front (seen ++ p ∷ []) others) (λ placed. Some at ≡ slice_get (tags_of number placed) (length (tags_of number seen)))
tag-here number at seen p (Err bad) h = tt
tag-here number at seen p (Ok others) h =
    let all : tags_of number ((seen ++ p ∷ []) ++ others) ≡ tags_of number seen ++ at ∷ tags_of number others =
    filter_map-append (tag_for number) (seen ++ p ∷ []) others ∙ ap (λ (tags : List ℕ). tags ++ tags_of number others) h ∙ append_assoc (tags_of number seen) (at ∷ []) (tags_of number others) in
    sym (ap (λ (tags : List ℕ). slice_get tags (length (tags_of number seen))) all ∙ slice_get-front (tags_of number seen) (tags_of number others) at)

pub HasPassed-here : (message : List ℕ) (number n at next left : ℕ) (field : Field) → HasPassed message number n at left → at < next → next ≤ length message → record_at (drop at message) ≡ Some (record_in message field, drop next message) → is_some (span_for number field) ≡ true → left ≡ 0
    → IfOk (placed_of message) (λ placed. Some at ≡ slice_get (tags_of number placed) n)
HasPassed-here message number n at next left field h further ends e found none =
    let passed : length (tags_of number h.seen) ≡ n = omega (arith, h.passed) in
    let p : Placed = stands message at next field in
    let more = HasSeen-more message h.seen at next (record_in message field) h.so_far further ends e in
    rw (← passed, ← more.so_far) (tag-here number at h.seen p (placed_from next (drop next message) 0) (tags_of-some message number at next field h.seen found))

pub HasPassed-all : (message : List ℕ) (number n at left : ℕ) → HasPassed message number n at left → length message ≤ at → IfOk (placed_of message) (λ placed. None ≡ slice_get (tags_of number placed) n)
HasPassed-all message number n at left h past =
    rw (HasSeen-all message h.seen at h.so_far past) (sym (slice_get_past (tags_of number h.seen) n (omega (arith, h.passed))))
