-- Replies by their bytes: what is added, what is dropped from the front, and what is copied of it.
use Rattle.std.proofs.Common.{◌≡◌, ℕ, zero, suc, ◌+◌, ◌-◌, ◌^◌, ◌<◌, ◌≤◌, Bool, true, false, List, [], ◌∷◌, ◌++◌, length, take, drop, get_or, refl, sym, ap, subst, ◌∙◌, arith, append_assoc, length-append, length-drop}
use Rattle.std.specs.Prelude.{nat_lt}
use Rattle.std.specs.List.{concat, AllByRecursion}
use Rattle.std.proofs.lemmas.Bool.{ltb-true, ltb-false, lt-ltb, le-ltb}
use Rattle.std.proofs.lemmas.List.{append-nil, take-append-le, drop-append-le, drop-drop}
use Rattle.std.proofs.Math.Seq.{take-append-add, drop-append-add, take-length}
use Rattle.h2_answers.specs.Replies.{IsUnwritten, adding_reply, drop_bytes}
use Rattle.h2_answers.specs.Kept.{unwritten, AreReplies}

-- ---- what is added

pub adding-reply : (replies : List (List ℕ)) (reply : List ℕ) → 0 < length reply → adding_reply replies reply ≡ replies ++ reply ∷ []
adding-reply replies [] some = absurd (omega arith)
adding-reply replies (byte ∷ bytes) some = refl

pub concat-append : (xs ys : List (List ℕ)) → concat (xs ++ ys) ≡ concat xs ++ concat ys
concat-append [] ys = refl
concat-append (x ∷ xs) ys = ap (λ r. x ++ r) (concat-append xs ys) ∙ sym (append_assoc x (concat xs) (concat ys))

pub concat-push : (replies : List (List ℕ)) (reply : List ℕ) → concat (replies ++ reply ∷ []) ≡ concat replies ++ reply
concat-push replies reply = concat-append replies (reply ∷ []) ∙ ap (λ r. concat replies ++ r) (append-nil reply)

pub concat-adding : (replies : List (List ℕ)) (reply : List ℕ) → concat (adding_reply replies reply) ≡ concat replies ++ reply
concat-adding replies [] = sym (append-nil (concat replies))
concat-adding replies (byte ∷ bytes) = concat-push replies (byte ∷ bytes)

All-push : (xs : List (List ℕ)) (x : List ℕ) → AllByRecursion IsUnwritten xs → 0 < length x → AllByRecursion IsUnwritten (xs ++ x ∷ [])
All-push [] x all h = (h, tt)
All-push (y ∷ ys) x all h = (all.0, All-push ys x all.1 h)

pub unwritten-push : (at : ℕ) (kept : List (List ℕ)) (reply : List ℕ) → (kept ≡ [] → at ≡ 0) → unwritten at (kept ++ reply ∷ []) ≡ unwritten at kept ++ reply ∷ []
unwritten-push at [] reply none = rw (none refl) refl
unwritten-push at (x ∷ xs) reply none = refl

pushed-none : (at : ℕ) (kept : List (List ℕ)) (reply : List ℕ) → kept ++ reply ∷ [] ≡ [] → at ≡ 0
pushed-none at kept reply e = absurd (omega (arith, ap length e, length-append kept (reply ∷ [])))

pub AreReplies-push : (at : ℕ) (kept : List (List ℕ)) (waiting : ℕ) (reply : List ℕ) → AreReplies at kept waiting → 0 < length reply → waiting + length reply ≤ 2 ^ 62
    → AreReplies at (kept ++ reply ∷ []) (waiting + length reply)
AreReplies-push at kept waiting reply h some few =
    let e = unwritten-push at kept reply h.none in
    record {
      each = rw e (All-push (unwritten at kept) reply h.each some);
      none = pushed-none at kept reply;
      counted = rw (e, concat-push (unwritten at kept) reply, length-append (concat (unwritten at kept)) reply) (ap (λ n. n + length reply) h.counted);
      few = few;
    }

-- ---- what is dropped

drop-within : (n : ℕ) (x : List ℕ) (rest : List (List ℕ)) → n < length x → drop_bytes n (x ∷ rest) ≡ drop n x ∷ rest
drop-within n x rest h = rw (lt-ltb n (length x) h) refl

drop-past : (n : ℕ) (x : List ℕ) (rest : List (List ℕ)) → length x ≤ n → drop_bytes n (x ∷ rest) ≡ drop_bytes (n - length x) rest
drop-past n x rest h = rw (le-ltb n (length x) h) refl

drop-nil : (n : ℕ) → (let none : List ℕ = [] in drop n none ≡ none)
drop-nil zero = refl
drop-nil (suc n) = refl

drop-all : (n : ℕ) (x y : List ℕ) → length x ≤ n → drop (n - length x) y ≡ drop n (x ++ y)
drop-all n x y h =
    let e : length x + (n - length x) ≡ n = omega arith in
    sym (drop-append-add x y (n - length x)) ∙ ap (λ k. drop k (x ++ y)) e

pub concat-drop_bytes : (n : ℕ) (replies : List (List ℕ)) → concat (drop_bytes n replies) ≡ drop n (concat replies)
concat-drop_bytes n [] = sym (drop-nil n)
concat-drop_bytes n (x ∷ xs) = by (nat_lt n (length x)) refl (concat-drop_bytes (n - length x) xs)
  where
    by : (b : Bool) → nat_lt n (length x) ≡ b → concat (drop_bytes (n - length x) xs) ≡ drop (n - length x) (concat xs) → concat (drop_bytes n (x ∷ xs)) ≡ drop n (x ++ concat xs)
    by true q later =
        let h = ltb-true n (length x) q in
        let le : n ≤ length x = omega arith in
        ap concat (drop-within n x xs h) ∙ sym (drop-append-le n x (concat xs) le)
    by false q later =
        let h = ltb-false n (length x) q in
        ap concat (drop-past n x xs h) ∙ later ∙ drop-all n x (concat xs) h

pub drop_bytes-drop_bytes : (m n : ℕ) (replies : List (List ℕ)) → drop_bytes n (drop_bytes m replies) ≡ drop_bytes (m + n) replies
drop_bytes-drop_bytes m n [] = refl
drop_bytes-drop_bytes m n (x ∷ xs) = by (nat_lt m (length x)) refl (drop_bytes-drop_bytes (m - length x) n xs)
  where
    within : m < length x → (b : Bool) → nat_lt (m + n) (length x) ≡ b → drop_bytes n (drop m x ∷ xs) ≡ drop_bytes (m + n) (x ∷ xs)
    within h true q =
        let sum = ltb-true (m + n) (length x) q in
        let small : n < length (drop m x) = omega (arith, length-drop m x) in
        drop-within n (drop m x) xs small ∙ ap (λ y. y ∷ xs) (drop-drop n m x) ∙ sym (drop-within (m + n) x xs sum)
    within h false q =
        let sum = ltb-false (m + n) (length x) q in
        let large : length (drop m x) ≤ n = omega (arith, length-drop m x) in
        let e : n - length (drop m x) ≡ m + n - length x = omega (arith, length-drop m x) in
        drop-past n (drop m x) xs large ∙ ap (λ k. drop_bytes k xs) e ∙ sym (drop-past (m + n) x xs sum)

    by : (b : Bool) → nat_lt m (length x) ≡ b → drop_bytes n (drop_bytes (m - length x) xs) ≡ drop_bytes (m - length x + n) xs
        → drop_bytes n (drop_bytes m (x ∷ xs)) ≡ drop_bytes (m + n) (x ∷ xs)
    by true q later =
        let h = ltb-true m (length x) q in
        ap (drop_bytes n) (drop-within m x xs h) ∙ within h (nat_lt (m + n) (length x)) refl
    by false q later =
        let h = ltb-false m (length x) q in
        let past : length x ≤ m + n = omega arith in
        let e : m - length x + n ≡ m + n - length x = omega arith in
        ap (drop_bytes n) (drop-past m x xs h) ∙ later ∙ ap (λ k. drop_bytes k xs) e ∙ sym (drop-past (m + n) x xs past)

drop-push : (n : ℕ) (replies : List (List ℕ)) (reply : List ℕ) → 0 < length reply → n ≤ length (concat replies) → drop_bytes n (replies ++ reply ∷ []) ≡ drop_bytes n replies ++ reply ∷ []
drop-push n [] reply some h =
    let e : n ≡ 0 = omega arith in
    rw (e, drop-within 0 reply [] some) refl
drop-push n (x ∷ xs) reply some h = by (nat_lt n (length x)) refl (drop-push (n - length x) xs reply some)
  where
    by : (b : Bool) → nat_lt n (length x) ≡ b → (n - length x ≤ length (concat xs) → drop_bytes (n - length x) (xs ++ reply ∷ []) ≡ drop_bytes (n - length x) xs ++ reply ∷ [])
        → drop_bytes n ((x ∷ xs) ++ reply ∷ []) ≡ drop_bytes n (x ∷ xs) ++ reply ∷ []
    by true q later =
        let lt = ltb-true n (length x) q in
        drop-within n x (xs ++ reply ∷ []) lt ∙ sym (ap (λ r. r ++ reply ∷ []) (drop-within n x xs lt))
    by false q later =
        let ge = ltb-false n (length x) q in
        let rest : n - length x ≤ length (concat xs) = omega (arith, length-append x (concat xs)) in
        drop-past n x (xs ++ reply ∷ []) ge ∙ later rest ∙ sym (ap (λ r. r ++ reply ∷ []) (drop-past n x xs ge))

pub drop_bytes-adding : (n : ℕ) (replies : List (List ℕ)) (reply : List ℕ) → n ≤ length (concat replies) → drop_bytes n (adding_reply replies reply) ≡ adding_reply (drop_bytes n replies) reply
drop_bytes-adding n replies [] h = refl
drop_bytes-adding n replies (byte ∷ bytes) h = drop-push n replies (byte ∷ bytes) (omega arith) h

-- the first reply of some that are kept
pub kept-front : (kept : List (List ℕ)) (x : List ℕ) → 0 < length kept → x ≡ get_or kept 0 x → kept ≡ x ∷ drop 1 kept
kept-front [] x some e = absurd (omega arith)
kept-front (y ∷ ys) x some e = ap (λ z. z ∷ ys) (sym e)

-- While bytes are dropped: `left` of them are still to go.
pub record IsDropping (n : ℕ) (start : List (List ℕ)) (left at : ℕ) (kept : List (List ℕ)) : Type 0 where
  pub each : AllByRecursion IsUnwritten (unwritten at kept)
  pub none : kept ≡ [] → at ≡ 0
  pub same : drop_bytes left (unwritten at kept) ≡ drop_bytes n start

-- what is left when the dropping ends
pub record IsDropped (n : ℕ) (start : List (List ℕ)) (at : ℕ) (kept : List (List ℕ)) : Type 0 where
  pub dropped : unwritten at kept ≡ drop_bytes n start
  pub each : AllByRecursion IsUnwritten (unwritten at kept)
  pub none : kept ≡ [] → at ≡ 0

pub within-first : {n : ℕ} {start : List (List ℕ)} {left at : ℕ} {x : List ℕ} {kept rest : List (List ℕ)} → IsDropping n start left at kept → kept ≡ x ∷ rest → at < length x
within-first {at = at} {x = x} {rest = rest} h e =
    let each = subst (λ k. AllByRecursion IsUnwritten (unwritten at k)) e h.each in
    let some : 0 < length (drop at x) = each.0 in
    omega (arith, length-drop at x)

-- What is left of the count, once the bytes are dropped.
pub AreReplies-dropped : {n : ℕ} {waiting at at' : ℕ} {kept kept' : List (List ℕ)} → AreReplies at kept waiting → IsDropped n (unwritten at kept) at' kept' → n ≤ length (concat (unwritten at kept))
    → AreReplies at' kept' (waiting - n)
AreReplies-dropped {n = n} {waiting = waiting} {at = at} {kept = kept} h d within = record {
  each = d.each;
  none = d.none;
  counted = omega (arith, h.counted, ap (λ r. length (concat r)) d.dropped, ap length (concat-drop_bytes n (unwritten at kept)), length-drop n (concat (unwritten at kept)));
  few = omega (arith, h.few);
}

-- While bytes are copied: `left` of them are still to go, from the replies that are left without `skip` bytes.
pub record IsCopying (n : ℕ) (whole before : List ℕ) (left skip : ℕ) (rest : List (List ℕ)) (out : List ℕ) : Type 0 where
  pub each : AllByRecursion IsUnwritten (unwritten skip rest)
  pub same : out ++ take left (concat (unwritten skip rest)) ≡ before ++ take n whole

take-all : (n : ℕ) (x y : List ℕ) → length x ≤ n → x ++ take (n - length x) y ≡ take n (x ++ y)
take-all n x y h =
    let e : length x + (n - length x) ≡ n = omega arith in
    sym (take-append-add x y (n - length x)) ∙ ap (λ k. take k (x ++ y)) e

unwritten-zero : (rest : List (List ℕ)) → unwritten 0 rest ≡ rest
unwritten-zero [] = refl
unwritten-zero (x ∷ xs) = refl

-- the next reply begins behind what is skipped of it
pub skip-within : {n : ℕ} {whole before : List ℕ} {left skip : ℕ} {x : List ℕ} {old rest : List (List ℕ)} {out : List ℕ}
    → IsCopying n whole before left skip old out → old ≡ x ∷ rest → skip < length x
skip-within {skip = skip} {x = x} h e =
    let each = subst (λ k. AllByRecursion IsUnwritten (unwritten skip k)) e h.each in
    let some : 0 < length (drop skip x) = each.0 in
    omega (arith, length-drop skip x)

-- the copy ends within a reply
pub copied-within : {n : ℕ} {whole before : List ℕ} {left skip : ℕ} {x : List ℕ} {old rest : List (List ℕ)} {out : List ℕ}
    → IsCopying n whole before left skip old out → old ≡ x ∷ rest → left ≤ length x - skip → out ++ take left (drop skip x) ≡ before ++ take n whole
copied-within {n = n} {whole = whole} {before = before} {left = left} {skip = skip} {x = x} {rest = rest} {out = out} h e within =
    let same = subst (λ k. out ++ take left (concat (unwritten skip k)) ≡ before ++ take n whole) e h.same in
    let le : left ≤ length (drop skip x) = omega (arith, length-drop skip x) in
    ap (λ r. out ++ r) (sym (take-append-le left (drop skip x) (concat rest) le)) ∙ same

-- or goes on with the next one
pub copied-past : {n : ℕ} {whole before : List ℕ} {left skip : ℕ} {x : List ℕ} {old rest : List (List ℕ)} {out : List ℕ}
    → IsCopying n whole before left skip old out → old ≡ x ∷ rest → length x - skip < left
    → IsCopying n whole before (left - (length x - skip)) 0 rest (out ++ drop skip x)
copied-past {n = n} {whole = whole} {before = before} {left = left} {skip = skip} {x = x} {rest = rest} {out = out} h e past =
    let same = subst (λ k. out ++ take left (concat (unwritten skip k)) ≡ before ++ take n whole) e h.same in
    let each = subst (λ k. AllByRecursion IsUnwritten (unwritten skip k)) e h.each in
    let ge : length (drop skip x) ≤ left = omega (arith, length-drop skip x) in
    let count : left - (length x - skip) ≡ left - length (drop skip x) = omega (arith, length-drop skip x) in
    let parts = take-all left (drop skip x) (concat rest) ge in
    record {
      each = rw (unwritten-zero rest) each.1;
      same = rw (unwritten-zero rest, count, append_assoc out (drop skip x) (take (left - length (drop skip x)) (concat rest)), parts) same;
    }

-- a slice from a place to the end
slice-from : (skip : ℕ) (x : List ℕ) → take (length x - skip) (drop skip x) ≡ drop skip x
slice-from skip x = ap (λ n. take n (drop skip x)) (sym (length-drop skip x)) ∙ take-length (drop skip x)

-- the same, as the code cuts the reply
pub copied-reply : {n : ℕ} {whole before : List ℕ} {left skip : ℕ} {x : List ℕ} {old rest : List (List ℕ)} {out : List ℕ}
    → IsCopying n whole before left skip old out → old ≡ x ∷ rest → length (take (length x - skip) (drop skip x)) < left
    → IsCopying n whole before (left - length (take (length x - skip) (drop skip x))) 0 rest (out ++ take (length x - skip) (drop skip x))
copied-reply {left = left} {skip = skip} {x = x} h e past =
    let cut = slice-from skip x in
    let less : length x - skip < left = omega (arith, length-drop skip x, ap length cut) in
    rw (cut, length-drop skip x) (copied-past h e less)
