-- The steps and the ends of reading a body.
use Rattle.std.proofs.Common.{◌≡◌, ◌≢◌, ℕ, zero, suc, ◌+◌, ◌-◌, ◌<◌, ◌≤◌, Bool, true, false, IsTrue, List, [], ◌∷◌, ◌++◌, length, take, None, Some, IfSome, refl, sym, ap, subst, ◌∙◌, arith, append_assoc, length-append}
use Rattle.std.specs.Prelude.{Option}
use Rattle.std.proofs.lemmas.List.{take_all, take-append-le}
use Rattle.std.specs.Io.KnownBytes.{Appends, Consumes, IsAtEnd, Keeps}
use Rattle.std.proofs.KnownBytes.{Appends-nil, Appends-trans, Consumes-kept, Consumes-nil, Consumes-trans, Consumes-whole}
use Rattle.outside.specs.Streams.{SameWhereTold}
use Rattle.grpc_frame.specs.Part.{part_of}
use Rattle.grpc_frame.specs.declared.part.Part.TheVariants as part
use Rattle.call_body.specs.declared.limits.TheConstants.{BODY_LIMIT}
use Rattle.call_body.specs.declared.ends.BodyEnd.{BodyEnd}
use Rattle.call_body.specs.declared.ends.BodyEnd.TheVariants as ends
use Rattle.call_body.specs.Reading.{Reads, IsStop, IsUnfinished, AppendsWhereTold}
use Rattle.call_body.specs.Ends.{EndsAs, ReadsPartly, TakesAtMost, Writes}
use Rattle.call_body.proofs.At.{At}
use Rattle.call_body.proofs.ReadsLemmas.{IsStop-behind, Reads-append, Reads-behind, Reads-none, ReadsPartly-all, ReadsPartly-append, ReadsPartly-behind, take-append}

take-nil : (n : ℕ) → ◌≡◌ {A = List ℕ} (take n []) []
take-nil zero = refl
take-nil (suc n) = refl

-- the first bytes of a longer body are those of its beginning, and more
take-behind : (n : ℕ) (xs ys : List ℕ) → (more : List ℕ) × (take n (xs ++ ys) ≡ take n xs ++ more)
take-behind zero xs ys = ([], refl)
take-behind (suc n) [] ys = (take (suc n) ys, refl)
take-behind (suc n) (x ∷ xs) ys = let later = take-behind n xs ys in (later.0, ap (λ l. x ∷ l) later.1)

-- what holds of the bytes taken, whatever follows them, holds of all that the source had
told : (left0 left : Option (List ℕ)) (bytes : List ℕ) (P : List ℕ → Type 0) → Consumes left0 left bytes → ((more : List ℕ) → P (bytes ++ more)) → IfSome left0 P
told None left bytes P consumed holds = tt
told (Some all) None bytes P consumed holds = absurd consumed
told (Some all) (Some more) bytes P consumed holds = subst P (sym consumed) (holds more)

AppendsWhereTold-from : (a b : Option (List ℕ)) (bytes : List ℕ) → Appends a b bytes → AppendsWhereTold a b bytes
AppendsWhereTold-from None b bytes appended = tt
AppendsWhereTold-from (Some x) None bytes appended = tt
AppendsWhereTold-from (Some x) (Some y) bytes appended = appended

AppendsWhereTold-behind : (a b c : Option (List ℕ)) (bs cs : List ℕ) → Appends a b bs → AppendsWhereTold b c cs → AppendsWhereTold a c (bs ++ cs)
AppendsWhereTold-behind None b c bs cs first second = tt
AppendsWhereTold-behind (Some x) None c bs cs first second = absurd first
AppendsWhereTold-behind (Some x) (Some y) None bs cs first second = tt
AppendsWhereTold-behind (Some x) (Some y) (Some z) bs cs first second = second ∙ ap (λ l. l ++ cs) first ∙ append_assoc x bs cs

-- a list that isn't more than nothing is nothing
pub held-none : (held : List ℕ) (b : Bool) → (held ≢ [] → IsTrue b) → b ≡ false → held ≡ []
held-none [] b some none = refl
held-none (x ∷ held) b some none = let true_too : b ≡ true = some (λ same. absurd (cc)) in absurd (cc)

-- an end that was met is still there
pub end-kept : (left0 left next : Option (List ℕ)) (bytes : List ℕ) → Consumes left0 left bytes → IsAtEnd left → Keeps left next → IfSome left0 (λ _. IsAtEnd next)
end-kept None left next bytes consumed end kept = tt
end-kept (Some all) None next bytes consumed end kept = absurd consumed
end-kept (Some all) (Some rest) None bytes consumed end kept = absurd kept
end-kept (Some all) (Some rest) (Some more) bytes consumed end kept = kept ∙ end

-- the bytes taken are so many at most
pub takes : (most : ℕ) (left0 left : Option (List ℕ)) (bytes : List ℕ) → Consumes left0 left bytes → length bytes ≤ most → TakesAtMost most left0 left
takes most None left bytes consumed few = tt
takes most (Some all) None bytes consumed few = absurd consumed
takes most (Some all) (Some rest) bytes consumed few = (bytes, few, consumed)

-- a fault takes no byte, where the source tells still what is left
takes-same : (most : ℕ) (left0 left next : Option (List ℕ)) (bytes : List ℕ) → Consumes left0 left bytes → length bytes ≤ most → SameWhereTold left next → TakesAtMost most left0 next
takes-same most None left next bytes consumed few same = tt
takes-same most (Some all) None next bytes consumed few same = absurd consumed
takes-same most (Some all) (Some rest) None bytes consumed few same = tt
takes-same most (Some all) (Some rest) (Some more) bytes consumed few same = (bytes, few, consumed ∙ ap (λ l. bytes ++ l) (sym same))

module _ {S : Type 0} (readable : List ℕ → Bool) (answers : S → List ℕ → List ℕ → S → Type 0) where
  -- what a body's end is owed
  abbrev pub Ending : Option (List ℕ) → Option (List ℕ) → Option (List ℕ) → S → S → BodyEnd → Type 0
  Ending left0 taken0 taken old new end =
      (replied : List ℕ) × Writes taken0 taken replied end × IfSome left0 (λ bytes. EndsAs readable answers bytes replied old new end)

  pub At-none : (left taken : Option (List ℕ)) (s : S) → At readable answers left left taken taken s s [] 0
  At-none left taken s = record {
    bytes = [];
    replied = [];
    consumed = Consumes-nil left;
    counted = refl;
    most = omega arith;
    reads = let P : List ℕ → Type 0 = λ l. Reads readable answers l [] [] s s in subst P (sym (take-nil BODY_LIMIT)) (Reads-none readable answers [] s);
    written = Appends-nil taken;
  }

  -- a piece was taken, and all of it but what lies behind the limit is held
  pub At-fed : (left0 left next taken0 taken : Option (List ℕ)) (old new : S) (held piece : List ℕ) (read n : ℕ)
      → At readable answers left0 left taken0 taken old new held read → read ≤ BODY_LIMIT → length piece ≡ n → n ≤ BODY_LIMIT - read + 1 → Consumes left next piece
      → At readable answers left0 next taken0 taken old new (held ++ take (BODY_LIMIT - read) piece) (read + n)
  At-fed left0 left next taken0 taken old new held piece read n at within many few more = record {
    bytes = at.bytes ++ piece;
    replied = at.replied;
    consumed = Consumes-trans left0 left next at.bytes piece at.consumed more;
    counted = length-append at.bytes piece ∙ ap (λ k. k + length piece) at.counted ∙ ap (λ k. read + k) many;
    most = omega arith;
    reads =
        let short : length at.bytes ≤ BODY_LIMIT = rw at.counted within in
        let all : take BODY_LIMIT at.bytes ≡ at.bytes = take_all BODY_LIMIT at.bytes short in
        let room : BODY_LIMIT - length at.bytes ≡ BODY_LIMIT - read = ap (λ k. BODY_LIMIT - k) at.counted in
        let cut : take BODY_LIMIT at.bytes ++ take (BODY_LIMIT - read) piece ≡ take BODY_LIMIT (at.bytes ++ piece) =
        ap (λ l. l ++ take (BODY_LIMIT - read) piece) all ∙ ap (λ k. at.bytes ++ take k piece) (sym room) ∙ sym (take-append BODY_LIMIT at.bytes piece short) in
        let P : List ℕ → Type 0 = λ l. Reads readable answers l (held ++ take (BODY_LIMIT - read) piece) at.replied old new in
        subst P cut (Reads-behind readable answers (take BODY_LIMIT at.bytes) held at.replied (take (BODY_LIMIT - read) piece) old new at.reads);
    written = at.written;
  }

  -- messages held were answered
  pub At-stepped : (left0 left taken0 taken next : Option (List ℕ)) (old mid new : S) (held rest replied : List ℕ) (read : ℕ)
      → At readable answers left0 left taken0 taken old mid held read → Reads readable answers held rest replied mid new → Appends taken next replied
      → At readable answers left0 left taken0 next old new rest read
  At-stepped left0 left taken0 taken next old mid new held rest replied read at first more = record {
    bytes = at.bytes;
    replied = at.replied ++ replied;
    consumed = at.consumed;
    counted = at.counted;
    most = at.most;
    reads = Reads-append readable answers (take BODY_LIMIT at.bytes) held rest at.replied replied old mid new at.reads first;
    written = Appends-trans taken0 taken next at.replied replied at.written more;
  }

  At-few : (left0 left taken0 taken : Option (List ℕ)) (old new : S) (held : List ℕ) (read : ℕ) (at : At readable answers left0 left taken0 taken old new held read)
      → length at.bytes ≤ BODY_LIMIT + 1
  At-few left0 left taken0 taken old new held read at = rw at.counted at.most

  -- no more bytes were taken than those of the longest body and one
  pub At-takes : (left0 left taken0 taken : Option (List ℕ)) (old new : S) (held : List ℕ) (read : ℕ)
      → At readable answers left0 left taken0 taken old new held read → TakesAtMost (BODY_LIMIT + 1) left0 left
  At-takes left0 left taken0 taken old new held read at = takes (BODY_LIMIT + 1) left0 left at.bytes at.consumed (At-few left0 left taken0 taken old new held read at)

  -- nor at the end of the input
  pub At-takes-end : (left0 left next taken0 taken : Option (List ℕ)) (old new : S) (held : List ℕ) (read : ℕ)
      → At readable answers left0 left taken0 taken old new held read → Keeps left next → TakesAtMost (BODY_LIMIT + 1) left0 next
  At-takes-end left0 left next taken0 taken old new held read at kept =
      takes (BODY_LIMIT + 1) left0 next at.bytes (Consumes-kept left0 left next at.bytes at.consumed kept) (At-few left0 left taken0 taken old new held read at)

  -- nor at a fault
  pub At-takes-same : (left0 left next taken0 taken : Option (List ℕ)) (old new : S) (held : List ℕ) (read : ℕ)
      → At readable answers left0 left taken0 taken old new held read → SameWhereTold left next → TakesAtMost (BODY_LIMIT + 1) left0 next
  At-takes-same left0 left next taken0 taken old new held read at same =
      takes-same (BODY_LIMIT + 1) left0 left next at.bytes at.consumed (At-few left0 left taken0 taken old new held read at) same

  -- nor with a piece more
  pub At-takes-piece : (left0 left next taken0 taken : Option (List ℕ)) (old new : S) (held piece : List ℕ) (read : ℕ)
      → At readable answers left0 left taken0 taken old new held read → read ≤ BODY_LIMIT → length piece ≤ BODY_LIMIT - read + 1 → Consumes left next piece
      → TakesAtMost (BODY_LIMIT + 1) left0 next
  At-takes-piece left0 left next taken0 taken old new held piece read at within few more =
      let counted = at.counted in
      takes (BODY_LIMIT + 1) left0 next (at.bytes ++ piece) (Consumes-trans left0 left next at.bytes piece at.consumed more) (simp length-append (omega arith))

  -- the input ended, and no byte is held
  pub ends-done : (left0 left taken0 taken : Option (List ℕ)) (old new : S) (held : List ℕ) (read : ℕ)
      → At readable answers left0 left taken0 taken old new held read → read ≤ BODY_LIMIT → IsAtEnd left → held ≡ [] → Ending left0 taken0 taken old new ends.Done
  ends-done left0 left taken0 taken old new held read at within end none =
      let short : length at.bytes ≤ BODY_LIMIT = rw at.counted within in
      let P : List ℕ → Type 0 = λ l. EndsAs readable answers l at.replied old new ends.Done in
      let Q : List ℕ → Type 0 = λ l. Reads readable answers l held at.replied old new in
      let R : List ℕ → Type 0 = λ l. Reads readable answers at.bytes l at.replied old new in (
        at.replied,
        at.written,
        Consumes-whole left0 left at.bytes P at.consumed end
            (short, subst R none (subst Q (take_all BODY_LIMIT at.bytes short) at.reads)),
      )

  -- the input ended inside a message
  pub ends-cut : (left0 left taken0 taken : Option (List ℕ)) (old new : S) (held : List ℕ) (read : ℕ)
      → At readable answers left0 left taken0 taken old new held read → read ≤ BODY_LIMIT → IsAtEnd left → held ≢ [] → IsUnfinished held → Ending left0 taken0 taken old new ends.Cut
  ends-cut left0 left taken0 taken old new held read at within end some unfinished =
      let short : length at.bytes ≤ BODY_LIMIT = rw at.counted within in
      let P : List ℕ → Type 0 = λ l. EndsAs readable answers l at.replied old new ends.Cut in
      let Q : List ℕ → Type 0 = λ l. Reads readable answers l held at.replied old new in (
        at.replied,
        at.written,
        Consumes-whole left0 left at.bytes P at.consumed end
            (short, (held, some, unfinished, subst Q (take_all BODY_LIMIT at.bytes short) at.reads)),
      )

  -- a byte came behind the limit
  pub ends-long : (left0 left taken0 taken : Option (List ℕ)) (old new : S) (held : List ℕ) (read : ℕ)
      → At readable answers left0 left taken0 taken old new held read → BODY_LIMIT < read → IsUnfinished held → Ending left0 taken0 taken old new ends.Long
  ends-long left0 left taken0 taken old new held read at above unfinished =
      let long : BODY_LIMIT < length at.bytes = rw at.counted above in
      let P : List ℕ → Type 0 = λ l. EndsAs readable answers l at.replied old new ends.Long in
      let Q : List ℕ → Type 0 = λ l. Reads readable answers l held at.replied old new in (
        at.replied,
        at.written,
        told left0 left at.bytes P at.consumed (λ more. (
          rw (length-append at.bytes more) (omega arith),
          (held, unfinished, subst Q (sym (take-append-le BODY_LIMIT at.bytes more (omega arith))) at.reads),
        )),
      )

  -- the body stops at what the rest begins with
  pub ends-refused : (left0 left taken0 taken next : Option (List ℕ)) (old mid new : S) (held rest replied : List ℕ) (read : ℕ)
      → At readable answers left0 left taken0 taken old mid held read → Reads readable answers held rest replied mid new → Appends taken next replied → IsStop readable rest
      → Ending left0 taken0 next old new ends.Refused
  ends-refused left0 left taken0 taken next old mid new held rest replied read at first more stop =
      let there = At-stepped left0 left taken0 taken next old mid new held rest replied read at first more in
      let P : List ℕ → Type 0 = λ l. EndsAs readable answers l there.replied old new ends.Refused in (
        there.replied,
        there.written,
        told left0 left there.bytes P there.consumed (λ follows.
            let behind = take-behind BODY_LIMIT there.bytes follows in
            let Q : List ℕ → Type 0 = λ l. Reads readable answers l (rest ++ behind.0) there.replied old new in (
              rest ++ behind.0,
              IsStop-behind readable answers rest behind.0 stop,
              subst Q (sym behind.1) (Reads-behind readable answers (take BODY_LIMIT there.bytes) rest there.replied behind.0 old new there.reads),
            )),
      )

  partly : (left0 left : Option (List ℕ)) (old new : S) (bytes replied : List ℕ) → Consumes left0 left bytes → ReadsPartly readable answers (take BODY_LIMIT bytes) replied old new
      → IfSome left0 (λ l. ReadsPartly readable answers (take BODY_LIMIT l) replied old new)
  partly left0 left old new bytes replied consumed first =
      let P : List ℕ → Type 0 = λ l. ReadsPartly readable answers (take BODY_LIMIT l) replied old new in
      told left0 left bytes P consumed (λ follows.
      let behind = take-behind BODY_LIMIT bytes follows in
      let Q : List ℕ → Type 0 = λ l. ReadsPartly readable answers l replied old new in
      subst Q (sym behind.1) (ReadsPartly-behind readable answers (take BODY_LIMIT bytes) replied behind.0 old new first))

  -- a fault of the source
  pub ends-source : (left0 left taken0 taken : Option (List ℕ)) (old new : S) (held : List ℕ) (read : ℕ)
      → At readable answers left0 left taken0 taken old new held read → Ending left0 taken0 taken old new ends.Outside
  ends-source left0 left taken0 taken old new held read at = (
    at.replied,
    AppendsWhereTold-from taken0 taken at.replied at.written,
    partly left0 left old new at.bytes at.replied at.consumed (ReadsPartly-all readable answers (take BODY_LIMIT at.bytes) held at.replied old new at.reads),
  )

  -- want of memory for a piece
  pub ends-unfed : (left0 left taken0 taken : Option (List ℕ)) (old new : S) (held : List ℕ) (read : ℕ)
      → At readable answers left0 left taken0 taken old new held read → Ending left0 taken0 taken old new ends.Memory
  ends-unfed left0 left taken0 taken old new held read at = (
    at.replied,
    at.written,
    partly left0 left old new at.bytes at.replied at.consumed (ReadsPartly-all readable answers (take BODY_LIMIT at.bytes) held at.replied old new at.reads),
  )

  -- a fault of the sink
  pub ends-sink : (left0 left taken0 taken next : Option (List ℕ)) (old mid new : S) (held replied : List ℕ) (read : ℕ)
      → At readable answers left0 left taken0 taken old mid held read → ReadsPartly readable answers held replied mid new → AppendsWhereTold taken next replied
      → Ending left0 taken0 next old new ends.Outside
  ends-sink left0 left taken0 taken next old mid new held replied read at first more = (
    at.replied ++ replied,
    AppendsWhereTold-behind taken0 taken next at.replied replied at.written more,
    partly left0 left old new at.bytes (at.replied ++ replied) at.consumed
        (ReadsPartly-append readable answers (take BODY_LIMIT at.bytes) held at.replied replied old mid new at.reads first),
  )

  -- want of memory for an answer
  pub ends-unanswered : (left0 left taken0 taken next : Option (List ℕ)) (old mid new : S) (held replied : List ℕ) (read : ℕ)
      → At readable answers left0 left taken0 taken old mid held read → ReadsPartly readable answers held replied mid new → Appends taken next replied
      → Ending left0 taken0 next old new ends.Memory
  ends-unanswered left0 left taken0 taken next old mid new held replied read at first more = (
    at.replied ++ replied,
    Appends-trans taken0 taken next at.replied replied at.written more,
    partly left0 left old new at.bytes (at.replied ++ replied) at.consumed
        (ReadsPartly-append readable answers (take BODY_LIMIT at.bytes) held at.replied replied old mid new at.reads first),
  )

-- nothing is unfinished at first
pub unfinished-none : (limit : ℕ) → part_of limit [] ≡ part.More
unfolding part_of
unfinished-none limit = refl
