-- The steps of writing a reply and of answering the messages held.
use Rattle.std.proofs.Common.{◌≡◌, ◌⊎◌, inl, inr, ℕ, ◌-◌, ◌<◌, ◌≤◌, Bool, true, List, [], ◌∷◌, ◌++◌, length, take, drop, None, Some, refl, sym, ap, subst, ◌∙◌, arith, append_assoc, append-nil, length-append, length-drop, take-append-drop}
use Rattle.std.specs.Prelude.{Option, ◌==◌}
use Rattle.std.proofs.lemmas.Bool.Decides.{nat_tests}
use Rattle.std.proofs.lemmas.List.{take_all}
use Rattle.std.specs.Io.KnownBytes.{Appends}
use Rattle.std.proofs.KnownBytes.{Appends-kept}
use Rattle.outside.specs.Streams.{SameWhereTold}
use Rattle.grpc_frame.specs.Frame.{frame, prefix_of}
use Rattle.grpc_frame.specs.Part.{part_of}
use Rattle.grpc_frame.specs.declared.part.Part.{Part}
use Rattle.grpc_frame.specs.declared.part.Part.TheVariants as part
use Rattle.grpc_frame.specs.declared.limits.TheConstants.{MESSAGE_LIMIT}
use Rattle.call_body.specs.declared.replies.Step.TheVariants as step
use Rattle.call_body.specs.Reading.{Reads, IsStopAt, AppendsWhereTold}
use Rattle.call_body.specs.Ends.{ReadsPartly}
use Rattle.call_body.specs.Steps.{Replies, RepliesOne, StepsTo}
use Rattle.call_body.proofs.ReadsLemmas.{Reads-append, Reads-one, ReadsPartly-all}

-- the first bytes of the rest were taken
pub rest_after : (rest : List ℕ) (n : ℕ) → rest ≡ take n rest ++ take (length rest - n) (drop n rest)
rest_after rest n = sym (take-append-drop n rest) ∙ ap (λ l. take n rest ++ l) (sym (take_all (length rest - n) (drop n rest) (simp length-drop (omega arith))))

pub written-more : (bytes written rest : List ℕ) (n : ℕ) → bytes ≡ written ++ rest → bytes ≡ (written ++ take n rest) ++ take (length rest - n) (drop n rest)
written-more bytes written rest n parts = parts ∙ ap (λ l. written ++ l) (rest_after rest n) ∙ sym (append_assoc written (take n rest) (take (length rest - n) (drop n rest)))

-- nothing is left
pub written-all : (bytes written rest : List ℕ) → bytes ≡ written ++ rest → true ≡ (length rest == 0) → bytes ≡ written
written-all bytes written [] parts none = parts ∙ append-nil written
written-all bytes written (x ∷ rest) parts none = absurd (grind (arith, nat_tests))

-- a fault leaves what was taken, where it is told still
pub AppendsWhereTold-same : (a b c : Option (List ℕ)) (bytes : List ℕ) → Appends a b bytes → SameWhereTold b c → AppendsWhereTold a c bytes
AppendsWhereTold-same None b c bytes first same = tt
AppendsWhereTold-same (Some x) None c bytes first same = absurd first
AppendsWhereTold-same (Some x) (Some y) None bytes first same = tt
AppendsWhereTold-same (Some x) (Some y) (Some z) bytes first same = same ∙ first

AppendsWhereTold-more : (a b c : Option (List ℕ)) (bs cs : List ℕ) → Appends a b bs → AppendsWhereTold b c cs → AppendsWhereTold a c (bs ++ cs)
AppendsWhereTold-more None b c bs cs first second = tt
AppendsWhereTold-more (Some x) None c bs cs first second = absurd first
AppendsWhereTold-more (Some x) (Some y) None bs cs first second = tt
AppendsWhereTold-more (Some x) (Some y) (Some z) bs cs first second = second ∙ ap (λ l. l ++ cs) first ∙ append_assoc x bs cs

-- a frame has bytes
pub frame-some : (message rest : List ℕ) → length rest < length (frame message ++ rest)
unfolding frame prefix_of
frame-some message rest = simp length-append (omega arith)

module _ {S : Type 0} (readable : List ℕ → Bool) (answers : S → List ℕ → List ℕ → S → Type 0) where
  -- one message more was answered
  pub Reads-answered : (held0 held next replied message reply : List ℕ) (old mid new : S) → Reads readable answers held0 held replied old mid
      → held ≡ frame message ++ next → length message ≤ MESSAGE_LIMIT → Replies readable answers message mid new reply
      → Reads readable answers held0 next (replied ++ frame reply) old new
  Reads-answered held0 held next replied message reply old mid new first spelled short answer =
      let P : List ℕ → Type 0 = λ l. Reads readable answers l next (frame reply) mid new in
      Reads-append readable answers held0 held next replied (frame reply) old mid new first
      (subst P (sym spelled) (Reads-one readable answers message reply next mid new short answer.0 answer.1))

  -- the next message can't be read
  pub StepsTo-refused : (held0 held after replied message : List ℕ) (old mid new : S) (taken0 taken next : Option (List ℕ)) (limit : ℕ)
      → Reads readable answers held0 held replied old mid → Appends taken0 taken replied → limit ≡ MESSAGE_LIMIT → part.Message message ≡ part_of limit held
      → RepliesOne readable answers message mid new taken next step.Refused → StepsTo readable answers held0 after old new taken0 next step.Refused
  StepsTo-refused held0 held after replied message old mid new taken0 taken next limit first written is begins one =
      let P : S → Type 0 = λ s. Reads readable answers held0 held replied old s in
      let Q : Part → Type 0 = λ p. IsStopAt readable p in (
        replied,
        held,
        subst P (sym one.1) first,
        Appends-kept taken0 taken next replied written one.2,
        subst Q (begins ∙ ap (λ n. part_of n held) is) one.0,
      )

  -- the sink met a fault in a reply
  pub StepsTo-outside : (held0 held behind after replied message : List ℕ) (old mid new : S) (taken0 taken next : Option (List ℕ))
      → Reads readable answers held0 held replied old mid → Appends taken0 taken replied → held ≡ frame message ++ behind → length message ≤ MESSAGE_LIMIT
      → RepliesOne readable answers message mid new taken next step.Outside → StepsTo readable answers held0 after old new taken0 next step.Outside
  StepsTo-outside held0 held behind after replied message old mid new taken0 taken next first written spelled short one = (
    replied ++ one.1,
    (
      behind,
      replied ++ frame one.0,
      one.2,
      Reads-answered held0 held behind replied message one.0 old mid new first spelled short one.3,
      ap (λ l. replied ++ l) one.4 ∙ sym (append_assoc replied one.1 one.2),
    ),
    AppendsWhereTold-more taken0 taken next replied one.1 written one.5,
  )

  -- want of memory before a reply was written
  pub StepsTo-memory : (held0 held behind after replied message : List ℕ) (old mid new : S) (taken0 taken next : Option (List ℕ))
      → Reads readable answers held0 held replied old mid → Appends taken0 taken replied → held ≡ frame message ++ behind → length message ≤ MESSAGE_LIMIT
      → RepliesOne readable answers message mid new taken next step.Memory → StepsTo readable answers held0 after old new taken0 next step.Memory
  StepsTo-memory held0 held behind after replied message old mid new taken0 taken next first written spelled short one =
      (replied, due one.1, Appends-kept taken0 taken next replied written one.0)
    where
      due : ((new ≡ mid) ⊎ ((reply : List ℕ) × Replies readable answers message mid new reply)) → ReadsPartly readable answers held0 replied old new
      due (inl same) = let P : S → Type 0 = λ s. ReadsPartly readable answers held0 replied old s in subst P (sym same) (ReadsPartly-all readable answers held0 held replied old mid first)
      due (inr answer) =
          (behind, replied ++ frame answer.0, frame answer.0, Reads-answered held0 held behind replied message answer.0 old mid new first spelled short answer.1, refl)
