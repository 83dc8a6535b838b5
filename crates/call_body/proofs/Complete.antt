-- A body of good messages has no other end than Done, but for a fault outside and want of memory.
use Rattle.std.proofs.Common.{◌≡◌, inl, inr, ℕ, ◌<◌, ◌≤◌, Bool, true, false, IsTrue, List, [], ◌∷◌, ◌++◌, length, None, Some, IfSome, refl, sym, ap, subst, ◌∙◌, arith, append_assoc, append-nil, lit<}
use Rattle.std.specs.Prelude.{Option}
use Rattle.std.specs.List.{AllByRecursion}
use Rattle.std.proofs.lemmas.List.{append_cancel_left, take_all}
use Rattle.std.proofs.lemmas.List.Concat.{flat_map-cons}
use Rattle.outside.specs.Faults.{Rose}
use Rattle.grpc_frame.specs.Frame.{frame, framed}
use Rattle.grpc_frame.specs.Messages.{IsMessage, IsWithin, Messages}
use Rattle.grpc_frame.specs.Part.{part_of}
use Rattle.grpc_frame.specs.declared.part.Part.{Part}
use Rattle.grpc_frame.specs.declared.part.Part.TheVariants as part
use Rattle.grpc_frame.proofs.MessagesLemmas.{part_of-frame, Messages-unique}
use Rattle.grpc_frame.specs.declared.limits.TheConstants.{MESSAGE_LIMIT}
use Rattle.call_body.specs.declared.limits.TheConstants.{BODY_LIMIT}
use Rattle.call_body.specs.declared.ends.BodyEnd.{BodyEnd}
use Rattle.call_body.specs.declared.ends.BodyEnd.TheVariants as ends
use Rattle.call_body.specs.Reading.{Reads, IsStop, IsStopAt}
use Rattle.call_body.specs.Ends.{EndsAs, HasCause, IsDoneOrMemory, IsGoodBody}
use Rattle.call_body.proofs.Exits.{unfinished-none}

not_message : (p : Part) → p ≡ part.More → IsMessage p → ⊥
not_message (part.Message message) none is = absurd (cc)
not_message part.More none is = is
not_message (part.Compressed flag) none is = absurd (cc)
not_message (part.TooLong len) none is = absurd (cc)

module _ {S : Type 0} (readable : List ℕ → Bool) (answers : S → List ℕ → List ℕ → S → Type 0) where
  -- messages that were read make a reading, where the rest has none
  pub Messages-from : (bytes rest replied : List ℕ) (old new : S) → Reads readable answers bytes rest replied old new → (IsMessage (part_of MESSAGE_LIMIT rest) → ⊥)
      → (messages : List (List ℕ)) × Messages MESSAGE_LIMIT bytes messages rest
  Messages-from bytes rest replied old new first ends =
      (first.messages, record { whole = first.whole; each = first.within; ends = ends })

  -- good messages that are read up to a rest have no message at which a body stops
  no_stop : (some all : List (List ℕ)) (rest : List ℕ) → framed all ≡ framed some ++ rest
      → AllByRecursion (IsWithin MESSAGE_LIMIT) some → AllByRecursion (IsWithin MESSAGE_LIMIT) all → AllByRecursion (λ m. IsTrue (readable m)) all → IsStop readable rest → ⊥
  no_stop [] [] rest same short within good stop =
      let P : Part → Type 0 = λ p. IsStopAt readable p in
      subst P (ap (part_of MESSAGE_LIMIT) (sym same) ∙ unfinished-none MESSAGE_LIMIT) stop
  no_stop [] (message ∷ all) rest same short within good stop =
      let P : Part → Type 0 = λ p. IsStopAt readable p in
      let begins : part_of MESSAGE_LIMIT rest ≡ part.Message message =
      ap (part_of MESSAGE_LIMIT) (sym same ∙ flat_map-cons frame message all) ∙ part_of-frame MESSAGE_LIMIT message (framed all) (lit< tt) within.0 in
      let unreadable : readable message ≡ false = subst P begins stop in
      let good_one : readable message ≡ true = good.0 in
      absurd (cc)
  no_stop (message ∷ some) [] rest same short within good stop =
      let begins : part_of MESSAGE_LIMIT [] ≡ part.Message message =
      ap (part_of MESSAGE_LIMIT) (same ∙ ap (λ l. l ++ rest) (flat_map-cons frame message some) ∙ append_assoc (frame message) (framed some) rest)
      ∙ part_of-frame MESSAGE_LIMIT message (framed some ++ rest) (lit< tt) short.0 in
      let none : part_of MESSAGE_LIMIT [] ≡ part.More = unfinished-none MESSAGE_LIMIT in
      absurd (cc)
  no_stop (first ∷ some) (message ∷ all) rest same short within good stop =
      let parts : frame message ++ framed all ≡ frame first ++ (framed some ++ rest) =
      sym (flat_map-cons frame message all) ∙ same ∙ ap (λ l. l ++ rest) (flat_map-cons frame first some) ∙ append_assoc (frame first) (framed some) rest in
      let one : part_of MESSAGE_LIMIT (frame message ++ framed all) ≡ part.Message message = part_of-frame MESSAGE_LIMIT message (framed all) (lit< tt) within.0 in
      let two : part_of MESSAGE_LIMIT (frame first ++ (framed some ++ rest)) ≡ part.Message first = part_of-frame MESSAGE_LIMIT first (framed some ++ rest) (lit< tt) short.0 in
      let both : part_of MESSAGE_LIMIT (frame message ++ framed all) ≡ part_of MESSAGE_LIMIT (frame first ++ (framed some ++ rest)) = ap (part_of MESSAGE_LIMIT) parts in
      let equal : first ≡ message = cc in
      let cut : frame message ++ framed all ≡ frame message ++ (framed some ++ rest) = parts ∙ ap (λ m. frame m ++ (framed some ++ rest)) equal in
      no_stop some all rest (append_cancel_left (frame message) (framed all) (framed some ++ rest) cut) short.1 within.1 good.1 stop

  -- the end of a good body, where no count rose
  complete_for : (bytes replied : List ℕ) (old new : S) (input0 input out0 out : ℕ) (end : BodyEnd) → EndsAs readable answers bytes replied old new end
      → HasCause input0 input out0 out end → IsGoodBody readable bytes → (Rose input0 input → ⊥) → (Rose out0 out → ⊥) → IsDoneOrMemory end
  complete_for bytes replied old new input0 input out0 out ends.Done ended cause good steady_in steady_out = inl refl
  complete_for bytes replied old new input0 input out0 out ends.Memory ended cause good steady_in steady_out = inr refl
  complete_for bytes replied old new input0 input out0 out ends.Outside ended (inl rose) good steady_in steady_out = absurd (steady_in rose)
  complete_for bytes replied old new input0 input out0 out ends.Outside ended (inr rose) good steady_in steady_out = absurd (steady_out rose)
  complete_for bytes replied old new input0 input out0 out ends.Long ended cause good steady_in steady_out =
      let above : BODY_LIMIT < length bytes = ended.0 in
      let within : length bytes ≤ BODY_LIMIT = good.0 in
      absurd (omega arith)
  complete_for bytes replied old new input0 input out0 out ends.Cut ended cause good steady_in steady_out =
      let rest = ended.1.0 in
      let reading = Messages-from bytes rest replied old new ended.1.3 (not_message (part_of MESSAGE_LIMIT rest) ended.1.2) in
      absurd (ended.1.1 (Messages-unique MESSAGE_LIMIT bytes reading.0 good.1.0 rest [] (lit< tt) reading.1 good.1.1).1)
  complete_for bytes replied old new input0 input out0 out ends.Refused ended cause good steady_in steady_out =
      let first = ended.2 in
      let same : framed good.1.0 ≡ framed first.messages ++ ended.0 =
      sym (append-nil (framed good.1.0)) ∙ sym good.1.1.whole ∙ sym (take_all BODY_LIMIT bytes good.0) ∙ first.whole in
      absurd (no_stop first.messages good.1.0 ended.0 same first.within good.1.1.each good.1.2 ended.1)

  pub complete : (left0 : Option (List ℕ)) (replied : List ℕ) (old new : S) (input0 input out0 out : ℕ) (end : BodyEnd)
      → IfSome left0 (λ bytes. EndsAs readable answers bytes replied old new end) → HasCause input0 input out0 out end
      → IfSome left0 (λ bytes. IsGoodBody readable bytes → (Rose input0 input → ⊥) → (Rose out0 out → ⊥) → IsDoneOrMemory end)
  complete None replied old new input0 input out0 out end ended cause = tt
  complete (Some bytes) replied old new input0 input out0 out end ended cause = complete_for bytes replied old new input0 input out0 out end ended cause
