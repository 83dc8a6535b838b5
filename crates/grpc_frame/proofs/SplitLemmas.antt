-- The split of a body is its one reading.
use Rattle.std.proofs.Common.{zero, suc, get_or, ◌≡◌, ◌≤◌, ◌<◌, ◌^◌, ℕ, List, [], ◌∷◌, ◌++◌, length, subst, refl, sym, ap, ◌∙◌, arith}
use Rattle.std.proofs.Math.Seq.{drop-append_seam}
use Rattle.std.specs.List.{AllByRecursion}
use Rattle.grpc_frame.specs.declared.part.Part.{Part}
use Rattle.grpc_frame.specs.declared.part.Part.TheVariants.{Message, More, Compressed, TooLong}
use Rattle.grpc_frame.specs.Frame.{frame, framed}
use Rattle.grpc_frame.specs.Part.{part_of}
use Rattle.grpc_frame.specs.Messages.{Messages, IsMessage, IsWithin}
use Rattle.grpc_frame.specs.Split.{Split, rest_only, with_message, split_by, split_within, split_of}
use Rattle.grpc_frame.proofs.MessagesLemmas.{part_of-frame, framed-cons, length-frame, Messages-some}

split_by-none : (part : Part) (body : List ℕ) (split_behind : List ℕ → Split) → (IsMessage part → ⊥) → split_by part body split_behind ≡ rest_only body
split_by-none (Message message) body split_behind none = absurd (none tt)
split_by-none More body split_behind none = refl
split_by-none (Compressed flag) body split_behind none = refl
split_by-none (TooLong len) body split_behind none = refl

split_by-message : (message rest : List ℕ) (split_behind : List ℕ → Split) → split_by (Message message) (frame message ++ rest) split_behind ≡ with_message message (split_behind rest)
split_by-message message rest split_behind =
    ap (λ l. with_message message (split_behind l)) (drop-append_seam (frame message) rest)

split_within-is : (most limit : ℕ) (messages : List (List ℕ)) (rest body : List ℕ) → limit < 2 ^ 32 → length body ≤ most → AllByRecursion (IsWithin limit) messages → (IsMessage (part_of limit rest) → ⊥) → body ≡ framed messages ++ rest → split_within limit most body ≡ record { messages = messages; rest = rest }
split_within-is zero limit [] rest body small short each ends is = ap rest_only is
split_within-is zero limit (m ∷ messages) rest body small short each ends is =
    absurd (omega (arith, short, ap length (is ∙ framed-cons m messages rest), length-frame m (framed messages ++ rest)))
split_within-is (suc most) limit [] rest body small short each ends is =
    rw is (split_by-none (part_of limit rest) rest (split_within limit most) ends)
split_within-is (suc most) limit (m ∷ messages) rest body small short each ends is =
    let whole : body ≡ frame m ++ (framed messages ++ rest) = is ∙ framed-cons m messages rest in
    let shorter : length (framed messages ++ rest) ≤ most = omega (arith, short, ap length whole, length-frame m (framed messages ++ rest)) in
    let behind : split_within limit most (framed messages ++ rest) ≡ record { messages = messages; rest = rest } =
    split_within-is most limit messages rest (framed messages ++ rest) small shorter each.1 ends refl
    in
    ap (split_within limit (suc most)) whole
    ∙ ap (λ part. split_by part (frame m ++ (framed messages ++ rest)) (split_within limit most)) (part_of-frame limit m (framed messages ++ rest) small each.0)
    ∙ split_by-message m (framed messages ++ rest) (split_within limit most)
    ∙ ap (with_message m) behind

-- a reading is the split
pub split_of-is : (limit : ℕ) (body : List ℕ) (messages : List (List ℕ)) (rest : List ℕ) → limit < 2 ^ 32 → Messages limit body messages rest → split_of limit body ≡ record { messages = messages; rest = rest }
unfolding split_of
split_of-is limit body messages rest small read =
    split_within-is (length body) limit messages rest body small (omega arith) read.each read.ends read.whole

-- and the split is a reading
pub split_of-reads : (limit : ℕ) (body : List ℕ) → limit < 2 ^ 32 → ((i : ℕ) → get_or body i 0 < 256) → Messages limit body (split_of limit body).messages (split_of limit body).rest
split_of-reads limit body small bytes =
    let read = Messages-some limit body bytes in
    let P : Split → Type 0 = λ s. Messages limit body s.messages s.rest in
    subst P (sym (split_of-is limit body read.0 read.1 small read.2)) read.2
