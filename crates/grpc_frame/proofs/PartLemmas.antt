-- What bytes begin with, by their number and their first five.
use Rattle.std.proofs.Common.{zero, suc, ◌≡◌, ◌≢◌, ◌≤◌, ◌<◌, ◌+◌, ◌-◌, ℕ, List, [], ◌∷◌, ◌++◌, length, take, drop, get_or, refl, sym, ap, ◌∙◌, arith, length-drop, length-take, take-append-drop, length-append, append_assoc, Bool, true, false, nat_lt, ◌==◌, if◌then◌else◌}
use Rattle.std.proofs.lemmas.List.{length-take-le, drop-drop, take-append-le}
use Rattle.std.proofs.lemmas.Bool.{eqb-true}
use Rattle.std.proofs.lemmas.Grind.{common_steps}
use Rattle.std.proofs.lemmas.Nat.{be_bytes_4}
use Rattle.std.specs.Int.{w32, from_be_bytes, to_be_bytes}
use Rattle.grpc_frame.specs.declared.part.Part.TheVariants.{Message, More, Compressed, TooLong}
use Rattle.grpc_frame.specs.Frame.{prefix_of, frame}
use Rattle.grpc_frame.specs.declared.front.Front.TheVariants.{Whole}
use Rattle.grpc_frame.specs.Front.{IsSpelled}
use Rattle.grpc_frame.specs.Part.{part_of, part_behind_flag, part_behind_length}

pub part_of-empty : (limit : ℕ) (bytes : List ℕ) → length bytes ≡ 0 → part_of limit bytes ≡ More
unfolding part_of
part_of-empty limit [] none = refl
part_of-empty limit (flag ∷ bytes) none = absurd (omega (arith, none))

pub part_of-flag : (limit : ℕ) (bytes : List ℕ) → 0 < length bytes → get_or bytes 0 0 ≢ 0 → part_of limit bytes ≡ Compressed (get_or bytes 0 0)
unfolding part_of
part_of-flag limit [] some other = absurd (omega (arith, some))
part_of-flag limit (flag ∷ bytes) some other = grind (arith, common_steps)

pub part_of-short : (limit : ℕ) (bytes : List ℕ) → length bytes < 5 → get_or bytes 0 0 ≡ 0 → part_of limit bytes ≡ More
unfolding part_of
part_of-short limit [] short plain = refl
part_of-short limit (flag ∷ []) short plain = grind (arith, common_steps)
part_of-short limit (flag ∷ a ∷ []) short plain = grind (arith, common_steps)
part_of-short limit (flag ∷ a ∷ b ∷ []) short plain = grind (arith, common_steps)
part_of-short limit (flag ∷ a ∷ b ∷ c ∷ []) short plain = grind (arith, common_steps)
part_of-short limit (flag ∷ a ∷ b ∷ c ∷ d ∷ bytes) short plain = absurd (omega (arith, short))

-- the length that bytes spell behind their first
abbrev pub length_in : List ℕ → ℕ
length_in bytes = from_be_bytes w32 (get_or bytes 1 0 ∷ get_or bytes 2 0 ∷ get_or bytes 3 0 ∷ get_or bytes 4 0 ∷ [])

pub part_of-long : (limit : ℕ) (bytes : List ℕ) → 5 ≤ length bytes → get_or bytes 0 0 ≡ 0 → part_of limit bytes ≡ part_behind_length limit (length_in bytes) (drop 5 bytes)
unfolding part_of
part_of-long limit (flag ∷ a ∷ b ∷ c ∷ d ∷ bytes) long plain = rw plain refl
part_of-long limit [] long plain = absurd (omega (arith, long))
part_of-long limit (flag ∷ []) long plain = absurd (omega (arith, long))
part_of-long limit (flag ∷ a ∷ []) long plain = absurd (omega (arith, long))
part_of-long limit (flag ∷ a ∷ b ∷ []) long plain = absurd (omega (arith, long))
part_of-long limit (flag ∷ a ∷ b ∷ c ∷ []) long plain = absurd (omega (arith, long))

pub part_of-too_long : (limit len : ℕ) (bytes : List ℕ) → 5 ≤ length bytes → get_or bytes 0 0 ≡ 0 → len ≡ length_in bytes → limit < len → part_of limit bytes ≡ TooLong len
part_of-too_long limit len bytes long plain is above =
    rw (part_of-long limit bytes long plain, ← is) (behind limit len (drop 5 bytes) above) where
      behind : (limit len : ℕ) (rest : List ℕ) → limit < len → part_behind_length limit len rest ≡ TooLong len
      behind limit len rest above = grind (arith, common_steps)

pub part_of-missing : (limit len : ℕ) (bytes : List ℕ) → 5 ≤ length bytes → get_or bytes 0 0 ≡ 0 → len ≡ length_in bytes → len ≤ limit → length bytes - 5 < len → part_of limit bytes ≡ More
part_of-missing limit len bytes long plain is within missing =
    rw (part_of-long limit bytes long plain, ← is) (behind limit len (drop 5 bytes) within (simp length-drop (omega arith))) where
      behind : (limit len : ℕ) (rest : List ℕ) → len ≤ limit → length rest < len → part_behind_length limit len rest ≡ More
      behind limit len rest within missing = grind (arith, common_steps)

pub part_of-whole : (limit len : ℕ) (bytes : List ℕ) → 5 ≤ length bytes → get_or bytes 0 0 ≡ 0 → len ≡ length_in bytes → len ≤ limit → len ≤ length bytes - 5 → part_of limit bytes ≡ Message (take len (drop 5 bytes))
part_of-whole limit len bytes long plain is within whole =
    rw (part_of-long limit bytes long plain, ← is) (behind limit len (drop 5 bytes) within (simp length-drop (omega arith))) where
      behind : (limit len : ℕ) (rest : List ℕ) → len ≤ limit → len ≤ length rest → part_behind_length limit len rest ≡ Message (take len rest)
      behind limit len rest within whole = grind (arith, common_steps)

-- four of small bytes are small
four_small : (flag a b c d : ℕ) (rest : List ℕ) → ((i : ℕ) → get_or (flag ∷ a ∷ b ∷ c ∷ d ∷ rest) i 0 < 256) → (i : ℕ) → get_or (a ∷ b ∷ c ∷ d ∷ []) i 0 < 256
four_small flag a b c d rest small zero = small 1
four_small flag a b c d rest small (suc zero) = small 2
four_small flag a b c d rest small (suc (suc zero)) = small 3
four_small flag a b c d rest small (suc (suc (suc zero))) = small 4
four_small flag a b c d rest small (suc (suc (suc (suc i)))) = omega arith

pub frame-is : (message : List ℕ) (len : ℕ) → length message ≡ len → frame message ≡ 0 ∷ (to_be_bytes w32 len ++ message)
unfolding frame prefix_of
frame-is message len is = rw is refl

-- bytes that begin with a length spell it
pub prefix-front : (len : ℕ) (bytes : List ℕ) → 5 ≤ length bytes → ((i : ℕ) → get_or bytes i 0 < 256) → get_or bytes 0 0 ≡ 0 → len ≡ length_in bytes → bytes ≡ prefix_of len ++ drop 5 bytes
unfolding prefix_of
prefix-front len (flag ∷ a ∷ b ∷ c ∷ d ∷ rest) long small plain is =
    let spelled : to_be_bytes w32 len ≡ a ∷ b ∷ c ∷ d ∷ [] = be_bytes_4 (a ∷ b ∷ c ∷ d ∷ []) len refl (four_small flag a b c d rest small) is in
    rw plain (ap (λ l. 0 ∷ (l ++ rest)) (sym spelled))
prefix-front len [] long small plain is = absurd (omega (arith, long))
prefix-front len (flag ∷ []) long small plain is = absurd (omega (arith, long))
prefix-front len (flag ∷ a ∷ []) long small plain is = absurd (omega (arith, long))
prefix-front len (flag ∷ a ∷ b ∷ []) long small plain is = absurd (omega (arith, long))
prefix-front len (flag ∷ a ∷ b ∷ c ∷ []) long small plain is = absurd (omega (arith, long))

-- bytes that begin with a whole message spell it
pub frame-front : (len : ℕ) (bytes : List ℕ) → 5 ≤ length bytes → ((i : ℕ) → get_or bytes i 0 < 256) → get_or bytes 0 0 ≡ 0 → len ≡ length_in bytes → len ≤ length bytes - 5 → bytes ≡ frame (take len (drop 5 bytes)) ++ drop (5 + len) bytes
unfolding frame
frame-front len bytes long small plain is whole =
    let front : length (take len (drop 5 bytes)) ≡ len = length-take-le len (drop 5 bytes) (simp length-drop whole) in
    let behind : drop (5 + len) bytes ≡ drop len (drop 5 bytes) = sym (drop-drop len 5 bytes) in
    let split : drop 5 bytes ≡ take len (drop 5 bytes) ++ drop len (drop 5 bytes) = sym (take-append-drop len (drop 5 bytes)) in
    prefix-front len bytes long small plain is ∙ ap (λ l. prefix_of len ++ l) split ∙ sym (rw (front, behind) (append_assoc (prefix_of len) (take len (drop 5 bytes)) (drop len (drop 5 bytes))))

-- what a message leaves of the bytes that are held
pub message-taken : (limit len given : ℕ) (items held message : List ℕ) → drop given items ≡ held → message ≡ take (5 + len - 5) (drop 5 held) → IsSpelled limit held (Whole len) → (held ≡ frame message ++ drop (given + (5 + len)) items) × (length message ≤ limit)
message-taken limit len given items held message from is spelled =
    let front : message ≡ take len (drop 5 held) = is ∙ ap (λ n. take n (drop 5 held)) (omega arith) in
    let behind : drop (given + (5 + len)) items ≡ drop (5 + len) held = sym (drop-drop (5 + len) given items) ∙ ap (drop (5 + len)) from in
    (rw (behind, front) spelled.2, omega (arith, ap length front, length-take len (drop 5 held), spelled.0))

-- bytes that follow change no answer but `More`
whole_stays : (len : ℕ) (bytes piece : List ℕ) → (if nat_lt (length bytes) len then More else Message (take len bytes)) ≢ More → (if nat_lt (length (bytes ++ piece)) len then More else Message (take len (bytes ++ piece))) ≡ (if nat_lt (length bytes) len then More else Message (take len bytes))
whole_stays len bytes piece other = grind (arith, common_steps, take-append-le, length-append)

behind_length-stays : (limit len : ℕ) (bytes piece : List ℕ) → part_behind_length limit len bytes ≢ More → part_behind_length limit len (bytes ++ piece) ≡ part_behind_length limit len bytes
behind_length-stays limit len bytes piece other =
    elim (nat_lt limit len) as (λ b. (if b then TooLong len else if nat_lt (length bytes) len then More else Message (take len bytes)) ≢ More → (if b then TooLong len else if nat_lt (length (bytes ++ piece)) len then More else Message (take len (bytes ++ piece))) ≡ (if b then TooLong len else if nat_lt (length bytes) len then More else Message (take len bytes))) [ true ↦ λ _. refl | false ↦ λ other. whole_stays len bytes piece other ] other

behind_flag-stays : (limit : ℕ) (bytes piece : List ℕ) → part_behind_flag limit bytes ≢ More → part_behind_flag limit (bytes ++ piece) ≡ part_behind_flag limit bytes
behind_flag-stays limit [] piece other = absurd (other refl)
behind_flag-stays limit (a ∷ []) piece other = absurd (other refl)
behind_flag-stays limit (a ∷ b ∷ []) piece other = absurd (other refl)
behind_flag-stays limit (a ∷ b ∷ c ∷ []) piece other = absurd (other refl)
behind_flag-stays limit (a ∷ b ∷ c ∷ d ∷ bytes) piece other =
    behind_length-stays limit (from_be_bytes w32 (a ∷ b ∷ c ∷ d ∷ [])) bytes piece other

pub part_of-stays : (limit : ℕ) (bytes piece : List ℕ) → part_of limit bytes ≢ More → part_of limit (bytes ++ piece) ≡ part_of limit bytes
unfolding part_of
part_of-stays limit [] piece other = absurd (other refl)
part_of-stays limit (flag ∷ bytes) piece other =
    elim (flag == 0) as (λ b. (if b then part_behind_flag limit bytes else Compressed flag) ≢ More → (if b then part_behind_flag limit (bytes ++ piece) else Compressed flag) ≡ (if b then part_behind_flag limit bytes else Compressed flag)) [ true ↦ λ other. behind_flag-stays limit bytes piece other | false ↦ λ _. refl ] other

-- what a message that bytes begin with says of them
within_limit : (limit len : ℕ) (bytes message : List ℕ) → part_behind_length limit len bytes ≡ Message message → len ≤ limit
within_limit limit len bytes message is = grind (arith, common_steps)

within_bytes : (limit len : ℕ) (bytes message : List ℕ) → part_behind_length limit len bytes ≡ Message message → len ≤ length bytes
within_bytes limit len bytes message is = grind (arith, common_steps)

message_front : (limit len : ℕ) (bytes message : List ℕ) → part_behind_length limit len bytes ≡ Message message → message ≡ take len bytes
message_front limit len bytes message is = grind (arith, common_steps)

-- bytes that begin with a message spell it
abbrev pub Spelled : ℕ → List ℕ → List ℕ → Type 0
Spelled limit bytes message = (rest : List ℕ) × (bytes ≡ frame message ++ rest) × (length message ≤ limit)

spelled_behind : (limit flag a b c d : ℕ) (rest message : List ℕ) → ((i : ℕ) → get_or (flag ∷ a ∷ b ∷ c ∷ d ∷ rest) i 0 < 256) → flag ≡ 0 → part_behind_flag limit (a ∷ b ∷ c ∷ d ∷ rest) ≡ Message message → Spelled limit (flag ∷ a ∷ b ∷ c ∷ d ∷ rest) message
spelled_behind limit flag a b c d rest message small plain is =
    let len : ℕ = from_be_bytes w32 (a ∷ b ∷ c ∷ d ∷ []) in
    let bytes : List ℕ = flag ∷ a ∷ b ∷ c ∷ d ∷ rest in
    let front : message ≡ take len rest = message_front limit len rest message is in
    let within : len ≤ length rest = within_bytes limit len rest message is in
    let below : len ≤ limit = within_limit limit len rest message is in
    let spelled : bytes ≡ frame (take len rest) ++ drop (5 + len) bytes = frame-front len bytes (omega arith) small plain refl (omega arith) in
    (drop (5 + len) bytes, rw front spelled, omega (arith, ap length front, length-take len rest))

flag_message : (plain : Bool) (limit flag : ℕ) (bytes message : List ℕ) → (flag == 0) ≡ plain → ((i : ℕ) → get_or (flag ∷ bytes) i 0 < 256) → (if plain then part_behind_flag limit bytes else Compressed flag) ≡ Message message → Spelled limit (flag ∷ bytes) message
flag_message false limit flag bytes message test small is = absurd (cc)
flag_message true limit flag [] message test small is = absurd (cc)
flag_message true limit flag (a ∷ []) message test small is = absurd (cc)
flag_message true limit flag (a ∷ b ∷ []) message test small is = absurd (cc)
flag_message true limit flag (a ∷ b ∷ c ∷ []) message test small is = absurd (cc)
flag_message true limit flag (a ∷ b ∷ c ∷ d ∷ rest) message test small is =
    spelled_behind limit flag a b c d rest message small (eqb-true flag 0 test) is

pub part_of-message : (limit : ℕ) (bytes message : List ℕ) → ((i : ℕ) → get_or bytes i 0 < 256) → part_of limit bytes ≡ Message message → Spelled limit bytes message
unfolding part_of
part_of-message limit [] message small is = absurd (cc)
part_of-message limit (flag ∷ bytes) message small is = flag_message (flag == 0) limit flag bytes message refl small is
