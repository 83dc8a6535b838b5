-- Bytes in pieces: none is empty or above the greatest payload, and they join to the bytes.
use Rattle.std.proofs.Common.{◌≡◌, ℕ, zero, suc, ◌<◌, ◌≤◌, List, [], ◌∷◌, ◌++◌, length, length-take, length-drop, take, drop, refl, ap, ◌∙◌, arith}
use Rattle.std.specs.List.{concat, AllByRecursion}
use Rattle.std.proofs.lemmas.List.{take-append-drop}
use Rattle.h2_frames.specs.Header.{max_frame_size}
use Rattle.client_calls.specs.Frames.{pieces_within, pieces_of}
use Rattle.client_calls.specs.Given.{IsPayload}

within-payloads : (most : ℕ) (bytes : List ℕ) → AllByRecursion IsPayload (pieces_within most bytes)
within-payloads zero bytes = tt
within-payloads (suc most) [] = tt
within-payloads (suc most) (b ∷ bytes) =
    let n = length-take max_frame_size (b ∷ bytes) in
    ((omega (arith, n), omega (arith, n)), within-payloads most (drop max_frame_size (b ∷ bytes)))

within-joined : (most : ℕ) (bytes : List ℕ) → length bytes ≤ most → concat (pieces_within most bytes) ≡ bytes
within-joined zero [] few = refl
within-joined zero (b ∷ bytes) few = absurd (omega (arith, few))
within-joined (suc most) [] few = refl
within-joined (suc most) (b ∷ bytes) few =
    ap (λ (xs : List ℕ). take max_frame_size (b ∷ bytes) ++ xs) (within-joined most (drop max_frame_size (b ∷ bytes)) (omega (arith, few, length-drop max_frame_size (b ∷ bytes))))
    ∙ take-append-drop max_frame_size (b ∷ bytes)

pub payloads : (bytes : List ℕ) → AllByRecursion IsPayload (pieces_of bytes)
unfolding pieces_of
payloads bytes = within-payloads (length bytes) bytes

pub joined : (bytes : List ℕ) → concat (pieces_of bytes) ≡ bytes
unfolding pieces_of
joined bytes = within-joined (length bytes) bytes (omega arith)

-- more pieces than bytes are of no account
enough : (most other : ℕ) (bytes : List ℕ) → length bytes ≤ most → length bytes ≤ other → pieces_within most bytes ≡ pieces_within other bytes
enough zero zero [] few less = refl
enough zero (suc other) [] few less = refl
enough (suc most) zero [] few less = refl
enough (suc most) (suc other) [] few less = refl
enough zero other (b ∷ bytes) few less = absurd (omega (arith, few))
enough (suc most) zero (b ∷ bytes) few less = absurd (omega (arith, less))
enough (suc most) (suc other) (b ∷ bytes) few less =
    let rest = drop max_frame_size (b ∷ bytes) in
    let fewer = length-drop max_frame_size (b ∷ bytes) in
    ap (λ (ps : List (List ℕ)). take max_frame_size (b ∷ bytes) ∷ ps) (enough most other rest (omega (arith, few, fewer)) (omega (arith, less, fewer)))

-- the first piece, and those behind it
pub pieces-more : (bytes : List ℕ) → 0 < length bytes → pieces_of bytes ≡ take max_frame_size bytes ∷ pieces_of (drop max_frame_size bytes)
unfolding pieces_of
pieces-more [] some = absurd (omega (arith, some))
pieces-more (b ∷ bytes) some =
    let rest = drop max_frame_size (b ∷ bytes) in
    ap (λ (ps : List (List ℕ)). take max_frame_size (b ∷ bytes) ∷ ps) (enough (length bytes) (length rest) rest (omega (arith, length-drop max_frame_size (b ∷ bytes))) (omega arith))

pub pieces-none : pieces_of [] ≡ []
unfolding pieces_of
pieces-none = refl
