-- A token takes at least one byte, and no more than there are.
use Rattle.std.proofs.Common.{◌≡◌, ℕ, zero, suc, ◌+◌, ◌-◌, ◌<◌, ◌≤◌, Bool, true, false, cond, ◌&&◌, ◌||◌, ◌==◌, List, [], ◌∷◌, length, take, drop, get_or, take_while, refl, sym, ◌∙◌, ap, subst, arith, Result, Ok, Err, IfOk, Option, Some, None, IfSome, option_map, option_and_then, ℤ, if◌then◌else◌, eqb-true, ltb-true, length-take, length-drop, nat_lt, zero-lt-suc}
use Rattle.std.specs.Char.{is_ascii_digit}
use Rattle.std.specs.List.{prefix_len}
use Rattle.std.specs.Str.Parse.{digits_value}
use Rattle.std.proofs.lemmas.Bool.Decides.{nat_tests}
use Rattle.column_types.specs.Name.{begins_name, continues_name, is_name}
use Rattle.filter.specs.declared.lexer.Found as lexer
use Rattle.filter.specs.declared.lexer.TokenFault.{TokenFault}
use Rattle.filter.specs.declared.token.Token.{Token}
use Rattle.filter.specs.Reading.{FindsToken}
use Rattle.filter.specs.Text.{Found, Quoted, word_at, integer_at, string_at, quoted_at, sign_at, token_at, string_body, escaped, behind, positive_of, negative_of}
use Rattle.filter.proofs.Bytes.{both}

abbrev pub Sized : ℕ → Found → Type 0
Sized most found = IfSome found (λ f. (0 < f.1) × (f.1 ≤ most))

pub sized : (most : ℕ) (found : Found) (r : Result lexer.Found TokenFault) → FindsToken found r → Sized most found → IfOk r (λ f. (0 < f.len) × (f.len ≤ most))
sized most found (Ok answer) e h = subst (Sized most) e h
sized most found (Err fault) e h = tt

sized_if : (most : ℕ) (b : Bool) (x y : Found) → (b ≡ true → Sized most x) → (b ≡ false → Sized most y) → Sized most (if b then x else y)
sized_if most true x y then_x else_y = then_x refl
sized_if most false x y then_x else_y = else_y refl

sized_map : {A : Type 0} (most : ℕ) (f : A → Token × ℕ) (read : Option A) → ((x : A) → read ≡ Some x → (0 < (f x).1) × ((f x).1 ≤ most)) → Sized most (option_map f read)
sized_map most f None h = tt
sized_map most f (Some x) h = h x refl

prefix_more : (v : Bool) (n m : ℕ) → n ≤ m → cond v (1 + n) 0 ≤ suc m
prefix_more true n m h = omega arith
prefix_more false n m h = omega arith

pub prefix_le : (p : ℕ → Bool) (bytes : List ℕ) → prefix_len p bytes ≤ length bytes
prefix_le p [] = omega arith
prefix_le p (b ∷ bytes) = prefix_more (p b) (prefix_len p bytes) (length bytes) (prefix_le p bytes)

begins_continues : (b : ℕ) → begins_name b ≡ true → continues_name b ≡ true
begins_continues b e = grind (arith, nat_tests)

word_sized : (bytes : List ℕ) → 0 < length bytes → begins_name (get_or bytes 0 0) ≡ true → Sized (length bytes) (word_at bytes)
unfolding word_at
word_sized [] some e = absurd (omega arith)
word_sized (b ∷ bytes) some e =
    (rw (begins_continues b e) (omega arith), prefix_le continues_name (b ∷ bytes))

some_if : {A : Type 0} (b : Bool) (x y : A) → (if b then Some x else None) ≡ Some y → b ≡ true
some_if true x y e = refl
some_if false x y e = absurd (cc)

positive_some : (digits : List ℕ) (n : ℤ) → positive_of digits ≡ Some n → 0 < length digits
positive_some digits n e = ltb-true 0 (length digits) (both (nat_lt 0 (length digits)) _ (some_if _ _ n e)).0

integer_sized : (bytes : List ℕ) → 0 < length bytes → Sized (length bytes) (integer_at bytes)
unfolding integer_at
integer_sized bytes some =
    sized_if (length bytes) (get_or bytes 0 0 == 45) _ _
    (λ minus. sized_map (length bytes) _ (negative_of (take_while is_ascii_digit (drop 1 bytes)))
    (λ n e. (omega arith, omega (arith, prefix_le is_ascii_digit (drop 1 bytes), length-drop 1 bytes))))
    (λ plain. sized_map (length bytes) _ (positive_of (take_while is_ascii_digit bytes))
    (λ n e. (let h = positive_some (take_while is_ascii_digit bytes) n e in omega (arith, h, length-take (prefix_len is_ascii_digit bytes) bytes), prefix_le is_ascii_digit bytes)))

BodySized : ℕ → Quoted → Type 0
BodySized most read = IfSome read (λ f. f.1 ≤ most)

behind_sized : (c most : ℕ) (read : Quoted) → BodySized most read → BodySized (suc most) (behind c 1 read)
unfolding BodySized
behind_sized c most None h = tt
behind_sized c most (Some f) h = omega arith

one_sized : (most : ℕ) (read : Quoted) → BodySized most read → BodySized (suc most) (option_map (λ found. (found.0, 1 + found.1)) read)
unfolding BodySized
one_sized most None h = tt
one_sized most (Some f) h = omega arith

escape_sized : (most : ℕ) (c : Option ℕ) (read : Quoted) → BodySized most read → BodySized (suc most) (option_and_then (λ c. behind c 1 read) c)
unfolding BodySized
escape_sized most None read h = tt
escape_sized most (Some c) read h = behind_sized c most read h

body_if : (most : ℕ) (b : Bool) (x y : Quoted) → BodySized most x → BodySized most y → BodySized most (if b then x else y)
body_if most true x y h k = h
body_if most false x y h k = k

body_sized : (slash : Bool) (quote : ℕ) (bytes : List ℕ) → BodySized (length bytes) (string_body slash quote bytes)
unfolding string_body BodySized
body_sized slash quote [] = tt
body_sized true quote (b ∷ bytes) = escape_sized (length bytes) (escaped b) (string_body false quote bytes) (body_sized false quote bytes)
body_sized false quote (b ∷ bytes) =
    body_if (suc (length bytes)) (b == quote) _ _ (omega arith)
    (body_if (suc (length bytes)) (b == 92) _ _ (one_sized (length bytes) (string_body true quote bytes) (body_sized true quote bytes))
    (behind_sized b (length bytes) (string_body false quote bytes) (body_sized false quote bytes)))

string_map : (most : ℕ) (bytes : List ℕ) (tok : List ℕ → Token) (read : Quoted) → BodySized (length (drop 1 bytes)) read → 0 < length bytes → Sized (length bytes) (option_map (λ found. (tok found.0, 1 + found.1)) read)
unfolding BodySized
string_map most bytes tok None h some = tt
string_map most bytes tok (Some f) h some = (omega arith, omega (arith, h, length-drop 1 bytes))

string_sized : (bytes : List ℕ) → 0 < length bytes → Sized (length bytes) (string_at bytes)
unfolding string_at
string_sized bytes some = string_map 0 bytes _ (string_body false (get_or bytes 0 0) (drop 1 bytes)) (body_sized false (get_or bytes 0 0) (drop 1 bytes)) some

-- a byte that isn't 0 stands within the bytes
stands_in : (bytes : List ℕ) (i b : ℕ) → get_or bytes i 0 ≡ suc b → i < length bytes
stands_in [] i b e = absurd (omega arith)
stands_in (x ∷ bytes) zero b e = omega arith
stands_in (x ∷ bytes) (suc i) b e = let h = stands_in bytes i b e in omega arith

quoted_sized : (bytes : List ℕ) → Sized (length bytes) (quoted_at bytes)
unfolding quoted_at
quoted_sized bytes =
    let name = take_while continues_name (drop 1 bytes) in
    sized_if (length bytes) (is_name name && get_or bytes (1 + length name) 0 == 96) _ _
    (λ e. let close : get_or bytes (1 + length name) 0 ≡ 96 = eqb-true (get_or bytes (1 + length name) 0) 96 (both (is_name name) _ e).1 in
    let within = stands_in bytes (1 + length name) 95 close in (omega arith, omega arith))
    (λ e. tt)

two_bytes : (bytes : List ℕ) (b : ℕ) → (get_or bytes 1 0 == suc b) ≡ true → 2 ≤ length bytes
two_bytes bytes b e = let h = stands_in bytes 1 b (eqb-true (get_or bytes 1 0) (suc b) e) in omega arith

sign_sized : (bytes : List ℕ) → 0 < length bytes → Sized (length bytes) (sign_at bytes)
unfolding sign_at
sign_sized bytes some =
    let one : (0 < 1) × (1 ≤ length bytes) = (omega arith, omega arith) in
    let first = get_or bytes 0 0 in
    let second = get_or bytes 1 0 in
    sized_if (length bytes) (first == 40) _ _ (λ e. one) (λ e.
    sized_if (length bytes) (first == 41) _ _ (λ e. one) (λ e.
    sized_if (length bytes) (first == 44) _ _ (λ e. one) (λ e.
    sized_if (length bytes) (first == 61) _ _ (λ e. one) (λ e.
    sized_if (length bytes) (first == 33) _ _ (λ e. sized_if (length bytes) (second == 61) _ _ (λ e. (omega arith, two_bytes bytes 60 e)) (λ e. tt)) (λ e.
    sized_if (length bytes) (first == 60) _ _
    (λ e. sized_if (length bytes) (second == 61) _ _ (λ e. (omega arith, two_bytes bytes 60 e)) (λ e. sized_if (length bytes) (second == 62) _ _ (λ e. (omega arith, two_bytes bytes 61 e)) (λ e. one)))
    (λ e.
    sized_if (length bytes) (first == 62) _ _ (λ e. sized_if (length bytes) (second == 61) _ _ (λ e. (omega arith, two_bytes bytes 60 e)) (λ e. one)) (λ e. tt)))))))

pub token_sized : (bytes : List ℕ) → 0 < length bytes → Sized (length bytes) (token_at bytes)
unfolding token_at
token_sized bytes some =
    let first = get_or bytes 0 0 in
    sized_if (length bytes) (begins_name first) _ _ (word_sized bytes some) (λ e.
    sized_if (length bytes) (is_ascii_digit first || first == 45) _ _ (λ e. integer_sized bytes some) (λ e.
    sized_if (length bytes) (first == 34 || first == 39) _ _ (λ e. string_sized bytes some) (λ e.
    sized_if (length bytes) (first == 96) _ _ (λ e. quoted_sized bytes) (λ e. sign_sized bytes some))))
