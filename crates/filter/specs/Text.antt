-- The tokens of a text, which is its list of bytes. Each token is the longest that stands at its place.
use Rattle.std.specs.Prelude.{◌≡◌, ℕ, ◌+◌, ◌^◌, Bool, true, false, ◌&&◌, ◌||◌, ◌==◌, nat_lt, nat_le, cond, if◌then◌else◌, List, [], ◌∷◌, length, take, drop, take_while, Option, Some, None, option_map, option_and_then, ℤ, pos, neg_ℤ, slice_index, codes}
use Rattle.std.specs.Char.{is_ascii_digit}
use Rattle.std.specs.List.{prefix_len}
use Rattle.std.specs.Str.Parse.{digits_value}
use Rattle.column_types.specs.Name.{begins_name, continues_name, is_name, is_same_name}
use Rattle.column_types.specs.declared.predicate.Op.{Op}
use Rattle.column_types.specs.declared.predicate.Op.TheVariants as op
use Rattle.filter.specs.declared.token.Form.{Form}
use Rattle.filter.specs.declared.token.Form.TheVariants as form
use Rattle.filter.specs.declared.token.Token.{Token}
use Rattle.filter.specs.declared.token.Token.TheVariants.{Name, Integer, Str, Compare, And, Or, Not, In, Is, Null, True, False, Open, Close, Comma}

-- a blank, a tab, a line feed or a carriage return
abbrev pub is_blank : ℕ → Bool
is_blank byte = byte == 32 || byte == 9 || byte == 10 || byte == 13

-- what follows the blanks at the front
abbrev pub past_blanks : List ℕ → List ℕ
past_blanks bytes = drop (prefix_len is_blank bytes) bytes

-- the first so many bytes are this token
abbrev pub Found : Type 0
Found = Option (Token × ℕ)

-- the word is this keyword, in any ASCII case
abbrev pub is_word : List ℕ → List ℕ → Bool
is_word keyword word = is_same_name word keyword

abbrev pub form_of : List ℕ → Form
form_of word =
    if is_word (codes "DATE") word then form.Date
    else if is_word (codes "TIMESTAMP") word then form.Timestamp
    else form.Plain

-- a bare word: a reserved one, or a name
unfoldable pub word_token : List ℕ → Token
word_token word =
    if is_word (codes "AND") word then And
    else if is_word (codes "OR") word then Or
    else if is_word (codes "NOT") word then Not
    else if is_word (codes "IN") word then In
    else if is_word (codes "IS") word then Is
    else if is_word (codes "NULL") word then Null
    else if is_word (codes "TRUE") word then True
    else if is_word (codes "FALSE") word then False
    else Name word (form_of word)

-- the letters, digits and `_` at the front
unfoldable pub word_at : List ℕ → Found
word_at bytes = Some (word_token (take_while continues_name bytes), prefix_len continues_name bytes)

-- the number that digits spell, where it is one of 64 bits signed
abbrev pub positive_of : List ℕ → Option ℤ
positive_of digits =
    if nat_lt 0 (length digits) && nat_lt (digits_value 10 digits) (2 ^ 63) then Some (pos (digits_value 10 digits)) else None

-- the same behind `-`
abbrev pub negative_of : List ℕ → Option ℤ
negative_of digits =
    if nat_lt 0 (length digits) && nat_le (digits_value 10 digits) (2 ^ 63) then Some (neg_ℤ (pos (digits_value 10 digits))) else None

-- an integer: `-` or none, and all digits that follow; 45 is `-`
unfoldable pub integer_at : List ℕ → Found
integer_at bytes =
    if slice_index bytes 0 == 45
    then option_map (λ n. (Integer n, 1 + prefix_len is_ascii_digit (drop 1 bytes))) (negative_of (take_while is_ascii_digit (drop 1 bytes)))
    else option_map (λ n. (Integer n, prefix_len is_ascii_digit bytes)) (positive_of (take_while is_ascii_digit bytes))

-- what stands for a backslash and this byte: `\\`, `\'`, `\"`, `\n`, `\t`
abbrev pub escaped : ℕ → Option ℕ
escaped byte =
    if byte == 92 || byte == 39 || byte == 34 then Some byte
    else if byte == 110 then Some 10
    else if byte == 116 then Some 9
    else None

-- the characters up to the closing quote, and how many bytes they take with it
abbrev pub Quoted : Type 0
Quoted = Option (List ℕ × ℕ)

abbrev pub behind : ℕ → ℕ → Quoted → Quoted
behind byte taken read = option_map (λ found. (byte ∷ found.0, taken + found.1)) read

-- what a string holds behind its opening quote, and where `slash`, behind a backslash
unfoldable pub string_body : Bool → ℕ → List ℕ → Quoted
string_body slash quote [] = None
string_body true quote (byte ∷ bytes) = option_and_then (λ b. behind b 1 (string_body false quote bytes)) (escaped byte)
string_body false quote (byte ∷ bytes) =
    if byte == quote then Some ([], 1)
    else if byte == 92 then option_map (λ found. (found.0, 1 + found.1)) (string_body true quote bytes)
    else behind byte 1 (string_body false quote bytes)

unfoldable pub string_at : List ℕ → Found
string_at bytes =
    option_map (λ found. (Str found.0, 1 + found.1)) (string_body false (slice_index bytes 0) (drop 1 bytes))

-- a name in backquotes; 96 is a backquote
unfoldable pub quoted_at : List ℕ → Found
quoted_at bytes =
    let name = take_while continues_name (drop 1 bytes) in
    if is_name name && slice_index bytes (1 + length name) == 96 then Some (Name name form.Quoted, 2 + length name) else None

-- a sign, of two bytes where it can be
unfoldable pub sign_at : List ℕ → Found
sign_at bytes =
    let first = slice_index bytes 0 in
    let second = slice_index bytes 1 in
    if first == 40 then Some (Open, 1)
    else if first == 41 then Some (Close, 1)
    else if first == 44 then Some (Comma, 1)
    else if first == 61 then Some (Compare op.Eq, 1)
    else if first == 33 then (if second == 61 then Some (Compare op.Ne, 2) else None)
    else if first == 60 then
    (if second == 61 then Some (Compare op.Le, 2) else if second == 62 then Some (Compare op.Ne, 2) else Some (Compare op.Lt, 1))
    else if first == 62 then (if second == 61 then Some (Compare op.Ge, 2) else Some (Compare op.Gt, 1))
    else None

-- the token at the front; 34 and 39 are the quotes
unfoldable pub token_at : List ℕ → Found
token_at bytes =
    let first = slice_index bytes 0 in
    if begins_name first then word_at bytes
    else if is_ascii_digit first || first == 45 then integer_at bytes
    else if first == 34 || first == 39 then string_at bytes
    else if first == 96 then quoted_at bytes
    else sign_at bytes

-- The text begins with these tokens, with blanks between them or none, and rest is what follows the last of them.
abbrev pub Begins : List ℕ → List Token → List ℕ → Type 0
Begins text [] rest = text ≡ rest
Begins text (token ∷ tokens) rest =
    (len : ℕ) × (token_at (past_blanks text) ≡ Some (token, len)) × Begins (drop len (past_blanks text)) tokens rest
