-- What the tokens of a text hold: integers of 64 bits, and strings that are UTF-8.
use Rattle.std.proofs.Common.{◌≡◌, ℕ, zero, suc, ◌+◌, ◌-◌, ◌^◌, ◌<◌, ◌≤◌, inl, inr, Bool, true, false, ◌&&◌, ◌||◌, ◌==◌, List, [], ◌∷◌, ◌++◌, length, take, drop, get_or, take_while, refl, sym, ◌∙◌, ap, subst, arith, Option, Some, None, IfSome, option_map, ℤ, pos, neg_ℤ, IsUtf8, if◌then◌else◌, nat_lt, nat_le, ltb-true, leb-true, eqb-true, drop-drop, drop_of_length-le, get_or-drop, add-zero}
use Rattle.std.specs.Char.{is_ascii_digit}
use Rattle.std.specs.List.{prefix_len}
use Rattle.std.specs.Str.Parse.{digits_value}
use Rattle.std.specs.Prelude.{IsTrue, codes, int_le}
use Rattle.std.proofs.lemmas.Bool.{cases_lt, and_parts, and_from, eqb-false}
use Rattle.std.proofs.lemmas.Int.{ints}
use Rattle.std.proofs.lemmas.Str.{IsUtf8-drop, IsUtf8-nil, IsCharBoundary-after_ascii, is_utf8-from_IsUtf8}
use Rattle.column_types.specs.Name.{begins_name, continues_name, is_name}
use Rattle.column_types.specs.Row.{is_between, is_of_kind}
use Rattle.column_types.specs.declared.cell.Cell.TheVariants as cell
use Rattle.column_types.specs.declared.column.Kind.TheVariants as kind
use Rattle.column_types.specs.declared.ranges.TheConstants.{LEAST_INT64, GREATEST_INT64}
use Rattle.filter.specs.declared.token.Token.{Token}
use Rattle.filter.specs.declared.token.Token.TheVariants as token
use Rattle.filter.specs.Reading.{is_plain, IsQuote}
use Rattle.filter.specs.Text.{Found, Quoted, is_word, is_blank, past_blanks, word_token, word_at, integer_at, string_at, quoted_at, sign_at, token_at, string_body, escaped, positive_of, negative_of, Begins}
use Rattle.filter.proofs.Sizes.{prefix_le}
use Rattle.filter.proofs.Strings.{HasRead, read_nothing, read_plain, read_end, read_quote, read_cut, read_bad_escape, read_escape}

-- an integer of 64 bits, a string of UTF-8, or a token of another kind
abbrev pub IsValued : Token → Type 0
IsValued (token.Integer n) = IsTrue (is_of_kind kind.Int64 (cell.Int n))
IsValued (token.Str s) = IsTrue (is_of_kind kind.Str (cell.Str s))
IsValued _ = Unit {0}

abbrev pub AllValued : List Token → Type 0
AllValued [] = Unit {0}
AllValued (t ∷ tokens) = IsValued t × AllValued tokens

abbrev Valued : Found → Type 0
Valued found = IfSome found (λ f. IsValued f.0)

valued_if : (b : Bool) (x y : Found) → (b ≡ true → Valued x) → (b ≡ false → Valued y) → Valued (if b then x else y)
valued_if true x y then_x else_y = then_x refl
valued_if false x y then_x else_y = else_y refl

valued_map : {A : Type 0} (f : A → Token × ℕ) (read : Option A) → ((x : A) → read ≡ Some x → IsValued (f x).0) → Valued (option_map f read)
valued_map f None h = tt
valued_map f (Some x) h = h x refl

token_if : (b : Bool) (x y : Token) → IsValued x → IsValued y → IsValued (if b then x else y)
token_if true x y h k = h
token_if false x y h k = k

word_valued : (word : List ℕ) → IsValued (word_token word)
unfolding word_token
word_valued word =
    token_if (is_word (codes "AND") word) _ _ tt
    (token_if (is_word (codes "OR") word) _ _ tt
    (token_if (is_word (codes "NOT") word) _ _ tt
    (token_if (is_word (codes "IN") word) _ _ tt
    (token_if (is_word (codes "IS") word) _ _ tt
    (token_if (is_word (codes "NULL") word) _ _ tt
    (token_if (is_word (codes "TRUE") word) _ _ tt
    (token_if (is_word (codes "FALSE") word) _ _ tt tt)))))))

word_at-valued : (bytes : List ℕ) → Valued (word_at bytes)
unfolding word_at
word_at-valued bytes = word_valued (take_while continues_name bytes)

some_if : (b : Bool) (x y : ℤ) → (if b then Some x else None) ≡ Some y → (b ≡ true) × (x ≡ y)
some_if true x y e = (refl, cc)
some_if false x y e = absurd (cc)

positive_in : (k : ℕ) → k < 2 ^ 63 → is_between LEAST_INT64 GREATEST_INT64 (pos k) ≡ true
positive_in k h =
    let first : int_le LEAST_INT64 (pos k) ≡ true = grind (arith, ints) in
    let last : int_le (pos k) GREATEST_INT64 ≡ true = grind (arith, ints) in
    and_from (int_le LEAST_INT64 (pos k)) (int_le (pos k) GREATEST_INT64) first last

negative_in : (k : ℕ) → k ≤ 2 ^ 63 → is_between LEAST_INT64 GREATEST_INT64 (neg_ℤ (pos k)) ≡ true
negative_in k h =
    let first : int_le LEAST_INT64 (neg_ℤ (pos k)) ≡ true = grind (arith, ints) in
    let last : int_le (neg_ℤ (pos k)) GREATEST_INT64 ≡ true = grind (arith, ints) in
    and_from (int_le LEAST_INT64 (neg_ℤ (pos k))) (int_le (neg_ℤ (pos k)) GREATEST_INT64) first last

positive_valued : (digits : List ℕ) (n : ℤ) → positive_of digits ≡ Some n → is_between LEAST_INT64 GREATEST_INT64 n ≡ true
positive_valued digits n e =
    let parts = some_if (nat_lt 0 (length digits) && nat_lt (digits_value 10 digits) (2 ^ 63)) (pos (digits_value 10 digits)) n e in
    let small = ltb-true (digits_value 10 digits) (2 ^ 63) (and_parts (nat_lt 0 (length digits)) _ parts.0).1 in
    subst (λ n. is_between LEAST_INT64 GREATEST_INT64 n ≡ true) parts.1 (positive_in (digits_value 10 digits) small)

negative_valued : (digits : List ℕ) (n : ℤ) → negative_of digits ≡ Some n → is_between LEAST_INT64 GREATEST_INT64 n ≡ true
negative_valued digits n e =
    let parts = some_if (nat_lt 0 (length digits) && nat_le (digits_value 10 digits) (2 ^ 63)) (neg_ℤ (pos (digits_value 10 digits))) n e in
    let small = leb-true (digits_value 10 digits) (2 ^ 63) (and_parts (nat_lt 0 (length digits)) _ parts.0).1 in
    subst (λ n. is_between LEAST_INT64 GREATEST_INT64 n ≡ true) parts.1 (negative_in (digits_value 10 digits) small)

integer_valued : (bytes : List ℕ) → Valued (integer_at bytes)
unfolding integer_at
integer_valued bytes =
    valued_if (get_or bytes 0 0 == 45) _ _
    (λ minus. valued_map _ (negative_of (take_while is_ascii_digit (drop 1 bytes))) (negative_valued (take_while is_ascii_digit (drop 1 bytes))))
    (λ plain. valued_map _ (positive_of (take_while is_ascii_digit bytes)) (positive_valued (take_while is_ascii_digit bytes)))

-- what a string holds is UTF-8, where what follows its opening quote is
abbrev IsTextRead : Quoted → Type 0
IsTextRead read = IfSome read (λ found. IsUtf8 found.0)

module _ (quote : ℕ) (bytes : List ℕ) (q : IsQuote quote) (u : IsUtf8 bytes) where
  Goal : Type 0
  Goal = IsTextRead (string_body false quote bytes)

  is_read : (read : Quoted) → string_body false quote bytes ≡ read → IsTextRead read → Goal
  unfolding Goal
  is_read read e h = subst IsTextRead (sym e) h

  behind_slash : (at : ℕ) (text : List ℕ) (c : Option ℕ) → HasRead quote bytes at text → at + 1 < length bytes → (get_or bytes at 0 ≡ quote → ⊥) → is_plain quote (get_or bytes at 0) ≡ false →
      escaped (get_or bytes (at + 1) 0) ≡ c → ((next : List ℕ) → HasRead quote bytes (at + 2) next → Goal) → Goal
  behind_slash at text None h lt other stops e go = is_read None (read_bad_escape quote bytes q u at text h lt other stops e) tt
  behind_slash at text (Some c) h lt other stops e go =
      go (text ++ c ∷ []) (read_escape quote bytes q u at c text (text ++ c ∷ []) h lt other stops e refl)

  at_stop : (at : ℕ) (text : List ℕ) (same : Bool) → HasRead quote bytes at text → at < length bytes → (get_or bytes at 0 == quote) ≡ same → is_plain quote (get_or bytes at 0) ≡ false →
      ((next : List ℕ) → HasRead quote bytes (at + 2) next → Goal) → Goal
  at_stop at text true h lt e stops go = is_read (Some (text, at + 1)) (read_quote quote bytes q u at text h lt (eqb-true (get_or bytes at 0) quote e)) h.utf8
  at_stop at text false h lt e stops go =
      let other = eqb-false (get_or bytes at 0) quote e in
      elim (cases_lt (at + 1) (length bytes)) [
        | inl more ↦ behind_slash at text (escaped (get_or bytes (at + 1) 0)) h more other stops refl go
        | inr cut ↦ is_read None (read_cut quote bytes q u at text h lt other stops (omega arith)) tt
      ]

  from_place : (fuel at : ℕ) (text : List ℕ) → HasRead quote bytes at text → length bytes ≤ at + fuel → Goal
  from_place zero at text h enough = is_read None (read_end quote bytes q u at text h (let within = h.within in omega arith)) tt
  from_place (suc fuel) at text h enough =
      let slice = take (length bytes - at) (drop at bytes) in
      let n = prefix_len (is_plain quote) slice in
      let p = read_plain quote bytes q u at n text (text ++ take ((at + n) - at) (drop at bytes)) h refl (prefix_le (is_plain quote) slice) refl in
      elim (cases_lt (at + n) (length bytes)) [
        | inl lt ↦ at_stop (at + n) _ (get_or bytes (at + n) 0 == quote) p.0 lt refl (p.1 lt) (λ next read. from_place fuel (at + n + 2) next read (omega arith))
        | inr end ↦ is_read None (read_end quote bytes q u (at + n) _ p.0 (let within = p.0.within in omega arith)) tt
      ]

  body_utf8 : IsTextRead (string_body false quote bytes)
  unfolding Goal
  body_utf8 = from_place (length bytes) 0 [] (read_nothing quote bytes u) (omega arith)

string_map : (read : Quoted) → IsTextRead read → Valued (option_map (λ found. (token.Str found.0, 1 + found.1)) read)
string_map None h = tt
string_map (Some found) h = is_utf8-from_IsUtf8 found.0 h

string_valued : (bytes : List ℕ) → IsUtf8 (drop 1 bytes) → IsQuote (get_or bytes 0 0) → Valued (string_at bytes)
unfolding string_at
string_valued bytes u q = string_map (string_body false (get_or bytes 0 0) (drop 1 bytes)) (body_utf8 (get_or bytes 0 0) (drop 1 bytes) q u)

quoted_valued : (bytes : List ℕ) → Valued (quoted_at bytes)
unfolding quoted_at
quoted_valued bytes =
    let name = take_while continues_name (drop 1 bytes) in
    valued_if (is_name name && get_or bytes (1 + length name) 0 == 96) _ _ (λ e. tt) (λ e. tt)

sign_valued : (bytes : List ℕ) → Valued (sign_at bytes)
unfolding sign_at
sign_valued bytes =
    let first = get_or bytes 0 0 in
    let second = get_or bytes 1 0 in
    valued_if (first == 40) _ _ (λ e. tt) (λ e.
    valued_if (first == 41) _ _ (λ e. tt) (λ e.
    valued_if (first == 44) _ _ (λ e. tt) (λ e.
    valued_if (first == 61) _ _ (λ e. tt) (λ e.
    valued_if (first == 33) _ _ (λ e. valued_if (second == 61) _ _ (λ e. tt) (λ e. tt)) (λ e.
    valued_if (first == 60) _ _ (λ e. valued_if (second == 61) _ _ (λ e. tt) (λ e. valued_if (second == 62) _ _ (λ e. tt) (λ e. tt))) (λ e.
    valued_if (first == 62) _ _ (λ e. valued_if (second == 61) _ _ (λ e. tt) (λ e. tt)) (λ e. tt)))))))

is_quote : (b : ℕ) → (b == 34 || b == 39) ≡ true → IsQuote b
is_quote b e = at (b == 34) (b == 39) refl refl e
  where
    at : (v w : Bool) → (b == 34) ≡ v → (b == 39) ≡ w → (v || w) ≡ true → IsQuote b
    at true w is_v is_w e = inl (eqb-true b 34 is_v)
    at false true is_v is_w e = inr (eqb-true b 39 is_w)
    at false false is_v is_w e = absurd (cc)

quote_small : (b : ℕ) → IsQuote b → b < 128
quote_small b (inl e) = omega arith
quote_small b (inr e) = omega arith

token_valued : (bytes : List ℕ) → (get_or bytes 0 0 < 128 → IsUtf8 (drop 1 bytes)) → Valued (token_at bytes)
unfolding token_at
token_valued bytes u =
    let first = get_or bytes 0 0 in
    valued_if (begins_name first) _ _ (λ e. word_at-valued bytes) (λ e.
    valued_if (is_ascii_digit first || first == 45) _ _ (λ e. integer_valued bytes) (λ e.
    valued_if (first == 34 || first == 39) _ _ (λ e. let q = is_quote first e in string_valued bytes (u (quote_small first q)) q) (λ e.
    valued_if (first == 96) _ _ (λ e. quoted_valued bytes) (λ e. sign_valued bytes))))

-- what follows a byte of ASCII in a text is a text
behind_ascii : (text : List ℕ) (at : ℕ) → IsUtf8 text → get_or (drop at text) 0 0 < 128 → IsUtf8 (drop 1 (drop at text))
behind_ascii text at u small =
    elim (cases_lt at (length text)) [
      | inl lt ↦ let first : get_or text at 0 < 128 = subst (λ b. b < 128) (get_or-drop at text 0 0 ∙ ap (λ k. get_or text k 0) (add-zero at)) small in
          subst IsUtf8 (sym (drop-drop 1 at text)) (IsUtf8-drop text (at + 1) u (IsCharBoundary-after_ascii text at u lt first))
      | inr end ↦ subst IsUtf8 (sym (drop-drop 1 at text ∙ drop_of_length-le text {i = at + 1} (omega arith))) IsUtf8-nil
    ]

valued_from : (tokens : List Token) (text rest : List ℕ) (at : ℕ) → IsUtf8 text → Begins (drop at text) tokens rest → AllValued tokens
valued_from [] text rest at u begins = tt
valued_from (t ∷ tokens) text rest at u begins =
    let blanks = prefix_len is_blank (drop at text) in
    let here : past_blanks (drop at text) ≡ drop (at + blanks) text = drop-drop blanks at text in
    let found : token_at (drop (at + blanks) text) ≡ Some (t, begins.0) = ap token_at (sym here) ∙ begins.1 in
    let after : drop begins.0 (past_blanks (drop at text)) ≡ drop (at + blanks + begins.0) text = ap (drop begins.0) here ∙ drop-drop begins.0 (at + blanks) text in (
      subst Valued found (token_valued (drop (at + blanks) text) (behind_ascii text (at + blanks) u)),
      valued_from tokens text rest (at + blanks + begins.0) u (subst (λ bytes. Begins bytes tokens rest) after begins.2),
    )

-- the tokens at the front of a text hold integers of 64 bits and texts
pub begins_valued : (tokens : List Token) (text rest : List ℕ) → IsUtf8 text → Begins text tokens rest → AllValued tokens
begins_valued tokens text rest u begins = valued_from tokens text rest 0 u begins
