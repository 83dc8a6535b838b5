-- What a string holds.
use Rattle.std.proofs.Common.{◌≡◌, ℕ, zero, suc, ◌+◌, ◌-◌, ◌<◌, ◌≤◌, ◌⊎◌, inl, inr, Bool, true, false, cond, ◌&&◌, ◌||◌, not, ◌==◌, List, [], ◌∷◌, ◌++◌, length, take, drop, get_or, refl, sym, ◌∙◌, ap, subst, arith, Option, Some, None, option_map, option_and_then, IsUtf8, IsCharBoundary, IsAscii, if◌then◌else◌, append_assoc, append-nil, one-add, add-one, add_assoc, eqb-true, eq-eqb, drop-cons, drop-drop, take_all, length-drop, drop_of_length-le, get_or-drop, ap₂, add-zero}
use Rattle.std.specs.List.{prefix_len}
use Rattle.std.proofs.lemmas.Bool.Decides.{nat_tests}
use Rattle.std.proofs.lemmas.Str.{IsUtf8-drop, IsUtf8-between, IsUtf8-append, IsUtf8-nil, IsUtf8-from_ascii, IsCharBoundary-start, IsCharBoundary-after_ascii}
use Rattle.filter.specs.Reading.{is_plain, IsQuote}
use Rattle.filter.specs.Text.{Quoted, string_body, escaped, behind}
use native.Mathlib.Nat.{zero-add}

-- what is read behind bytes that were read already
abbrev pub with_front : List ℕ → ℕ → Quoted → Quoted
with_front front taken read = option_map (λ found. (front ++ found.0, taken + found.1)) read

with_front-nil : (read : Quoted) → with_front [] 0 read ≡ read
with_front-nil None = refl
with_front-nil (Some found) = ap (λ n. Some (found.0, n)) (zero-add found.1)

with_front-front : (xs ys : List ℕ) (a b : ℕ) (read : Quoted) → with_front xs a (with_front ys b read) ≡ with_front (xs ++ ys) (a + b) read
with_front-front xs ys a b None = refl
with_front-front xs ys a b (Some found) = simp (append_assoc, add_assoc)

-- What the loop has read: the characters of `text`, in the first `at` bytes.
pub record HasRead (quote : ℕ) (bytes : List ℕ) (at : ℕ) (text : List ℕ) : Type 0 where
  pub within : at ≤ length bytes
  pub read : with_front text at (string_body false quote (drop at bytes)) ≡ string_body false quote bytes
  pub utf8 : IsUtf8 text
  pub boundary : IsCharBoundary bytes at

pub read_nothing : (quote : ℕ) (bytes : List ℕ) → IsUtf8 bytes → HasRead quote bytes 0 []
read_nothing quote bytes u = record { within = omega arith; read = with_front-nil (string_body false quote bytes); utf8 = IsUtf8-nil; boundary = IsCharBoundary-start bytes u }

-- plain bytes stand for themselves
plain_first : (quote b : ℕ) (bytes : List ℕ) → (b == quote) ≡ false → (b == 92) ≡ false → string_body false quote (b ∷ bytes) ≡ with_front (b ∷ []) 1 (string_body false quote bytes)
unfolding string_body
plain_first quote b bytes not_quote not_slash = rw (not_quote, not_slash) refl

not_false : (a b : Bool) → not a && not b ≡ true → (a ≡ false) × (b ≡ false)
not_false false false e = (refl, refl)
not_false false true e = absurd (cc)
not_false true b e = absurd (cc)

some_false : (a b : Bool) → not a && not b ≡ false → (a ≡ true) ⊎ (b ≡ true)
some_false true b e = inl refl
some_false false true e = inr refl
some_false false false e = absurd (cc)

Runs : ℕ → List ℕ → ℕ → Type 0
Runs quote bytes n = string_body false quote bytes ≡ with_front (take n bytes) n (string_body false quote (drop n bytes))

plain_more : (quote b : ℕ) (bytes : List ℕ) (n : ℕ) (v : Bool) → is_plain quote b ≡ v → Runs quote bytes n → Runs quote (b ∷ bytes) (cond v (1 + n) 0)
unfolding Runs
plain_more quote b bytes n true e rest =
    let parts = not_false (b == quote) (b == 92) e in
    rw one-add (plain_first quote b bytes parts.0 parts.1 ∙ ap (with_front (b ∷ []) 1) rest
    ∙ with_front-front (b ∷ []) (take n bytes) 1 n (string_body false quote (drop n bytes)) ∙ ap (λ k. with_front (b ∷ take n bytes) k (string_body false quote (drop n bytes))) (one-add n))
plain_more quote b bytes n false e rest = sym (with_front-nil (string_body false quote (b ∷ bytes)))

plain_run : (quote : ℕ) (bytes : List ℕ) → Runs quote bytes (prefix_len (is_plain quote) bytes)
unfolding Runs string_body
plain_run quote [] = refl
plain_run quote (b ∷ bytes) = plain_more quote b bytes (prefix_len (is_plain quote) bytes) (is_plain quote b) refl (plain_run quote bytes)

stop_more : (p : ℕ → Bool) (b n : ℕ) (bytes : List ℕ) (v : Bool) → p b ≡ v → (n < length bytes → p (get_or bytes n 0) ≡ false) → cond v (1 + n) 0 < suc (length bytes) → p (get_or (b ∷ bytes) (cond v (1 + n) 0) 0) ≡ false
stop_more p b n bytes true e rest h = rw one-add (rest (omega arith))
stop_more p b n bytes false e rest h = e

-- the run stops at a byte of another kind
stop : (p : ℕ → Bool) (bytes : List ℕ) → prefix_len p bytes < length bytes → p (get_or bytes (prefix_len p bytes) 0) ≡ false
stop p [] h = absurd (omega arith)
stop p (b ∷ bytes) h = stop_more p b (prefix_len p bytes) bytes (p b) refl (stop p bytes) h

stop_small : (quote b : ℕ) → IsQuote quote → is_plain quote b ≡ false → b < 128
stop_small quote b q e =
    elim (some_false (b == quote) (b == 92) e) [
      | inl same ↦ let is : b ≡ quote = eqb-true b quote same in elim q [ inl a ↦ omega arith | inr a ↦ omega arith ]
      | inr same ↦ let is : b ≡ 92 = eqb-true b 92 same in omega arith
    ]

pub slice_all : (bytes : List ℕ) (at : ℕ) → take (length bytes - at) (drop at bytes) ≡ drop at bytes
slice_all bytes at = take_all (length bytes - at) (drop at bytes) (omega (arith, length-drop at bytes))

-- what follows a byte of ASCII in a text is a text
pub behind_ascii : (text : List ℕ) (at : ℕ) → IsUtf8 text → at < length text → get_or (take (length text - at) (drop at text)) 0 0 < 128 → IsUtf8 (drop 1 (take (length text - at) (drop at text)))
behind_ascii text at u lt small =
    let all = slice_all text at in
    let first : get_or text at 0 < 128 = subst (λ b. b < 128) (ap (λ bytes. get_or bytes 0 0) all ∙ get_or-drop at text 0 0 ∙ ap (λ k. get_or text k 0) (add-zero at)) small in
    subst IsUtf8 (sym (ap (drop 1) all ∙ drop-drop 1 at text)) (IsUtf8-drop text (at + 1) u (IsCharBoundary-after_ascii text at u lt first))

module _ (quote : ℕ) (bytes : List ℕ) (q : IsQuote quote) (u : IsUtf8 bytes) where
  pub read_plain : (at n : ℕ) (text next : List ℕ) → HasRead quote bytes at text →
      n ≡ prefix_len (is_plain quote) (take (length bytes - at) (drop at bytes)) → n ≤ length (take (length bytes - at) (drop at bytes)) →
      next ≡ text ++ take ((at + n) - at) (drop at bytes) →
      HasRead quote bytes (at + n) next × (at + n < length bytes → is_plain quote (get_or bytes (at + n) 0) ≡ false)
  unfolding Runs
  read_plain at n text next h n_is n_within next_is =
      let within : at ≤ length bytes = h.within in
      let all = slice_all bytes at in
      let size : n + at ≤ length bytes = omega (arith, ap length all, length-drop at bytes) in
      let back : (at + n) - at ≡ n = omega arith in
      let is = n_is ∙ ap (prefix_len (is_plain quote)) all in
      let stops : at + n < length bytes → is_plain quote (get_or bytes (at + n) 0) ≡ false =
      λ lt. let inside : prefix_len (is_plain quote) (drop at bytes) < length (drop at bytes) = omega (arith, length-drop at bytes, is) in
      ap (is_plain quote) (sym (get_or-drop at bytes n 0)) ∙ ap (λ k. is_plain quote (get_or (drop at bytes) k 0)) is ∙ stop (is_plain quote) (drop at bytes) inside in
      let edge : IsCharBoundary bytes (at + n) = (omega arith, λ lt big. absurd (let small = stop_small quote (get_or bytes (at + n) 0) q (stops lt) in omega arith)) in
      let run = subst (Runs quote (drop at bytes)) (sym is) (plain_run quote (drop at bytes)) in (
        record {
          within = omega arith;
          read = ap (λ t. with_front t (at + n) (string_body false quote (drop (at + n) bytes))) (next_is ∙ ap (λ k. text ++ take k (drop at bytes)) back)
              ∙ sym (with_front-front text (take n (drop at bytes)) at n (string_body false quote (drop (at + n) bytes)))
              ∙ ap (λ rest. with_front text at (with_front (take n (drop at bytes)) n (string_body false quote rest))) (sym (drop-drop n at bytes))
              ∙ ap (with_front text at) (sym run) ∙ h.read;
          utf8 = subst IsUtf8 (sym next_is) (IsUtf8-append text _ h.utf8 (IsUtf8-between bytes at (at + n) u (omega arith) h.boundary edge));
          boundary = edge;
        },
        stops,
      )

  pub read_end : (at : ℕ) (text : List ℕ) → HasRead quote bytes at text → at ≡ length bytes → string_body false quote bytes ≡ None
  unfolding string_body
  read_end at text h e = sym h.read ∙ ap (λ rest. with_front text at (string_body false quote rest)) (drop_of_length-le bytes {i = at} (omega arith))

  body_at : (slash : Bool) (at : ℕ) → at < length bytes → string_body slash quote (drop at bytes) ≡ string_body slash quote (get_or bytes at 0 ∷ drop (at + 1) bytes)
  body_at slash at h = ap (string_body slash quote) (drop-cons bytes at 0 h ∙ ap (λ k. get_or bytes at 0 ∷ drop k bytes) (sym (add-one at)))

  quote_first : (b : ℕ) (rest : List ℕ) → b ≡ quote → string_body false quote (b ∷ rest) ≡ Some ([], 1)
  unfolding string_body
  quote_first b rest e = let same : (b == quote) ≡ true = eq-eqb b quote e in rw same refl

  slash_first : (b : ℕ) (rest : List ℕ) → (b ≡ quote → ⊥) → is_plain quote b ≡ false → string_body false quote (b ∷ rest) ≡ option_map (λ found. (found.0, 1 + found.1)) (string_body true quote rest)
  unfolding string_body
  slash_first b rest other e = slash_at (b == quote) (b == 92) refl e
    where
      slash_at : (v w : Bool) → (b == quote) ≡ v → not v && not w ≡ false →
          (if v then Some ([], 1) else (if w then option_map (λ found. (found.0, 1 + found.1)) (string_body true quote rest) else behind b 1 (string_body false quote rest)))
          ≡ option_map (λ found. (found.0, 1 + found.1)) (string_body true quote rest)
      slash_at true w is e = absurd (other (eqb-true b quote is))
      slash_at false true is e = refl
      slash_at false false is e = absurd (cc)

  pub read_quote : (at : ℕ) (text : List ℕ) → HasRead quote bytes at text → at < length bytes → get_or bytes at 0 ≡ quote → string_body false quote bytes ≡ Some (text, at + 1)
  read_quote at text h lt e =
      sym h.read ∙ ap (with_front text at) (body_at false at lt ∙ quote_first (get_or bytes at 0) (drop (at + 1) bytes) e) ∙ ap (λ t. Some (t, at + 1)) (append-nil text)

  slash_read : (at : ℕ) (text : List ℕ) → HasRead quote bytes at text → at < length bytes → (get_or bytes at 0 ≡ quote → ⊥) → is_plain quote (get_or bytes at 0) ≡ false →
      string_body false quote bytes ≡ with_front text at (option_map (λ found. (found.0, 1 + found.1)) (string_body true quote (drop (at + 1) bytes)))
  slash_read at text h lt other e = sym h.read ∙ ap (with_front text at) (body_at false at lt ∙ slash_first (get_or bytes at 0) (drop (at + 1) bytes) other e)

  pub read_cut : (at : ℕ) (text : List ℕ) → HasRead quote bytes at text → at < length bytes → (get_or bytes at 0 ≡ quote → ⊥) → is_plain quote (get_or bytes at 0) ≡ false → at + 1 ≡ length bytes → string_body false quote bytes ≡ None
  unfolding string_body
  read_cut at text h lt other e cut =
      slash_read at text h lt other e ∙ ap (λ rest. with_front text at (option_map (λ found. (found.0, 1 + found.1)) (string_body true quote rest))) (drop_of_length-le bytes {i = at + 1} (omega arith))

  escape_first : (b : ℕ) (rest : List ℕ) → string_body true quote (b ∷ rest) ≡ option_and_then (λ c. behind c 1 (string_body false quote rest)) (escaped b)
  unfolding string_body
  escape_first b rest = refl

  escape_read : (at : ℕ) (text : List ℕ) → HasRead quote bytes at text → at + 1 < length bytes → (get_or bytes at 0 ≡ quote → ⊥) → is_plain quote (get_or bytes at 0) ≡ false →
      string_body false quote bytes ≡ with_front text at (option_map (λ found. (found.0, 1 + found.1)) (option_and_then (λ c. behind c 1 (string_body false quote (drop (at + 1 + 1) bytes))) (escaped (get_or bytes (at + 1) 0))))
  escape_read at text h lt other e =
      slash_read at text h (omega arith) other e
      ∙ ap (λ read. with_front text at (option_map (λ found. (found.0, 1 + found.1)) read)) (body_at true (at + 1) lt ∙ escape_first (get_or bytes (at + 1) 0) (drop (at + 1 + 1) bytes))

  pub read_bad_escape : (at : ℕ) (text : List ℕ) → HasRead quote bytes at text → at + 1 < length bytes → (get_or bytes at 0 ≡ quote → ⊥) → is_plain quote (get_or bytes at 0) ≡ false →
      escaped (get_or bytes (at + 1) 0) ≡ None → string_body false quote bytes ≡ None
  read_bad_escape at text h lt other e bad =
      escape_read at text h lt other e
      ∙ ap (λ c. with_front text at (option_map (λ found. (found.0, 1 + found.1)) (option_and_then (λ c. behind c 1 (string_body false quote (drop (at + 1 + 1) bytes))) c))) bad

  two_more : (c at : ℕ) (text : List ℕ) (read : Quoted) → with_front text at (option_map (λ found. (found.0, 1 + found.1)) (behind c 1 read)) ≡ with_front (text ++ c ∷ []) (at + 2) read
  two_more c at text None = refl
  two_more c at text (Some found) = ap₂ (λ t n. Some (t, n)) (sym (append_assoc text (c ∷ []) found.0)) (omega arith)

  escaped_small : (b c : ℕ) → escaped b ≡ Some c → (b < 128) × (c < 128)
  escaped_small b c e = small_at (b == 92 || b == 39 || b == 34) (b == 110) (b == 116) refl refl refl e
    where
      small_at : (v w x : Bool) → (b == 92 || b == 39 || b == 34) ≡ v → (b == 110) ≡ w → (b == 116) ≡ x →
          (if v then Some b else (if w then Some 10 else (if x then Some 9 else None))) ≡ Some c → (b < 128) × (c < 128)
      small_at true w x is_v is_w is_x e = let small : b < 128 = grind (arith, nat_tests) in let same : b ≡ c = cc in (small, omega arith)
      small_at false true x is_v is_w is_x e = let at : b ≡ 110 = eqb-true b 110 is_w in let same : 10 ≡ c = cc in (omega arith, omega arith)
      small_at false false true is_v is_w is_x e = let at : b ≡ 116 = eqb-true b 116 is_x in let same : 9 ≡ c = cc in (omega arith, omega arith)
      small_at false false false is_v is_w is_x e = absurd (cc)

  pub read_escape : (at c : ℕ) (text next : List ℕ) → HasRead quote bytes at text → at + 1 < length bytes → (get_or bytes at 0 ≡ quote → ⊥) → is_plain quote (get_or bytes at 0) ≡ false →
      escaped (get_or bytes (at + 1) 0) ≡ Some c → next ≡ text ++ c ∷ [] → HasRead quote bytes (at + 2) next
  read_escape at c text next h lt other e is next_is =
      let small = escaped_small (get_or bytes (at + 1) 0) c is in
      let two : at + 1 + 1 ≡ at + 2 = omega arith in
      record {
        within = omega arith;
        read = ap (λ t. with_front t (at + 2) (string_body false quote (drop (at + 2) bytes))) next_is
            ∙ sym (two_more c at text (string_body false quote (drop (at + 2) bytes)))
            ∙ sym (escape_read at text h lt other e
            ∙ ap (λ c. with_front text at (option_map (λ found. (found.0, 1 + found.1)) (option_and_then (λ c. behind c 1 (string_body false quote (drop (at + 1 + 1) bytes))) c))) is
            ∙ ap (λ k. with_front text at (option_map (λ found. (found.0, 1 + found.1)) (behind c 1 (string_body false quote (drop k bytes))))) two);
        utf8 = subst IsUtf8 (sym next_is) (IsUtf8-append text (c ∷ []) h.utf8 (IsUtf8-from_ascii (c ∷ []) (one_ascii c small.1)));
        boundary = subst (IsCharBoundary bytes) two (IsCharBoundary-after_ascii bytes (at + 1) u lt small.0);
      }
    where
      one_ascii : (c : ℕ) → c < 128 → IsAscii (c ∷ [])
      one_ascii c small zero = small
      one_ascii c small (suc i) = omega arith
