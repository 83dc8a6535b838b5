-- What the two sets of escaped octets make of a text.
use Rattle.std.proofs.Common.{◌≡◌, ℕ, ◌≤◌, Bool, true, false, not, List, [], ◌∷◌, sym, refl, ◌∙◌, ⊎_elim, arith}
use Rattle.std.specs.Prelude.{if◌then◌else◌}
use Rattle.std.specs.List.{flat_map}
use Rattle.std.proofs.lemmas.Bool.{agree_below, agree_below_at, cases_Bool, cases_lt, cond-true, cond-false, not_from_true, not_from_false}
use Rattle.std.proofs.lemmas.Bool.Decides.{nat_tests}
use Rattle.percent_encoding.specs.declared.ascii_set.AsciiSet.{AsciiSet}
use Rattle.percent_encoding.specs.AsciiSet.{contains, should_percent_encode}
use Rattle.percent_encoding.specs.Percent.{percent_encode_byte, encode_byte, percent_encode}
use Rattle.percent_encoding.proofs.AsciiSetLemmas.{escaped_from_inside, kept_from_outside}
use Rattle.grpc_meta.specs.declared.answers.TheConstants.{ESCAPED, ESCAPED_AT_ENDS}
use Rattle.grpc_meta.specs.Answer.{is_plain, is_plain_at_ends, octet_text, end_text}

flat_map_same : (f g : ℕ → List ℕ) → ((b : ℕ) → f b ≡ g b) → (bs : List ℕ) → flat_map f bs ≡ flat_map g bs
flat_map_same f g same [] = refl
flat_map_same f g same (b ∷ bs) = rw (same b, flat_map_same f g same bs) refl

-- octets outside ASCII are escaped whatever the set is
escaped_above : (set : AsciiSet) (b : ℕ) → 128 ≤ b → should_percent_encode set b ≡ true
unfolding should_percent_encode
escaped_above set b large = grind (arith, nat_tests)

-- a set that has the ASCII octets that a test refuses, where the test refuses all others
escaped_unless : (set : AsciiSet) (keeps : ℕ → Bool) → agree_below (contains set) (λ b. not (keeps b)) 128 ≡ true → ((b : ℕ) → 128 ≤ b → keeps b ≡ false) → (b : ℕ) → should_percent_encode set b ≡ not (keeps b)
escaped_unless set keeps agree above b =
    ⊎_elim
    (λ ascii.
    let here = agree_below_at (contains set) (λ x. not (keeps x)) 128 b agree ascii in
    ⊎_elim
    (λ inside. escaped_from_inside set b inside ∙ sym inside ∙ here)
    (λ outside. kept_from_outside set b ascii outside ∙ sym outside ∙ here)
    (cases_Bool (contains set b)))
    (λ large. escaped_above set b large ∙ sym (not_from_false _ (above b large)))
    (cases_lt b 128)

encode_byte_by : (set : AsciiSet) (keeps : ℕ → Bool) (b : ℕ) → should_percent_encode set b ≡ not (keeps b) → encode_byte set b ≡ (if keeps b then b ∷ [] else percent_encode_byte b)
encode_byte_by set keeps b same =
    ⊎_elim
    (λ kept. cond-false _ _ _ (same ∙ not_from_true _ kept) ∙ sym (cond-true _ _ _ kept))
    (λ escaped. cond-true _ _ _ (same ∙ not_from_false _ escaped) ∙ sym (cond-false _ _ _ escaped))
    (cases_Bool (keeps b))

plain_above : (b : ℕ) → 128 ≤ b → is_plain b ≡ false
plain_above b large = grind (arith, nat_tests)

plain_at_ends_above : (b : ℕ) → 128 ≤ b → is_plain_at_ends b ≡ false
plain_at_ends_above b large = grind (arith, nat_tests)

pub inner_encoded : (bs : List ℕ) → percent_encode ESCAPED bs ≡ flat_map octet_text bs
unfolding percent_encode
inner_encoded bs =
    flat_map_same (encode_byte ESCAPED) octet_text (λ b. encode_byte_by ESCAPED is_plain b (escaped_unless ESCAPED is_plain refl plain_above b)) bs

pub end_encoded : (bs : List ℕ) → percent_encode ESCAPED_AT_ENDS bs ≡ flat_map end_text bs
unfolding percent_encode
end_encoded bs =
    flat_map_same (encode_byte ESCAPED_AT_ENDS) end_text (λ b. encode_byte_by ESCAPED_AT_ENDS is_plain_at_ends b (escaped_unless ESCAPED_AT_ENDS is_plain_at_ends refl plain_at_ends_above b)) bs
