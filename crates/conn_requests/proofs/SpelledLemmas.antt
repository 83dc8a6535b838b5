-- What is given on a stream with one answer more is its spelling.
use Rattle.std.proofs.Common.{◌≡◌, ℕ, ◌==◌, Bool, true, false, ◌||◌, List, [], ◌∷◌, ◌++◌, refl, sym, ap, ◌∙◌, append-nil, append_assoc, if◌then◌else◌}
use Rattle.std.specs.List.{flat_map, list_any}
use Rattle.std.proofs.lemmas.List.Concat.{flat_map-cons}
use Rattle.std.proofs.lemmas.Grind.{flat_map-append}
use Rattle.std.proofs.lemmas.Bool.{eqb-true}
use Rattle.h2_record.specs.Record.{AnswerPart, Record, Given}
use Rattle.h2_record.specs.Texts.{Token, part_text, given_text}
use Rattle.conn_requests.specs.Given.{parts_of, with_parts, with_answer}
use Rattle.conn_requests.specs.Decided.{Answered, has_answer}
use Rattle.conn_requests.specs.Spelled.{parts_on, spelling_on}

-- these, where the test holds
abbrev pub where_true : {A : Type 0} → Bool → List A → List A
where_true b xs = if b then xs else []

given_step : (b : Bool) (text first others : List Token) → (if b then text ++ first else text) ++ where_true b others ≡ text ++ where_true b (first ++ others)
given_step true text first others = append_assoc text first others
given_step false text first others = refl

none_given : (b : Bool) (text : List Token) → text ≡ text ++ where_true b []
none_given true text = sym (append-nil text)
none_given false text = sym (append-nil text)

-- parts that are given on a stream are said on it, and on no other
pub given_text-with_parts : (r : Record) (stream : ℕ) (parts : List AnswerPart) (id : ℕ) → given_text (with_parts r stream parts) id ≡ given_text r id ++ where_true (id == stream) (flat_map part_text parts)
given_text-with_parts r stream [] id = none_given (id == stream) (given_text r id)
given_text-with_parts r stream (part ∷ parts) id =
    given_text-with_parts (Given stream part ∷ r) stream parts id
    ∙ given_step (id == stream) (given_text r id) (part_text part) (flat_map part_text parts)
    ∙ ap (λ text. given_text r id ++ where_true (id == stream) text) (sym (flat_map-cons part_text part parts))

or_false : (b : Bool) → (b || false) ≡ b
or_false true = refl
or_false false = refl

or_true : (b : Bool) → (b || true) ≡ true
or_true true = refl
or_true false = refl

last_part : (b begun : Bool) (x : Answered) → (if b then parts_of begun x.answer ++ [] else []) ≡ where_true b (parts_of (begun || false) x.answer)
last_part true begun x = append-nil (parts_of begun x.answer) ∙ ap (λ h. parts_of h x.answer) (sym (or_false begun))
last_part false begun x = refl

-- the first answer is to this stream, or it isn't
first_and_others : (b begun : Bool) (first told told_more untold untold_more : List AnswerPart) (is_last : Bool) (last : Bool → List AnswerPart) (has : Bool) → told_more ≡ told ++ where_true is_last (last true) → untold_more ≡ untold ++ where_true is_last (last (begun || has)) → (if b then first ++ told_more else untold_more) ≡ (if b then first ++ told else untold) ++ where_true is_last (last (begun || (b || has)))
first_and_others true begun first told told_more untold untold_more is_last last has told_is untold_is =
    ap (λ l. first ++ l) told_is
    ∙ sym (append_assoc first told (where_true is_last (last true)))
    ∙ ap (λ h. (first ++ told) ++ where_true is_last (last h)) (sym (or_true begun))
first_and_others false begun first told told_more untold untold_more is_last last has told_is untold_is = untold_is

parts_on-snoc : (id : ℕ) (begun : Bool) (answers : List Answered) (x : Answered) → parts_on id begun (answers ++ x ∷ []) ≡ parts_on id begun answers ++ where_true (id == x.item.stream) (parts_of (begun || has_answer answers id) x.answer)
parts_on-snoc id begun [] x = last_part (id == x.item.stream) begun x
parts_on-snoc id begun (y ∷ answers) x =
    first_and_others (id == y.item.stream) begun (parts_of begun y.answer) (parts_on id true answers) (parts_on id true (answers ++ x ∷ [])) (parts_on id begun answers) (parts_on id begun (answers ++ x ∷ [])) (id == x.item.stream) (λ h. parts_of h x.answer) (has_answer answers id) (parts_on-snoc id true answers x) (parts_on-snoc id begun answers x)

where-flat : (b : Bool) (parts : List AnswerPart) → flat_map part_text (where_true b parts) ≡ where_true b (flat_map part_text parts)
where-flat true parts = refl
where-flat false parts = refl

pub spelling_on-snoc : (id : ℕ) (answers : List Answered) (x : Answered) → spelling_on id (answers ++ x ∷ []) ≡ spelling_on id answers ++ where_true (id == x.item.stream) (flat_map part_text (parts_of (has_answer answers id) x.answer))
unfolding spelling_on
spelling_on-snoc id answers x =
    ap (flat_map part_text) (parts_on-snoc id false answers x)
    ∙ flat_map-append part_text (parts_on id false answers) (where_true (id == x.item.stream) (parts_of (has_answer answers id) x.answer))
    ∙ ap (λ l. flat_map part_text (parts_on id false answers) ++ l) (where-flat (id == x.item.stream) (parts_of (has_answer answers id) x.answer))

same_begun : (b : Bool) (id stream : ℕ) (answers : List Answered) (x : Answered) → (b ≡ true → id ≡ stream) → where_true b (flat_map part_text (parts_of (has_answer answers stream) x.answer)) ≡ where_true b (flat_map part_text (parts_of (has_answer answers id) x.answer))
same_begun true id stream answers x same = ap (λ n. flat_map part_text (parts_of (has_answer answers n) x.answer)) (sym (same refl))
same_begun false id stream answers x same = refl

-- one answer more
pub given_text-with_answer : (r : Record) (answers : List Answered) (x : Answered) → ((id : ℕ) → given_text r id ≡ spelling_on id answers) → (id : ℕ) → given_text (with_answer r x.item.stream (has_answer answers x.item.stream) x.answer) id ≡ spelling_on id (answers ++ x ∷ [])
given_text-with_answer r answers x given id =
    given_text-with_parts r x.item.stream (parts_of (has_answer answers x.item.stream) x.answer) id
    ∙ ap (λ text. text ++ where_true (id == x.item.stream) (flat_map part_text (parts_of (has_answer answers x.item.stream) x.answer))) (given id)
    ∙ ap (λ text. spelling_on id answers ++ text) (same_begun (id == x.item.stream) id x.item.stream answers x (eqb-true id x.item.stream))
    ∙ sym (spelling_on-snoc id answers x)
