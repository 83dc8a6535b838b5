-- What the first of the tokens that wait on a stream says of the parts that do.
use Rattle.std.proofs.Common.{◌≡◌, ℕ, ◌≤◌, Bool, true, List, [], ◌∷◌, ◌++◌, map, length, drop, Option, None, Some, refl, sym, ap, arith}
use Rattle.h2_answers.specs.declared.part.Head.{Head}
use Rattle.h2_record.specs.Texts.{Token, Fields, Octet, Aborted}
use Rattle.h2_conn.specs.Waits.{head_text, tail_text}

-- the tokens of the parts
abbrev pub text_of : Option Head → (octets : List ℕ) → (tail : Option (List ℕ)) → (resets : List ℕ) → List Token
text_of head octets tail resets = head_text head ++ map Octet octets ++ tail_text tail ++ map Aborted resets

-- ---- no octet stands behind the data

unbegun : (tail : Option (List ℕ)) (resets : List ℕ) (byte : ℕ) (behind : List Token) → tail_text tail ++ map Aborted resets ≡ Octet byte ∷ behind → ⊥
unbegun None [] byte behind e = cc
unbegun None (code ∷ resets) byte behind e = cc
unbegun (Some block) resets byte behind e = cc

-- ---- DATA wait

octets-within : (octets bytes : List ℕ) (tail : Option (List ℕ)) (resets : List ℕ) (behind : List Token)
    → map Octet octets ++ tail_text tail ++ map Aborted resets ≡ map Octet bytes ++ behind → length bytes ≤ length octets
octets-within octets [] tail resets behind e = omega arith
octets-within [] (byte ∷ bytes) tail resets behind e = absurd (unbegun tail resets byte (map Octet bytes ++ behind) e)
octets-within (x ∷ octets) (byte ∷ bytes) tail resets behind e =
    let rest : map Octet octets ++ tail_text tail ++ map Aborted resets ≡ map Octet bytes ++ behind = cc in
    omega (arith, octets-within octets bytes tail resets behind rest)

pub record OctetsWait (head : Option Head) (octets : List ℕ) (len : ℕ) : Type 0 where
  pub first : head ≡ None
  pub within : len ≤ length octets

pub octets-wait : (head : Option Head) (octets : List ℕ) (tail : Option (List ℕ)) (resets : List ℕ) (byte : ℕ) (bytes : List ℕ) (behind : List Token)
    → text_of head octets tail resets ≡ map Octet (byte ∷ bytes) ++ behind → OctetsWait head octets (length (byte ∷ bytes))
octets-wait None octets tail resets byte bytes behind e = record { first = refl; within = octets-within octets (byte ∷ bytes) tail resets behind e }
octets-wait (Some h) octets tail resets byte bytes behind e = absurd (cc)

-- ---- HEADERS wait

-- those that begin the answer, or those that end it
pub data FieldsWait (head : Option Head) (octets : List ℕ) (tail : Option (List ℕ)) (ended : Bool) (block : List ℕ) : Type 0 where
  HeadWaits : head ≡ Some (record { block = block; end = ended }) → FieldsWait head octets tail ended block
  TailWaits : head ≡ None → octets ≡ [] → tail ≡ Some block → ended ≡ true → FieldsWait head octets tail ended block

pub fields-wait : (head : Option Head) (octets : List ℕ) (tail : Option (List ℕ)) (resets : List ℕ) (ended : Bool) (block : List ℕ) (behind : List Token)
    → text_of head octets tail resets ≡ Fields ended block ∷ behind → FieldsWait head octets tail ended block
fields-wait (Some h) octets tail resets ended block behind e = let end : h.end ≡ ended = cc in let bytes : h.block ≡ block = cc in HeadWaits (λ i. Some (record { block = bytes i; end = end i }))
fields-wait None (byte ∷ octets) tail resets ended block behind e = absurd (cc)
fields-wait None [] (Some fields) resets ended block behind e = let bytes : fields ≡ block = cc in let end : true ≡ ended = cc in TailWaits refl refl (ap Some bytes) (sym end)
fields-wait None [] None [] ended block behind e = absurd (cc)
fields-wait None [] None (code ∷ resets) ended block behind e = absurd (cc)

-- ---- a reset waits

pub record CodeWaits (head : Option Head) (octets : List ℕ) (tail : Option (List ℕ)) (resets : List ℕ) (code : ℕ) : Type 0 where
  pub first : head ≡ None
  pub none : octets ≡ []
  pub endless : tail ≡ None
  pub is : resets ≡ code ∷ drop 1 resets

pub code-waits : (head : Option Head) (octets : List ℕ) (tail : Option (List ℕ)) (resets : List ℕ) (code : ℕ) (behind : List Token)
    → text_of head octets tail resets ≡ Aborted code ∷ behind → CodeWaits head octets tail resets code
code-waits (Some h) octets tail resets code behind e = absurd (cc)
code-waits None (byte ∷ octets) tail resets code behind e = absurd (cc)
code-waits None [] (Some fields) resets code behind e = absurd (cc)
code-waits None [] None [] code behind e = absurd (cc)
code-waits None [] None (x ∷ resets) code behind e = record { first = refl; none = refl; endless = refl; is = let same : x ≡ code = cc in ap (λ y. y ∷ resets) same }
