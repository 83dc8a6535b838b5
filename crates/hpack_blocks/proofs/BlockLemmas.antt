-- Blocks read piece by piece.
use Rattle.std.proofs.Common.{◌≡◌, ℕ, zero, suc, ◌+◌, ◌-◌, ◌<◌, ◌≤◌, true, false, List, [], ◌∷◌, ◌++◌, length, take, drop, get_or, Some, None, Ok, refl, sym, ap, ◌∙◌, append_assoc, add-zero, arith}
use Rattle.std.proofs.Math.ListN.{drop_of_length-le}
use Rattle.std.proofs.Math.Seq.{take-length}
use Rattle.std.proofs.lemmas.List.{append-nil, drop-drop, get_or-drop, length-drop}
use Rattle.hpack_blocks.specs.declared.fields.Field.{Field}
use Rattle.hpack_blocks.specs.declared.listed.Listed.{Listed}
use Rattle.hpack_blocks.specs.declared.faults.BlockFault.{BlockFault}
use Rattle.hpack_blocks.specs.declared.faults.BlockFault.TheVariants.{Memory, BadBlock, TooLarge}
use Rattle.hpack_blocks.specs.Table.{Table}
use Rattle.hpack_blocks.specs.Reading.{◌>>=◌, field_at, update_at}
use Rattle.hpack_blocks.specs.Block.{Block, fields_from, block_from, is_update}
use Rattle.hpack_blocks.specs.Answers.{IsListed, ReadsField, ReadsBlock, Fails}

-- what was read before, and what is still read
abbrev pub with_fields : List Field → Block → Block
with_fields front (Some x) = Some (front ++ x.0, x.1)
with_fields front None = None

with_fields-one : (front : List Field) (f : Field) (read : Block) → with_fields front (with_fields (f ∷ []) read) ≡ with_fields (front ++ f ∷ []) read
with_fields-one front f (Some x) = ap (λ (fields : List Field). Some (fields, x.1)) (sym (append_assoc front (f ∷ []) x.0))
with_fields-one front f None = refl

pub with_fields-none : (read : Block) → with_fields [] read ≡ read
with_fields-none (Some x) = refl
with_fields-none None = refl

joined : (f : Field) (read : Block) → (read >>= λ rest. Some (f ∷ rest.0, rest.1)) ≡ with_fields (f ∷ []) read
joined f (Some x) = refl
joined f None = refl

fields_skip : (bytes : List ℕ) (t : Table) (more : ℕ) → more ≤ length bytes → fields_from t more bytes ≡ fields_from t 0 (drop more bytes)
unfolding fields_from
fields_skip [] t zero h = refl
fields_skip [] t (suc more) h = absurd (omega arith)
fields_skip (b ∷ bytes) t zero h = refl
fields_skip (b ∷ bytes) t (suc more) h = fields_skip bytes t more (omega arith)

block_skip : (bytes : List ℕ) (t : Table) (more : ℕ) → more ≤ length bytes → block_from t more bytes ≡ block_from t 0 (drop more bytes)
unfolding block_from
block_skip [] t zero h = refl
block_skip [] t (suc more) h = absurd (omega arith)
block_skip (b ∷ bytes) t zero h = refl
block_skip (b ∷ bytes) t (suc more) h = block_skip bytes t more (omega arith)

dropped : (bytes : List ℕ) (at used : ℕ) → drop used (drop at bytes) ≡ drop (at + used) bytes
dropped bytes at used = drop-drop used at bytes

first_of : (bytes : List ℕ) (at : ℕ) → get_or (drop at bytes) 0 0 ≡ get_or bytes at 0
first_of bytes at = get_or-drop at bytes 0 0 ∙ ap (λ i. get_or bytes i 0) (add-zero at)

-- ---- fields

pub fields_head : (bytes : List ℕ) (t t' : Table) (f : Field) (used : ℕ) → 0 < length bytes → 1 ≤ used → used ≤ length bytes → field_at t bytes ≡ Some (f, t', used) → fields_from t 0 bytes ≡ with_fields (f ∷ []) (fields_from t' 0 (drop used bytes))
unfolding fields_from
fields_head [] t t' f used some one within e = absurd (omega arith)
fields_head (b ∷ bytes) t t' f zero some one within e = absurd (omega arith)
fields_head (b ∷ bytes) t t' f (suc used) some one within e =
    let left : suc used - 1 ≡ used = omega arith in
    rw (e, left, fields_skip bytes t' used (omega arith)) (joined f (fields_from t' 0 (drop used bytes)))

pub fields_bad : (bytes : List ℕ) (t : Table) → 0 < length bytes → field_at t bytes ≡ None → fields_from t 0 bytes ≡ None
unfolding fields_from
fields_bad [] t some e = absurd (omega arith)
fields_bad (b ∷ bytes) t some e = rw e refl

pub fields_end : (t : Table) → fields_from t 0 [] ≡ Some ([], t)
unfolding fields_from
fields_end t = refl

-- what was read of a block's fields
pub record IsRead (l : Listed) (t : Table) (left : List ℕ) (whole : Block) : Type 0 where
  pub fields : List Field
  pub listed : IsListed l fields
  pub rest : with_fields fields (fields_from t 0 left) ≡ whole

pub is_read-more : (l l' : Listed) (t t' : Table) (bytes : List ℕ) (at used : ℕ) (whole : Block) → at < length bytes → IsRead l t (drop at bytes) whole
    → ReadsField (Ok used) (field_at t (drop at bytes)) t' l l' (length (drop at bytes)) → IsRead l' t' (drop (at + used) bytes) whole
is_read-more l l' t t' bytes at used whole within p q =
    let some : 0 < length (drop at bytes) = omega (arith, length-drop at bytes) in
    let head = fields_head (drop at bytes) t t' q.0 used some q.3 q.4 q.1 in
    let behind : drop used (drop at bytes) ≡ drop (at + used) bytes = dropped bytes at used in
    record {
      fields = p.fields ++ q.0 ∷ [];
      listed = q.2 p.fields p.listed;
      rest = sym (with_fields-one p.fields q.0 (fields_from t' 0 (drop (at + used) bytes))) ∙ ap (with_fields p.fields) (sym (rw (← behind) head)) ∙ p.rest;
    }

pub is_read-bad : (fault : BlockFault) (l : Listed) (t : Table) (bytes : List ℕ) (at : ℕ) (whole : Block) → at < length bytes → IsRead l t (drop at bytes) whole
    → Fails fault (field_at t (drop at bytes)) → Fails fault whole
is_read-bad Memory l t bytes at whole within p q = tt
is_read-bad BadBlock l t bytes at whole within p q =
    sym p.rest ∙ ap (with_fields p.fields) (fields_bad (drop at bytes) t (omega (arith, length-drop at bytes)) q)
is_read-bad (TooLarge size) l t bytes at whole within p q = q

pub is_read-end : (l : Listed) (t : Table) (bytes : List ℕ) (at : ℕ) (whole : Block) → length bytes ≤ at → IsRead l t (drop at bytes) whole → ReadsBlock (Ok l) whole t
is_read-end l t bytes at whole past p =
    let none : drop at bytes ≡ [] = drop_of_length-le bytes {i = at} past in
    let last : with_fields p.fields (fields_from t 0 (drop at bytes)) ≡ Some (p.fields, t) = rw (none, fields_end t) (ap (λ (fields : List Field). Some (fields, t)) (append-nil p.fields)) in
    (p.fields, sym p.rest ∙ last, p.listed)

-- ---- size updates

pub update_head : (bytes : List ℕ) (t t' : Table) (used : ℕ) → 0 < length bytes → is_update (get_or bytes 0 0) ≡ true → 1 ≤ used → used ≤ length bytes → update_at t bytes ≡ Some (t', used) → block_from t 0 bytes ≡ block_from t' 0 (drop used bytes)
unfolding block_from
update_head [] t t' used some is one within e = absurd (omega arith)
update_head (b ∷ bytes) t t' zero some is one within e = absurd (omega arith)
update_head (b ∷ bytes) t t' (suc used) some is one within e =
    let left : suc used - 1 ≡ used = omega arith in
    rw (is, e, left) (block_skip bytes t' used (omega arith))

pub update_refused : (bytes : List ℕ) (t : Table) → 0 < length bytes → is_update (get_or bytes 0 0) ≡ true → update_at t bytes ≡ None → block_from t 0 bytes ≡ None
unfolding block_from
update_refused [] t some is e = absurd (omega arith)
update_refused (b ∷ bytes) t some is e = rw (is, e) refl

pub update_more : (bytes : List ℕ) (t t' : Table) (at used : ℕ) (whole : Block) → at < length bytes → is_update (get_or bytes at 0) ≡ true → 1 ≤ used → used ≤ length (drop at bytes) → update_at t (drop at bytes) ≡ Some (t', used)
    → block_from t 0 (drop at bytes) ≡ whole → block_from t' 0 (drop (at + used) bytes) ≡ whole
update_more bytes t t' at used whole within is one few e so_far =
    let some : 0 < length (drop at bytes) = omega (arith, length-drop at bytes) in
    let first : is_update (get_or (drop at bytes) 0 0) ≡ true = rw (first_of bytes at) is in
    rw (← dropped bytes at used) (sym (update_head (drop at bytes) t t' used some first one few e) ∙ so_far)

pub update_bad : (fault : BlockFault) (bytes : List ℕ) (t : Table) (at : ℕ) (whole : Block) → at < length bytes → is_update (get_or bytes at 0) ≡ true → Fails fault (update_at t (drop at bytes)) → block_from t 0 (drop at bytes) ≡ whole → Fails fault whole
update_bad Memory bytes t at whole within is q so_far = tt
update_bad BadBlock bytes t at whole within is q so_far =
    let some : 0 < length (drop at bytes) = omega (arith, length-drop at bytes) in
    let first : is_update (get_or (drop at bytes) 0 0) ≡ true = rw (first_of bytes at) is in
    sym so_far ∙ update_refused (drop at bytes) t some first q
update_bad (TooLarge size) bytes t at whole within is q so_far = q

pub update_end : (bytes : List ℕ) (t : Table) (at : ℕ) → length bytes ≤ at → block_from t 0 (drop at bytes) ≡ fields_from t 0 (drop at bytes)
unfolding block_from
update_end bytes t at past = let none : drop at bytes ≡ [] = drop_of_length-le bytes {i = at} past in rw none refl

pub update_none : (bytes : List ℕ) (t : Table) → is_update (get_or bytes 0 0) ≡ false → block_from t 0 bytes ≡ fields_from t 0 bytes
unfolding block_from
update_none [] t is = refl
update_none (b ∷ bytes) t is = rw is refl

pub update_past : (bytes : List ℕ) (t : Table) (at : ℕ) → is_update (get_or bytes at 0) ≡ false → block_from t 0 (drop at bytes) ≡ fields_from t 0 (drop at bytes)
update_past bytes t at is = update_none (drop at bytes) t (rw (first_of bytes at) is)

-- the code's slice of what is left
pub slice_rest : (bytes : List ℕ) (at : ℕ) → take (length bytes - at) (drop at bytes) ≡ drop at bytes
slice_rest bytes at = rw (← length-drop at bytes) (take-length (drop at bytes))
