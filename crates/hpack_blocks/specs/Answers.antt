-- What a decoder is and answers.
use Rattle.std.specs.Prelude.{◌≡◌, ℕ, ◌-◌, ◌^◌, ◌<◌, ◌≤◌, min, length, drop, List, [], ◌∷◌, ◌++◌, Option, Some, None, Result, Ok, Err}
use Rattle.hpack_blocks.specs.declared.fields.Field.{Field}
use Rattle.hpack_blocks.specs.declared.faults.BlockFault.{BlockFault}
use Rattle.hpack_blocks.specs.declared.faults.BlockFault.TheVariants.{Memory, BadBlock, TooLarge}
use Rattle.hpack_blocks.specs.declared.listed.Listed.{Listed}
use Rattle.hpack_blocks.specs.Table.{Table, list_size}
use Rattle.hpack_blocks.specs.Block.{Block, fields_from, block_of}
use Rattle.hpack_blocks.specs.Grammar.{IsBlock}

-- a decoder with this table, or one that answers a fault from now on
pub data Standing : Type 0 where
  Open : Table → Standing
  Bad : Standing
  Lost : Standing

-- a part was read, or the block is bad, or memory ran out
abbrev pub Fails : {Y : Type 0} → BlockFault → Option Y → Type 0
Fails Memory read = Unit {0}
Fails BadBlock read = read ≡ None
Fails (TooLarge size) read = ⊥

abbrev pub Gives : {X Y : Type 0} → (X → Y) → Result X BlockFault → Option Y → Type 0
Gives view (Ok x) read = read ≡ Some (view x)
Gives view (Err fault) read = Fails fault read

-- the largest list of fields, in the sizes of its entries
abbrev pub MAX : ℕ
MAX = 16384

-- a number as a u64 that stands still at its end
abbrev pub counted : ℕ → ℕ
counted n = min n (2 ^ 64 - 1)

-- the fields of a list that is being read, and what they count; the fields are let go once they
-- count more than the largest list
abbrev pub IsListed : Listed → List Field → Type 0
IsListed l fields = (l.size ≡ counted (list_size fields)) × (l.size ≤ MAX → l.fields.items ≡ fields) × (MAX < l.size → l.fields.items ≡ [])

-- one more field
abbrev pub Grows : Listed → Listed → Field → Type 0
Grows old new f = (fields : List Field) → IsListed old fields → IsListed new (fields ++ f ∷ [])

-- a field was read at the head of the bytes
abbrev pub ReadsField : Result ℕ BlockFault → Option (Field × Table × ℕ) → Table → Listed → Listed → ℕ → Type 0
ReadsField (Ok used) read t old new len = (f : Field) × (read ≡ Some (f, t, used)) × Grows old new f × (1 ≤ used) × (used ≤ len)
ReadsField (Err fault) read t old new len = Fails fault read

-- the fields of a block were read
abbrev pub ReadsBlock : Result Listed BlockFault → Block → Table → Type 0
ReadsBlock (Ok l) read t = (fields : List Field) × (read ≡ Some (fields, t)) × IsListed l fields
ReadsBlock (Err fault) read t = Fails fault read

-- the size updates at the start of a block were read
abbrev pub ReadsUpdates : Result ℕ BlockFault → List ℕ → Block → Table → Type 0
ReadsUpdates (Ok at) block read t = (read ≡ fields_from t 0 (drop at block)) × (at ≤ length block)
ReadsUpdates (Err fault) block read t = Fails fault read

-- the answer of an open decoder to a block, and the decoder after it
abbrev pub Answers : Result (List Field) BlockFault → Block → Standing → Type 0
Answers (Ok fields) read new = (t : Table) × (read ≡ Some (fields, t)) × (list_size fields ≤ MAX) × (new ≡ Open t)
Answers (Err (TooLarge size)) read new = (fields : List Field) × (t : Table) × (read ≡ Some (fields, t)) × (MAX < list_size fields) × (size ≡ counted (list_size fields)) × (new ≡ Open t)
Answers (Err BadBlock) read new = (read ≡ None) × (new ≡ Bad)
Answers (Err Memory) read new = new ≡ Lost

abbrev pub Decodes : Standing → List ℕ → Result (List Field) BlockFault → Standing → Type 0
Decodes (Open t) block result new = Answers result (block_of t block) new
Decodes Bad block result new = (result ≡ Err BadBlock) × (new ≡ Bad)
Decodes Lost block result new = (result ≡ Err Memory) × (new ≡ Lost)

-- the answer of an open decoder to a block, by the grammar
abbrev pub Follows : Result (List Field) BlockFault → Table → List ℕ → Standing → Type 0
Follows (Ok fields) t block new = (after : Table) × IsBlock t block fields after × (list_size fields ≤ MAX) × (new ≡ Open after)
Follows (Err (TooLarge size)) t block new = (fields : List Field) × (after : Table) × IsBlock t block fields after × (MAX < list_size fields) × (size ≡ counted (list_size fields)) × (new ≡ Open after)
Follows (Err BadBlock) t block new = ((fields : List Field) (after : Table) → IsBlock t block fields after → ⊥) × (new ≡ Bad)
Follows (Err Memory) t block new = new ≡ Lost
