-- The rules of header blocks, and the block and the table behind a frame.
use Rattle.std.proofs.Common.{◌≡◌, ℕ, ◌≤◌, nat_lt, Bool, true, false, not, List, [], ◌∷◌, ◌++◌, map, append-nil, ◌||◌, length, Option, None, Some, refl, sym, ap, ◌∙◌, arith}
use Rattle.std.specs.Option.{option_or}
use Rattle.hpack_blocks.specs.Answers.{Standing, Open}
use Rattle.h2_frames.specs.declared.frame.Frame.{Frame}
use Rattle.h2_frames.specs.declared.frame.Frame.TheVariants as frames
use Rattle.h2_record.specs.declared.block.OpenBlock.{OpenBlock}
use Rattle.h2_conn.specs.declared.whole_block.BlockTold.{BlockTold}
use Rattle.h2_conn.specs.declared.whole_block.BlockTold.TheVariants as heard
use Rattle.h2_record.specs.Record.{Record, In}
use Rattle.h2_record.specs.Blocks.{begun_block, table_of, table_after, table_behind, whole_block, reading_of}
use Rattle.h2_record.specs.Refusals.{malformed_reading}
use Rattle.h2_record.specs.Rules.{broken, code_if, reading_code, size_code}
use Rattle.h2_record.specs.Events.{read_event}
use Rattle.h2_conn.specs.WholeBlock.{ReadsBlock, Tells}
use Rattle.h2_record.specs.Control.{frame_of, written_control_of}
use Rattle.h2_conn.specs.Held.{Held}
use Rattle.h2_conn.specs.Counting.{CountedBlock}
use Rattle.h2_conn.specs.Taking.{Settled, early_of, Fails}
use Rattle.h2_record.specs.Early.{late_fault}
use Rattle.h2_record.proofs.BoolLemmas.{lt-no}
use Rattle.h2_conn.proofs.SettledFaults.{breaks-late}
use Rattle.h2_record.proofs.StepLemmas.{controls-in}

-- the block that a connection makes of HEADERS
pub begun-held : (c : Held) (r : Record) (stream : ℕ) (ended : Bool) (fragment : List ℕ) → Settled c r
    → ◌≡◌ {A = OpenBlock} (record { stream = stream; ended = ended; is_late = not (nat_lt c.streams.last stream); bytes = fragment; continuations = 0 }) (begun_block r stream ended fragment)
begun-held c r stream ended fragment s = λ i. record { stream = stream; ended = ended; is_late = not (nat_lt (s.streams.last i) stream); bytes = fragment; continuations = 0 }

-- what was heard of a whole block
pub tells-of : (r : Record) (frame : Frame) (block : OpenBlock) (heard : BlockTold) (decoder : Standing) → whole_block r frame ≡ Some block → ReadsBlock block (reading_of r block) (Some heard) decoder
    → Tells r frame (Some heard) × (decoder ≡ Open (table_of (In frame ∷ r))) × (reading_code (reading_of r block) ≡ None)
tells-of r frame block heard.Malformed decoder whole hears =
    ((block, whole, ap (malformed_reading block) hears.2 ∙ hears.3), hears.4 ∙ ap Open (sym (ap (table_after (table_of r)) whole ∙ ap (table_behind (table_of r)) hears.2)), ap reading_code hears.2)
tells-of r frame block (heard.Tells event) decoder whole hears = (
  (block, whole, ap (malformed_reading block) hears.2 ∙ hears.3.0, ap (read_event block) hears.2 ∙ ap Some (sym hears.3.1)),
  hears.4 ∙ ap Open (sym (ap (table_after (table_of r)) whole ∙ ap (table_behind (table_of r)) hears.2)),
  ap reading_code hears.2,
)

module _ (c : Held) (r : Record) (stream : ℕ) (ended : Bool) (fragment : List ℕ) (s : Settled c r) (small : length fragment ≤ 16384) where
  no-size : size_code (Some (begun_block r stream ended fragment)) ≡ None
  no-size = λ i. code_if (lt-no 65536 (length fragment) (omega (arith, small)) i || nat_lt 64 0) 11

  -- the late rules of HEADERS
  late-whole : (code : Option ℕ) → reading_code (reading_of r (begun_block r stream ended fragment)) ≡ code → late_fault r (frames.Headers stream ended true fragment) ≡ option_or (broken 15 code) None
  unfolding late_fault
  late-whole code read = (λ i. option_or (broken 15 (read i)) (option_or (broken 16 (no-size i)) None))

  late-part : late_fault r (frames.Headers stream ended false fragment) ≡ None
  unfolding late_fault
  late-part = λ i. option_or (broken 16 (no-size i)) None

  -- a block that isn't in the grammar
  pub fails-block : (decoder : Standing) (block : Option OpenBlock) → early_of c (frames.Headers stream ended true fragment) ≡ None → reading_of r (begun_block r stream ended fragment) ≡ None
      → Fails r (frames.Headers stream ended true fragment) (record { code = 9; rule = 15 }) (record c { has_begun = true; block = block; decoder = decoder })
  fails-block decoder block early bad = record {
    breaks = breaks-late c r (frames.Headers stream ended true fragment) s early ∙ late-whole (Some 9) (ap reading_code bad);
    controls = s.controls;
    last = s.streams.last;
    headed = s.headed;
  }

  -- a first fragment
  pub counts-part : early_of c (frames.Headers stream ended false fragment) ≡ None
      → CountedBlock (record c { has_begun = true; block = Some (begun_block r stream ended fragment) }) r (frames.Headers stream ended false fragment)
  counts-part early =
      let frame = frames.Headers stream ended false fragment in
      let none = breaks-late c r frame s early ∙ late-part in
      record {
        counted = record {
          sound = s.sound;
          breaks = none;
          begun = refl;
          window = s.window;
          initial = s.initial;
          streams = s.streams;
          controls = ap (λ waiting. written_control_of r ++ map frame_of waiting) (sym (append-nil c.control)) ∙ controls-in r frame c.control [] s.sound none s.controls refl;
          keeping = s.keeping;
          flood = s.flood;
          headed = s.headed;
        };
        owing = s.owing;
        block = refl;
        table = s.table;
      }

  -- a whole block
  pub counts-whole : (decoder : Standing) (heard : BlockTold) → early_of c (frames.Headers stream ended true fragment) ≡ None → ReadsBlock (begun_block r stream ended fragment) (reading_of r (begun_block r stream ended fragment)) (Some heard) decoder
      → CountedBlock (record c { has_begun = true; block = None; decoder = decoder }) r (frames.Headers stream ended true fragment)
  counts-whole decoder heard early hears =
      let frame = frames.Headers stream ended true fragment in
      let told = tells-of r frame (begun_block r stream ended fragment) heard decoder refl hears in
      let none = breaks-late c r frame s early ∙ late-whole None told.2 in
      record {
        counted = record {
          sound = s.sound;
          breaks = none;
          begun = refl;
          window = s.window;
          initial = s.initial;
          streams = s.streams;
          controls = ap (λ waiting. written_control_of r ++ map frame_of waiting) (sym (append-nil c.control)) ∙ controls-in r frame c.control [] s.sound none s.controls refl;
          keeping = s.keeping;
          flood = s.flood;
          headed = s.headed;
        };
        owing = s.owing;
        block = refl;
        table = told.1;
      }
