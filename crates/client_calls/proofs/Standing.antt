-- A record into which such frames came stands for them: no rule is broken, whatever went and whatever was answered.
use Rattle.std.proofs.Common.{◌≡◌, ℕ, Bool, true, false, List, [], ◌∷◌, ◌++◌, length, None, refl, sym, ◌∙◌, append_assoc, true≢false, arith}
use Rattle.h2_frames.specs.declared.frame.Frame.{Frame}
use Rattle.h2_frames.specs.declared.frame.Frame.TheVariants as frames
use Rattle.h2_record.specs.Record.{Record, In, Out, Given, Whole, Broken, has_begun}
use Rattle.h2_record.specs.Windows.{connection_window_of}
use Rattle.h2_record.specs.Ids.{last_of}
use Rattle.h2_record.specs.Blocks.{open_of, block_with, whole_block, table_of}
use Rattle.h2_record.specs.Rules.{preface_code, is_outside, settings_code, shift_code, even_code, idle_code, zero_code, grant_code, block_code, size_code}
use Rattle.h2_record.specs.Faults.{fault_by, first_fault_of, flood_of, flood_code}
use Rattle.h2_record.proofs.BoolLemmas.{lt-yes, lt-no}
use Rattle.h2_record.proofs.StepLemmas.{sound-in}
use Rattle.conn_record.specs.Timeline.{is_broken}
use Rattle.conn_record.specs.Read.{came_in}
use Rattle.client_calls.specs.Frames.{settings_frame}
use Rattle.client_calls.specs.Sound.{IsAt}
use Rattle.client_calls.proofs.Going.{IsAsked, IsData, Goes}

-- ---- the rules, each frame by itself

-- where the rules of a frame's own parts and of its place in the record are kept, none is broken
record IsKept (r : Record) (frame : Frame) : Type 0 where
  preface : preface_code (has_begun r) frame ≡ None
  outside : is_outside (open_of r) frame ≡ false
  settings : settings_code frame ≡ None
  shift : shift_code r frame ≡ None
  even : even_code frame ≡ None
  idle : idle_code (last_of r) frame ≡ None
  zero_grant : zero_code frame ≡ None
  grant : grant_code (connection_window_of r) frame ≡ None
  block : block_code r (whole_block r frame) ≡ None
  size : size_code (block_with r frame) ≡ None
  flood : flood_code (flood_of r) frame ≡ None

kept : (r : Record) (frame : Frame) → IsKept r frame → fault_by r frame ≡ None
unfolding fault_by
kept r frame k = rw (k.preface, k.outside, k.settings, k.shift, k.even, k.idle, k.zero_grant, k.grant, k.block, k.size, k.flood) refl

pub sound-settings : (r : Record) → has_begun r ≡ false → open_of r ≡ None → flood_of r ≡ 0 → fault_by r settings_frame ≡ None
sound-settings r begun shut flood = kept r settings_frame (record {
  preface = rw begun refl;
  outside = rw shut refl;
  settings = refl;
  shift = refl;
  even = refl;
  idle = refl;
  zero_grant = refl;
  grant = refl;
  block = refl;
  size = refl;
  flood = rw flood refl;
})

pub sound-request : (r : Record) (last id : ℕ) (block : List ℕ) → has_begun r ≡ true → open_of r ≡ None → IsAsked last id block → fault_by r (frames.Headers id false true block) ≡ None
sound-request r last id block begun shut asked =
    let request = asked.request in
    kept r (frames.Headers id false true block) (record {
      preface = rw begun refl;
      outside = rw shut refl;
      settings = refl;
      shift = refl;
      even = rw asked.next.odd refl;
      idle = refl;
      zero_grant = refl;
      grant = refl;
      block = rw (request.reads (table_of r)) refl;
      size = rw (lt-no 65536 (length block) (omega (arith, asked.short))) refl;
      flood = refl;
    })

pub sound-data : (r : Record) (last stream : ℕ) (end : Bool) (payload : List ℕ) (counted : ℕ) → has_begun r ≡ true → open_of r ≡ None → last_of r ≡ last
    → IsData last stream end payload counted → fault_by r (frames.Body stream end payload counted) ≡ None
sound-data r last stream end payload counted begun shut latest d =
    kept r (frames.Body stream end payload counted) (record {
      preface = rw begun refl;
      outside = rw shut refl;
      settings = refl;
      shift = refl;
      even = refl;
      idle = rw (d.odd, latest, lt-no last stream (omega (arith, d.same))) refl;
      zero_grant = refl;
      grant = refl;
      block = refl;
      size = refl;
      flood = rw d.some refl;
    })

-- ---- a record

-- what a record is before the first of the frames came, and behind it
pub data Stands (r : Record) (sent later : List Frame) : Type 0 where
  Unbegun : has_begun r ≡ false → open_of r ≡ None → last_of r ≡ 0 → flood_of r ≡ 0 → first_fault_of r ≡ None → later ≡ sent → Stands r sent later
  Begun : (last : ℕ) → has_begun r ≡ true → open_of r ≡ None → last_of r ≡ last → first_fault_of r ≡ None → Goes last later → Stands r sent later

module _ (sent : List Frame) (go : Goes 0 sent) where
  came-request : (r : Record) (last id : ℕ) (block : List ℕ) (later : List Frame) → open_of r ≡ None → has_begun r ≡ true → last_of r ≡ last → first_fault_of r ≡ None
      → IsAsked last id block → Goes id later → Stands (In (frames.Headers id false true block) ∷ r) (settings_frame ∷ sent) later
  came-request r last id block later shut begun latest sound asked others =
      Begun id refl refl (rw (latest, lt-yes last id asked.next.above) refl) (sound-in r (frames.Headers id false true block) sound (sound-request r last id block begun shut asked)) others

  came-data : (r : Record) (last stream : ℕ) (end : Bool) (payload : List ℕ) (counted : ℕ) (later : List Frame) → open_of r ≡ None → has_begun r ≡ true → last_of r ≡ last → first_fault_of r ≡ None
      → IsData last stream end payload counted → Goes last later → Stands (In (frames.Body stream end payload counted) ∷ r) (settings_frame ∷ sent) later
  came-data r last stream end payload counted later shut begun latest sound d others =
      Begun last refl shut latest (sound-in r (frames.Body stream end payload counted) sound (sound-data r last stream end payload counted begun shut latest d)) others

  came-first : (r : Record) (frame : Frame) (later : List Frame) → has_begun r ≡ false → open_of r ≡ None → last_of r ≡ 0 → flood_of r ≡ 0 → first_fault_of r ≡ None
      → frame ∷ later ≡ settings_frame ∷ sent → Stands (In frame ∷ r) (settings_frame ∷ sent) later
  came-first r frame later begun shut latest flood sound is =
      let first : frame ≡ settings_frame = cc in
      let rest : later ≡ sent = cc in
      rw (first, rest) (Begun 0 refl shut latest (sound-in r settings_frame sound (sound-settings r begun shut flood)) go)

  came-next : (r : Record) (frame : Frame) (later : List Frame) (last : ℕ) → has_begun r ≡ true → open_of r ≡ None → last_of r ≡ last → first_fault_of r ≡ None
      → Goes last (frame ∷ later) → Stands (In frame ∷ r) (settings_frame ∷ sent) later
  came-next r (frames.Headers id false true block) later last begun shut latest sound goes = came-request r last id block later shut begun latest sound goes.0 goes.1
  came-next r (frames.Headers id true whole block) later last begun shut latest sound goes = absurd goes
  came-next r (frames.Headers id false false block) later last begun shut latest sound goes = absurd goes
  came-next r (frames.Body stream end payload counted) later last begun shut latest sound goes = came-data r last stream end payload counted later shut begun latest sound goes.0 goes.1
  came-next r (frames.Priority stream) later last begun shut latest sound goes = absurd goes
  came-next r (frames.Reset stream code) later last begun shut latest sound goes = absurd goes
  came-next r (frames.Settings acked pairs) later last begun shut latest sound goes = absurd goes
  came-next r (frames.Push stream) later last begun shut latest sound goes = absurd goes
  came-next r (frames.Ping acked octets) later last begun shut latest sound goes = absurd goes
  came-next r (frames.Goaway id code) later last begun shut latest sound goes = absurd goes
  came-next r (frames.Window stream add) later last begun shut latest sound goes = absurd goes
  came-next r (frames.Continuation stream whole block) later last begun shut latest sound goes = absurd goes
  came-next r (frames.Unknown kind stream) later last begun shut latest sound goes = absurd goes

  came : (r : Record) (frame : Frame) (later : List Frame) → Stands r (settings_frame ∷ sent) (frame ∷ later) → Stands (In frame ∷ r) (settings_frame ∷ sent) later
  came r frame later (Unbegun begun shut latest flood sound is) = came-first r frame later begun shut latest flood sound is
  came r frame later (Begun last begun shut latest sound goes) = came-next r frame later last begun shut latest sound goes

  pub standing : (r : Record) (later : List Frame) → is_broken r ≡ false → came_in r ++ later ≡ settings_frame ∷ sent → Stands r (settings_frame ∷ sent) later
  standing [] later unbroken is = Unbegun refl refl refl refl refl is
  standing (In frame ∷ r) later unbroken is = came r frame later (standing r (frame ∷ later) unbroken (sym (append_assoc (came_in r) (frame ∷ []) later) ∙ is))
  standing (Out frame ∷ r) later unbroken is = went (standing r later unbroken is)
    where
      went : Stands r (settings_frame ∷ sent) later → Stands (Out frame ∷ r) (settings_frame ∷ sent) later
      went (Unbegun begun shut latest flood sound same) = Unbegun begun shut latest flood sound same
      went (Begun last begun shut latest sound goes) = Begun last begun shut latest sound goes
  standing (Given stream part ∷ r) later unbroken is = given (standing r later unbroken is)
    where
      given : Stands r (settings_frame ∷ sent) later → Stands (Given stream part ∷ r) (settings_frame ∷ sent) later
      given (Unbegun begun shut latest flood sound same) = Unbegun begun shut latest flood sound same
      given (Begun last begun shut latest sound goes) = Begun last begun shut latest sound goes
  standing (Whole ∷ r) later unbroken is = marked (standing r later unbroken is)
    where
      marked : Stands r (settings_frame ∷ sent) later → Stands (Whole ∷ r) (settings_frame ∷ sent) later
      marked (Unbegun begun shut latest flood sound same) = Unbegun begun shut latest refl sound same
      marked (Begun last begun shut latest sound goes) = Begun last begun shut latest sound goes
  standing (Broken fault ∷ r) later unbroken is = absurd (true≢false unbroken)

  pub unfaulted : (r : Record) (later : List Frame) → IsAt r (settings_frame ∷ sent) later → first_fault_of r ≡ None
  unfaulted r later at = by (standing r later at.unbroken at.came)
    where
      by : Stands r (settings_frame ∷ sent) later → first_fault_of r ≡ None
      by (Unbegun begun shut latest flood sound is) = sound
      by (Begun last begun shut latest sound goes) = sound
