-- A record that doesn't speak of an id.
use Rattle.std.proofs.Common.{◌≡◌, ℕ, ◌+◌, false, ◌&&◌, [], ◌∷◌, ◌++◌, map, length, drop, refl, ◌∙◌, if◌then◌else◌}
use Rattle.h2_frames.specs.declared.frame.Frame.{Frame}
use Rattle.h2_frames.specs.declared.frame.Frame.TheVariants as frames
use Rattle.h2_answers.specs.Replies.{adding_reply}
use Rattle.h2_record.specs.Record.{Record, Item, In, Out, Given, Reply, any_in, any_out, sum_in, sum_out}
use Rattle.h2_record.specs.Windows.{with_increment, with_payload, with_data}
use Rattle.h2_record.specs.Live.{ends, finishes, cancels}
use Rattle.h2_record.specs.Resets.{is_live}
use Rattle.h2_record.specs.Replies.{replies_of}
use Rattle.h2_record.specs.Texts.{Fields, Octet, Aborted, has_headed, given_text, written_text, frame_text, part_text, written_codes}
use Rattle.h2_record.specs.Fresh.{is_on, speaks, is_spoken}
use Rattle.h2_record.proofs.BoolLemmas.{or-first, or-second, or-none}
use Rattle.h2_record.proofs.ApartLemmas.{apart, finishes-off}

module _ (id : ℕ) where
  rest : (x : Item) (r : Record) → is_spoken (x ∷ r) id ≡ false → is_spoken r id ≡ false
  rest x r quiet = or-second (speaks id x) (is_spoken r id) quiet

  here : (x : Item) (r : Record) → is_spoken (x ∷ r) id ≡ false → speaks id x ≡ false
  here x r quiet = or-first (speaks id x) (is_spoken r id) quiet

  pub increments-in : (r : Record) (start : ℕ) → is_spoken r id ≡ false → sum_in (with_increment id) start r ≡ start
  increments-in [] start quiet = refl
  increments-in (In frame ∷ r) start quiet = (apart id frame (here (In frame) r quiet)).increments (sum_in (with_increment id) start r) ∙ increments-in r start (rest (In frame) r quiet)
  increments-in (x ∷ r) start quiet = increments-in r start (rest x r quiet)

  pub increments-out : (r : Record) (start : ℕ) → is_spoken r id ≡ false → sum_out (with_increment id) start r ≡ start
  increments-out [] start quiet = refl
  increments-out (Out frame ∷ r) start quiet = (apart id frame (here (Out frame) r quiet)).increments (sum_out (with_increment id) start r) ∙ increments-out r start (rest (Out frame) r quiet)
  increments-out (x ∷ r) start quiet = increments-out r start (rest x r quiet)

  pub payloads-in : (r : Record) (start : ℕ) → is_spoken r id ≡ false → sum_in (with_payload id) start r ≡ start
  payloads-in [] start quiet = refl
  payloads-in (In frame ∷ r) start quiet = (apart id frame (here (In frame) r quiet)).payloads (sum_in (with_payload id) start r) ∙ payloads-in r start (rest (In frame) r quiet)
  payloads-in (x ∷ r) start quiet = payloads-in r start (rest x r quiet)

  data-off : (frame : Frame) (sum : ℕ) → is_on id frame ≡ false → with_data id frame sum ≡ sum
  data-off (frames.Body stream end bytes counted) sum off = λ i. if off i then sum + length bytes else sum
  data-off frame sum off = refl

  pub data-none : (r : Record) (start : ℕ) → is_spoken r id ≡ false → sum_out (with_data id) start r ≡ start
  data-none [] start quiet = refl
  data-none (Out frame ∷ r) start quiet = data-off frame (sum_out (with_data id) start r) (here (Out frame) r quiet) ∙ data-none r start (rest (Out frame) r quiet)
  data-none (x ∷ r) start quiet = data-none r start (rest x r quiet)

  pub ends-none : (r : Record) → is_spoken r id ≡ false → any_in (ends id) r ≡ false
  ends-none [] quiet = refl
  ends-none (In frame ∷ r) quiet = or-none (ends id frame) (any_in (ends id) r) ((apart id frame (here (In frame) r quiet)).ends) (ends-none r (rest (In frame) r quiet))
  ends-none (x ∷ r) quiet = ends-none r (rest x r quiet)

  pub cancels-none : (r : Record) → is_spoken r id ≡ false → any_in (cancels id) r ≡ false
  cancels-none [] quiet = refl
  cancels-none (In frame ∷ r) quiet = or-none (cancels id frame) (any_in (cancels id) r) ((apart id frame (here (In frame) r quiet)).cancels) (cancels-none r (rest (In frame) r quiet))
  cancels-none (x ∷ r) quiet = cancels-none r (rest x r quiet)

  pub finishes-none : (r : Record) → is_spoken r id ≡ false → any_out (finishes id) r ≡ false
  finishes-none [] quiet = refl
  finishes-none (Out frame ∷ r) quiet = or-none (finishes id frame) (any_out (finishes id) r) (finishes-off id frame (here (Out frame) r quiet)) (finishes-none r (rest (Out frame) r quiet))
  finishes-none (x ∷ r) quiet = finishes-none r (rest x r quiet)

  pub replies-none : (r : Record) → is_spoken r id ≡ false → replies_of r id ≡ []
  replies-none [] quiet = refl
  replies-none (Given stream (Reply bytes) ∷ r) quiet =
      (λ i. if here (Given stream (Reply bytes)) r quiet i then adding_reply (replies_of r id) bytes else replies_of r id) ∙ replies-none r (rest (Given stream (Reply bytes)) r quiet)
  replies-none (x ∷ r) quiet = replies-none r (rest x r quiet)

  pub given-none : (r : Record) → is_spoken r id ≡ false → given_text r id ≡ []
  given-none [] quiet = refl
  given-none (Given stream part ∷ r) quiet =
      (λ i. if here (Given stream part) r quiet i then given_text r id ++ part_text part else given_text r id) ∙ given-none r (rest (Given stream part) r quiet)
  given-none (x ∷ r) quiet = given-none r (rest x r quiet)

  text-off : (r : Record) (frame : Frame) → is_on id frame ≡ false → frame_text r id frame ≡ []
  text-off r (frames.Headers stream end whole block) off = λ i. if off i then Fields end (drop (if has_headed r then 0 else 1) block) ∷ [] else []
  text-off r (frames.Body stream end bytes counted) off = λ i. if off i then map Octet bytes else []
  text-off r (frames.Reset stream code) off = λ i. if off i && is_live r id then Aborted code ∷ [] else []
  text-off r frame off = refl

  pub written-none : (r : Record) → is_spoken r id ≡ false → written_text r id ≡ []
  written-none [] quiet = refl
  written-none (Out frame ∷ r) quiet = (λ i. written-none r (rest (Out frame) r quiet) i ++ text-off r frame (here (Out frame) r quiet) i)
  written-none (x ∷ r) quiet = written-none r (rest x r quiet)

  pub codes-unwritten : (r : Record) → is_spoken r id ≡ false → written_codes r id ≡ []
  codes-unwritten [] quiet = refl
  codes-unwritten (Out (frames.Reset stream code) ∷ r) quiet =
      (λ i. if here (Out (frames.Reset stream code)) r quiet i then written_codes r id ++ code ∷ [] else written_codes r id) ∙ codes-unwritten r (rest (Out (frames.Reset stream code)) r quiet)
  codes-unwritten (x ∷ r) quiet = codes-unwritten r (rest x r quiet)
