-- The frame that is next of what waits on a stream is next of what was given on it.
use Rattle.std.proofs.Common.{◌≡◌, ℕ, ◌<◌, ◌≤◌, ◌⊎◌, inl, inr, Bool, true, false, not, ◌&&◌, List, [], ◌∷◌, ◌++◌, map, length, take, drop, Option, None, Some, IsSome, pos, refl, sym, ap, subst, ◌∙◌, append_assoc, true≢false, if◌then◌else◌}
use Rattle.std.specs.Prelude.{unwrap_or, ◌≤ℤ◌}
use Rattle.std.proofs.lemmas.List.{length-take-le, map-append, take-append-drop}
use Rattle.h2_frames.specs.Header.{max_frame_size}
use Rattle.h2_frames.specs.declared.frame.Frame.{Frame}
use Rattle.h2_frames.specs.declared.frame.Frame.TheVariants as frames
use Rattle.h2_answers.specs.declared.part.Part.TheVariants as part
use Rattle.h2_answers.specs.Waiting.{Waiting, nothing, data_of}
use Rattle.h2_answers.specs.Due.{IsNext, block_of}
use Rattle.h2_record.specs.Record.{Record}
use Rattle.h2_record.specs.Windows.{send_window_of, connection_window_of}
use Rattle.h2_record.specs.Resets.{is_live}
use Rattle.h2_record.specs.Texts.{Token, Fields, Octet, Aborted, has_headed, frame_text, written_text, written_codes}
use Rattle.h2_record.specs.Due.{IsStarted, IsNextText, IsDueHeaders, IsDueData, IsNextCode}
use Rattle.h2_conn.specs.Waits.{head_text, tail_text, waiting_text, WaitsLive, WaitsBy}
use Rattle.h2_record.proofs.BoolLemmas.{same-self}

-- a stream lives on which anything but resets waits
pub lives-by : (r : Record) (id : ℕ) (waiting : Waiting) (live : Bool) → is_live r id ≡ live → WaitsBy live r id waiting → (waiting ≡ record nothing { resets = waiting.resets } → ⊥)
    → (is_live r id ≡ true) × WaitsLive r id waiting
lives-by r id waiting true live w some = (live, w)
lives-by r id waiting false live w some = absurd (some w.text)

-- the block of HEADERS
block-dropped : (headed : Bool) (block : List ℕ) → drop (if headed then 0 else 1) (block_of (not headed) block) ≡ block
block-dropped true block = refl
block-dropped false block = refl

pub block-octets : (headed : Bool) (block : List ℕ) → block_of (not headed) block ≡ (if headed then [] else 32 ∷ []) ++ block
block-octets true block = refl
block-octets false block = refl

pub headers-text : (r : Record) (id : ℕ) (ended headed : Bool) (block : List ℕ) → headed ≡ has_headed r → frame_text r id (frames.Headers id ended true (block_of (not headed) block)) ≡ Fields ended block ∷ []
headers-text r id ended headed block same =
    (λ i. if same-self id i then Fields ended (drop (if sym same i then 0 else 1) (block_of (not headed) block)) ∷ [] else [])
    ∙ ap (λ octets. Fields ended octets ∷ []) (block-dropped headed block)

-- the first of the octets that wait
data-text : (len : ℕ) (bytes : List ℕ) (tail resets : List Token)
    → map Octet bytes ++ tail ++ resets ≡ map Octet (take len bytes) ++ (map Octet (drop len bytes) ++ tail ++ resets)
data-text len bytes tail resets =
    ap (λ octets. octets ++ tail ++ resets) (ap (map Octet) (sym (take-append-drop len bytes)) ∙ map-append Octet (take len bytes) (drop len bytes))
    ∙ ap (λ text. text ++ resets) (append_assoc (map Octet (take len bytes)) (map Octet (drop len bytes)) tail)
    ∙ append_assoc (map Octet (take len bytes)) (map Octet (drop len bytes) ++ tail) resets

module _ (r : Record) (id : ℕ) (waiting : Waiting) (started : IsStarted r) (live : is_live r id ≡ true) (w : WaitsLive r id waiting) where
  next-text : (frame : Frame) (text behind : List Token) → frame_text r id frame ≡ text → waiting_text waiting ≡ text ++ behind → IsNextText r id frame
  next-text frame text behind is waits = record {
    started = started;
    live = live;
    behind = behind;
    next = append_assoc (written_text r id) (frame_text r id frame) behind ∙ (λ i. written_text r id ++ (is i ++ behind)) ∙ ap (λ more. written_text r id ++ more) (sym waits) ∙ w.text;
  }

  pub headers-due : (ended headed : Bool) (block : List ℕ) (behind : List Token) → headed ≡ has_headed r → waiting_text waiting ≡ Fields ended block ∷ behind
      → IsDueHeaders r id ended true (block_of (not headed) block)
  headers-due ended headed block behind same waits = record {
    text = next-text (frames.Headers id ended true (block_of (not headed) block)) (Fields ended block ∷ []) behind (headers-text r id ended headed block same) waits;
    in_one = refl;
    spelling = block;
    octets = block-octets headed block ∙ ap (λ (h : Bool). (if h then [] else 32 ∷ []) ++ block) same;
  }

  pub data-due : (len : ℕ) → waiting.head ≡ None → 0 < len → len ≤ max_frame_size → len ≤ length (data_of waiting) → pos len ≤ℤ send_window_of r id → pos len ≤ℤ connection_window_of r
      → IsDueData r id false (take len (data_of waiting)) len
  data-due len head some small there stream connection =
      let bytes = take len (data_of waiting) in
      let all : length bytes ≡ len = length-take-le len (data_of waiting) there in
      record {
        text = next-text (frames.Body id false bytes len) (map Octet bytes) (map Octet (drop len (data_of waiting)) ++ tail_text waiting.tail ++ map Aborted waiting.resets)
            (λ i. if same-self id i then map Octet bytes else [])
            (ap (λ front. head_text front ++ map Octet (data_of waiting) ++ tail_text waiting.tail ++ map Aborted waiting.resets) head
            ∙ data-text len (data_of waiting) (tail_text waiting.tail) (map Aborted waiting.resets));
        goes_on = refl;
        some = subst (λ (n : ℕ). 0 < n) (sym all) some;
        small = subst (λ (n : ℕ). n ≤ max_frame_size) (sym all) small;
        unpadded = sym all;
        stream = subst (λ (n : ℕ). pos n ≤ℤ send_window_of r id) (sym all) stream;
        connection = subst (λ (n : ℕ). pos n ≤ℤ connection_window_of r) (sym all) connection;
      }

  reset-text : (code : ℕ) → waiting.head ≡ None → data_of waiting ≡ [] → waiting.tail ≡ None → waiting.resets ≡ code ∷ drop 1 waiting.resets → IsNextText r id (frames.Reset id code)
  reset-text code head empty tail resets = next-text (frames.Reset id code) (Aborted code ∷ []) (map Aborted (drop 1 waiting.resets))
      (λ i. if same-self id i && live i then Aborted code ∷ [] else [])
      (λ i. head_text (head i) ++ map Octet (empty i) ++ tail_text (tail i) ++ map Aborted (resets i))

-- the next reset on a stream, live or not
pub reset-by : (r : Record) (id code : ℕ) (waiting : Waiting) (live : Bool) → IsStarted r → is_live r id ≡ live → WaitsBy live r id waiting → IsNext waiting (part.Reset code)
    → IsNextText r id (frames.Reset id code) ⊎ IsNextCode r id code
reset-by r id code waiting true started live w ahead = inl (reset-text r id waiting started live w code ahead.0 ahead.1 ahead.2 ahead.3)
reset-by r id code waiting false started live w ahead = inr (record {
  started = started;
  closed = live;
  behind = drop 1 waiting.resets;
  next = ap (λ codes. written_codes r id ++ codes) (sym ahead.3) ∙ w.resets;
})

-- the trailers that wait
pub tail-some : (tail : Option (List ℕ)) → IsSome tail → tail_text tail ≡ Fields true (unwrap_or tail []) ∷ []
tail-some None there = absurd (true≢false (sym there))
tail-some (Some block) there = refl
