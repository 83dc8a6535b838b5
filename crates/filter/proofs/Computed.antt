-- What is worked out from token to token is the answer of a text.
use Rattle.std.proofs.Common.{◌≡◌, ℕ, zero, suc, ◌+◌, ◌-◌, ◌<◌, ◌≤◌, ◌⊎◌, inl, inr, Bool, true, false, ◌||◌, List, length, drop, take, Option, Some, None, Result, Ok, Err, refl, sym, ◌∙◌, ap, subst, arith, length-drop, if◌then◌else◌}
use Rattle.std.specs.Prelude.{nat_lt}
use Rattle.std.specs.List.{prefix_len}
use Rattle.std.proofs.lemmas.Bool.Decides.{nat_tests}
use Rattle.std.proofs.lemmas.List.Sums.{prefix_len-le-length}
use Rattle.column_types.specs.declared.column.Column.{Column}
use Rattle.column_types.specs.declared.predicate.Pred.{Pred}
use Rattle.filter.specs.declared.fault.FilterFault.{FilterFault}
use Rattle.filter.specs.declared.fault.FilterFault.TheVariants as fault
use Rattle.filter.specs.declared.limits.TheConstants.{MAX_BYTES, MAX_LITERALS, MAX_DEPTH}
use Rattle.filter.specs.declared.meaning.TestFault.TheVariants as bad
use Rattle.filter.specs.declared.parser.State.{State}
use Rattle.filter.specs.declared.restriction.Reading.{Reading}
use Rattle.filter.specs.declared.restriction.ReadFault.{ReadFault}
use Rattle.filter.specs.declared.restriction.ReadFault.TheVariants as stop
use Rattle.filter.specs.declared.token.Token.{Token}
use Rattle.filter.specs.Machine.{start, step, end, depth_of}
use Rattle.filter.specs.Meaning.{Meaning}
use Rattle.filter.specs.Reading.{Takes, TakesNothing, TakesToken, Reads}
use Rattle.filter.specs.Restriction.{Answers, IsOneAnswer, ends_literal}
use Rattle.filter.specs.Text.{is_blank, token_at, Found}
use Rattle.filter.specs.Computed.{literals_with, passes_limit, within_limits, behind_step, behind_found, behind_token, past, at_next, meaning_at_end, ends, goes, reads_from, first, reading_of, answer_by, restriction_of, IsGiven, IsRestriction}
use Rattle.filter.proofs.Fronts.{AtToken, at_start, takes_next, takes_fault, end_fault, end_means}
use Rattle.filter.proofs.OneAnswer.{one_answer}
use Rattle.filter.proofs.Sizes.{Sized, token_sized}
use Rattle.filter.proofs.Strings.{slice_all}

-- it isn't want of memory
abbrev Stops : {X : Type 0} → Result X ReadFault → Type 0
Stops (Err stop.Memory) = ⊥
Stops _ = Unit {0}

module _ (columns : List Column) (text : List ℕ) where
  -- ---- one token

  limited : (reading : Reading) (token : Token) (len : ℕ) (state : State) → token_at (drop reading.at text) ≡ Some (token, len) → step columns reading.state token ≡ Some state
      → 0 < len → reading.at + len ≤ length text
      → (past : Bool) → passes_limit state (literals_with reading.literals token) ≡ past
      → Takes columns reading text (if past then Err stop.Long else Ok (record { state = state; literals = literals_with reading.literals token; at = reading.at + len }))
  limited reading token len state found steps some within true passes =
      record { token = token; len = len; next = state; found = found; steps = steps; passes = grind (arith, nat_tests) }
  limited reading token len state found steps some within false passes = record {
    token = token;
    len = len;
    found = found;
    steps = steps;
    shallow = grind (arith, nat_tests);
    counts = refl;
    few = grind (arith, nat_tests);
    moves = refl;
    some = some;
    within = within;
  }

  stepped : (reading : Reading) (token : Token) (len : ℕ) (state : Option State) → token_at (drop reading.at text) ≡ Some (token, len) → step columns reading.state token ≡ state
      → 0 < len → reading.at + len ≤ length text → Takes columns reading text (behind_step reading token len state)
  stepped reading token len None found steps some within = (refl, subst (λ f. TakesNothing columns reading f) (sym found) steps)
  stepped reading token len (Some state) found steps some within = limited reading token len state found steps some within _ refl

  takes : (reading : Reading) (found : Found) → token_at (drop reading.at text) ≡ found → Sized (length text - reading.at) found → reading.at < length text
      → Takes columns reading text (behind_found columns reading found)
  takes reading None is sized within = (refl, subst (λ f. TakesNothing columns reading f) (sym is) tt)
  takes reading (Some found) is sized within = stepped reading found.0 found.1 (step columns reading.state found.0) is refl sized.0 (let few = sized.1 in omega arith)

  under_limit : (reading : Reading) (token : Token) (len : ℕ) (state : Option State) → Stops (behind_step reading token len state)
  under_limit reading token len None = tt
  under_limit reading token len (Some state) = by_limit _
    where
      by_limit : (past : Bool) → Stops {X = Reading} (if past then Err stop.Long else Ok (record { state = state; literals = literals_with reading.literals token; at = reading.at + len }))
      by_limit true = tt
      by_limit false = tt

  token_stops : (reading : Reading) (found : Found) → Stops (behind_found columns reading found)
  token_stops reading None = tt
  token_stops reading (Some found) = under_limit reading found.0 found.1 (step columns reading.state found.0)

  token_takes : (reading : Reading) → reading.at < length text → Takes columns reading text (behind_token columns text reading)
  token_takes reading within =
      let size = length-drop reading.at text in
      takes reading (token_at (drop reading.at text)) refl (subst (λ n. Sized n (token_at (drop reading.at text))) size (token_sized (drop reading.at text) (omega arith))) within

  -- ---- all tokens

  prefix_within : (bytes : List ℕ) → prefix_len is_blank bytes ≤ length bytes
  prefix_within bytes = prefix_len-le-length is_blank bytes

  next_at : (reading next : Reading) → AtToken columns text reading → TakesToken columns reading next text → AtToken columns text (at_next columns text next)
  next_at reading next here took =
      let all = slice_all text next.at in
      let bytes = drop next.at text in
      takes_next columns text reading next (prefix_len is_blank bytes) (past columns text next.at) here took (ap (prefix_len is_blank) (sym all))
      (let few = prefix_within bytes in subst (λ b. prefix_len is_blank bytes ≤ length b) (sym all) few) refl

  IsRead : Result Meaning ReadFault → Type 0
  IsRead read = Reads columns text read × Stops read

  end_read : (reading : Reading) (meaning : Option Meaning) → AtToken columns text reading → length text ≤ reading.at → meaning ≡ end columns reading.state → IsRead (meaning_at_end columns text meaning)
  unfolding IsRead
  end_read reading None here past is = (end_fault columns text reading here past is, tt)
  end_read reading (Some meaning) here past is = (end_means columns text reading meaning here past is, tt)

  on_read : (next : Reading → Result Meaning ReadFault) (more : ℕ)
      → ((reading : Reading) → AtToken columns text reading → length text ≤ reading.at + more → IsRead (next reading))
      → (reading : Reading) (found : Result Reading ReadFault) → AtToken columns text reading → reading.at < length text → length text ≤ reading.at + suc more
      → Takes columns reading text found → Stops found → IsRead (goes columns text next found)
  unfolding IsRead
  on_read next more each reading (Err stop.Memory) here within enough took stops = absurd stops
  on_read next more each reading (Err stop.Long) here within enough took stops = (takes_fault columns text reading stop.Long here within took, tt)
  on_read next more each reading (Err (stop.Syntax at)) here within enough took stops = (takes_fault columns text reading (stop.Syntax at) here within took, tt)
  on_read next more each reading (Ok found) here within enough took stops =
      let moves = took.moves in
      let some = took.some in
      each (at_next columns text found) (next_at reading found here took) (omega arith)

  by_place : (next : Reading → Result Meaning ReadFault) (more : ℕ)
      → ((reading : Reading) → AtToken columns text reading → length text ≤ reading.at + more → IsRead (next reading))
      → (reading : Reading) (test : Bool) → nat_lt reading.at (length text) ≡ test → AtToken columns text reading → length text ≤ reading.at + suc more
      → IsRead (if test then goes columns text next (behind_token columns text reading) else ends columns text reading)
  by_place next more each reading true is here enough =
      let within : reading.at < length text = grind (arith, nat_tests) in
      on_read next more each reading (behind_token columns text reading) here within enough (token_takes reading within) (token_stops reading (token_at (drop reading.at text)))
  by_place next more each reading false is here enough = end_read reading (end columns reading.state) here (grind (arith, nat_tests)) refl

  all_read : (more : ℕ) (reading : Reading) → AtToken columns text reading → length text ≤ reading.at + more → IsRead (reads_from columns text more reading)
  unfolding reads_from
  all_read zero reading here enough = end_read reading (end columns reading.state) here (omega arith) refl
  all_read (suc more) reading here enough = by_place (reads_from columns text more) more (all_read more) reading (nat_lt reading.at (length text)) refl here enough

  whole_read : IsRead (reading_of columns text)
  whole_read = all_read (length text) (first columns text) (at_start columns text start (prefix_len is_blank text) refl refl (prefix_within text)) (omega arith)

  -- ---- the answer

  told : (read : Result Meaning ReadFault) → length text ≤ MAX_BYTES → IsRead read → Answers columns text (answer_by read) × IsGiven (answer_by read)
  unfolding IsRead
  told (Ok (Ok pred)) few is = ((few, is.0), tt)
  told (Ok (Err (bad.UnknownColumn name))) few is = ((few, is.0), tt)
  told (Ok (Err (bad.IllTyped name))) few is = ((few, is.0), tt)
  told (Err stop.Memory) few is = absurd (is.1)
  told (Err stop.Long) few is = (inr is.0, tt)
  told (Err (stop.Syntax at)) few is = ((few, is.0), tt)

  by_size : (test : Bool) → nat_lt MAX_BYTES (length text) ≡ test → Answers columns text (if test then Err fault.Long else answer_by (reading_of columns text)) × IsGiven (if test then Err fault.Long else answer_by (reading_of columns text))
  by_size true is = (inl (grind (arith, nat_tests)), tt)
  by_size false is = told (reading_of columns text) (grind (arith, nat_tests)) whole_read

  pub restriction_answers : Answers columns text (restriction_of columns text) × IsGiven (restriction_of columns text)
  unfolding restriction_of
  restriction_answers = by_size (nat_lt MAX_BYTES (length text)) refl

  -- ---- an answer is that one

  no_memory : (answer : Result Pred FilterFault) → IsGiven answer → answer ≡ Err fault.Memory → ⊥
  no_memory answer given is = subst IsGiven is given

  one_restriction : (answer : Result Pred FilterFault) → Answers columns text answer → IsGiven answer → answer ≡ restriction_of columns text
  one_restriction answer is given = elim (one_answer columns text answer (restriction_of columns text) is restriction_answers.0) [
    | inl same ↦ same
    | inr (inl mine) ↦ absurd (no_memory answer given mine)
    | inr (inr other) ↦ absurd (no_memory (restriction_of columns text) restriction_answers.1 other)
  ]

  pub restriction_is : (answer : Result Pred FilterFault) → Answers columns text answer → IsRestriction columns text answer
  restriction_is (Ok pred) is = one_restriction (Ok pred) is tt
  restriction_is (Err fault.Memory) is = tt
  restriction_is (Err fault.Long) is = one_restriction (Err fault.Long) is tt
  restriction_is (Err (fault.Syntax at)) is = one_restriction (Err (fault.Syntax at)) is tt
  restriction_is (Err (fault.UnknownColumn name)) is = one_restriction (Err (fault.UnknownColumn name)) is tt
  restriction_is (Err (fault.IllTyped name)) is = one_restriction (Err (fault.IllTyped name)) is tt
