-- What a spine keeps: where a position is found, and what a push keeps.
use Rattle.std.proofs.Common.{◌≡◌, ℕ, zero, suc, ◌+◌, ◌*◌, ◌<◌, ◌≤◌, ◌^◌, List, [], ◌∷◌, ◌++◌, length, map, get_or, take, drop, refl, ap, sym, subst, ◌∙◌, arith, length-append}
use Rattle.std.specs.List.{flat_map, sum_by, AllByRecursion}
use Rattle.std.proofs.lemmas.List.{get_or_at, get_or_read, append_assoc, append-nil, map-append, length-map, length-take-le, length_push}
use Rattle.std.proofs.lemmas.List.Concat.{flat_map-append}
use Rattle.std.proofs.lemmas.List.Elements.{All-get_or, All-from_recursion}
use Rattle.std.proofs.lemmas.List.Sums.{sum_by-cons, sum_by-append, sum_by_push}
use Rattle.column_types.specs.declared.cell.Cell.{Cell}
use Rattle.row_groups.specs.Places.{joined, group_at, IsPlace, HasRows}
use Rattle.row_groups.specs.Starts.{Starting, IsAmong, Covers}
use Rattle.row_groups.specs.Kept.{PlacedGroup, PlacedBlock, group_start, group_size, rows_of, block_start, block_size, groups_of, all_groups, all_rows, IsFull, Keeps}
use Rattle.row_groups.proofs.StartLemmas.{start_is, Starting-push}
use Rattle.row_groups.proofs.PlaceLemmas.{place_behind, split_at, there}

no_group : PlacedGroup
no_group = record { start = 0; rows = [] }

size-joined : (groups : List PlacedGroup) → length (joined (map rows_of groups)) ≡ sum_by group_size groups
size-joined [] = refl
size-joined (group ∷ more) =
    let rest : length (joined (map rows_of more)) ≡ sum_by group_size more = size-joined more in
    omega (arith, length-append group.rows (joined (map rows_of more)), sum_by-cons group_size group more)

size-blocks : (blocks : List PlacedBlock) → sum_by group_size (flat_map groups_of blocks) ≡ sum_by block_size blocks
size-blocks [] = refl
size-blocks (block ∷ more) =
    let rest : sum_by group_size (flat_map groups_of more) ≡ sum_by block_size more = size-blocks more in
    omega (arith, sum_by-append group_size block.groups (flat_map groups_of more), sum_by-cons block_size block more)

size-all : (full : List PlacedBlock) (last : List PlacedGroup) → length (joined (all_rows full last)) ≡ sum_by block_size full + sum_by group_size last
size-all full last = omega (arith, size-joined (all_groups full last), sum_by-append group_size (flat_map groups_of full) last, size-blocks full)

count-take : (full : List PlacedBlock) (k : ℕ) → AllByRecursion IsFull full → k ≤ length full → length (flat_map groups_of (take k full)) ≡ k * 256
count-take full zero each h = refl
count-take [] (suc k) each h = absurd (omega arith)
count-take (block ∷ more) (suc k) each h =
    let rest : length (flat_map groups_of (take k more)) ≡ k * 256 = count-take more k each.1 (omega arith) in
    let here : length block.groups ≡ 256 = each.0.0 in
    omega (arith, length-append block.groups (flat_map groups_of (take k more)))

count-full : (full : List PlacedBlock) → AllByRecursion IsFull full → length (flat_map groups_of full) ≡ length full * 256
count-full [] each = refl
count-full (block ∷ more) each =
    let rest : length (flat_map groups_of more) ≡ length more * 256 = count-full more each.1 in
    let here : length block.groups ≡ 256 = each.0.0 in
    omega (arith, length-append block.groups (flat_map groups_of more))

is_full : (full : List PlacedBlock) (k : ℕ) (d : PlacedBlock) → AllByRecursion IsFull full → k < length full → IsFull (get_or full k d)
is_full full k d each h = All-get_or IsFull full k d h (All-from_recursion IsFull full each)

-- groups around the one of this number, among others
around : (before groups after : List PlacedGroup) (k : ℕ) → k < length groups →
    map rows_of (before ++ (groups ++ after)) ≡ map rows_of (before ++ take k groups) ++ rows_of (get_or groups k no_group) ∷ map rows_of (drop (k + 1) groups ++ after)
around before groups after k h =
    let split : groups ≡ take k groups ++ get_or groups k no_group ∷ drop (k + 1) groups = split_at groups k no_group h in
    let whole : before ++ (groups ++ after) ≡ (before ++ take k groups) ++ get_or groups k no_group ∷ (drop (k + 1) groups ++ after) =
    ap (λ (middle : List PlacedGroup). before ++ (middle ++ after)) split
    ∙ ap (λ (middle : List PlacedGroup). before ++ middle) (append_assoc (take k groups) (get_or groups k no_group ∷ drop (k + 1) groups) after)
    ∙ sym (append_assoc before (take k groups) (get_or groups k no_group ∷ (drop (k + 1) groups ++ after))) in
    ap (map rows_of) whole ∙ map-append rows_of (before ++ take k groups) (get_or groups k no_group ∷ (drop (k + 1) groups ++ after))

long : (before groups : List PlacedGroup) (k : ℕ) → k < length groups → length (map rows_of (before ++ take k groups)) ≡ length before + k
long before groups k h = omega (arith, length-map (before ++ take k groups) rows_of, length-append before (take k groups), length-take-le k groups (omega arith))

place_among : (before groups after : List PlacedGroup) (at position k place : ℕ) → Starting group_start group_size at groups → at ≡ sum_by group_size before →
    Covers group_start group_size groups position k → group_start (get_or groups k no_group) + place ≡ position →
    IsPlace (map rows_of (before ++ (groups ++ after))) position (length before + k) place
place_among before groups after at position k place s e covers counted =
    let ends : position < group_start (get_or groups k no_group) + group_size (get_or groups k no_group) = covers.ends no_group in
    let here : IsPlace (map rows_of (before ++ (groups ++ after))) (length (joined (map rows_of (before ++ take k groups))) + place) (length (map rows_of (before ++ take k groups))) place =
    place_behind _ _ _ _ place (around before groups after k covers.within) (omega arith) in
    let start : group_start (get_or groups k no_group) ≡ at + sum_by group_size (take k groups) = start_is group_start group_size at groups k no_group s covers.within in
    let rows : length (joined (map rows_of (before ++ take k groups))) + place ≡ position =
    omega (arith, size-joined (before ++ take k groups), sum_by-append group_size before (take k groups)) in
    subst (λ (at : ℕ). IsPlace (map rows_of (before ++ (groups ++ after))) at (length before + k) place) rows
    (subst (λ (group : ℕ). IsPlace (map rows_of (before ++ (groups ++ after))) (length (joined (map rows_of (before ++ take k groups))) + place) group place) (long before groups k covers.within) here)

group_among : (before groups after : List PlacedGroup) (k : ℕ) → k < length groups →
    group_at (map rows_of (before ++ (groups ++ after))) (length before + k) ≡ rows_of (get_or groups k no_group)
group_among before groups after k h =
    ap (λ (all : List (List (List Cell))). get_or all (length before + k) []) (around before groups after k h)
    ∙ get_or_at (map rows_of (before ++ take k groups)) (rows_of (get_or groups k no_group)) (map rows_of (drop (k + 1) groups ++ after)) [] (length before + k) (long before groups k h)

-- all groups, around those of one full block
around_block : (full : List PlacedBlock) (last : List PlacedGroup) (k : ℕ) (d : PlacedBlock) → k < length full →
    all_groups full last ≡ flat_map groups_of (take k full) ++ (groups_of (get_or full k d) ++ (flat_map groups_of (drop (k + 1) full) ++ last))
around_block full last k d h =
    ap (λ (all : List PlacedBlock). flat_map groups_of all ++ last) (split_at full k d h)
    ∙ ap (λ (all : List PlacedGroup). all ++ last) (flat_map-append groups_of (take k full) (get_or full k d ∷ drop (k + 1) full))
    ∙ append_assoc (flat_map groups_of (take k full)) (groups_of (get_or full k d) ++ flat_map groups_of (drop (k + 1) full)) last
    ∙ ap (λ (all : List PlacedGroup). flat_map groups_of (take k full) ++ all) (append_assoc (groups_of (get_or full k d)) (flat_map groups_of (drop (k + 1) full)) last)

around_last : (full : List PlacedBlock) (last : List PlacedGroup) → flat_map groups_of full ++ (last ++ []) ≡ all_groups full last
around_last full last = ap (λ (all : List PlacedGroup). flat_map groups_of full ++ all) (append-nil last)

-- there are no more groups than rows
few_with_rows : {A : Type 0} (groups : List (List A)) → AllByRecursion HasRows groups → length groups ≤ length (joined groups)
few_with_rows [] each = omega arith
few_with_rows (group ∷ more) each =
    let here : 0 < length group = each.0 in
    let rest : length more ≤ length (joined more) = few_with_rows more each.1 in
    omega (arith, length-append group (joined more))

some-push : {A : Type 0} (groups : List (List A)) (rows : List A) → AllByRecursion HasRows groups → 0 < length rows → AllByRecursion HasRows (groups ++ rows ∷ [])
some-push [] rows each some = (some, tt)
some-push (group ∷ more) rows each some = (each.0, some-push more rows each.1 some)

rows_pushed : (full : List PlacedBlock) (last : List PlacedGroup) (group : PlacedGroup) → all_rows full (last ++ group ∷ []) ≡ all_rows full last ++ group.rows ∷ []
rows_pushed full last group =
    ap (map rows_of) (sym (append_assoc (flat_map groups_of full) last (group ∷ []))) ∙ map-append rows_of (all_groups full last) (group ∷ [])

module _ (full : List PlacedBlock) (last : List PlacedGroup) (last_start len : ℕ) (keeps : Keeps full last last_start len) where
  pub among_last : (position : ℕ) → last_start ≤ position → position < len → IsAmong group_start group_size last position
  among_last position low high =
      let counts : len ≡ length (joined (all_rows full last)) = keeps.counts in
      let behind : last_start ≡ sum_by block_size full = keeps.behind in
      record { at = last_start; starts = keeps.ends; low = low; high = omega (arith, size-all full last) }

  pub among_full : (position : ℕ) → position < last_start → IsAmong block_start block_size full position
  among_full position high =
      let behind : last_start ≡ sum_by block_size full = keeps.behind in
      record { at = 0; starts = keeps.starts; low = omega arith; high = omega arith }

  pub among_block : (position k : ℕ) (d : PlacedBlock) → Covers block_start block_size full position k →
      IsAmong group_start group_size (groups_of (get_or full k d)) position
  among_block position k d covers = record {
    at = block_start (get_or full k d);
    starts = (is_full full k d keeps.each covers.within).1;
    low = covers.begins d;
    high = covers.ends d;
  }

  pub place_last : (position k place : ℕ) → Covers group_start group_size last position k → ((d : PlacedGroup) → group_start (get_or last k d) + place ≡ position) →
      IsPlace (all_rows full last) position (length full * 256 + k) place
  place_last position k place covers counted =
      let behind : last_start ≡ sum_by group_size (flat_map groups_of full) = keeps.behind ∙ sym (size-blocks full) in
      let here : IsPlace (map rows_of (flat_map groups_of full ++ (last ++ []))) position (length (flat_map groups_of full) + k) place =
      place_among (flat_map groups_of full) last [] last_start position k place keeps.ends behind covers (counted no_group) in
      let all : IsPlace (all_rows full last) position (length (flat_map groups_of full) + k) place =
      subst (λ (all : List PlacedGroup). IsPlace (map rows_of all) position (length (flat_map groups_of full) + k) place) (around_last full last) here in
      subst (λ (before : ℕ). IsPlace (all_rows full last) position (before + k) place) (count-full full keeps.each) all

  pub place_full : (position b k place : ℕ) (d : PlacedBlock) → b < length full → Covers group_start group_size (groups_of (get_or full b d)) position k →
      ((e : PlacedGroup) → group_start (get_or (groups_of (get_or full b d)) k e) + place ≡ position) →
      IsPlace (all_rows full last) position (b * 256 + k) place
  place_full position b k place d h covers counted =
      let start : block_start (get_or full b d) ≡ 0 + sum_by block_size (take b full) = start_is block_start block_size 0 full b d keeps.starts h in
      let before : block_start (get_or full b d) ≡ sum_by group_size (flat_map groups_of (take b full)) = omega (arith, size-blocks (take b full)) in
      let here = place_among (flat_map groups_of (take b full)) (groups_of (get_or full b d)) (flat_map groups_of (drop (b + 1) full) ++ last)
      (block_start (get_or full b d)) position k place (is_full full b d keeps.each h).1 before covers (counted no_group) in
      let all : IsPlace (all_rows full last) position (length (flat_map groups_of (take b full)) + k) place =
      subst (λ (all : List PlacedGroup). IsPlace (map rows_of all) position (length (flat_map groups_of (take b full)) + k) place) (sym (around_block full last b d h)) here in
      subst (λ (before : ℕ). IsPlace (all_rows full last) position (before + k) place) (count-take full b keeps.each (omega arith)) all

  -- a group that is there has a number below the number of rows
  pub few_groups : (group : ℕ) → group < length (all_rows full last) → group < len
  few_groups group h =
      let counts : len ≡ length (joined (all_rows full last)) = keeps.counts in
      let fewer : length (all_rows full last) ≤ length (joined (all_rows full last)) = few_with_rows (all_rows full last) keeps.some in
      omega arith

  pub place_few : (position group place : ℕ) → IsPlace (all_rows full last) position group place → group < len
  place_few position group place p = few_groups group (there (all_rows full last) group place p.within)

  pub count_all : length (all_rows full last) ≡ length full * 256 + length last
  count_all = omega (arith, length-map (all_groups full last) rows_of, length-append (flat_map groups_of full) last, count-full full keeps.each)

  pub below_last : (position k : ℕ) → Covers group_start group_size last position k → length full * 256 + k < len
  below_last position k covers =
      let within : k < length last = covers.within in
      few_groups (length full * 256 + k) (omega (arith, count_all))

  pub below_full : (position b k : ℕ) (d : PlacedBlock) → b < length full → Covers group_start group_size (groups_of (get_or full b d)) position k → b * 256 + k < len
  below_full position b k d h covers =
      let size : length (groups_of (get_or full b d)) ≡ 256 = (is_full full b d keeps.each h).0 in
      let within : k < length (groups_of (get_or full b d)) = covers.within in
      few_groups (b * 256 + k) (omega (arith, count_all))

  -- behind the full blocks there is the last one alone
  pub in_last : (group b k : ℕ) → group < length (all_rows full last) → group ≡ b * 256 + k → k < 256 → length full ≤ b → (b ≡ length full) × (k < length last)
  in_last group b k h e below behind =
      let short : length last ≤ 256 = keeps.short in
      let one : b ≡ length full = omega (arith, count_all) in
      (one, omega (arith, count_all))

  pub group_full : (b k : ℕ) (d : PlacedBlock) (x : PlacedGroup) → b < length full → k < 256 → x ≡ get_or (groups_of (get_or full b d)) k x →
      rows_of x ≡ group_at (all_rows full last) (b * 256 + k)
  group_full b k d x h below e =
      let size : length (groups_of (get_or full b d)) ≡ 256 = (is_full full b d keeps.each h).0 in
      let here = group_among (flat_map groups_of (take b full)) (groups_of (get_or full b d)) (flat_map groups_of (drop (b + 1) full) ++ last) k (omega arith) in
      let all : group_at (all_rows full last) (length (flat_map groups_of (take b full)) + k) ≡ rows_of (get_or (groups_of (get_or full b d)) k no_group) =
      subst (λ (all : List PlacedGroup). group_at (map rows_of all) (length (flat_map groups_of (take b full)) + k) ≡ rows_of (get_or (groups_of (get_or full b d)) k no_group)) (sym (around_block full last b d h)) here in
      let found : group_at (all_rows full last) (b * 256 + k) ≡ rows_of (get_or (groups_of (get_or full b d)) k no_group) =
      subst (λ (before : ℕ). group_at (all_rows full last) (before + k) ≡ rows_of (get_or (groups_of (get_or full b d)) k no_group)) (count-take full b keeps.each (omega arith)) all in
      ap rows_of (get_or_read (groups_of (get_or full b d)) k x (omega arith) e no_group) ∙ sym found

  pub group_last : (k : ℕ) (x : PlacedGroup) → k < length last → x ≡ get_or last k x → rows_of x ≡ group_at (all_rows full last) (length full * 256 + k)
  group_last k x h e =
      let here : group_at (map rows_of (flat_map groups_of full ++ (last ++ []))) (length (flat_map groups_of full) + k) ≡ rows_of (get_or last k no_group) =
      group_among (flat_map groups_of full) last [] k h in
      let all : group_at (all_rows full last) (length (flat_map groups_of full) + k) ≡ rows_of (get_or last k no_group) =
      subst (λ (all : List PlacedGroup). group_at (map rows_of all) (length (flat_map groups_of full) + k) ≡ rows_of (get_or last k no_group)) (around_last full last) here in
      let found : group_at (all_rows full last) (length full * 256 + k) ≡ rows_of (get_or last k no_group) =
      subst (λ (before : ℕ). group_at (all_rows full last) (before + k) ≡ rows_of (get_or last k no_group)) (count-full full keeps.each) all in
      ap rows_of (get_or_read last k x h e no_group) ∙ sym found

  pub keeps_pushed : (rows : List (List Cell)) → length last < 256 → 0 < length rows → len + length rows < 2 ^ 32 → Keeps full (last ++ record { start = len; rows = rows } ∷ []) last_start (len + length rows)
  keeps_pushed rows room some small =
      let group : PlacedGroup = record { start = len; rows = rows } in
      let counts : len ≡ length (joined (all_rows full last)) = keeps.counts in
      let behind : last_start ≡ sum_by block_size full = keeps.behind in
      let start : len ≡ last_start + sum_by group_size last = omega (arith, size-all full last) in
      let more : length (joined (all_rows full (last ++ group ∷ []))) ≡ sum_by block_size full + sum_by group_size (last ++ group ∷ []) = size-all full (last ++ group ∷ []) in
      let sum : sum_by group_size (last ++ group ∷ []) ≡ sum_by group_size last + length rows = sum_by_push group_size last group in
      record {
        each = keeps.each;
        starts = keeps.starts;
        behind = keeps.behind;
        ends = Starting-push group_start group_size last_start last group keeps.ends start;
        short = omega (arith, length_push last group);
        counts = omega arith;
        some = subst (λ (groups : List (List (List Cell))). AllByRecursion HasRows groups) (sym (rows_pushed full last group)) (some-push (all_rows full last) rows keeps.some some);
        small = small;
      }

each-push : (full : List PlacedBlock) (block : PlacedBlock) → AllByRecursion IsFull full → IsFull block → AllByRecursion IsFull (full ++ block ∷ [])
each-push [] block each here = (here, tt)
each-push (first ∷ more) block each here = (each.0, each-push more block each.1 here)

-- the last block stands behind the full ones as well
pub same_sealed : (full : List PlacedBlock) (last : List PlacedGroup) (at : ℕ) → all_groups (full ++ record { start = at; groups = last } ∷ []) [] ≡ all_groups full last
same_sealed full last at =
    append-nil (flat_map groups_of (full ++ record { start = at; groups = last } ∷ []))
    ∙ flat_map-append groups_of full (record { start = at; groups = last } ∷ [])
    ∙ ap (λ (all : List PlacedGroup). flat_map groups_of full ++ all) (append-nil last)

pub keeps_sealed : (full : List PlacedBlock) (last : List PlacedGroup) (last_start len : ℕ) → Keeps full last last_start len → 256 ≤ length last →
    Keeps (full ++ record { start = last_start; groups = last } ∷ []) [] len len
keeps_sealed full last last_start len keeps h =
    let block : PlacedBlock = record { start = last_start; groups = last } in
    let short : length last ≤ 256 = keeps.short in
    let counts : len ≡ length (joined (all_rows full last)) = keeps.counts in
    let behind : last_start ≡ sum_by block_size full = keeps.behind in
    let sum : sum_by block_size (full ++ block ∷ []) ≡ sum_by block_size full + sum_by group_size last = sum_by_push block_size full block in
    record {
      each = each-push full block keeps.each (omega arith, keeps.ends);
      starts = Starting-push block_start block_size 0 full block keeps.starts (omega arith);
      behind = omega (arith, size-all full last);
      ends = tt;
      short = omega arith;
      counts = counts ∙ ap (λ (all : List PlacedGroup). length (joined (map rows_of all))) (sym (same_sealed full last last_start));
      some = subst (λ (all : List PlacedGroup). AllByRecursion HasRows (map rows_of all)) (sym (same_sealed full last last_start)) keeps.some;
      small = keeps.small;
    }
