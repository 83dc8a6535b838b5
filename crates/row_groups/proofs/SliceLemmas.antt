-- Rows of a list, one behind another.
use Rattle.std.proofs.Common.{◌≡◌, ℕ, ◌+◌, ◌-◌, ◌≤◌, List, take, drop, sym, ap, ◌∙◌, arith}
use Rattle.std.proofs.lemmas.List.{drop-drop, drop-take}

-- the rows behind the first ones
pub skipped : {A : Type 0} (rows : List A) (from len count : ℕ) → count ≤ len → take (len - count) (drop (from + count) rows) ≡ drop count (take len (drop from rows))
skipped rows from len count within =
    let all : count + (len - count) ≡ len = omega (arith, within) in
    ap (take (len - count)) (sym (drop-drop count from rows))
    ∙ sym (drop-take count (len - count) (drop from rows))
    ∙ ap (λ n. drop count (take n (drop from rows))) all
