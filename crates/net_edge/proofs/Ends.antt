-- Lists that end with others.
use Rattle.std.proofs.Common.{◌≡◌, ℕ, ◌-◌, ◌≤◌, List, ◌++◌, length, drop, arith, ap, ◌∙◌, length-drop, length-append}
use Rattle.std.proofs.Math.Seq.{drop-append_seam}
use Rattle.net_edge.specs.Tcp.{EndsWith}

pub ends_drop : {X : Type 0} → (n : ℕ) (xs : List X) → n ≤ length xs → EndsWith xs (drop n xs)
ends_drop n xs within =
    let there : length xs - length (drop n xs) ≡ n = omega (arith, length-drop n xs, within) in
    (omega (arith, length-drop n xs), ap (λ m. drop m xs) there)

pub ends_append : {X : Type 0} → (xs ys : List X) → EndsWith (xs ++ ys) ys
ends_append xs ys =
    let there : length (xs ++ ys) - length ys ≡ length xs = omega (arith, length-append xs ys) in
    (omega (arith, length-append xs ys), ap (λ m. drop m (xs ++ ys)) there ∙ drop-append_seam xs ys)

pub ends_self : {X : Type 0} → (xs : List X) → EndsWith xs xs
ends_self xs = ends_drop 0 xs (omega arith)
