-- What is appended to an empty buffer.
use Rattle.std.proofs.Common.{◌≡◌, ℕ, ◌==◌, Bool, true, false, List, [], length, refl, sym, ap, subst, ◌∙◌, arith, true≢false}
use Rattle.std.proofs.lemmas.Bool.{eqb-true}
use Rattle.h2_conn.specs.Held.{Held}
use Rattle.h2_conn.specs.Produces.{Goes, Rests, ProducesInto}
use Rattle.h2_conn.proofs.ProduceSteps.{spelled-some}

pub into-goes : (old : Held) (room : ℕ) (went : Bool) (bytes : List ℕ) (new : Held) → ProducesInto old room went [] bytes new → (length bytes == 0) ≡ false → Goes old room bytes new
into-goes old room true bytes new p some = subst (λ (b : List ℕ). Goes old room b new) (sym p.joined) p.is
into-goes old room false bytes new p some =
    let none : (length bytes == 0) ≡ true = rw p.1 refl in
    absurd (true≢false (sym none ∙ some))

pub into-rests : (old : Held) (room : ℕ) (went : Bool) (bytes : List ℕ) (new : Held) → ProducesInto old room went [] bytes new → (length bytes == 0) ≡ true → Rests old room new
into-rests old room true bytes new p none =
    let len : length bytes ≡ 0 = eqb-true (length bytes) 0 none in
    absurd (omega (arith, len, spelled-some p.is.frame, ap length p.is.spelled, ap length p.joined))
into-rests old room false bytes new p none = p.0
