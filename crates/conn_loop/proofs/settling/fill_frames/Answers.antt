-- What the connection appended counts as written.
use Rattle.std.proofs.Common.{ℕ, ◌-◌, ◌∙◌, subst}
use Rattle.h2_conn.specs.Appended.{Appended}
use Rattle.h2_conn.specs.Fills.{Fills}
use Rattle.conn_record.specs.declared.limits.TheConstants.{WRITE_ROOM}
use Rattle.conn_loop.proofs.SettleLemmas.{appends}
use Rattle.conn_loop.proofs.settling.fill_frames.Goals as goal

pub returns : goal.returns
returns c =
    let before = c.args.out.now.items in
    let after = c.fill.new.out.items in
    let A : ℕ → Type 0 = λ n. Appended before after (λ bytes. Fills c.args.conn.now (WRITE_ROOM - n) bytes c.fill.new.self) in
    record { fills = appends c.args.conn.now c.fill.new.self c.wrote.new.self before after c.requires.short (subst A (c.len-before.ensures ∙ c.args.out.now.ok.0) c.in_ok-fill.ensures.filled) c.wrote.ensures.stands }
