-- The preface, the SETTINGS and the calls.
use Rattle.std.proofs.Common.{◌∙◌}
use Rattle.h2_frames.specs.Reading.{preface}
use Rattle.client_calls.proofs.ByteLemmas.{all-written}
use Rattle.client_calls.proofs.writing.spelled_calls.Goals as goal

pub returns : goal.returns
unfolding preface
returns c =
    let headed = rw (c.from_vec.ensures, c.new.ensures.items, c.in_ok-extend_from_slice.ensures.items, c.new-out.ensures.items) at c.in_ok-write_frame.ensures.ok in
    c.from_vec-2.ensures ∙ all-written c.args.calls.now preface c.write_frame.new.out.items c.put_calls.new.out.items headed c.in_ok-put_calls.ensures
