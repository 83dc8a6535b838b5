use Rattle.std.proofs.Common.{◌++◌, string_bytes, ap, ◌∙◌}
use Rattle.grpc_meta.proofs.EncodingLemmas.{inner_encoded}
use Rattle.grpc_meta.proofs.answers.write_inner.Goals as goal

pub returns : goal.returns
returns c =
    c.in_ok-append_to.ensures.ok ∙ ap (λ text. string_bytes c.args.out.now ++ text) (c.percent_encode.ensures.text ∙ inner_encoded c.args.octets.now)
