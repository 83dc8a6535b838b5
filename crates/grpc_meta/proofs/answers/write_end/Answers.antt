use Rattle.std.proofs.Common.{◌++◌, string_bytes, ap, ◌∙◌}
use Rattle.grpc_meta.proofs.EncodingLemmas.{end_encoded}
use Rattle.grpc_meta.proofs.answers.write_end.Goals as goal

pub returns : goal.returns
returns c =
    c.in_ok-append_to.ensures.ok ∙ ap (λ text. string_bytes c.args.out.now ++ text) (c.percent_encode.ensures.text ∙ end_encoded c.args.octets.now)
