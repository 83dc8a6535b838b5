use Rattle.std.proofs.Common.{lit<}
use Rattle.std.proofs.lemmas.Str.Pattern.{strip_prefix_char}
use Rattle.resource_names.proofs.PartLemmas.{match_none}
use Rattle.resource_names.proofs.WriteLemmas.{no_s}
use Rattle.resource_names.proofs.write_streams.id_behind.Goals as goal

pub returns-in-None : goal.returns-in-None
returns-in-None c =
    no_s c.args.text.now (match_none c.strip_prefix.result _ _ c.in-None.is (strip_prefix_char 115 c.args.text.now c.strip_prefix.result c.strip_prefix.ensures.cases (lit< tt)))
