use Rattle.std.proofs.Common.{◌∙◌}
use Rattle.cip_epath.specs.Laws.AnyLaws.{compressed_reads}
use Rattle.cip_epath.proofs.any_path.read_any_path.Goals as goal

pub returns-clause-compressed : goal.returns-clause-compressed
returns-clause-compressed c = λ path reads. c.walked_any_path.ensures ∙ compressed_reads c.args.bytes.now path reads
