use Rattle.cip_epath.specs.Laws.PathLaws.{path_text_reads, target_text_reads}
use Rattle.cip_epath.proofs.laws.reads_back.Goals as goal

pub returns-clause-path : goal.returns-clause-path
returns-clause-path c = path_text_reads

pub returns-clause-target : goal.returns-clause-target
returns-clause-target c = target_text_reads
