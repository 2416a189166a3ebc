use Rattle.cip_netparams.specs.Laws.Words.{word16_reads, word32_reads, trigger_reads}
use Rattle.cip_netparams.proofs.laws.reads_back.Goals as goal

pub returns-clause-word16 : goal.returns-clause-word16
returns-clause-word16 c = word16_reads

pub returns-clause-word32 : goal.returns-clause-word32
returns-clause-word32 c = word32_reads

pub returns-clause-trigger : goal.returns-clause-trigger
returns-clause-trigger c = trigger_reads
