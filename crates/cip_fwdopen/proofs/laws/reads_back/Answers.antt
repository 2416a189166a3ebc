use Rattle.cip_fwdopen.proofs.OpenLaws.{open_text_reads}
use Rattle.cip_fwdopen.proofs.WrittenLaws.{opened_text_reads, refused_text_reads}
use Rattle.cip_fwdopen.proofs.CloseReplyLaws.{refused_close_reads, closed_text_reads}
use Rattle.cip_fwdopen.proofs.GetLaws.{refused_get_reads, get_reads, got_text_reads}
use Rattle.cip_fwdopen.proofs.CloseLaws.{close_text_reads}
use Rattle.cip_fwdopen.proofs.laws.reads_back.Goals as goal

pub returns-clause-forward_open : goal.returns-clause-forward_open
returns-clause-forward_open c = open_text_reads

pub returns-clause-opened : goal.returns-clause-opened
returns-clause-opened c = opened_text_reads

pub returns-clause-refused : goal.returns-clause-refused
returns-clause-refused c = refused_text_reads

pub returns-clause-refused_close : goal.returns-clause-refused_close
returns-clause-refused_close c = refused_close_reads

pub returns-clause-refused_get : goal.returns-clause-refused_get
returns-clause-refused_get c = refused_get_reads

pub returns-clause-forward_close : goal.returns-clause-forward_close
returns-clause-forward_close c = close_text_reads

pub returns-clause-closed : goal.returns-clause-closed
returns-clause-closed c = closed_text_reads

pub returns-clause-get : goal.returns-clause-get
returns-clause-get c = get_reads

pub returns-clause-got : goal.returns-clause-got
returns-clause-got c = got_text_reads
