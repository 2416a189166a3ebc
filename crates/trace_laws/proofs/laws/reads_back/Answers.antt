use Rattle.trace_laws.proofs.NodeLaws.{nodes_back}
use Rattle.trace_laws.proofs.TraceLaws.{trace_back, scanner_trace_back}
use Rattle.trace_laws.proofs.WordLaws.{number_back, node_back, bytes_back, id_back, general_back, extended_back, action_back}
use Rattle.trace_laws.proofs.laws.reads_back.Goals as goal

pub returns-clause-numbers : goal.returns-clause-numbers
returns-clause-numbers c = number_back

pub returns-clause-nodes : goal.returns-clause-nodes
returns-clause-nodes c = node_back

pub returns-clause-bytes : goal.returns-clause-bytes
returns-clause-bytes c = bytes_back

pub returns-clause-ids : goal.returns-clause-ids
returns-clause-ids c = id_back

pub returns-clause-general : goal.returns-clause-general
returns-clause-general c = general_back

pub returns-clause-extended : goal.returns-clause-extended
returns-clause-extended c = extended_back

pub returns-clause-actions : goal.returns-clause-actions
returns-clause-actions c = action_back

pub returns-clause-node_lists : goal.returns-clause-node_lists
returns-clause-node_lists c = nodes_back

pub returns-clause-trace : goal.returns-clause-trace
returns-clause-trace c = trace_back

pub returns-clause-scanner_trace : goal.returns-clause-scanner_trace
returns-clause-scanner_trace c = scanner_trace_back
