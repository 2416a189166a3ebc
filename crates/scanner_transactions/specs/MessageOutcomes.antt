-- The outcome of a message.
use Rattle.std.specs.Prelude.{◌≡◌, [], Result}
use Rattle.std.specs.Result.{IfOk}
use Rattle.cip_types.specs.declared.memory.OutOfMemory as memory
use Rattle.cip_events.specs.declared.event.Verdict.TheVariants as verdict
use Rattle.cip_events.specs.Answers.{plain_answer}
use Rattle.scanner_table.specs.declared.table.ScannerTable.{ScannerTable}
use Rattle.scanner_table.specs.Effects.{Next}
use Rattle.scanner_transactions.specs.Transactions.{Progress, progress_answer, view_transaction}
use Rattle.scanner_transactions.specs.Undoing.{GoesOn}
use Rattle.scanner_transactions.specs.declared.transaction.Transaction.{Transaction}
use Rattle.scanner_transactions.specs.declared.messages.MessageOutcome.{MessageOutcome}
use Rattle.scanner_transactions.specs.declared.messages.MessageOutcome.TheVariants.{Ignored, Answered}

-- the answer with the requests and notices, and the next table
abbrev pub progress_next : Progress → Next
progress_next so_far = (progress_answer so_far [], so_far.table)

-- The answer to a message, and the next table: the present table if nothing waited for the message, and otherwise that of the
-- transaction.
abbrev pub message_next : ScannerTable → MessageOutcome → Progress → Next
message_next t Ignored so_far = (plain_answer verdict.Ignored, t)
message_next t Answered so_far = progress_next so_far

-- A message within a transaction that has just begun: it has this answer and next table, or finds no memory. The transaction goes
-- on in both cases.
pub record Takes (answer : ScannerTable → Next) (old : Transaction) (result : Result MessageOutcome memory.OutOfMemory) (new : Transaction) : Type 0 where
  pub effect : IfOk result (λ outcome. message_next (view_transaction old).table outcome (view_transaction new) ≡ answer (view_transaction old).table)
  pub kept : GoesOn old new
