-- The effect of a tick.
use Rattle.std.proofs.Common.{◌≡◌, ℕ, ◌+◌, List, [], map, Result, Ok, refl, ap, subst, ◌∙◌}
use Rattle.cip_events.specs.declared.event.Answer.{Answer}
use Rattle.cip_events.specs.declared.event.OutgoingDatagram.{OutgoingDatagram}
use Rattle.cip_events.specs.declared.event.StepFault.{StepFault}
use Rattle.cip_types.specs.declared.names.Ms.{Ms}
use Rattle.cip_productions.specs.Productions.{Produced, sent}
use Rattle.scanner_table.specs.declared.table.ScannerTable.{ScannerTable}
use Rattle.cip_events.specs.declared.event.Verdict.TheVariants.{Done}
use Rattle.cip_events.specs.Answers.{plain_answer}
use Rattle.scanner_table.specs.Effects.{Next, Effect, nothing, sent_answer}
use Rattle.scanner_slots.specs.Bounding.{at_time}
use Rattle.scanner_table.specs.Productions.{due_productions, produced_table}
use Rattle.scanner_table.specs.Ticks.{clocked_table, advanced, moved_on, ticked}
use Rattle.scanner_table.specs.Explicit.{explicit_timed_out}
use Rattle.scanner_table.specs.WellFormed.{IsWellFormed}
use Rattle.scanner_transactions.specs.Transactions.{Progress, begun, followed, progress_answer}

-- a transaction with another clock
abbrev pub with_clock : Ms → Progress → Progress
with_clock clock d = record d { table = record d.table { clock = clock } }

pub tick_taken : (t : ScannerTable) (effect : Effect) (d : Progress) (datagrams : List OutgoingDatagram) (answer : Answer) (new : ScannerTable) → d ≡ followed (begun t) effect → datagrams ≡ map sent (due_productions d.table) → answer ≡ progress_answer d datagrams → new ≡ produced_table d.table → ◌≡◌ {A = Result Next StepFault} (Ok (ticked effect)) (Ok (answer, new))
tick_taken t effect d datagrams answer new is sends reported makes = rw (reported, makes, sends, is) refl

-- a transaction that has just begun, after the clock has moved
pub clock_moved : (t : ScannerTable) (ms n : ℕ) (first : Progress) → first ≡ begun t → n ≡ ms → with_clock (record { 0 = t.clock.0 + n }) first ≡ begun (clocked_table t ms)
clock_moved t ms n first begins same =
    ap (with_clock (record { 0 = t.clock.0 + n })) begins ∙ ap (λ (m : ℕ). begun (clocked_table t m)) same

-- the part of a tick before its productions
pub moved_advanced : (t : ScannerTable) (first new : Progress) → first ≡ begun t → new ≡ followed first (moved_on first.table) → new ≡ followed (begun t) (moved_on t)
moved_advanced t first new is made = subst (λ (d : Progress). new ≡ followed d (moved_on d.table)) is made

-- the end of explicit requests keeps a table whole
pub whole_on : (t : ScannerTable) → IsWellFormed (advanced t).table → IsWellFormed (moved_on t).table
unfolding explicit_timed_out
whole_on t whole = record {
  faultless = whole.faultless;
  slots = whole.slots;
  desires = whole.desires;
  ids_differ = whole.ids_differ;
  requests_differ = whole.requests_differ;
  clock = whole.clock;
  ids = whole.ids;
  blocks = whole.blocks;
  ids_begin = whole.ids_begin;
  serial_begins = whole.serial_begins;
  serial_ends = whole.serial_ends;
  requests = whole.requests;
  few_streams = whole.few_streams;
  streams_differ = whole.streams_differ;
}

abbrev as_ok : Next → Result Next StepFault
as_ok next = Ok next

-- a tick by which nothing happens
pub rested : (t : ScannerTable) (clock : Ms) → moved_on (at_time t clock) ≡ nothing (at_time t clock) → due_productions (at_time t clock) ≡ [] → produced_table (at_time t clock) ≡ at_time t clock → ◌≡◌ {A = Result Next StepFault} (Ok (ticked (moved_on (at_time t clock)))) (Ok (plain_answer Done, at_time t clock))
rested t clock rests none same = ap (λ (e : Effect). as_ok (ticked e)) rests ∙ both (due_productions (at_time t clock)) (produced_table (at_time t clock)) none same where
  both : (due : List Produced) (made : ScannerTable) → due ≡ [] → made ≡ at_time t clock → ◌≡◌ {A = Result Next StepFault} (Ok (sent_answer (nothing (at_time t clock)) (map sent due), made)) (Ok (plain_answer Done, at_time t clock))
  both due made none same = rw (none, same) refl
