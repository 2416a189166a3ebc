-- Events that a table answers by a verdict and notices alone, if it takes them: streams that open or end, datagrams, further ids,
-- and all that leave the table as it is.
use Rattle.std.proofs.Common.{◌≡◌, ◌==◌, ℕ, Bool, true, false, length, List, [], find, Option, Some, None, Result, Ok, Err, refl}
use Rattle.std.proofs.lemmas.Bool.{cond_both}
use Rattle.base_lemmas.specs.Booleans.{either}
use Rattle.cip_types.specs.declared.names.Node.{Node}
use Rattle.cip_types.specs.Ids.{may_take}
use Rattle.cip_types.specs.declared.ids.IdBlock.{IdBlock}
use Rattle.cip_datagram.specs.declared.datagram.DatagramFault.{DatagramFault}
use Rattle.cip_datagram.specs.Datagram.{DatagramFields}
use Rattle.cip_datagram.specs.Reading.{datagram_reading}
use Rattle.cip_events.specs.declared.event.Delivery.TheVariants.{UnknownId, Malformed}
use Rattle.cip_events.specs.declared.event.Event.{Event}
use Rattle.cip_events.specs.declared.event.Event.TheVariants.{Request, StreamOpened, Frame, StreamCut, Datagram, Inquiry, Write, Tick, Respond, Counters, Ids}
use Rattle.cip_events.specs.declared.event.Notice.{Notice}
use Rattle.cip_events.specs.declared.event.StepFault.{StepFault}
use Rattle.cip_events.specs.declared.event.StepFault.TheVariants.{NotAllowedNow, WrongLength}
use Rattle.cip_events.specs.declared.event.Verdict.{Verdict}
use Rattle.cip_events.specs.declared.event.Verdict.TheVariants.{Delivered, Done}
use Rattle.cip_events.specs.Answers.{plain_answer, is_accepted}
use Rattle.adapter_table.specs.Connections.{Row}
use Rattle.adapter_table.specs.declared.table.AdapterTable.{AdapterTable}
use Rattle.adapter_table.specs.declared.table.Stream.{Stream}
use Rattle.adapter_table.specs.Requests.{Next}
use Rattle.adapter_table.specs.Streams.{is_stream, is_taken, with_stream, without_stream, ended_notices, stream_opened, cut_of, stream_cut}
use Rattle.adapter_table.specs.Datagrams.{is_for, row_delivery, accepted_table, delivered, found_datagram, datagram_of, received}
use Rattle.adapter_table.specs.declared.profile.Description.{Description}
use Rattle.adapter_table.specs.Counters.{link_len}
use Rattle.adapter_table.specs.Counting.{counted_link}
use Rattle.adapter_table.specs.Step.{adapter_step, counters_said, counters_with, taken_table, take_ids}
use Rattle.adapter_table.specs.Lemmas.PassiveLemmas.{passive_holds}

-- what holds of each table with each verdict and notices alone
abbrev pub HoldsPlainly : (Next → Type 0) → Type 0
HoldsPlainly P = (verdict : Verdict) (notices : List Notice) (u : AdapterTable) → P (record (plain_answer verdict) { notices = notices }, u)

cut_plain : (Q : Result Next StepFault → Type 0) (t : AdapterTable) → ((why : StepFault) → Q (Err why)) → HoldsPlainly (λ next. Q (Ok next)) → (found : Option Stream) → Q (cut_of t found)
cut_plain Q t refused holds None = refused NotAllowedNow
cut_plain Q t refused holds (Some stream) = holds Done (ended_notices t stream.number) (without_stream t stream.number)

found_plain : (P : Next → Type 0) (t : AdapterTable) → HoldsPlainly P → (peer : Node) (d : DatagramFields) (found : Option Row) → P (found_datagram t peer d found)
found_plain P t holds peer d None = holds (Delivered UnknownId) [] t
found_plain P t holds peer d (Some row) =
    let delivery = row_delivery t.profile t.clock row d in
    either P (is_accepted (row_delivery t.profile t.clock row d)) (delivered delivery (accepted_table t peer d row delivery)) (delivered delivery t)
    (holds (Delivered delivery) [] (accepted_table t peer d row delivery)) (holds (Delivered delivery) [] t)

datagram_plain : (P : Next → Type 0) (t : AdapterTable) → HoldsPlainly P → (peer : Node) (reading : Result DatagramFields DatagramFault) → P (datagram_of t peer reading)
datagram_plain P t holds peer (Err why) = holds (Delivered Malformed) [] t
datagram_plain P t holds peer (Ok d) = found_plain P t holds peer d (find (is_for peer d.connection) t.rows)

counters_by : (Q : Result Next StepFault → Type 0) (t : AdapterTable) (bytes : List ℕ) → ((why : StepFault) → Q (Err why)) → Q (Ok (plain_answer Done, counted_link t bytes)) → (described : Option Description) (long : Bool) → Q (counters_with t bytes described long)
counters_by Q t bytes refused holds None long = refused NotAllowedNow
counters_by Q t bytes refused holds (Some d) true = holds
counters_by Q t bytes refused holds (Some d) false = refused WrongLength

-- what holds of each fault, and of the table with these counters of the host and no more than a verdict, holds after that event
pub counters_hold : (Q : Result Next StepFault → Type 0) (t : AdapterTable) (bytes : List ℕ) → ((why : StepFault) → Q (Err why)) → Q (Ok (plain_answer Done, counted_link t bytes)) → Q (adapter_step t (Counters bytes))
unfolding counters_said
counters_hold Q t bytes refused holds = counters_by Q t bytes refused holds t.profile.description (length bytes == link_len)

-- what holds of each fault, and of the table with the further block of ids and no more than a verdict, holds after that event
pub ids_hold : (Q : Result Next StepFault → Type 0) (t : AdapterTable) (block : IdBlock) → ((why : StepFault) → Q (Err why)) → (may_take t.ids block ≡ true → Q (Ok (plain_answer Done, taken_table t block))) → Q (adapter_step t (Ids block))
unfolding take_ids
ids_hold Q t block refused holds = cond_both (may_take t.ids block) (Ok (plain_answer Done, taken_table t block)) (Err NotAllowedNow) Q holds (λ full. refused NotAllowedNow)

-- the event can be answered by frames or datagrams
abbrev pub answers_more : Event → Bool
answers_more (Request peer bytes) = true
answers_more (Frame stream bytes) = true
answers_more (Inquiry peer bytes) = true
answers_more (Write point bytes) = true
answers_more (Tick ms) = true
answers_more (Respond number status bytes) = true
answers_more other = false

pub plain_holds : (Q : Result Next StepFault → Type 0) (t : AdapterTable) → ((why : StepFault) → Q (Err why)) → HoldsPlainly (λ next. Q (Ok next)) → (event : Event) → answers_more event ≡ false → Q (adapter_step t event)
unfolding received stream_opened stream_cut
plain_holds Q t refused holds (Request peer bytes) more = absurd (let e = more in cc)
plain_holds Q t refused holds (StreamOpened number peer) more =
    either Q (is_taken t.streams number) (Err NotAllowedNow) (Ok (plain_answer Done, with_stream t number peer)) (refused NotAllowedNow) (holds Done [] (with_stream t number peer))
plain_holds Q t refused holds (Frame stream bytes) more = absurd (let e = more in cc)
plain_holds Q t refused holds (StreamCut number) more = cut_plain Q t refused holds (find (is_stream number) t.streams)
plain_holds Q t refused holds (Datagram peer bytes) more = datagram_plain (λ next. Q (Ok next)) t holds peer (datagram_reading bytes)
plain_holds Q t refused holds (Inquiry peer bytes) more = absurd (let e = more in cc)
plain_holds Q t refused holds (Write point bytes) more = absurd (let e = more in cc)
plain_holds Q t refused holds (Tick ms) more = absurd (let e = more in cc)
plain_holds Q t refused holds (Respond number status bytes) more = absurd (let e = more in cc)
plain_holds Q t refused holds (Counters bytes) more = counters_hold Q t bytes refused (holds Done [] (counted_link t bytes))
plain_holds Q t refused holds (Ids block) more = ids_hold Q t block refused (λ may. holds Done [] (taken_table t block))
plain_holds Q t refused holds other more = passive_holds Q t refused (λ verdict. holds verdict [] t) other refl
