use Rattle.std.proofs.Common.{rules, ◌≡◌, find, Some, None, Result, Ok, sym, subst}
use Rattle.cip_encap.specs.Message.{view_message}
use Rattle.cip_encap.specs.Reading.{message_reading}
use Rattle.cip_events.specs.Outcomes.{Follows}
use Rattle.cip_events.specs.declared.event.StepFault.{StepFault}
use Rattle.scanner_table.specs.Effects.{Next}
use Rattle.scanner_table.specs.Explicit.{awaits}
use Rattle.scanner_table.specs.Sessions.{is_stream}
use Rattle.scanner.specs.Tables.{table_in}
use Rattle.scanner.proofs.Doing.{frame_read}
use Rattle.scanner.proofs.slots.ScannerSlots.frame.Goals as goal

pub returns-in-None-clause-step : goal.returns-in-None-clause-step
returns-in-None-clause-step g c =
    let t = table_in c.args.self.now in
    let m = view_message c.in-Ok.message in
    let stream = c.in-Some.stream in
    let found : Some c.in-Some.stream ≡ find (is_stream c.args.number) c.args.self.now.state.streams.items = rw (← c.deref.ensures.value) c.in-Some.ensures in
    let read : message_reading c.args.bytes.now ≡ Ok (view_message c.in-Ok.message) = search rules in
    let waits : None ≡ find (awaits c.in-Some.stream.number c.in-Ok.message.context) c.args.self.now.state.explicit.items = rw (← c.deref-2.ensures.value) c.in-None.ensures in
    subst (λ (said : Result Next StepFault). Follows said (table_in c.args.self.now) c.take_message.result (table_in c.take_message.new.self)) (sym (frame_read t c.args.number c.args.bytes.now stream m None (sym found) read (sym waits))) c.take_message.ensures.step
