use Rattle.std.proofs.Common.{◌≡◌, true, subst}
use Rattle.station_record.proofs.Growing.{is_noted, notes_entry, says_end}
use Rattle.station_record.specs.Records.{IsRecordedAs, entry_text, left_after}
use Rattle.station_record.proofs.recorder.Recorder.note.Goals as goal

pub returns-clause-noted : goal.returns-clause-noted
returns-clause-noted g c = (
  notes_entry (g.W.RecordSink.contents) (g.W.RecordSink.accepts) c.args.self.now c.record.new.self c.args.event.now c.args.outcome.now c.record.result c.saturating_add-self.result
      (λ is. let yes : c.is_out_of_memory.result ≡ true = c.is_out_of_memory.ensures.1 is in absurd (cc))
      c.saturating_add-self.ensures c.record.ensures.counted c.record.ensures.recorded,
  (
    c.repeats.ensures c.args.outcome.now,
    says_end (g.W.RecordSink.contents) (g.W.RecordSink.accepts) c.args.self.now.left c.args.self.now.out c.record.new.self.out _ c.args.self.now.ended c.record.result c.record.new.self.ended c.record.ensures.recorded c.record.ensures.said,
  ),
)

pub returns-clause-ended : goal.returns-clause-ended
returns-clause-ended g c =
    is_noted (g.W.RecordSink.contents) (g.W.RecordSink.accepts) c.args.self.now c.record.new.self c.args.event.now c.args.outcome.now c.record.result
    (λ is. let yes : c.is_out_of_memory.result ≡ true = c.is_out_of_memory.ensures.1 is in absurd (cc))
    (subst (λ n. IsRecordedAs (g.W.RecordSink.contents) (g.W.RecordSink.accepts) c.args.self.now.left c.args.self.now.out c.record.new.self.out (entry_text n c.args.event.now c.args.outcome.now) c.record.result) c.saturating_add-self.ensures c.record.ensures.recorded)
    c.record.ensures.said
    (subst (λ n. c.record.new.self.left ≡ left_after c.record.new.self.out c.args.self.now.left (entry_text n c.args.event.now c.args.outcome.now)) c.saturating_add-self.ensures c.record.ensures.room)
