use Rattle.std.proofs.Common.{ap, sym, ◌∙◌}
use Rattle.cip_datagram.specs.Datagram.{view_datagram}
use Rattle.cip_events.specs.Answers.{is_accepted}
use Rattle.conn_slab.proofs.ReceptionLemmas.{accepted_is, judged_says}
use Rattle.conn_slab.proofs.reception.receive_record.Goals as goal

pub accept-requires-clause-judged : goal.accept-requires-clause-judged
accept-requires-clause-judged c =
    let says = judged_says _ _ _ c.judge-judgement.ensures in
    let passes = ap is_accepted (sym (c.delivery.ensures ∙ says)) ∙ (sym c.is_accepted.ensures ∙ c.if-is_accepted.true) in
    says ∙ accepted_is c.args.profile.now c.args.clock c.args.record.now (view_datagram c.args.datagram.now) passes
