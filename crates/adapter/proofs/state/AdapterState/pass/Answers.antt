use Rattle.std.proofs.Common.{◌+◌, sym}
use Rattle.messaging.specs.Lemmas.IdleLemmas.{idle_is_calm}
use Rattle.adapter.proofs.state.AdapterState.pass.Goals as goal

pub advance-requires-clause-none_late : goal.advance-requires-clause-none_late
advance-requires-clause-none_late g c =
    let own = c.self.inside in
    let idle = rw c.from.ensures at (sym c.if-is_idle.ensures) in
    rw (c.has_expired.ensures.same, ← c.self.view_is) (idle_is_calm (record { 0 = own.clock.0 + c.args.ms }) own.messaging c.self.invariant.messages.own.answerable idle).class3_connections
