use Rattle.std.proofs.Common.{◌∙◌, arith}
use Rattle.std.proofs.lemmas.List.{drop_all, drop_more}
use Rattle.station.proofs.SessionEnds.{all_ended, none_ended, one_ended, so_far}
use Rattle.station.proofs.serving.Station.end_sessions.Goals as goal

pub loop-session-init : goal.loop-session-init
loop-session-init g c = none_ended (g.P.Port.is_scripted) (g.P.Port.tape) (g.P.Port.failed) _ _

pub loop-session-preserved : goal.loop-session-preserved
loop-session-preserved g c = one_ended (g.P.Port.is_scripted) (g.P.Port.tape) (g.P.Port.failed) _ _ _ _ _ _ _ (drop_more c.args.sessions.now c.loop-session.session-index _ (omega arith)) c.loop-session.invariant c.in_ok-end_session.ensures.unstepped c.in_ok-end_session.ensures.ended

pub returns-in_err-end_session-clause-unstepped : goal.returns-in_err-end_session-clause-unstepped
returns-in_err-end_session-clause-unstepped g c = record {
  recorder = c.end_session.ensures.unstepped.recorder ∙ c.loop-session.invariant.recorder;
  reset = c.end_session.ensures.unstepped.reset ∙ c.loop-session.invariant.reset;
  device = c.end_session.ensures.unstepped.device ∙ c.loop-session.invariant.device;
}

pub returns-clause-unstepped : goal.returns-clause-unstepped
returns-clause-unstepped g c = so_far (g.P.Port.is_scripted) (g.P.Port.tape) (g.P.Port.failed) _ _ _ _ c.loop-session.invariant

pub returns-clause-ended : goal.returns-clause-ended
returns-clause-ended g c = all_ended (g.P.Port.is_scripted) (g.P.Port.tape) (g.P.Port.failed) _ _ _ _ (drop_all c.loop-session.session-index c.args.sessions.now (omega arith)) c.loop-session.invariant
