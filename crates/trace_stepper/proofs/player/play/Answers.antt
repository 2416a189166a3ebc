use Rattle.std.proofs.lemmas.Result.{err_from_is_err_and}
use Rattle.trace_stepper.proofs.Plays.{play_begun, play_broken, played_on, place_left, put_alone}
use Rattle.trace_stepper.proofs.player.play.Goals as goal

pub loop-text-init : goal.loop-text-init
loop-text-init g c = play_begun _ _ _ _ c.in_ok-stepper.ensures.table c.in_ok-stepper.ensures.events

pub place_after-number-requires : goal.place_after-number-requires
place_after-number-requires g c = place_left _ _ _ _ _ _ _ _ _ _ c.loop-text.invariant (rw c.in-Some.is at c.in_ok-outcome.ensures)

pub judge-differs-requires : goal.judge-differs-requires
judge-differs-requires g c = place_left _ _ _ _ _ _ _ _ _ _ c.loop-text.invariant (rw c.in-Some.is at c.in_ok-outcome.ensures)

pub loop-text-preserved-in_ok-write_text : goal.loop-text-preserved-in_ok-write_text
loop-text-preserved-in_ok-write_text g c = played_on _ _ _ _ _ _ _ _ _ _ _ _ _ _ c.loop-text.invariant (rw c.in-Some.is at c.in_ok-outcome.ensures) c.place_after-number.ensures (put_alone _ _ _ _ c.as_bytes.ensures.value c.in_ok-push_outcome.ensures c.clear.ensures.bytes) c.in_ok-write_text.ensures c.judge-differs.ensures

pub loop-text-preserved : goal.loop-text-preserved
loop-text-preserved g c = played_on _ _ _ _ _ _ _ _ _ _ _ _ _ _ c.loop-text.invariant (rw c.in-Some.is at c.in_ok-outcome.ensures) c.place_after-number.ensures (put_alone _ _ _ _ c.as_bytes.ensures.value c.in_ok-push_outcome.ensures c.clear.ensures.bytes) c.in_ok-write_text.ensures c.judge-differs.ensures

pub returns-in_err-write_text : goal.returns-in_err-write_text
returns-in_err-write_text g c =
    let p = err_from_is_err_and c.from_residual-in_err-write_text.result c.from_residual-in_err-write_text.ensures.1 in
    rw (p.1, p.2) (play_broken _ _ _ _ _ _ _ _ _ _ _ _ _ c.loop-text.invariant (rw c.in-Some.is at c.in_ok-outcome.ensures) c.place_after-number.ensures (put_alone _ _ _ _ c.as_bytes.ensures.value c.in_ok-push_outcome.ensures c.clear.ensures.bytes) c.in_err-write_text.ensures)
