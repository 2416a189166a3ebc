use Rattle.std.proofs.Common.{◌+◌, ◌∙◌, ap, drop}
use Rattle.std.proofs.lemmas.List.{drop-drop}
use Rattle.eip_line.proofs.socket_loop.line.LoopLine.turns.Goals as goal

pub loop-preserved : goal.loop-preserved
loop-preserved g c = record {
  made = ap (λ n. n + 1) c.loop.invariant.made;
  adapter = λ scripted. c.in_ok-turn.ensures.adapter scripted ∙ ap (drop 1) (c.loop.invariant.adapter scripted) ∙ drop-drop 1 c.loop.counter _;
  scanner = λ scripted. c.in_ok-turn.ensures.scanner scripted ∙ ap (drop 1) (c.loop.invariant.scanner scripted) ∙ drop-drop 1 c.loop.counter _;
}
