use Rattle.std.proofs.Common.{◌≡◌, ◌==◌, ◌&&◌, ◌||◌, not, false, sym, ◌∙◌}
use Rattle.segment_world.proofs.Cutting.{stream_stays}
use Rattle.segment_world.proofs.lives.severing.sever_at.Goals as goal

pub returns-then-not-is_open_at : goal.returns-then-not-is_open_at
returns-then-not-is_open_at g c =
    let ends = c.in-Some.ends in
    let other : (not ends.ended && (ends.from == c.args.life || ends.to == c.args.life)) ≡ false = sym c.is_open_at.ensures ∙ c.if-not-is_open_at.true in
    stream_stays c.args.life c.args.number c.args.world.now ends c.in-Some.ensures other
