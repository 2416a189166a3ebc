use Rattle.std.proofs.Common.{◌≡◌, length, arith}
use Rattle.trace_lines.proofs.Keys.{key_parsed}
use Rattle.trace_lines.proofs.slot_lines.key_of_bytes.Goals as goal

pub returns : goal.returns
returns c =
    let long : length c.args.bytes.now ≡ 8 = omega (arith, c.in-len8.len_at_least, c.in-len8.len_below) in
    key_parsed c.args.bytes.now _ _ _ _ long c.from_le_bytes.ensures c.from_le_bytes-2.ensures c.from_le_bytes-3.ensures
