use Rattle.std.proofs.Common.{arith}
use Rattle.flat_answers.specs.Flat.{item}
use Rattle.flat_answers.proofs.Pieces.{seven, four, eight, item_length}
use Rattle.flat_answers.proofs.head.put_item.Goals as goal

pub put_u32-at-requires : goal.put_u32-at-requires
put_u32-at-requires c = omega (arith, item_length c.args.head c.args.bytes.now, c.requires)

pub put_u32-at-requires-2 : goal.put_u32-at-requires-2
put_u32-at-requires-2 c = omega (arith, item_length c.args.head c.args.bytes.now, c.requires, four)

pub put_u32-at-requires-3 : goal.put_u32-at-requires-3
put_u32-at-requires-3 c = omega (arith, item_length c.args.head c.args.bytes.now, c.requires, four)

pub put_u32-at-requires-4 : goal.put_u32-at-requires-4
put_u32-at-requires-4 c = omega (arith, item_length c.args.head c.args.bytes.now, c.requires, four)

pub put_u32-at-requires-5 : goal.put_u32-at-requires-5
put_u32-at-requires-5 c = omega (arith, item_length c.args.head c.args.bytes.now, c.requires, four)

pub put_len-at-requires : goal.put_len-at-requires
put_len-at-requires c = omega (arith, item_length c.args.head c.args.bytes.now, c.requires, four)

pub put_bytes-requires : goal.put_bytes-requires
put_bytes-requires c = omega (arith, item_length c.args.head c.args.bytes.now, c.requires, four, eight)

pub returns : goal.returns
unfolding item
returns c = seven _ _ _ _ _ _ _ _ _ _ _ _ _ _ _ _ _ _ _ _ _ _ _ c.put_u32-at.ensures c.put_u32-at-2.ensures c.put_u32-at-3.ensures c.put_u32-at-4.ensures c.put_u32-at-5.ensures c.put_len-at.ensures c.put_bytes.ensures
