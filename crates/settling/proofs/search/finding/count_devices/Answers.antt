use Rattle.std.proofs.Common.{◌<◌, ◌≤◌, ℕ, slice_index, length, arith, rules, Fits, w8, below_more}
use Rattle.settling.specs.Search.Histories.{bytes_of}
use Rattle.settling.proofs.Counting.{byte_here, few_devices}
use Rattle.settling.proofs.search.finding.count_devices.Goals as goal

pub loop-history-preserved : goal.loop-history-preserved
loop-history-preserved c =
    let hs = c.args.histories.now in
    let fits : Fits w8 c.byte_of-byte.result = search rules in
    let here = byte_here hs c.loop-history.history-index c.history-item.result c.loop-history-test.true c.history-item.is in
    below_more (λ (i : ℕ). slice_index (bytes_of hs) i < 256) c.loop-history.history-index c.loop-history.invariant (omega (arith, fits, here, c.byte_of-byte.ensures))

pub in_32_bits-requires : goal.in_32_bits-requires
in_32_bits-requires c =
    let few : length c.args.histories.now ≤ 256 = few_devices c.args.histories.now c.requires.valid (λ i lt. c.loop-history.invariant i (omega (arith, lt, c.loop-history-test.false))) in
    omega (arith, few)
