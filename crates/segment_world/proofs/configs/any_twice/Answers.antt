use Rattle.std.proofs.Common.{◌≡◌, ◌==◌, ◌+◌, drop}
use Rattle.std.specs.List.{list_any}
use Rattle.segment_world.specs.Configs.{key_in}
use Rattle.segment_world.proofs.Listing.{twice_here, twice_later, twice_nowhere}
use Rattle.segment_world.proofs.configs.any_twice.Goals as goal

pub returns-then-has_key : goal.returns-then-has_key
returns-then-has_key c =
    let found : c.has_key.result ≡ list_any (λ other. key_in c.args.key other == c.key_of.result) (drop (c.loop-index.index + 1) c.args.configs.now) = rw c.later.ensures at c.has_key.ensures in
    twice_here c.args.key c.args.configs.now c.loop-index.index c.index-configs-index.result c.key_of.result c.has_key.result c.loop-index-test.true c.index-configs-index.is c.key_of.ensures found c.loop-index.invariant c.if-has_key.true

pub loop-index-preserved : goal.loop-index-preserved
loop-index-preserved c =
    let found : c.has_key.result ≡ list_any (λ other. key_in c.args.key other == c.key_of.result) (drop (c.loop-index.index + 1) c.args.configs.now) = rw c.later.ensures at c.has_key.ensures in
    twice_later c.args.key c.args.configs.now c.loop-index.index c.index-configs-index.result c.key_of.result c.has_key.result c.loop-index-test.true c.index-configs-index.is c.key_of.ensures found c.loop-index.invariant c.if-has_key.false

pub returns : goal.returns
returns c = twice_nowhere c.args.key c.args.configs.now c.loop-index.index c.loop-index-test.false c.loop-index.invariant
